use Rattle.std.proofs.Common.{◌<◌, ◌-◌, length, sym, ◌∙◌, arith}
use Rattle.spur_graph.specs.ImageFile.{header_bytes}
use Rattle.heap_segments.proofs.Laid.{near, no_word, found_entry, is_empty_list, is_some_list}
use Rattle.heap_segments.proofs.entry.word_at.Goals as goal

pub returns-then-is_empty : goal.returns-then-is_empty
returns-then-is_empty c = sym (no_word c.args.entries.now c.args.address (is_empty_list _ c.is_empty.result c.is_empty.ensures c.if-is_empty.true))

pub word-requires : goal.word-requires
word-requires c =
    let some : 0 < length c.args.entries.now = is_some_list _ c.is_empty.result c.is_empty.ensures c.if-is_empty.false in
    near c.args.entries.now (length c.args.entries.now - 1) c.requires (omega arith)

pub returns : goal.returns
returns c =
    let some : 0 < length c.args.entries.now = is_some_list _ c.is_empty.result c.is_empty.ensures c.if-is_empty.false in
    c.word.ensures
    ∙ sym (found_entry header_bytes 0 0 c.args.entries.now c.args.address (length c.args.entries.now - 1) c.requires.laid (omega arith) (omega arith) (λ k low lt. absurd (omega (arith, low, lt))))
