use Rattle.std.proofs.Common.{◌≡◌, ◌≤◌, ℕ, ◌+◌, ◌-◌, List, sym, ap, ◌∙◌, arith}
use Rattle.spur_graph.specs.ImageFile.{header_bytes}
use Rattle.spur_graph.specs.Segments.{offset_in, word_count}
use Rattle.heap_segments.specs.declared.entry.Entry.{Entry}
use Rattle.heap_segments.specs.Entries.{segment_of, segments_of, entry_at}
use Rattle.heap_segments.proofs.Laid.{near, found_offset, found_within}
use Rattle.heap_segments.proofs.entry.offset_of.Goals as goal

pub offset-requires-clause-near : goal.offset-requires-clause-near
offset-requires-clause-near c = near c.args.entries.now c.by_word-i.result c.requires.laid c.by_word-i.ensures.within

pub offset-requires-clause-within : goal.offset-requires-clause-within
offset-requires-clause-within c =
    let es : List Entry = c.args.entries.now in
    let i : ℕ = c.by_word-i.result in
    let within : c.args.word ≤ (entry_at es i).begin + word_count (segment_of (entry_at es i)) =
    found_within header_bytes 0 0 es c.args.word i c.requires.laid.laid c.by_word-i.ensures.within (omega (arith, c.requires.within)) c.by_word-i.ensures.high in
    omega (arith, within)

pub returns : goal.returns
returns c =
    let es : List Entry = c.args.entries.now in
    let same : c.args.word - 0 ≡ c.args.word = omega arith in
    c.offset.ensures
    ∙ (sym (found_offset header_bytes 0 0 es c.args.word c.by_word-i.result c.requires.laid.laid c.by_word-i.ensures.within c.by_word-i.ensures.low c.by_word-i.ensures.high)
    ∙ ap (offset_in (segments_of es)) same)
