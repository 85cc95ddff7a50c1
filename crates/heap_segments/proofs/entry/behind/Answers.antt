use Rattle.std.proofs.Common.{◌<◌, ◌-◌, length, sym, arith}
use Rattle.spur_graph.specs.ImageFile.{header_bytes}
use Rattle.heap_segments.specs.Entries.{IsNear, entry_at}
use Rattle.heap_segments.proofs.Laid.{IsLast, last_from, near, no_entries, is_empty_list, is_some_list}
use Rattle.heap_segments.proofs.entry.behind.Goals as goal

pub returns-then-is_empty-clause-place : goal.returns-then-is_empty-clause-place
returns-then-is_empty-clause-place c = sym (no_entries c.args.entries.now (is_empty_list _ c.is_empty.result c.is_empty.ensures c.if-is_empty.true)).0

pub returns-then-is_empty-clause-words : goal.returns-then-is_empty-clause-words
returns-then-is_empty-clause-words c = sym (no_entries c.args.entries.now (is_empty_list _ c.is_empty.result c.is_empty.ensures c.if-is_empty.true)).1

pub overflow_add-result : goal.overflow_add-result
overflow_add-result c =
    let some : 0 < length c.args.entries.now = is_some_list _ c.is_empty.result c.is_empty.ensures c.if-is_empty.false in
    let is : IsNear (entry_at c.args.entries.now (length c.args.entries.now - 1)) = near c.args.entries.now (length c.args.entries.now - 1) c.requires (omega arith) in
    omega (arith, is.place, is.low)

pub words-requires : goal.words-requires
words-requires c =
    let some : 0 < length c.args.entries.now = is_some_list _ c.is_empty.result c.is_empty.ensures c.if-is_empty.false in
    near c.args.entries.now (length c.args.entries.now - 1) c.requires (omega arith)

pub overflow_add-result-2 : goal.overflow_add-result-2
overflow_add-result-2 c =
    let some : 0 < length c.args.entries.now = is_some_list _ c.is_empty.result c.is_empty.ensures c.if-is_empty.false in
    let is : IsNear (entry_at c.args.entries.now (length c.args.entries.now - 1)) = near c.args.entries.now (length c.args.entries.now - 1) c.requires (omega arith) in
    omega (arith, is.words, is.low, c.words.ensures)

pub returns-clause-place : goal.returns-clause-place
returns-clause-place c =
    let some : 0 < length c.args.entries.now = is_some_list _ c.is_empty.result c.is_empty.ensures c.if-is_empty.false in
    sym (last_from header_bytes 0 0 c.args.entries.now (length c.args.entries.now - 1) c.requires.laid (omega arith)).place

pub returns-clause-words : goal.returns-clause-words
returns-clause-words c =
    let some : 0 < length c.args.entries.now = is_some_list _ c.is_empty.result c.is_empty.ensures c.if-is_empty.false in
    let is : IsLast header_bytes 0 c.args.entries.now (entry_at c.args.entries.now (length c.args.entries.now - 1)) =
    last_from header_bytes 0 0 c.args.entries.now (length c.args.entries.now - 1) c.requires.laid (omega arith) in
    omega (arith, is.words, c.words.ensures)
