use Rattle.std.proofs.Common.{List, leb, arith, rules}
use Rattle.std.proofs.lemmas.List.Sorted.{IsPartitionPoint-from_clause, IsPartitionedBy-leb}
use Rattle.spur_graph.specs.ImageFile.{header_bytes}
use Rattle.heap_segments.specs.declared.entry.Entry.{Entry}
use Rattle.heap_segments.proofs.Laid.{by_begin}
use Rattle.heap_segments.proofs.Searches.{before_end, some_begin}
use Rattle.heap_segments.proofs.entry.by_word.Goals as goal

pub overflow_sub-result : goal.overflow_sub-result
overflow_sub-result c =
    let es : List Entry = c.args.entries.now in
    let parted = IsPartitionedBy-leb (λ (e : Entry). e.begin) es c.args.word (by_begin header_bytes 0 0 es c.requires.laid.laid) in
    let end = IsPartitionPoint-from_clause (λ (e : Entry). leb e.begin c.args.word) es c.partition_point-behind.result c.partition_point-behind.ensures.partitioned parted (λ a r q k. search rules) in
    omega (arith, some_begin es c.args.word c.partition_point-behind.result c.requires.laid c.requires.some end)

pub returns : goal.returns
returns c =
    let es : List Entry = c.args.entries.now in
    let parted = IsPartitionedBy-leb (λ (e : Entry). e.begin) es c.args.word (by_begin header_bytes 0 0 es c.requires.laid.laid) in
    let end = IsPartitionPoint-from_clause (λ (e : Entry). leb e.begin c.args.word) es c.partition_point-behind.result c.partition_point-behind.ensures.partitioned parted (λ a r q k. search rules) in
    before_end (λ (e : Entry). e.begin) es c.args.word c.partition_point-behind.result end (some_begin es c.args.word c.partition_point-behind.result c.requires.laid c.requires.some end) c.partition_point-behind.ensures.bound
