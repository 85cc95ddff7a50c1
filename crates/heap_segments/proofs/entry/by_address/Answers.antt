use Rattle.std.proofs.Common.{◌≤◌, ◌<◌, ℕ, ◌-◌, List, length, Option, Some, None, leb, subst, arith, rules}
use Rattle.std.specs.Option.{IfSome, IfNone, SomeIff}
use Rattle.std.proofs.lemmas.List.Sorted.{IsPartitionPoint-from_clause, IsPartitionedBy-leb}
use Rattle.spur_graph.specs.ImageFile.{header_bytes}
use Rattle.heap_segments.specs.declared.entry.Entry.{Entry}
use Rattle.heap_segments.specs.Entries.{IsLastUpTo, entry_at}
use Rattle.heap_segments.proofs.Laid.{by_address}
use Rattle.heap_segments.proofs.Searches.{IsEnd, before_end, behind_end}
use Rattle.heap_segments.proofs.entry.by_address.Goals as goal

found : (es : List Entry) (a i : ℕ) (o : Option ℕ) → SomeIff o (1 ≤ i) (i - 1) → IsEnd (λ (e : Entry). e.address) es a i → i ≤ length es → IfSome o (IsLastUpTo (λ e. e.address) es a)
found es a i None is end bound = tt
found es a i (Some j) is end bound =
    subst (λ (k : ℕ). IsLastUpTo (λ e. e.address) es a k) (omega arith) (before_end (λ (e : Entry). e.address) es a i end (omega arith) bound)

none : (es : List Entry) (a i : ℕ) (o : Option ℕ) → SomeIff o (1 ≤ i) (i - 1) → IsEnd (λ (e : Entry). e.address) es a i → IfNone o ((k : ℕ) → k < length es → a < (entry_at es k).address)
none es a i (Some j) is end = tt
none es a i None is end = λ k lt. behind_end (λ (e : Entry). e.address) es a i end k (omega arith) lt

pub returns-clause-found : goal.returns-clause-found
returns-clause-found c =
    let es : List Entry = c.args.entries.now in
    let parted = IsPartitionedBy-leb (λ (e : Entry). e.address) es c.args.address (by_address header_bytes 0 0 es c.requires.laid) in
    let end = IsPartitionPoint-from_clause (λ (e : Entry). leb e.address c.args.address) es c.partition_point-behind.result c.partition_point-behind.ensures.partitioned parted (λ a r q k. search rules) in
    found es c.args.address c.partition_point-behind.result c.checked_sub.result c.checked_sub.ensures end c.partition_point-behind.ensures.bound

pub returns-clause-none : goal.returns-clause-none
returns-clause-none c =
    let es : List Entry = c.args.entries.now in
    let parted = IsPartitionedBy-leb (λ (e : Entry). e.address) es c.args.address (by_address header_bytes 0 0 es c.requires.laid) in
    let end = IsPartitionPoint-from_clause (λ (e : Entry). leb e.address c.args.address) es c.partition_point-behind.result c.partition_point-behind.ensures.partitioned parted (λ a r q k. search rules) in
    none es c.args.address c.partition_point-behind.result c.checked_sub.result c.checked_sub.ensures end
