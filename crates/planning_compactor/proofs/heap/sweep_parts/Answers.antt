use Rattle.std.proofs.Common.{◌≡◌, ◌<◌, ◌≤◌, ◌+◌, ℕ, List, length, sym, ap, ◌∙◌, subst, arith}
use Rattle.std.specs.List.{filter}
use Rattle.heap_walk.specs.Starts.{has_start}
use Rattle.spur_graph.specs.Heaps.{is_marked, store_of}
use Rattle.spur_graph.specs.Ordinary.{ordinary_starts}
use Rattle.spur_heap.specs.Parts.{view_of}
use Rattle.planning_compactor.specs.Planning.{marks}
use Rattle.planning_compactor.specs.Ranges.{is_lost}
use Rattle.planning_compactor.proofs.HeapSwept.{lists-there, lost-count, start-below, swept-map}
use Rattle.planning_compactor.proofs.heap.sweep_parts.Goals as goal

pub sweep-lost-requires-clause-stands : goal.sweep-lost-requires-clause-stands
sweep-lost-requires-clause-stands c = λ s on. subst (λ ws. s < length ws) (sym c.as_slice.ensures) (start-below c.requires.heap c.requires.tight s on)

pub overflow_sub-parts : goal.overflow_sub-parts
overflow_sub-parts c =
    let has : ℕ → _ = has_start c.args.parts.now.starts in
    let same : length (marks (is_lost has c.as_slice.result.now) c.as_slice.result.now 0 (length c.as_slice.result.now)) ≡ length (marks (is_lost has c.args.parts.now.region) c.args.parts.now.region 0 (length c.args.parts.now.region)) =
    ap (λ ws. length (marks (is_lost has ws) ws 0 (length ws))) c.as_slice.ensures in
    let all = lost-count c.requires.heap c.requires.tight in
    omega (arith, all, same, c.sweep-lost.ensures.lost, c.requires.heap.objects.count)

pub unset-requires : goal.unset-requires
unset-requires c =
    let l = start-below c.requires.heap c.requires.tight _ (lists-there c.requires.heap c.requires.tight) in
    omega (arith, l, c.requires.lists, c.sweep-lost.ensures.covers, c.requires.heap.map.covers)

pub returns-clause-starts : goal.returns-clause-starts
returns-clause-starts c =
    let e = c.sweep-lost.ensures in
    swept-map c.requires.heap c.requires.tight (has_start c.sweep-lost.new.starts) (has_start c.unset.new.self)
    (λ s on. e.kept s on ∙ ap (λ ws. is_marked ws s) c.as_slice.ensures) e.gone
    (ap (has_start c.unset.new.self) (sym c.requires.lists) ∙ c.unset.ensures.removed)
    (λ s n. c.unset.ensures.others s (λ same. n (same ∙ c.requires.lists)))

pub returns-clause-count : goal.returns-clause-count
returns-clause-count c =
    let has : ℕ → _ = has_start c.args.parts.now.starts in
    let same : length (marks (is_lost has c.as_slice.result.now) c.as_slice.result.now 0 (length c.as_slice.result.now)) ≡ length (marks (is_lost has c.args.parts.now.region) c.args.parts.now.region 0 (length c.args.parts.now.region)) =
    ap (λ ws. length (marks (is_lost has ws) ws 0 (length ws))) c.as_slice.ensures in
    let all = lost-count c.requires.heap c.requires.tight in
    omega (arith, all, same, c.sweep-lost.ensures.lost, c.requires.heap.objects.count)
