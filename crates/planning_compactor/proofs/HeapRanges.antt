-- The ranges of a whole and tight heap can be compacted, once the map has the starts of marked objects alone.
use Rattle.std.proofs.Common.{◌≡◌, ℕ, ◌+◌, ◌≤◌, ◌<◌, sym, subst, arith}
use Rattle.heap_walk.specs.Starts.{has_start}
use Rattle.heap_walk.specs.declared.starts.StartMap.{StartMap}
use Rattle.heap_cells.proofs.Spaced.{past_inside}
use Rattle.spur_heap.specs.Parts.{view_of, ArePartsOfHeap}
use Rattle.spur_heap.specs.declared.heap.HeapParts.{HeapParts}
use Rattle.compaction_laws.specs.Compacting.{IsTight, is_mapped}
use Rattle.compaction_laws.proofs.Ready.{can_move}
use Rattle.planning_compactor.specs.Ranges.{CanCompact, ranges_in, roots_in}
use Rattle.planning_compactor.proofs.HeapReady.{eden-end, eden-ready, objects, old-ready, past-ready}
use Rattle.planning_compactor.proofs.HeapRoots.{AreHeld, roots-ready}

pub can-compact : {p : HeapParts} (k : ArePartsOfHeap p) (t : IsTight (view_of p)) (swept : StartMap) → has_start swept ≡ is_mapped (view_of p) → AreHeld p k t
    → CanCompact (has_start swept) p.region (roots_in p) (ranges_in (view_of p))
can-compact {p} k t swept is each =
    let w = k.whole in
    let behind = w.spaces.eden_behind in
    let end = eden-end w t in
    subst (λ has. CanCompact has p.region (roots_in p) (ranges_in (view_of p))) (sym is) (record {
      order = (behind, end, past_inside p.region p.limits (view_of p).spaces w.spaces);
      old_space = (old-ready w t).laid;
      eden = (eden-ready w t).laid;
      past_space = (past-ready w t).laid;
      mobile = (λ s i. (let l = i.1 in (can_move w t).mobile s i.0 (omega (arith, l, behind))), λ s i. (let l = i.1 in (can_move w t).mobile s i.0 (omega (arith, l, behind, end))));
      objects = objects w t;
      twice = (old-ready w t).twice;
      roots = roots-ready p k t each;
    })
