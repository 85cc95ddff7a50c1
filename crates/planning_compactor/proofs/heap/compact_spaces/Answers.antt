use Rattle.std.proofs.Common.{sym, subst}
use Rattle.spur_heap.specs.declared.heap.HeapParts.{HeapParts}
use Rattle.spur_heap.specs.Parts.{ArePartsOfHeap, HasRemembered}
use Rattle.planning_compactor.proofs.heap.compact_spaces.Goals as goal

pub returns-clause-heap : goal.returns-clause-heap
returns-clause-heap c =
    let rest = c.remember_anew.ensures.rest in
    subst (λ (p : HeapParts). ArePartsOfHeap p) (sym rest)
    (c.compact_objects.ensures.heap c.remember_anew.new.parts.remembered (subst (λ (p : HeapParts). HasRemembered p) rest c.remember_anew.ensures.table))
