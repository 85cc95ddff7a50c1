use Rattle.std.proofs.Common.{◌≡◌, ◌-◌, ◌≤◌, length}
use Rattle.spur_heap.specs.declared.heap.HeapParts.{HeapParts}
use Rattle.spur_heap.specs.Parts.{view_of}
use Rattle.spur_heap.specs.Tables.{IsTableOf}
use Rattle.spur_heap.proofs.Noted.{passed}
use Rattle.spur_heap.proofs.remembering.remember_anew.Given as goal

abbrev pub invariant-starts : goal.invariant-starts
invariant-starts l = record {
  inside : l.at ≤ length l.fn.parts.region;
  table : IsTableOf (passed (view_of l.fn.parts) (length l.fn.parts.region) l.at) (length l.fn.parts.region) l.parts.remembered;
  rest : l.parts ≡ record (l.fn.parts) { remembered = l.parts.remembered };
}

abbrev pub decreases-starts : goal.decreases-starts
decreases-starts l = length l.fn.parts.region - l.at
