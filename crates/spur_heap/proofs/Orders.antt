-- The chunks of a heap stand in order.
use Rattle.std.proofs.Common.{length}
use Rattle.object_header.specs.Chunks.{InOrder}
use Rattle.spur_graph.specs.Heaps.{View, chunks_of}
use Rattle.heap_cells.proofs.Spaced.{rows-in_order}
use Rattle.spur_heap.specs.Words.{AreSound}

pub order : (v : View) → AreSound v → InOrder v.words 0 (length v.words) (chunks_of v)
order v k = rows-in_order v.words v.limits v.spaces k.spaces k.rows
