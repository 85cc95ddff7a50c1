-- Whole heaps under moved places.
use Rattle.std.proofs.Common.{length, sym, subst}
use Rattle.object_header.specs.Chunks.{InOrder}
use Rattle.spur_graph.specs.Names.{Iso}
use Rattle.spur_graph.specs.Heaps.{heap_to, store_of, chunks_of, heap_graph, graph_in, own_name}
use Rattle.graph_laws.proofs.Joining.{joined_graphs}
use Rattle.heap_cells.proofs.Spaced.{rows-in_order}
use Rattle.heap_cells.proofs.Starts.{start-read, starts-rise}
use Rattle.heap_laws.specs.Placed.{Outside, kept_graph}
use Rattle.heap_laws.specs.Placing.{outside_of, WholeIsReady, HeapIsLeft}
use Rattle.heap_cells.proofs.WholeClosed.{heap_aligned}
use Rattle.heap_laws.proofs.Graphs.{kept_under_iso}

pub whole_is_ready : WholeIsReady
whole_is_ready v k =
    let order : InOrder v.words 0 (length v.words) (chunks_of v) = rows-in_order v.words v.limits v.spaces k.spaces k.rows in (
      record { reads = record { aligned = heap_aligned; inside = λ s e. (start-read heap_to v.words (length v.words) (chunks_of v) s order e).stands }; sound = k.sound },
      (starts-rise v.words (length v.words) (chunks_of v) order).rising,
      record { special = k.special_there; held = k.held; mourners = k.mourners },
    )

pub heap_is_left : HeapIsLeft
heap_is_left p keep live v v' g without place back iso w same hash m =
    let o : Outside = outside_of v in
    let o' : Outside = outside_of v' in
    let kept = kept_under_iso live keep g without (store_of v) o v.hash (length v.words) place back iso w same in
    let moved : Iso (kept_graph own_name keep (store_of v) o.special o.held o.groups v.hash (length v.words)) (heap_graph v') m.place m.back =
    subst (λ h. Iso (kept_graph own_name keep (store_of v) o.special o.held o.groups v.hash (length v.words)) (graph_in (store_of v') v'.special v'.handles v'.mourners h (length v'.words)) m.place m.back) (sym hash)
    (m.graph v.hash (length v.words) (length v'.words)) in
    record { place = λ a. m.place (place a); back = λ a. back (m.back a); graph = joined_graphs kept moved }
