-- How many objects the words of a heap can hold.
use Rattle.std.proofs.Common.{ℕ, ◌≡◌, ◌+◌, ◌/◌, ◌≤◌, List, [], ◌∷◌, length, arith}
use Rattle.std.proofs.lemmas.List.{length-map}
use Rattle.std.proofs.lemmas.List.Sums.{length-filter, count_by-le-length}
use Rattle.object_header.specs.Chunks.{Chunk, InOrder}
use Rattle.spur_graph.specs.Ordinary.{is_ordinary, ordinary_starts}
use Rattle.spur_graph.specs.Heaps.{View, store_of, chunks_of}
use Rattle.heap_cells.proofs.Cutting.{head}
use Rattle.spur_heap.specs.Words.{AreSound}
use Rattle.spur_heap.proofs.Orders.{order}

-- each chunk has two words at least
pub few_chunks : (words : List ℕ) (at end : ℕ) (cs : List Chunk) → InOrder words at end cs → at + (length cs + length cs) ≤ end
few_chunks words at end [] t = omega (arith, t)
few_chunks words at end (c ∷ cs) t =
    let l = head words at end c cs t in
    let r = few_chunks words (c.at + c.size) end cs t.1.1 in
    omega (arith, l.after, l.lead, l.room, r)

-- so that a table of half as many places as there are words has one for each object
pub half_ordinary : (v : View) → AreSound v → length (ordinary_starts (store_of v)) ≤ length v.words / 2
unfolding ordinary_starts
half_ordinary v k =
    let a = few_chunks v.words 0 (length v.words) (chunks_of v) (order v k) in
    let b = count_by-le-length (is_ordinary (store_of v)) (store_of v).starts in
    let e = length-filter (is_ordinary (store_of v)) (store_of v).starts in
    let c : length (store_of v).starts ≡ length (chunks_of v) = length-map (chunks_of v) (λ (d : Chunk). d.start) in
    omega (arith, a, b, c, e)
