-- What stands in new space is not pinned, and is none of nil, false and true, which stand in old space.
use Rattle.std.proofs.Common.{◌≡◌, ◌≢◌, ℕ, false, ◌||◌, ◌<◌, ◌≤◌, eqb, ltb, List, length, get_or, sym, ap, ◌∙◌, arith, inl, inr}
use Rattle.std.proofs.lemmas.Bool.{ne_eqb, ltb-false}
use Rattle.std.proofs.lemmas.List.{length-map, get_or_default}
use Rattle.object_header.specs.Chunks.{Chunk}
use Rattle.spur_graph.specs.Cells.{first}
use Rattle.spur_graph.specs.Refusals.{is_special}
use Rattle.spur_graph.specs.Spaces.{old_row, young_row}
use Rattle.spur_graph.specs.Heaps.{View, IsWhole, store_of, chunks_of, heap_to, heap_graph}
use Rattle.heap_cells.specs.Rows.{starts_of}
use Rattle.heap_cells.proofs.CellKinds.{there_starts}
use Rattle.heap_cells.proofs.Cutting.{stands, start-in, cuts-in_order}
use Rattle.heap_cells.proofs.Members.{In, in_at, in_either, listed, chunk_of_start}
use Rattle.heap_cells.proofs.References.{ordinary_there}
use Rattle.spur_heap.specs.Views.{IsOrdinary, node_in}
use Rattle.spur_heap.specs.Words.{body_in}
use Rattle.spur_heap.proofs.Nodes.{node_fields}
use Rattle.spur_heap.proofs.Puts.{whole_sound}
use Rattle.spur_heap.proofs.Walking.{first_old}

module _ (v : View) (whole : IsWhole v) where
  abbrev old_chunks : List Chunk
  old_chunks = old_row v.words v.spaces

  old_before : (c : Chunk) → In old_chunks c → c.start < v.spaces.old_end
  old_before c m =
      let l = (stands v.words 0 v.spaces.old_end old_chunks c (cuts-in_order v.words 0 v.spaces.old_end old_chunks whole.rows.old) m).lies in
      omega (arith, l.room, l.before)

  first_before : (k : ℕ) → k < 5 → first (store_of v) k < v.spaces.old_end
  first_before k l =
      let below : k < length old_chunks = omega (arith, l, whole.rows.five) in
      let at : first (store_of v) k ≡ get_or (starts_of old_chunks) k 0 = first_old v (whole_sound v whole) k l in
      let long : length (starts_of old_chunks) ≡ length old_chunks = length-map old_chunks (λ (c : Chunk). c.start) in
      let within : k < length (starts_of old_chunks) = omega (arith, below, long) in
      let s : ℕ = get_or (starts_of old_chunks) k 0 in
      let c = chunk_of_start old_chunks s (in_at (starts_of old_chunks) s k within (get_or_default (starts_of old_chunks) k s 0 within)) in
      omega (arith, at, c.2, old_before c.0 c.1)

  module _ (s : ℕ) (there : IsOrdinary v s) (away : ltb s v.spaces.old_end ≡ false) where
    behind : v.spaces.old_end ≤ s
    behind = ltb-false s v.spaces.old_end away

    pub young_mobile : (node_in v s).pinned ≡ false
    young_mobile =
        let c = start-in heap_to v.words (chunks_of v) s (there_starts ((store_of v).cell s) (ordinary_there (store_of v) s there)) in
        elim (in_either old_chunks (young_row v.words v.spaces) c.0 c.1) [
          | inl old ↦ absurd (omega (arith, behind, c.2, old_before c.0 old))
          | inr young ↦
              let k = whole.young c.0 (listed (young_row v.words v.spaces) c.0 young) in
              (node_fields (store_of v) (body_in v s)).pinned ∙ ap (λ p. eqb p 1) (ap (λ t. (body_in v t).pinned) (sym c.2) ∙ k.mobile)
        ]

    other : (k : ℕ) → k < 5 → s ≢ first (store_of v) k
    other k l e = omega (arith, e, behind, first_before k l)

    pub young_plain : is_special (heap_graph v) s ≡ false
    young_plain = λ i.
        ne_eqb s (first (store_of v) 0) (other 0 (omega arith)) i || ne_eqb s (first (store_of v) 1) (other 1 (omega arith)) i || ne_eqb s (first (store_of v) 2) (other 2 (omega arith)) i
