-- Two ordinary objects of equal words have changed contents: what the heap stands for then, and the tables beside its words.
use Rattle.std.proofs.Common.{◌≡◌, ◌≢◌, ℕ, Bool, true, false, ◌&&◌, ◌||◌, eqb, length, refl, sym, ap, ◌∙◌, subst, inl, inr}
use Rattle.std.proofs.lemmas.Bool.{false≢true, cases_Bool, cases_eq, eq-eqb, ne_eqb, and_right}
use Rattle.object_header.specs.Chunks.{Chunk}
use Rattle.spur_graph.specs.Become.{exchange}
use Rattle.spur_graph.specs.Graph.{node, with_node}
use Rattle.spur_graph.specs.Node.{Node}
use Rattle.spur_graph.specs.Cells.{Store, is_start}
use Rattle.spur_graph.specs.Spaces.{old_row, eden_row, past_row}
use Rattle.spur_graph.specs.Ordinary.{is_ordinary, is_good_word}
use Rattle.spur_graph.specs.CellGraph.{read, node_of}
use Rattle.spur_graph.specs.Heaps.{View, store_of, chunks_of, heap_to, heap_value, heap_graph, heap_room, own_name, is_remembered}
use Rattle.heap_cells.proofs.Cutting.{start-in}
use Rattle.heap_cells.proofs.CellKinds.{there_starts}
use Rattle.heap_cells.proofs.Members.{start_of_chunk}
use Rattle.heap_cells.proofs.References.{ordinary_there}
use Rattle.spur_heap.specs.Words.{is_good, body_in, starts_at}
use Rattle.spur_heap.specs.Parts.{is_noted}
use Rattle.spur_heap.specs.Views.{IsOrdinary}
use Rattle.spur_heap.proofs.Noted.{or_false, and_true}
use Rattle.spur_heap.proofs.Nodes.{node_fields}
use Rattle.spur_heap.proofs.NodesAt.{node_there}
use Rattle.spur_heap.proofs.Swap.{ordinary-same, good-same}
use Rattle.spur_heap.proofs.Changing.{swap_of, sound_changed}
use Rattle.spur_heap.proofs.Graphs.{read-same, node-same, graph-changed, room-same}
use Rattle.spur_heap.proofs.Tables.{SameTables}
use Rattle.spur_heap.proofs.Rearranged.{arranged, arranged_store, arranged_graph, arranged_room}
use Rattle.spur_heap.proofs.RearrangedTables.{arranged_tables}
use Rattle.spur_heap.proofs.OtherHash.{with_hash, node_hash}
use Rattle.spur_heap.proofs.Exchanged.{Exchanges, behind, second_then, change_first, change_second, rearranges, other_words, starts_then, bit_third}

-- the node of an object with the hash of another
given_hash : (v : View) (s t : ℕ) → IsOrdinary v s → IsOrdinary v t
    → node_of own_name (store_of v) (with_hash (body_in v t) (body_in v s).hash) ≡ record (node (heap_graph v) t) { hash = (node (heap_graph v) s).hash }
given_hash v s t there other =
    let hash : (body_in v s).hash ≡ (node (heap_graph v) s).hash = sym (node_fields (store_of v) (body_in v s)).hash ∙ sym (ap (λ (n : Node). n.hash) (node_there v s there)) in
    node_hash (store_of v) (body_in v t) (body_in v s).hash
    ∙ (λ x. let n : Node = record (sym (node_there v t other) x) { hash = hash x } in n)

module _ {v : View} {new : _} {c d : Chunk} (k : Exchanges v new c d) where
  abbrev then : View
  then = arranged (rearranges k)

  store_is : store_of then ≡ behind k
  store_is = arranged_store (rearranges k)

  pub exchanged_ordinary : (t : ℕ) → is_ordinary (store_of then) t ≡ is_ordinary (store_of v) t
  exchanged_ordinary t = ap (λ (h : Store). is_ordinary h t) store_is ∙ ordinary-same (swap_of (change_second k)) t ∙ ordinary-same (swap_of (change_first k)) t

  pub exchanged_good : (u : ℕ) → is_good then u ≡ is_good v u
  exchanged_good u = ap (λ (h : Store). is_good_word h u) store_is ∙ good-same (swap_of (change_second k)) u ∙ good-same (swap_of (change_first k)) u

  pub exchanged_value : (u : ℕ) → heap_value then u ≡ heap_value v u
  exchanged_value u = ap (λ (h : Store). read own_name h u) store_is ∙ read-same (swap_of (change_second k)) u ∙ read-same (swap_of (change_first k)) u

  -- the two names have changed nodes
  pub exchanged_graph : heap_graph then ≡ exchange (heap_graph v) c.start d.start
  exchanged_graph =
      let one = given_hash v c.start d.start k.first k.second in
      let two = node-same (swap_of (change_first k)) (second_then k) ∙ given_hash v d.start c.start k.second k.first in
      arranged_graph (rearranges k)
      ∙ graph-changed (change_second k) (start_of_chunk (chunks_of v) d k.in_second) v.special v.handles v.mourners v.hash (length v.words)
      ∙ (λ x. with_node ((graph-changed (change_first k) (start_of_chunk (chunks_of v) c k.in_first) v.special v.handles v.mourners v.hash (length v.words) ∙ ap (with_node (heap_graph v) c.start) one) x) d.start (two x))

  pub exchanged_room : heap_room then ≡ heap_room v
  exchanged_room =
      arranged_room (rearranges k)
      ∙ room-same (swap_of (change_second k)) (old_row v.words v.spaces) (eden_row v.words v.spaces) (past_row v.words v.spaces) v.spaces.old_end v.limits v.spaces.eden_used v.spaces.past_used
      ∙ room-same (swap_of (change_first k)) (old_row v.words v.spaces) (eden_row v.words v.spaces) (past_row v.words v.spaces) v.spaces.old_end v.limits v.spaces.eden_used v.spaces.past_used

  -- neither of the two is a free chunk
  apart_free : (s : ℕ) → IsOrdinary v s → (e : Chunk) → starts_at v e.start ≡ false → e.start ≢ s
  apart_free s there e off is = false≢true (sym off ∙ ap (starts_at v) is ∙ there_starts ((store_of v).cell s) (ordinary_there (store_of v) s there))

  pub exchanged_tables : SameTables v then
  exchanged_tables = arranged_tables (rearranges k)
      (record {
        sound = sound_changed (change_second k);
        starts = starts_then k;
        same = λ e m off. other_words k e m (apart_free c.start k.first e off) (apart_free d.start k.second e off);
      })
      (λ t. ordinary-same (swap_of (change_second k)) t ∙ ordinary-same (swap_of (change_first k)) t)

  -- ---- the remembered starts, where each of the two places is remembered besides where it has to be

  start_then : (t : ℕ) → starts_at then t ≡ starts_at v t
  start_then t = ap (λ (h : Store). is_start (h.cell t)) store_is ∙ starts_then k t

  other_noted : (t : ℕ) → t ≢ c.start → t ≢ d.start → is_noted then t ≡ is_noted v t
  other_noted t n m = ap (λ b. b && is_remembered new t) (start_then t) ∙ elim (cases_Bool (starts_at v t)) [
    | inl on ↦
        let e = start-in heap_to v.words (chunks_of v) t on in
        ap (λ b. starts_at v t && b) (subst (λ u. is_remembered new u ≡ is_remembered v.words u) e.2 (bit_third k e.0 e.1 (λ q. n (sym e.2 ∙ q)) (λ q. m (sym e.2 ∙ q))))
    | inr off ↦ (λ i. off i && is_remembered new t) ∙ sym (λ i. off i && is_remembered v.words t)
  ]

  -- the place of one of the two
  place_noted : (t s : ℕ) (on : Bool) → t ≡ s → starts_at v s ≡ true → is_remembered new s ≡ (is_remembered v.words s || on) → is_noted then t ≡ (is_noted v t || on)
  place_noted t s on e there bit =
      let here : starts_at v t ≡ true = ap (starts_at v) e ∙ there in
      ap (λ b. b && is_remembered new t) (start_then t ∙ here) ∙ ap (is_remembered new) e ∙ bit ∙ ap (λ u. is_remembered v.words u || on) (sym e)
      ∙ (λ i. (sym here i && is_remembered v.words t) || on)

  pub exchanged_notes : (m n : Bool) → is_remembered new c.start ≡ (is_remembered v.words c.start || m) → is_remembered new d.start ≡ (is_remembered v.words d.start || n)
      → (t : ℕ) → is_noted then t ≡ ((is_noted v t || (m && eqb t c.start)) || (n && eqb t d.start))
  exchanged_notes m n bit_c bit_d t = elim (cases_eq t c.start) [
    | inl e ↦
        place_noted t c.start m e (there_starts ((store_of v).cell c.start) (ordinary_there (store_of v) c.start k.first)) bit_c
        ∙ sym ((λ i. (is_noted v t || (ap (λ b. m && b) (eq-eqb t c.start e) ∙ and_true m) i) || (ap (λ b. n && b) (ne_eqb t d.start (λ q. k.apart (sym e ∙ q))) ∙ and_right n false refl) i) ∙ or_false (is_noted v t || m))
    | inr p ↦ elim (cases_eq t d.start) [
      | inl e ↦
          place_noted t d.start n e (there_starts ((store_of v).cell d.start) (ordinary_there (store_of v) d.start k.second)) bit_d
          ∙ sym ((λ i. (is_noted v t || (ap (λ b. m && b) (ne_eqb t c.start p) ∙ and_right m false refl) i) || (ap (λ b. n && b) (eq-eqb t d.start e) ∙ and_true n) i) ∙ ap (λ b. b || n) (or_false (is_noted v t)))
      | inr q ↦
          other_noted t p q
          ∙ sym ((λ i. (is_noted v t || (ap (λ b. m && b) (ne_eqb t c.start p) ∙ and_right m false refl) i) || (ap (λ b. n && b) (ne_eqb t d.start q) ∙ and_right n false refl) i) ∙ or_false (is_noted v t || false) ∙ or_false (is_noted v t))
    ]
  ]
