-- The old space of a compacted heap: its words, its pinned objects and its gaps.
use Rattle.std.proofs.Common.{◌≡◌, ℕ, Bool, true, false, cond, not, ◌&&◌, ◌+◌, ◌≤◌, eqb, List, length, refl, sym, ap, ◌∙◌, subst, arith, Some, None}
use Rattle.std.proofs.lemmas.Bool.{and_parts}
use Rattle.std.proofs.lemmas.List.{length-map}
use Rattle.std.proofs.lemmas.List.Sums.{length-filter, sum-map}
use Rattle.std.specs.Option.{unwrap_or}
use Rattle.std.specs.List.{filter, sum, sum_by, count_by}
use Rattle.object_header.specs.Fields.{Fields}
use Rattle.object_header.specs.Chunks.{Chunk}
use Rattle.spur_graph.specs.Graph.{node, blank}
use Rattle.spur_graph.specs.Cells.{Body, Store, is_start, is_there}
use Rattle.spur_graph.specs.Ordinary.{body_at, is_internal, is_ordinary}
use Rattle.spur_graph.specs.CellGraph.{node_of}
use Rattle.spur_graph.specs.FreeSizes.{ascending}
use Rattle.spur_graph.specs.CellRoom.{is_free, free_sizes, internal_chunks}
use Rattle.spur_graph.specs.Room.{Spot}
use Rattle.spur_graph.specs.Spaces.{old_row, young_row}
use Rattle.spur_graph.specs.Heaps.{IsWhole, View, is_marked, own_name, store_of, chunks_of, marked_graph}
use Rattle.heap_cells.proofs.AddedRoom.{count-members, in_map as mapped_from}
use Rattle.heap_cells.proofs.CellKinds.{no_start_is_not_there}
use Rattle.heap_cells.proofs.Cutting.{cuts-in_order, stands}
use Rattle.heap_cells.proofs.FreeSizes.{in_ascending}
use Rattle.heap_cells.proofs.Members.{In, in_left, filter_in}
use Rattle.heap_laws.proofs.ObjectWords.{object-words}
use Rattle.heap_laws.proofs.Places.{pinned-placed}
use Rattle.heap_laws.proofs.Rooms.{apart_rise, internal_words-placed, internal_pinned-placed}
use Rattle.compaction_laws.specs.Compacting.{IsTight, Compacts, is_pinned}
use Rattle.compaction_laws.proofs.Spaces.{spaces'}
use Rattle.compaction_laws.proofs.After.{new, order', rows-are}
use Rattle.compaction_laws.proofs.Moves.{lives, moves_heap}
use Rattle.compaction_laws.proofs.Shapes.{start-there, there-at}
use Rattle.compaction_laws.proofs.Sizes.{length-ascending, sum-ascending}
use Rattle.compaction_laws.proofs.Sums.{OneOf, sum-parts, sum-members, sum-zero}
use Rattle.compaction_laws.proofs.Gaps.{free, free-is, not-free, pin}
use Rattle.compaction_laws.proofs.Zones.{old-placed}
use Rattle.compaction_laws.proofs.RoomParts.{cuts-words, spot, left, IsLeft, marked-node, sum-ordinary, placed}

by-tests : (s th i : Bool) → (s ≡ false → th ≡ false) → (s ≡ true → th ≡ true) → OneOf (not s) (s && i) (th && not i)
by-tests false th i f g = subst (λ x. OneOf true false (x && not i)) (sym (f refl)) refl
by-tests true th true f g = subst (λ x. OneOf false true (x && false)) (sym (g refl)) refl
by-tests true th false f g = subst (λ x. OneOf false false (x && true)) (sym (g refl)) refl

module _ {p : ℕ → ℕ} {v v' : View} (k : IsWhole v) (t : IsTight v) (c : Compacts p v v') where
  abbrev old : Store
  old = store_of v

  abbrev after : Store
  after = store_of (new k t c)

  abbrev os : List Chunk
  os = old_row v.words v.spaces

  abbrev os' : List Chunk
  os' = old_row v'.words (spaces' k t c)

  abbrev young' : List Chunk
  young' = young_row v'.words (spaces' k t c)

  -- ---- old space, in its three parts

  three : (d : Chunk) → OneOf (is_free after d) (is_start (after.cell d.start) && is_internal after d.start) (is_ordinary after d.start)
  three d = by-tests (is_start (after.cell d.start)) (is_there (after.cell d.start)) (is_internal after d.start) (no_start_is_not_there (after.cell d.start)) (start-there k t c d.start)

  abbrev pub free_words : ℕ
  free_words = sum_by (λ (d : Chunk). d.size) (filter (is_free after) os')

  abbrev pub inner_words : ℕ
  inner_words = sum_by (λ (d : Chunk). d.size) (internal_chunks old os)

  abbrev pub left_words : List Chunk → ℕ
  left_words cs = sum_by (λ (d : Chunk). d.size) (left k t c cs)

  pub old-words : free_words + inner_words + left_words os ≡ v.spaces.old_end
  old-words =
      let all = cuts-words v'.words 0 v.spaces.old_end os' (rows-are k t c).old in
      let parts = sum-parts (λ (d : Chunk). d.size) (is_free after) (λ (d : Chunk). is_start (after.cell d.start) && is_internal after d.start) (λ (d : Chunk). is_ordinary after d.start) os' (λ d m. three d) in
      let inner = internal_words-placed (placed k t c) (spot k t c) (spot k t c) os os' (old-placed k t c) (apart_rise os (old-placed k t c).rise) (apart_rise os' (old-placed k t c).rise_new) in
      let outer = sum-ordinary k t c (λ (d : Chunk). d.size) (λ (d : Chunk). d.size) (λ e d m n on kept is same. ap (λ (s : Spot). s.words) same) in
      omega (arith, all, parts, inner, outer)

  -- ---- pinned objects of old space

  pub node-pinned : (d : Chunk) → IsLeft k t c os d → (node (marked_graph v) d.start).pinned ≡ eqb (body_at old d.start).pinned 1
  unfolding node_of
  node-pinned d l =
      let marked : is_marked v.words d.start ≡ true = (and_parts (is_there (old.cell d.start)) (is_marked v.words d.start) (sym (lives k t c d.start) ∙ l.kept)).1 in
      ap (λ o. (unwrap_or o blank).pinned) (marked-node k t c d.start l.ordinary ∙ ap (λ b. cond b (Some (node_of own_name old (body_at old d.start))) None) marked)

  in_rows : (d : Chunk) → In os' d → In (chunks_of (new k t c)) d
  in_rows d m = in_left os' young' d m

  -- an object of old space is a pin where it is pinned
  pin-there : (d : Chunk) → In os' d → is_there (after.cell d.start) ≡ true → pin k t c d ≡ eqb (body_at after d.start).pinned 1
  pin-there d m there =
      let o = object-words v'.words (chunks_of (new k t c)) d.start (order' k t c) there ((moves_heap k t c).sound.formed d.start there) in
      let off : free k t c d ≡ false = not-free k t c d (in_rows d m) there in
      ap (λ b. not b && is_pinned v'.words d.start) off ∙ ap (λ n. eqb n 1) (sym (ap (λ (f : Fields). f.pinned) o.is) ∙ sym (ap (λ (b : Body). b.pinned) o.body))

  abbrev pub inner_pins : ℕ
  inner_pins = count_by (λ (d : Chunk). eqb (body_at old d.start).pinned 1) (internal_chunks old os)

  abbrev pub left_pins : ℕ
  left_pins = sum_by (λ (d : Chunk). cond (eqb (body_at old d.start).pinned 1) 1 0) (left k t c os)

  pub pins-are : count_by (pin k t c) os' ≡ inner_pins + left_pins
  pins-are =
      let f : Chunk → ℕ = λ d. cond (pin k t c d) 1 0 in
      let parts = sum-parts f (is_free after) (λ (d : Chunk). is_start (after.cell d.start) && is_internal after d.start) (λ (d : Chunk). is_ordinary after d.start) os' (λ d m. three d) in
      let none = sum-zero f (filter (is_free after) os') (λ d m.
      let q = filter_in (is_free after) os' d m in
      ap {B = ℕ} (λ b. cond (not b && is_pinned v'.words d.start) 1 0) (sym (free-is k t c d (in_rows d q.0)) ∙ q.1)) in
      let inner = sum-members f (λ (d : Chunk). cond (eqb (body_at after d.start).pinned 1) 1 0) (internal_chunks after os') (λ d m.
      let q = filter_in (λ (x : Chunk). is_start (after.cell x.start) && is_internal after x.start) os' d m in
      ap {B = ℕ} (λ b. cond b 1 0) (pin-there d q.0 (start-there k t c d.start (and_parts (is_start (after.cell d.start)) (is_internal after d.start) q.1).0)))
      ∙ internal_pinned-placed (placed k t c) (spot k t c) (spot k t c) os os' (old-placed k t c) (apart_rise os (old-placed k t c).rise) (apart_rise os' (old-placed k t c).rise_new) in
      let outer = sum-ordinary k t c (λ (d : Chunk). cond (eqb (body_at old d.start).pinned 1) 1 0) f (λ e d m n on kept is same.
      let there : is_there (after.cell d.start) ≡ true = ap (λ s. is_there (after.cell s)) is ∙ there-at k t c e.start (sym (lives k t c e.start) ∙ kept) in
      ap {B = ℕ} (λ b. cond b 1 0) (pin-there d n there ∙ ap (λ n. eqb n 1) (ap (λ s. (body_at after s).pinned) is ∙ pinned-placed (placed k t c) e.start kept))) in
      omega (arith, parts, none, inner, outer)

  -- ---- gaps

  pub two-words : (n : ℕ) → In (ascending (free_sizes after os')) n → 2 ≤ n
  two-words n m =
      let d = mapped_from (λ (x : Chunk). x.size) (filter (is_free after) os') n (in_ascending (free_sizes after os') n m) in
      let f = filter_in (is_free after) os' d.0 d.1 in
      let l = (stands v'.words 0 v.spaces.old_end os' d.0 (cuts-in_order v'.words 0 v.spaces.old_end os' (rows-are k t c).old) f.0).lies in
      let a = l.room in let b = l.lead in let e = d.2 in
      omega (arith, a, b, e)

  pub gap-count : length (ascending (free_sizes after os')) ≡ count_by (free k t c) os'
  gap-count =
      length-ascending (free_sizes after os') ∙ length-map (filter (is_free after) os') (λ (d : Chunk). d.size) ∙ length-filter (is_free after) os'
      ∙ count-members (is_free after) (free k t c) os' (λ d m. free-is k t c d (in_rows d m))

  pub gap-words : sum (ascending (free_sizes after os')) ≡ free_words
  gap-words = sum-ascending (free_sizes after os') ∙ sum-map (λ (d : Chunk). d.size) (filter (is_free after) os')
