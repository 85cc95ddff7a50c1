-- The room of a store with two objects more, side by side at the low end of a free chunk of old space.
use Rattle.std.proofs.Common.{◌≡◌, ◌≢◌, ℕ, cond, ◌+◌, ◌-◌, ◌<◌, ltb, List, [], ◌∷◌, ◌++◌, map, sym, ap, ◌∙◌, arith, inl, inr, append_assoc}
use Rattle.std.proofs.lemmas.Bool.{lt-ltb}
use Rattle.object_header.specs.Chunks.{Chunk}
use Rattle.spur_graph.specs.declared.limits.Limits.{Limits}
use Rattle.spur_graph.specs.Room.{Room, Old, placed}
use Rattle.spur_graph.specs.FreeSizes.{shortened}
use Rattle.spur_graph.specs.Cells.{Body, Store, Empty, There}
use Rattle.spur_graph.specs.HeapRoom.{spot_in, room_in}
use Rattle.heap_cells.proofs.Adding.{Adds, added-here}
use Rattle.heap_cells.proofs.AddedRoom.{room-taken}
use Rattle.heap_cells.proofs.FreeSizes.{cut_twice, shortened_twice}
use Rattle.heap_cells.proofs.Members.{In, in_either, in_left, in_right}

-- two objects that are added one after the other start at two places
pub starts_differ : {old middle new : Store} {s t : ℕ} {b d : Body} → Adds old middle s b → Adds middle new t d → s ≢ t
starts_differ {middle = h} {s = s} {t = t} {b = b} one two e =
    let there : h.cell t ≡ There b = ap h.cell (sym e) ∙ added-here one in
    let none = two.empty in
    absurd cc

module _ {old middle new : Store} {s t : ℕ} {b d : Body} (one : Adds old middle s b) (two : Adds middle new t d)
    (xs rest ys eden past : List Chunk) (f c e : Chunk) (is_first : c.start ≡ s) (is_second : e.start ≡ t) (free : old.cell f.start ≡ Empty) (rest_free : (x : Chunk) → In rest x → new.cell x.start ≡ Empty)
    (away_first : (x : Chunk) → In (xs ++ (ys ++ (eden ++ past))) x → x.start ≢ s) (away_second : (x : Chunk) → In (xs ++ (ys ++ (eden ++ past))) x → x.start ≢ t) where
  -- the free chunk without the words of the first
  abbrev left : ℕ → Chunk
  left n = record { at = f.at + n; start = t; size = f.size - n; slots = 0 }

  behind_first : (x : Chunk) → In ((xs ++ c ∷ []) ++ (ys ++ (eden ++ past))) x → x.start ≢ t
  behind_first x m = elim (in_either (xs ++ c ∷ []) (ys ++ (eden ++ past)) x m) [
    | inr a ↦ away_second x (in_right xs (ys ++ (eden ++ past)) x a)
    | inl a ↦ elim (in_either xs (c ∷ []) x a) [
      | inl m' ↦ away_second x (in_left xs (ys ++ (eden ++ past)) x m')
      | inr own ↦ elim own [
        | inl same ↦ λ q. starts_differ one two (sym is_first ∙ ap (λ (y : Chunk). y.start) same ∙ q)
        | inr none ↦ absurd none
      ]
    ]
  ]

  -- the low words of a free chunk are the two objects, and the rest is a free chunk
  pub room-taken_twice : (n m words : ℕ) (limits : Limits) (eden_used past_used : ℕ) → n < f.size → map (λ (x : Chunk). x.size) rest ≡ cond (ltb (n + m) f.size) ((f.size - (n + m)) ∷ []) []
      → room_in new (xs ++ c ∷ (e ∷ (rest ++ ys))) eden past words limits eden_used past_used
      ≡ placed (placed (record (room_in old (xs ++ f ∷ ys) eden past words limits eden_used past_used) { free = shortened (n + m) f.size (room_in old (xs ++ f ∷ ys) eden past words limits eden_used past_used).free })
      s (spot_in Old c)) t (spot_in Old e)
  room-taken_twice n m words limits eden_used past_used low sizes =
      let room : Store → List Chunk → Room = λ h cs. room_in h cs eden past words limits eden_used past_used in
      let was : Room = room old (xs ++ f ∷ ys) in
      let mid : Chunk = left n in
      let one_left : map (λ (x : Chunk). x.size) (mid ∷ []) ≡ cond (ltb n f.size) ((f.size - n) ∷ []) [] = sym (ap (λ x. cond x ((f.size - n) ∷ []) []) (lt-ltb n f.size low)) in
      let less : f.size - (n + m) ≡ f.size - n - m = omega (arith) in
      let two_left : map (λ (x : Chunk). x.size) rest ≡ cond (ltb m (f.size - n)) ((f.size - n - m) ∷ []) [] = sizes ∙ (λ i. cond (sym (cut_twice n m f.size low) i) ((less i) ∷ []) []) in
      let step_one : room middle (xs ++ c ∷ (mid ∷ ys)) ≡ placed (record was { free = shortened n f.size was.free }) s (spot_in Old c) =
      room-taken one xs (mid ∷ []) ys eden past f c is_first free (λ x own. elim own [ inl same ↦ ap (λ (y : Chunk). middle.cell y.start) (sym same) ∙ two.empty | inr none ↦ absurd none ]) away_first n words limits eden_used past_used one_left in
      let moved : room middle ((xs ++ c ∷ []) ++ mid ∷ ys) ≡ placed (record was { free = shortened n f.size was.free }) s (spot_in Old c) = ap (room middle) (append_assoc xs (c ∷ []) (mid ∷ ys)) ∙ step_one in
      ap (room new) (sym (append_assoc xs (c ∷ []) (e ∷ (rest ++ ys))))
      ∙ room-taken two (xs ++ c ∷ []) rest ys eden past mid e is_second two.empty rest_free behind_first m words limits eden_used past_used two_left
      ∙ (λ i. placed (record (moved i) { free = shortened m (f.size - n) (moved i).free }) t (spot_in Old e))
      ∙ ap (λ free. placed (placed (record was { free = free }) s (spot_in Old c)) t (spot_in Old e)) (shortened_twice n m f.size was.free low)
