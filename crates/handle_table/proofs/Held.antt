-- What is read of the handles after a change.
use Rattle.std.proofs.Common.{◌≡◌, ◌≢◌, ◌<◌, ℕ, ◌+◌, ◌-◌, List, [], ◌∷◌, ◌++◌, length, map, take, drop, slice_index_or, slice_set, swap_remove, replicate, Option, Result, Ok, Err, IfNone, OnErr, sym, ap, subst, ◌∙◌, inl, inr, arith}
use Rattle.std.proofs.Math.ListN.{get_or-map}
use Rattle.std.proofs.Math.Seq.{get_or-append_seam, take-append_seam}
use Rattle.std.proofs.lemmas.List.{ext_get_or, get_or_default, get_or_append_left, get_or-set_same, get_or-set_other, length-append, length-map}
use Rattle.std.proofs.lemmas.Bool.{cases_eq}
use Rattle.std.specs.Result.{result_ok}
use Rattle.spur_graph.specs.Graph.{Handle}
use Rattle.handle_table.specs.declared.index.Held.{Held}
use Rattle.handle_table.specs.Slots.{key_of, key_at, slot_at, home_at, home_of, blank, AreApart, HasGap, IsFreeFor, IsIndex, IsIndexed}
use Rattle.handle_table.specs.Handles.{no_handle, handle_at, AreDistinct, IsAbsent, IsHeldAt}
use Rattle.handle_table.proofs.Slots.{dropped, entered, free_slots}
use Rattle.handle_table.proofs.SwapRemove.{apart-swap_remove, length-swap_remove, swap_remove-there, swap_remove-other}

pub key_read : (held : List Held) (n : ℕ) (h : Held) → h ≡ slice_index_or held n h → n < length held → key_of h ≡ key_at held n
key_read held n h is l = ap key_of (is ∙ get_or_default held n h blank l)

module _ (held : List Held) (n : ℕ) (h : Held) (g : ℕ) (is : h ≡ slice_index_or held n h) (l : n < length held) where
  -- a handle whose slot changes stays the handle that it is
  pub key_at-moved : (m : ℕ) → key_at (slice_set held n (record h { slot = g })) m ≡ key_at held m
  key_at-moved m = elim (cases_eq m n) [
    | inl e ↦ ap (λ (k : ℕ). key_at (slice_set held n (record h { slot = g })) k) e ∙ ap key_of (get_or-set_same held n (record h { slot = g }) blank l) ∙ key_read held n h is l ∙ ap (key_at held) (sym e)
    | inr ne ↦ ap key_of (get_or-set_other held n m (record h { slot = g }) blank ne)
  ]

  pub slot_at-moved : slot_at (slice_set held n (record h { slot = g })) n ≡ g
  slot_at-moved = ap (λ (h : Held). h.slot) (get_or-set_same held n (record h { slot = g }) blank l)

  pub slot_at-stays : (m : ℕ) → m ≢ n → slot_at (slice_set held n (record h { slot = g })) m ≡ slot_at held m
  slot_at-stays m ne = ap (λ (h : Held). h.slot) (get_or-set_other held n m (record h { slot = g }) blank ne)

-- handles as a list, and by index
pub handle_at-keys : (held : List Held) (n : ℕ) → handle_at (map key_of held) n ≡ key_at held n
handle_at-keys held n = get_or-map key_of held n blank

module _ (held : List Held) (handles : List Handle) (view : map key_of held ≡ handles) where
  long : length handles ≡ length held
  long = ap length (sym view) ∙ length-map held key_of

  read : (n : ℕ) → handle_at handles n ≡ key_at held n
  read n = ap (λ (hs : List Handle). handle_at hs n) (sym view) ∙ handle_at-keys held n

  pub held_at : (handle : Handle) (n : ℕ) → n < length held → key_at held n ≡ handle → IsHeldAt handles handle n
  held_at handle n l e = record { within = omega (arith, long); is = read n ∙ e }

  pub absent : (handle : Handle) → ((n : ℕ) → n < length held → key_at held n ≢ handle) → IsAbsent handles handle
  absent handle h n l e = h n (omega (arith, long)) (sym (read n) ∙ e)

  pub distinct : AreApart (length held) (key_at held) → AreDistinct handles
  distinct apart m n k l e = apart m n (omega (arith, long)) (omega (arith, long)) (sym (read m) ∙ e ∙ read n)

-- a handle that is entered last
pub index_entered : (slots : List ℕ) (held : List Held) (h : Held) (i : ℕ) → IsIndex slots held → length held < 65536 → IsFreeFor slots (home_of (key_of h)) i → h.slot ≡ i
    → ((n : ℕ) → n < length held → key_at held n ≢ key_of h) → IsIndex (slice_set slots i (length held + 1)) (held ++ h ∷ [])
index_entered slots held h i x few free here new =
    let count : ℕ = length held in
    let longer : length (held ++ h ∷ []) ≡ count + 1 = length-append held (h ∷ []) in
    let last : slice_index_or (held ++ h ∷ []) count blank ≡ h = get_or-append_seam held h [] blank in
    let others : (m : ℕ) → m < count → slice_index_or (held ++ h ∷ []) m blank ≡ slice_index_or held m blank = λ m l. get_or_append_left held (h ∷ []) blank m l in
    let free_last : IsFreeFor slots (home_at (held ++ h ∷ []) count) i = subst (λ (k : Held). IsFreeFor slots (home_of (key_of k)) i) (sym last) free in
    record {
      indexed = subst (λ (n : ℕ). IsIndexed (slice_set slots i (count + 1)) n (home_at (held ++ h ∷ [])) (slot_at (held ++ h ∷ []))) (sym longer)
          (entered slots count i (home_at held) (slot_at held) (home_at (held ++ h ∷ [])) (slot_at (held ++ h ∷ [])) x.indexed few free_last
          (ap (λ (k : Held). k.slot) last ∙ here)
          (λ m l. (ap (λ (k : Held). home_of (key_of k)) (others m l), ap (λ (k : Held). k.slot) (others m l))));
      apart = λ a b k l e. elim (cases_eq a count) [
        | inl p ↦ elim (cases_eq b count) [
          | inl q ↦ p ∙ sym q
          | inr q ↦ absurd (new b (omega arith) (sym (ap key_of (others b (omega arith))) ∙ sym e ∙ ap (key_at (held ++ h ∷ [])) p ∙ ap key_of last))
        ]
        | inr p ↦ elim (cases_eq b count) [
          | inl q ↦ absurd (new a (omega arith) (sym (ap key_of (others a (omega arith))) ∙ e ∙ ap (key_at (held ++ h ∷ [])) q ∙ ap key_of last))
          | inr q ↦ x.apart a b (omega arith) (omega arith) (sym (ap key_of (others a (omega arith))) ∙ e ∙ ap key_of (others b (omega arith)))
        ]
      ];
    }

module _ (slots : List ℕ) (held : List Held) (n : ℕ) (d : Held) (x : IsIndex slots held) (l : n < length held) where
  -- what is left once a handle goes: its slot is a gap
  pub index_left : HasGap (slice_set (slice_set slots (slot_at held (length held - 1)) (n + 1)) (slot_at held n) 0) (length (swap_remove held n d)) (home_at (swap_remove held n d)) (slot_at (swap_remove held n d)) (slot_at held n) (slot_at held n + 1)
  index_left =
      let left : List Held = swap_remove held n d in
      let count : length left + 1 ≡ length held = length-swap_remove held n d l in
      let one : length held - 1 ≡ length left = omega arith in
      let indexed : IsIndexed slots (length left + 1) (home_at held) (slot_at held) = subst (λ (k : ℕ). IsIndexed slots k (home_at held) (slot_at held)) (sym count) x.indexed in
      let same : (m k : ℕ) → slice_index_or left m blank ≡ slice_index_or held k blank → (home_at left m ≡ home_at held k) × (slot_at left m ≡ slot_at held k) =
      λ m k e. (ap (λ (h : Held). home_of (key_of h)) e, ap (λ (h : Held). h.slot) e) in
      subst (λ (k : ℕ). HasGap (slice_set (slice_set slots (slot_at held k) (n + 1)) (slot_at held n) 0) (length left) (home_at left) (slot_at left) (slot_at held n) (slot_at held n + 1)) (sym one)
      (dropped slots (length left) n (home_at held) (slot_at held) (home_at left) (slot_at left) indexed (omega arith)
      (λ ahead. same n (length left) (swap_remove-there held n d blank (omega arith) ∙ ap (λ (k : ℕ). slice_index_or held k blank) one))
      (λ m below ne. same m m (swap_remove-other held n d m blank (omega arith) ne)))

  -- and the handles that are left are still apart
  pub apart_left : AreApart (length (swap_remove held n d)) (key_at (swap_remove held n d))
  apart_left = apart-swap_remove key_of held n d blank l x.apart

-- handles of which none has changed
pub same_keys : (old new : List Held) → length new ≡ length old → ((n : ℕ) → key_at new n ≡ key_at old n) → map key_of new ≡ map key_of old
same_keys old new size same =
    let a : length (map key_of new) ≡ length new = length-map new key_of in
    let b : length (map key_of old) ≡ length old = length-map old key_of in
    ext_get_or no_handle (map key_of new) (map key_of old) (omega arith) (λ n l. handle_at-keys new n ∙ same n ∙ sym (handle_at-keys old n))

pub same_apart : (old new : List Held) → length new ≡ length old → ((n : ℕ) → key_at new n ≡ key_at old n) → AreApart (length old) (key_at old) → AreApart (length new) (key_at new)
same_apart old new size same apart a b k l e = apart a b (omega arith) (omega arith) (sym (same a) ∙ e ∙ same b)

-- a whole list written back
pub whole : {X : Type 0} (n : ℕ) (new old : List X) → length new ≡ n → take n (new ++ drop (length new) old) ≡ new
whole n new old e = ap (λ (k : ℕ). take k (new ++ drop (length new) old)) (sym e) ∙ take-append_seam new (drop (length new) old)

-- no handle in slots of which none is used
pub index_free : (slots : List ℕ) (held : List Held) (n : ℕ) → slots ≡ replicate n 0 → n ≡ 196608 → held ≡ [] → IsIndex slots held
index_free slots held n is size none =
    let count : length held ≡ 0 = ap length none in
    record {
      indexed = subst (λ (k : ℕ). IsIndexed slots k (home_at held) (slot_at held)) (sym count) (free_slots slots n (home_at held) (slot_at held) is size);
      apart = λ a b k l e. absurd (omega arith);
    }

pub none_of_error : {P Q : Type 0} (r : Result ℕ ℕ) (o : Option ℕ) → o ≡ result_ok r → (P → Q) → OnErr r P → IfNone o Q
none_of_error {Q = Q} (Ok n) o e f h = subst (λ (o : Option ℕ). IfNone o Q) (sym e) tt
none_of_error {Q = Q} (Err n) o e f h = subst (λ (o : Option ℕ). IfNone o Q) (sym e) (f h)
