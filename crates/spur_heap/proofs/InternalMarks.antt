-- The internal objects, as they are entered into a map of starts.
use Rattle.std.proofs.Common.{◌≡◌, ◌≢◌, ℕ, suc, zero, Bool, true, false, not, ◌&&◌, ◌||◌, ◌+◌, ◌*◌, ◌/◌, ◌<◌, eqb, length, get_or, sym, ap, ◌∙◌, arith, inl, inr, Some}
use Rattle.std.proofs.Math.Bool.{or_comm, or_assoc}
use mathlib.Core.Bool.{and-false}
use Rattle.std.proofs.lemmas.Bool.{cases_eq, eq-eqb, ne_eqb}
use Rattle.heap_walk.specs.Starts.{has_start}
use Rattle.heap_walk.specs.declared.starts.StartMap.{StartMap}
use Rattle.spur_graph.specs.Cells.{Store, first, any_below}
use Rattle.spur_graph.specs.Ordinary.{page_places, root_slot, tells, is_at, is_internal}
use Rattle.spur_graph.specs.Heaps.{View, store_of, heap_to}
use Rattle.heap_cells.specs.Settled.{word_of}
use Rattle.heap_cells.proofs.Below.{any_below-same}
use Rattle.heap_cells.proofs.CellKinds.{there_starts}
use Rattle.heap_cells.proofs.Internals.{place_named, place_there}
use Rattle.heap_cells.proofs.WholeClosed.{sound_loadable}
use Rattle.spur_heap.specs.Words.{AreSound}
use Rattle.spur_heap.specs.Counting.{names_page, root_names}
use Rattle.spur_heap.proofs.Hops.{start_at}
use Rattle.spur_heap.proofs.Pages.{word_named, root_place}

any_below-and : (a : Bool) (f : ℕ → Bool) (n : ℕ) → any_below (λ i. a && f i) n ≡ a && any_below f n
unfolding any_below
any_below-and a f zero = sym (and-false a)
any_below-and true f (suc n) = ap (λ b. f n || b) (any_below-and true f n)
any_below-and false f (suc n) = any_below-and false f n

-- words that name places are the same where the places are
pub same_words : (s t : ℕ) → eqb (8 * s) (8 * t) ≡ eqb s t
same_words s t = elim (cases_eq s t) [
  | inl e ↦ eq-eqb (8 * s) (8 * t) (omega (arith, e)) ∙ sym (eq-eqb s t e)
  | inr n ↦ ne_eqb (8 * s) (8 * t) (λ e. n (omega (arith, e))) ∙ sym (ne_eqb s t n)
]

-- where a place of the hidden roots leads
pub record Place (v : View) (i : ℕ) : Type 0 where
  pub start : ℕ
  pub named : heap_to (root_slot (store_of v) i) ≡ Some start
  pub word : root_slot (store_of v) i ≡ 8 * start
  pub told : get_or v.words (first (store_of v) 4 + 1 + i) 0 ≡ 8 * start
  pub below : start < length v.words

module _ (v : View) (k : AreSound v) where
  pub place_of : (i : ℕ) → i < page_places → Place v i
  place_of i l =
      let loadable = sound_loadable (store_of v) k.sound in
      let p = place_named loadable i l in
      let told = (root_place v k i (omega (arith, l))).1 in
      let there = place_there loadable i p.0 l p.1 in
      let low = (start_at v k p.0 (there_starts ((store_of v).cell p.0) there)).below in
      let word = (word_named (root_slot (store_of v) i) p.0 p.1).0 in
      record { start = p.0; named = p.1; word = word; told = sym told ∙ word; below = omega (arith, low) }

  pub page_below : (i : ℕ) → i < page_places → get_or v.words (first (store_of v) 4 + 1 + i) 0 / 8 < length v.words
  page_below i l = let p = place_of i l in omega (arith, p.told, p.below)

  -- a place that names this start and not nil
  named_page : (s i : ℕ) → i < page_places → root_names v.words (first (store_of v) 4) (word_of (first (store_of v) 0)) s i ≡ (not (eqb s (first (store_of v) 0)) && tells (store_of v) i s)
  named_page s i l =
      let h : Store = store_of v in
      let p = place_of i l in
      let nil : ℕ = first h 0 in
      let eighth : 8 * p.start / 8 ≡ p.start = omega arith in
      ap (names_page (8 * nil) s) p.told
      ∙ (λ x. not (same_words p.start nil x) && eqb (eighth x) s)
      ∙ elim (cases_eq p.start s) [
        | inl e ↦ ap (λ t. not (eqb t nil) && eqb p.start s) e
        | inr n ↦ ap (λ b. not (eqb p.start nil) && b) (ne_eqb p.start s n) ∙ and-false (not (eqb p.start nil)) ∙ sym (ap (λ b. not (eqb s nil) && b) (ne_eqb p.start s n) ∙ and-false (not (eqb s nil)))
      ]
      ∙ ap (λ o. not (eqb s nil) && is_at s o) (sym p.named)

  -- the map with the pages, then with two more starts
  pub internal_marked : (pages one two : StartMap) (lists roots nil : ℕ) → lists ≡ first (store_of v) 3 → roots ≡ first (store_of v) 4 → nil ≡ word_of (first (store_of v) 0)
      → ((s : ℕ) → has_start pages s ≡ any_below (root_names v.words roots nil s) page_places)
      → has_start one lists ≡ true → ((s : ℕ) → s ≢ lists → has_start one s ≡ has_start pages s)
      → has_start two roots ≡ true → ((s : ℕ) → s ≢ roots → has_start two s ≡ has_start one s)
      → (s : ℕ) → has_start two s ≡ is_internal (store_of v) s
  unfolding is_internal
  internal_marked pages one two lists roots nil lists_is roots_is nil_is marks added others added2 others2 s =
      let h : Store = store_of v in
      let all : has_start pages s ≡ (not (eqb s (first h 0)) && any_below (λ i. tells h i s) page_places) =
      marks s ∙ (λ x. any_below (root_names v.words (roots_is x) (nil_is x) s) page_places)
      ∙ any_below-same (root_names v.words (first h 4) (word_of (first h 0)) s) (λ i. not (eqb s (first h 0)) && tells h i s) page_places (named_page s)
      ∙ any_below-and (not (eqb s (first h 0))) (λ i. tells h i s) page_places in
      let first_one : has_start one s ≡ eqb s lists || has_start pages s = set_one pages one lists added others s in
      let second : has_start two s ≡ eqb s roots || has_start one s = set_one one two roots added2 others2 s in
      second ∙ ap (λ b. eqb s roots || b) first_one
      ∙ sym (or_assoc (eqb s roots) (eqb s lists) (has_start pages s)) ∙ ap (λ b. b || has_start pages s) (or_comm (eqb s roots) (eqb s lists))
      ∙ (λ x. eqb s (lists_is x) || eqb s (roots_is x) || all x)
    where
      set_one : (old new : StartMap) (at : ℕ) → has_start new at ≡ true → ((t : ℕ) → t ≢ at → has_start new t ≡ has_start old t) → (t : ℕ) → has_start new t ≡ eqb t at || has_start old t
      set_one old new at added others t = elim (cases_eq t at) [
        | inl e ↦ ap (has_start new) e ∙ added ∙ sym (ap (λ b. b || has_start old t) (eq-eqb t at e))
        | inr n ↦ others t n ∙ sym (ap (λ b. b || has_start old t) (ne_eqb t at n))
      ]
