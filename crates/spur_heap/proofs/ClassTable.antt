-- Which indices the class table has entries and pages for.
use Rattle.std.proofs.Common.{◌≡◌, ℕ, suc, zero, Bool, true, false, not, cond, ◌&&◌, ◌+◌, ◌/◌, ◌<◌, ◌≤◌, eqb, List, [], ◌∷◌, map, refl, sym, ap, ◌∙◌, arith, inl, inr}
use mathlib.Core.Bool.{and-false}
use Rattle.std.proofs.lemmas.Bool.{cases_Bool, cases_lt, eq-eqb, le-ltb, false_from_ne_true}
use Rattle.std.proofs.lemmas.Map.Views.{any-filter_same, list_any-from_Contains, Contains-from_any}
use Rattle.std.specs.Option.{unwrap_or, is_none}
use Rattle.std.specs.List.{filter, list_any, range_with_len}
use Rattle.std.specs.Ordering.{nat_cmp, eq_by_cmp}
use Rattle.std.specs.Cmp.{nat_cmp_total, eq_by_cmp_equiv}
use Rattle.std.specs.FinMap.{get, from_entries, find, get-from_entries}
use Rattle.std.specs.FinSet.{contains, contains-from_list}
use Rattle.spur_graph.specs.Cells.{Store, first, lead}
use Rattle.spur_graph.specs.Ordinary.{class_limit, page_entries, page_places, is_at, is_nil_slot, passes, is_ordinary, is_good_reference, root_slot, has_page, entry}
use Rattle.spur_graph.specs.CellGraph.{read, has_class, classes_of}
use Rattle.spur_graph.specs.HeapRoom.{room_in}
use Rattle.spur_graph.specs.Heaps.{View, store_of, own_name, heap_graph, heap_room}
use Rattle.heap_cells.specs.Settled.{settled_word, word_of}
use Rattle.heap_cells.proofs.Entries.{entry_passes, place_below}
use Rattle.heap_cells.proofs.Finding.{key_same}
use Rattle.heap_cells.proofs.Members.{In, in_list, listed, in_range}
use Rattle.heap_cells.proofs.References.{not_immediate}
use Rattle.spur_heap.specs.Words.{AreSound}
use Rattle.spur_heap.specs.Views.{class_word}
use Rattle.spur_heap.proofs.Hops.{reference_named}
use Rattle.spur_heap.proofs.Pages.{outer_ordinary}
use Rattle.spur_heap.proofs.InternalMarks.{same_words, place_of}

below_range : (a n i : ℕ) → In (range_with_len a n) i → i < a + n
below_range a zero i m = absurd m
below_range a (suc n) i m = elim m [
  | inl e ↦ omega (arith, e)
  | inr more ↦ let l = below_range (a + 1) n i more in omega (arith, l)
]

-- whether a key is among those of a range that pass a test
pub key_kept : (test : ℕ → Bool) (n i : ℕ) → i < n → list_any (eq_by_cmp nat_cmp i) (filter test (range_with_len 0 n)) ≡ test i
key_kept test n i l =
    let there : list_any (eq_by_cmp nat_cmp i) (range_with_len 0 n) ≡ true = list_any-from_Contains (eq_by_cmp_equiv nat_cmp_total) i (range_with_len 0 n) (listed (range_with_len 0 n) i (in_range 0 n i (omega arith) (omega (arith, l)))) in
    any-filter_same (eq_by_cmp nat_cmp i) test (test i) (λ k e. ap test (sym (key_same i k e))) (range_with_len 0 n) ∙ ap (λ b. test i && b) there ∙ and_true (test i)
  where
    and_true : (b : Bool) → (b && true) ≡ b
    and_true true = refl
    and_true false = refl

pub key_past : (test : ℕ → Bool) (n i : ℕ) → n ≤ i → list_any (eq_by_cmp nat_cmp i) (filter test (range_with_len 0 n)) ≡ false
key_past test n i far =
    let none : list_any (eq_by_cmp nat_cmp i) (range_with_len 0 n) ≡ false =
    false_from_ne_true _ (λ on. let l = below_range 0 n i (in_list (range_with_len 0 n) i (Contains-from_any (λ x y e. key_same x y e) i (range_with_len 0 n) on)) in omega (arith, l, far)) in
    any-filter_same (eq_by_cmp nat_cmp i) test (test i) (λ k e. ap test (sym (key_same i k e))) (range_with_len 0 n) ∙ ap (λ b. test i && b) none ∙ and-false (test i)

twice : (b : Bool) → b ≡ not (not b)
twice true = refl
twice false = refl

found_none : {X : Type 0} (f : ℕ → X) (i : ℕ) (js : List ℕ) → is_none (find nat_cmp i (map (λ j. (j, f j)) js)) ≡ not (list_any (eq_by_cmp nat_cmp i) js)
found_none f i [] = refl
found_none f i (j ∷ js) = elim (cases_Bool (eq_by_cmp nat_cmp i j)) [ inl on ↦ rw on refl | inr off ↦ rw off (found_none f i js) ]

module _ (v : View) (k : AreSound v) (index : ℕ) where
  -- an index has no entry where it has no class
  pub no_entry : is_none (get (heap_graph v).classes index) ≡ not (has_class (store_of v) index)
  unfolding classes_of
  no_entry = among class_limit refl
    where
      among : (n : ℕ) → n ≡ class_limit → is_none (get (from_entries {R = nat_cmp} (map (λ j. (j, read own_name (store_of v) (entry (store_of v) j))) (filter (has_class (store_of v)) (range_with_len 0 n)))) index) ≡ not (has_class (store_of v) index)
      among n all =
          ap is_none (get-from_entries nat_cmp_total (map (λ j. (j, read own_name (store_of v) (entry (store_of v) j))) (filter (has_class (store_of v)) (range_with_len 0 n))) index)
          ∙ found_none (λ j. read own_name (store_of v) (entry (store_of v) j)) index (filter (has_class (store_of v)) (range_with_len 0 n))
          ∙ ap not (elim (cases_lt index n) [
            | inl low ↦ key_kept (has_class (store_of v)) n index low
            | inr far ↦ key_past (has_class (store_of v)) n index far
                ∙ sym (ap (λ b. (b && not (is_nil_slot (store_of v) (index / page_entries))) && not (is_at (first (store_of v) 0) (lead (store_of v) (entry (store_of v) index)))) (le-ltb index class_limit (omega (arith, far, all))))
          ])

  pub unentered_told : (word nil : ℕ) → class_word v index word → nil ≡ word_of (first (store_of v) 0) → eqb word nil ≡ is_none (get (heap_graph v).classes index)
  unentered_told word nil is nil_is = (λ x. eqb (is x) (nil_is x)) ∙ word_told ∙ sym no_entry
    where
      h : Store
      h = store_of v

      word_told : eqb (cond (has_page h index) (settled_word h (entry h index)) (word_of (first h 0))) (word_of (first h 0)) ≡ not (has_class h index)
      word_told = elim (cases_Bool (has_page h index)) [
        | inr off ↦
            ap (λ b. eqb (cond b (settled_word h (entry h index)) (word_of (first h 0))) (word_of (first h 0))) off ∙ eq-eqb (word_of (first h 0)) (word_of (first h 0)) refl
            ∙ sym (ap (λ b. not (b && not (is_at (first h 0) (lead h (entry h index))))) off)
        | inl on ↦
            let p = entry_passes h index (outer_ordinary v k 0 (omega arith)) on (k.sound.roots.entries index) in
            let good : is_good_reference h (entry h index) ≡ true = ap (passes (is_ordinary h)) p.is ∙ p.holds in
            let z = (reference_named v k (entry h index) good).aligned in
            let settled : settled_word h (entry h index) ≡ word_of p.one =
            ap (λ b. cond b (entry h index) (cond (is_good_reference h (entry h index)) (word_of (unwrap_or (lead h (entry h index)) (first h 0))) (word_of (first h 0)))) (not_immediate (entry h index) z)
            ∙ ap (λ b. cond b (word_of (unwrap_or (lead h (entry h index)) (first h 0))) (word_of (first h 0))) good
            ∙ ap (λ o. word_of (unwrap_or o (first h 0))) p.is in
            ap (λ b. eqb (cond b (settled_word h (entry h index)) (word_of (first h 0))) (word_of (first h 0))) on ∙ ap (λ w. eqb w (word_of (first h 0))) settled ∙ same_words p.one (first h 0)
            ∙ twice (eqb p.one (first h 0)) ∙ sym (λ x. not (on x && not (is_at (first h 0) (p.is x))))
      ]

  -- there is a page where the hidden roots do not name nil
  pub page_listed : (i : ℕ) → i < page_places → contains (heap_room v).pages i ≡ not (is_nil_slot (store_of v) i)
  unfolding room_in
  page_listed i l =
      contains-from_list nat_cmp_total (filter (λ j. not (is_nil_slot (store_of v) j)) (range_with_len 0 page_places)) i ∙ key_kept (λ j. not (is_nil_slot (store_of v) j)) page_places i l

  pub page_told : index < class_limit → (word nil : ℕ) → word ≡ root_slot (store_of v) (index / page_entries) → nil ≡ word_of (first (store_of v) 0) → not (eqb word nil) ≡ contains (heap_room v).pages (index / page_entries)
  page_told low word nil is nil_is =
      let i : ℕ = index / page_entries in
      let l : i < page_places = place_below index low in
      let h : Store = store_of v in
      let p = place_of v k i l in
      (λ x. not (eqb (is x) (nil_is x))) ∙ ap (λ w. not (eqb w (word_of (first h 0)))) p.word ∙ ap not (same_words p.start (first h 0)) ∙ sym (ap (λ o. not (is_at (first h 0) o)) p.named)
      ∙ sym (page_listed i l)
