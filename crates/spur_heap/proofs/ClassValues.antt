-- Which class an index has.
use Rattle.std.proofs.Common.{◌≡◌, inl, inr, ◌<◌, ◌*◌, ◌%◌, ◌&&◌, ◌||◌, eqb, ℕ, map, Bool, true, false, not, cond, refl, ap, sym, ◌∙◌, Some, None, arith}
use Rattle.std.proofs.lemmas.Bool.{false≢true, cases_Bool, cases_eq, and_parts, or_cases, not-true, not-false}
use Rattle.std.specs.Option.{unwrap_or}
use Rattle.std.specs.FinMap.{get, from_entries, get-from_entries}
use Rattle.std.specs.Ordering.{nat_cmp}
use Rattle.std.specs.List.{filter, range_with_len}
use Rattle.std.specs.Cmp.{nat_cmp_total}
use Rattle.spur_graph.specs.declared.answer.Value.TheVariants.{Ref}
use Rattle.spur_graph.specs.Value.{name_of}
use Rattle.spur_graph.specs.Cells.{Store, first, lead}
use Rattle.spur_graph.specs.Ordinary.{class_limit, passes, is_at, has_page, entry, is_entered}
use Rattle.spur_graph.specs.CellGraph.{read, has_class, classes_of}
use Rattle.spur_graph.specs.Heaps.{View, own_name, IsWhole, heap_graph, heap_value}
use Rattle.heap_cells.specs.Settled.{settled_word, word_of}
use Rattle.heap_cells.proofs.Below.{at-named, passed}
use Rattle.heap_cells.proofs.References.{not_immediate}
use Rattle.heap_cells.proofs.Values.{read-reference, reference-good}
use Rattle.spur_heap.specs.Views.{IsGood, store, class_word}
use Rattle.spur_heap.proofs.Following.{own_value, stays, leads}
use Rattle.spur_heap.proofs.Leads.{Leads, reference_leads, aligned_by, good_reference}
use Rattle.spur_heap.proofs.Puts.{whole_sound}
use Rattle.spur_heap.proofs.Pages.{outer_ordinary, no_page, an_entry}
use Rattle.spur_heap.proofs.Keys.{find-range}

-- the class that an index has
pub record HasClass (v : View) (index : ℕ) : Type 0 where
  pub start : ℕ
  pub entered : is_entered (store v) start ≡ true
  pub settled : settled_word (store v) (entry (store v) index) ≡ 8 * start
  pub found : get (heap_graph v).classes index ≡ Some (Ref start)

-- what a class index has in the table
module _ (v : View) (w : IsWhole v) (index : ℕ) (low : index < class_limit) where
  pub class_found : get (heap_graph v).classes index ≡ cond (has_class (store v) index) (Some (heap_value v (entry (store v) index))) None
  unfolding classes_of
  class_found = found class_limit low
    where
      found : (n : ℕ) → index < n → get (from_entries {R = nat_cmp} (map (λ j. (j, read own_name (store v) (entry (store v) j))) (filter (has_class (store v)) (range_with_len 0 n)))) index
          ≡ cond (has_class (store v) index) (Some (heap_value v (entry (store v) index))) None
      found n less =
          get-from_entries nat_cmp_total (map (λ j. (j, read own_name (store v) (entry (store v) j))) (filter (has_class (store v)) (range_with_len 0 n))) index
          ∙ find-range (has_class (store v)) (λ j. read own_name (store v) (entry (store v) j)) n index less

  nil_value : heap_value v (word_of (first (store v) 0)) ≡ Ref (first (store v) 0)
  nil_value = own_value v (first (store v) 0) (outer_ordinary v (whole_sound v w) 0 (omega arith))

  entry_good : has_page (store v) index ≡ true → IsGood v (entry (store v) index)
  entry_good on = (an_entry v (whole_sound v w) index low (λ e. false≢true (sym (no_page v (whole_sound v w) index e) ∙ on))).good

  settled_value : has_page (store v) index ≡ true → heap_value v (settled_word (store v) (entry (store v) index)) ≡ heap_value v (entry (store v) index)
  settled_value on =
      let e : ℕ = entry (store v) index in
      let good = entry_good on in
      elim (cases_eq (e % 8) 0) [
        | inl z ↦ let f = leads v (whole_sound v w) e good z in ap (heap_value v) (sym f.followed) ∙ f.value
        | inr n ↦ let f = stays v (whole_sound v w) e good n in ap (heap_value v) (sym f.followed) ∙ f.value
      ]

  -- an entry reads as the object to which it leads
  pub leading_value : (s : ℕ) → has_page (store v) index ≡ true → lead (store v) (entry (store v) index) ≡ Some s → heap_value v (entry (store v) index) ≡ Ref s
  leading_value s on is =
      let h : Store = store v in
      let e : ℕ = entry h index in
      let z : e % 8 ≡ 0 = aligned_by v e s is in
      read-reference own_name h e z ∙ reference-good own_name h e s (good_reference v e (entry_good on) (not_immediate e z)) is

  -- an entry that leads to nil reads as nil
  at_nil : has_page (store v) index ≡ true → is_at (first (store v) 0) (lead (store v) (entry (store v) index)) ≡ true → heap_value v (entry (store v) index) ≡ Ref (first (store v) 0)
  at_nil on at = leading_value (first (store v) 0) on (at-named (first (store v) 0) (lead (store v) (entry (store v) index)) at)

  both_off : (a b : Bool) → a ≡ true → (a && not b) ≡ false → b ≡ true
  both_off true true on off = refl
  both_off true false on off = cc
  both_off false b on off = cc

  pub class_there : (result : ℕ) → class_word v index result → heap_value v result ≡ unwrap_or (get (heap_graph v).classes index) (Ref (first (store v) 0))
  class_there result is = elim (cases_Bool (has_page (store v) index)) [
    | inr none ↦
        let no_class : has_class (store v) index ≡ false = ap (λ b. b && not (is_at (first (store v) 0) (lead (store v) (entry (store v) index)))) none in
        ap (heap_value v) (is ∙ ap (λ b. cond b (settled_word (store v) (entry (store v) index)) (word_of (first (store v) 0))) none) ∙ nil_value
        ∙ sym (ap (λ o. unwrap_or o (Ref (first (store v) 0))) (class_found ∙ ap (λ b. cond b (Some (heap_value v (entry (store v) index))) None) no_class))
    | inl on ↦
        ap (heap_value v) (is ∙ ap (λ b. cond b (settled_word (store v) (entry (store v) index)) (word_of (first (store v) 0))) on) ∙ settled_value on
        ∙ elim (cases_Bool (has_class (store v) index)) [
          | inl has ↦ sym (ap (λ o. unwrap_or o (Ref (first (store v) 0))) (class_found ∙ ap (λ b. cond b (Some (heap_value v (entry (store v) index))) None) has))
          | inr lacks ↦
              at_nil on (both_off (has_page (store v) index) (is_at (first (store v) 0) (lead (store v) (entry (store v) index))) on lacks)
              ∙ sym (ap (λ o. unwrap_or o (Ref (first (store v) 0))) (class_found ∙ ap (λ b. cond b (Some (heap_value v (entry (store v) index))) None) lacks))
        ]
  ]

  pub class_leads : has_class (store v) index ≡ true → HasClass v index
  class_leads has =
      let h : Store = store v in
      let e : ℕ = entry h index in
      let nil : ℕ = first h 0 in
      let parts = and_parts (has_page h index) (not (is_at nil (lead h e))) has in
      let test = λ (s : ℕ). eqb s nil || (not (eqb index 0) && is_entered h s) in
      let p = passed test (lead h e) (not-false _ (sym (ap (λ b. b && not (passes test (lead h e))) parts.0) ∙ w.sound.roots.entries index)) in
      let value = leading_value p.one parts.0 p.is in
      let l : Leads v e = reference_leads v e (good_reference v e (entry_good parts.0) (not_immediate e (aligned_by v e p.one p.is))) in
      let one : l.start ≡ p.one = ap name_of (sym l.value ∙ value) in
      record {
        start = p.one;
        entered = elim (or_cases (eqb p.one nil) (not (eqb index 0) && is_entered h p.one) p.holds) [
          | inl same ↦ absurd (false≢true (sym (not-true _ parts.1) ∙ ap (is_at nil) p.is ∙ same))
          | inr class ↦ (and_parts (not (eqb index 0)) (is_entered h p.one) class).1
        ];
        settled = l.settled ∙ ap (λ s. 8 * s) one;
        found = class_found ∙ ap (λ b. cond b (Some (heap_value v e)) None) has ∙ ap (λ x. Some x) value;
      }

  pub no_class : has_class (store v) index ≡ false → get (heap_graph v).classes index ≡ None
  no_class none = class_found ∙ ap (λ b. cond b (Some (heap_value v (entry (store v) index))) None) none

  pub class_word_of : (k : HasClass v index) → has_class (store v) index ≡ true → (result : ℕ) → class_word v index result → result ≡ 8 * k.start
  class_word_of k has result is =
      is
      ∙ ap (λ b. cond b (settled_word (store v) (entry (store v) index)) (word_of (first (store v) 0))) (and_parts (has_page (store v) index) (not (is_at (first (store v) 0) (lead (store v) (entry (store v) index)))) has).0
      ∙ k.settled
