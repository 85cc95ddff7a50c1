-- The class table once an object became a forwarder: the entered classes are those of before, with the other object in place of the first.
use Rattle.std.proofs.Common.{◌≡◌, ℕ, true, false, not, ◌&&◌, ◌||◌, eqb, refl, sym, ap, ◌∙◌, arith, inl, inr, Some}
use Rattle.std.proofs.lemmas.Bool.{cases_Bool, cases_eq, eq-eqb, eqb-true, ne_eqb, and_parts, and_left, and_right, or_cases, or_left, or_right, not-false, not_from_true}
use Rattle.std.specs.Option.{option_map}
use Rattle.spur_graph.specs.Become.{instead}
use Rattle.spur_graph.specs.Cells.{Store, body_of, first, lead}
use Rattle.spur_graph.specs.Ordinary.{is_at, passes, body_at, is_ordinary, has_page, entry, has_entry, is_no_index, is_entered, is_bad_entry}
use Rattle.spur_graph.specs.CellGraph.{has_class}
use Rattle.heap_cells.proofs.Below.{and-same, at-named, passed}
use Rattle.heap_cells.proofs.Forwarding.{Forwards, with_forwarder, others_kept, b_kept, ordinary-instead, has_page-same, entry-lead}
use Rattle.heap_cells.proofs.Retargeting.{instead-here, instead-other}

module _ {old : Store} {a b : ℕ} (k : Forwards old a b) where
  abbrev new : Store
  new = with_forwarder old a b

  hash_instead : (t : ℕ) → is_entered old t ≡ true → (body_at new (instead a b t)).hash ≡ (body_at old t).hash
  hash_instead t on = elim (cases_eq t a) [
    | inl e ↦
        ap (λ u. (body_at new u).hash) (instead-here a b t e) ∙ ap (λ c. (body_of c).hash) (b_kept k)
        ∙ (k.classed (sym (ap (is_entered old) e) ∙ on)).0 ∙ sym (ap (λ u. (body_at old u).hash) e)
    | inr n ↦ ap (λ u. (body_at new u).hash) (instead-other a b t n) ∙ ap (λ c. (body_of c).hash) (others_kept k t n)
  ]

  entered-kept : (t : ℕ) → is_entered old t ≡ true → is_entered new (instead a b t) ≡ true
  unfolding is_entered
  entered-kept t on =
      let u : ℕ = instead a b t in
      let n : ℕ = (body_at old t).hash in
      let parts = and_parts (is_ordinary old t && not (is_no_index n)) (has_entry old n t) on in
      let front = and_parts (is_ordinary old t) (not (is_no_index n)) parts.0 in
      let entered = and_parts (has_page old n) (is_at t (lead old (entry old n))) parts.1 in
      let hash : (body_at new u).hash ≡ n = hash_instead t on in
      let leads : lead new (entry new n) ≡ Some u = entry-lead k n entered.0 ∙ ap (option_map (instead a b)) (at-named t (lead old (entry old n)) entered.1) in
      let has : has_entry new n u ≡ true = λ x. (has_page-same k n ∙ entered.0) x && (ap (is_at u) leads ∙ eq-eqb u u refl) x in
      let ordinary : is_ordinary new u ≡ true = ordinary-instead k t ∙ front.0 in
      let index : not (is_no_index (body_at new u).hash) ≡ true = ap (λ m. not (is_no_index m)) hash ∙ front.1 in
      λ x. ordinary x && index x && (ap (λ m. has_entry new m u) hash ∙ has) x

  pub bad_entry-none : (i : ℕ) → is_bad_entry new i ≡ false
  bad_entry-none i = elim (cases_Bool (has_page old i)) [
    | inr off ↦ and_left (has_page new i) _ (has_page-same k i ∙ off)
    | inl on ↦
        let old_test = λ (t : ℕ). eqb t (first old 0) || (not (eqb i 0) && is_entered old t) in
        let new_test = λ (t : ℕ). eqb t (first old 0) || (not (eqb i 0) && is_entered new t) in
        let held : passes old_test (lead old (entry old i)) ≡ true = not-false _ (sym (ap (λ x. x && not (passes old_test (lead old (entry old i)))) on) ∙ k.sound.roots.entries i) in
        let p = passed old_test (lead old (entry old i)) held in
        let now : new_test (instead a b p.one) ≡ true = elim (or_cases (eqb p.one (first old 0)) (not (eqb i 0) && is_entered old p.one) p.holds) [
          | inl at_nil ↦
              let is : p.one ≡ first old 0 = eqb-true p.one (first old 0) at_nil in
              or_left (eqb (instead a b p.one) (first old 0)) _ (ap (λ t. eqb t (first old 0)) (instead-other a b p.one (λ e. k.plain 0 (omega arith) (sym e ∙ is))) ∙ at_nil)
          | inr class ↦ let c = and_parts (not (eqb i 0)) (is_entered old p.one) class in or_right (eqb (instead a b p.one) (first old 0)) _ (λ x. c.0 x && entered-kept p.one c.1 x)
        ] in
        and_right (has_page new i) _ (not_from_true _ (ap (passes new_test) (entry-lead k i on ∙ ap (option_map (instead a b)) p.is) ∙ now))
  ]

  -- an index has a class as before
  is_nil-instead : (i : ℕ) → has_page old i ≡ true → is_at (first old 0) (lead new (entry new i)) ≡ is_at (first old 0) (lead old (entry old i))
  is_nil-instead i on =
      let old_test = λ (t : ℕ). eqb t (first old 0) || (not (eqb i 0) && is_entered old t) in
      let held : passes old_test (lead old (entry old i)) ≡ true = not-false _ (sym (ap (λ x. x && not (passes old_test (lead old (entry old i)))) on) ∙ k.sound.roots.entries i) in
      let p = passed old_test (lead old (entry old i)) held in
      ap (is_at (first old 0)) (entry-lead k i on ∙ ap (option_map (instead a b)) p.is) ∙ at p.one p.holds ∙ ap (is_at (first old 0)) (sym p.is)
    where
      at : (t : ℕ) → (eqb t (first old 0) || (not (eqb i 0) && is_entered old t)) ≡ true → eqb (instead a b t) (first old 0) ≡ eqb t (first old 0)
      at t holds = elim (cases_eq t a) [
        | inr n ↦ ap (λ u. eqb u (first old 0)) (instead-other a b t n)
        | inl e ↦ elim (or_cases (eqb t (first old 0)) (not (eqb i 0) && is_entered old t) holds) [
          | inl nil ↦ absurd (k.plain 0 (omega arith) (sym e ∙ eqb-true t (first old 0) nil))
          | inr class ↦
              let on : is_entered old a ≡ true = ap (is_entered old) (sym e) ∙ (and_parts (not (eqb i 0)) (is_entered old t) class).1 in
              ap (λ u. eqb u (first old 0)) (instead-here a b t e) ∙ ne_eqb b (first old 0) (k.classed on).1
              ∙ sym (ne_eqb t (first old 0) (λ q. k.plain 0 (omega arith) (sym e ∙ q)))
        ]
      ]

  pub has_class-same : (i : ℕ) → has_class (with_forwarder old a b) i ≡ has_class old i
  has_class-same i = and-same (has_page new i) (has_page old i) (not (is_at (first old 0) (lead new (entry new i)))) (not (is_at (first old 0) (lead old (entry old i)))) (has_page-same k i)
      (λ e. ap not (is_nil-instead i e))
