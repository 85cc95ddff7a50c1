-- Which slots of the hidden roots name pages, while those that are named are taken out of a map of objects.
use Rattle.std.proofs.Common.{◌≡◌, ◌≢◌, ℕ, suc, Bool, true, false, not, ◌&&◌, ◌||◌, ◌+◌, eqb, refl, sym, ap, ◌∙◌, arith, inl, inr, Some, None, Option}
use mathlib.Core.Bool.{and-false, and-true}
use Rattle.std.proofs.lemmas.Bool.{cases_Bool, cases_eq, eq-eqb, ne_eqb}
use Rattle.spur_graph.specs.Cells.{Store, is_there, first, any_below}
use Rattle.spur_graph.specs.Ordinary.{page_places, is_at, passes, body_at, root_slot, tells, is_first, is_page_body, is_page, is_internal, is_ordinary, is_bad_page}
use Rattle.image_words.specs.declared.image.Roots.{Roots}
use Rattle.image_words.specs.Roots.{has_root, AreRoots}
use Rattle.image_checks.specs.Checked.{AreLeft, is_taken}

pub no_start : (o : Option ℕ) → ((s : ℕ) → o ≡ Some s → ⊥) → o ≡ None
no_start None none = refl
no_start (Some s) none = absurd (none s refl)

same_tests : (has there body array first listed told inside : Bool) → has ≡ there && not told → (there ≡ true → body ≡ array) → (there ≡ true → inside ≡ true) → listed ≡ first
    → inside && has && not listed && array ≡ there && body && not first && not told
same_tests has there body array first listed told inside e b i l = elim (cases_Bool there) [
  | inl on ↦ rw (e, on, b on, i on, l) (shuffled array first told)
  | inr off ↦ rw (e, off) (none inside listed array)
]
  where
    shuffled : (a f t : Bool) → true && (true && not t) && not f && a ≡ true && a && not f && not t
    shuffled true true true = refl
    shuffled true true false = refl
    shuffled true false true = refl
    shuffled true false false = refl
    shuffled false true true = refl
    shuffled false true false = refl
    shuffled false false true = refl
    shuffled false false false = refl

    none : (i l a : Bool) → i && false && not l && a ≡ false
    none true l a = refl
    none false l a = refl

one_of_five : (a b c d e : Bool) → a || b || c || d || e ≡ a || (b || (c || (d || (e || false))))
one_of_five true b c d e = refl
one_of_five false true c d e = refl
one_of_five false false true d e = refl
one_of_five false false false true e = refl
one_of_five false false false false true = refl
one_of_five false false false false false = refl

module _ (h : Store) where
  -- the test of the first five starts is that of the roots
  pub roots_same : (roots : Roots) (s : ℕ) → AreRoots h roots → has_root roots s ≡ is_first h s
  unfolding any_below
  roots_same roots s a =
      (λ x. eqb (a.hidden_roots x) s || eqb (a.free_lists x) s || eqb (a.true_object x) s || eqb (a.false_object x) s || eqb (a.nil x) s)
      ∙ one_of_five (eqb (first h 4) s) (eqb (first h 3) s) (eqb (first h 2) s) (eqb (first h 1) s) (eqb (first h 0) s)

  -- ---- one slot

  -- it names nothing
  pub unnamed_bad : (i : ℕ) → h.to (root_slot h i) ≡ None → is_bad_page h i ≡ true
  unfolding is_page
  unnamed_bad i e =
      let test = λ (s : ℕ). is_there (h.cell s) && is_page_body (body_at h s) && not (is_first h s) && not (any_below (λ j. tells h j s) i) in
      λ x. not (is_at (first h 0) (e x)) && not (passes test (e x))

  -- it names nil
  pub nil_good : (i s : ℕ) → h.to (root_slot h i) ≡ Some s → s ≡ first h 0 → is_bad_page h i ≡ false
  nil_good i s e nil = ap (λ b. not b && not (is_page h i)) (ap (is_at (first h 0)) e ∙ eq-eqb s (first h 0) nil)

  -- it names another start, which is that of a page where the test says so
  pub page_test : (i s : ℕ) → h.to (root_slot h i) ≡ Some s → s ≢ first h 0
      → is_bad_page h i ≡ not (is_there (h.cell s) && is_page_body (body_at h s) && not (is_first h s) && not (any_below (λ j. tells h j s) i))
  unfolding is_page
  page_test i s e other =
      let test = λ (s : ℕ). is_there (h.cell s) && is_page_body (body_at h s) && not (is_first h s) && not (any_below (λ j. tells h j s) i) in
      let nil : is_at (first h 0) (h.to (root_slot h i)) ≡ false = ap (is_at (first h 0)) e ∙ ne_eqb s (first h 0) other in
      λ x. not (nil x) && not (passes test (e x))

  -- the code's test
  pub free_test : (i s : ℕ) (has : ℕ → Bool) (inside listed array : Bool) → h.to (root_slot h i) ≡ Some s → s ≢ first h 0 → AreLeft h i has
      → (is_there (h.cell s) ≡ true → is_page_body (body_at h s) ≡ array) → (is_there (h.cell s) ≡ true → inside ≡ true) → listed ≡ is_first h s
      → is_bad_page h i ≡ not (inside && has s && not listed && array)
  free_test i s has inside listed array e other left body in_words list =
      let told = any_below (λ j. tells h j s) i in
      let now : has s ≡ is_there (h.cell s) && not told = left s ∙ ap (λ b. is_there (h.cell s) && not (not b && told)) (ne_eqb s (first h 0) other) in
      page_test i s e other ∙ ap not (sym (same_tests (has s) (is_there (h.cell s)) (is_page_body (body_at h s)) array (is_first h s) listed told inside now body in_words list))

  -- ---- what is left behind it

  more_told : (i s : ℕ) → any_below (λ j. tells h j s) (i + 1) ≡ tells h i s || any_below (λ j. tells h j s) i
  unfolding any_below
  more_told i s = let e : i + 1 ≡ suc i = omega arith in ap (any_below (λ j. tells h j s)) e

  pub left_nil : (i t : ℕ) (has : ℕ → Bool) → h.to (root_slot h i) ≡ Some t → t ≡ first h 0 → AreLeft h i has → AreLeft h (i + 1) has
  left_nil i t has e nil left s = left s ∙ ap (λ b. is_there (h.cell s) && not b) (elim (cases_eq s (first h 0)) [
    | inl same ↦ let off : not (eqb s (first h 0)) ≡ false = ap not (eq-eqb s (first h 0) same) in
        ap (λ b. b && any_below (λ j. tells h j s) i) off ∙ sym (ap (λ b. b && any_below (λ j. tells h j s) (i + 1)) off)
    | inr other ↦ ap (λ b. not (eqb s (first h 0)) && b) (sym (more_told i s ∙ ap (λ b. b || any_below (λ j. tells h j s) i) (ap (is_at s) e ∙ ne_eqb t s (λ is. other (sym is ∙ nil)))))
  ])

  pub left_page : (i t : ℕ) (has now : ℕ → Bool) → h.to (root_slot h i) ≡ Some t → t ≢ first h 0 → AreLeft h i has → now t ≡ false → ((s : ℕ) → s ≢ t → now s ≡ has s) → AreLeft h (i + 1) now
  left_page i t has now e page left gone others s = elim (cases_eq s t) [
    | inl same ↦
        let told : tells h i s ≡ true = ap (is_at s) e ∙ eq-eqb t s (sym same) in
        let taken : is_taken h (i + 1) s ≡ true = (λ x. not (ne_eqb s (first h 0) (λ is. page (sym same ∙ is)) x) && (more_told i s x)) ∙ ap (λ b. b || any_below (λ j. tells h j s) i) told in
        ap now same ∙ gone ∙ sym (ap (λ b. is_there (h.cell s) && not b) taken ∙ and-false (is_there (h.cell s)))
    | inr other ↦
        let untold : tells h i s ≡ false = ap (is_at s) e ∙ ne_eqb t s (λ is. other (sym is)) in
        others s other ∙ left s ∙ ap (λ b. is_there (h.cell s) && not (not (eqb s (first h 0)) && b)) (sym (more_told i s ∙ ap (λ b. b || any_below (λ j. tells h j s) i) untold))
  ]

  -- at first nothing is taken
  pub left_all : (has : ℕ → Bool) → ((s : ℕ) → has s ≡ is_there (h.cell s)) → AreLeft h 0 has
  unfolding any_below
  left_all has all s = all s ∙ sym (ap (λ b. is_there (h.cell s) && not b) (and-false (not (eqb s (first h 0)))) ∙ and-true (is_there (h.cell s)))

  -- at the end the ordinary objects are left, once the free lists object and the hidden roots are taken out
  pub left_ordinary : (has one two : ℕ → Bool) (a b : ℕ) → a ≡ first h 3 → b ≡ first h 4 → AreLeft h page_places has
      → one a ≡ false → ((s : ℕ) → s ≢ a → one s ≡ has s) → two b ≡ false → ((s : ℕ) → s ≢ b → two s ≡ one s) → (s : ℕ) → two s ≡ is_ordinary h s
  unfolding is_internal
  left_ordinary has one two a b lists roots left gone others gone_too others_too s = elim (cases_eq s b) [
    | inl same ↦ ap two same ∙ gone_too ∙ sym ((λ x. is_there (h.cell s) && not (eqb s (first h 3) || eq-eqb s (first h 4) (same ∙ roots) x || is_taken h page_places s)) ∙ never (is_there (h.cell s)) (eqb s (first h 3)) (is_taken h page_places s))
    | inr other ↦ others_too s other ∙ elim (cases_eq s a) [
      | inl same ↦ ap one same ∙ gone ∙ sym ((λ x. is_there (h.cell s) && not (eq-eqb s (first h 3) (same ∙ lists) x || eqb s (first h 4) || is_taken h page_places s)) ∙ nowhere (is_there (h.cell s)) (eqb s (first h 4)) (is_taken h page_places s))
      | inr apart ↦ others s apart ∙ left s ∙ sym (λ x. is_there (h.cell s) && not (ne_eqb s (first h 3) (λ is. apart (is ∙ sym lists)) x || ne_eqb s (first h 4) (λ is. other (is ∙ sym roots)) x || is_taken h page_places s))
    ]
  ]
    where
      never : (t a b : Bool) → t && not (a || true || b) ≡ false
      never true true b = refl
      never true false b = refl
      never false a b = refl

      nowhere : (t a b : Bool) → t && not (true || a || b) ≡ false
      nowhere true a b = refl
      nowhere false a b = refl
