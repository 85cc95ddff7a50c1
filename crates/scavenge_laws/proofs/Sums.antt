-- Sums over the entries of two maps that differ at one name.
use Rattle.std.proofs.Common.{◌≡◌, ◌≢◌, ℕ, cond, ◌+◌, List, [], ◌∷◌, refl, sym, ap, ◌∙◌, inl, inr, arith, Some, None, Option}
use Rattle.std.proofs.lemmas.Bool.{cases_eq, eq-eqb, ne_eqb}
use Rattle.std.proofs.lemmas.List.Sums.{sum_by-cons}
use Rattle.std.proofs.lemmas.Option.{none-some}
use Rattle.std.specs.Option.{option_map}
use Rattle.std.specs.List.{sum_by}
use Rattle.std.specs.declared.cmp.Ordering.{Ordering}
use Rattle.std.specs.declared.cmp.Ordering.TheVariants.{Less, Equal, Greater}
use Rattle.std.specs.Ordering.{nat_cmp, eq_by_cmp, is_eq}
use Rattle.std.specs.Cmp.{nat_cmp_total, unsigned_tied}
use Rattle.std.specs.FinMap.{FinMap, get, insert, remove, entries, find, put, get-insert, get-remove, get-entries, entries-insert, same_map, nat_cmp-IsAntisymmetric}
use Rattle.graph_laws.proofs.Counts.{weight-renamed}

module _ {X : Type 0} (E : ℕ × X → ℕ) where
  -- an entry with a new name adds what it counts
  sum-put : (a : ℕ) (x : X) (es : List (ℕ × X)) → find nat_cmp a es ≡ None → sum_by E (put nat_cmp a x es) ≡ E (a, x) + sum_by E es
  sum-put a x [] e = sum_by-cons E (a, x) []
  sum-put a x (y ∷ es) e = by (nat_cmp a y.0) refl (sum-put a x es)
    where
      by : (o : Ordering) → nat_cmp a y.0 ≡ o → (find nat_cmp a es ≡ None → sum_by E (put nat_cmp a x es) ≡ E (a, x) + sum_by E es) → sum_by E (put nat_cmp a x (y ∷ es)) ≡ E (a, x) + sum_by E (y ∷ es)
      by Less is later = rw is (sum_by-cons E (a, x) (y ∷ es))
      by Equal is later = absurd (none-some y.1 (sym e ∙ ap (λ o. cond (is_eq o) (Some y.1) (find nat_cmp a es)) is))
      by Greater is later =
          let among = later (ap (λ o. cond (is_eq o) (Some y.1) (find nat_cmp a es)) (sym is) ∙ e) in
          rw is (omega (arith, sum_by-cons E y (put nat_cmp a x es), sum_by-cons E y es, among))

  -- a map is another with this entry, where they agree elsewhere
  module _ (m m' : FinMap nat_cmp X) (a : ℕ) (x : X) (there : get m' a ≡ Some x) (else : (b : ℕ) → b ≢ a → get m' b ≡ get m b) where
    with_entry : m' ≡ insert (remove m a) a x
    with_entry = same_map nat_cmp_total nat_cmp-IsAntisymmetric m' (insert (remove m a) a x)
        (λ b. by b ∙ sym (get-insert nat_cmp_total (remove m a) a x b ∙ ap (cond (eq_by_cmp nat_cmp b a) (Some x)) (get-remove nat_cmp_total m a b)))
      where
        by : (b : ℕ) → get m' b ≡ cond (eq_by_cmp nat_cmp b a) (Some x) (cond (eq_by_cmp nat_cmp b a) None (get m b))
        by b = elim (cases_eq b a) [
          | inl same ↦ ap (get m') same ∙ there ∙ sym (ap (λ t. cond t (Some x) (cond t None (get m b))) (unsigned_tied b a ∙ eq-eqb b a same))
          | inr other ↦ else b other ∙ sym (ap (λ t. cond t (Some x) (cond t None (get m b))) (unsigned_tied b a ∙ ne_eqb b a other))
        ]

    sum-entry : sum_by E (entries m') ≡ E (a, x) + sum_by E (entries (remove m a))
    sum-entry =
        ap (λ k. sum_by E (entries k)) with_entry
        ∙ ap (sum_by E) (entries-insert nat_cmp_total (remove m a) a x)
        ∙ sum-put a x (entries (remove m a)) (sym (get-entries (remove m a) a) ∙ get-remove nat_cmp_total m a a ∙ ap (λ t. cond t None (get m a)) (unsigned_tied a a ∙ eq-eqb a a refl))

  -- the sums differ as the two entries do
  pub sum-changed : (m m' : FinMap nat_cmp X) (a : ℕ) (x x' : X) (k : ℕ) → get m a ≡ Some x → get m' a ≡ Some x' → ((b : ℕ) → b ≢ a → get m' b ≡ get m b) → k + E (a, x') ≡ E (a, x) → k + sum_by E (entries m') ≡ sum_by E (entries m)
  sum-changed m m' a x x' k there there' else more =
      let one = sum-entry m m a x there (λ b n. refl) in
      let other = sum-entry m m' a x' there' else in
      omega (arith, one, other, more)

  -- where no entry counts, the sum is 0
  pub sum-none : (m : FinMap nat_cmp X) → ((a : ℕ) (x : X) → get m a ≡ Some x → E (a, x) ≡ 0) → sum_by E (entries m) ≡ 0
  sum-none m none = weight-renamed (λ x. x) (λ a. a) (λ a. a) (λ a. refl) (λ a. refl) m m (λ a. same (get m a)) (λ e. 0) E none ∙ zeros (entries m)
    where
      same : (o : Option X) → o ≡ option_map (λ x. x) o
      same None = refl
      same (Some x) = refl

      zeros : (es : List (ℕ × X)) → sum_by (λ e. 0) es ≡ 0
      zeros [] = refl
      zeros (e ∷ es) = omega (arith, sum_by-cons (λ e. 0) e es, zeros es)
