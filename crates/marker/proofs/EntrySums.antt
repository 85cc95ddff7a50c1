-- Sums over the entries of a map of which one counts anew.
use Rattle.std.proofs.Common.{◌≡◌, ◌≢◌, ℕ, Bool, true, false, cond, ◌&&◌, ◌+◌, List, [], ◌∷◌, refl, sym, ap, ◌∙◌, subst, inl, inr, arith, Some, None}
use Rattle.std.proofs.lemmas.Bool.{cases_Bool, false≢true}
use Rattle.std.proofs.lemmas.Cmp.{tied_itself}
use Rattle.std.proofs.lemmas.List.Sums.{sum_by-cons}
use Rattle.std.proofs.lemmas.Option.{none-some, same_Some}
use Rattle.std.specs.Prelude.{T}
use Rattle.std.specs.List.{filter, sum_by}
use Rattle.std.specs.declared.cmp.Ordering.TheVariants.{Equal}
use Rattle.std.specs.Ordering.{nat_cmp, eq_by_cmp, is_lt}
use Rattle.std.specs.Cmp.{nat_cmp_total}
use Rattle.std.specs.FinMap.{FinMap, find, from_sorted, entries, entries_sorted, entries-from_sorted, get-entries, get-from_sorted, get-retain_keys, nat_cmp-IsAntisymmetric, retain_keys, same_map}
use Rattle.std.specs.FinMap.Entries.{below_all, find-where_key, is_sorted, is_sorted-where_key, where_key}
use Rattle.heap_cells.proofs.Finding.{key_same, same_key}

both : (a b : Bool) → T (a && b) → T a × T b
both true b s = (tt, s)
both false b s = absurd s

module _ {X : Type 0} where
  -- what a filter keeps counts
  sum_kept : (p : ℕ × X → Bool) (f : ℕ × X → ℕ) (es : List (ℕ × X)) → sum_by f (filter p es) ≡ sum_by (λ e. cond (p e) (f e) 0) es
  sum_kept p f [] = refl
  sum_kept p f (e ∷ es) =
      let rest = sum_kept p f es in
      let all = sum_by-cons (λ z. cond (p z) (f z) 0) e es in
      elim (cases_Bool (p e)) [
        | inl on ↦ ap (λ b. sum_by f (cond b (e ∷ filter p es) (filter p es))) on ∙ sum_by-cons f e (filter p es) ∙ (λ i. cond (sym on i) (f e) 0 + rest i) ∙ sym all
        | inr off ↦
            let none : cond (p e) (f e) 0 ≡ 0 = ap (λ b. cond b (f e) 0) off in
            ap (λ b. sum_by f (cond b (e ∷ filter p es) (filter p es))) off ∙ rest ∙ omega (arith, all, none)
      ]

  -- the entries that are kept
  entries_kept : (m : FinMap nat_cmp X) (p : ℕ → Bool) → entries (retain_keys m p) ≡ where_key nat_cmp p (entries m)
  entries_kept m p =
      let es : List (ℕ × X) = where_key nat_cmp p (entries m) in
      let rises : T (is_sorted nat_cmp es) = is_sorted-where_key nat_cmp p (entries m) (entries_sorted m) in
      let tied : (q k : ℕ) → nat_cmp q k ≡ Equal → p k ≡ p q = λ q k e. ap p (sym (nat_cmp-IsAntisymmetric q k e)) in
      let made : FinMap nat_cmp X = from_sorted es in
      let same : retain_keys m p ≡ made = same_map nat_cmp_total nat_cmp-IsAntisymmetric (retain_keys m p) made (λ q.
      get-retain_keys m p q (tied q) ∙ ap (λ o. cond (p q) o None) (get-entries m q) ∙ sym (get-from_sorted nat_cmp es q rises ∙ find-where_key nat_cmp p q (tied q) (entries m))) in
      ap entries same ∙ entries-from_sorted nat_cmp es rises

  pub sum_entries_kept : (m : FinMap nat_cmp X) (p : ℕ → Bool) (f : ℕ × X → ℕ) → sum_by f (entries (retain_keys m p)) ≡ sum_by (λ e. cond (p e.0) (f e) 0) (entries m)
  sum_entries_kept m p f = ap (sum_by f) (entries_kept m p) ∙ sum_kept (λ e. p e.0) f (entries m)

  module _ (f f' : ℕ × X → ℕ) where
    -- none of the entries has the key
    sum_apart : (k : ℕ) (es : List (ℕ × X)) → T (below_all nat_cmp k es) → ((e : ℕ × X) → e.0 ≢ k → f' e ≡ f e) → sum_by f' es ≡ sum_by f es
    sum_apart k [] s same = refl
    sum_apart k (e ∷ es) s same =
        let parts = both (is_lt (nat_cmp k e.0)) (below_all nat_cmp k es) s in
        let other : e.0 ≢ k = λ is. subst (λ o. T (is_lt o)) (ap (nat_cmp k) is ∙ tied_itself nat_cmp_total k) parts.0 in
        sum_by-cons f' e es ∙ (λ i. same e other i + sum_apart k es parts.1 same i) ∙ sym (sum_by-cons f e es)

    -- one of them has it, and did not count
    pub sum_one : (k : ℕ) (x : X) (es : List (ℕ × X)) → T (is_sorted nat_cmp es) → find nat_cmp k es ≡ Some x → ((e : ℕ × X) → e.0 ≢ k → f' e ≡ f e) → f (k, x) ≡ 0 → sum_by f' es ≡ sum_by f es + f' (k, x)
    sum_one k x [] s found same none = absurd (none-some x found)
    sum_one k x (e ∷ es) s found same none =
        let parts = both (below_all nat_cmp e.0 es) (is_sorted nat_cmp es) s in
        elim (cases_Bool (eq_by_cmp nat_cmp k e.0)) [
          | inl on ↦
              let key : k ≡ e.0 = key_same k e.0 on in
              let value : e.1 ≡ x = same_Some e.1 x (sym (ap (λ b. cond b (Some e.1) (find nat_cmp k es)) on) ∙ found) in
              let this : e ≡ (k, x) = λ i. (sym key i, value i) in
              let rest = sum_apart e.0 es parts.0 (λ z n. same z (λ is. n (is ∙ key))) in
              let zero : f e ≡ 0 = ap f this ∙ none in
              let one = ap f' this in
              omega (arith, sum_by-cons f' e es, sum_by-cons f e es, rest, zero, one)
          | inr off ↦
              let other : e.0 ≢ k = λ is. false≢true (sym off ∙ same_key k e.0 (sym is)) in
              let rest = sum_one k x es parts.1 (sym (ap (λ b. cond b (Some e.1) (find nat_cmp k es)) off) ∙ found) same none in
              let this = same e other in
              omega (arith, sum_by-cons f' e es, sum_by-cons f e es, rest, this)
        ]
