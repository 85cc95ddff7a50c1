-- The lists by size.
use Rattle.std.proofs.Common.{◌≡◌, ◌≢◌, ℕ, ◌+◌, ◌<◌, ◌≤◌, List, [], ◌∷◌, get_or, refl, arith, subst, sym, ap, ◌∙◌, true, false, nat_eq, inl, inr}
use Rattle.std.specs.List.{Contains}
use Rattle.std.specs.List.Sorted.{IsPermutation}
use Rattle.std.proofs.lemmas.List.Elements.{Contains-append_right}
use Rattle.std.proofs.lemmas.List.Sums.{get_or-le-sum_by}
use Rattle.std.proofs.lemmas.List.Sorted.{IsPermutation-refl, IsPermutation-trans, IsPermutation-cons, IsPermutation-middle}
use Rattle.std.proofs.lemmas.Bool.{cases_eq}
use Rattle.std.proofs.lemmas.Bool.Decides.{nat_tests}
use Rattle.free_lists.specs.Runs.{covers, cover}
use Rattle.free_lists.specs.Lists.{IsChain, of_size, next_of}
use Rattle.free_lists.proofs.Covers.{covers-inside}
use Rattle.free_lists.proofs.Ordered.{contains_first, contains_cons}

pub cover-contains : (runs : List (ℕ × ℕ)) (x : ℕ × ℕ) (k : ℕ) → Contains runs x → x.0 ≤ k → k < x.0 + x.1 → 1 ≤ cover runs k
cover-contains runs x k c from to =
    let one : covers k (get_or runs c.0 x) ≡ 1 = ap (covers k) c.2 ∙ covers-inside k x.0 x.1 from to in
    omega (arith, get_or-le-sum_by (covers k) runs c.0 x c.1)

-- a list whose links stay
pub chain_same : (old new : List ℕ) (link : ℕ) (rs : List (ℕ × ℕ)) → ((x : ℕ × ℕ) → Contains rs x → next_of new x.0 ≡ next_of old x.0) → IsChain old link rs → IsChain new link rs
unfolding IsChain
chain_same old new link [] same h = h
chain_same old new link (r ∷ rs) same h = (
  h.0,
  subst (λ n. IsChain new n rs) (sym (same r (contains_first r rs))) (chain_same old new (next_of old r.0) rs (λ x c. same x (Contains-append_right (r ∷ []) rs x c)) h.1),
)

pub of_size-nil : (size : ℕ) → of_size size [] ≡ []
unfolding of_size
of_size-nil size = refl

pub of_size-same : (at size : ℕ) (rs : List (ℕ × ℕ)) → of_size size ((at, size) ∷ rs) ≡ (at, size) ∷ of_size size rs
unfolding of_size
of_size-same at size rs = let test : nat_eq size size ≡ true = grind (arith, nat_tests) in rw test refl

pub of_size-other : (size : ℕ) (r : ℕ × ℕ) (rs : List (ℕ × ℕ)) → r.1 ≢ size → of_size size (r ∷ rs) ≡ of_size size rs
unfolding of_size
of_size-other size r rs ne = let test : nat_eq r.1 size ≡ false = grind (arith, nat_tests) in rw test refl

pub of_size-here : (size : ℕ) (r : ℕ × ℕ) (rs : List (ℕ × ℕ)) → r.1 ≡ size → of_size size (r ∷ rs) ≡ r ∷ of_size size rs
unfolding of_size
of_size-here size r rs e = let test : nat_eq r.1 size ≡ true = grind (arith, nat_tests) in rw test refl

-- what a list by size has is among all, and the other way round
pub of_size-from : (size : ℕ) (rs : List (ℕ × ℕ)) (x : ℕ × ℕ) → Contains (of_size size rs) x → Contains rs x × (x.1 ≡ size)
of_size-from size [] x c = let e : Contains {X = ℕ × ℕ} [] x = subst (λ ys. Contains ys x) (of_size-nil size) c in absurd (omega (arith, e.1))
of_size-from size (r ∷ rs) x c = elim (cases_eq r.1 size) [
  | inl e ↦ elim (contains_cons r (of_size size rs) x (subst (λ ys. Contains ys x) (of_size-here size r rs e) c)) [
    | inl here ↦ (subst (λ (y : ℕ × ℕ). Contains (r ∷ rs) y) here (contains_first r rs), ap (λ (y : ℕ × ℕ). y.1) (sym here) ∙ e)
    | inr rest ↦ let f = of_size-from size rs x rest in (Contains-append_right (r ∷ []) rs x f.0, f.1)
  ]
  | inr ne ↦ let f = of_size-from size rs x (subst (λ ys. Contains ys x) (of_size-other size r rs ne) c) in (Contains-append_right (r ∷ []) rs x f.0, f.1)
]

pub of_size-to : (rs : List (ℕ × ℕ)) (x : ℕ × ℕ) → Contains rs x → Contains (of_size x.1 rs) x
of_size-to [] x c = absurd (omega (arith, c.1))
of_size-to (r ∷ rs) x c = elim (contains_cons r rs x c) [
  | inl here ↦ subst (λ (y : ℕ × ℕ). Contains (of_size y.1 (r ∷ rs)) y) here (subst (λ ys. Contains ys r) (sym (of_size-here r.1 r rs refl)) (contains_first r (of_size r.1 rs)))
  | inr rest ↦ elim (cases_eq r.1 x.1) [
    | inl e ↦ subst (λ ys. Contains ys x) (sym (of_size-here x.1 r rs e)) (Contains-append_right (r ∷ []) (of_size x.1 rs) x (of_size-to rs x rest))
    | inr ne ↦ subst (λ ys. Contains ys x) (sym (of_size-other x.1 r rs ne)) (of_size-to rs x rest)
  ]
]

-- the first run of a size is taken out of the others
pub record WithoutFirst (size : ℕ) (rs : List (ℕ × ℕ)) (x : ℕ × ℕ) (rest : List (ℕ × ℕ)) : Type 0 where
  pub others : List (ℕ × ℕ)
  pub from : IsPermutation rs (x ∷ others)
  pub same : of_size size others ≡ rest
  pub other : (s : ℕ) → s ≢ size → of_size s others ≡ of_size s rs
  pub among : (y : ℕ × ℕ) → Contains others y → Contains rs y

pub without_first : (size : ℕ) (rs : List (ℕ × ℕ)) (x : ℕ × ℕ) (rest : List (ℕ × ℕ)) → of_size size rs ≡ x ∷ rest → WithoutFirst size rs x rest
without_first size [] x rest is = absurd (cc (is, of_size-nil size))
without_first size (r ∷ rs) x rest is = elim (cases_eq r.1 size) [
  | inl e ↦
      let both : r ∷ of_size size rs ≡ x ∷ rest = sym (of_size-here size r rs e) ∙ is in
      let head : r ≡ x = cc in
      let tail : of_size size rs ≡ rest = cc in
      record {
        others = rs;
        from = subst (λ (y : ℕ × ℕ). IsPermutation (r ∷ rs) (y ∷ rs)) head (IsPermutation-refl (r ∷ rs));
        same = tail;
        other = λ s ne. sym (of_size-other s r rs (λ same. ne (sym same ∙ e)));
        among = λ y c. Contains-append_right (r ∷ []) rs y c;
      }
  | inr ne ↦
      let w = without_first size rs x rest (sym (of_size-other size r rs ne) ∙ is) in
      record {
        others = r ∷ w.others;
        from = IsPermutation-trans (r ∷ rs) (r ∷ x ∷ w.others) (x ∷ r ∷ w.others) (IsPermutation-cons r rs (x ∷ w.others) w.from) (IsPermutation-middle (r ∷ []) x w.others);
        same = of_size-other size r w.others ne ∙ w.same;
        other = λ s ne'. elim (cases_eq r.1 s) [
          | inl e ↦ of_size-here s r w.others e ∙ ap (λ ys. r ∷ ys) (w.other s ne') ∙ sym (of_size-here s r rs e)
          | inr ne'' ↦ of_size-other s r w.others ne'' ∙ w.other s ne' ∙ sym (of_size-other s r rs ne'')
        ];
        among = λ y c. elim (contains_cons r w.others y c) [
          | inl here ↦ subst (λ (z : ℕ × ℕ). Contains (r ∷ rs) z) here (contains_first r rs)
          | inr there ↦ Contains-append_right (r ∷ []) rs y (w.among y there)
        ];
      }
]
