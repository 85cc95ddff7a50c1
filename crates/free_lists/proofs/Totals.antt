-- Runs that share no word have no more words together than there are.
use Rattle.std.proofs.Common.{◌≡◌, ℕ, zero, suc, ◌+◌, ◌-◌, ◌≤◌, List, [], ◌∷◌, refl, arith, ◌∙◌, inl, inr}
use Rattle.std.specs.List.{Contains}
use Rattle.std.proofs.lemmas.Bool.{cases_lt}
use Rattle.std.proofs.lemmas.List.Sums.{sum_by-cons}
use Rattle.std.proofs.lemmas.List.Elements.{Contains-append_right}
use Rattle.free_lists.specs.Runs.{covers, cover}
use Rattle.free_lists.specs.Lists.{total_of}
use Rattle.free_lists.proofs.Covers.{covers-inside, covers-outside, cover-cons}
use Rattle.free_lists.proofs.Ordered.{contains_first}

-- the sum of a function below a number
below : (ℕ → ℕ) → ℕ → ℕ
below f zero = 0
below f (suc n) = below f n + f n

below-le : (f : ℕ → ℕ) → ((k : ℕ) → f k ≤ 1) → (n : ℕ) → below f n ≤ n
unfolding below
below-le f le zero = omega arith
below-le f le (suc n) = omega (arith, below-le f le n, le n)

below-sum : (f g h : ℕ → ℕ) → ((k : ℕ) → f k ≡ g k + h k) → (n : ℕ) → below f n ≡ below g n + below h n
unfolding below
below-sum f g h e zero = refl
below-sum f g h e (suc n) = omega (arith, below-sum f g h e n, e n)

below-zero : (f : ℕ → ℕ) → ((k : ℕ) → f k ≡ 0) → (n : ℕ) → below f n ≡ 0
unfolding below
below-zero f e zero = refl
below-zero f e (suc n) = omega (arith, below-zero f e n, e n)

below-run : (at size n : ℕ) → below (λ k. covers k (at, size)) n ≡ (n - at) - (n - (at + size))
unfolding below
below-run at size zero = omega arith
below-run at size (suc n) =
    let before = below-run at size n in
    elim (cases_lt n at) [
      | inl lt ↦ omega (arith, covers-outside n at size (inl lt))
      | inr ge ↦ elim (cases_lt n (at + size)) [
        | inl lt ↦ omega (arith, covers-inside n at size ge lt)
        | inr ge' ↦ omega (arith, covers-outside n at size (inr ge'))
      ]
    ]

below-cover : (runs : List (ℕ × ℕ)) (n : ℕ) → ((x : ℕ × ℕ) → Contains runs x → x.0 + x.1 ≤ n) → below (cover runs) n ≡ total_of runs
below-cover [] n inside = below-zero (cover []) (λ k. refl) n
below-cover (r ∷ rs) n inside =
    let rest = below-cover rs n (λ x c. inside x (Contains-append_right (r ∷ []) rs x c)) in
    let here = inside r (contains_first r rs) in
    below-sum (cover (r ∷ rs)) (λ k. covers k r) (cover rs) (λ k. cover-cons r rs k) n
    ∙ omega (arith, rest, below-run r.0 r.1 n, sum_by-cons (λ (x : ℕ × ℕ). x.1) r rs)

pub total_fits : (runs : List (ℕ × ℕ)) (n : ℕ) → ((x : ℕ × ℕ) → Contains runs x → x.0 + x.1 ≤ n) → ((k : ℕ) → cover runs k ≤ 1) → total_of runs ≤ n
total_fits runs n inside apart = omega (arith, below-cover runs n inside, below-le (cover runs) apart n)
