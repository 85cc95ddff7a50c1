-- What a test keeps of a list.
use Rattle.std.proofs.Common.{◌≡◌, ℕ, suc, zero, Bool, true, false, ◌+◌, ◌<◌, cond, List, [], ◌∷◌, refl, ap, ◌∙◌, arith}
use Rattle.std.specs.List.{AllByRecursion, filter, range_with_len}

pub all_kept : {X : Type 0} (test : X → Bool) (xs : List X) → AllByRecursion (λ x. test x ≡ true) xs → filter test xs ≡ xs
all_kept test [] all = refl
all_kept test (x ∷ xs) all = ap (λ b. cond b (x ∷ filter test xs) (filter test xs)) all.0 ∙ ap (λ ys. x ∷ ys) (all_kept test xs all.1)

pub none_kept : {X : Type 0} (test : X → Bool) (xs : List X) → AllByRecursion (λ x. test x ≡ false) xs → filter test xs ≡ []
none_kept test [] all = refl
none_kept test (x ∷ xs) all = ap (λ b. cond b (x ∷ filter test xs) (filter test xs)) all.0 ∙ none_kept test xs all.1

-- tests that agree below a bound keep the same of a range
pub range_agree : (f g : ℕ → Bool) (a n m : ℕ) → a + n ≡ m → ((j : ℕ) → j < m → f j ≡ g j) → filter f (range_with_len a n) ≡ filter g (range_with_len a n)
range_agree f g a zero m e same = refl
range_agree f g a (suc n) m e same = λ i. cond (same a (omega arith) i) (a ∷ range_agree f g (a + 1) n m (omega arith) same i) (range_agree f g (a + 1) n m (omega arith) same i)
