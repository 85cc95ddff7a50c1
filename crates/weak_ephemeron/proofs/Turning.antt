-- The values of a list between two places become others, one after another, and those that pass a test are counted.
use Rattle.std.proofs.Common.{◌≡◌, ℕ, zero, suc, Bool, true, false, cond, ◌+◌, ◌<◌, ◌≤◌, List, [], ◌∷◌, ◌++◌, map, take, drop, length, min, get_or, set, refl, sym, ap, ◌∙◌, arith, inl, inr}
use Rattle.std.proofs.lemmas.Bool.{cases_lt}
use Rattle.std.proofs.lemmas.List.{drop_all}
use Rattle.std.proofs.lemmas.List.Sums.{sum_by-cons}
use Rattle.std.specs.List.{count_by}

-- those from place `k` on, below place `i`, have become others
abbrev pub turned : {X : Type 0} → (X → X) → ℕ → ℕ → List X → List X
turned f k i [] = []
turned f zero zero (x ∷ xs) = x ∷ xs
turned f zero (suc i) (x ∷ xs) = f x ∷ turned f zero i xs
turned f (suc k) zero (x ∷ xs) = x ∷ xs
turned f (suc k) (suc i) (x ∷ xs) = x ∷ turned f k i xs

-- how many of those pass
abbrev pub counted : {X : Type 0} → (X → Bool) → ℕ → ℕ → List X → ℕ
counted p k i [] = 0
counted p zero zero (x ∷ xs) = 0
counted p zero (suc i) (x ∷ xs) = cond (p x) 1 0 + counted p zero i xs
counted p (suc k) zero (x ∷ xs) = 0
counted p (suc k) (suc i) (x ∷ xs) = counted p k i xs

module _ {X : Type 0} (f : X → X) (d : X) where
  pub turned_none : (k : ℕ) (xs : List X) → turned f k k xs ≡ xs
  turned_none k [] = refl
  turned_none zero (x ∷ xs) = refl
  turned_none (suc k) (x ∷ xs) = ap (λ ys. x ∷ ys) (turned_none k xs)

  -- the value at `i` did not yet
  pub turned_behind : (k i : ℕ) (xs : List X) → get_or (turned f k i xs) i d ≡ get_or xs i d
  turned_behind k i [] = refl
  turned_behind zero zero (x ∷ xs) = refl
  turned_behind zero (suc i) (x ∷ xs) = turned_behind zero i xs
  turned_behind (suc k) zero (x ∷ xs) = refl
  turned_behind (suc k) (suc i) (x ∷ xs) = turned_behind k i xs

  -- and does now
  pub turned_more : (k i : ℕ) (xs : List X) → k ≤ i → i < length xs → set (turned f k i xs) i (f (get_or xs i d)) ≡ turned f k (suc i) xs
  turned_more k i [] l low = absurd (omega (arith, low))
  turned_more zero zero (x ∷ []) l low = refl
  turned_more zero zero (x ∷ (y ∷ xs)) l low = refl
  turned_more zero (suc i) (x ∷ xs) l low = ap (λ ys. f x ∷ ys) (turned_more zero i xs (omega arith) (omega (arith, low)))
  turned_more (suc k) zero (x ∷ xs) l low = absurd (omega (arith, l))
  turned_more (suc k) (suc i) (x ∷ xs) l low = ap (λ ys. x ∷ ys) (turned_more k i xs (omega (arith, l)) (omega (arith, low)))

  pub turned_length : (k i : ℕ) (xs : List X) → length (turned f k i xs) ≡ length xs
  turned_length k i [] = refl
  turned_length zero zero (x ∷ xs) = refl
  turned_length zero (suc i) (x ∷ xs) = let r = turned_length zero i xs in omega (arith, r)
  turned_length (suc k) zero (x ∷ xs) = refl
  turned_length (suc k) (suc i) (x ∷ xs) = let r = turned_length k i xs in omega (arith, r)

  turned_first : (xs : List X) → turned f zero (length xs) xs ≡ map f xs
  turned_first [] = refl
  turned_first (x ∷ xs) = ap (λ ys. f x ∷ ys) (turned_first xs)

  pub turned_all : (k : ℕ) (xs : List X) → turned f k (length xs) xs ≡ take k xs ++ map f (drop k xs)
  turned_all zero [] = refl
  turned_all (suc k) [] = refl
  turned_all zero (x ∷ xs) = turned_first (x ∷ xs)
  turned_all (suc k) (x ∷ xs) = ap (λ ys. x ∷ ys) (turned_all k xs)

pub one_or_none : (b : Bool) → cond b 1 0 ≤ 1
one_or_none true = omega arith
one_or_none false = omega arith

module _ {X : Type 0} (p : X → Bool) (d : X) where
  pub counted_none : (k : ℕ) (xs : List X) → counted p k k xs ≡ 0
  counted_none k [] = refl
  counted_none zero (x ∷ xs) = refl
  counted_none (suc k) (x ∷ xs) = counted_none k xs

  pub counted_more : (k i : ℕ) (xs : List X) → k ≤ i → i < length xs → counted p k (suc i) xs ≡ counted p k i xs + cond (p (get_or xs i d)) 1 0
  counted_more k i [] l low = absurd (omega (arith, low))
  counted_more zero zero (x ∷ xs) l low = let r = counted_none zero xs in omega (arith, r)
  counted_more zero (suc i) (x ∷ xs) l low = let r = counted_more zero i xs (omega arith) (omega (arith, low)) in omega (arith, r)
  counted_more (suc k) zero (x ∷ xs) l low = absurd (omega (arith, l))
  counted_more (suc k) (suc i) (x ∷ xs) l low = counted_more k i xs (omega (arith, l)) (omega (arith, low))

  pub counted_most : (k i : ℕ) (xs : List X) → counted p k i xs ≤ i
  counted_most k i [] = omega arith
  counted_most zero zero (x ∷ xs) = omega arith
  counted_most zero (suc i) (x ∷ xs) = let r = counted_most zero i xs in let o = one_or_none (p x) in omega (arith, r, o)
  counted_most (suc k) zero (x ∷ xs) = omega arith
  counted_most (suc k) (suc i) (x ∷ xs) = let r = counted_most k i xs in omega (arith, r)

  counted_first : (xs : List X) → counted p zero (length xs) xs ≡ count_by p xs
  counted_first [] = refl
  counted_first (x ∷ xs) = ap (λ n. cond (p x) 1 0 + n) (counted_first xs) ∙ sym (sum_by-cons (λ y. cond (p y) 1 0) x xs)

  pub counted_all : (k : ℕ) (xs : List X) → counted p k (length xs) xs ≡ count_by p (drop k xs)
  counted_all zero [] = refl
  counted_all (suc k) [] = refl
  counted_all zero (x ∷ xs) = counted_first (x ∷ xs)
  counted_all (suc k) (x ∷ xs) = counted_all k xs

-- at most all are left out
pub drop_min : {X : Type 0} (k : ℕ) (xs : List X) → drop (min k (length xs)) xs ≡ drop k xs
drop_min k xs = elim (cases_lt k (length xs)) [
  | inl low ↦ ap (λ n. drop n xs) (omega (arith, low))
  | inr all ↦ let e : min k (length xs) ≡ length xs = omega (arith, all) in ap (λ n. drop n xs) e ∙ drop_all (length xs) xs (omega arith) ∙ sym (drop_all k xs all)
]
