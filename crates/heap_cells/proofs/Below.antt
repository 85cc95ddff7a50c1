-- Tests of numbers below a bound, and of what may be there.
use Rattle.std.proofs.Common.{◌≡◌, ℕ, suc, zero, Bool, true, false, ◌&&◌, ◌||◌, ◌<◌, refl, sym, ap, ◌∙◌, arith, inl, inr, Some, None, Option}
use Rattle.std.proofs.lemmas.Bool.{false≢true, cases_eq, eqb-true, or_from, or_left, or_right, or_cases}
use Rattle.std.specs.Option.{option_map}
use Rattle.spur_graph.specs.Cells.{any_below}
use Rattle.spur_graph.specs.Ordinary.{is_at, passes}

pub any_below-same : (f g : ℕ → Bool) (n : ℕ) → ((j : ℕ) → j < n → f j ≡ g j) → any_below f n ≡ any_below g n
unfolding any_below
any_below-same f g zero e = refl
any_below-same f g (suc n) e = λ i. e n (omega arith) i || any_below-same f g n (λ j l. e j (omega (arith, l))) i

pub any_below-none : (f : ℕ → Bool) (n : ℕ) → ((j : ℕ) → j < n → f j ≡ false) → any_below f n ≡ false
unfolding any_below
any_below-none f zero e = refl
any_below-none f (suc n) e = or_from _ _ (e n (omega arith)) (any_below-none f n (λ j l. e j (omega (arith, l))))

pub any_below-has : (f : ℕ → Bool) (n j : ℕ) → j < n → f j ≡ true → any_below f n ≡ true
unfolding any_below
any_below-has f zero j l e = absurd (omega arith)
any_below-has f (suc n) j l e = elim (cases_eq j n) [
  | inl same ↦ or_left _ _ (sym (ap f same) ∙ e)
  | inr other ↦ or_right _ _ (any_below-has f n j (omega arith) e)
]

-- where the test holds below the bound
pub any_below-found : (f : ℕ → Bool) (n : ℕ) → any_below f n ≡ true → (j : ℕ) × (j < n) × (f j ≡ true)
unfolding any_below
any_below-found f zero e = absurd (false≢true e)
any_below-found f (suc n) e = elim (or_cases (f n) (any_below f n) e) [
  | inl on ↦ (n, omega arith, on)
  | inr more ↦ let r = any_below-found f n more in (r.0, omega (arith, r.1), r.2)
]

pub at-named : (s : ℕ) (o : Option ℕ) → is_at s o ≡ true → o ≡ Some s
at-named s None e = absurd (false≢true e)
at-named s (Some t) e = ap (λ u. Some u) (eqb-true t s e)

-- what passes is there
pub record Passes (test : ℕ → Bool) (o : Option ℕ) : Type 0 where
  pub one : ℕ
  pub is : o ≡ Some one
  pub holds : test one ≡ true

pub passed : (test : ℕ → Bool) (o : Option ℕ) → passes test o ≡ true → Passes test o
passed test None e = absurd (false≢true e)
passed test (Some s) e = record { one = s; is = refl; holds = e }

pub passes-same : (f g : ℕ → Bool) (o : Option ℕ) → ((t : ℕ) → f t ≡ g t) → passes f o ≡ passes g o
passes-same f g None e = refl
passes-same f g (Some t) e = e t

-- the second counts only where the first holds
pub and-same : (a a' b b' : Bool) → a ≡ a' → (a' ≡ true → b ≡ b') → (a && b) ≡ (a' && b')
and-same a true b b' e f = λ i. e i && f refl i
and-same a false b b' e f = ap (λ x. x && b) e

pub and3-same : (a a' b b' c c' : Bool) → a ≡ a' → (a' ≡ true → b ≡ b') → (a' ≡ true → c ≡ c') → (a && b && c) ≡ (a' && b' && c')
and3-same a true b b' c c' e f g = λ i. e i && f refl i && g refl i
and3-same a false b b' c c' e f g = ap (λ x. x && b && c) e

-- what is there after a function was there before it
pub mapped_there : {A B : Type 0} (f : A → B) (o : Option A) (y : B) → option_map f o ≡ Some y → (x : A) × (o ≡ Some x)
mapped_there f None y e = absurd cc
mapped_there f (Some x) y e = (x, refl)
