-- The rows of causes, one after another.
use Rattle.std.proofs.Common.{◌≡◌, inl, inr, ℕ, ◌+◌, List, arith, subst}
use Rattle.std.proofs.lemmas.Bool.{cases_lt}
use Rattle.spur_graph.specs.declared.limits.Limits.{Limits}
use Rattle.spur_graph.specs.ImageCauses.{Cause, Row, number, Bad, IsLeast, FirstCause, told}
use Rattle.spur_graph.proofs.RowNumbers.{row_same, row_low}
use Rattle.image_file.specs.Passed.{Passes}

-- no row has the number 0
pub passes_none : (bytes : List ℕ) (limits : Limits) → Passes bytes limits 0
passes_none bytes limits row n low bad = absurd (omega (arith, row_low row, low))

-- one row more
pub passes_next : (bytes : List ℕ) (limits : Limits) (row : Row) (last : ℕ) → number row ≡ last + 1 → Passes bytes limits last → ((n : ℕ) → Bad bytes limits row n → ⊥) → Passes bytes limits (last + 1)
passes_next bytes limits row last is before none other n low bad = elim (cases_lt last (number other)) [
  | inr le ↦ before other n le bad
  | inl lt ↦
      let same : number other ≡ number row = omega (arith, is, low, lt) in
      none n (subst (λ (r : Row). Bad bytes limits r n) (row_same other row same) bad)
]

-- the first row that does not pass is the cause
pub first_cause : (bytes : List ℕ) (limits : Limits) (cause : Cause) (row : Row) (key last : ℕ) → number row ≡ last + 1 → Passes bytes limits last → IsLeast (Bad bytes limits row) key
    → cause ≡ told bytes limits row key → FirstCause bytes limits cause
first_cause bytes limits cause row key last is passes least told_is = record {
  row = row;
  key = key;
  least = least;
  before = λ other lt n bad. passes other n (omega (arith, is, lt)) bad;
  is = told_is;
}

-- a row whose badness does not depend on the key has the least bad key 0
pub least_zero : (P : ℕ → Type 0) → P 0 → IsLeast P 0
least_zero P is = record { is = is; none = λ m lt bad. absurd (omega (arith, lt)) }
