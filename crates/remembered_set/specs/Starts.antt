-- Starts of which none stands twice.
use Rattle.std.specs.Prelude.{ℕ, ◌≢◌, List, AllPairs, refl}
use Rattle.std.specs.Coded.{Coded, code_by, coded×, coded_ℕ, coded_list}

-- no start stands twice
abbrev pub AreDistinct : List ℕ → Type 0
AreDistinct starts = AllPairs (λ a b. a ≢ b) starts

-- what contracts see of a table: the starts by index, and how many it has room for
pub record Table : Type 0 where
  pub starts : List ℕ
  pub capacity : ℕ

-- the code of a table's value, as a pair
abbrev pub table_code : Coded Table
table_code = code_by (List ℕ × ℕ) (coded× (coded_list coded_ℕ) coded_ℕ) (λ t. (t.starts, t.capacity)) (λ p. record { starts = p.0; capacity = p.1 }) (λ _. refl)
