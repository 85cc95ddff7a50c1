-- A store with another cell at one start.
use Rattle.std.proofs.Common.{◌≡◌, ◌≢◌, ℕ, cond, eqb, refl, ap}
use Rattle.std.proofs.lemmas.Bool.{eq-eqb, ne_eqb}
use Rattle.spur_graph.specs.Cells.{Cell, Store}

abbrev pub with_cell : Store → ℕ → Cell → Store
with_cell h s x = record h { cell = λ t. cond (eqb t s) x (h.cell t) }

module _ (h : Store) (s : ℕ) (x : Cell) where
  pub cell_here : (with_cell h s x).cell s ≡ x
  cell_here = ap (λ b. cond b x (h.cell s)) (eq-eqb s s refl)

  pub cell_other : (t : ℕ) → t ≢ s → (with_cell h s x).cell t ≡ h.cell t
  cell_other t n = ap (λ b. cond b x (h.cell t)) (ne_eqb t s n)
