-- Two names that change places.
use Rattle.std.proofs.Common.{◌≡◌, ◌≢◌, ℕ, refl, sym, ap, ◌∙◌, inl, inr}
use Rattle.std.proofs.lemmas.Bool.{cases_eq, ne_eqb, eq-eqb}
use Rattle.spur_graph.specs.Names.{swapped}

pub swapped-left : (a b s : ℕ) → s ≡ a → swapped a b s ≡ b
swapped-left a b s e = rw (eq-eqb s a e) refl

pub swapped-right : (a b s : ℕ) → s ≡ b → swapped a b s ≡ a
swapped-right a b s e = elim (cases_eq s a) [
  | inl same ↦ rw (eq-eqb s a same) (sym e ∙ same)
  | inr other ↦ rw (ne_eqb s a other, eq-eqb s b e) refl
]

pub swapped-else : (a b s : ℕ) → s ≢ a → s ≢ b → swapped a b s ≡ s
swapped-else a b s n m = rw (ne_eqb s a n, ne_eqb s b m) refl

pub swapped-twice : (a b s : ℕ) → swapped a b (swapped a b s) ≡ s
swapped-twice a b s = elim (cases_eq s a) [
  | inl e ↦ ap (swapped a b) (swapped-left a b s e) ∙ swapped-right a b b refl ∙ sym e
  | inr n ↦ elim (cases_eq s b) [
    | inl e ↦ ap (swapped a b) (swapped-right a b s e) ∙ swapped-left a b a refl ∙ sym e
    | inr m ↦ ap (swapped a b) (swapped-else a b s n m) ∙ swapped-else a b s n m
  ]
]
