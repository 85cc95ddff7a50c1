-- Words of which a run is mapped, each in its place.
use Rattle.std.proofs.Common.{◌≡◌, ℕ, ◌+◌, ◌<◌, ◌≤◌, List, length, get_or, set, sym, ap, ◌∙◌, inl, inr, arith}
use Rattle.std.proofs.lemmas.Bool.{cases_eq}
use Rattle.std.proofs.lemmas.List.{length-set, get_or-set_other, get_or-set_same}

-- the words from `from` up to `at` are mapped, the others are as before
pub record Mapped (f : ℕ → ℕ → ℕ) (old new : List ℕ) (from at : ℕ) : Type 0 where
  pub long : length new ≡ length old
  pub done : (k : ℕ) → from ≤ k → k < at → get_or new k 0 ≡ f k (get_or old k 0)
  pub before : (k : ℕ) → k < from → get_or new k 0 ≡ get_or old k 0
  pub behind : (k : ℕ) → at ≤ k → get_or new k 0 ≡ get_or old k 0

pub next_mapped : (f : ℕ → ℕ → ℕ) (old new : List ℕ) (from at v : ℕ) → Mapped f old new from at → from ≤ at → at < length old → v ≡ f at (get_or new at 0) → Mapped f old (set new at v) from (at + 1)
next_mapped f old new from at v m l b e =
    let inside : at < length new = omega (arith, m.long) in
    record {
      long = length-set new at v ∙ m.long;
      done = λ k a c. elim (cases_eq k at) [
        | inl is ↦ ap (λ n. get_or (set new at v) n 0) is ∙ get_or-set_same new at v 0 inside ∙ e ∙ ap (f at) (m.behind at (omega arith)) ∙ ap (λ n. f n (get_or old n 0)) (sym is)
        | inr ne ↦ get_or-set_other new at k v 0 ne ∙ m.done k a (omega (arith, ne))
      ];
      before = λ k a. get_or-set_other new at k v 0 (λ i. omega (arith, i)) ∙ m.before k a;
      behind = λ k a. get_or-set_other new at k v 0 (λ i. omega (arith, i)) ∙ m.behind k (omega arith);
    }
