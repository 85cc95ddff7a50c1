-- The chunks of a tree are free chunks.
use Rattle.std.proofs.Common.{◌≢◌, ℕ, ◌<◌, ◌≤◌, List, ◌∷◌, length, length-append, arith, subst, inl, inr}
use Rattle.std.specs.List.{Contains}
use Rattle.std.proofs.lemmas.List.Elements.{Contains-append_cases}
use Rattle.free_lists.specs.Runs.{IsFree}
use Rattle.free_lists.specs.Trees.{Tree, Leaf, Branch, runs_in, IsTree, left_of, right_of}
use Rattle.free_lists.proofs.Ordered.{contains_cons}

pub tree_free : (words : List ℕ) (link : ℕ) (t : Tree) → IsTree words link t → (x : ℕ × ℕ) → Contains (runs_in t) x → IsFree words x.0 x.1 × (64 ≤ x.1)
unfolding IsTree runs_in
tree_free words link Leaf held x c = absurd (omega (arith, c.1))
tree_free words link (Branch l at size r) held x c =
    elim (Contains-append_cases (runs_in l) ((at, size) ∷ runs_in r) x c) [
      | inl left ↦ tree_free words (left_of words at) l held.3 x left
      | inr right ↦ elim (contains_cons (at, size) (runs_in r) x right) [
        | inl e ↦ subst (λ (y : ℕ × ℕ). IsFree words y.0 y.1 × (64 ≤ y.1)) e (held.1, held.2)
        | inr rest ↦ tree_free words (right_of words at) r held.4 x rest
      ]
    ]

pub some_runs : (words : List ℕ) (link : ℕ) (t : Tree) → IsTree words link t → link ≢ 0 → 0 < length (runs_in t)
unfolding IsTree runs_in
some_runs words link Leaf held ne = absurd (ne held)
some_runs words link (Branch l at size r) held ne = omega (arith, length-append (runs_in l) ((at, size) ∷ runs_in r))
