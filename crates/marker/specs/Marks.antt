-- What a marker keeps while it works, over a test of names and a stack: no representation is known here.
use Rattle.std.specs.Prelude.{◌≡◌, ◌⊎◌, ℕ, List, Bool, true, false, Some, Option, None, ◌==◌}
use Rattle.std.specs.List.{Contains}
use Rattle.std.specs.FinMap.{get}
use Rattle.spur_graph.specs.declared.answer.Value.TheVariants.{Ref}
use Rattle.spur_graph.specs.Node.{Node}
use Rattle.spur_graph.specs.Graph.{Graph}
use Rattle.spur_graph.specs.Live.{IsRoot, Reached, strong_values, none}

-- names were visited: those that were not marked are, and stand on the stack
pub record Scanned (named : ℕ → Type 0) (m m' : ℕ → Bool) (stack stack' : List ℕ) : Type 0 where
  pub keeps : (t : ℕ) → m t ≡ true → m' t ≡ true
  pub only : (t : ℕ) → m' t ≡ true → (m t ≡ true) ⊎ named t
  pub all : (t : ℕ) → named t → m' t ≡ true
  pub below : (t : ℕ) → Contains stack t → Contains stack' t
  pub new : (t : ℕ) → m' t ≡ true → (m t ≡ true) ⊎ Contains stack' t
  pub stacked : (t : ℕ) → Contains stack' t → Contains stack t ⊎ named t

-- what is marked is live; what is marked stands on the stack, or its values never count, or what it has strongly is marked
pub record Marking (g : Graph) (silent m : ℕ → Bool) (stack : List ℕ) : Type 0 where
  pub rooted : (a : ℕ) → IsRoot g a → m a ≡ true
  pub sound : (a : ℕ) → m a ≡ true → Reached g none silent a
  pub stacked : (a : ℕ) → Contains stack a → m a ≡ true
  pub done : (s a : ℕ) (n : Node) → m s ≡ true → silent s ≡ false → get g.nodes s ≡ Some n → Contains (strong_values g n) (Ref a) → Contains stack s ⊎ (m a ≡ true)

-- the values of an excepted name never count
abbrev pub silent_of : Option ℕ → ℕ → Bool
silent_of None s = false
silent_of (Some r) s = s == r
