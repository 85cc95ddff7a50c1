-- In which space the survivors of a scavenge stand, by the order in which they are copied.
use Rattle.std.specs.Prelude.{ℕ, ◌≡◌, ◌+◌, ◌&&◌, nat_le, Bool, List, [], ◌∷◌, if◌then◌else◌}

-- a survivor: its words, whether it stood in eden, and whether it stays in new space
pub record Survivor : Type 0 where
  pub name : ℕ
  pub words : ℕ
  pub from_eden : Bool
  pub stays : Bool

-- the words of those that stay, and of those that are tenured
abbrev pub staying_words : List Survivor → ℕ
staying_words [] = 0
staying_words (s ∷ log) = (if s.stays then s.words else 0) + staying_words log

abbrev pub tenured_words : List Survivor → ℕ
tenured_words [] = 0
tenured_words (s ∷ log) = (if s.stays then 0 else s.words) + tenured_words log

-- each survivor of eden stays where it fits into this room behind those before it, and every other is tenured
abbrev pub ArePlacedGreedily : ℕ → ℕ → List Survivor → Type 0
ArePlacedGreedily room used [] = Unit {0}
ArePlacedGreedily room used (s ∷ log) = (s.stays ≡ (s.from_eden && nat_le (used + s.words) room)) × ArePlacedGreedily room (used + (if s.stays then s.words else 0)) log
