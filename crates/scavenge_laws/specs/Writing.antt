-- The writes of a scavenge, cell by cell.
use Rattle.std.specs.Prelude.{ℕ, ◌≡◌, ◌⊎◌, ◌<◌, ◌≤◌, List, drop, map, length, slice_index, if◌then◌else◌, nat_eq}
use Rattle.std.specs.Option.{option_map}
use Rattle.std.specs.FinMap.{get}
use Rattle.spur_graph.specs.Graph.{Handle}
use Rattle.spur_graph.specs.Cells.{Body, Cell, Empty, Moved, Store, first, final, pointer_count}
use Rattle.heap_laws.specs.Placed.{IsReading, Outside}
use Rattle.heap_laws.specs.Instances.{readdressed_by}

-- nothing else of a store is another but its cells: its starts may be more
pub record KeepsFirsts (old new : Store) : Type 0 where
  pub reads : IsReading new
  pub names : new.names ≡ old.names
  pub to : (w : ℕ) → new.to w ≡ old.to w
  pub five : 5 ≤ length new.starts
  pub firsts : (j : ℕ) → j < 5 → first new j ≡ first old j

-- one cell is written
pub record PutsCell (a : ℕ) (x : Cell) (old new : Store) : Type 0 where
  pub keeps : KeepsFirsts old new
  pub cells : (t : ℕ) → new.cell t ≡ (if nat_eq t a then x else old.cell t)

-- what stands at `a` is copied to `b`, where nothing stood, and a forwarder is left
pub record PutsCopy (a b : ℕ) (old new : Store) : Type 0 where
  pub keeps : KeepsFirsts old new
  pub low : b < old.names
  pub free : old.cell b ≡ Empty
  pub cells : (t : ℕ) → new.cell t ≡ (if nat_eq t b then old.cell a else if nat_eq t a then Moved b else old.cell t)

-- the word is as it was, or followed
abbrev pub IsFollowed : Store → ℕ → ℕ → Type 0
IsFollowed h w w' = (w' ≡ w) ⊎ (w' ≡ readdressed_by (final h) w)

-- some pointer slots of an object are followed
pub record AreFollowed (h : Store) (b : Body) (words : List ℕ) : Type 0 where
  pub long : length words ≡ length b.words
  pub slots : (i : ℕ) → i < pointer_count b → IsFollowed h (slice_index b.words i) (slice_index words i)
  pub rest : drop (pointer_count b) words ≡ drop (pointer_count b) b.words

-- some roots are followed
pub record FollowsRoots (h : Store) (o o' : Outside) : Type 0 where
  pub special : IsFollowed h o.special o'.special
  pub held : (k : Handle) → (get o'.held k ≡ get o.held k) ⊎ (get o'.held k ≡ option_map (readdressed_by (final h)) (get o.held k))
  pub groups : map (map (final h)) o'.groups ≡ map (map (final h)) o.groups
