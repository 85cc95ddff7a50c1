-- The laws of settling.
use Rattle.std.specs.Prelude.{ℕ, ◌≡◌, true, List, ◌++◌, map}
use Rattle.std.specs.List.{Contains}
use Rattle.std.specs.FinMap.{empty}
use Rattle.spur_graph.specs.Names.{Iso}
use Rattle.spur_graph.specs.declared.limits.Limits.{Limits}
use Rattle.spur_graph.specs.Step.{SameRoom}
use Rattle.object_header.specs.Chunks.{Chunk}
use Rattle.spur_graph.specs.Cells.{Store}
use Rattle.spur_graph.specs.Ordinary.{is_good_reference}
use Rattle.spur_graph.specs.CellGraph.{graph_of}
use Rattle.spur_graph.specs.CellRoom.{room_of, free_sizes}
use Rattle.spur_graph.specs.Heaps.{IsSound, own_name}
use Rattle.heap_cells.specs.Settled.{IsLoadable, IsNamed, IsSettled, settled_word}

-- no two starts have one name
abbrev pub AreNames : Store → (ℕ → ℕ) → Type 0
AreNames h name = (s t : ℕ) → Contains h.starts s → Contains h.starts t → name s ≡ name t → s ≡ t

-- words to which no cause applies are sound once they are settled, and a good reference stays one
abbrev pub SettledIsSound : Type 0
SettledIsSound = (old new : Store) → IsNamed old → IsLoadable old → IsSettled old new → IsSound new

abbrev pub SettledIsGood : Type 0
SettledIsGood = (old new : Store) (word : ℕ) → IsNamed old → IsLoadable old → IsSettled old new → is_good_reference old word ≡ true → is_good_reference new (settled_word old word) ≡ true

-- the graph of the settled words differs from that of the file in names alone
pub record SameGraph (old new : Store) (name : ℕ → ℕ) (special hash next next' : ℕ) : Type 0 where
  pub p : ℕ → ℕ
  pub back : ℕ → ℕ
  pub iso : Iso (graph_of name old special empty hash next) (graph_of own_name new (settled_word old special) empty hash next') p back
  pub names : (s : ℕ) → Contains old.starts s → p (name s) ≡ s

abbrev pub SettledIsSameGraph : Type 0
SettledIsSameGraph = (old new : Store) (name : ℕ → ℕ) (special hash next next' : ℕ) → IsNamed old → IsLoadable old → IsSettled old new → AreNames old name
    → is_good_reference old special ≡ true → SameGraph old new name special hash next next'

-- the starts are those of these chunks, behind which `free` stand
pub record HaveChunks (old new : Store) (cs free : List Chunk) : Type 0 where
  pub before : old.starts ≡ map (λ (c : Chunk). c.start) cs
  pub after : new.starts ≡ map (λ (c : Chunk). c.start) (cs ++ free)

-- the room of the settled words differs from that of the file, with the chunks behind as free ones, in names alone
abbrev pub SettledIsSameRoom : Type 0
SettledIsSameRoom = (old new : Store) (name p back : ℕ → ℕ) (cs free : List Chunk) (words : ℕ) (limits : Limits) → IsNamed old → IsLoadable old → IsSettled old new → HaveChunks old new cs free
    → ((a : ℕ) → back (p a) ≡ a) → ((s : ℕ) → Contains old.starts s → p (name s) ≡ s)
    → SameRoom (room_of name old cs words limits (free_sizes old cs ++ map (λ (c : Chunk). c.size) free)) (room_of own_name new (cs ++ free) words limits (free_sizes new (cs ++ free))) p
