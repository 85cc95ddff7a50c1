-- Words outside an object, and outside what was taken.
use Rattle.std.specs.Prelude.{ℕ, ◌≡◌, ◌≤◌, ◌<◌, ◌+◌, ◌⊎◌}
use Rattle.std.specs.List.{Contains}
use Rattle.object_header.specs.Chunks.{Chunk}
use Rattle.spur_graph.specs.Heaps.{View, chunks_of}

-- the word is none of the words of what starts there: of its overflow word, its header, and those behind
abbrev pub IsOutside : View → ℕ → ℕ → Type 0
IsOutside v s j = (c : Chunk) → Contains (chunks_of v) c → c.start ≡ s → (j < c.at) ⊎ (c.at + c.size ≤ j)

-- the word is none of those by which the used part of eden grew
abbrev pub IsOutsideEden : View → View → ℕ → Type 0
IsOutsideEden old new j = (j < old.spaces.eden_at + old.spaces.eden_used) ⊎ (old.spaces.eden_at + new.spaces.eden_used ≤ j)
