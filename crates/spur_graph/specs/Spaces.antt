-- The spaces of a heap: old space, eden, and two survivor spaces, of which one is past space.
use Rattle.std.specs.Prelude.{ℕ, ◌≡◌, ◌⊎◌, ◌+◌, ◌≤◌, List, ◌++◌, length}
use Rattle.spur_graph.specs.declared.limits.Limits.{Limits}
use Rattle.object_header.specs.Chunks.{Chunk, Cuts, row}

-- where old space ends, where eden and the survivor spaces begin, which of these is past space, and how many words of eden and of past space are used.
-- Old space begins at word 0
pub record Spaces : Type 0 where
  pub old_end : ℕ
  pub eden_at : ℕ
  pub first_at : ℕ
  pub second_at : ℕ
  pub past_at : ℕ
  pub eden_used : ℕ
  pub past_used : ℕ

-- the spaces stand one behind another, up to the last word, as large as the limits say, and what is used of them fits. Between old space and eden there
-- may be words of neither, into which old space can grow
pub record AreSpaces (words : ℕ) (limits : Limits) (p : Spaces) : Type 0 where
  pub eden_behind : p.old_end ≤ p.eden_at
  pub first_behind : p.eden_at + limits.eden ≡ p.first_at
  pub second_behind : p.first_at + limits.survivor ≡ p.second_at
  pub last : p.second_at + limits.survivor ≡ words
  pub past_is : (p.past_at ≡ p.first_at) ⊎ (p.past_at ≡ p.second_at)
  pub eden_fits : p.eden_used ≤ limits.eden
  pub past_fits : p.past_used ≤ limits.survivor

-- the chunks of old space, of the used eden and of the used past space
abbrev pub old_row : List ℕ → Spaces → List Chunk
old_row words p = row words 0 p.old_end

abbrev pub eden_row : List ℕ → Spaces → List Chunk
eden_row words p = row words p.eden_at (p.eden_at + p.eden_used)

abbrev pub past_row : List ℕ → Spaces → List Chunk
past_row words p = row words p.past_at (p.past_at + p.past_used)

-- the chunks of new space
abbrev pub young_row : List ℕ → Spaces → List Chunk
young_row words p = eden_row words p ++ past_row words p

-- all chunks, in order of place
abbrev pub rows : List ℕ → Spaces → List Chunk
rows words p = old_row words p ++ young_row words p

-- each of the three is cut into chunks without a rest, and the first five chunks are those of old space
pub record AreRows (words : List ℕ) (p : Spaces) : Type 0 where
  pub old : Cuts words 0 p.old_end (old_row words p)
  pub eden : Cuts words p.eden_at (p.eden_at + p.eden_used) (eden_row words p)
  pub past : Cuts words p.past_at (p.past_at + p.past_used) (past_row words p)
  pub five : 5 ≤ length (old_row words p)

-- the spaces of places with so many words of old space, before anything stands in new space
abbrev pub fresh_spaces : ℕ → Limits → Spaces
fresh_spaces end limits = record {
  old_end = end;
  eden_at = end;
  first_at = end + limits.eden;
  second_at = end + limits.eden + limits.survivor;
  past_at = end + limits.eden;
  eden_used = 0;
  past_used = 0;
}
