-- The free chunks of a row, and the row once their heads were written anew.
use Rattle.std.specs.Prelude.{ℕ, ◌+◌, ◌-◌, List, [], ◌∷◌, slice_index, nat_eq, nat_lt, if◌then◌else◌, Bool}
use Rattle.object_header.specs.Chunks.{Chunk}
use Rattle.object_header.specs.Head.{class_of}
use Rattle.object_header.specs.declared.header.TheConstants.{FREE_CLASS}

-- whether a header is that of a free chunk
abbrev pub is_free : ℕ → Bool
is_free header = nat_eq (class_of header) FREE_CLASS

-- some runs, with that of a chunk before them if the chunk is free
abbrev pub with_run : Bool → ℕ × ℕ → List (ℕ × ℕ) → List (ℕ × ℕ)
with_run free run runs = if free then run ∷ runs else runs

-- the runs of the free chunks among these
unfoldable pub free_runs : List ℕ → List Chunk → List (ℕ × ℕ)
free_runs words [] = []
free_runs words (c ∷ cs) = with_run (is_free (slice_index words c.start)) (c.at, c.size) (free_runs words cs)

-- a free chunk as it is written here: with an overflow word exactly where it has more than 255 words
abbrev pub written : ℕ → ℕ → Chunk
written at size = record {
  at = at;
  start = if nat_lt 255 size then at + 1 else at;
  size = size;
  slots = if nat_lt 255 size then size - 2 else size - 1;
}

-- the chunks of a row once the free ones were written so: each is as before, but for a free chunk that had an overflow word and at most
-- 255 words, or told that it has no slot
unfoldable pub rewritten : List ℕ → List Chunk → List Chunk
rewritten words [] = []
rewritten words (c ∷ cs) = (if is_free (slice_index words c.start) then written c.at c.size else c) ∷ rewritten words cs
