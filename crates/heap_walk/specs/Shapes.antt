-- Where the words of a chunk are, from its start: the index of its header word.
use Rattle.std.specs.Prelude.{ℕ, ◌+◌, ◌-◌, max, List, slice_index, if◌then◌else◌}
use Rattle.object_header.specs.Chunks.{leads, slots_at}

-- how many words stand before its header
abbrev pub lead_at : List ℕ → ℕ → ℕ
lead_at words s = if leads (slice_index words s) then 1 else 0

-- its place, which is its first word
abbrev pub place_at : List ℕ → ℕ → ℕ
place_at words s = s - lead_at words s

-- how many words it has
abbrev pub words_at : List ℕ → ℕ → ℕ
words_at words s = lead_at words s + 1 + max 1 (slots_at words s)

-- where it ends
abbrev pub end_at : List ℕ → ℕ → ℕ
end_at words s = place_at words s + words_at words s
