-- Free chunks in the words, and runs of words: a run is its first word and its number of words.
use Rattle.std.specs.Prelude.{ℕ, ◌≡◌, ◌+◌, ◌-◌, ◌<◌, ◌≤◌, List, length, slice_index, sum_by, nat_lt, if◌then◌else◌}
use Rattle.object_header.specs.Fields.{free_header}
use Rattle.object_header.specs.Head.{count_of, class_of, overflow_slots_of}
use Rattle.object_header.specs.declared.header.TheConstants.{FREE_CLASS, OVERFLOW_COUNT}

-- the words from `at` on are a free chunk of `size` words, with an overflow word exactly where it has more than 255
pub record IsFree (words : List ℕ) (at size : ℕ) : Type 0 where
  pub big : 2 ≤ size
  pub inside : at + size ≤ length words
  pub short : size ≤ 255 → (count_of (slice_index words at) ≡ size - 1) × (class_of (slice_index words at) ≡ FREE_CLASS) × (slice_index words at ≡ free_header (size - 1))
  pub long : 255 < size
      → (count_of (slice_index words at) ≡ OVERFLOW_COUNT) × (overflow_slots_of (slice_index words at) ≡ size - 2)
      × (count_of (slice_index words (at + 1)) ≡ OVERFLOW_COUNT) × (class_of (slice_index words (at + 1)) ≡ FREE_CLASS)
      × (slice_index words (at + 1) ≡ free_header OVERFLOW_COUNT)

-- 1 where the word `k` is one of the run, which is its first word and its number of words; else 0
unfoldable pub covers : ℕ → ℕ × ℕ → ℕ
covers k run = if nat_lt k run.0 then 0 else if nat_lt k (run.0 + run.1) then 1 else 0

-- of how many runs the word `k` is one
abbrev pub cover : List (ℕ × ℕ) → ℕ → ℕ
cover runs k = sum_by (covers k) runs
