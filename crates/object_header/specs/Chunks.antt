-- A region of words as a row of chunks. A chunk is known from its first word alone: its size does not depend on what stands in it.
use Rattle.std.specs.Prelude.{◌≡◌, ◌<◌, ◌≤◌, ℕ, suc, zero, ◌+◌, ◌-◌, max, List, [], ◌∷◌, take, drop, length, slice_index, Bool, true, if◌then◌else◌, nat_eq, nat_lt, not, ◌&&◌}
use Rattle.std.specs.List.{list_any}
use Rattle.object_header.specs.Head.{count_of, class_of, overflow_slots_of}
use Rattle.object_header.specs.declared.header.TheConstants.{FREE_CLASS, OVERFLOW_COUNT}

-- a chunk by its places: the index of its first word and of its header word, its size in words, and its number of slots
pub record Chunk : Type 0 where
  pub at : ℕ
  pub start : ℕ
  pub size : ℕ
  pub slots : ℕ

-- the first word of a chunk is an overflow word
abbrev pub leads : ℕ → Bool
leads word = nat_eq (count_of word) OVERFLOW_COUNT

-- the number of slots that the first word of a chunk tells
abbrev pub slots_told : ℕ → ℕ
slots_told word = if leads word then overflow_slots_of word else count_of word

-- the chunk whose first word stands at `at`; it has at least one word behind its header
unfoldable pub chunk_of : ℕ → ℕ → Chunk
chunk_of at word = record {
  at = at;
  start = if leads word then at + 1 else at;
  size = (if leads word then 2 else 1) + max 1 (slots_told word);
  slots = slots_told word;
}

-- a chunk stands at `at`; where it has an overflow word, its header says so too
pub record IsChunk (words : List ℕ) (at : ℕ) (c : Chunk) : Type 0 where
  pub is : c ≡ chunk_of at (slice_index words at)
  pub twice : leads (slice_index words c.start) ≡ leads (slice_index words at)

-- the words from `at` up to `end` are these chunks, one after another
abbrev pub Cuts : List ℕ → ℕ → ℕ → List Chunk → Type 0
Cuts words at end [] = at ≡ end
Cuts words at end (c ∷ cs) = IsChunk words at c × Cuts words (at + c.size) end cs

-- these chunks stand among the words from `at` up to `end`, in this order; words of no chunk may stand before, between and behind them
abbrev pub InOrder : List ℕ → ℕ → ℕ → List Chunk → Type 0
InOrder words at end [] = at ≤ end
InOrder words at end (c ∷ cs) = (at ≤ c.at) × (IsChunk words c.at c × InOrder words (c.at + c.size) end cs)

-- the chunks from `at` up to `end`, at most so many
unfoldable pub chunks_from : ℕ → List ℕ → ℕ → ℕ → List Chunk
chunks_from zero words at end = []
chunks_from (suc most) words at end =
    if nat_lt at end then chunk_of at (slice_index words at) ∷ chunks_from most words (at + (chunk_of at (slice_index words at)).size) end else []

-- the chunks of some words, where they are cut into chunks without a rest; no row has more chunks than words
unfoldable pub chunks : List ℕ → List Chunk
chunks words = chunks_from (length words) words 0 (length words)

-- the chunks of the words from `from` up to `end`, where these are cut into chunks without a rest
abbrev pub row : List ℕ → ℕ → ℕ → List Chunk
row words from end = chunks_from (end - from) words from end

-- the words of the slots of a chunk
abbrev pub slots_of : List ℕ → Chunk → List ℕ
slots_of words c = take c.slots (drop (c.start + 1) words)

-- the number of slots of the chunk that starts at `s`, from its head words
unfoldable pub slots_at : List ℕ → ℕ → ℕ
slots_at words s = if leads (slice_index words s) then overflow_slots_of (slice_index words (s - 1)) else count_of (slice_index words s)

-- the words of these slots
abbrev pub slots_from : List ℕ → ℕ → List ℕ
slots_from words s = take (slots_at words s) (drop (s + 1) words)

-- a header stands there, with its overflow word where it has one, and its slots are among the words
pub record StandsAt (words : List ℕ) (s : ℕ) : Type 0 where
  pub below : s + 1 < length words
  pub behind : leads (slice_index words s) ≡ true → 1 ≤ s
  pub fits : s + 1 + slots_at words s ≤ length words

-- one of these chunks starts there, and is not free
unfoldable pub starts_in : List ℕ → List Chunk → ℕ → Bool
starts_in words cs s = list_any (λ (c : Chunk). nat_eq c.start s) cs && not (nat_eq (class_of (slice_index words s)) FREE_CLASS)
