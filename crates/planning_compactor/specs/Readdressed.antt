-- References under new places, while first fields are kept aside.
use Rattle.std.specs.Prelude.{ℕ, ◌≡◌, ◌+◌, ◌/◌, ◌%◌, ◌<◌, ◌≤◌, ◌⊎◌, Bool, true, false, not, ◌&&◌, nat_eq, nat_le, List, length, slice_index, if◌then◌else◌}
use Rattle.object_header.specs.Formats.{pointer_slots_of}
use Rattle.object_header.specs.Head.{format_of, literals_of}
use Rattle.object_header.specs.Chunks.{slots_at, StandsAt}
use Rattle.heap_cells.specs.Rows.{EndsBefore}
use Rattle.heap_walk.specs.declared.saved.Saved.{Saved}
use Rattle.planning_compactor.specs.Entries.{start_of, virtual, IsTable}
use Rattle.compaction_laws.specs.Compacting.{is_pinned}

-- how many pointer slots the object has, this being its first field
unfoldable pub pointers_with : List ℕ → ℕ → ℕ → ℕ
pointers_with words s first = pointer_slots_of (format_of (slice_index words s)) (slots_at words s) (literals_of first)

-- how many pointer slots the object has, and its slot `i`, with the first fields put back
abbrev pub count_at : List Saved → List ℕ → ℕ → ℕ
count_at es words s = pointers_with words s (virtual es words (s + 1))

abbrev pub slot_at : List Saved → List ℕ → ℕ → ℕ → ℕ
slot_at es words s i = virtual es words (s + 1 + i)

-- the word names a start from `low` up to `high`
unfoldable pub is_between : ℕ → ℕ → ℕ → Bool
is_between low high word = nat_eq (word % 8) 0 && (nat_le low (word / 8) && nat_le (word / 8) high)

-- the word once the objects from `low` up to `high` that are not pinned have moved: the word behind the header of each is 8 times its target
unfoldable pub moved_word : List ℕ → ℕ → ℕ → ℕ → ℕ
moved_word words low high word = if is_between low high word && not (is_pinned words (word / 8)) then slice_index words (word / 8 + 1) else word

-- what a start that is named has to have: a word behind it, and an entry of the table unless it is pinned
pub record IsNamed (words : List ℕ) (es : List Saved) (t : ℕ) : Type 0 where
  pub inside : t + 1 < length words
  pub kept : is_pinned words t ≡ false → (k : ℕ) × (k < length es) × (start_of es k ≡ t)

-- what was written of an object's slots
pub record Rewritten (es es' : List Saved) (words words' : List ℕ) (low high s n : ℕ) : Type 0 where
  pub same_words : length words' ≡ length words
  pub same_table : length es' ≡ length es
  pub starts : (k : ℕ) → k < length es → start_of es' k ≡ start_of es k
  pub targets : (k : ℕ) → k < length es → slice_index words' (start_of es k + 1) ≡ slice_index words (start_of es k + 1)
  pub slots : (i : ℕ) → i < n → virtual es' words' (s + 1 + i) ≡ moved_word words low high (virtual es words (s + 1 + i))
  pub others : (j : ℕ) → (j ≤ s) ⊎ (s + n < j) → virtual es' words' j ≡ virtual es words j
  pub outside : (j : ℕ) → (j ≤ s) ⊎ (s + n < j) → slice_index words' j ≡ slice_index words j

-- ---- all objects

-- where the starts are: each has its words, and ends before the next begins
pub record AreLive (has : ℕ → Bool) (words : List ℕ) : Type 0 where
  pub stands : (s : ℕ) → has s ≡ true → StandsAt words s
  pub apart : (s t : ℕ) → has s ≡ true → has t ≡ true → s < t → EndsBefore words s t

-- the table has each object from `low` up to `high` that is not pinned, and references name starts
pub record CanReaddress (has : ℕ → Bool) (es : List Saved) (words : List ℕ) (low high : ℕ) : Type 0 where
  pub live : AreLive has words
  pub table : IsTable es words
  pub entries : (k : ℕ) → k < length es → has (start_of es k) ≡ true
  pub known : (t : ℕ) → has t ≡ true → low ≤ t → t ≤ high → is_pinned words t ≡ false → (k : ℕ) × (k < length es) × (start_of es k ≡ t)
  pub fits : (s : ℕ) → has s ≡ true → count_at es words s ≤ slots_at words s
  pub refs : (s i : ℕ) → has s ≡ true → i < count_at es words s → is_between low high (virtual es words (s + 1 + i)) ≡ true → has (virtual es words (s + 1 + i) / 8) ≡ true

-- the word `j` is no pointer slot of an object before `at`
abbrev pub IsNoSlot : (ℕ → Bool) → List Saved → List ℕ → ℕ → ℕ → Type 0
IsNoSlot has es words at j = (s : ℕ) → has s ≡ true → s < at → s < j → s + count_at es words s < j

-- each pointer slot of the objects before `at` is moved, and nothing else has changed
pub record Readdressed (has : ℕ → Bool) (es es' : List Saved) (words words' : List ℕ) (low high at : ℕ) : Type 0 where
  pub same_words : length words' ≡ length words
  pub same_table : length es' ≡ length es
  pub starts : (k : ℕ) → k < length es → start_of es' k ≡ start_of es k
  pub targets : (k : ℕ) → k < length es → slice_index words' (start_of es k + 1) ≡ slice_index words (start_of es k + 1)
  pub slots : (s i : ℕ) → has s ≡ true → s < at → i < count_at es words s → virtual es' words' (s + 1 + i) ≡ moved_word words low high (virtual es words (s + 1 + i))
  pub others : (j : ℕ) → IsNoSlot has es words at j → virtual es' words' j ≡ virtual es words j
  pub outside : (j : ℕ) → IsNoSlot has es words at j → slice_index words' j ≡ slice_index words j
