-- Slots, and the handles that they lead to.
use Rattle.std.specs.Prelude.{◌≡◌, ◌≢◌, ◌<◌, ◌≤◌, ℕ, ◌+◌, ◌-◌, ◌%◌, List, [], ◌++◌, length, fold, slice_index, slice_index_or, min, sum_by}
use Rattle.std.specs.Hash as fed
use Rattle.std.specs.Hash.FoldHasher as folding
use Rattle.spur_graph.specs.Graph.{Handle}
use Rattle.handle_table.specs.declared.index.TheConstants.{HOMES, MOST_HANDLES, SLOTS}
use Rattle.handle_table.specs.declared.index.Held.{Held}

-- the slot at which the search for a handle starts: what its mutator and its name hash to
unfoldable pub home_of : Handle → ℕ
home_of h = folding.finish (fold folding.write folding.initial (fed.u8 h.0 ++ fed.str h.1)) % HOMES

abbrev pub key_of : Held → Handle
key_of h = (h.mutator, h.name.bytes)

abbrev pub blank : Held
blank = record { mutator = 0; name = record { bytes = []; spare = [] }; slot = 0 }

-- the handle at an index
abbrev pub key_at : List Held → ℕ → Handle
key_at held n = key_of (slice_index_or held n blank)

-- the slot that has an index
abbrev pub slot_at : List Held → ℕ → ℕ
slot_at held n = (slice_index_or held n blank).slot

abbrev pub home_at : List Held → ℕ → ℕ
home_at held n = home_of (key_at held n)

-- how many slots are not free
unfoldable pub used : List ℕ → ℕ
used slots = sum_by (min 1) slots

-- no slot from the home slot on is free before this one
abbrev pub IsReached : List ℕ → ℕ → ℕ → Type 0
IsReached slots home slot = (home ≤ slot) × ((j : ℕ) → home ≤ j → j < slot → slice_index slots j ≢ 0)

-- the same, but for the slot `gap`
abbrev pub IsReachedOver : List ℕ → ℕ → ℕ → ℕ → Type 0
IsReachedOver slots gap home slot = (home ≤ slot) × ((j : ℕ) → home ≤ j → j < slot → j ≢ gap → slice_index slots j ≢ 0)

-- each of `count` indices stands in its slot, as one more, and a slot that is not free has the index that stands there
pub record IsPaired (slots : List ℕ) (count : ℕ) (slot : ℕ → ℕ) : Type 0 where
  pub size : length slots ≡ SLOTS
  pub few : count ≤ MOST_HANDLES
  pub pointed : (n : ℕ) → n < count → (slot n < SLOTS) × (slice_index slots (slot n) ≡ n + 1)
  pub named : (i : ℕ) → slice_index slots i ≢ 0 → (slice_index slots i ≤ count) × (slot (slice_index slots i - 1) ≡ i)
  pub counted : used slots ≡ count

-- and a search from its home slot comes to it
pub record IsIndexed (slots : List ℕ) (count : ℕ) (home slot : ℕ → ℕ) : Type 0 where
  pub paired : IsPaired slots count slot
  pub reached : (n : ℕ) → n < count → IsReached slots (home n) (slot n)

-- the same, if it passes over the free slot `gap`; none of those before `at` has to
pub record HasGap (slots : List ℕ) (count : ℕ) (home slot : ℕ → ℕ) (gap at : ℕ) : Type 0 where
  pub paired : IsPaired slots count slot
  pub within : (gap < at) × (at ≤ SLOTS)
  pub free : slice_index slots gap ≡ 0
  pub reached : (n : ℕ) → n < count → IsReachedOver slots gap (home n) (slot n)
  pub passed : (n : ℕ) → n < count → gap < slot n → slot n < at → gap < home n

-- a free slot that a search from a home slot comes to
pub record IsFreeFor (slots : List ℕ) (home slot : ℕ) : Type 0 where
  pub within : slot < SLOTS
  pub free : slice_index slots slot ≡ 0
  pub reached : IsReached slots home slot

-- no handle stands at two of the first `count` indices
abbrev pub AreApart : ℕ → (ℕ → Handle) → Type 0
AreApart count key = (m n : ℕ) → m < count → n < count → key m ≡ key n → m ≡ n

-- slots and handles that belong together
pub record IsIndex (slots : List ℕ) (held : List Held) : Type 0 where
  pub indexed : IsIndexed slots (length held) (home_at held) (slot_at held)
  pub apart : AreApart (length held) (key_at held)
