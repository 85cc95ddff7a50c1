-- The tables of a heap: the remembered starts, the mourners, the mark stack, and the first fields that a compaction keeps aside.
use Rattle.std.specs.Prelude.{ℕ, ◌≡◌, ◌≤◌, ◌/◌, ◌%◌, ◌^◌, List, [], ◌∷◌, length, drop, Bool, if◌then◌else◌, nat_eq, nat_le, vec_capacity}
use Rattle.std.specs.List.{list_any}
use Rattle.std.specs.FinMap.{empty}
use Rattle.handle_table.specs.Handles.{held}
use Rattle.remembered_set.specs.Starts.{Table, AreDistinct}
use Rattle.spur_heap.specs.declared.bare.Bare.{Bare}

-- ---- the table of mourners

-- an entry begins a group
abbrev pub begins : ℕ → Bool
begins entry = nat_le (2 ^ 31) entry

-- the start that an entry has
abbrev pub start_in : ℕ → ℕ
start_in entry = entry % 2 ^ 31

-- the starts in front of the first entry that begins a group, and the groups
pub record Parted : Type 0 where
  pub front : List ℕ
  pub groups : List (List ℕ)

unfoldable pub parted : List ℕ → Parted
parted [] = record { front = []; groups = [] }
parted (e ∷ es) =
    if begins e then record { front = []; groups = (start_in e ∷ (parted es).front) ∷ (parted es).groups }
    else record { front = start_in e ∷ (parted es).front; groups = (parted es).groups }

-- the groups of the entries behind those that were taken away
abbrev pub groups_of : ℕ → List ℕ → List (List ℕ)
groups_of mourned entries = (parted (drop mourned entries)).groups

-- ---- places

-- a table has a place for each object that so many words can hold: an object has two words at least
abbrev pub HasPlaces : ℕ → ℕ → Type 0
HasPlaces words capacity = words / 2 ≤ capacity

-- ---- the table of remembered starts

-- a start is in it
abbrev pub has : List ℕ → ℕ → Bool
has starts s = list_any (nat_eq s) starts

-- it has the starts that pass the test and no other, each once, and a place for each object that so many words can hold
pub record IsTableOf (test : ℕ → Bool) (words : ℕ) (table : Table) : Type 0 where
  pub once : AreDistinct table.starts
  pub exactly : (s : ℕ) → has table.starts s ≡ test s
  pub places : HasPlaces words table.capacity

-- ---- places that are not yet a heap

-- no handle is held
abbrev pub IsUnbound : Bare → Type 0
IsUnbound b = held b.handles ≡ empty

-- the tables of places that are not yet a heap
pub record HasEmptyTables (b : Bare) : Type 0 where
  pub none_remembered : b.remembered.starts ≡ []
  pub remembered_places : HasPlaces (length b.region) b.remembered.capacity
  pub no_mourners : b.mourners.items ≡ []
  pub mourner_places : HasPlaces (length b.region) (vec_capacity b.mourners)
  pub no_marks : b.marks.items ≡ []
  pub mark_places : HasPlaces (length b.region) (vec_capacity b.marks)
  pub saved : length b.saved.items ≡ b.limits.saved
  pub some_saved : 1 ≤ b.limits.saved
