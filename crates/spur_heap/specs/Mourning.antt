-- Mourners that come and go, and ephemerons that become mourners.
use Rattle.std.specs.Prelude.{ℕ, ◌≡◌, ◌≤◌, ◌+◌, ◌*◌, ◌%◌, ◌^◌, List, [], ◌∷◌, ◌++◌, length, drop, Bool, if◌then◌else◌, vec_capacity}
use Rattle.std.specs.List.{Contains}
use Rattle.object_header.specs.Field.{with_field}
use Rattle.spur_graph.specs.declared.answer.Value.TheVariants.{Ref}
use Rattle.spur_graph.specs.Collections.{without_first}
use Rattle.spur_graph.specs.Heaps.{View, heap_graph, heap_room, heap_value}
use Rattle.spur_heap.specs.declared.heap.HeapParts.{HeapParts}
use Rattle.spur_heap.specs.Views.{IsGood}

-- the header word with the format of an object that has named slots alone
abbrev pub retired_word : ℕ → ℕ
retired_word word = with_field 24 5 word 1

-- ---- groups

-- the last group has a mourner more
unfoldable pub extended : List (List ℕ) → ℕ → List (List ℕ)
extended [] a = []
extended (group ∷ []) a = (group ++ a ∷ []) ∷ []
extended (group ∷ other ∷ groups) a = group ∷ extended (other ∷ groups) a

-- a mourner more, which begins a group or belongs to the last one
abbrev pub added : List (List ℕ) → ℕ → Bool → List (List ℕ)
added groups a first = if first then groups ++ (a ∷ []) ∷ [] else extended groups a

-- the first mourner of the first group is gone, and with it a group that has no other
abbrev pub popped : List (List ℕ) → List (List ℕ)
popped [] = []
popped ([] ∷ groups) = groups
popped ((a ∷ []) ∷ groups) = groups
popped ((a ∷ b ∷ group) ∷ groups) = (b ∷ group) ∷ groups

-- ---- entries

-- the first entry begins a group
abbrev pub with_group : List ℕ → List ℕ
with_group [] = []
with_group (entry ∷ entries) = (entry % 2 ^ 31 + 2 ^ 31) ∷ entries

-- the entries that were not taken away
abbrev pub left : HeapParts → List ℕ
left p = drop p.mourned p.mourners.items

-- the table is another, with as many places, and nothing else
pub record ChangesTable (old new : HeapParts) : Type 0 where
  pub taken : new.mourned ≤ length new.mourners.items
  pub places : vec_capacity new.mourners ≡ vec_capacity old.mourners
  pub rest : new ≡ record old { mourners = new.mourners; mourned = new.mourned }

-- the first entry that was left is taken away
pub record TakesEntry (old new : HeapParts) (entry : ℕ) : Type 0 where
  pub changes : ChangesTable old new
  pub others : List ℕ
  pub was : left old ≡ entry ∷ others
  pub is : left new ≡ with_group others

-- ---- a heap

-- a mourner of the earliest group is taken away, and the word refers to it
pub record TakesMourner (old new : View) (word : ℕ) : Type 0 where
  pub group : List ℕ
  pub groups : List (List ℕ)
  pub are : (heap_graph old).mourners ≡ group ∷ groups
  pub name : ℕ
  pub waits : Contains group name
  pub is : word ≡ 8 * name
  pub good : IsGood new word
  pub value : heap_value new word ≡ Ref name
  pub rest : new ≡ record old { mourners = popped old.mourners }
  pub graph : heap_graph new ≡ record (heap_graph old) { mourners = without_first name group groups }
  pub room : heap_room new ≡ heap_room old
