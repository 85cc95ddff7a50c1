-- A header word that tells the same object with another hash, other flags or another format.
use Rattle.std.specs.Prelude.{ℕ, ◌≡◌, ◌<◌, ◌≤◌, ◌⊎◌, ◌==◌, slice_index, false}
use Rattle.object_header.specs.Fields.{fields_of}
use Rattle.spur_graph.specs.Node.{Node}
use Rattle.spur_graph.specs.Instances.{has_entered}
use Rattle.spur_graph.specs.Heaps.{View, HasNoUnusedBits, heap_graph}
use Rattle.spur_heap.specs.Views.{node_in}

-- the format is the same, or that of named slots alone in place of one whose slots are all pointers
abbrev pub KeepsSlots : ℕ → ℕ → Type 0
KeepsSlots was now = (now ≡ was) ⊎ ((was < 6) × (now ≡ 1))

-- a header word for the object that starts at `s`: no field is another but its hash, its two flags and its format. The hash is another only where the
-- object is no entered class, behind old space the pinned flag is not set anew, and the slots stay what they are
pub record CanHead (v : View) (s word : ℕ) : Type 0 where
  pub count : (fields_of word).count ≡ (fields_of (slice_index v.words s)).count
  pub marked : (fields_of word).marked ≡ (fields_of (slice_index v.words s)).marked
  pub grey : (fields_of word).grey ≡ (fields_of (slice_index v.words s)).grey
  pub remembered : (fields_of word).remembered ≡ (fields_of (slice_index v.words s)).remembered
  pub format : KeepsSlots (fields_of (slice_index v.words s)).format (fields_of word).format
  pub class : (fields_of word).class ≡ (fields_of (slice_index v.words s)).class
  pub unused : HasNoUnusedBits (slice_index v.words s) → HasNoUnusedBits word
  pub hash : ((fields_of word).hash ≡ (fields_of (slice_index v.words s)).hash) ⊎ (has_entered (heap_graph v) s ≡ false)
  pub mobile : v.spaces.old_end ≤ s → (fields_of (slice_index v.words s)).pinned ≡ 0 → (fields_of word).pinned ≡ 0

-- the node of the object with the hash, the format and the flags of a header word
abbrev pub headed : View → ℕ → ℕ → Node
headed v s word = record (node_in v s) { hash = (fields_of word).hash; format = (fields_of word).format; pinned = (fields_of word).pinned == 1; readonly = (fields_of word).readonly == 1 }
