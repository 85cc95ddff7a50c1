-- What a compaction asks of a heap, and what it does to it.
use Rattle.std.specs.Prelude.{ℕ, ◌≡◌, ◌≢◌, ◌⊎◌, ◌+◌, ◌-◌, ◌/◌, ◌%◌, ◌<◌, ◌≤◌, ◌&&◌, ◌==◌, Bool, true, false, not, nat_eq, List, [], ◌∷◌, map, slice_index, Some}
use Rattle.std.specs.List.{Contains, filter, count_by}
use Rattle.std.specs.FinMap.{get}
use Rattle.object_header.specs.Fields.{fields_of}
use Rattle.object_header.specs.Head.{class_of}
use Rattle.object_header.specs.Chunks.{Chunk, Cuts, leads, row}
use Rattle.object_header.specs.declared.header.TheConstants.{FREE_CLASS}
use Rattle.spur_graph.specs.Graph.{Handle}
use Rattle.spur_graph.specs.Cells.{is_moved, is_there, pointer_count, first}
use Rattle.spur_graph.specs.Ordinary.{body_at, is_internal, roots_slots}
use Rattle.spur_graph.specs.Planned.{Marked, planned}
use Rattle.spur_graph.specs.Spaces.{old_row, eden_row, past_row}
use Rattle.spur_graph.specs.Heaps.{View, IsClear, is_marked, store_of, waiting_in}
use Rattle.heap_cells.specs.Rows.{starts_of}
use Rattle.heap_cells.specs.Settled.{word_of}
use Rattle.heap_laws.specs.Instances.{IsReaddressedOutside}
use Rattle.heap_laws.specs.Compaction.{MovedBy}
use Rattle.heap_laws.specs.Placing.{outside_of}

-- ---- what stays

-- the header at a start has the pinned bit
abbrev pub is_pinned : List ℕ → ℕ → Bool
is_pinned words s = (fields_of (slice_index words s)).pinned == 1

-- a marked object starts there
abbrev pub is_marked_object : View → ℕ → Bool
is_marked_object v s = is_there ((store_of v).cell s) && is_marked v.words s

-- a word that is a reference names a marked object, and no forwarder on the way
abbrev pub NamesMarked : View → ℕ → Type 0
NamesMarked v word = word % 8 ≡ 0 → is_marked_object v (word / 8) ≡ true

-- the internal objects, nil, false and true are marked, no forwarder is, and each reference of a marked object and of a root names a marked object. The
-- words of the free lists object are no values, and the hidden roots name nil and internal objects alone
pub record IsTight (v : View) : Type 0 where
  pub internal : (s : ℕ) → is_internal (store_of v) s ≡ true → is_marked v.words s ≡ true
  pub firsts : (k : ℕ) → k < 3 → is_marked v.words (first (store_of v) k) ≡ true
  pub forwarders : (s : ℕ) → is_moved ((store_of v).cell s) ≡ true → is_marked v.words s ≡ false
  pub slots : (s i : ℕ) → is_marked_object v s ≡ true → s ≢ first (store_of v) 3 → s ≢ first (store_of v) 4 → i < pointer_count (body_at (store_of v) s)
      → NamesMarked v (slice_index (body_at (store_of v) s).words i)
  pub special : NamesMarked v v.special
  pub held : (h : Handle) (word : ℕ) → get v.handles h ≡ Some word → NamesMarked v word
  pub waiting : (s : ℕ) → Contains (waiting_in v.mourners) s → is_marked_object v s ≡ true

-- what stands in the start map while objects move: the marked objects, without the free lists object
abbrev pub is_mapped : View → ℕ → Bool
is_mapped v s = is_marked_object v s && not (nat_eq s (first (store_of v) 3))

-- ---- planned places

-- the marked objects of a row, as they are planned
abbrev pub marked_in : View → List Chunk → List Marked
marked_in v cs = map (λ (c : Chunk). record { at = c.at; start = c.start; size = c.size; pinned = is_pinned v.words c.start }) (filter (λ (c : Chunk). is_marked_object v c.start) cs)

-- the starts of objects at these places
unfoldable pub starts_at : List Marked → List (ℕ × ℕ) → List ℕ
starts_at [] places = []
starts_at (m ∷ ms) [] = []
starts_at (m ∷ ms) (e ∷ places) = (e.1 + (m.start - m.at)) ∷ starts_at ms places

-- each of these objects of a range that begins at `low` goes to its planned place
abbrev pub GoAsPlanned : (ℕ → ℕ) → ℕ → List Marked → Type 0
GoAsPlanned p low ms = map (λ (m : Marked). p m.start) ms ≡ starts_at ms (planned low ms)

-- ---- rows afterwards

-- the header of a free chunk, without mark, grey and remembered bit, and without a bit of no field
pub record IsFreeHead (word : ℕ) : Type 0 where
  pub free : class_of word ≡ FREE_CLASS
  pub clear : IsClear word

-- a range is cut into chunks without a rest: those that start there, and free ones
pub record IsCut (has : ℕ → Bool) (words : List ℕ) (low end : ℕ) : Type 0 where
  pub cuts : Cuts words low end (row words low end)
  pub starts : (s : ℕ) → has s ≡ true → low ≤ s → s < end → Contains (starts_of (row words low end)) s
  pub kinds : (c : Chunk) → Contains (row words low end) c → (has c.start ≡ true) ⊎ IsFreeHead (slice_index words c.start)

-- a range is cut, up to `last`, into the chunks that start there
pub record IsFull (has : ℕ → Bool) (words : List ℕ) (low end last : ℕ) : Type 0 where
  pub within : last ≤ end
  pub cuts : Cuts words low last (row words low last)
  pub starts : (s : ℕ) → has s ≡ true → low ≤ s → s < end → Contains (starts_of (row words low last)) s
  pub objects : (c : Chunk) → Contains (row words low last) c → has c.start ≡ true

-- how many chunks of a row are no objects, and how many are pinned ones
abbrev pub free_count : (ℕ → Bool) → List Chunk → ℕ
free_count has cs = count_by (λ (c : Chunk). not (has c.start)) cs

abbrev pub pinned_count : (ℕ → Bool) → List ℕ → List Chunk → ℕ
pinned_count has words cs = count_by (λ (c : Chunk). has c.start && is_pinned words c.start) cs

-- ---- a compaction

-- the word behind the hidden roots, the last of the first five chunks, which stay where they are
abbrev pub behind_roots : View → ℕ
behind_roots v = first (store_of v) 4 + 1 + roots_slots

-- the head words of the free lists object are as they were
pub record KeepsHead (words words' : List ℕ) (s : ℕ) : Type 0 where
  pub header : slice_index words' s ≡ slice_index words s
  pub lead : leads (slice_index words s) ≡ true → slice_index words' (s - 1) ≡ slice_index words (s - 1)

-- the objects of a range stay in it
abbrev pub StayIn : (ℕ → ℕ) → View → ℕ → ℕ → Type 0
StayIn p v low end = (s : ℕ) → is_mapped v s ≡ true → low ≤ s → s < end → (low ≤ p s) × (p s < end)

-- each space is compacted within itself: `p` takes each marked object to its planned place, with all references under the new places, and whatever is
-- not marked is gone. The gaps of old space are free chunks, one more than pinned objects at most; eden and past space have objects alone
pub record Compacts (p : ℕ → ℕ) (v v' : View) : Type 0 where
  pub starts : ℕ → Bool
  pub moved : MovedBy p (is_mapped v) starts v.words v'.words
  pub firsts : (k : ℕ) → k < 5 → p (first (store_of v) k) ≡ first (store_of v) k
  pub pinned : (s : ℕ) → is_mapped v s ≡ true → is_pinned v.words s ≡ true → p s ≡ s
  pub lists : KeepsHead v.words v'.words (first (store_of v) 3)
  pub planned_old : GoAsPlanned p 0 (marked_in v (old_row v.words v.spaces))
  pub planned_eden : GoAsPlanned p v.spaces.eden_at (marked_in v (eden_row v.words v.spaces))
  pub planned_past : GoAsPlanned p v.spaces.past_at (marked_in v (past_row v.words v.spaces))
  pub stay_old : StayIn p v (behind_roots v) v.spaces.old_end
  pub stay_eden : StayIn p v v.spaces.eden_at (v.spaces.eden_at + v.spaces.eden_used)
  pub stay_past : StayIn p v v.spaces.past_at (v.spaces.past_at + v.spaces.past_used)
  pub old : IsCut starts v'.words (behind_roots v) v.spaces.old_end
  pub few : free_count starts (row v'.words (behind_roots v) v.spaces.old_end) ≤ pinned_count starts v'.words (row v'.words (behind_roots v) v.spaces.old_end) + 1
  pub eden : IsFull starts v'.words v.spaces.eden_at (v.spaces.eden_at + v.spaces.eden_used) (v.spaces.eden_at + v'.spaces.eden_used)
  pub past : IsFull starts v'.words v.spaces.past_at (v.spaces.past_at + v.spaces.past_used) (v.spaces.past_at + v'.spaces.past_used)
  pub spaces : v'.spaces ≡ record v.spaces { eden_used = v'.spaces.eden_used; past_used = v'.spaces.past_used }
  pub outside : IsReaddressedOutside p word_of (outside_of v) (outside_of v')
  pub rest : v' ≡ record v { words = v'.words; spaces = v'.spaces; mourners = v'.mourners; handles = v'.handles; special = v'.special }
