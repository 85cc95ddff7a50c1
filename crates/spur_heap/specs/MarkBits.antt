-- Mark bits: objects that a collection has found. Beside them stands the mark stack.
use Rattle.std.specs.Prelude.{ℕ, ◌≡◌, ◌≢◌, List, [], length, slice_index, Bool, true, false, not, ◌&&◌, ◌||◌, nat_eq}
use Rattle.std.specs.List.{Contains}
use Rattle.object_header.specs.Chunks.{Chunk}
use Rattle.object_header.specs.Field.{with_field}
use Rattle.spur_graph.specs.Cells.{Store, first, any_below}
use Rattle.spur_graph.specs.Ordinary.{tells, is_ordinary}
use Rattle.spur_graph.specs.Heaps.{View, Marked, store_of, heap_graph, heap_room, is_marked}
use Rattle.spur_heap.specs.Words.{is_object, starts_at}
use Rattle.spur_heap.specs.Remembering.{after}

-- an object starts there
abbrev pub IsObject : View → ℕ → Type 0
IsObject v s = is_object v s ≡ true

-- an object or a forwarder starts there
abbrev pub StartsAt : View → ℕ → Type 0
StartsAt v s = starts_at v s ≡ true

-- the header word with the mark bit
abbrev pub with_mark : ℕ → ℕ
with_mark word = with_field 55 1 word 1

-- the header at `s` has the mark bit
abbrev pub marked : View → ℕ → View
marked v s = after v s (with_mark (slice_index v.words s))

-- objects are marked: whatever passes the test is marked then, and the rest is marked where it was. The heap stands for what it stood for
pub record MarksThose (test : ℕ → Bool) (old new : View) : Type 0 where
  pub rest : new ≡ record old { words = new.words }
  pub store : store_of new ≡ store_of old
  pub graph : heap_graph new ≡ heap_graph old
  pub room : heap_room new ≡ heap_room old
  pub inner : (s : ℕ) → test s ≡ true → is_marked new.words s ≡ true
  pub others : (s : ℕ) → test s ≡ false → is_marked new.words s ≡ is_marked old.words s

-- slot `place` of the hidden roots names a page that starts there, and not nil
abbrev pub is_page_of : Store → ℕ → ℕ → Bool
is_page_of h place s = not (nat_eq s (first h 0)) && tells h place s

-- an internal object starts there: the free lists object, the hidden roots, or the page of one of the first `n` places
abbrev pub is_internal_below : Store → ℕ → ℕ → Bool
is_internal_below h n s = nat_eq s (first h 3) || nat_eq s (first h 4) || (not (nat_eq s (first h 0)) && any_below (λ i. tells h i s) n)

-- the header word without the mark bit
abbrev pub without_mark : ℕ → ℕ
without_mark word = with_field 55 1 word 0

-- none of these chunks has its header there
abbrev pub IsNoHeaderOf : List Chunk → ℕ → Type 0
IsNoHeaderOf cs j = (c : Chunk) → Contains cs c → j ≢ c.start

-- the headers of these chunks are without their mark bits then, and no other word is written
pub record Unmarks (words new : List ℕ) (cs : List Chunk) : Type 0 where
  pub long : length new ≡ length words
  pub headers : (c : Chunk) → Contains cs c → slice_index new c.start ≡ without_mark (slice_index words c.start)
  pub others : (j : ℕ) → IsNoHeaderOf cs j → slice_index new j ≡ slice_index words j

-- from now on mark bits may be set, and the mark stack is empty
abbrev pub begun : View → View
begun v = record v { phase = Marked; stack = [] }

-- the ordinary objects that are marked
abbrev pub marks : View → ℕ → Bool
marks v s = is_ordinary (store_of v) s && is_marked v.words s
