-- What collectors and copies do to a store.
use Rattle.std.specs.Prelude.{ℕ, ◌≡◌, ◌≢◌, ◌<◌, ◌≤◌, ◌*◌, ◌/◌, ◌%◌, ◌&&◌, Bool, true, false, map, length, slice_index, if◌then◌else◌, nat_eq, Some}
use Rattle.std.specs.Option.{option_map}
use Rattle.std.specs.List.{Contains}
use Rattle.std.specs.FinMap.{get}
use Rattle.spur_graph.specs.Graph.{Handle}
use Rattle.spur_graph.specs.Cells.{Empty, Moved, Store, pointer_count, first, is_there, is_start}
use Rattle.spur_graph.specs.Ordinary.{body_at, root_slot, page_places, is_ordinary, is_first, is_good_reference, is_good_word}
use Rattle.spur_graph.specs.Heaps.{IsSound, AreMourners, waiting_in, heap_to}
use Rattle.heap_cells.specs.Settled.{map_front}
use Rattle.heap_laws.specs.Placed.{IsReading, Outside}

-- a heap's store whose references are multiples of 8
pub record IsSoundStore (h : Store) : Type 0 where
  pub reads : IsReading h
  pub sound : IsSound h

-- what stands at a start that does not live is gone: what lives names what lives. A forwarder may live or go, as long as nothing that lives names one
-- that goes
pub record IsSwept (live : ℕ → Bool) (old new : Store) : Type 0 where
  pub before : IsSoundStore old
  pub reads : IsReading new
  pub cells : (t : ℕ) → new.cell t ≡ (if live t then old.cell t else Empty)
  pub names : new.names ≡ old.names
  pub to : (w : ℕ) → new.to w ≡ old.to w
  pub five : 5 ≤ length new.starts
  pub firsts : (j : ℕ) → j < 5 → (live (first old j) ≡ true) × (first new j ≡ first old j)
  pub pages : (i s : ℕ) → i < page_places → old.to (root_slot old i) ≡ Some s → live s ≡ true
  pub targets : (s t : ℕ) → live s ≡ true → old.cell s ≡ Moved t → live t ≡ true
  pub slots : (s i t : ℕ) → live s ≡ true → s ≢ first old 3 → s ≢ first old 4 → i < pointer_count (body_at old s) → old.to (slice_index (body_at old s).words i) ≡ Some t → live t ≡ true

-- what lives and is an object
abbrev pub live_objects : (ℕ → Bool) → Store → ℕ → Bool
live_objects live h s = live s && is_there (h.cell s)

-- all objects
abbrev pub all_objects : Store → ℕ → Bool
all_objects h s = is_there (h.cell s)

abbrev pub same_place : ℕ → ℕ
same_place s = s

-- the object at `from` has gone to `to`, where nothing stood, and a forwarder stands in its place
pub record IsCopied (from to : ℕ) (old new : Store) : Type 0 where
  pub before : IsSoundStore old
  pub reads : IsReading new
  pub below : (s : ℕ) → is_start (old.cell s) ≡ true → s < old.names
  pub ordinary : is_ordinary old from ≡ true
  pub later : is_first old from ≡ false
  pub free : old.cell to ≡ Empty
  pub cells : (t : ℕ) → new.cell t ≡ (if nat_eq t to then old.cell from else if nat_eq t from then Moved to else old.cell t)
  pub names : new.names ≡ old.names
  pub same : (w : ℕ) → new.to w ≡ old.to w
  pub five : 5 ≤ length new.starts
  pub firsts : (j : ℕ) → j < 5 → first new j ≡ first old j

-- one start stands elsewhere
abbrev pub moved_to : ℕ → ℕ → ℕ → ℕ
moved_to from to s = if nat_eq s from then to else s

-- a word under other references: `word_at` is the word that names the place of a start
abbrev pub renamed_by : (ℕ → ℕ) → ℕ → ℕ
renamed_by word_at word = if nat_eq (word % 8) 0 then word_at (word / 8) else word

-- a word of a heap under new places
abbrev pub readdressed_by : (ℕ → ℕ) → ℕ → ℕ
readdressed_by p word = renamed_by (λ s. 8 * p s) word

-- an object stands at its new place, its references under the new places; of the free lists object the fields and the number of words alone
pub record IsReaddressedAt (p address : ℕ → ℕ) (old new : Store) (s : ℕ) : Type 0 where
  pub there : is_there (new.cell (p s)) ≡ true
  pub head : body_at new (p s) ≡ record (body_at old s) { words = (body_at new (p s)).words }
  pub long : length (body_at new (p s)).words ≡ length (body_at old s).words
  pub words : s ≢ first old 3 → (body_at new (p s)).words ≡ map_front (renamed_by (λ t. address (p t))) (pointer_count (body_at old s)) (body_at old s).words

-- what lives in a heap stands where `p` says in `new`, where the word of a start is its address; its references and the targets of forwarders are under
-- the new places, and nothing else stands anywhere. What lives names what lives
pub record IsReaddressed (p address : ℕ → ℕ) (live : ℕ → Bool) (old new : Store) : Type 0 where
  pub before : IsSoundStore old
  pub reads : IsReading new
  pub to_old : (w : ℕ) → old.to w ≡ heap_to w
  pub to_new : (t : ℕ) → is_start (new.cell t) ≡ true → new.to (address t) ≡ Some t
  pub starts : (s : ℕ) → live s ≡ true → is_start (old.cell s) ≡ true
  pub objects : (s : ℕ) → live s ≡ true → is_there (old.cell s) ≡ true → IsReaddressedAt p address old new s
  pub forwarders : (s t : ℕ) → live s ≡ true → old.cell s ≡ Moved t → (live t ≡ true) × (new.cell (p s) ≡ Moved (p t))
  pub back : (t : ℕ) → is_start (new.cell t) ≡ true → (s : ℕ) × (live s ≡ true) × (p s ≡ t)
  pub once : (s t : ℕ) → live s ≡ true → live t ≡ true → p s ≡ p t → s ≡ t
  pub below : (t : ℕ) → is_start (new.cell t) ≡ true → t < new.names
  pub five : 5 ≤ length new.starts
  pub firsts : (j : ℕ) → j < 5 → (live (first old j) ≡ true) × (first new j ≡ p (first old j))
  pub apart : first old 4 ≢ first old 3
  pub refs : (s i : ℕ) → live s ≡ true → is_there (old.cell s) ≡ true → s ≢ first old 3 → i < pointer_count (body_at old s) → slice_index (body_at old s).words i % 8 ≡ 0
      → live (slice_index (body_at old s).words i / 8) ≡ true

-- ---- what names objects from outside

-- it names what is good
pub record IsGoodOutside (h : Store) (o : Outside) : Type 0 where
  pub special : is_good_reference h o.special ≡ true
  pub held : (q : Handle) (word : ℕ) → get o.held q ≡ Some word → is_good_word h word ≡ true
  pub mourners : AreMourners h o.groups

-- and it names what lives
pub record LivesOutside (live : ℕ → Bool) (h : Store) (o : Outside) : Type 0 where
  pub special : (t : ℕ) → h.to o.special ≡ Some t → live t ≡ true
  pub held : (q : Handle) (word t : ℕ) → get o.held q ≡ Some word → h.to word ≡ Some t → live t ≡ true
  pub waiting : (s : ℕ) → Contains (waiting_in o.groups) s → live s ≡ true

-- every word of it is under the new places
pub record IsReaddressedOutside (p address : ℕ → ℕ) (o o' : Outside) : Type 0 where
  pub special : o'.special ≡ renamed_by (λ t. address (p t)) o.special
  pub held : (q : Handle) → get o'.held q ≡ option_map (renamed_by (λ t. address (p t))) (get o.held q)
  pub groups : o'.groups ≡ map (map p) o.groups
