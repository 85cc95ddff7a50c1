-- The words of an image once they are those of a heap: references are followed, and 8 times a start.
use Rattle.std.specs.Prelude.{ℕ, suc, zero, ◌≡◌, ◌≢◌, ◌+◌, ◌*◌, ◌%◌, ◌<◌, ◌≤◌, List, [], ◌∷◌, ◌++◌, length, true, false, if◌then◌else◌, nat_eq, nat_lt, Some}
use Rattle.std.specs.Option.{unwrap_or}
use Rattle.std.specs.List.{All, Contains}
use Rattle.spur_graph.specs.Value.{is_immediate_word}
use Rattle.spur_graph.specs.Cells.{Body, Cell, Empty, Moved, There, Store, pointer_count, first, lead, is_there, is_formed, is_start}
use Rattle.spur_graph.specs.Ordinary.{body_at, is_good_reference, is_bad_forwarder, is_bad_page, is_bad_entry, is_bad_slot, page_places, roots_slots}
use Rattle.spur_graph.specs.Heaps.{heap_to}

-- the word of a start in a heap
abbrev pub word_of : ℕ → ℕ
word_of s = 8 * s

-- a slot's word: an immediate stays, a good reference is followed, and whatever is no good value is nil
abbrev pub settled_word : Store → ℕ → ℕ
settled_word h word =
    if is_immediate_word word then word
    else if is_good_reference h word then word_of (unwrap_or (lead h word) (first h 0))
    else word_of (first h 0)

-- slot `i` of the hidden roots: the place of a page names its start, which is not followed, and the slots behind the places are nil
abbrev pub settled_root : Store → ℕ → ℕ → ℕ
settled_root h i word = if nat_lt i page_places then word_of (unwrap_or (h.to word) (first h 0)) else word_of (first h 0)

-- the first `n` words mapped
abbrev pub map_front : (ℕ → ℕ) → ℕ → List ℕ → List ℕ
map_front f zero words = words
map_front f (suc n) [] = []
map_front f (suc n) (w ∷ words) = f w ∷ map_front f n words

-- each word mapped with its number
abbrev pub map_from : (ℕ → ℕ → ℕ) → ℕ → List ℕ → List ℕ
map_from f i [] = []
map_from f i (w ∷ words) = f i w ∷ map_from f (i + 1) words

-- the words of the object that starts there: of the hidden roots each slot, of the free lists object, whose words are no values, none, of every
-- other object the pointer slots
unfoldable pub settled_words : Store → ℕ → Body → List ℕ
settled_words h s b =
    if nat_eq s (first h 4) then map_from (settled_root h) 0 b.words
    else if nat_eq s (first h 3) then b.words
    else map_front (settled_word h) (pointer_count b) b.words

-- a forwarder names the same start
abbrev pub settled_cell : Store → ℕ → Cell → Cell
settled_cell h s Empty = Empty
settled_cell h s (Moved t) = Moved t
settled_cell h s (There b) = There (record b { words = settled_words h s b })

-- the words of a file as a store: what it needs to be loaded, which is that no cause applies to it
pub record IsLoadable (h : Store) : Type 0 where
  pub formed : (s : ℕ) → is_there (h.cell s) ≡ true → is_formed (body_at h s) ≡ true
  pub five : 5 ≤ length h.starts
  pub objects : (k : ℕ) → k < 5 → is_there (h.cell (first h k)) ≡ true
  pub lists : (body_at h (first h 3)).format < 24
  pub roots : ((body_at h (first h 4)).format ≡ 2) × (length (body_at h (first h 4)).words ≡ roots_slots)
  pub ends : (s : ℕ) → is_bad_forwarder h s ≡ false
  pub pages : (i : ℕ) → i < page_places → is_bad_page h i ≡ false
  pub entries : (i : ℕ) → is_bad_entry h i ≡ false
  pub slots : (s i : ℕ) → (body_at h s).format ≢ 3 → is_bad_slot h s i ≡ false

-- how the words of a file name starts, and where these stand
pub record IsNamed (h : Store) : Type 0 where
  pub aligned : (w s : ℕ) → h.to w ≡ Some s → w % 8 ≡ 0
  pub below : (w s : ℕ) → h.to w ≡ Some s → s < h.names
  pub inside : (s : ℕ) → is_start (h.cell s) ≡ true → Contains h.starts s
  pub starts_below : All (λ s. s < h.names) h.starts
  pub rising : (i j : ℕ) → i < j → j < length h.starts → first h i < first h j

-- `new` has the settled words of `old`, and behind its chunks free ones
pub record IsSettled (old new : Store) : Type 0 where
  pub more : List ℕ
  pub starts : new.starts ≡ old.starts ++ more
  pub free : All (λ s. new.cell s ≡ Empty) more
  pub cells : (s : ℕ) → new.cell s ≡ settled_cell old s (old.cell s)
  pub names : old.names ≤ new.names
  pub behind : All (λ s. old.names ≤ s) more
  pub to : new.to ≡ heap_to
