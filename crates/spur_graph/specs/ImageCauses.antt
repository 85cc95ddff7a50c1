-- Why an image is refused. Each cause has a set of bad keys: places among the heap's words, numbers of segments or of entries. The first cause that
-- has a bad key is answered, with what is told of its least one.
use Rattle.std.specs.Prelude.{ℕ, ◌≡◌, ◌≢◌, ◌+◌, ◌-◌, ◌*◌, ◌/◌, ◌%◌, ◌^◌, ◌<◌, ◌⊎◌, List, [], ◌∷◌, ◌++◌, codes, length, Bool, true, false, nat_eq, not, ◌||◌, if◌then◌else◌, Result, Ok, Err}
use Rattle.std.specs.Fmt.{decimal}
use Rattle.spur_graph.specs.declared.limits.Limits.{Limits}
use Rattle.spur_graph.specs.declared.limits.TheConstants.{MOST_WORDS}
use Rattle.spur_graph.specs.declared.layout.TheConstants.{GREATEST_BASE}
use Rattle.spur_graph.specs.Bytes.{Text}
use Rattle.spur_graph.specs.ImageFile.{header_bytes, spur_format, format, header_size, heap_bytes, base, special_word}
use Rattle.spur_graph.specs.Segments.{is_good, is_last, left, segment, segments, most_segments, all_words, begin, offset_in}
use Rattle.spur_graph.specs.Cells.{Store, first}
use Rattle.spur_graph.specs.FileStores.{file_store}
use Rattle.spur_graph.specs.Ordinary.{page_places, page_entries, page_of, is_good_reference, is_bad_forwarder, is_bad_page, is_bad_entry, is_bad_slot, body_at}
use Rattle.spur_graph.specs.Places.{IsBadObject, IsBadRoot}

-- a cause, with the number that is printed: of bytes, of words, of a segment, or a place in the file
pub data Cause : Type 0 where
  Short : ℕ → Cause
  Format : ℕ → Cause
  HeaderSize : ℕ → Cause
  Base : ℕ → Cause
  Large : ℕ → Cause
  Segment : ℕ → Cause
  End : ℕ → Cause
  Object : ℕ → Cause
  Roots : ℕ → Cause
  Forwarder : ℕ → Cause
  Class : ℕ → Cause
  Slot : ℕ → Cause
  Special : ℕ → Cause

-- the rows of causes, in the order in which they are tried
pub data Row : Type 0 where
  NoHeader : Row
  OtherFormat : Row
  OtherHeader : Row
  BadBase : Row
  TooLarge : Row
  NoHeap : Row
  BadSegment : Row
  BadObject : Row
  BadRoot : Row
  BadForwarder : Row
  BadPage : Row
  BadEntry : Row
  BadSlot : Row
  BadSpecial : Row

abbrev pub number : Row → ℕ
number NoHeader = 1
number OtherFormat = 2
number OtherHeader = 3
number BadBase = 4
number TooLarge = 5
number NoHeap = 6
number BadSegment = 7
number BadObject = 8
number BadRoot = 9
number BadForwarder = 10
number BadPage = 11
number BadEntry = 12
number BadSlot = 13
number BadSpecial = 14

-- the greatest address that a heap may begin at
abbrev pub greatest_base : ℕ
greatest_base = GREATEST_BASE

-- the most words that a region may have: 1 GiB
abbrev pub most_words : ℕ
most_words = MOST_WORDS

-- the words that an image and the limits ask for
abbrev pub needed : List ℕ → Limits → ℕ
needed bytes limits = heap_bytes bytes / 8 + limits.room + limits.eden + 2 * limits.survivor

-- the chain of segments comes to segment `i`
abbrev pub Comes : List ℕ → ℕ → Type 0
Comes bytes i = (j : ℕ) → j < i → (is_good bytes (segment bytes j) ≡ true) × (is_last bytes (segment bytes j) ≡ false)

-- the bytes of the heap behind segment `i`
abbrev pub behind : List ℕ → ℕ → ℕ
behind bytes i = left bytes (segment bytes i) - (segment bytes i).size

-- segment `i` can't stand
abbrev pub is_bad_segment : List ℕ → ℕ → Bool
is_bad_segment bytes i = nat_eq i most_segments || not (is_good bytes (segment bytes i))

-- segment `i` can't stand, or it is the last and bytes of the heap are left
abbrev pub IsBadLink : List ℕ → ℕ → Type 0
IsBadLink bytes i = (is_bad_segment bytes i ≡ true) ⊎ ((is_last bytes (segment bytes i) ≡ true) × (behind bytes i ≢ 0))

-- the words of an image's heap as a store
abbrev pub image_store : List ℕ → Store
image_store bytes = file_store (segments bytes) (all_words bytes)

-- the bad keys of a row: a place among the heap's words where chunks, roots, forwarders or slots are bad, a number where segments, pages or entries
-- are, else any
abbrev pub Bad : List ℕ → Limits → Row → ℕ → Type 0
Bad bytes limits NoHeader n = length bytes < header_bytes
Bad bytes limits OtherFormat n = format bytes ≢ spur_format
Bad bytes limits OtherHeader n = header_size bytes ≢ header_bytes
Bad bytes limits BadBase n = (base bytes % 8 ≢ 0) ⊎ (greatest_base < base bytes)
Bad bytes limits TooLarge n = most_words < needed bytes limits
Bad bytes limits NoHeap n = length bytes < header_bytes + heap_bytes bytes
Bad bytes limits BadSegment i = Comes bytes i × IsBadLink bytes i
Bad bytes limits BadObject n = (i : ℕ) × (i < length (segments bytes)) × IsBadObject (all_words bytes) (begin bytes i) (begin bytes (i + 1)) n
Bad bytes limits BadRoot n = IsBadRoot (all_words bytes) 0 (length (all_words bytes)) n
Bad bytes limits BadForwarder n = (s : ℕ) × (n ≡ s + 1) × (is_bad_forwarder (image_store bytes) s ≡ true)
Bad bytes limits BadPage i = (i < page_places) × (is_bad_page (image_store bytes) i ≡ true)
Bad bytes limits BadEntry i = is_bad_entry (image_store bytes) i ≡ true
Bad bytes limits BadSlot n = (s i : ℕ) × (n ≡ s + 1 + i) × ((body_at (image_store bytes) s).format ≢ 3) × (is_bad_slot (image_store bytes) s i ≡ true)
Bad bytes limits BadSpecial n = is_good_reference (image_store bytes) (special_word bytes) ≡ false

-- the place in the file of a word of the heap
abbrev pub offset : List ℕ → ℕ → ℕ
offset bytes n = offset_in (segments bytes) n

-- the word of the heap at which entry `i` of the class table stands
abbrev pub entry_word : Store → ℕ → ℕ
entry_word h i = page_of h i + 1 + i % page_entries

-- what is told of a bad key
abbrev pub told : List ℕ → Limits → Row → ℕ → Cause
told bytes limits NoHeader n = Short (length bytes)
told bytes limits OtherFormat n = Format (format bytes)
told bytes limits OtherHeader n = HeaderSize (header_size bytes)
told bytes limits BadBase n = Base (base bytes)
told bytes limits TooLarge n = Large (needed bytes limits)
told bytes limits NoHeap n = Short (length bytes)
told bytes limits BadSegment i = if is_bad_segment bytes i then Segment i else End (behind bytes i)
told bytes limits BadObject n = Object (offset bytes n)
told bytes limits BadRoot n = Roots (offset bytes n)
told bytes limits BadForwarder n = Forwarder (offset bytes n)
told bytes limits BadPage i = Class (offset bytes (first (image_store bytes) 4 + 1 + i))
told bytes limits BadEntry i = Class (offset bytes (entry_word (image_store bytes) i))
told bytes limits BadSlot n = Slot (offset bytes n)
told bytes limits BadSpecial n = Special (special_word bytes)

-- `n` is the least of a set
pub record IsLeast (P : ℕ → Type 0) (n : ℕ) : Type 0 where
  pub is : P n
  pub none : (m : ℕ) → m < n → P m → ⊥

-- an answer that tells the least of a set, and is `Ok` exactly where the set is empty
abbrev pub FindsLeast : {A : Type 0} → (ℕ → Type 0) → Result A ℕ → Type 0
FindsLeast P (Ok a) = (n : ℕ) → P n → ⊥
FindsLeast P (Err n) = IsLeast P n

-- the bytes are refused for this cause: its row is the first with a bad key, and it tells of the least one
pub record FirstCause (bytes : List ℕ) (limits : Limits) (cause : Cause) : Type 0 where
  pub row : Row
  pub key : ℕ
  pub least : IsLeast (Bad bytes limits row) key
  pub before : (other : Row) → number other < number row → (n : ℕ) → Bad bytes limits other n → ⊥
  pub is : cause ≡ told bytes limits row key

-- no cause applies
abbrev pub IsAccepted : List ℕ → Limits → Type 0
IsAccepted bytes limits = (row : Row) (n : ℕ) → Bad bytes limits row n → ⊥

-- the words of a cause
abbrev pub cause_text : Cause → Text
cause_text (Short n) = codes "short " ++ decimal n
cause_text (Format n) = codes "format " ++ decimal n
cause_text (HeaderSize n) = codes "header " ++ decimal n
cause_text (Base n) = codes "base " ++ decimal n
cause_text (Large n) = codes "large " ++ decimal n
cause_text (Segment n) = codes "segment " ++ decimal n
cause_text (End n) = codes "end " ++ decimal n
cause_text (Object n) = codes "object " ++ decimal n
cause_text (Roots n) = codes "roots " ++ decimal n
cause_text (Forwarder n) = codes "forwarder " ++ decimal n
cause_text (Class n) = codes "class " ++ decimal n
cause_text (Slot n) = codes "slot " ++ decimal n
cause_text (Special n) = codes "special " ++ decimal n

-- the line of a refused image
abbrev pub cause_line : Cause → Text
cause_line cause = codes "image: " ++ (cause_text cause ++ 10 ∷ [])
