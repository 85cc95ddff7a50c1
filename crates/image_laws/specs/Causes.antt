-- From what the passes over an image answer to the cause that is told, or to no cause at all.
use Rattle.std.specs.Prelude.{ℕ, ◌≡◌, ◌+◌, ◌<◌, List, length, true, false}
use Rattle.spur_graph.specs.declared.limits.Limits.{Limits}
use Rattle.spur_graph.specs.ImageFile.{special_word}
use Rattle.spur_graph.specs.Segments.{Segment, segments, all_words, offset_in}
use Rattle.spur_graph.specs.Cells.{Store, first, is_there, is_formed}
use Rattle.spur_graph.specs.Ordinary.{body_at, is_bad_forwarder, is_good_reference}
use Rattle.spur_graph.specs.Places.{IsBadRoot}
use Rattle.spur_graph.specs.ImageCauses.{Cause, Object, Roots, Forwarder, Class, Slot, Special, Row, NoHeader, BadObject, BadRoot, BadForwarder, BadPage, BadEntry, BadSlot, BadSpecial, number, Bad, told, entry_word, IsLeast, FirstCause, IsAccepted}
use Rattle.heap_cells.specs.Settled.{IsLoadable}
use Rattle.image_checks.specs.Checks.{IsBadIn, HasFive, IsResolved, IsLost, IsBadPlace, IsBadIndex}
use Rattle.image_words.specs.References.{IsBadPointer}
use Rattle.spur_graph.specs.FileStores.{file_store}

-- no key of a row is bad
abbrev pub HasNone : List ℕ → Limits → Row → Type 0
HasNone bytes limits row = (n : ℕ) → Bad bytes limits row n → ⊥

-- no key of an earlier row is bad
abbrev pub NoneBefore : List ℕ → Limits → Row → Type 0
NoneBefore bytes limits row = (other : Row) → number other < number row → HasNone bytes limits other

-- ---- the order of the rows

abbrev pub NothingBefore : Type 0
NothingBefore = (bytes : List ℕ) (limits : Limits) → NoneBefore bytes limits NoHeader

abbrev pub NextRow : Type 0
NextRow = (bytes : List ℕ) (limits : Limits) (row next : Row) → number next ≡ number row + 1 → NoneBefore bytes limits row → HasNone bytes limits row → NoneBefore bytes limits next

-- behind the last row nothing is left to refuse
abbrev pub NoneIsAccepted : Type 0
NoneIsAccepted = (bytes : List ℕ) (limits : Limits) → NoneBefore bytes limits BadSpecial → HasNone bytes limits BadSpecial → IsAccepted bytes limits

abbrev pub LeastIsFirst : Type 0
LeastIsFirst = (bytes : List ℕ) (limits : Limits) (row : Row) (n : ℕ) → NoneBefore bytes limits row → IsLeast (Bad bytes limits row) n → FirstCause bytes limits (told bytes limits row n)

-- in a row where any number is a bad key or none is
abbrev pub AnyIsLeast : Type 0
AnyIsLeast = (bytes : List ℕ) (limits : Limits) (row : Row) → Bad bytes limits row 0 → IsLeast (Bad bytes limits row) 0

-- ---- one answer

abbrev pub CauseOnce : Type 0
CauseOnce = (bytes : List ℕ) (limits : Limits) (c d : Cause) → FirstCause bytes limits c → FirstCause bytes limits d → c ≡ d

abbrev pub AcceptedHasNone : Type 0
AcceptedHasNone = (bytes : List ℕ) (limits : Limits) (c : Cause) → IsAccepted bytes limits → FirstCause bytes limits c → ⊥

-- ---- the rows of the passes

-- what a pass looks for is the bad keys of a row
pub record AreKeys (bytes : List ℕ) (limits : Limits) (row : Row) (P : ℕ → Type 0) : Type 0 where
  pub into : (n : ℕ) → P n → Bad bytes limits row n
  pub out : (n : ℕ) → Bad bytes limits row n → P n
  pub least : (n : ℕ) → IsLeast P n → IsLeast (Bad bytes limits row) n
  pub none : ((n : ℕ) → P n → ⊥) → HasNone bytes limits row

-- the rows, where pages, entries, slots and the special objects array are looked up in this store
pub record AreRows (bytes : List ℕ) (limits : Limits) (segs : List Segment) (words : List ℕ) (h : Store) : Type 0 where
  pub objects : AreKeys bytes limits BadObject (IsBadIn segs words)
  pub roots : AreKeys bytes limits BadRoot (IsBadRoot words 0 (length words))
  pub forwarders : AreKeys bytes limits BadForwarder (IsLost (file_store segs words))
  pub pages : AreKeys bytes limits BadPage (IsBadPlace h)
  pub entries : AreKeys bytes limits BadEntry (IsBadIndex h)
  pub slots : AreKeys bytes limits BadSlot (IsBadPointer h)
  pub special : AreKeys bytes limits BadSpecial (λ n. is_good_reference h (special_word bytes) ≡ false)

-- what is told of these rows
pub record AreTold (bytes : List ℕ) (limits : Limits) (segs : List Segment) (h : Store) : Type 0 where
  pub objects : (n : ℕ) → told bytes limits BadObject n ≡ Object (offset_in segs n)
  pub roots : (n : ℕ) → told bytes limits BadRoot n ≡ Roots (offset_in segs n)
  pub forwarders : (n : ℕ) → told bytes limits BadForwarder n ≡ Forwarder (offset_in segs n)
  pub pages : (i : ℕ) → told bytes limits BadPage i ≡ Class (offset_in segs (first h 4 + 1 + i))
  pub entries : (i : ℕ) → told bytes limits BadEntry i ≡ Class (offset_in segs (entry_word h i))
  pub slots : (n : ℕ) → told bytes limits BadSlot n ≡ Slot (offset_in segs n)
  pub special : (n : ℕ) → told bytes limits BadSpecial n ≡ Special (special_word bytes)

pub record AreCauses (bytes : List ℕ) (limits : Limits) (segs : List Segment) (words : List ℕ) (h : Store) : Type 0 where
  pub rows : AreRows bytes limits segs words h
  pub told_of : AreTold bytes limits segs h

abbrev pub FileHasCauses : Type 0
FileHasCauses = (bytes : List ℕ) (limits : Limits) (segs : List Segment) (words : List ℕ) → segs ≡ segments bytes → words ≡ all_words bytes → AreCauses bytes limits segs words (file_store segs words)

-- once forwarders are resolved the rows behind them are looked up in the new store
abbrev pub ResolvedHasCauses : Type 0
ResolvedHasCauses = (bytes : List ℕ) (limits : Limits) (segs : List Segment) (words : List ℕ) (new : Store) → segs ≡ segments bytes → words ≡ all_words bytes
    → IsResolved (file_store segs words) new → ((n : ℕ) → IsLost (file_store segs words) n → ⊥) → AreCauses bytes limits segs words new

-- ---- what is left to be loaded

abbrev pub NoneIsLost : Type 0
NoneIsLost = (h : Store) → ((n : ℕ) → IsLost h n → ⊥) → (s : ℕ) → is_bad_forwarder h s ≡ false

-- pages, entries and slots are looked up behind the resolving of forwarders
abbrev pub NoneIsLoadable : Type 0
NoneIsLoadable = (old new : Store) → IsResolved old new → ((s : ℕ) → is_there (old.cell s) ≡ true → is_formed (body_at old s) ≡ true) → HasFive old → ((n : ℕ) → IsLost old n → ⊥)
    → ((n : ℕ) → IsBadPlace new n → ⊥) → ((n : ℕ) → IsBadIndex new n → ⊥) → ((n : ℕ) → IsBadPointer new n → ⊥) → IsLoadable old × IsLoadable new
