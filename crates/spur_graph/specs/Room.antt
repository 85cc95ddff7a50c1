-- The room of a heap: how many words each space has and uses, and where each name stands. It has no places and no order of objects.
use Rattle.std.specs.Prelude.{ℕ, ◌+◌, ◌-◌, max, List, [], Bool, true, false, if◌then◌else◌, nat_lt}
use Rattle.std.specs.Option.{unwrap_or}
use Rattle.std.specs.Ordering.{nat_cmp}
use Rattle.std.specs.FinMap.{FinMap, empty, get, insert}
use Rattle.std.specs.FinSet.{FinSet}
use Rattle.std.specs.FinSet as sets

-- where a name stands: old space, eden, or the past survivor space
pub data Space : Type 0 where
  Old : Space
  Eden : Space
  Past : Space

-- the space of a name, its words, and whether one of them is an overflow word
pub record Spot : Type 0 where
  pub space : Space
  pub words : ℕ
  pub overflow : Bool

-- words of old space, of eden and of each survivor space; the spot of each name; the names that old space has or reaches; the sizes
-- of the free chunks in ascending order; words left in eden and used in past space; words of the internal objects and how many of
-- these are pinned; and the class table pages that exist
pub record Room : Type 0 where
  pub old_words : ℕ
  pub eden_words : ℕ
  pub survivor_words : ℕ
  pub spots : FinMap nat_cmp Spot
  pub old_names : FinSet nat_cmp
  pub free : List ℕ
  pub eden_left : ℕ
  pub past_used : ℕ
  pub internal_words : ℕ
  pub internal_pinned : ℕ
  pub pages : FinSet nat_cmp

-- a room of nothing
abbrev pub no_room : Room
no_room = record {
  old_words = 0;
  eden_words = 0;
  survivor_words = 0;
  spots = empty;
  old_names = sets.empty;
  free = [];
  eden_left = 0;
  past_used = 0;
  internal_words = 0;
  internal_pinned = 0;
  pages = sets.empty;
}

-- a spot of nothing
abbrev pub no_spot : Spot
no_spot = record { space = Old; words = 0; overflow = false }

-- the spot of a name; each name that has a node has one
abbrev pub spot_at : Room → ℕ → Spot
spot_at room a = unwrap_or (get room.spots a) no_spot

-- the slots for which an object at a spot has room. One that has none has room for one, and is made anew with as many words as one of one slot
abbrev pub slots_in : Spot → ℕ
slots_in spot = if spot.overflow then spot.words - 2 else spot.words - 1

-- ---- fresh objects

-- an object of so many slots has an overflow word if it is made here
abbrev pub is_long : ℕ → Bool
is_long slots = nat_lt 254 slots

-- the words of an object of so many slots that is made here: it has at least one behind its header
abbrev pub fresh_words : ℕ → ℕ
fresh_words slots = if is_long slots then 2 + slots else 1 + max 1 slots

-- where such an object stands in a space
abbrev pub fresh_spot : Space → ℕ → Spot
fresh_spot space slots = record { space = space; words = fresh_words slots; overflow = is_long slots }

abbrev pub is_old : Space → Bool
is_old Old = true
is_old Eden = false
is_old Past = false

-- a name stands there, and is an old name if that is in old space
abbrev pub placed : Room → ℕ → Spot → Room
placed room a spot = record room {
  spots = insert room.spots a spot;
  old_names = if is_old spot.space then sets.insert room.old_names a else room.old_names;
}

-- the words of a page of the class table
abbrev pub page_words : ℕ
page_words = 1026

-- a page of the class table stands in words of old space, and is none of the names
abbrev pub with_page : Room → ℕ → Room
with_page room page = record room { internal_words = room.internal_words + page_words; pages = sets.insert room.pages page }
