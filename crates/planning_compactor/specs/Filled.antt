-- The gaps of a range become free chunks.
use Rattle.std.specs.Prelude.{ℕ, ◌≡◌, ◌+◌, ◌-◌, ◌<◌, ◌≤◌, ◌⊎◌, Bool, true, false, List, ◌++◌, length, slice_index}
use Rattle.std.specs.List.{Contains}
use Rattle.object_header.specs.Head.{class_of}
use Rattle.object_header.specs.declared.header.TheConstants.{FREE_CLASS}
use Rattle.object_header.specs.Chunks.{Chunk, leads, Cuts, InOrder, row}
use Rattle.free_lists.specs.Runs.{IsFree}
use Rattle.heap_walk.specs.Shapes.{place_at, end_at}
use Rattle.heap_cells.specs.Rows.{starts_of}
use Rattle.planning_compactor.specs.Readdressed.{AreLive}
use Rattle.planning_compactor.specs.Planning.{IsIn, AreLaid}
use Rattle.compaction_laws.specs.Compacting.{is_pinned}
use Rattle.planning_compactor.specs.Pins.{is_pin}

-- these are all words between two objects of the range, or between one and an end of it
pub record IsGap (has : ℕ → Bool) (words : List ℕ) (low end a b : ℕ) : Type 0 where
  pub some : a < b
  pub left : (a ≡ low) ⊎ ((s : ℕ) × IsIn has low end s × (end_at words s ≡ a))
  pub right : (b ≡ end) ⊎ ((t : ℕ) × IsIn has low end t × (place_at words t ≡ b))
  pub none : (s : ℕ) → IsIn has low end s → (end_at words s ≤ a) ⊎ (b ≤ place_at words s)

-- each gap up to `at` is one free chunk, and the words of the objects are as before
pub record IsFilled (has : ℕ → Bool) (old new : List ℕ) (low end at : ℕ) : Type 0 where
  pub same_words : length new ≡ length old
  pub live : (s j : ℕ) → IsIn has low end s → place_at old s ≤ j → j < end_at old s → slice_index new j ≡ slice_index old j
  pub outside : (j : ℕ) → (j < low) ⊎ (end ≤ j) → slice_index new j ≡ slice_index old j
  pub free : (a b : ℕ) → IsGap has old low end a b → b ≤ at → IsFree new a (b - a)

-- an overflow word tells that it is one
abbrev pub AreTwice : (ℕ → Bool) → List ℕ → Type 0
AreTwice has words = (s : ℕ) → has s ≡ true → leads (slice_index words s) ≡ true → leads (slice_index words (s - 1)) ≡ true

-- ---- the row afterwards

-- a free chunk, which is all words of a gap
pub record IsFreeGap (has : ℕ → Bool) (words : List ℕ) (low end : ℕ) (c : Chunk) : Type 0 where
  pub none : has c.start ≡ false
  pub free : IsFree words c.at c.size
  pub class : class_of (slice_index words c.start) ≡ FREE_CLASS
  pub gap : IsGap has words low end c.at (c.at + c.size)

-- the range is cut into chunks without a rest: the objects that start there, and a free one for each gap
pub record IsCut (has : ℕ → Bool) (words : List ℕ) (low end : ℕ) : Type 0 where
  pub cuts : Cuts words low end (row words low end)
  pub starts : (s : ℕ) → IsIn has low end s → Contains (starts_of (row words low end)) s
  pub kinds : (c : Chunk) → Contains (row words low end) c → (has c.start ≡ true) ⊎ IsFreeGap has words low end c

-- ---- ranges that were compacted

-- each object that is not pinned stands at the front of the range, or right behind another
abbrev pub IsPacked : (ℕ → Bool) → List ℕ → ℕ → ℕ → Type 0
IsPacked has words low end = (t : ℕ) → IsIn has low end t → is_pinned words t ≡ false → (place_at words t ≡ low) ⊎ ((s : ℕ) × IsIn has low end s × (end_at words s ≡ place_at words t))

-- no object of the range is pinned
abbrev pub IsMobile : (ℕ → Bool) → List ℕ → ℕ → ℕ → Type 0
IsMobile has words low end = (s : ℕ) → IsIn has low end s → is_pinned words s ≡ false

-- the objects of the range end there
pub record IsLastEnd (has : ℕ → Bool) (words : List ℕ) (low end last : ℕ) : Type 0 where
  pub edge : (last ≡ low) ⊎ ((s : ℕ) × IsIn has low end s × (end_at words s ≡ last))
  pub none : (s : ℕ) → IsIn has low end s → end_at words s ≤ last

-- ---- the row before

-- what a compaction asks of the places of objects
pub record IsReady (has : ℕ → Bool) (words : List ℕ) (low end : ℕ) : Type 0 where
  pub laid : AreLaid has words low end
  pub live : AreLive has words
  pub twice : AreTwice has words

-- it holds of a range that is cut into chunks, with chunks in order before and behind it, whichever of all these are kept
abbrev pub RowIsReady : Type 0
RowIsReady = (has : ℕ → Bool) (words : List ℕ) (low end : ℕ) (before cs behind : List Chunk) → InOrder words 0 low before → Cuts words low end cs → InOrder words end (length words) behind
    → ((s : ℕ) → has s ≡ true → Contains (starts_of (before ++ (cs ++ behind))) s) → IsReady has words low end
