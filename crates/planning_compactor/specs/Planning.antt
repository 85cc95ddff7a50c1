-- The plan of a range, as it is made.
use Rattle.std.specs.Prelude.{ℕ, suc, zero, ◌≡◌, ◌≢◌, ◌+◌, ◌-◌, ◌*◌, ◌/◌, ◌<◌, ◌≤◌, ◌⊎◌, Bool, true, false, List, [], ◌∷◌, ◌++◌, map, take, if◌then◌else◌}
use Rattle.std.specs.List.{AllByRecursion}
use Rattle.object_header.specs.Chunks.{StandsAt}
use Rattle.spur_graph.specs.Planned.{Marked}
use Rattle.planning_compactor.specs.Spans.{Gap, Move, moves}
use Rattle.heap_walk.specs.declared.saved.Saved.{Saved}
use Rattle.planning_compactor.specs.Entries.{entry, start_of}
use Rattle.heap_walk.specs.Shapes.{lead_at, place_at, words_at, end_at}
use Rattle.compaction_laws.specs.Compacting.{is_pinned}
use Rattle.planning_compactor.specs.Pins.{is_pin}
use Rattle.planning_compactor.specs.Slid.{target_of, to_at, from_at, long_at}

-- the object at a start, as one to be planned
abbrev pub mark_at : List ℕ → ℕ → Marked
mark_at words s = record { at = place_at words s; start = s; size = words_at words s; pinned = is_pinned words s }

-- the objects that start in the next `n` words from `at` on
unfoldable pub marks_from : ℕ → (ℕ → Bool) → List ℕ → ℕ → List Marked
marks_from zero has words at = []
marks_from (suc n) has words at = if has at then mark_at words at ∷ marks_from n has words (at + 1) else marks_from n has words (at + 1)

abbrev pub marks : (ℕ → Bool) → List ℕ → ℕ → ℕ → List Marked
marks has words at end = marks_from (end - at) has words at

abbrev pub pins : (ℕ → Bool) → List ℕ → ℕ → ℕ → List Marked
pins has words at end = marks (is_pin has words) words at end

-- an object of the range starts there
abbrev pub IsIn : (ℕ → Bool) → ℕ → ℕ → ℕ → Type 0
IsIn has low end s = (has s ≡ true) × (low ≤ s) × (s < end)

-- the objects of a range lie apart, no gap is of one word, and no object reaches over an end of the range
pub record AreLaid (has : ℕ → Bool) (words : List ℕ) (low end : ℕ) : Type 0 where
  pub whole : Gap low end
  pub stands : (s : ℕ) → has s ≡ true → StandsAt words s
  pub first : (s : ℕ) → IsIn has low end s → Gap low (place_at words s)
  pub apart : (s t : ℕ) → IsIn has low end s → IsIn has low end t → s < t → Gap (end_at words s) (place_at words t)
  pub last : (s : ℕ) → IsIn has low end s → Gap (end_at words s) end
  pub below : (s : ℕ) → has s ≡ true → s < low → end_at words s ≤ low
  pub above : (s : ℕ) → has s ≡ true → end ≤ s → end ≤ place_at words s

-- each pinned object from `pin` on lies ahead of the finger
abbrev pub AreAhead : (ℕ → Bool) → List ℕ → ℕ → ℕ → ℕ → ℕ → Type 0
AreAhead has words low end pin finger = (q : ℕ) → IsIn (is_pin has words) low end q → pin ≤ q → Gap finger (place_at words q)

-- the finger has passed pinned objects that begin before `p`
pub record Passing (has : ℕ → Bool) (words : List ℕ) (low end p pin finger pin' finger' : ℕ) : Type 0 where
  pub behind : (x : ℕ) → Gap x finger → Gap x finger'
  pub passed : (q : ℕ) → IsIn (is_pin has words) low end q → pin ≤ q → q < pin' → Gap (end_at words q) finger'
  pub ahead : AreAhead has words low end pin' finger'
  pub on : (pin ≤ pin') × (pin' ≤ end)
  pub later : (q : ℕ) → IsIn (is_pin has words) low end q → pin ≤ q → p ≤ place_at words q → pin' ≤ q
  pub down : Gap finger' p

-- `n` words at the finger leave no rest of one word before a pinned object
abbrev pub HasRoom : (ℕ → Bool) → List ℕ → ℕ → ℕ → ℕ → ℕ → ℕ → ℕ → Type 0
HasRoom has words low end p n pin finger = (q : ℕ) → IsIn (is_pin has words) low end q → pin ≤ q → place_at words q < p → Gap (finger + n) (place_at words q)

-- ---- the plan of many objects

-- no entry of the first `n` is of this object
abbrev pub IsAbsent : List Saved → ℕ → ℕ → Type 0
IsAbsent es n s = (k : ℕ) → k < n → start_of es k ≢ s

-- the first `n` entries have places in order, apart from each other and from every object that stays: these are all objects of the range that have none, and
-- from the first entry on up to `next` only pinned ones have none
pub record HasMoves (has : ℕ → Bool) (words : List ℕ) (low end : ℕ) (es : List Saved) (n next : ℕ) : Type 0 where
  pub starts : (k : ℕ) → k < n → IsIn has low end (start_of es k)
  pub mobile : (k : ℕ) → k < n → is_pinned words (start_of es k) ≡ false
  pub below : (k : ℕ) → k < n → start_of es k < next
  pub rising : (j k : ℕ) → j < k → k < n → start_of es j < start_of es k
  pub aim : (k : ℕ) → k < n → (entry es k).first ≡ 8 * target_of es k
  pub room : (k : ℕ) → k < n → lead_at words (start_of es k) ≤ target_of es k
  pub down : (k : ℕ) → k < n → Gap (to_at es words k) (from_at es words k)
  pub floor : (k : ℕ) → k < n → Gap low (to_at es words k)
  pub gaps : (j k : ℕ) → j < k → k < n → Gap (to_at es words j + long_at es words j) (to_at es words k)
  pub clear : (k s : ℕ) → k < n → IsIn has low end s → IsAbsent es n s → Gap (end_at words s) (to_at es words k) ⊎ Gap (to_at es words k + long_at es words k) (place_at words s)
  pub known : (t : ℕ) → 0 < n → IsIn has low end t → start_of es 0 ≤ t → t < next → is_pinned words t ≡ false → (k : ℕ) × (k < n) × (start_of es k ≡ t)

-- what is behind the finger and what is ahead of it: before `next` objects have their places, and pinned ones before `pin` are passed
pub record IsPlan (has : ℕ → Bool) (words : List ℕ) (low end next pin finger : ℕ) (es : List Saved) (n : ℕ) : Type 0 where
  pub inside : (low ≤ pin) × (pin ≤ end) × (low ≤ next)
  pub floor : Gap low finger
  pub coming : (s : ℕ) → IsIn has low end s → next ≤ s → Gap finger (place_at words s)
  pub ahead : AreAhead has words low end pin finger
  pub behind : (s : ℕ) → IsIn has low end s → s < next → IsAbsent es n s → (is_pinned words s ≡ true → s < pin) → Gap (end_at words s) finger
  pub moved : (k : ℕ) → k < n → Gap (to_at es words k + long_at es words k) finger
  pub later : (q : ℕ) → IsIn (is_pin has words) low end q → next ≤ q → pin ≤ q

-- ---- the planned places

-- the moves that are left
abbrev pub left : (ℕ → Bool) → List ℕ → ℕ → ℕ → ℕ → ℕ → List Move
left has words next pin finger end = moves (pins has words pin end) finger (marks has words next end)

abbrev pub move_of : Saved → Move
move_of e = record { start = e.start; target = e.first / 8 }

-- the next object is pinned, or it stays where it is and nothing is in the table, or it is the next entry
abbrev pub IsNext : List Move → List Saved → ℕ → ℕ → ℕ → List Move → Type 0
IsNext before es n m next after = ((m ≡ n) × (before ≡ after)) ⊎ (((m ≡ n) × (n ≡ 0) × ((s : ℕ) × (s < next) × (before ≡ record { start = s; target = s } ∷ after))) ⊎ ((m ≡ n + 1) × (before ≡ move_of (entry es n) ∷ after)))

-- these objects stay where they are, and start before `next`
abbrev pub AreStill : ℕ → List Move → Type 0
AreStill next ms = AllByRecursion (λ (e : Move). (e.target ≡ e.start) × (e.start < next)) ms

-- the entries are the moves in order, behind objects that stay where they are
pub record IsPlanned (before : List Move) (es : List Saved) (n next : ℕ) (after : List Move) : Type 0 where
  pub stays : List Move
  pub still : AreStill next stays
  pub is : before ≡ stays ++ (map move_of (take n es) ++ after)
