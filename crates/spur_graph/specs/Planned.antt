-- Where a compaction puts the marked objects of a range. A place is the first word of a chunk: the overflow word, where there is one.
use Rattle.std.specs.Prelude.{ℕ, Bool, not, ◌&&◌, nat_le, nat_lt, ◌+◌, ◌-◌, List, [], ◌∷◌, if◌then◌else◌}
use Rattle.std.specs.List.{filter}
use Rattle.spur_graph.specs.FreeSizes.{fits}

-- a marked object: its place, its header word, its size in words, and whether it is pinned
pub record Marked : Type 0 where
  pub at : ℕ
  pub start : ℕ
  pub size : ℕ
  pub pinned : Bool

abbrev pub end_of : Marked → ℕ
end_of m = m.at + m.size

-- the pinned ones among some
abbrev pub pins_of : List Marked → List Marked
pins_of ms = filter (λ m. m.pinned) ms

-- the place of an object of `n` words at `p`, by the pinned ones of its range in order. Where none of them begins from the finger on and before the
-- object, it is the finger. Else the gap before the first that does either takes the object at the finger, or the finger goes to the end of that one
-- and the others are asked
unfoldable pub place : List Marked → ℕ → ℕ → ℕ → ℕ
place [] finger p n = finger
place (q ∷ pins) finger p n =
    if not (nat_le finger q.at && nat_lt q.at p) then place pins finger p n
    else if fits n (q.at - finger) then finger
    else place pins (end_of q) p n

-- the place that each has, and the one that it gets, in order: a pinned one stays, and the finger goes to the end of each other
unfoldable pub plan : List Marked → ℕ → List Marked → List (ℕ × ℕ)
plan pins finger [] = []
plan pins finger (m ∷ ms) =
    if m.pinned then (m.at, m.at) ∷ plan pins finger ms
    else (m.at, place pins finger m.at m.size) ∷ plan pins (place pins finger m.at m.size + m.size) ms

-- the planned places of the marked objects of a range that begins at `low`
abbrev pub planned : ℕ → List Marked → List (ℕ × ℕ)
planned low ms = plan (pins_of ms) low ms
