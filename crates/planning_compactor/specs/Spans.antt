-- Marked objects that lie apart, in order, and the same plan with the pinned ones that are still ahead.
use Rattle.std.specs.Prelude.{ℕ, ◌≡◌, nat_lt, ◌+◌, ◌-◌, ◌≤◌, List, [], ◌∷◌, ◌++◌, map, if◌then◌else◌}
use Rattle.spur_graph.specs.Planned.{Marked, end_of, planned}
use Rattle.spur_graph.specs.FreeSizes.{fits}

-- nothing, or room for a chunk
abbrev pub Gap : ℕ → ℕ → Type 0
Gap a b = (a ≤ b) × ((b - a ≡ 1) → ⊥)

-- a header at the first word or behind it, and a word behind the header
pub record IsShaped (m : Marked) : Type 0 where
  pub behind : m.at ≤ m.start
  pub near : m.start ≤ m.at + 1
  pub body : m.start + 2 ≤ end_of m

-- objects lie apart, in order, and no gap is of one word
abbrev pub Laid : ℕ → ℕ → List Marked → Type 0
Laid at end [] = Gap at end
Laid at end (m ∷ ms) = Gap at m.at × IsShaped m × Laid (end_of m) end ms

-- where the finger stops, and the pinned objects that it has not passed
pub record Stop : Type 0 where
  pub at : ℕ
  pub ahead : List Marked

-- the place of an object of `n` words that begins at `p`, by the pinned objects that the finger has not passed
unfoldable pub stop : List Marked → ℕ → ℕ → ℕ → Stop
stop [] finger p n = record { at = finger; ahead = [] }
stop (q ∷ pins) finger p n =
    if nat_lt q.at p then (if fits n (q.at - finger) then record { at = finger; ahead = q ∷ pins } else stop pins (end_of q) p n)
    else record { at = finger; ahead = q ∷ pins }

-- an object that moves: its start, and the start that it gets
pub record Move : Type 0 where
  pub start : ℕ
  pub target : ℕ

abbrev pub move_to : Marked → ℕ → Move
move_to m t = record { start = m.start; target = t + (m.start - m.at) }

-- the objects that are not pinned, in order, with where they go
unfoldable pub moves : List Marked → ℕ → List Marked → List Move
moves pins finger [] = []
moves pins finger (m ∷ ms) =
    if m.pinned then moves pins finger ms
    else move_to m (stop pins finger m.at m.size).at ∷ moves (stop pins finger m.at m.size).ahead ((stop pins finger m.at m.size).at + m.size) ms

-- the same by the place that each gets
abbrev pub moves_in : List Marked → List (ℕ × ℕ) → List Move
moves_in [] places = []
moves_in (m ∷ ms) [] = []
moves_in (m ∷ ms) (e ∷ places) = if m.pinned then moves_in ms places else move_to m e.1 ∷ moves_in ms places

-- objects lie one behind another
abbrev pub Packed : ℕ → ℕ → List Marked → Type 0
Packed at end [] = at ≡ end
Packed at end (m ∷ ms) = (m.at ≡ at) × (2 ≤ m.size) × Packed (end_of m) end ms

abbrev pub stays : List Marked → List (ℕ × ℕ)
stays ms = map (λ (m : Marked). (m.at, m.at)) ms

-- what lies packed at the front of a range stays, and the rest is planned as a range of its own
abbrev pub PackedStay : Type 0
PackedStay = (low mid end : ℕ) (ms rest : List Marked) → Packed low mid ms → Laid mid end rest → planned low (ms ++ rest) ≡ stays ms ++ planned mid rest
