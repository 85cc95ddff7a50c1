-- Moves come in the order of their chunks.
use Rattle.std.proofs.Common.{ℕ, suc, zero, Bool, ◌+◌, ◌-◌, ◌<◌, ◌≤◌, List, [], ◌∷◌, ◌++◌, map, length, sym, subst, inl, inr, arith}
use Rattle.std.proofs.lemmas.Bool.{cases_Bool}
use Rattle.std.specs.List.{AllByRecursion}
use Rattle.spur_graph.specs.Planned.{Marked}
use Rattle.planning_compactor.specs.Spans.{stop, Move, moves}
use Rattle.planning_compactor.proofs.Plans.{moves-on, moves-off}
use Rattle.heap_walk.specs.declared.saved.Saved.{Saved}
use Rattle.planning_compactor.specs.Entries.{start_of}
use Rattle.planning_compactor.specs.Planning.{marks_from, marks, pins, left, move_of}

abbrev pub MarksRise : ℕ → List Marked → Type 0
MarksRise x [] = Unit {0}
MarksRise x (m ∷ ms) = (x ≤ m.start) × MarksRise (m.start + 1) ms

abbrev pub Rises : ℕ → List Move → Type 0
Rises x [] = Unit {0}
Rises x (e ∷ es) = (x ≤ e.start) × Rises (e.start + 1) es

marks-lower : (x y : ℕ) (ms : List Marked) → x ≤ y → MarksRise y ms → MarksRise x ms
marks-lower x y [] l r = tt
marks-lower x y (m ∷ ms) l r = ((let z = r.0 in omega (arith, l, z)), r.1)

lower : (x y : ℕ) (es : List Move) → x ≤ y → Rises y es → Rises x es
lower x y [] l r = tt
lower x y (e ∷ es) l r = ((let z = r.0 in omega (arith, l, z)), r.1)

marks-rise : (n : ℕ) (has : ℕ → Bool) (words : List ℕ) (at : ℕ) → MarksRise at (marks_from n has words at)
unfolding marks_from
marks-rise zero has words at = tt
marks-rise (suc n) has words at = elim (cases_Bool (has at)) [
  | inl on ↦ rw on ((omega arith), marks-rise n has words (at + 1))
  | inr off ↦ rw off (marks-lower at (at + 1) (marks_from n has words (at + 1)) (omega arith) (marks-rise n has words (at + 1)))
]

moves-rise : (ps : List Marked) (f x : ℕ) (ms : List Marked) → MarksRise x ms → Rises x (moves ps f ms)
unfolding moves
moves-rise ps f x [] r = tt
moves-rise ps f x (m ∷ ms) r = elim (cases_Bool m.pinned) [
  | inl on ↦ subst (Rises x) (sym (moves-on ps f m ms on)) (lower x (m.start + 1) (moves ps f ms) (let z = r.0 in omega (arith, z)) (moves-rise ps f (m.start + 1) ms r.1))
  | inr off ↦ subst (Rises x) (sym (moves-off ps f m ms off)) (r.0, moves-rise (stop ps f m.at m.size).ahead ((stop ps f m.at m.size).at + m.size) (m.start + 1) ms r.1)
]

pub left-rises : (has : ℕ → Bool) (words : List ℕ) (next pin finger end : ℕ) → Rises next (left has words next pin finger end)
left-rises has words next pin finger end = moves-rise (pins has words pin end) finger next (marks has words next end) (marks-rise (end - next) has words next)

abbrev pub Above : ℕ → List Move → Type 0
Above x es = AllByRecursion (λ (e : Move). x ≤ e.start) es

above-lower : (x y : ℕ) (es : List Move) → x ≤ y → Above y es → Above x es
above-lower x y [] l r = tt
above-lower x y (e ∷ es) l r = ((let z = r.0 in omega (arith, l, z)), above-lower x y es l r.1)

pub rises-front : (x : ℕ) (xs ys : List Move) → Rises x (xs ++ ys) → Above x xs
rises-front x [] ys r = tt
rises-front x (e ∷ xs) ys r = (r.0, above-lower x (e.start + 1) xs (let z = r.0 in omega (arith, z)) (rises-front (e.start + 1) xs ys r.1))

pub rises-back : (x : ℕ) (xs ys : List Move) → Rises x (xs ++ ys) → Rises x ys
rises-back x [] ys r = r
rises-back x (e ∷ xs) ys r = lower x (e.start + 1) ys (let z = r.0 in omega (arith, z)) (rises-back (e.start + 1) xs ys r.1)

-- each of the first is before each of the second
pub rises-cross : (x : ℕ) (xs ys zs : List Move) → Rises x (xs ++ (ys ++ zs)) → AllByRecursion (λ (e : Move). Above (e.start + 1) ys) xs
rises-cross x [] ys zs r = tt
rises-cross x (e ∷ xs) ys zs r = (rises-front (e.start + 1) ys zs (rises-back (e.start + 1) xs (ys ++ zs) r.1), rises-cross (e.start + 1) xs ys zs r.1)

pub above-entry : (x : ℕ) (es : List Saved) → Above x (map move_of es) → (k : ℕ) → k < length es → x ≤ start_of es k
above-entry x [] a k l = absurd (omega arith)
above-entry x (e ∷ es) a zero l = a.0
above-entry x (e ∷ es) a (suc k) l = above-entry x es a.1 k (omega arith)
