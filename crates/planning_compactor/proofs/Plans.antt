-- The plan that looks at each pinned chunk once gives the planned places.
use Rattle.std.proofs.Common.{◌≡◌, ℕ, Bool, true, false, cond, ◌+◌, ◌-◌, ◌<◌, ◌≤◌, List, [], ◌∷◌, ◌++◌, refl, sym, ap, ◌∙◌, inl, inr, arith}
use Rattle.std.specs.List.{AllByRecursion}
use Rattle.std.proofs.lemmas.Bool.{cases_Bool, cases_lt, lt-ltb, le-leb, le-ltb, lt-leb}
use Rattle.std.proofs.lemmas.List.{append_assoc}
use Rattle.spur_graph.specs.Planned.{Marked, end_of, pins_of, place, plan, planned}
use Rattle.spur_graph.specs.FreeSizes.{fits}
use Rattle.planning_compactor.specs.Spans.{Gap, IsShaped, Laid, Stop, stop, moves, moves_in, move_to}
use Rattle.planning_compactor.proofs.Stops.{From, From-pins, Laid-from, Laid-order, Laid-wider, Laid-lower, Laid-append, Stops, stops}
use Rattle.planning_compactor.proofs.Spacing.{gap-same, gap-then, gap-more}

-- behind the finger
abbrev pub Passed : ℕ → List Marked → Type 0
Passed finger ms = AllByRecursion (λ (m : Marked). m.at < finger) ms

pub Passed-more : (f g : ℕ) (ms : List Marked) → f ≤ g → Passed f ms → Passed g ms
Passed-more f g [] l k = tt
Passed-more f g (m ∷ ms) l k = (omega (arith, l, k.0), Passed-more f g ms l k.1)

pub Passed-append : (f : ℕ) (xs ys : List Marked) → Passed f xs → Passed f ys → Passed f (xs ++ ys)
Passed-append f [] ys k l = l
Passed-append f (x ∷ xs) ys k l = (k.0, Passed-append f xs ys k.1 l)

Laid-passed : (at end : ℕ) (ms : List Marked) → Laid at end ms → Passed end ms
Laid-passed at end [] l = tt
Laid-passed at end (m ∷ ms) l = let k = Laid-order (end_of m) end ms l.2 in let s : IsShaped m = l.1 in (omega (arith, k, s.behind, s.body), Laid-passed (end_of m) end ms l.2)

pub place-passed : (finger p n : ℕ) (xs qs : List Marked) → Passed finger xs → place (xs ++ qs) finger p n ≡ place qs finger p n
unfolding place
place-passed finger p n [] qs k = refl
place-passed finger p n (x ∷ xs) qs k = rw (lt-leb finger x.at k.0) (place-passed finger p n xs qs k.1)

pub place-none : (finger p n : ℕ) (qs : List Marked) → From p qs → place qs finger p n ≡ finger
unfolding place
place-none finger p n [] f = refl
place-none finger p n (q ∷ qs) f = elim (cases_lt q.at finger) [
  | inl low ↦ rw (lt-leb finger q.at low) (place-none finger p n qs f.1)
  | inr up ↦ rw (le-leb finger q.at up, le-ltb q.at p f.0) (place-none finger p n qs f.1)
]

-- with those ahead alone
place-stop : (finger end p n : ℕ) (qs : List Marked) → Laid finger end qs → place qs finger p n ≡ (stop qs finger p n).at
unfolding place stop
place-stop finger end p n [] l = refl
place-stop finger end p n (q ∷ qs) l =
    let g : finger ≤ q.at = l.0.0 in
    let s : IsShaped q = l.1 in
    elim (cases_lt q.at p) [
      | inr far ↦
          let from : From p qs = Laid-from (end_of q) end qs p (omega (arith, far, s.behind, s.body)) l.2 in
          rw (le-leb finger q.at g, le-ltb q.at p far) (place-none finger p n qs from)
      | inl near ↦ elim (cases_Bool (fits n (q.at - finger))) [
        | inl ok ↦ rw (le-leb finger q.at g, lt-ltb q.at p near, ok) refl
        | inr bad ↦ rw (le-leb finger q.at g, lt-ltb q.at p near, bad) (place-stop (end_of q) end p n qs l.2)
      ]
    ]

-- where all pinned chunks are `xs`, behind the finger, and `qs`, ahead of it, and `ms` are the chunks still to be planned
record Planning (all : List Marked) (finger end : ℕ) (qs ms : List Marked) : Type 0 where
  xs : List Marked
  p : ℕ
  same : all ≡ xs ++ (qs ++ pins_of ms)
  passed : Passed finger xs
  queue : Laid finger p qs
  rest : Laid p end ms

size-two : (m : Marked) → IsShaped m → 2 ≤ m.size
size-two m s = omega (arith, s.behind, s.body)

Laid-either : (b : Bool) (at end : ℕ) (m : Marked) (ms : List Marked) → Gap at m.at → IsShaped m → Laid (end_of m) end ms → Laid at end (cond b (m ∷ ms) ms)
Laid-either true at end m ms g s l = (g, s, l)
Laid-either false at end m ms g s l = Laid-lower (end_of m) at end ms l (gap-then at m.at (end_of m) g (gap-more m.at m.size (size-two m s)))

pub Laid-pins : (at end : ℕ) (ms : List Marked) → Laid at end ms → Laid at end (pins_of ms)
Laid-pins at end [] l = l
Laid-pins at end (m ∷ ms) l = Laid-either m.pinned at end m (pins_of ms) l.0 l.1 (Laid-pins (end_of m) end ms l.2)

pins-on : (m : Marked) (ms : List Marked) → m.pinned ≡ true → pins_of (m ∷ ms) ≡ m ∷ pins_of ms
pins-on m ms on = ap (λ b. cond b (m ∷ pins_of ms) (pins_of ms)) on

pins-off : (m : Marked) (ms : List Marked) → m.pinned ≡ false → pins_of (m ∷ ms) ≡ pins_of ms
pins-off m ms off = ap (λ b. cond b (m ∷ pins_of ms) (pins_of ms)) off

pub plan-on : (all : List Marked) (finger : ℕ) (m : Marked) (ms : List Marked) → m.pinned ≡ true → moves_in (m ∷ ms) (plan all finger (m ∷ ms)) ≡ moves_in ms (plan all finger ms)
unfolding plan
plan-on all finger m ms on =
    let t : ℕ = place all finger m.at m.size in
    let ps : List (ℕ × ℕ) = plan all finger ms in
    let rs : List (ℕ × ℕ) = plan all (t + m.size) ms in
    let e : plan all finger (m ∷ ms) ≡ (m.at, m.at) ∷ ps = ap (λ b. cond b ((m.at, m.at) ∷ ps) ((m.at, t) ∷ rs)) on in
    ap (moves_in (m ∷ ms)) e ∙ ap (λ b. cond b (moves_in ms ps) (move_to m m.at ∷ moves_in ms ps)) on

pub plan-off : (all : List Marked) (finger : ℕ) (m : Marked) (ms : List Marked) → m.pinned ≡ false
    → moves_in (m ∷ ms) (plan all finger (m ∷ ms)) ≡ move_to m (place all finger m.at m.size) ∷ moves_in ms (plan all (place all finger m.at m.size + m.size) ms)
unfolding plan
plan-off all finger m ms off =
    let t : ℕ = place all finger m.at m.size in
    let ps : List (ℕ × ℕ) = plan all finger ms in
    let rs : List (ℕ × ℕ) = plan all (t + m.size) ms in
    let e : plan all finger (m ∷ ms) ≡ (m.at, t) ∷ rs = ap (λ b. cond b ((m.at, m.at) ∷ ps) ((m.at, t) ∷ rs)) off in
    ap (moves_in (m ∷ ms)) e ∙ ap (λ b. cond b (moves_in ms rs) (move_to m t ∷ moves_in ms rs)) off

pub moves-on : (pins : List Marked) (finger : ℕ) (m : Marked) (ms : List Marked) → m.pinned ≡ true → moves pins finger (m ∷ ms) ≡ moves pins finger ms
unfolding moves
moves-on pins finger m ms on =
    let r : Stop = stop pins finger m.at m.size in
    ap (λ b. cond b (moves pins finger ms) (move_to m r.at ∷ moves r.ahead (r.at + m.size) ms)) on

pub moves-off : (pins : List Marked) (finger : ℕ) (m : Marked) (ms : List Marked) → m.pinned ≡ false
    → moves pins finger (m ∷ ms) ≡ move_to m (stop pins finger m.at m.size).at ∷ moves (stop pins finger m.at m.size).ahead ((stop pins finger m.at m.size).at + m.size) ms
unfolding moves
moves-off pins finger m ms off =
    let r : Stop = stop pins finger m.at m.size in
    ap (λ b. cond b (moves pins finger ms) (move_to m r.at ∷ moves r.ahead (r.at + m.size) ms)) off

pub plan-on' : (all : List Marked) (finger : ℕ) (m : Marked) (ms : List Marked) → m.pinned ≡ true → plan all finger (m ∷ ms) ≡ (m.at, m.at) ∷ plan all finger ms
unfolding plan
plan-on' all finger m ms on =
    let t : ℕ = place all finger m.at m.size in
    ap (λ b. cond b ((m.at, m.at) ∷ plan all finger ms) ((m.at, t) ∷ plan all (t + m.size) ms)) on

pub plan-off' : (all : List Marked) (finger : ℕ) (m : Marked) (ms : List Marked) → m.pinned ≡ false → plan all finger (m ∷ ms) ≡ (m.at, place all finger m.at m.size) ∷ plan all (place all finger m.at m.size + m.size) ms
unfolding plan
plan-off' all finger m ms off =
    let t : ℕ = place all finger m.at m.size in
    ap (λ b. cond b ((m.at, m.at) ∷ plan all finger ms) ((m.at, t) ∷ plan all (t + m.size) ms)) off

planning : (all : List Marked) (finger end : ℕ) (qs ms : List Marked) → Planning all finger end qs ms → moves (qs ++ pins_of ms) finger ms ≡ moves_in ms (plan all finger ms)
unfolding moves plan
planning all finger end qs [] k = refl
planning all finger end qs (m ∷ ms) k = elim (cases_Bool m.pinned) [
  | inl on ↦
      let next : Planning all finger end (qs ++ m ∷ []) ms = record {
        xs = k.xs;
        p = end_of m;
        same = k.same ∙ ap (λ ps. k.xs ++ (qs ++ ps)) (pins-on m ms on) ∙ ap (λ ps. k.xs ++ ps) (sym (append_assoc qs (m ∷ []) (pins_of ms)));
        passed = k.passed;
        queue = Laid-append finger k.p (end_of m) qs (m ∷ []) k.queue (k.rest.0, k.rest.1, gap-same (end_of m));
        rest = k.rest.2;
      } in
      ap (λ ps. moves (qs ++ ps) finger (m ∷ ms)) (pins-on m ms on) ∙ moves-on (qs ++ m ∷ pins_of ms) finger m ms on
      ∙ ap (λ ps. moves ps finger ms) (sym (append_assoc qs (m ∷ []) (pins_of ms))) ∙ planning all finger end (qs ++ m ∷ []) ms next ∙ sym (plan-on all finger m ms on)
  | inr off ↦
      let n : ℕ = m.size in
      let later : List Marked = pins_of ms in
      let r : Stop = stop (qs ++ later) finger m.at n in
      let wide : Laid finger m.at qs = Laid-wider finger k.p m.at qs k.queue k.rest.0 in
      let from : From m.at later = From-pins m.at ms (Laid-from (end_of m) end ms m.at (omega arith) k.rest.2) in
      let s : Stops finger m.at n qs later r = stops finger m.at n qs later (size-two m k.rest.1) wide from in
      let all-is : all ≡ k.xs ++ (qs ++ later) = k.same ∙ ap (λ ps. k.xs ++ (qs ++ ps)) (pins-off m ms off) in
      let pins-laid : Laid finger end (qs ++ later) = Laid-append finger m.at end qs later wide (Laid-lower (end_of m) m.at end later (Laid-pins (end_of m) end ms k.rest.2) (gap-more m.at n (size-two m k.rest.1))) in
      let t : place all finger m.at n ≡ r.at = ap (λ ps. place ps finger m.at n) all-is ∙ place-passed finger m.at n k.xs (qs ++ later) k.passed ∙ place-stop finger end m.at n (qs ++ later) pins-laid in
      let order = Laid-order finger r.at s.passed s.laid_passed in
      let next : Planning all (r.at + n) end s.ahead ms = record {
        xs = k.xs ++ s.passed;
        p = m.at + n;
        same = all-is ∙ ap (λ ps. k.xs ++ (ps ++ later)) s.same ∙ ap (λ ps. k.xs ++ ps) (append_assoc s.passed s.ahead later) ∙ sym (append_assoc k.xs s.passed (s.ahead ++ later));
        passed = Passed-append (r.at + n) k.xs s.passed (Passed-more finger (r.at + n) k.xs (omega (arith, order)) k.passed) (Passed-more r.at (r.at + n) s.passed (omega arith) (Laid-passed finger r.at s.passed s.laid_passed));
        queue = s.laid_ahead;
        rest = k.rest.2;
      } in
      ap (λ ps. moves (qs ++ ps) finger (m ∷ ms)) (pins-off m ms off) ∙ moves-off (qs ++ later) finger m ms off
      ∙ ap (λ ps. move_to m r.at ∷ moves ps (r.at + n) ms) s.left
      ∙ ap (λ es. move_to m r.at ∷ es) (planning all (r.at + n) end s.ahead ms next)
      ∙ ap (λ u. move_to m u ∷ moves_in ms (plan all (u + n) ms)) (sym t)
      ∙ sym (plan-off all finger m ms off)
]

-- the plan as it is made, which looks at each pinned chunk once, gives the planned places
pub moves_are_planned : (low end : ℕ) (ms : List Marked) → Laid low end ms → moves (pins_of ms) low ms ≡ moves_in ms (planned low ms)
moves_are_planned low end ms l = planning (pins_of ms) low end [] ms (record { xs = []; p = low; same = refl; passed = tt; queue = gap-same low; rest = l })
