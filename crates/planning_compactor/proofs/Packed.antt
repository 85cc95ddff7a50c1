-- Chunks that lie one behind another from the front of a range on stay where they are.
use Rattle.std.proofs.Common.{◌≡◌, ℕ, Bool, true, false, cond, ◌+◌, ◌-◌, ◌≤◌, List, [], ◌∷◌, ◌++◌, refl, sym, ap, ◌∙◌, subst, inl, inr, arith}
use Rattle.std.specs.List.{AllByRecursion}
use Rattle.std.proofs.lemmas.Bool.{cases_Bool, cases_lt, lt-ltb, le-leb, le-ltb, lt-leb}
use Rattle.std.proofs.lemmas.Bool.Decides.{nat_tests}
use Rattle.std.proofs.lemmas.List.{append_assoc}
use Rattle.std.proofs.lemmas.List.Elements.{filter-append}
use Rattle.spur_graph.specs.Planned.{Marked, end_of, pins_of, place, plan}
use Rattle.spur_graph.specs.FreeSizes.{fits}
use Rattle.planning_compactor.specs.Spans.{IsShaped, Laid, Packed, stays, PackedStay}
use Rattle.planning_compactor.proofs.Stops.{From, From-pins}
use Rattle.planning_compactor.proofs.Plans.{Passed, Passed-more, Passed-append, place-passed, place-none, plan-on', plan-off'}

packed-order : (x y : ℕ) (ms : List Marked) → Packed x y ms → x ≤ y
packed-order x y [] p = omega (arith, p)
packed-order x y (m ∷ ms) p = let k = packed-order (end_of m) y ms p.2 in let a = p.0 in omega (arith, k, a)

packed-passed : (x y : ℕ) (ms : List Marked) → Packed x y ms → Passed y ms
packed-passed x y [] p = tt
packed-passed x y (m ∷ ms) p = let k = packed-order (end_of m) y ms p.2 in let a = p.1 in (omega (arith, k, a), packed-passed (end_of m) y ms p.2)

packed-append : (x y z : ℕ) (ms ns : List Marked) → Packed x y ms → Packed y z ns → Packed x z (ms ++ ns)
packed-append x y z [] ns p q = subst (λ a. Packed a z ns) (sym p) q
packed-append x y z (m ∷ ms) ns p q = (p.0, p.1, packed-append (end_of m) y z ms ns p.2 q)

nothing-fits : (a n : ℕ) → 2 ≤ n → fits n (a - a) ≡ false
nothing-fits a n l = grind (arith, nat_tests)

-- pinned chunks that lie one behind another from the finger on are passed
place-run : (f x p n : ℕ) (run qs : List Marked) → Packed f x run → x ≤ p → 2 ≤ n → place (run ++ qs) f p n ≡ place qs x p n
unfolding place
place-run f x p n [] qs k l two = ap (λ a. place qs a p n) k
place-run f x p n (q ∷ run) qs k l two =
    let o = packed-order (end_of q) x run k.2 in
    let a = k.0 in
    let s = k.1 in
    let gap : fits n (q.at - f) ≡ false = ap (λ y. fits n (q.at - y)) (sym a) ∙ nothing-fits q.at n two in
    rw (le-leb f q.at (omega (arith, a)), lt-ltb q.at p (omega (arith, o, s, l)), gap) (place-run (end_of q) x p n run qs k.2 l two)

place-up : (f p n : ℕ) (qs : List Marked) → f ≤ place qs f p n
unfolding place
place-up f p n [] = omega arith
place-up f p n (q ∷ qs) = elim (cases_lt q.at f) [
  | inl low ↦ rw (lt-leb f q.at low) (place-up f p n qs)
  | inr up ↦ elim (cases_lt q.at p) [
    | inr far ↦ rw (le-leb f q.at up, le-ltb q.at p far) (place-up f p n qs)
    | inl near ↦ elim (cases_Bool (fits n (q.at - f))) [
      | inl ok ↦ rw (le-leb f q.at up, lt-ltb q.at p near, ok) (omega arith)
      | inr bad ↦ rw (le-leb f q.at up, lt-ltb q.at p near, bad) (let k = place-up (end_of q) p n qs in omega (arith, k, up))
    ]
  ]
]

-- what the finger has passed plays no part
plan-passed : (f : ℕ) (xs qs ms : List Marked) → Passed f xs → plan (xs ++ qs) f ms ≡ plan qs f ms
unfolding plan
plan-passed f xs qs [] k = refl
plan-passed f xs qs (m ∷ ms) k = elim (cases_Bool m.pinned) [
  | inl on ↦ plan-on' (xs ++ qs) f m ms on ∙ ap (λ es. (m.at, m.at) ∷ es) (plan-passed f xs qs ms k) ∙ sym (plan-on' qs f m ms on)
  | inr off ↦
      let t : ℕ = place qs f m.at m.size in
      let same : place (xs ++ qs) f m.at m.size ≡ t = place-passed f m.at m.size xs qs k in
      let up = place-up f m.at m.size qs in
      plan-off' (xs ++ qs) f m ms off ∙ ap (λ u. (m.at, u) ∷ plan (xs ++ qs) (u + m.size) ms) same ∙ ap (λ es. (m.at, t) ∷ es) (plan-passed (t + m.size) xs qs ms (Passed-more f (t + m.size) xs (omega (arith, up)) k)) ∙ sym (plan-off' qs f m ms off)
]

-- a run before the rest plays no part
plan-run : (f mid : ℕ) (xs run qs ms : List Marked) → Passed f xs → Packed f mid run → From mid ms → AllByRecursion (λ (m : Marked). 2 ≤ m.size) ms → plan (xs ++ (run ++ qs)) f ms ≡ plan qs mid ms
unfolding plan
plan-run f mid xs run qs [] k r from two = refl
plan-run f mid xs run qs (m ∷ ms) k r from two = elim (cases_Bool m.pinned) [
  | inl on ↦ plan-on' (xs ++ (run ++ qs)) f m ms on ∙ ap (λ es. (m.at, m.at) ∷ es) (plan-run f mid xs run qs ms k r from.1 two.1) ∙ sym (plan-on' qs mid m ms on)
  | inr off ↦
      let t : ℕ = place qs mid m.at m.size in
      let same : place (xs ++ (run ++ qs)) f m.at m.size ≡ t = place-passed f m.at m.size xs (run ++ qs) k ∙ place-run f mid m.at m.size run qs r from.0 two.0 in
      let up = place-up mid m.at m.size qs in
      let o = packed-order f mid run r in
      let g : ℕ = t + m.size in
      let passed : Passed g (xs ++ run) = Passed-append g xs run (Passed-more f g xs (omega (arith, up, o)) k) (Passed-more mid g run (omega (arith, up)) (packed-passed f mid run r)) in
      plan-off' (xs ++ (run ++ qs)) f m ms off ∙ ap (λ u. (m.at, u) ∷ plan (xs ++ (run ++ qs)) (u + m.size) ms) same
      ∙ ap (λ es. (m.at, t) ∷ es) (ap (λ ps. plan ps g ms) (sym (append_assoc xs run qs)) ∙ plan-passed g (xs ++ run) qs ms passed) ∙ sym (plan-off' qs mid m ms off)
]

either : (b : Bool) (y : ℕ) (m : Marked) (ms : List Marked) → y ≤ m.at → From y ms → From y (cond b (m ∷ ms) ms)
either true y m ms l f = (l, f)
either false y m ms l f = f

packed-from : (x y : ℕ) (ms : List Marked) (z : ℕ) → z ≤ x → Packed x y ms → From z (pins_of ms)
packed-from x y [] z l p = tt
packed-from x y (m ∷ ms) z l p = let a = p.0 in either m.pinned z m (pins_of ms) (omega (arith, a, l)) (packed-from (end_of m) y ms z (omega (arith, a, l)) p.2)

from-append : (z : ℕ) (ms ns : List Marked) → From z ms → From z ns → From z (ms ++ ns)
from-append z [] ns a b = b
from-append z (m ∷ ms) ns a b = (a.0, from-append z ms ns a.1 b)

from-lower : (z y : ℕ) (ms : List Marked) → z ≤ y → From y ms → From z ms
from-lower z y [] l a = tt
from-lower z y (m ∷ ms) l a = (let b = a.0 in omega (arith, l, b), from-lower z y ms l a.1)

stay : (f x mid : ℕ) (xs run ms rest : List Marked) → Passed f xs → Packed f x run → Packed x mid ms → From mid rest → From mid (pins_of rest) → AllByRecursion (λ (m : Marked). 2 ≤ m.size) rest
    → plan (xs ++ (run ++ (pins_of ms ++ pins_of rest))) f (ms ++ rest) ≡ stays ms ++ plan (pins_of rest) mid rest
unfolding plan
stay f x mid xs run [] rest k r p from pins two = plan-run f mid xs run (pins_of rest) rest k (subst (λ y. Packed f y run) p r) from two
stay f x mid xs run (m ∷ ms) rest k r p from pins two = elim (cases_Bool m.pinned) [
  | inl on ↦
      let ps : pins_of (m ∷ ms) ≡ m ∷ pins_of ms = ap (λ b. cond b (m ∷ pins_of ms) (pins_of ms)) on in
      let all : xs ++ (run ++ (pins_of (m ∷ ms) ++ pins_of rest)) ≡ xs ++ ((run ++ m ∷ []) ++ (pins_of ms ++ pins_of rest)) =
      ap (λ qs. xs ++ (run ++ (qs ++ pins_of rest))) ps ∙ ap (λ qs. xs ++ qs) (sym (append_assoc run (m ∷ []) (pins_of ms ++ pins_of rest))) in
      ap (λ qs. plan qs f (m ∷ (ms ++ rest))) all ∙ plan-on' (xs ++ ((run ++ m ∷ []) ++ (pins_of ms ++ pins_of rest))) f m (ms ++ rest) on
      ∙ ap (λ es. (m.at, m.at) ∷ es) (stay f (end_of m) mid xs (run ++ m ∷ []) ms rest k (packed-append f x (end_of m) run (m ∷ []) r (p.0, p.1, refl)) p.2 from pins two)
  | inr off ↦
      let ps : pins_of (m ∷ ms) ≡ pins_of ms = ap (λ b. cond b (m ∷ pins_of ms) (pins_of ms)) off in
      let all : xs ++ (run ++ (pins_of (m ∷ ms) ++ pins_of rest)) ≡ xs ++ (run ++ (pins_of ms ++ pins_of rest)) = ap (λ qs. xs ++ (run ++ (qs ++ pins_of rest))) ps in
      let a = p.0 in
      let later : List Marked = pins_of ms ++ pins_of rest in
      let o = packed-order (end_of m) mid ms p.2 in
      let here : place (xs ++ (run ++ later)) f m.at m.size ≡ m.at = place-passed f m.at m.size xs (run ++ later) k ∙ place-run f x m.at m.size run later r (omega (arith, a)) p.1
      ∙ place-none x m.at m.size later (from-append m.at (pins_of ms) (pins_of rest) (packed-from (end_of m) mid ms m.at (omega arith) p.2) (from-lower m.at mid (pins_of rest) (omega (arith, o)) pins)) ∙ sym a in
      let g : ℕ = end_of m in
      let ro = packed-order f x run r in
      let passed : Passed g (xs ++ run) = Passed-append g xs run (Passed-more f g xs (omega (arith, ro, a)) k) (Passed-more x g run (omega (arith, a)) (packed-passed f x run r)) in
      ap (λ qs. plan qs f (m ∷ (ms ++ rest))) all ∙ plan-off' (xs ++ (run ++ later)) f m (ms ++ rest) off ∙ ap (λ u. (m.at, u) ∷ plan (xs ++ (run ++ later)) (u + m.size) (ms ++ rest)) here
      ∙ ap (λ es. (m.at, m.at) ∷ es) (ap (λ qs. plan qs g (ms ++ rest)) (sym (append_assoc xs run later)) ∙ stay g g mid (xs ++ run) [] ms rest passed refl p.2 from pins two)
]

laid-from : (at end : ℕ) (ms : List Marked) → Laid at end ms → From at ms × AllByRecursion (λ (m : Marked). 2 ≤ m.size) ms
laid-from at end [] l = (tt, tt)
laid-from at end (m ∷ ms) l =
    let r = laid-from (end_of m) end ms l.2 in
    let s : IsShaped m = l.1 in
    let g : at ≤ m.at = l.0.0 in
    ((g, from-lower at (end_of m) ms (omega (arith, g)) r.0), (omega (arith, s.behind, s.body), r.1))

pub packed_stay : PackedStay
packed_stay low mid end ms rest p l =
    let r = laid-from mid end rest l in
    ap (λ ps. plan ps low (ms ++ rest)) (filter-append (λ (m : Marked). m.pinned) ms rest)
    ∙ stay low low mid [] [] ms rest tt refl p r.0 (From-pins mid rest r.0) r.1
