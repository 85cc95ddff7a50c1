-- Where the finger stops.
use Rattle.std.proofs.Common.{◌≡◌, ℕ, Bool, true, false, cond, ◌+◌, ◌-◌, ◌≤◌, List, [], ◌∷◌, ◌++◌, refl, sym, ap, subst, inl, inr, arith}
use Rattle.std.specs.List.{AllByRecursion}
use Rattle.std.proofs.lemmas.Bool.{cases_Bool, lt-ltb, le-ltb}
use Rattle.spur_graph.specs.Planned.{Marked, end_of, pins_of}
use Rattle.spur_graph.specs.FreeSizes.{fits}
use Rattle.planning_compactor.specs.Spans.{Gap, IsShaped, Laid, Stop, stop}
use Rattle.planning_compactor.proofs.Spacing.{gap-same, gap-then, gap-more, gap-both, gap-fits}

pub Laid-wider : (at end more : ℕ) (ms : List Marked) → Laid at end ms → Gap end more → Laid at more ms
Laid-wider at end more [] l h = gap-then at end more l h
Laid-wider at end more (m ∷ ms) l h = (l.0, l.1, Laid-wider (end_of m) end more ms l.2 h)

pub Laid-lower : (at low end : ℕ) (ms : List Marked) → Laid at end ms → Gap low at → Laid low end ms
Laid-lower at low end [] l h = gap-then low at end h l
Laid-lower at low end (m ∷ ms) l h = (gap-then low at m.at h l.0, l.1, l.2)

pub Laid-order : (at end : ℕ) (ms : List Marked) → Laid at end ms → at ≤ end
Laid-order at end [] l = l.0
Laid-order at end (m ∷ ms) l = let k = Laid-order (end_of m) end ms l.2 in (let g : at ≤ m.at = l.0.0 in omega (arith, g, k))

pub Laid-append : (at mid end : ℕ) (xs ys : List Marked) → Laid at mid xs → Laid mid end ys → Laid at end (xs ++ ys)
Laid-append at mid end [] ys l m = Laid-lower mid at end ys m l
Laid-append at mid end (x ∷ xs) ys l m = (l.0, l.1, Laid-append (end_of x) mid end xs ys l.2 m)

-- all begin at a place or behind it
abbrev pub From : ℕ → List Marked → Type 0
From p ms = AllByRecursion (λ (m : Marked). p ≤ m.at) ms

pub Laid-from : (at end : ℕ) (ms : List Marked) (p : ℕ) → p ≤ at → Laid at end ms → From p ms
Laid-from at end [] p h l = tt
Laid-from at end (m ∷ ms) p h l = let g : at ≤ m.at = l.0.0 in (omega (arith, h, g), Laid-from (end_of m) end ms p (omega (arith, h, g)) l.2)

From-either : (b : Bool) (p : ℕ) (m : Marked) (ms : List Marked) → p ≤ m.at → From p ms → From p (cond b (m ∷ ms) ms)
From-either true p m ms l f = (l, f)
From-either false p m ms l f = f

pub From-pins : (p : ℕ) (ms : List Marked) → From p ms → From p (pins_of ms)
From-pins p [] f = tt
From-pins p (m ∷ ms) f = From-either m.pinned p m (pins_of ms) f.0 (From-pins p ms f.1)

-- no pinned chunk begins before the object
pub stop-none : (finger p n : ℕ) (later : List Marked) → From p later → stop later finger p n ≡ record { at = finger; ahead = later }
unfolding stop
stop-none finger p n [] f = refl
stop-none finger p n (q ∷ qs) f = rw (le-ltb q.at p f.0) refl

-- the finger at rest: those passed lie behind it, those ahead from the end of the object on, and it has not passed the object
pub record Stops (finger p n : ℕ) (qs later : List Marked) (r : Stop) : Type 0 where
  pub passed : List Marked
  pub ahead : List Marked
  pub same : qs ≡ passed ++ ahead
  pub left : r.ahead ≡ ahead ++ later
  pub laid_passed : Laid finger r.at passed
  pub down : r.at ≤ p
  pub laid_ahead : Laid (r.at + n) (p + n) ahead

pub stops : (finger p n : ℕ) (qs later : List Marked) → 2 ≤ n → Laid finger p qs → From p later → Stops finger p n qs later (stop (qs ++ later) finger p n)
unfolding stop
stops finger p n [] later two l f =
    subst (Stops finger p n [] later) (sym (stop-none finger p n later f))
    (record { passed = []; ahead = []; same = refl; left = refl; laid_passed = gap-same finger; down = l.0; laid_ahead = gap-both finger p n l })
stops finger p n (q ∷ qs) later two l f =
    let order = Laid-order (end_of q) p qs l.2 in
    let g : finger ≤ q.at = l.0.0 in
    let s : IsShaped q = l.1 in
    let before = lt-ltb q.at p (omega (arith, order, s.behind, s.body)) in
    elim (cases_Bool (fits n (q.at - finger))) [
      | inl ok ↦
          rw (before, ok) (record {
            passed = [];
            ahead = q ∷ qs;
            same = refl;
            left = refl;
            laid_passed = gap-same finger;
            down = omega (arith, g, order);
            laid_ahead = (gap-fits finger q.at n g ok, l.1, Laid-wider (end_of q) p (p + n) qs l.2 (gap-more p n two));
          })
      | inr bad ↦
          let r = stops (end_of q) p n qs later two l.2 f in
          rw (before, bad) (record { passed = q ∷ r.passed; ahead = r.ahead; same = ap (λ k. q ∷ k) r.same; left = r.left; laid_passed = (l.0, l.1, r.laid_passed); down = r.down; laid_ahead = r.laid_ahead })
    ]
