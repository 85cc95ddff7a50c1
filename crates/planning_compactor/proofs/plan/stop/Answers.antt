use Rattle.std.proofs.Common.{◌≡◌, ℕ, Bool, List, true, false, ◌+◌, ◌-◌, ◌<◌, ◌≤◌, sym, ap, ◌∙◌, subst, arith}
use Rattle.heap_walk.specs.Starts.{has_start}
use Rattle.spur_graph.specs.FreeSizes.{fits}
use Rattle.planning_compactor.specs.Spans.{stop}
use Rattle.heap_walk.specs.Shapes.{place_at, end_at}
use Rattle.planning_compactor.specs.Pins.{is_pin}
use Rattle.planning_compactor.specs.Planning.{pins, IsIn, Passing, HasRoom, AreLaid}
use Rattle.planning_compactor.proofs.Pins.{pass-to, pass-over, room-fits, starts-before}
use Rattle.planning_compactor.proofs.Lists.{stop-far, stop-fits, stop-over, stop-all}
use Rattle.planning_compactor.proofs.plan.stop.Goals as goal

-- at the next pinned chunk
record AtPin (has : ℕ → Bool) (words : List ℕ) (low end s pin finger q finger' : ℕ) : Type 0 where
  passing : Passing has words low end (place_at words s) pin finger q finger'
  here : IsIn (is_pin has words) low end q
  on : pin ≤ q

at-pin : (has : ℕ → Bool) (words : List ℕ) (low end s n p pin finger pin' finger' : ℕ) (laid : AreLaid has words low end) (here : IsIn has low end s) → p ≡ place_at words s → low ≤ pin
    → Passing has words low end p pin finger pin' finger' → (q : ℕ) → pin' ≤ q → q < end → is_pin has words q ≡ true → ((k : ℕ) → pin' ≤ k → k < q → is_pin has words k ≡ false)
    → AtPin has words low end s pin finger q finger'
at-pin has words low end s n p pin finger pin' finger' laid here is l r q a b k none =
    let r' : Passing has words low end (place_at words s) pin finger pin' finger' = subst (λ x. Passing has words low end x pin finger pin' finger') is r in
    let o = r.on in
    record { passing = pass-to has words low end s n pin finger pin' finger' laid here r' q a b none; here = (k, omega (arith, l, o.0, a), b); on = omega (arith, o.0, a) }

pub returns-then-fits-clause-room : goal.returns-then-fits-clause-room
returns-then-fits-clause-room c =
    let has = has_start c.args.starts.now in
    let words = c.args.words.now in
    let low : ℕ = c.args.plan.now.low in
    let end : ℕ = c.args.plan.now.end in
    let q : ℕ = c.in-Some.pin in
    let f : ℕ = c.pins.plan.finger in
    let same-end : c.pins.plan.end ≡ end = ap (λ (x : _). x.end) c.pins.invariant.same in
    let a = at-pin has words low end c.args.start c.args.size c.args.place c.args.plan.now.pin c.args.plan.now.finger c.pins.plan.pin f c.requires.laid c.requires.here c.requires.place c.requires.pin.0
    c.pins.invariant.passing q c.in-Some.ensures.found.0 (omega (arith, c.in-Some.ensures.found.1, same-end)) c.in-Some.ensures.found.2 c.in-Some.ensures.first in
    let at : q - c.lead_of.result ≡ place_at words q = ap (λ n. q - n) c.lead_of.ensures.value in
    let ok : fits c.args.size (place_at words q - f) ≡ true = ap (λ x. fits c.args.size (x - f)) (sym at) ∙ sym c.fits.ensures ∙ c.if-fits.true in
    subst (λ p. HasRoom has words low end p c.args.size q f) (sym c.requires.place)
    (room-fits has words low end c.args.start c.args.size c.args.plan.now.pin c.args.plan.now.finger q f c.requires.laid c.requires.here a.passing a.here ok)

pub pins-preserved : goal.pins-preserved
pins-preserved c =
    let has = has_start c.args.starts.now in
    let words = c.args.words.now in
    let low : ℕ = c.args.plan.now.low in
    let end : ℕ = c.args.plan.now.end in
    let q : ℕ = c.in-Some.pin in
    let f : ℕ = c.pins.plan.finger in
    let same-end : c.pins.plan.end ≡ end = ap (λ (x : _). x.end) c.pins.invariant.same in
    let same-low : c.pins.plan.low ≡ low = ap (λ (x : _). x.low) c.pins.invariant.same in
    let same-next : c.pins.plan.next ≡ c.args.plan.now.next = ap (λ (x : _). x.next) c.pins.invariant.same in
    let a = at-pin has words low end c.args.start c.args.size c.args.place c.args.plan.now.pin c.args.plan.now.finger c.pins.plan.pin f c.requires.laid c.requires.here c.requires.place c.requires.pin.0
    c.pins.invariant.passing q c.in-Some.ensures.found.0 (omega (arith, c.in-Some.ensures.found.1, same-end)) c.in-Some.ensures.found.2 c.in-Some.ensures.first in
    let at : q - c.lead_of.result ≡ place_at words q = ap (λ n. q - n) c.lead_of.ensures.value in
    let ends : q - c.lead_of.result + c.words_of.result ≡ end_at words q = omega (arith, at, c.words_of.ensures.value) in
    let before : q < c.args.start = starts-before has words low end c.args.start c.args.size c.args.plan.now.pin c.args.plan.now.finger q f c.requires.laid c.requires.here a.passing a.here
    (omega (arith, at, c.if-at-place.false, c.requires.place)) in
    let over = pass-over has words low end c.args.start c.args.size c.args.plan.now.pin c.args.plan.now.finger q f c.requires.laid c.requires.here a.passing a.here a.on before in
    record {
      same = λ i. record { low = same-low i; end = same-end i; next = same-next i; pin = q + 1; finger = q - c.lead_of.result + c.words_of.result };
      is = (let no : fits c.args.size (place_at words q - f) ≡ false = ap (λ x. fits c.args.size (x - f)) (sym at) ∙ sym c.fits.ensures ∙ c.if-fits.false in
          ap (λ x. stop (pins has words (q + 1) end) x c.args.place c.args.size) ends
          ∙ sym (stop-over has words c.pins.plan.pin end f c.args.place c.args.size q c.in-Some.ensures.found.0 (omega (arith, c.in-Some.ensures.found.1, same-end)) c.in-Some.ensures.found.2 c.in-Some.ensures.first (omega (arith, at, c.if-at-place.false)) no)
          ∙ c.pins.invariant.is);
      passing = subst (λ p. Passing has words low end p c.args.plan.now.pin c.args.plan.now.finger (q + 1) (q - c.lead_of.result + c.words_of.result)) (sym c.requires.place)
          (subst (Passing has words low end (place_at words c.args.start) c.args.plan.now.pin c.args.plan.now.finger (q + 1)) (sym ends) over);
    }

pub returns-then-at-place-clause-is : goal.returns-then-at-place-clause-is
returns-then-at-place-clause-is c =
    let has = has_start c.args.starts.now in
    let words = c.args.words.now in
    let end : ℕ = c.args.plan.now.end in
    let q : ℕ = c.in-Some.pin in
    let same-end : c.pins.plan.end ≡ end = ap (λ (x : _). x.end) c.pins.invariant.same in
    let at : q - c.lead_of.result ≡ place_at words q = ap (λ n. q - n) c.lead_of.ensures.value in
    sym c.pins.invariant.is ∙ stop-far has words c.pins.plan.pin end c.pins.plan.finger c.args.place c.args.size q c.in-Some.ensures.found.0 (omega (arith, c.in-Some.ensures.found.1, same-end)) c.in-Some.ensures.found.2 c.in-Some.ensures.first
    (omega (arith, at, c.if-at-place.true))

pub returns-then-fits-clause-is : goal.returns-then-fits-clause-is
returns-then-fits-clause-is c =
    let has = has_start c.args.starts.now in
    let words = c.args.words.now in
    let end : ℕ = c.args.plan.now.end in
    let q : ℕ = c.in-Some.pin in
    let f : ℕ = c.pins.plan.finger in
    let same-end : c.pins.plan.end ≡ end = ap (λ (x : _). x.end) c.pins.invariant.same in
    let at : q - c.lead_of.result ≡ place_at words q = ap (λ n. q - n) c.lead_of.ensures.value in
    let ok : fits c.args.size (place_at words q - f) ≡ true = ap (λ x. fits c.args.size (x - f)) (sym at) ∙ sym c.fits.ensures ∙ c.if-fits.true in
    sym c.pins.invariant.is ∙ stop-fits has words c.pins.plan.pin end c.pins.plan.finger c.args.place c.args.size q c.in-Some.ensures.found.0 (omega (arith, c.in-Some.ensures.found.1, same-end)) c.in-Some.ensures.found.2 c.in-Some.ensures.first
    (omega (arith, at, c.if-at-place.false)) ok

pub returns-then-fits-clause-passing : goal.returns-then-fits-clause-passing
returns-then-fits-clause-passing c =
    let has = has_start c.args.starts.now in
    let words = c.args.words.now in
    let end : ℕ = c.args.plan.now.end in
    let q : ℕ = c.in-Some.pin in
    let f : ℕ = c.pins.plan.finger in
    let same-end : c.pins.plan.end ≡ end = ap (λ (x : _). x.end) c.pins.invariant.same in
    let a = at-pin has words c.args.plan.now.low end c.args.start c.args.size c.args.place c.args.plan.now.pin c.args.plan.now.finger c.pins.plan.pin f c.requires.laid c.requires.here c.requires.place c.requires.pin.0
    c.pins.invariant.passing q c.in-Some.ensures.found.0 (omega (arith, c.in-Some.ensures.found.1, same-end)) c.in-Some.ensures.found.2 c.in-Some.ensures.first in
    subst (λ p. Passing has words c.args.plan.now.low end p c.args.plan.now.pin c.args.plan.now.finger q f) (sym c.requires.place) a.passing

pub returns-clause-is : goal.returns-clause-is
returns-clause-is c =
    let has = has_start c.args.starts.now in
    let words = c.args.words.now in
    let end : ℕ = c.args.plan.now.end in
    let same-end : c.pins.plan.end ≡ end = ap (λ (x : _). x.end) c.pins.invariant.same in
    sym c.pins.invariant.is ∙ stop-all has words c.pins.plan.pin end c.pins.plan.finger c.args.place c.args.size (λ k l m. c.in_default.ensures.none k l (omega (arith, m, same-end)))
    ∙ ap (λ e. record { at = c.pins.plan.finger; ahead = pins has words e end }) (sym same-end)
