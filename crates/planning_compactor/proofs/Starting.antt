-- Before the first pass, and after the last.
use Rattle.std.proofs.Common.{◌≡◌, ℕ, suc, zero, Bool, true, false, ◌+◌, ◌-◌, ◌<◌, ◌≤◌, List, [], ◌∷◌, ◌++◌, refl, sym, ap, ◌∙◌, subst, inl, inr, arith}
use Rattle.std.proofs.lemmas.Bool.{cases_Bool}
use Rattle.std.proofs.lemmas.List.{append-nil}
use Rattle.std.specs.List.{AllByRecursion}
use Rattle.object_header.specs.Chunks.{StandsAt}
use Rattle.spur_graph.specs.Planned.{Marked, pins_of, planned}
use Rattle.planning_compactor.specs.Spans.{Gap, IsShaped, Laid, Move, moves, moves_in}
use Rattle.planning_compactor.proofs.Plans.{moves_are_planned}
use Rattle.heap_walk.specs.declared.saved.Saved.{Saved}
use Rattle.heap_walk.specs.Shapes.{place_at, words_at, end_at}
use Rattle.compaction_laws.specs.Compacting.{is_pinned}
use Rattle.planning_compactor.specs.Pins.{is_pin}
use Rattle.planning_compactor.specs.Planning.{mark_at, marks_from, marks, pins, IsIn, AreLaid, IsPlan, left}
use Rattle.planning_compactor.specs.Compacted.{Agrees, IsCompacting, IsCompactedWithin}
use Rattle.planning_compactor.proofs.Spacing.{gap-same}
use Rattle.planning_compactor.proofs.Pins.{pin-in}
use Rattle.planning_compactor.proofs.Shapes.{lead-few, lead-low}
use Rattle.planning_compactor.proofs.Composed.{moved-none}
use Rattle.planning_compactor.proofs.Lists.{marks-none}

pub plan-first : (has : ℕ → Bool) (words : List ℕ) (low end : ℕ) (es : List Saved) → AreLaid has words low end → IsPlan has words low end low low low es 0
plan-first has words low end es laid = record {
  inside = (omega arith, laid.whole.0, omega arith);
  floor = gap-same low;
  coming = λ s i a. laid.first s i;
  ahead = λ q i a. laid.first q (pin-in has words low end q i);
  behind = λ s i a b f. absurd (let z = i.1 in omega (arith, z, a));
  moved = λ k a. absurd (omega (arith, a));
  later = λ q i a. a;
}

pub compacting-first : (all : List Move) (has : ℕ → Bool) (words : List ℕ) (low end next : ℕ) → IsCompacting all [] all (λ t. t) has has words words low end next
compacting-first all has words low end next = record {
  moved = moved-none has words;
  loose = λ j f. refl;
  is = refl;
  placed = tt;
  pinned = λ t g k. refl;
  outside = λ t o. refl;
  inside = λ t a b. (a, b);
  unmoved = λ t l. refl;
}

-- the pinned chunks of the list of chunks
pins-are : (n : ℕ) (has : ℕ → Bool) (words : List ℕ) (at : ℕ) → marks_from n (is_pin has words) words at ≡ pins_of (marks_from n has words at)
unfolding marks_from
pins-are zero has words at = refl
pins-are (suc n) has words at =
    let rest = pins-are n has words (at + 1) in
    elim (cases_Bool (has at)) [
      | inr off ↦ rw off rest
      | inl on ↦ elim (cases_Bool (is_pinned words at)) [
        | inl k ↦ rw (on, k) (ap (λ ms. record { at = place_at words at; start = at; size = words_at words at; pinned = true } ∷ ms) rest)
        | inr k ↦ rw (on, k) rest
      ]
    ]

shaped : (words : List ℕ) (s : ℕ) → StandsAt words s → IsShaped (mark_at words s)
shaped words s a = let l = lead-low words s a in let f = lead-few words s in record { behind = omega arith; near = omega (arith, f); body = omega (arith, l) }

marks-laid : (n : ℕ) (has : ℕ → Bool) (words : List ℕ) (low end at x : ℕ) → AreLaid has words low end → at + n ≡ end → low ≤ at → Gap x end → ((s : ℕ) → IsIn has low end s → at ≤ s → Gap x (place_at words s)) → Laid x end (marks_from n has words at)
unfolding marks_from
marks-laid zero has words low end at x laid e l g h = g
marks-laid (suc n) has words low end at x laid e l g h = elim (cases_Bool (has at)) [
  | inr off ↦ rw off (marks-laid n has words low end (at + 1) x laid (omega arith) (omega arith) g (λ s i a. h s i (omega (arith, a))))
  | inl on ↦
      let i : IsIn has low end at = (on, l, omega arith) in
      rw on (h at i (omega arith), shaped words at (laid.stands at on), marks-laid n has words low end (at + 1) (end_at words at) laid (omega arith) (omega arith) (laid.last at i) (λ s j a. laid.apart at s i j (omega (arith, a))))
]

pub range-laid : (has : ℕ → Bool) (words : List ℕ) (low end : ℕ) → AreLaid has words low end → Laid low end (marks has words low end)
range-laid has words low end laid = let l = laid.whole.0 in marks-laid (end - low) has words low end low low laid (omega (arith, l)) (omega arith) laid.whole (λ s i a. laid.first s i)

pub first-left : (has : ℕ → Bool) (words : List ℕ) (low end : ℕ) → AreLaid has words low end → left has words low low low end ≡ moves_in (marks has words low end) (planned low (marks has words low end))
first-left has words low end laid =
    let ms : List Marked = marks has words low end in
    ap (λ ps. moves ps low ms) (pins-are (end - low) has words low) ∙ moves_are_planned low end ms (range-laid has words low end laid)

pub compacted : (all done : List Move) (p : ℕ → ℕ) (has has' : ℕ → Bool) (words words' : List ℕ) (low end next pin finger : ℕ) → IsCompacting all done (left has' words' next pin finger end) p has has' words words' low end next
    → all ≡ moves_in (marks has words low end) (planned low (marks has words low end)) → ((s : ℕ) → IsIn has' low end s → s < next) → low ≤ next → IsCompactedWithin p has has' words words' low end
unfolding moves
compacted all done p has has' words words' low end next pin finger c is d l =
    let none : marks has' words' next end ≡ [] = marks-none has' words' next end (λ k a b. off k a b) in
    let nil : left has' words' next pin finger end ≡ [] = ap (moves (pins has' words' pin end) finger) none in
    let all-done : done ≡ moves_in (marks has words low end) (planned low (marks has words low end)) = sym (append-nil done) ∙ ap (λ ms. done ++ ms) (sym nil) ∙ sym c.is ∙ is in
    record { moved = c.moved; loose = c.loose; placed = subst (Agrees p) all-done (only done c.placed); pinned = c.pinned; outside = c.outside; inside = c.inside }
  where
    off : (k : ℕ) → next ≤ k → k < end → has' k ≡ false
    off k a b = elim (cases_Bool (has' k)) [ inr f ↦ f | inl t ↦ absurd (let z = d k (t, omega (arith, a, l), b) in omega (arith, z, a)) ]

    only : (ms : List Move) → AllByRecursion (λ (e : Move). (p e.start ≡ e.target) × (e.target < next)) ms → Agrees p ms
    only [] h = tt
    only (e ∷ ms) h = (h.0.0, only ms h.1)
