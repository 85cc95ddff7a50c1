-- Three ranges, one after the other.
use Rattle.std.proofs.Common.{◌≡◌, ℕ, suc, zero, Bool, true, false, cond, ◌+◌, ◌-◌, ◌<◌, ◌≤◌, List, [], ◌∷◌, ap, ◌∙◌, subst, inl, inr, arith}
use Rattle.std.proofs.lemmas.Bool.{cases_Bool}
use Rattle.std.specs.List.{AllByRecursion}
use Rattle.spur_graph.specs.Planned.{Marked, planned}
use Rattle.planning_compactor.specs.Spans.{Move, moves_in, move_to}
use Rattle.planning_compactor.specs.Planning.{marks_from, marks, AreLaid}
use Rattle.planning_compactor.specs.Compacted.{Agrees, IsCompactedWithin, AreCompacted, moves_of}
use Rattle.planning_compactor.specs.declared.parts.Part.{Part}
use Rattle.planning_compactor.specs.declared.parts.Parts.{Parts}
use Rattle.planning_compactor.proofs.Composed.{moved-then, pinned-then}
use Rattle.planning_compactor.proofs.Joins.{loose-still}
use Rattle.planning_compactor.proofs.Besides.{marks-beside}

-- the moves of a range are of its chunks
abbrev pub Within : ℕ → ℕ → List Move → Type 0
Within low end ms = AllByRecursion (λ (e : Move). (low ≤ e.start) × (e.start < end)) ms

either : (b : Bool) (low end : ℕ) (e : Move) (ms : List Move) → (low ≤ e.start) × (e.start < end) → Within low end ms → Within low end (cond b ms (e ∷ ms))
either true low end e ms a h = h
either false low end e ms a h = (a, h)

moves-within : (low end : ℕ) (ms : List Marked) (xs : List (ℕ × ℕ)) → AllByRecursion (λ (m : Marked). (low ≤ m.start) × (m.start < end)) ms → Within low end (moves_in ms xs)
moves-within low end [] xs h = tt
moves-within low end (m ∷ ms) [] h = tt
moves-within low end (m ∷ ms) (x ∷ xs) h = either m.pinned low end (move_to m x.1) (moves_in ms xs) h.0 (moves-within low end ms xs h.1)

marks-within : (n : ℕ) (has : ℕ → Bool) (words : List ℕ) (low end at : ℕ) → low ≤ at → at + n ≤ end → AllByRecursion (λ (m : Marked). (low ≤ m.start) × (m.start < end)) (marks_from n has words at)
unfolding marks_from
marks-within zero has words low end at l e = tt
marks-within (suc n) has words low end at l e = elim (cases_Bool (has at)) [
  | inl on ↦ rw on ((l, omega arith), marks-within n has words low end (at + 1) (omega arith) (omega arith))
  | inr off ↦ rw off (marks-within n has words low end (at + 1) (omega arith) (omega arith))
]

pub range-within : (has : ℕ → Bool) (words : List ℕ) (low end : ℕ) → low ≤ end → Within low end (moves_in (marks has words low end) (planned low (marks has words low end)))
range-within has words low end l = moves-within low end (marks has words low end) (planned low (marks has words low end)) (marks-within (end - low) has words low end low (omega arith) (omega (arith, l)))

-- what moved before, or after
agrees-before : (p q : ℕ → ℕ) (low end : ℕ) (ms : List Move) → Within low end ms → ((t : ℕ) → low ≤ t → t < end → (low ≤ p t) × (p t < end)) → ((t : ℕ) → low ≤ t → t < end → q t ≡ t) → Agrees p ms → Agrees (λ t. q (p t)) ms
agrees-before p q low end [] w i f a = tt
agrees-before p q low end (e ∷ ms) w i f a = let k = i e.start w.0.0 w.0.1 in (f (p e.start) k.0 k.1 ∙ a.0, agrees-before p q low end ms w.1 i f a.1)

agrees-after : (p q : ℕ → ℕ) (low end : ℕ) (ms : List Move) → Within low end ms → ((t : ℕ) → low ≤ t → t < end → p t ≡ t) → Agrees q ms → Agrees (λ t. q (p t)) ms
agrees-after p q low end [] w f a = tt
agrees-after p q low end (e ∷ ms) w f a = (ap q (f e.start w.0.0 w.0.1) ∙ a.0, agrees-after p q low end ms w.1 f a.1)

module _ {p1 p2 p3 : ℕ → ℕ} {has has1 has2 has3 : ℕ → Bool} {w w1 w2 w3 : List ℕ} (parts : Parts) (o12 : parts.old_space.end ≤ parts.eden.low) (o23 : parts.eden.end ≤ parts.past_space.low)
    (c1 : IsCompactedWithin p1 has has1 w w1 parts.old_space.low parts.old_space.end) (c2 : IsCompactedWithin p2 has1 has2 w1 w2 parts.eden.low parts.eden.end)
    (c3 : IsCompactedWithin p3 has2 has3 w2 w3 parts.past_space.low parts.past_space.end)
    (l1 : AreLaid has1 w1 parts.old_space.low parts.old_space.end) (l2 : AreLaid has2 w2 parts.eden.low parts.eden.end) (past : parts.past_space.low ≤ parts.past_space.end)
  where
    abbrev a : Part
    a = parts.old_space

    abbrev b : Part
    b = parts.eden

    abbrev d : Part
    d = parts.past_space

    abbrev moves : Part → List Move
    moves x = moves_of has w x.low x.end

    second : Agrees p2 (moves parts.eden)
    second = subst (λ ks. Agrees p2 (moves_in ks (planned parts.eden.low ks))) (marks-beside c1 parts.eden.low parts.eden.end (inl o12)) c2.placed

    third : Agrees p3 (moves parts.past_space)
    third =
        let wide = l2.whole.0 in
        subst (λ ks. Agrees p3 (moves_in ks (planned parts.past_space.low ks))) (marks-beside c2 parts.past_space.low parts.past_space.end (inl o23) ∙ marks-beside c1 parts.past_space.low parts.past_space.end (inl (omega arith))) c3.placed

    pub three : AreCompacted (λ t. p3 (p2 (p1 t))) has has3 w w3 parts
    three =
        let m12 = moved-then p1 p2 has has1 has2 w w1 w2 c1.moved c2.moved in
        let n1 = l1.whole.0 in
        let n2 = l2.whole.0 in
        let v1 = range-within has w a.low a.end n1 in
        let v2 = range-within has w b.low b.end n2 in
        let v3 = range-within has w d.low d.end past in
        record {
          moved = moved-then (λ t. p2 (p1 t)) p3 has has2 has3 w w2 w3 m12 c3.moved;
          old_space = agrees-before p1 (λ t. p3 (p2 t)) a.low a.end (moves a) v1 c1.inside (λ t x y. ap p3 (c2.outside t (inl (omega (arith, y, o12)))) ∙ c3.outside t (inl (omega (arith, y, o12, o23, n2)))) c1.placed;
          eden = agrees-after p1 (λ t. p3 (p2 t)) b.low b.end (moves b) v2 (λ t x y. c1.outside t (inr (omega (arith, x, o12)))) (agrees-before p2 p3 b.low b.end (moves b) v2 c2.inside (λ t x y. c3.outside t (inl (omega (arith, y, o23)))) second);
          past_space = agrees-after (λ t. p2 (p1 t)) p3 d.low d.end (moves d) v3 (λ t x y. ap p2 (c1.outside t (inr (omega (arith, x, o12, o23, n2)))) ∙ c2.outside t (inr (omega (arith, x, o23)))) third;
          in_old_space = λ t x y.
              let i = c1.inside t x y in
              let m = i.1 in
              let same : p3 (p2 (p1 t)) ≡ p1 t = ap p3 (c2.outside (p1 t) (inl (omega (arith, m, o12)))) ∙ c3.outside (p1 t) (inl (omega (arith, m, o12, o23, n2))) in
              let l = i.0 in
              (omega (arith, same, l), omega (arith, same, m));
          in_eden = λ t x y.
              let first : p1 t ≡ t = c1.outside t (inr (omega (arith, x, o12))) in
              let i = c2.inside t x y in
              let m = i.1 in
              let same : p3 (p2 (p1 t)) ≡ p2 t = ap (λ u. p3 (p2 u)) first ∙ c3.outside (p2 t) (inl (omega (arith, m, o23))) in
              let l = i.0 in
              (omega (arith, same, l), omega (arith, same, m));
          in_past_space = λ t x y.
              let first : p1 t ≡ t = c1.outside t (inr (omega (arith, x, o12, o23, n2))) in
              let then : p2 t ≡ t = c2.outside t (inr (omega (arith, x, o23))) in
              let same : p3 (p2 (p1 t)) ≡ p3 t = ap (λ u. p3 (p2 u)) first ∙ ap p3 then in
              let i = c3.inside t x y in
              let l = i.0 in
              let m = i.1 in
              (omega (arith, same, l), omega (arith, same, m));
          pinned = pinned-then (λ t. p2 (p1 t)) p3 has has2 has3 w w2 w3 m12 (pinned-then p1 p2 has has1 has2 w w1 w2 c1.moved c1.pinned c2.pinned) c3.pinned;
          loose = λ j o f.
              let m1 = loose-still c1.moved c1.outside c1.inside l1 j (o.0, f) in
              let m2 = loose-still c2.moved c2.outside c2.inside l2 j (o.1, m1.1) in
              c3.loose j (o.2, m2.1) ∙ c2.loose j (o.1, m1.1) ∙ c1.loose j (o.0, f);
          outside = λ t o. ap p3 (ap p2 (c1.outside t o.0) ∙ c2.outside t o.1) ∙ c3.outside t o.2;
        }
