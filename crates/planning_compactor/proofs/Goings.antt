-- After a pass the plan goes on, and what was not planned is as it was.
use Rattle.std.proofs.Common.{◌≡◌, ℕ, Bool, true, ◌<◌, ◌≤◌, List, length, sym, ap, ◌∙◌, subst, inl, inr, arith}
use Rattle.std.proofs.lemmas.Bool.{true≢false, and_parts, and_from}
use Rattle.heap_walk.specs.declared.saved.Saved.{Saved}
use Rattle.heap_walk.specs.Shapes.{end_at}
use Rattle.heap_laws.proofs.Tables.{both}
use Rattle.planning_compactor.specs.Spans.{Gap, moves}
use Rattle.planning_compactor.specs.Entries.{start_of}
use Rattle.compaction_laws.specs.Compacting.{is_pinned}
use Rattle.planning_compactor.specs.Pins.{is_pin}
use Rattle.planning_compactor.specs.Slid.{target_of}
use Rattle.planning_compactor.specs.Planning.{mark_at, IsIn, IsAbsent, IsPlan, left}
use Rattle.planning_compactor.proofs.Shapes.{head-moved, words-same, pinned-same}
use Rattle.planning_compactor.proofs.Lists.{marks-alike}
use Rattle.planning_compactor.proofs.Origins.{HasPassed, down, origin, gone, stay, kept-has, place-stay, end-stay, end-gone}

module _ {has has' : ℕ → Bool} {w w' : List ℕ} {low end : ℕ} {es : List Saved} {next : ℕ} (k : HasPassed has has' w w' low end es next) where
  -- who went is behind the plan
  behind-next : (j : ℕ) → j < length es → target_of es j < next
  behind-next j l = let a = k.moves.below j l in let b = down k j l in omega (arith, a, b)

  -- a pinned object has stayed
  pin-stays : (q : ℕ) → IsIn (is_pin has' w') low end q → (has q ≡ true) × IsAbsent es (length es) q
  pin-stays q i =
      let g = and_parts (has' q) (is_pinned w' q) i.0 in
      elim (origin k q g.0) [
        | inr a ↦ a
        | inl j ↦ absurd (true≢false (sym g.1 ∙ ap (is_pinned w') (sym j.2) ∙ pinned-same (head-moved (gone k j.0 j.1)) ∙ k.moves.mobile j.0 j.1))
      ]

  was-pin : (q : ℕ) → IsIn (is_pin has' w') low end q → (has q ≡ true) × IsAbsent es (length es) q → is_pin has w q ≡ true
  was-pin q i a =
      let g = and_parts (has' q) (is_pinned w' q) i.0 in
      and_from (has q) (is_pinned w q) a.0 (sym (pinned-same (head-moved (stay k q a.0 a.1))) ∙ g.1)

  pub plan-after : (pin finger : ℕ) (es' : List Saved) → IsPlan has w low end next pin finger es (length es) → IsPlan has' w' low end next pin finger es' 0
  plan-after pin finger es' p = record {
    inside = p.inside;
    floor = p.floor;
    coming = λ s i l. elim (origin k s i.0) [
      | inl j ↦ absurd (let a = behind-next j.0 j.1 in let c = j.2 in omega (arith, a, c, l))
      | inr a ↦ subst (Gap finger) (sym (place-stay k s a.0 a.1)) (p.coming s (a.0, i.1, i.2) l)
    ];
    ahead = λ q i l. let a = pin-stays q i in subst (Gap finger) (sym (place-stay k q a.0 a.1)) (p.ahead q (was-pin q i a, i.1, i.2) l);
    behind = λ s i l a f. elim (origin k s i.0) [
      | inl j ↦ subst (λ x. Gap (end_at w' x) finger) j.2 (subst (λ x. Gap x finger) (sym (end-gone k j.0 j.1)) (p.moved j.0 j.1))
      | inr b ↦ subst (λ x. Gap x finger) (sym (end-stay k s b.0 b.1)) (p.behind s (b.0, i.1, i.2) l b.1 (λ on. f (pinned-same (head-moved (stay k s b.0 b.1)) ∙ on)))
    ];
    moved = λ j l. absurd (omega (arith, l));
    later = λ q i l. let a = pin-stays q i in p.later q (was-pin q i a, i.1, i.2) l;
  }

  -- where all objects have their places, all have them afterwards
  pub done-after : ((s : ℕ) → IsIn has low end s → s < next) → (s : ℕ) → IsIn has' low end s → s < next
  done-after d s i = elim (origin k s i.0) [
    | inl j ↦ let a = behind-next j.0 j.1 in let c = j.2 in omega (arith, a, c)
    | inr a ↦ d s (a.0, i.1, i.2)
  ]

  -- ---- the moves that are left

  mark-stay : (s : ℕ) → has s ≡ true → IsAbsent es (length es) s → mark_at w' s ≡ mark_at w s
  mark-stay s g a = λ i. record { at = place-stay k s g a i; start = s; size = words-same (head-moved (stay k s g a)) i; pinned = pinned-same (head-moved (stay k s g a)) i }

  later-absent : (s : ℕ) → next ≤ s → IsAbsent es (length es) s
  later-absent s l j b e = let z = k.moves.below j b in omega (arith, z, e, l)

  later-has : (s : ℕ) → next ≤ s → has' s ≡ has s
  later-has s l = both (has' s) (has s) (λ g. elim (origin k s g) [ inr a ↦ a.0 | inl j ↦ absurd (let a = behind-next j.0 j.1 in let c = j.2 in omega (arith, a, c, l)) ]) (λ g. kept-has k s g (later-absent s l))

  pinned-absent : (s : ℕ) → is_pinned w s ≡ true → IsAbsent es (length es) s
  pinned-absent s on j b e = true≢false (sym on ∙ ap (is_pinned w) (sym e) ∙ k.moves.mobile j b)

  same-pin : (s : ℕ) → low ≤ s → s < end → is_pin has' w' s ≡ is_pin has w s
  same-pin s a b = both (is_pin has' w' s) (is_pin has w s) (λ g. was-pin s (g, a, b) (pin-stays s (g, a, b))) (λ g.
      let q = and_parts (has s) (is_pinned w s) g in
      let z = pinned-absent s q.1 in
      and_from (has' s) (is_pinned w' s) (kept-has k s q.0 z) (pinned-same (head-moved (stay k s q.0 z)) ∙ q.1))

  pub left-after : (pin finger : ℕ) → low ≤ pin → left has' w' next pin finger end ≡ left has w next pin finger end
  left-after pin finger l =
      let ps = marks-alike (is_pin has w) (is_pin has' w') w w' pin end (λ s a b. (same-pin s (omega (arith, l, a)) b, λ on. let q = and_parts (has s) (is_pinned w s) on in mark-stay s q.0 (pinned-absent s q.1))) in
      let ms = marks-alike has has' w w' next end (λ s a b. (later-has s a, λ on. mark-stay s on (later-absent s a))) in
      λ i. moves (ps i) finger (ms i)

  pub below-after : (j : ℕ) → j < length es → (start_of es j < next) × (target_of es j ≤ start_of es j)
  below-after j l = (k.moves.below j l, down k j l)
