-- After a compaction objects stand right behind one another.
use Rattle.std.proofs.Common.{◌≡◌, ℕ, Bool, true, false, not, ◌+◌, ◌-◌, ◌<◌, ◌≤◌, ◌⊎◌, List, [], ◌∷◌, refl, sym, ap, ◌∙◌, subst, inl, inr, arith, nat_lt}
use Rattle.std.specs.Prelude.{◌&&◌, nat_le}
use Rattle.std.proofs.lemmas.Bool.{cases_Bool, cases_lt, true≢false}
use Rattle.spur_graph.specs.FreeSizes.{fits}
use Rattle.spur_graph.specs.Planned.{Marked, end_of, pins_of, place, plan}
use Rattle.heap_walk.specs.Shapes.{place_at, words_at, end_at}
use Rattle.heap_cells.proofs.Members.{In, filter_in}
use Rattle.heap_laws.specs.Compaction.{IsMovedBy}
use Rattle.planning_compactor.specs.Spans.{moves_in}
use Rattle.compaction_laws.specs.Compacting.{is_pinned}
use Rattle.planning_compactor.specs.Planning.{mark_at, marks, IsIn, AreLaid}
use Rattle.planning_compactor.specs.Compacted.{Agrees, IsCompactedWithin}
use Rattle.planning_compactor.specs.Filled.{IsPacked}
use Rattle.planning_compactor.proofs.Plans.{plan-on, plan-off}
use Rattle.planning_compactor.proofs.Lists.{from-listed, in-listed}
use Rattle.planning_compactor.proofs.Shapes.{head-moved, lead-low, lead-same, words-same, pinned-same, end-same}

-- an object goes to the finger, or to the end of a pinned one
place-from : (pins : List Marked) (finger p n : ℕ) → (place pins finger p n ≡ finger) ⊎ ((q : Marked) × In pins q × (place pins finger p n ≡ end_of q))
unfolding place
place-from [] finger p n = inl refl
place-from (q ∷ pins) finger p n = elim (cases_Bool (not (nat_le finger q.at && nat_lt q.at p))) [
  | inl skip ↦ rw skip (elim (place-from pins finger p n) [ inl e ↦ inl e | inr r ↦ inr (r.0, inr r.1, r.2) ])
  | inr near ↦ elim (cases_Bool (fits n (q.at - finger))) [
    | inl ok ↦ rw (near, ok) (inl refl)
    | inr over ↦ rw (near, over) (elim (place-from pins (end_of q) p n) [ inl e ↦ inr (q, inl refl, e) | inr r ↦ inr (r.0, inr r.1, r.2) ])
  ]
]

-- what holds of the finger at first, of the ends of pinned objects and of those that are placed holds of each place
module _ (Good : ℕ → Type 0) (p : ℕ → ℕ) (all : List Marked) (pins : (q : Marked) → In all q → Good (end_of q)) where
  good-place : (finger : ℕ) (ms : List Marked) → Good finger → ((m : Marked) → In ms m → m.pinned ≡ false → (t : ℕ) → p m.start ≡ t + (m.start - m.at) → Good (t + m.size))
      → Agrees p (moves_in ms (plan all finger ms)) → (m : Marked) → In ms m → m.pinned ≡ false → (t : ℕ) × (p m.start ≡ t + (m.start - m.at)) × Good t
  good-place finger [] g h a m k off = absurd k
  good-place finger (x ∷ ms) g h a m k off = elim (cases_Bool x.pinned) [
    | inl on ↦ elim k [
      | inl e ↦ absurd (true≢false (sym on ∙ ap (λ (y : Marked). y.pinned) e ∙ off))
      | inr n ↦ good-place finger ms g (λ y j. h y (inr j)) (subst (Agrees p) (plan-on all finger x ms on) a) m n off
    ]
    | inr mobile ↦
        let t : ℕ = place all finger x.at x.size in
        let b = subst (Agrees p) (plan-off all finger x ms mobile) a in
        let here : Good t = elim (place-from all finger x.at x.size) [ inl e ↦ subst Good (sym e) g | inr q ↦ subst Good (sym q.2) (pins q.0 q.1) ] in
        elim k [
          | inl e ↦ subst (λ (y : Marked). (u : ℕ) × (p y.start ≡ u + (y.start - y.at)) × Good u) e (t, b.0, here)
          | inr n ↦ good-place (t + x.size) ms (h x (inl refl) mobile t b.0) (λ y j. h y (inr j)) b.1 m n off
        ]
  ]

module _ {p : ℕ → ℕ} {has has' : ℕ → Bool} {w w' : List ℕ} {low end : ℕ} (laid : AreLaid has w low end) (c : IsCompactedWithin p has has' w w' low end) where
  listed : (m : Marked) → In (marks has w low end) m → (s : ℕ) × IsIn has low end s × (m ≡ mark_at w s)
  listed m k =
      let r = from-listed (end - low) has w low m k in
      let wide = laid.whole.0 in
      let i = r.1 in
      (r.0, (i.0, i.1, (let b = i.2 in omega (arith, b, wide))), r.2)

  pin-good : (q : Marked) → In (pins_of (marks has w low end)) q → (end_of q ≡ low) ⊎ ((s : ℕ) × IsIn has' low end s × (end_at w' s ≡ end_of q))
  pin-good q k =
      let f = filter_in (λ (m : Marked). m.pinned) (marks has w low end) q k in
      let r = listed q f.0 in
      let s : ℕ = r.0 in
      let on : is_pinned w s ≡ true = ap (λ (m : Marked). m.pinned) (sym r.2) ∙ f.1 in
      let stays : p s ≡ s = c.pinned s r.1.0 on in
      let moved : IsMovedBy p w w' s s = subst (IsMovedBy p w w' s) stays (c.moved.objects s r.1.0) in
      inr (s, (ap has' (sym stays) ∙ c.moved.there s r.1.0, r.1.1, r.1.2), end-same (head-moved moved) ∙ ap end_of (sym r.2))

  -- where an object has gone that has its place at `t`
  gone : (s t : ℕ) → IsIn has low end s → p s ≡ t + (s - place_at w s) → (place_at w' (p s) ≡ t) × (end_at w' (p s) ≡ t + words_at w s)
  gone s t i e =
      let l = lead-low w s (laid.stands s i.0) in
      let h = head-moved (c.moved.objects s i.0) in
      (omega (arith, e, l, lead-same h), omega (arith, e, l, lead-same h, words-same h))

  mobile-good : (m : Marked) → In (marks has w low end) m → m.pinned ≡ false → (t : ℕ) → p m.start ≡ t + (m.start - m.at) → (t + m.size ≡ low) ⊎ ((s : ℕ) × IsIn has' low end s × (end_at w' s ≡ t + m.size))
  mobile-good m k off t e =
      let r = listed m k in
      let s : ℕ = r.0 in
      let e' : p s ≡ t + (s - place_at w s) = subst (λ (x : Marked). p x.start ≡ t + (x.start - x.at)) r.2 e in
      let ins = c.inside s r.1.1 r.1.2 in
      inr (p s, (c.moved.there s r.1.0, ins.0, ins.1), (gone s t r.1 e').1 ∙ ap (λ (x : Marked). t + x.size) (sym r.2))

  pub packed-after : IsPacked has' w' low end
  packed-after t i off =
      let b = c.moved.back t i.0 in
      let s : ℕ = b.0 in
      let inside : (low ≤ s) × (s < end) = elim (cases_lt s low) [
        | inl x ↦ absurd (let z : s ≡ t = sym (c.outside s (inl x)) ∙ b.2 in let y = i.1 in omega (arith, z, y, x))
        | inr x ↦ elim (cases_lt s end) [ inl y ↦ (x, y) | inr y ↦ absurd (let z : s ≡ t = sym (c.outside s (inr y)) ∙ b.2 in let u = i.2 in omega (arith, z, u, y)) ]
      ] in
      let ins : IsIn has low end s = (b.1, inside.0, inside.1) in
      let was : is_pinned w s ≡ false = sym (pinned-same (head-moved (c.moved.objects s b.1))) ∙ ap (is_pinned w') b.2 ∙ off in
      let wide = laid.whole.0 in
      let in-marks : In (marks has w low end) (mark_at w s) = in-listed (end - low) has w low s (b.1, inside.0, (let y = inside.1 in omega (arith, y, wide))) in
      let r = good-place (λ x. (x ≡ low) ⊎ ((u : ℕ) × IsIn has' low end u × (end_at w' u ≡ x))) p (pins_of (marks has w low end)) pin-good low (marks has w low end) (inl refl) mobile-good c.placed (mark_at w s) in-marks was in
      let at : place_at w' t ≡ r.0 = ap (place_at w') (sym b.2) ∙ (gone s r.0 ins r.1).0 in
      elim r.2 [ inl e ↦ inl (at ∙ e) | inr u ↦ inr (u.0, u.1, u.2 ∙ sym at) ]
