-- A range without pinned objects is full up to the end of the last one.
use Rattle.std.proofs.Common.{ℕ, Bool, ◌+◌, ◌<◌, ◌≤◌, List, refl, sym, subst, inl, inr, arith}
use Rattle.std.proofs.lemmas.Bool.{cases_eq, cases_lt}
use Rattle.heap_walk.specs.Shapes.{place_at, end_at}
use Rattle.planning_compactor.specs.Spans.{Gap}
use Rattle.planning_compactor.specs.Planning.{IsIn, AreLaid}
use Rattle.compaction_laws.specs.Compacting.{IsFull}
use Rattle.planning_compactor.specs.Filled.{IsGap, IsFilled, AreTwice, IsPacked, IsMobile, IsLastEnd}
use Rattle.planning_compactor.proofs.Spacing.{gap-same, gap-then, gap-more}
use Rattle.planning_compactor.proofs.Shapes.{lead-low, words-two}
use Rattle.planning_compactor.proofs.Cut.{is-cut}

module _ {has : ℕ → Bool} {words : List ℕ} {low end last : ℕ} (laid : AreLaid has words low end) (e : IsLastEnd has words low end last) where
  longer : (s : ℕ) → place_at words s + 2 ≤ end_at words s
  longer s = omega arith

  within : Gap low last × (last ≤ end)
  within = elim e.edge [
    | inl z ↦ (subst (Gap low) (sym z) (gap-same low), let w = laid.whole.0 in omega (arith, z, w))
    | inr s ↦
        let f = gap-then low (place_at words s.0) (end_at words s.0) (laid.first s.0 s.1) (gap-more (place_at words s.0) _ (words-two words s.0)) in
        (subst (Gap low) s.2 f, let z = s.2 in let y = (laid.last s.0 s.1).0 in omega (arith, z, y))
  ]

  -- an object of the range starts before the last end
  before : (s : ℕ) → IsIn has low end s → s < last
  before s i = let z = e.none s i in let y = lead-low words s (laid.stands s i.0) in omega (arith, z, y)

  -- the gap behind an object
  behind : (s : ℕ) → IsIn has low end s → Gap (end_at words s) last
  behind s i = elim e.edge [
    | inl z ↦ absurd (let y = before s i in let x = i.1 in omega (arith, z, y, x))
    | inr t ↦ subst (Gap (end_at words s)) t.2 (elim (cases_lt s t.0) [
      | inl l ↦ gap-then (end_at words s) (place_at words t.0) (end_at words t.0) (laid.apart s t.0 i t.1 l) (gap-more (place_at words t.0) _ (words-two words t.0))
      | inr l ↦ elim (cases_eq s t.0) [
        | inl q ↦ subst (λ x. Gap (end_at words x) (end_at words t.0)) (sym q) (gap-same (end_at words t.0))
        | inr q ↦ absurd (
            let a = (laid.apart t.0 s t.1 i (omega (arith, l, q))).0 in
            let b = e.none s i in
            let c = t.2 in
            let d = longer s in
            omega (arith, a, b, c, d))
      ]
    ])
  ]

  shorter : (s : ℕ) → IsIn has low last s → IsIn has low end s
  shorter s i = (i.0, i.1, let z = i.2 in let w = within.1 in omega (arith, z, w))

  laid-shorter : AreLaid has words low last
  laid-shorter = record {
    whole = within.0;
    stands = laid.stands;
    first = λ s i. laid.first s (shorter s i);
    apart = λ s t i j l. laid.apart s t (shorter s i) (shorter t j) l;
    last = λ s i. behind s (shorter s i);
    below = laid.below;
    above = λ s g l. elim (cases_lt s end) [
      | inl m ↦ absurd (let w = within.0.0 in let z = before s (g, omega (arith, w, l), m) in omega (arith, z, l))
      | inr m ↦ let z = laid.above s g m in let w = within.1 in omega (arith, z, w)
    ];
  }

  module _ (packed : IsPacked has words low end) (mobile : IsMobile has words low end) where
    -- there is no gap
    no-gap : (a b : ℕ) → IsGap has words low last a b → ⊥
    no-gap a b g =
        let some = g.some in
        let floor : low ≤ a = elim g.left [ inl z ↦ omega (arith, z) | inr s ↦ (let z = s.2 in let y = (laid.first s.0 (shorter s.0 s.1)).0 in let x = longer s.0 in omega (arith, z, y, x)) ] in
        elim g.right [
          | inl z ↦ elim e.edge [
            | inl q ↦ omega (arith, z, q, floor, some)
            | inr s ↦
                let q = s.2 in
                let y = longer s.0 in
                let i : IsIn has low last s.0 = (s.1.0, s.1.1, before s.0 s.1) in
                elim (g.none s.0 i) [ inl k ↦ omega (arith, k, q, z, some) | inr k ↦ omega (arith, k, q, z, y) ]
          ]
          | inr t ↦
              let z = t.2 in
              let i = shorter t.0 t.1 in
              elim (packed t.0 i (mobile t.0 i)) [
                | inl q ↦ omega (arith, q, z, floor, some)
                | inr s ↦
                    let q = s.2 in
                    let y = longer s.0 in
                    let j : IsIn has low last s.0 = (s.1.0, s.1.1, before s.0 s.1) in
                    elim (g.none s.0 j) [ inl k ↦ omega (arith, k, q, z, some) | inr k ↦ omega (arith, k, q, z, y) ]
              ]
        ]

    pub is-full : AreTwice has words → IsFull has words low end last
    is-full twice =
        let none : IsFilled has words words low last last = record { same_words = refl; live = λ s j i a b. refl; outside = λ j o. refl; free = λ a b g l. absurd (no-gap a b g) } in
        let c = is-cut laid-shorter twice none in
        record {
          within = within.1;
          cuts = c.cuts;
          starts = λ s on l m. c.starts s (on, l, before s (on, l, m));
          objects = λ d m. elim (c.kinds d m) [ inl on ↦ on | inr gap ↦ absurd (no-gap d.at (d.at + d.size) gap.gap) ];
        }
