-- A range beside one that is compacted.
use Rattle.std.proofs.Common.{◌≡◌, ℕ, Bool, true, ◌<◌, ◌≤◌, ◌⊎◌, List, sym, ap, ◌∙◌, subst, inl, inr, arith}
use Rattle.std.proofs.lemmas.Bool.{cases_lt}
use Rattle.heap_walk.specs.Shapes.{place_at, end_at}
use Rattle.heap_laws.specs.Compaction.{IsMovedBy}
use Rattle.heap_laws.proofs.Tables.{both}
use Rattle.planning_compactor.specs.Spans.{Gap}
use Rattle.planning_compactor.specs.Planning.{marks, AreLaid}
use Rattle.planning_compactor.specs.Compacted.{IsCompactedWithin}
use Rattle.planning_compactor.specs.Filled.{IsPacked}
use Rattle.planning_compactor.proofs.Shapes.{SameHead, head-moved, words-same, pinned-same, place-same, end-same}
use Rattle.planning_compactor.proofs.Lists.{marks-alike}

module _ {p : ℕ → ℕ} {has has' : ℕ → Bool} {w w' : List ℕ} {low end : ℕ} (c : IsCompactedWithin p has has' w w' low end) where
  -- what stands outside of the range has stood there
  outer : (s : ℕ) → (s < low) ⊎ (end ≤ s) → has' s ≡ true → has s ≡ true
  outer s o g =
      let b = c.moved.back s g in
      elim (cases_lt b.0 low) [
        | inl a ↦ subst (λ x. has x ≡ true) (sym (c.outside b.0 (inl a)) ∙ b.2) b.1
        | inr a ↦ elim (cases_lt b.0 end) [
          | inr d ↦ subst (λ x. has x ≡ true) (sym (c.outside b.0 (inr d)) ∙ b.2) b.1
          | inl d ↦ absurd (let i = c.inside b.0 a d in let i0 = i.0 in let i1 = i.1 in let e = b.2 in elim o [ inl x ↦ omega (arith, i0, e, x) | inr x ↦ omega (arith, i1, e, x) ])
        ]
      ]

  same-has : (s : ℕ) → (s < low) ⊎ (end ≤ s) → has' s ≡ has s
  same-has s o = both (has' s) (has s) (outer s o) (λ g. ap has' (sym (c.outside s o)) ∙ c.moved.there s g)

  head : (s : ℕ) → (s < low) ⊎ (end ≤ s) → has s ≡ true → SameHead w w' s s
  head s o g = head-moved (subst (IsMovedBy p w w' s) (c.outside s o) (c.moved.objects s g))

  module _ (low' end' : ℕ) (apart : (end ≤ low') ⊎ (end' ≤ low)) where
    out : (s : ℕ) → low' ≤ s → s < end' → (s < low) ⊎ (end ≤ s)
    out s a b = elim apart [ inl x ↦ inr (omega (arith, x, a)) | inr x ↦ inl (omega (arith, x, b)) ]

    pub marks-beside : marks has' w' low' end' ≡ marks has w low' end'
    marks-beside = marks-alike has has' w w' low' end' (λ s a b. (
      same-has s (out s a b),
      λ g. let h = head s (out s a b) g in λ i. record { at = place-same h i; start = s; size = words-same h i; pinned = pinned-same h i },
    ))

    pub packed-beside : IsPacked has w low' end' → IsPacked has' w' low' end'
    packed-beside k t i off =
        let o = out t i.1 i.2 in
        let g = outer t o i.0 in
        let h = head t o g in
        elim (k t (g, i.1, i.2) (sym (pinned-same h) ∙ off)) [
          | inl e ↦ inl (place-same h ∙ e)
          | inr s ↦
              let j = s.1 in
              let q = out s.0 j.1 j.2 in
              inr (s.0, (same-has s.0 q ∙ j.0, j.1, j.2), end-same (head s.0 q j.0) ∙ s.2 ∙ sym (place-same h))
        ]

    module _ (now : AreLaid has' w' low end) (laid : AreLaid has w low' end') where
      -- an object of the range that was compacted does not reach over its ends
      below : (s : ℕ) → has' s ≡ true → s < low' → end_at w' s ≤ low'
      below s g l = elim (cases_lt s low) [
        | inl a ↦ let k = outer s (inl a) g in let z = laid.below s k l in omega (arith, z, end-same (head s (inl a) k))
        | inr a ↦ elim (cases_lt s end) [
          | inr b ↦ let k = outer s (inr b) g in let z = laid.below s k l in omega (arith, z, end-same (head s (inr b) k))
          | inl b ↦
              let r = (now.last s (g, a, b)).0 in
              let w0 = laid.whole.0 in
              elim apart [ inl x ↦ omega (arith, r, x) | inr x ↦ absurd (omega (arith, a, l, x, w0)) ]
        ]
      ]

      above : (s : ℕ) → has' s ≡ true → end' ≤ s → end' ≤ place_at w' s
      above s g l = elim (cases_lt s low) [
        | inl a ↦ let k = outer s (inl a) g in let z = laid.above s k l in omega (arith, z, place-same (head s (inl a) k))
        | inr a ↦ elim (cases_lt s end) [
          | inr b ↦ let k = outer s (inr b) g in let z = laid.above s k l in omega (arith, z, place-same (head s (inr b) k))
          | inl b ↦
              let r = (now.first s (g, a, b)).0 in
              let w0 = laid.whole.0 in
              elim apart [ inl x ↦ absurd (omega (arith, b, l, x, w0)) | inr x ↦ omega (arith, r, x) ]
        ]
      ]

      pub laid-beside : AreLaid has' w' low' end'
      laid-beside = record {
        whole = laid.whole;
        stands = now.stands;
        first = λ s i. let o = out s i.1 i.2 in let g = outer s o i.0 in subst (Gap low') (sym (place-same (head s o g))) (laid.first s (g, i.1, i.2));
        apart = λ s t i j m.
            let o = out s i.1 i.2 in
            let g = outer s o i.0 in
            let n = out t j.1 j.2 in
            let k = outer t n j.0 in
            subst (λ x. Gap x (place_at w' t)) (sym (end-same (head s o g))) (subst (Gap (end_at w s)) (sym (place-same (head t n k))) (laid.apart s t (g, i.1, i.2) (k, j.1, j.2) m));
        last = λ s i. let o = out s i.1 i.2 in let g = outer s o i.0 in subst (λ x. Gap x end') (sym (end-same (head s o g))) (laid.last s (g, i.1, i.2));
        below = below;
        above = above;
      }
