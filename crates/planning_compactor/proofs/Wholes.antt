-- Filling gaps leaves objects as they are.
use Rattle.std.proofs.Common.{◌⊎◌, ◌≡◌, ℕ, Bool, true, ◌+◌, ◌-◌, ◌<◌, ◌≤◌, List, get_or, sym, ap, ◌∙◌, subst, inl, inr, arith}
use Rattle.std.proofs.lemmas.Bool.{cases_lt}
use Rattle.object_header.specs.Chunks.{leads, slots_at}
use Rattle.heap_walk.specs.Shapes.{lead_at, place_at, end_at}
use Rattle.heap_laws.specs.Compaction.{pointers_at, IsMovedBy, MovedBy}
use Rattle.planning_compactor.specs.Objects.{AreObjects}
use Rattle.planning_compactor.specs.Compacted.{AreCompacted}
use Rattle.planning_compactor.specs.Spans.{Gap}
use Rattle.compaction_laws.specs.Compacting.{is_pinned}
use Rattle.planning_compactor.specs.Filled.{IsFilled, AreTwice, IsPacked, IsMobile}
use Rattle.planning_compactor.specs.Planning.{AreLaid}
use Rattle.planning_compactor.specs.declared.parts.Part.{Part}
use Rattle.planning_compactor.specs.declared.parts.Parts.{Parts}
use Rattle.planning_compactor.proofs.Shapes.{SameHead, head-moved, lead-one, lead-low, slots_at-moved, pinned-same, stands-same, place-same, end-same}
use Rattle.planning_compactor.proofs.Told.{pointers-told}

-- overflow words come along
pub twice-moved : (p : ℕ → ℕ) (has has' : ℕ → Bool) (w w' : List ℕ) → MovedBy p has has' w w' → AreTwice has w → AreTwice has' w'
twice-moved p has has' w w' m t s g on =
    let b = m.back s g in
    let v : IsMovedBy p w w' b.0 s = subst (IsMovedBy p w w' b.0) b.2 (m.objects b.0 b.1) in
    let on' : leads (get_or w b.0 0) ≡ true = ap leads (sym v.header) ∙ on in
    ap leads (v.lead on') ∙ t b.0 b.1 on'

module _ {has : ℕ → Bool} {w w' : List ℕ} {low end : ℕ} (o : AreObjects has w) (laid : AreLaid has w low end) (f : IsFilled has w w' low end end) where
  -- the words of an object are as before
  live : (s j : ℕ) → has s ≡ true → place_at w s ≤ j → j < end_at w s → get_or w' j 0 ≡ get_or w j 0
  live s j g a b = elim (cases_lt s low) [
    | inl x ↦ let z = laid.below s g x in f.outside j (inl (omega (arith, z, b)))
    | inr x ↦ elim (cases_lt s end) [
      | inl y ↦ f.live s j (g, x, y) a b
      | inr y ↦ let z = laid.above s g y in f.outside j (inr (omega (arith, z, a)))
    ]
  ]

  module _ (s : ℕ) (g : has s ≡ true) where
    lead' : lead_at w s ≤ s
    lead' = lead-low w s (laid.stands s g)

    header : get_or w' s 0 ≡ get_or w s 0
    header = live s s g (omega arith) (omega (arith, lead'))

    before : leads (get_or w s 0) ≡ true → get_or w' (s - 1) 0 ≡ get_or w (s - 1) 0
    before on = let e = lead-one w s on in live s (s - 1) g (omega (arith, e)) (omega (arith, e, lead'))

    slots : slots_at w' s ≡ slots_at w s
    slots = slots_at-moved w w' s s header before

    slot : (i : ℕ) → i < slots_at w s → get_or w' (s + 1 + i) 0 ≡ get_or w (s + 1 + i) 0
    slot i l = live s (s + 1 + i) g (omega arith) (omega (arith, lead', l))

    head : SameHead w w' s s
    head = record { header = header; slots = slots }

    count : pointers_at w' s ≡ pointers_at w s
    count = pointers-told w w' s s header slots (λ on. let k = (o.methods s g on).0 in (let e : s + 1 + 0 ≡ s + 1 = omega arith in ap (λ x. get_or w' x 0) (sym e) ∙ slot 0 k ∙ ap (λ x. get_or w x 0) e))

  pub filled-moved : {p : ℕ → ℕ} {has0 : ℕ → Bool} {w0 : List ℕ} → MovedBy p has0 has w0 w → MovedBy p has0 has w0 w'
  filled-moved {p} m = record {
    same_words = f.same_words ∙ m.same_words;
    there = m.there;
    back = m.back;
    once = m.once;
    objects = λ t g.
        let v = m.objects t g in
        let k = m.there t g in
        let fits = o.fits (p t) k in
        record {
          header = header (p t) k ∙ v.header;
          lead = λ on. before (p t) k (ap leads v.header ∙ on) ∙ v.lead on;
          slots = slots (p t) k ∙ v.slots;
          count = count (p t) k ∙ v.count;
          pointers = λ i l. slot (p t) k i (omega (arith, l, v.count, fits)) ∙ v.pointers i l;
          others = λ i a b. slot (p t) k i (omega (arith, b, v.slots)) ∙ v.others i a b;
        };
  }

  pub filled-twice : AreTwice has w → AreTwice has w'
  filled-twice t s g on =
      let was : leads (get_or w s 0) ≡ true = ap leads (sym (header s g)) ∙ on in
      ap leads (before s g was) ∙ t s g was

  module _ (low' end' : ℕ) where
    -- a range, perhaps another one
    pub filled-laid : AreLaid has w low' end' → AreLaid has w' low' end'
    filled-laid l = record {
      whole = l.whole;
      stands = λ s g. stands-same (head s g) (l.stands s g) (lead' s g) (omega arith) f.same_words;
      first = λ s i. subst (Gap low') (sym (place-same (head s i.0))) (l.first s i);
      apart = λ s t i j m. subst (λ x. Gap x (place_at w' t)) (sym (end-same (head s i.0))) (subst (Gap (end_at w s)) (sym (place-same (head t j.0))) (l.apart s t i j m));
      last = λ s i. subst (λ x. Gap x end') (sym (end-same (head s i.0))) (l.last s i);
      below = λ s g m. let z = l.below s g m in omega (arith, z, end-same (head s g));
      above = λ s g m. let z = l.above s g m in omega (arith, z, place-same (head s g));
    }

    pub filled-packed : IsPacked has w low' end' → IsPacked has w' low' end'
    filled-packed k t i off = elim (k t i (sym (pinned-same (head t i.0)) ∙ off)) [
      | inl e ↦ inl (place-same (head t i.0) ∙ e)
      | inr s ↦ inr (s.0, s.1, end-same (head s.0 s.1.0) ∙ s.2 ∙ sym (place-same (head t i.0)))
    ]

-- in eden and past space no object is pinned that was not
module _ {p : ℕ → ℕ} {has has' : ℕ → Bool} {w w' : List ℕ} {parts : Parts} (c : AreCompacted p has has' w w' parts) (o12 : parts.old_space.end ≤ parts.eden.low) (o23 : parts.eden.end ≤ parts.past_space.low)
    (wide : parts.eden.low ≤ parts.eden.end)
  where
    -- who stands in a range has stood there
    back : (x : Part) → ((t : ℕ) → (x.low ≤ t → t < x.end → ⊥) → (x.low ≤ p t) × (p t < x.end) → ⊥) → IsMobile has w x.low x.end → IsMobile has' w' x.low x.end
    back x outer k s i =
        let b = c.moved.back s i.0 in
        let e = b.2 in
        let j = i.1 in
        let l = i.2 in
        let to : (x.low ≤ p b.0) × (p b.0 < x.end) = (omega (arith, e, j), omega (arith, e, l)) in
        let inside : (x.low ≤ b.0) × (b.0 < x.end) = elim (cases_lt b.0 x.low) [
          | inl y ↦ absurd (outer b.0 (λ m n. omega (arith, m, y)) to)
          | inr y ↦ elim (cases_lt b.0 x.end) [ inl z ↦ (y, z) | inr z ↦ absurd (outer b.0 (λ m n. omega (arith, n, z)) to) ]
        ] in
        ap (is_pinned w') (sym b.2) ∙ pinned-same (head-moved (c.moved.objects b.0 b.1)) ∙ k b.0 (b.1, inside.0, inside.1)

    -- a place is in a range or not
    side : (x : Part) (t : ℕ) → ((x.low ≤ t) × (t < x.end)) ⊎ ((t < x.low) ⊎ (x.end ≤ t))
    side x t = elim (cases_lt t x.low) [ inl a ↦ inr (inl a) | inr a ↦ elim (cases_lt t x.end) [ inl b ↦ inl (a, b) | inr b ↦ inr (inr b) ] ]

    pub eden-mobile : IsMobile has w parts.eden.low parts.eden.end → IsMobile has' w' parts.eden.low parts.eden.end
    eden-mobile = back parts.eden (λ t out to. elim (side parts.old_space t) [
      | inl a ↦ (let r = (c.in_old_space t a.0 a.1).1 in let z = to.0 in omega (arith, r, z, o12))
      | inr a ↦ elim (side parts.eden t) [
        | inl b ↦ out b.0 b.1
        | inr b ↦ elim (side parts.past_space t) [
          | inl d ↦ (let r = (c.in_past_space t d.0 d.1).0 in let z = to.1 in omega (arith, r, z, o23))
          | inr d ↦ (let same = c.outside t (a, b, d) in let z0 = to.0 in let z1 = to.1 in out (omega (arith, same, z0)) (omega (arith, same, z1)))
        ]
      ]
    ])

    pub past-mobile : IsMobile has w parts.past_space.low parts.past_space.end → IsMobile has' w' parts.past_space.low parts.past_space.end
    past-mobile = back parts.past_space (λ t out to. elim (side parts.old_space t) [
      | inl a ↦ (let r = (c.in_old_space t a.0 a.1).1 in let z = to.0 in omega (arith, r, z, o12, o23, wide))
      | inr a ↦ elim (side parts.eden t) [
        | inl b ↦ (let r = (c.in_eden t b.0 b.1).1 in let z = to.0 in omega (arith, r, z, o23))
        | inr b ↦ elim (side parts.past_space t) [
          | inl d ↦ out d.0 d.1
          | inr d ↦ (let same = c.outside t (a, b, d) in let z0 = to.0 in let z1 = to.1 in out (omega (arith, same, z0)) (omega (arith, same, z1)))
        ]
      ]
    ])

pub filled-compacted : {p : ℕ → ℕ} {has0 has : ℕ → Bool} {w0 w w' : List ℕ} {parts : Parts} → AreObjects has w → AreLaid has w parts.old_space.low parts.old_space.end
    → IsFilled has w w' parts.old_space.low parts.old_space.end parts.old_space.end → AreCompacted p has0 has w0 w parts → AreCompacted p has0 has w0 w' parts
filled-compacted o laid f c = record {
  moved = filled-moved o laid f c.moved;
  old_space = c.old_space;
  eden = c.eden;
  past_space = c.past_space;
  in_old_space = c.in_old_space;
  in_eden = c.in_eden;
  in_past_space = c.in_past_space;
  pinned = c.pinned;
  outside = c.outside;
  loose = λ j x y. f.outside j x.0 ∙ c.loose j x y;
}
