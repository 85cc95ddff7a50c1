-- After a pass objects lie apart again, and their references name starts.
use Rattle.std.proofs.Common.{◌≡◌, ℕ, Bool, true, ◌+◌, ◌*◌, ◌/◌, ◌%◌, ◌<◌, ◌≤◌, List, length, get_or, refl, sym, ap, ◌∙◌, subst, inl, inr, arith}
use Rattle.std.proofs.lemmas.Bool.{cases_eq, cases_lt, ne_eqb, eq-eqb}
use Rattle.object_header.specs.Head.{format_of}
use Rattle.object_header.specs.Formats.{is_method}
use Rattle.object_header.specs.Chunks.{StandsAt}
use Rattle.heap_walk.specs.declared.saved.Saved.{Saved}
use Rattle.heap_walk.specs.Shapes.{place_at, end_at}
use Rattle.heap_laws.specs.Compaction.{pointers_at, IsMovedBy}
use Rattle.heap_laws.specs.Instances.{readdressed_by}
use Rattle.planning_compactor.specs.Spans.{Gap}
use Rattle.planning_compactor.specs.Entries.{start_of}
use Rattle.planning_compactor.specs.Slid.{target_of, to_at, from_at, long_at}
use Rattle.planning_compactor.specs.Planning.{IsIn, IsAbsent, AreLaid}
use Rattle.planning_compactor.specs.Objects.{goes_to, AreObjects}
use Rattle.spur_heap.specs.Tables.{start_in}
use Rattle.planning_compactor.specs.Roots.{Roots, AreRoots, RootsMovedBy}
use Rattle.planning_compactor.proofs.Spacing.{gap-then, gap-both}
use Rattle.planning_compactor.proofs.Shapes.{head-moved, stands-same, ends-before, ends-at}
use Rattle.planning_compactor.proofs.Told.{field-kept}
use Rattle.planning_compactor.proofs.Origins.{HasPassed, there, low', down, origin, gone, stay, came, place-gone, end-gone, place-stay, end-stay, gone-end, far, clear-gone, clear-stay, both-gone}

module _ {has has' : ℕ → Bool} {w w' : List ℕ} {low end : ℕ} {es : List Saved} {next : ℕ} (k : HasPassed has has' w w' low end es next) where
  stands-after : (s : ℕ) → has' s ≡ true → StandsAt w' s
  stands-after s g = elim (origin k s g) [
    | inl j ↦ subst (StandsAt w') j.2 (stands-same (head-moved (gone k j.0 j.1)) (k.laid.stands (start_of es j.0) (there k j.0 j.1)) (k.moves.room j.0 j.1) (down k j.0 j.1) k.moved.same_words)
    | inr a ↦ stands-same (head-moved (stay k s a.0 a.1)) (k.laid.stands s a.0) (low' k s a.0) (omega arith) k.moved.same_words
  ]

  first-after : (s : ℕ) → IsIn has' low end s → Gap low (place_at w' s)
  first-after s i = elim (origin k s i.0) [
    | inl j ↦ subst (λ x. Gap low (place_at w' x)) j.2 (subst (Gap low) (sym (place-gone k j.0 j.1)) (k.moves.floor j.0 j.1))
    | inr a ↦ subst (Gap low) (sym (place-stay k s a.0 a.1)) (k.laid.first s (a.0, i.1, i.2))
  ]

  apart-after : (s t : ℕ) → IsIn has' low end s → IsIn has' low end t → s < t → Gap (end_at w' s) (place_at w' t)
  apart-after s t i j less = elim (origin k s i.0) [
    | inl a ↦ elim (origin k t j.0) [
      | inl b ↦
          let g = both-gone k a.0 b.0 a.1 b.1 (let p = a.2 in let q = b.2 in omega (arith, p, q, less)) in
          subst (λ x. Gap (end_at w' x) (place_at w' t)) a.2 (subst (λ x. Gap (end_at w' (target_of es a.0)) (place_at w' x)) b.2
          (subst (λ x. Gap x (place_at w' (target_of es b.0))) (sym (end-gone k a.0 a.1)) (subst (Gap (to_at es w a.0 + long_at es w a.0)) (sym (place-gone k b.0 b.1)) g)))
      | inr b ↦
          let g = clear-gone k a.0 t a.1 (b.0, j.1, j.2) b.1 (let p = a.2 in omega (arith, p, less)) in
          subst (λ x. Gap (end_at w' x) (place_at w' t)) a.2 (subst (λ x. Gap x (place_at w' t)) (sym (end-gone k a.0 a.1)) (subst (Gap (to_at es w a.0 + long_at es w a.0)) (sym (place-stay k t b.0 b.1)) g))
    ]
    | inr a ↦ elim (origin k t j.0) [
      | inl b ↦
          let g = clear-stay k b.0 s b.1 (a.0, i.1, i.2) a.1 (let q = b.2 in omega (arith, q, less)) in
          subst (λ x. Gap (end_at w' s) (place_at w' x)) b.2 (subst (λ x. Gap x (place_at w' (target_of es b.0))) (sym (end-stay k s a.0 a.1)) (subst (Gap (end_at w s)) (sym (place-gone k b.0 b.1)) g))
      | inr b ↦ subst (λ x. Gap x (place_at w' t)) (sym (end-stay k s a.0 a.1)) (subst (Gap (end_at w s)) (sym (place-stay k t b.0 b.1)) (k.laid.apart s t (a.0, i.1, i.2) (b.0, j.1, j.2) less))
    ]
  ]

  last-after : (s : ℕ) → IsIn has' low end s → Gap (end_at w' s) end
  last-after s i = elim (origin k s i.0) [
    | inl j ↦
        let d = k.moves.down j.0 j.1 in
        let e = k.laid.last (start_of es j.0) (k.moves.starts j.0 j.1) in
        subst (λ x. Gap (end_at w' x) end) j.2 (subst (λ x. Gap x end) (sym (end-gone k j.0 j.1))
        (gap-then (to_at es w j.0 + long_at es w j.0) (from_at es w j.0 + long_at es w j.0) end (gap-both (to_at es w j.0) (from_at es w j.0) (long_at es w j.0) d) e))
    | inr a ↦ subst (λ x. Gap x end) (sym (end-stay k s a.0 a.1)) (k.laid.last s (a.0, i.1, i.2))
  ]

  pub laid-after : AreLaid has' w' low end
  laid-after = record {
    whole = k.laid.whole;
    stands = stands-after;
    first = first-after;
    apart = apart-after;
    last = last-after;
    below = λ s g l. let p = far k s g (inl l) in let z = k.laid.below s p.0 l in omega (arith, z, end-stay k s p.0 p.1);
    above = λ s g l. let p = far k s g (inr l) in let z = k.laid.above s p.0 l in omega (arith, z, place-stay k s p.0 p.1);
  }

  -- two objects, one of which may stand outside of the range
  both-stay : (s t : ℕ) → (has s ≡ true) × IsAbsent es (length es) s → (has t ≡ true) × IsAbsent es (length es) t → s < t → end_at w' s ≤ place_at w' t
  both-stay s t p q less = let z = ends-at w s t (low' k s p.0) (k.objects.live.apart s t p.0 q.0 less) in omega (arith, z, end-stay k s p.0 p.1, place-stay k t q.0 q.1)

  from-below : (s t : ℕ) → has' s ≡ true → has' t ≡ true → s < t → s < low → end_at w' s ≤ place_at w' t
  from-below s t g h less a =
      let p = far k s g (inl a) in
      elim (origin k t h) [
        | inr q ↦ both-stay s t p q less
        | inl q ↦
            let z = k.laid.below s p.0 a in
            let f = (k.moves.floor q.0 q.1).0 in
            let e : place_at w' t ≡ to_at es w q.0 = ap (place_at w') (sym q.2) ∙ place-gone k q.0 q.1 in
            omega (arith, z, f, e, end-stay k s p.0 p.1)
      ]

  to-above : (s t : ℕ) → has' s ≡ true → has' t ≡ true → s < t → end ≤ t → end_at w' s ≤ place_at w' t
  to-above s t g h less b =
      let q = far k t h (inr b) in
      elim (origin k s g) [
        | inr p ↦ both-stay s t p q less
        | inl p ↦
            let z = k.laid.above t q.0 b in
            let f = gone-end k p.0 p.1 in
            let e : end_at w' s ≡ to_at es w p.0 + long_at es w p.0 = ap (end_at w') (sym p.2) ∙ end-gone k p.0 p.1 in
            omega (arith, z, f, e, place-stay k t q.0 q.1)
      ]

  ends-after : (s t : ℕ) → has' s ≡ true → has' t ≡ true → s < t → end_at w' s ≤ place_at w' t
  ends-after s t g h less = elim (cases_lt s low) [
    | inl a ↦ from-below s t g h less a
    | inr a ↦ elim (cases_lt t end) [
      | inl b ↦ (apart-after s t (g, a, omega (arith, less, b)) (h, omega (arith, a, less), b) less).0
      | inr b ↦ to-above s t g h less b
    ]
  ]

  -- a reference that named a start names one again
  named-after : (word : ℕ) → (word % 8 ≡ 0 → has (word / 8) ≡ true) → readdressed_by (goes_to es) word % 8 ≡ 0 → has' (readdressed_by (goes_to es) word / 8) ≡ true
  named-after word ref e = elim (cases_eq (word % 8) 0) [
    | inr n ↦ absurd (let same : readdressed_by (goes_to es) word ≡ word = rw (ne_eqb (word % 8) 0 n) refl in n (ap (λ x. x % 8) (sym same) ∙ e))
    | inl z ↦
        let is : readdressed_by (goes_to es) word ≡ 8 * goes_to es (word / 8) = rw (eq-eqb (word % 8) 0 z) refl in
        let q : 8 * goes_to es (word / 8) / 8 ≡ goes_to es (word / 8) = omega arith in
        ap (λ x. has' (x / 8)) is ∙ ap has' q ∙ k.moved.there (word / 8) (ref z)
  ]

  field-after : (s t : ℕ) → has t ≡ true → IsMovedBy (goes_to es) w w' t s → is_method (format_of (get_or w t 0)) ≡ true → get_or w' (s + 1) 0 ≡ get_or w (t + 1) 0
  field-after s t g v on = field-kept (goes_to es) w w' t s (k.objects.methods t g on) v.pointers v.others

  pub objects-after : AreObjects has' w'
  objects-after = record {
    live = record { stands = stands-after; apart = λ s t g h less. ends-before w' s t (stands-after s g) (stands-after t h) (ends-after s t g h less) };
    fits = λ s g. let v = came k s g in let f = k.objects.fits v.0 v.1 in let c = v.2.count in let d = v.2.slots in omega (arith, f, c, d);
    refs = λ s i g l e.
        let v = came k s g in
        let c = v.2.count in
        let i' : i < pointers_at w v.0 = omega (arith, l, c) in
        let is = v.2.pointers i i' in
        ap (λ x. has' (x / 8)) is ∙ named-after (get_or w (v.0 + 1 + i) 0) (k.objects.refs v.0 i v.1 i') (ap (λ x. x % 8) (sym is) ∙ e);
    methods = λ s g on.
        let v = came k s g in
        let on' : is_method (format_of (get_or w v.0 0)) ≡ true = ap (λ x. is_method (format_of x)) (sym v.2.header) ∙ on in
        let f = k.objects.methods v.0 v.1 on' in
        let f0 = f.0 in
        let d = v.2.slots in
        (omega (arith, f0, d), λ e. f.1 (ap (λ x. x % 8) (sym (field-after s v.0 v.1 v.2 on')) ∙ e));
  }

  pub roots-after : {r r' : Roots} → AreRoots has r → RootsMovedBy (goes_to es) r r' → AreRoots has' r'
  roots-after {r} {r'} a m = record {
    handles = λ i l e.
        let j : i < length r.handles = omega (arith, l, m.same_handles) in
        let is = m.handles i j in
        ap (λ x. has' (x / 8)) is ∙ named-after (get_or r.handles i 0) (a.handles i j) (ap (λ x. x % 8) (sym is) ∙ e);
    special = λ e. ap (λ x. has' (x / 8)) m.special ∙ named-after r.special a.special (ap (λ x. x % 8) (sym m.special) ∙ e);
    mourners = λ i l.
        let j : i < length r.mourners = omega (arith, l, m.same_mourners) in
        ap has' (m.starts i j) ∙ k.moved.there (start_in (get_or r.mourners i 0)) (a.mourners i j);
  }
