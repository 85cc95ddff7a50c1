-- The internal objects, and how a place names a page before and after settling.
use Rattle.std.proofs.Common.{◌≡◌, ◌≢◌, ◌⊎◌, ℕ, true, false, cond, not, ◌&&◌, ◌||◌, ◌+◌, ◌*◌, ◌/◌, ◌%◌, ◌<◌, ◌≤◌, eqb, ltb, length, get_or, refl, sym, ap, ◌∙◌, arith, inl, inr, Some, None, Option}
use Rattle.std.proofs.lemmas.Bool.{false≢true, cases_eq, cases_Bool, eq-eqb, ne_eqb, lt-ltb, le-ltb, and_parts, and_cases, and_right, not-false, not-true, or_from, or_cases, eqb-true, cond-true, cond-false}
use Rattle.std.specs.Option.{unwrap_or}
use Rattle.spur_graph.specs.Cells.{Store, is_start, is_there, first, any_below}
use Rattle.spur_graph.specs.Ordinary.{roots_slots, page_places, body_at, root_slot, tells, is_nil_slot, is_first, is_page_body, is_page, is_internal, is_ordinary}
use Rattle.spur_graph.specs.Heaps.{heap_to}
use Rattle.heap_cells.specs.Settled.{settled_root, word_of, IsLoadable, IsNamed}
use Rattle.heap_cells.proofs.Fronts.{from-in}
use Rattle.heap_cells.proofs.Below.{any_below-none, any_below-has, any_below-found, at-named, passed}
use Rattle.heap_cells.proofs.CellKinds.{there_starts}
use Rattle.heap_cells.proofs.Both.{Both, words-roots, words-settled, first-five}

pub heap-named : (s : ℕ) → heap_to (word_of s) ≡ Some s
heap-named s =
    let a : (8 * s) % 8 ≡ 0 = omega arith in
    let q : 8 * s / 8 ≡ s = omega arith in
    ap (λ b. cond b (Some (8 * s / 8)) None) (eq-eqb (8 * s % 8) 0 a) ∙ ap (λ t. Some t) q

-- what a page is
pub record IsPageAt (h : Store) (i s : ℕ) : Type 0 where
  pub named : h.to (root_slot h i) ≡ Some s
  pub there : is_there (h.cell s) ≡ true
  pub body : is_page_body (body_at h s) ≡ true
  pub later : is_first h s ≡ false

pub a_page : (h : Store) (i : ℕ) → is_page h i ≡ true → (s : ℕ) × IsPageAt h i s
unfolding is_page
a_page h i e =
    let p = passed (λ s. is_there (h.cell s) && is_page_body (body_at h s) && not (is_first h s) && not (any_below (λ j. tells h j s) i)) (h.to (root_slot h i)) e in
    let s : ℕ = p.one in
    let parts = and_parts (is_there (h.cell s) && is_page_body (body_at h s) && not (is_first h s)) (not (any_below (λ j. tells h j s) i)) p.holds in
    let more = and_parts (is_there (h.cell s) && is_page_body (body_at h s)) (not (is_first h s)) parts.0 in
    let front = and_parts (is_there (h.cell s)) (is_page_body (body_at h s)) more.0 in
    (s, record { named = p.is; there = front.0; body = front.1; later = not-true (is_first h s) more.1 })

-- what is none of the first five is not this one of them
pub not_first : (h : Store) (s j : ℕ) → j < 5 → is_first h s ≡ false → s ≢ first h j
not_first h s j l off e = false≢true (sym off ∙ any_below-has (λ i. eqb (first h i) s) 5 j l (eq-eqb (first h j) s (sym e)))

-- a place names nil or a page
pub place_cases : {h : Store} → IsLoadable h → (i : ℕ) → i < page_places → (is_nil_slot h i ≡ true) ⊎ (is_page h i ≡ true)
place_cases {h} loadable i l = elim (and_cases (not (is_nil_slot h i)) (not (is_page h i)) (loadable.pages i l)) [
  | inl e ↦ inl (not-false _ e)
  | inr e ↦ inr (not-false _ e)
]

-- a place names a start
pub place_named : {h : Store} → IsLoadable h → (i : ℕ) → i < page_places → (s : ℕ) × (h.to (root_slot h i) ≡ Some s)
place_named {h} loadable i l = elim (place_cases loadable i l) [
  | inl e ↦ (first h 0, at-named (first h 0) (h.to (root_slot h i)) e)
  | inr e ↦ ((a_page h i e).0, (a_page h i e).1.named)
]

-- what a place names is an object
pub place_there : {h : Store} → IsLoadable h → (i s : ℕ) → i < page_places → h.to (root_slot h i) ≡ Some s → is_there (h.cell s) ≡ true
place_there {h} loadable i s l e = elim (place_cases loadable i l) [
  | inl nil ↦ let n = at-named (first h 0) (h.to (root_slot h i)) nil in let is : first h 0 ≡ s = cc in ap (λ t. is_there (h.cell t)) (sym is) ∙ loadable.objects 0 (omega arith)
  | inr page ↦ let g = a_page h i page in let n = g.1.named in let is : g.0 ≡ s = cc in ap (λ t. is_there (h.cell t)) (sym is) ∙ g.1.there
]

-- an internal object is an object
pub internal_there : (h : Store) → IsLoadable h → (s : ℕ) → is_internal h s ≡ true → is_there (h.cell s) ≡ true
unfolding is_internal
internal_there h loadable s on = elim (or_cases (eqb s (first h 3) || eqb s (first h 4)) (not (eqb s (first h 0)) && any_below (λ i. tells h i s) page_places) on) [
  | inl front ↦ elim (or_cases (eqb s (first h 3)) (eqb s (first h 4)) front) [
    | inl e ↦ ap (λ t. is_there (h.cell t)) (eqb-true s (first h 3) e) ∙ loadable.objects 3 (omega arith)
    | inr e ↦ ap (λ t. is_there (h.cell t)) (eqb-true s (first h 4) e) ∙ loadable.objects 4 (omega arith)
  ]
  | inr told ↦
      let r = any_below-found (λ i. tells h i s) page_places (and_parts (not (eqb s (first h 0))) (any_below (λ i. tells h i s) page_places) told).1 in
      place_there loadable r.0 s r.1 (at-named s (h.to (root_slot h r.0)) r.2)
]

-- and so something starts there
pub internal-starts : (h : Store) → IsLoadable h → (s : ℕ) → is_internal h s ≡ true → is_start (h.cell s) ≡ true
internal-starts h k s e = there_starts (h.cell s) (internal_there h k s e)

module _ {h : Store} (named : IsNamed h) (loadable : IsLoadable h) where
  apart : (i j : ℕ) → i < j → j < 5 → first h i ≢ first h j
  apart i j l m e = let five : 5 ≤ length h.starts = loadable.five in let a : first h i < first h j = named.rising i j l (omega arith) in omega arith

  -- the first three chunks are ordinary
  pub outer : (j : ℕ) → j < 3 → is_internal h (first h j) ≡ false
  unfolding is_internal
  outer j l =
      or_from _ _ (or_from _ _ (ne_eqb _ _ (apart j 3 (omega arith) (omega arith))) (ne_eqb _ _ (apart j 4 (omega arith) (omega arith))))
      (elim (cases_eq j 0) [
        | inl zeroth ↦ ap (λ b. not b && any_below (λ i. tells h i (first h j)) page_places) (eq-eqb (first h j) (first h 0) (ap (first h) zeroth))
        | inr later ↦ and_right _ _ (any_below-none (λ i. tells h i (first h j)) page_places (λ i m. untold i m (omega arith)))
      ])
    where
      untold : (i : ℕ) → i < page_places → 0 < j → tells h i (first h j) ≡ false
      untold i m p = elim (cases_Bool (tells h i (first h j))) [
        | inr off ↦ off
        | inl on ↦
            let is = at-named (first h j) (h.to (root_slot h i)) on in
            elim (place_cases loadable i m) [
              | inl nil ↦ let other = at-named (first h 0) (h.to (root_slot h i)) nil in let same : first h 0 ≡ first h j = cc in absurd (apart 0 j p (omega arith) same)
              | inr page ↦ let q = a_page h i page in let other = q.1.named in let same : q.0 ≡ first h j = cc in absurd (not_first h q.0 j (omega arith) q.1.later same)
            ]
      ]

  pub nil_ordinary : is_ordinary h (first h 0) ≡ true
  nil_ordinary = λ i. loadable.objects 0 (omega arith) i && not (outer 0 (omega arith) i)

module _ {old new : Store} (k : Both old new) where
  pub to-heap : (w : ℕ) → new.to w ≡ heap_to w
  to-heap w = ap (λ (f : ℕ → Option ℕ). f w) k.settled.to

  root-at : (i : ℕ) → i < roots_slots → root_slot new i ≡ settled_root old i (root_slot old i)
  root-at i l =
      let far : i < length (body_at old (first old 4)).words = omega (arith, l, k.loadable.roots.1) in
      ap (λ s. get_or (body_at new s).words i 0) (first-five k 4 (omega arith))
      ∙ ap (λ ws. get_or ws i 0) (words-settled k (first old 4) (k.loadable.objects 4 (omega arith)) ∙ words-roots old (first old 4) (body_at old (first old 4)) refl)
      ∙ from-in (settled_root old) 0 i (body_at old (first old 4)).words far
      ∙ ap (λ j. settled_root old j (root_slot old i)) (let e : 0 + i ≡ i = omega arith in e)

  root-settled : (i : ℕ) → i < page_places → root_slot new i ≡ word_of (unwrap_or (old.to (root_slot old i)) (first old 0))
  root-settled i l = root-at i (omega arith) ∙ cond-true (ltb i page_places) _ _ (lt-ltb i page_places l)

  pub root-top : (i : ℕ) → page_places ≤ i → i < roots_slots → root_slot new i ≡ 8 * first new 0
  root-top i m l = root-at i l ∙ cond-false (ltb i page_places) _ _ (le-ltb i page_places m) ∙ ap (λ s. 8 * s) (sym (first-five k 0 (omega arith)))

  pub root-named : (i : ℕ) → i < page_places → new.to (root_slot new i) ≡ old.to (root_slot old i)
  root-named i l =
      let p = place_named k.loadable i l in
      to-heap (root_slot new i) ∙ ap heap_to (root-settled i l) ∙ ap (λ o. heap_to (word_of (unwrap_or o (first old 0)))) p.1 ∙ heap-named p.0 ∙ sym p.1
