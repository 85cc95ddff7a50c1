-- The chunks of a range as a list.
use Rattle.std.proofs.Common.{cond, subst, ◌≡◌, ℕ, suc, zero, Bool, true, false, ◌+◌, ◌-◌, ◌<◌, ◌≤◌, List, [], ◌∷◌, refl, sym, ap, ◌∙◌, inl, inr, arith}
use Rattle.std.proofs.lemmas.Bool.{cases_Bool, cases_eq, cases_lt, lt-ltb, le-ltb}
use Rattle.spur_graph.specs.FreeSizes.{fits}
use Rattle.planning_compactor.specs.Spans.{stop}
use Rattle.heap_walk.specs.Shapes.{place_at, end_at}
use Rattle.planning_compactor.specs.Pins.{is_pin}
use Rattle.spur_graph.specs.Planned.{Marked}
use Rattle.heap_cells.proofs.Members.{In}
use Rattle.planning_compactor.specs.Planning.{IsIn, mark_at, marks_from, marks, pins}

from-skip : (n : ℕ) (g : ℕ → Bool) (words : List ℕ) (at q : ℕ) → at ≤ q → q ≤ at + n → ((k : ℕ) → at ≤ k → k < q → g k ≡ false) → marks_from n g words at ≡ marks_from (n - (q - at)) g words q
unfolding marks_from
from-skip zero g words at q a b none = let e : at ≡ q = omega arith in let z : 0 - (q - at) ≡ 0 = omega arith in rw z refl
from-skip (suc n) g words at q a b none = elim (cases_eq at q) [
  | inl e ↦ let z : suc n - (q - at) ≡ suc n = omega (arith, e) in ap (marks_from (suc n) g words) e ∙ ap (λ m. marks_from m g words q) (sym z)
  | inr d ↦
      let z : suc n - (q - at) ≡ n - (q - (at + 1)) = omega (arith, d) in
      rw (none at (omega arith) (omega (arith, d))) (from-skip n g words (at + 1) q (omega (arith, d)) (omega arith) (λ k l m. none k (omega (arith, l)) m) ∙ ap (λ m. marks_from m g words q) (sym z))
]

pub marks-skip : (g : ℕ → Bool) (words : List ℕ) (at q end : ℕ) → at ≤ q → q ≤ end → ((k : ℕ) → at ≤ k → k < q → g k ≡ false) → marks g words at end ≡ marks g words q end
marks-skip g words at q end a b none = let z : end - at - (q - at) ≡ end - q = omega arith in from-skip (end - at) g words at q a (omega arith) none ∙ ap (λ m. marks_from m g words q) z

pub marks-end : (g : ℕ → Bool) (words : List ℕ) (at end : ℕ) → end ≤ at → marks g words at end ≡ []
unfolding marks_from
marks-end g words at end l = let z : end - at ≡ 0 = omega arith in ap (λ m. marks_from m g words at) z

pub marks-none : (g : ℕ → Bool) (words : List ℕ) (at end : ℕ) → ((k : ℕ) → at ≤ k → k < end → g k ≡ false) → marks g words at end ≡ []
marks-none g words at end none = elim (cases_lt at end) [
  | inl l ↦ marks-skip g words at end end (omega arith) (omega arith) none ∙ marks-end g words end end (omega arith)
  | inr l ↦ marks-end g words at end l
]

pub marks-here : (g : ℕ → Bool) (words : List ℕ) (q end : ℕ) → q < end → g q ≡ true → marks g words q end ≡ mark_at words q ∷ marks g words (q + 1) end
unfolding marks_from
marks-here g words q end l on = let z : end - q ≡ suc (end - (q + 1)) = omega arith in ap (λ m. marks_from m g words q) z ∙ rw on refl

module _ (has : ℕ → Bool) (words : List ℕ) (pin end f p n q : ℕ) (a : pin ≤ q) (b : q < end) (on : is_pin has words q ≡ true) (none : (k : ℕ) → pin ≤ k → k < q → is_pin has words k ≡ false) where
  to-here : pins has words pin end ≡ mark_at words q ∷ pins has words (q + 1) end
  to-here = marks-skip (is_pin has words) words pin q end a (omega arith) none ∙ marks-here (is_pin has words) words q end b on

  pub stop-far : p ≤ place_at words q → stop (pins has words pin end) f p n ≡ record { at = f; ahead = pins has words q end }
  unfolding stop
  stop-far l =
      ap (λ qs. stop qs f p n) to-here ∙ rw (le-ltb (place_at words q) p l) (ap (λ qs. record { at = f; ahead = qs }) (sym (marks-here (is_pin has words) words q end b on)))

  pub stop-fits : place_at words q < p → fits n (place_at words q - f) ≡ true → stop (pins has words pin end) f p n ≡ record { at = f; ahead = pins has words q end }
  unfolding stop
  stop-fits l ok =
      ap (λ qs. stop qs f p n) to-here ∙ rw (lt-ltb (place_at words q) p l, ok) (ap (λ qs. record { at = f; ahead = qs }) (sym (marks-here (is_pin has words) words q end b on)))

  pub stop-over : place_at words q < p → fits n (place_at words q - f) ≡ false → stop (pins has words pin end) f p n ≡ stop (pins has words (q + 1) end) (end_at words q) p n
  unfolding stop
  stop-over l bad = ap (λ qs. stop qs f p n) to-here ∙ rw (lt-ltb (place_at words q) p l, bad) refl

pub stop-all : (has : ℕ → Bool) (words : List ℕ) (pin end f p n : ℕ) → ((k : ℕ) → pin ≤ k → k < end → is_pin has words k ≡ false) → stop (pins has words pin end) f p n ≡ record { at = f; ahead = pins has words end end }
unfolding stop
stop-all has words pin end f p n none =
    ap (λ qs. stop qs f p n) (marks-none (is_pin has words) words pin end none) ∙ ap (λ qs. record { at = f; ahead = qs }) (sym (marks-end (is_pin has words) words end end (omega arith)))

-- the same chunks in other words
pub from-alike : (n : ℕ) (g g' : ℕ → Bool) (words words' : List ℕ) (at : ℕ) → ((s : ℕ) → at ≤ s → s < at + n → (g' s ≡ g s) × (g s ≡ true → mark_at words' s ≡ mark_at words s)) → marks_from n g' words' at ≡ marks_from n g words at
unfolding marks_from
from-alike zero g g' words words' at h = refl
from-alike (suc n) g g' words words' at h =
    let rest : marks_from n g' words' (at + 1) ≡ marks_from n g words (at + 1) = from-alike n g g' words words' (at + 1) (λ s a b. h s (omega arith) (omega arith)) in
    let k = h at (omega arith) (omega arith) in
    elim (cases_Bool (g at)) [
      | inl on ↦ rw (k.0, on) (ap (λ m. m ∷ marks_from n g' words' (at + 1)) (k.1 on) ∙ ap (λ ms. mark_at words at ∷ ms) rest)
      | inr off ↦ rw (k.0, off) rest
    ]

pub marks-alike : (g g' : ℕ → Bool) (words words' : List ℕ) (at end : ℕ) → ((s : ℕ) → at ≤ s → s < end → (g' s ≡ g s) × (g s ≡ true → mark_at words' s ≡ mark_at words s)) → marks g' words' at end ≡ marks g words at end
marks-alike g g' words words' at end h = from-alike (end - at) g g' words words' at (λ s a b. h s a (omega (arith, a, b)))

-- ---- which objects are listed

-- each that is listed starts in the range
pub from-listed : (n : ℕ) (g : ℕ → Bool) (words : List ℕ) (at : ℕ) (m : Marked) → In (marks_from n g words at) m → (s : ℕ) × IsIn g at (at + n) s × (m ≡ mark_at words s)
unfolding marks_from
from-listed zero g words at m k = absurd k
from-listed (suc n) g words at m k = elim (cases_Bool (g at)) [
  | inl on ↦ elim (subst (λ b. In (cond b (mark_at words at ∷ marks_from n g words (at + 1)) (marks_from n g words (at + 1))) m) on k) [
    | inl e ↦ (at, (on, omega arith, omega arith), sym e)
    | inr j ↦ let r = from-listed n g words (at + 1) m j in let i = r.1 in (r.0, (i.0, (let a = i.1 in omega (arith, a)), (let b = i.2 in omega (arith, b))), r.2)
  ]
  | inr off ↦
      let r = from-listed n g words (at + 1) m (subst (λ b. In (cond b (mark_at words at ∷ marks_from n g words (at + 1)) (marks_from n g words (at + 1))) m) off k) in
      let i = r.1 in
      (r.0, (i.0, (let a = i.1 in omega (arith, a)), (let b = i.2 in omega (arith, b))), r.2)
]

pub in-listed : (n : ℕ) (g : ℕ → Bool) (words : List ℕ) (at s : ℕ) → IsIn g at (at + n) s → In (marks_from n g words at) (mark_at words s)
unfolding marks_from
in-listed zero g words at s i = absurd (let a = i.1 in let b = i.2 in omega (arith, a, b))
in-listed (suc n) g words at s i = elim (cases_eq s at) [
  | inl e ↦ (let on : g at ≡ true = ap g (sym e) ∙ i.0 in rw on (inl (ap (mark_at words) (sym e))))
  | inr d ↦
      let j : IsIn g (at + 1) (at + 1 + n) s = (i.0, (let a = i.1 in omega (arith, a, d)), (let b = i.2 in omega (arith, b))) in
      let r = in-listed n g words (at + 1) s j in
      elim (cases_Bool (g at)) [ inl on ↦ rw on (inr r) | inr off ↦ rw off r ]
]
