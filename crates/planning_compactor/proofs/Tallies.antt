-- Objects that are counted one after another.
use Rattle.std.proofs.Common.{◌≡◌, ℕ, Bool, true, false, cond, ◌+◌, ◌<◌, ◌≤◌, List, length, refl, sym, ap, ◌∙◌, inl, inr, arith}
use Rattle.std.proofs.lemmas.Bool.{cases_Bool}
use Rattle.spur_graph.specs.Planned.{Marked}
use Rattle.planning_compactor.specs.Planning.{marks}
use Rattle.planning_compactor.proofs.Lists.{marks-here, marks-none, marks-skip}

-- the next that may go
pub count-next : (g : ℕ → Bool) (words : List ℕ) (at s end : ℕ) → at ≤ s → s < end → ((k : ℕ) → at ≤ k → k < s → g k ≡ false) → length (marks g words at end) ≡ cond (g s) 1 0 + length (marks g words (s + 1) end)
count-next g words at s end a b none =
    let rest : List Marked = marks g words (s + 1) end in
    ap (λ (ms : List Marked). length ms) (marks-skip g words at s end a (omega arith) none) ∙ elim (cases_Bool (g s)) [
      | inl on ↦
          let e : length (marks g words s end) ≡ 1 + length rest = ap (λ (ms : List Marked). length ms) (marks-here g words s end b on) ∙ omega arith in
          e ∙ ap {A = Bool} {B = ℕ} (λ x. cond x 1 0 + length rest) (sym on)
      | inr off ↦
          let e : length (marks g words s end) ≡ length rest = ap (λ (ms : List Marked). length ms) (marks-skip g words s (s + 1) end (omega arith) (omega arith) (λ k l m. (let q : k ≡ s = omega (arith, l, m) in ap g q ∙ off))) in
          e ∙ omega arith ∙ ap {A = Bool} {B = ℕ} (λ x. cond x 1 0 + length rest) (sym off)
    ]

-- none is left
pub count-none : (g : ℕ → Bool) (words : List ℕ) (at end : ℕ) → ((k : ℕ) → at ≤ k → k < end → g k ≡ false) → length (marks g words at end) ≡ 0
count-none g words at end none = ap (λ (ms : List Marked). length ms) (marks-none g words at end none)

pub one-most : (b : Bool) → cond b 1 0 ≤ 1
one-most true = omega arith
one-most false = omega arith
