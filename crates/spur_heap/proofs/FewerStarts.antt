-- A start no longer passes a test, and every other does as before: one fewer passes.
use Rattle.std.proofs.Common.{◌≡◌, ◌≢◌, ℕ, Bool, true, false, ◌+◌, List, [], ◌∷◌, length, sym, ap, ◌∙◌, subst, arith, inl, inr}
use Rattle.std.proofs.lemmas.Bool.{cases_Bool}
use Rattle.std.specs.List.{filter}
use Rattle.heap_cells.proofs.Members.{In}
use Rattle.heap_cells.proofs.Tables.{filter_members}
use Rattle.spur_heap.proofs.Figures.{AreOnce}

module _ (p q : ℕ → Bool) (s : ℕ) (was : q s ≡ true) (is : p s ≡ false) (others : (t : ℕ) → t ≢ s → p t ≡ q t) where
  pub one_fewer : (ts : List ℕ) → AreOnce ts → In ts s → length (filter q ts) ≡ length (filter p ts) + 1
  one_fewer [] once m = absurd m
  one_fewer (t ∷ ts) once m = elim m [
    | inl e ↦
        let rest : filter p ts ≡ filter q ts = filter_members p q ts (λ u i. others u (λ same. once.0 (subst_in (same ∙ sym e) i))) in
        let off : p t ≡ false = ap p e ∙ is in
        let on : q t ≡ true = ap q e ∙ was in
        let long : length (filter p ts) ≡ length (filter q ts) = ap (λ us. length us) rest in
        rw (off, on) (omega (arith, long))
    | inr i ↦
        let more = one_fewer ts once.1 i in
        let n : t ≢ s = λ e. once.0 (subst_in (sym e) i) in
        elim (cases_Bool (q t)) [
          | inl on ↦ rw (others t n ∙ on, on) (omega (arith, more))
          | inr off ↦ rw (others t n ∙ off, off) more
        ]
  ]
    where
      subst_in : {a b : ℕ} → a ≡ b → In ts a → In ts b
      subst_in e k = subst (In ts) e k
