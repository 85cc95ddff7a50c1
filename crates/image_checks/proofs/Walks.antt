-- The places of a walk over chunks, and what of them is bad.
use Rattle.std.proofs.Common.{◌≡◌, ℕ, suc, zero, ◌+◌, ◌-◌, ◌<◌, ◌≤◌, inl, inr, refl, sym, ap, ◌∙◌, arith, List, Ok, Err, true, false}
use Rattle.std.proofs.lemmas.Bool.{cases_lt, lt-ltb, le-ltb, false≢true}
use Rattle.object_header.specs.declared.head.Head.{Head}
use Rattle.object_header.specs.declared.head.HeadError.{HeadError}
use Rattle.spur_graph.specs.ImageCauses.{IsLeast}
use Rattle.spur_graph.specs.Places.{head_at, size_of, after, place, IsBadObject, is_bad_root, IsBadRoot}
use Rattle.heap_cells.proofs.Ranges.{after-ok, after-end, next_place}

after-err : (words : List ℕ) (end at : ℕ) (e : HeadError) → head_at words end at ≡ Err e → after words end at ≡ at
unfolding after
after-err words end at e is = elim (cases_lt at end) [
  | inl l ↦ rw (lt-ltb at end l) (ap (λ r. at + size_of r) is ∙ omega arith)
  | inr l ↦ rw (le-ltb at end l) refl
]

after-up : (words : List ℕ) (end at : ℕ) → at ≤ after words end at
unfolding after
after-up words end at = elim (cases_lt at end) [
  | inl l ↦ rw (lt-ltb at end l) (omega arith)
  | inr l ↦ rw (le-ltb at end l) (omega arith)
]

module _ (words : List ℕ) (from end : ℕ) where
  -- where the place stays, it stays for good
  stays : (k at : ℕ) → place words from end k ≡ at → after words end at ≡ at → (j : ℕ) → place words from end (k + j) ≡ at
  stays k at is still zero = let e : k + 0 ≡ k = omega arith in rw e is
  stays k at is still (suc j) = let e : k + suc j ≡ suc (k + j) = omega arith in rw e (next_place words from end (k + j) at (stays k at is still j) ∙ still)

  stays-from : (k at n : ℕ) → place words from end k ≡ at → after words end at ≡ at → k ≤ n → place words from end n ≡ at
  stays-from k at n is still l = let e : n ≡ k + (n - k) = omega arith in rw e (stays k at is still (n - k))

  -- it stays at one place alone
  meets : (j k a b : ℕ) → place words from end j ≡ a → after words end a ≡ a → place words from end k ≡ b → after words end b ≡ b → a ≡ b
  meets j k a b pa sa pb sb = elim (cases_lt j k) [
    | inl l ↦ sym (stays-from j a k pa sa (omega arith)) ∙ pb
    | inr l ↦ sym pa ∙ stays-from k b j pb sb l
  ]

  rises : (k j : ℕ) → place words from end k ≤ place words from end (k + j)
  rises k zero = let e : k + 0 ≡ k = omega arith in rw e (omega arith)
  rises k (suc j) =
      let e : k + suc j ≡ suc (k + j) = omega arith in
      let at = place words from end (k + j) in
      rw e (omega (arith, rises k j, after-up words end at, next_place words from end (k + j) at refl))

  pub rises-from : (k n : ℕ) → k ≤ n → place words from end k ≤ place words from end n
  rises-from k n l = let e : n ≡ k + (n - k) = omega arith in rw e (rises k (n - k))

  pub goes_on : (k at : ℕ) (h : Head) → place words from end k ≡ at → at < end → head_at words end at ≡ Ok h → place words from end (suc k) ≡ at + h.words
  goes_on k at h is l ok = next_place words from end k at is ∙ after-ok words end at h l ok

  pub object_found : (k at : ℕ) (e : HeadError) → place words from end k ≡ at → at < end → head_at words end at ≡ Err e → IsLeast (IsBadObject words from end) at
  object_found k at e is l err = record {
    is = record { k = k; is = sym is; inside = l; error = e; refused = err };
    none = λ m low b. let same : m ≡ at = meets b.k k m at (sym b.is) (after-err words end m b.error b.refused) is (after-err words end at e err) in omega (arith, same);
  }

  pub no_object : (k at : ℕ) → place words from end k ≡ at → end ≤ at → (n : ℕ) → IsBadObject words from end n → ⊥
  no_object k at is l n b =
      let same : n ≡ at = meets b.k k n at (sym b.is) (after-err words end n b.error b.refused) is (after-end words end at l) in
      omega (arith, same, b.inside)

  -- roots, one after another
  pub root_end : (k at : ℕ) → k < 5 → place words from end k ≡ at → end ≤ at → at ≤ end → ((n : ℕ) (b : IsBadRoot words from end n) → k ≤ b.k) → IsLeast (IsBadRoot words from end) at
  root_end k at f is l up none = record {
    is = record { k = k; first = f; is = sym is; bad = inl (omega arith) };
    none = λ m low b. let same : place words from end b.k ≡ at = stays-from k at b.k is (after-end words end at l) (none m b) in omega (arith, same, b.is);
  }

  pub root_found : (k at : ℕ) (h : Head) → k < 5 → place words from end k ≡ at → at < end → head_at words end at ≡ Ok h → is_bad_root k h ≡ true → ((n : ℕ) (b : IsBadRoot words from end n) → k ≤ b.k) → IsLeast (IsBadRoot words from end) at
  root_found k at h f is l ok bad none = record {
    is = record { k = k; first = f; is = sym is; bad = inr (l, (h, ok, bad)) };
    none = λ m low b. omega (arith, rises-from k b.k (none m b), is, b.is);
  }

  pub root_good : (k at : ℕ) (h : Head) → place words from end k ≡ at → at < end → head_at words end at ≡ Ok h → is_bad_root k h ≡ false
      → ((n : ℕ) (b : IsBadRoot words from end n) → k ≤ b.k) → (n : ℕ) (b : IsBadRoot words from end n) → k + 1 ≤ b.k
  root_good k at h is l ok good none n b = elim (cases_lt k b.k) [
    | inl m ↦ omega arith
    | inr m ↦
        let same : b.k ≡ k = omega (arith, none n b) in
        let here : n ≡ at = b.is ∙ ap (place words from end) same ∙ is in
        absurd (elim b.bad [
          | inl e ↦ omega (arith, e, here, l)
          | inr g ↦
              let heads : Ok h ≡ Ok g.1.0 = sym ok ∙ ap (head_at words end) (sym here) ∙ g.1.1 in
              let one : h ≡ g.1.0 = cc in
              false≢true (sym good ∙ ap (is_bad_root k) one ∙ ap (λ i. is_bad_root i g.1.0) (sym same) ∙ g.1.2)
        ])
  ]
