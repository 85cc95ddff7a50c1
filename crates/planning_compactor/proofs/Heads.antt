-- Words that tell the same of the objects that stand in them.
use Rattle.std.proofs.Common.{◌≡◌, ◌≢◌, ℕ, suc, zero, Bool, true, ◌+◌, ◌-◌, ◌<◌, ◌≤◌, ◌⊎◌, max, List, length, get_or, sym, ap, ◌∙◌, subst, inl, inr, arith}
use Rattle.std.proofs.lemmas.Bool.{cases_eq, cases_lt}
use Rattle.object_header.specs.Chunks.{leads}
use Rattle.heap_walk.specs.declared.saved.Saved.{Saved}
use Rattle.planning_compactor.specs.Entries.{start_of, IsElsewhere}
use Rattle.planning_compactor.specs.Readdressed.{AreLive}
use Rattle.planning_compactor.proofs.Shapes.{SameHead, slots_at-moved, stands-same, lead-low}

abbrev pub SameHeads : (ℕ → Bool) → List ℕ → List ℕ → Type 0
SameHeads has words words' = (t : ℕ) → has t ≡ true → SameHead words words' t t

pub live-same : (has : ℕ → Bool) (words words' : List ℕ) → SameHeads has words words' → length words' ≡ length words → AreLive has words → AreLive has words'
live-same has words words' h len l = record {
  stands = λ t g. stands-same (h t g) (l.stands t g) (lead-low words t (l.stands t g)) (omega arith) len;
  apart = λ s t g k m.
      let e = l.apart s t g k m in
      let n = e.next in
      let q = e.slots in
      record {
        next = n;
        slots = omega (arith, q, (h s g).slots);
        behind = λ on. let b = e.behind (ap leads (sym (h t k).header) ∙ on) in subst (λ x. s + 2 + max 1 x ≤ t) (sym (h s g).slots) b;
      };
}

-- only first fields are written
pub heads-fields : (has : ℕ → Bool) (words words' : List ℕ) (es : List Saved) → AreLive has words → ((k : ℕ) → k < length es → has (start_of es k) ≡ true)
    → ((j : ℕ) → IsElsewhere es j → get_or words' j 0 ≡ get_or words j 0) → SameHeads has words words'
heads-fields has words words' es live ins others t g = record {
  header = header;
  slots = slots_at-moved words words' t t header (λ on. others (t - 1) (λ k l e.
      let s : ℕ = start_of es k in
      elim (cases_lt s t) [
        | inl m ↦ let b = (live.apart s t (ins k l) g m).behind on in omega (arith, b, e)
        | inr m ↦ let z = (live.stands t g).behind on in omega (arith, m, e, z)
      ]));
}
  where
    header : get_or words' t 0 ≡ get_or words t 0
    header = others t (λ k l e. let z = (live.apart (start_of es k) t (ins k l) g (omega (arith, e))).next in omega (arith, z, e))

-- one of the first numbers is this one, or none is
pub some-or : (n : ℕ) (f : ℕ → ℕ) (j : ℕ) → ((k : ℕ) × (k < n) × (f k ≡ j)) ⊎ ((k : ℕ) → k < n → f k ≢ j)
some-or zero f j = inr (λ k l e. omega (arith, l))
some-or (suc n) f j = elim (cases_eq (f n) j) [
  | inl e ↦ inl (n, omega arith, e)
  | inr d ↦ elim (some-or n f j) [
    | inl k ↦ inl (k.0, (let z = k.1 in omega (arith, z)), k.2)
    | inr a ↦ inr (λ k l e. elim (cases_eq k n) [ inl q ↦ d (ap f (sym q) ∙ e) | inr q ↦ a k (omega (arith, l, q)) e ])
  ]
]
