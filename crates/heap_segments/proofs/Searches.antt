-- Where a search among entries ends.
use Rattle.std.proofs.Common.{◌≡◌, ◌≤◌, ◌<◌, ℕ, ◌-◌, List, length, true, false, leb, leb-true, inl, inr, arith}
use Rattle.std.proofs.lemmas.Bool.{cases_lt}
use Rattle.std.specs.List.Sorted.{IsPartitionPoint}
use Rattle.heap_segments.specs.declared.entry.Entry.{Entry}
use Rattle.heap_segments.specs.Entries.{AreLaid, IsLastUpTo, blank, entry_at}
use Rattle.heap_segments.proofs.Laid.{is_above, first_begin}

-- the search by a number of the entries ends behind those that are at most `most`
abbrev pub IsEnd : (Entry → ℕ) → List Entry → ℕ → ℕ → Type 0
IsEnd number es most i = IsPartitionPoint (λ (e : Entry). leb (number e) most ≡ true) (λ (e : Entry). leb (number e) most ≡ false) es i

pub behind_end : (number : Entry → ℕ) (es : List Entry) (most i : ℕ) → IsEnd number es most i → (k : ℕ) → i ≤ k → k < length es → most < number (entry_at es k)
behind_end number es most i end k le lt = is_above (number (entry_at es k)) most (end.1 k blank le lt)

pub before_end : (number : Entry → ℕ) (es : List Entry) (most i : ℕ) → IsEnd number es most i → 0 < i → i ≤ length es → IsLastUpTo number es most (i - 1)
before_end number es most i end some bound = record {
  within = omega arith;
  low = leb-true _ _ (end.0 (i - 1) blank (omega arith) (omega arith));
  high = λ k lt le. behind_end number es most i end k (omega arith) le;
}

-- a search by words does not end at the front
pub some_begin : (es : List Entry) (word i : ℕ) → AreLaid es → 0 < length es → IsEnd (λ (e : Entry). e.begin) es word i → 0 < i
some_begin es word i laid some end = elim (cases_lt 0 i) [
  | inl lt ↦ lt
  | inr le ↦ absurd (omega (arith, behind_end (λ (e : Entry). e.begin) es word i end 0 le some, first_begin es laid some))
]
