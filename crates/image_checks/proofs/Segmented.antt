-- The words of segments, one after another, and their chunks.
use Rattle.std.proofs.Common.{◌≡◌, ℕ, suc, zero, ◌+◌, ◌-◌, ◌<◌, ◌≤◌, inl, inr, refl, sym, ◌∙◌, arith, List, [], ◌∷◌, length, take, subst}
use Rattle.std.proofs.lemmas.Bool.{cases_lt}
use Rattle.std.proofs.lemmas.List.Sums.{sum_by-cons, sum_by-take-le}
use Rattle.spur_graph.specs.ImageCauses.{IsLeast}
use Rattle.spur_graph.specs.Segments.{Segment, word_count, total_words}
use Rattle.spur_graph.specs.Places.{IsBadObject}
use Rattle.heap_cells.specs.Rows.{AllRead, AllAreCut}
use Rattle.heap_cells.proofs.Ranges.{first_place}
use Rattle.heap_cells.proofs.Wholes.{all-cut}
use Rattle.image_checks.specs.Checks.{AreOf, IsBadIn, IsCut}
use Rattle.image_checks.proofs.Walks.{rises-from}

-- the word at which segment `i` begins
abbrev pub bound : List Segment → ℕ → ℕ
bound segs i = total_words (take i segs)

bound-cons : (s : Segment) (segs : List Segment) (i : ℕ) → bound (s ∷ segs) (suc i) ≡ word_count s + bound segs i
bound-cons s segs i = sum_by-cons word_count s (take i segs)

pub bound-next : (segs : List Segment) (i : ℕ) → bound segs i ≤ bound segs (i + 1)
bound-next [] zero = omega arith
bound-next [] (suc i) = omega arith
bound-next (s ∷ segs) zero = omega (arith, bound-cons s segs 0)
bound-next (s ∷ segs) (suc i) =
    let e : suc i + 1 ≡ suc (i + 1) = omega arith in
    let k : bound (s ∷ segs) (suc i) ≤ bound (s ∷ segs) (suc (i + 1)) = omega (arith, bound-next segs i, bound-cons s segs i, bound-cons s segs (i + 1)) in
    rw e k

pub bound-rises : (segs : List Segment) (i n : ℕ) → bound segs i ≤ bound segs (i + n)
bound-rises segs i zero = let e : i + 0 ≡ i = omega arith in rw e (omega arith)
bound-rises segs i (suc n) = let e : i + suc n ≡ i + n + 1 = omega arith in let k : bound segs i ≤ bound segs (i + n + 1) = omega (arith, bound-rises segs i n, bound-next segs (i + n)) in rw e k

pub bound-all : (segs : List Segment) → bound segs (length segs) ≡ total_words segs
bound-all [] = refl
bound-all (s ∷ segs) = omega (arith, bound-all segs, bound-cons s segs (length segs), sum_by-cons word_count s segs)

pub bound-low : (segs : List Segment) (i : ℕ) → bound segs i ≤ total_words segs
bound-low segs i = sum_by-take-le word_count segs i

module _ (segs : List Segment) (words : List ℕ) where
  bad-from : (n : ℕ) (b : IsBadIn segs words n) → bound segs b.0 ≤ n
  bad-from n b =
      let from = bound segs b.0 in
      let end = bound segs (b.0 + 1) in
      let bad = b.2 in
      omega (arith, first_place words from end, rises-from words from end 0 bad.k (omega arith), bad.is)

  pub segment_found : (i from end at : ℕ) → from ≡ bound segs i → end ≡ bound segs (i + 1) → i < length segs → IsLeast (IsBadObject words from end) at
      → ((n : ℕ) (b : IsBadIn segs words n) → i ≤ b.0) → IsLeast (IsBadIn segs words) at
  segment_found i from end at start stop l found none = let least : IsLeast (IsBadObject words (bound segs i) (bound segs (i + 1))) at = rw (start, stop) at found in record {
    is = (i, l, least.is);
    none = λ m low b. elim (cases_lt i b.0) [
      | inl later ↦
          let up : bound segs (i + 1) ≤ bound segs b.0 = let e : b.0 ≡ i + 1 + (b.0 - (i + 1)) = omega arith in rw e (bound-rises segs (i + 1) (b.0 - (i + 1))) in
          let inside = least.is.inside in
          omega (arith, bad-from m b, up, inside)
      | inr now ↦
          let same : b.0 ≡ i = omega (arith, none m b) in
          least.none m low (subst (λ k. IsBadObject words (bound segs k) (bound segs (k + 1)) m) same b.2)
    ];
  }

  pub segment_good : (i from end : ℕ) → from ≡ bound segs i → end ≡ bound segs (i + 1) → ((n : ℕ) → IsBadObject words from end n → ⊥)
      → ((n : ℕ) (b : IsBadIn segs words n) → i ≤ b.0) → (n : ℕ) (b : IsBadIn segs words n) → i + 1 ≤ b.0
  segment_good i from end start stop good none n b = elim (cases_lt i b.0) [
    | inl later ↦ omega arith
    | inr now ↦
        let same : b.0 ≡ i = omega (arith, none n b) in
        let here : IsBadObject words (bound segs i) (bound segs (i + 1)) n = subst (λ k. IsBadObject words (bound segs k) (bound segs (k + 1)) n) same b.2 in
        absurd (good n (rw (start, stop) here))
  ]

  pub no-more : (i : ℕ) → length segs ≤ i → ((n : ℕ) (b : IsBadIn segs words n) → i ≤ b.0) → (n : ℕ) → IsBadIn segs words n → ⊥
  no-more i l none n b = omega (arith, none n b, b.1)

  cuts : AreOf segs words → ((n : ℕ) → IsBadIn segs words n → ⊥) → AllAreCut words
  cuts of none = all-cut words (bound segs) (length segs) refl (bound-all segs ∙ sym of) (λ i l. bound-next segs i) (λ i l n b. none n (i, l, b))

  pub all-good : AreOf segs words → ((n : ℕ) → IsBadIn segs words n → ⊥) → IsCut segs words × AllRead words 0 (length words)
  all-good of none = let a = cuts of none in (record { cut = a.cut.row; formed = λ s t. a.cut.formed _ s t }, a.read)
