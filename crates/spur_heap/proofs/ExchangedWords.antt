-- The words of two chunks of one size have changed places, and each place has a header of its own.
use Rattle.std.proofs.Common.{◌≡◌, ◌≢◌, ◌⊎◌, ℕ, ◌+◌, ◌<◌, ◌≤◌, List, length, get_or, set, sym, ◌∙◌, arith, inl, inr}
use Rattle.std.proofs.lemmas.List.{length-set, get_or-set_other, get_or-set_same}
use Rattle.spur_words.specs.Runs.{IsApart}
use Rattle.spur_heap.specs.Swaps.{swap_run}
use Rattle.spur_heap.proofs.Swapped.{swap_long, swap_out, swap_first, swap_second}

-- two runs of `n` words that share none, from `a` on and from `b` on, and in both the header is the word `l`
pub record AreRuns (words : List ℕ) (a b n l : ℕ) : Type 0 where
  pub order : (a + n ≤ b) ⊎ (b + n ≤ a)
  pub first_fits : a + n ≤ length words
  pub second_fits : b + n ≤ length words
  pub header : l < n

module _ (words : List ℕ) (a b n l wa wb : ℕ) (k : AreRuns words a b n l) where
  pub apart : IsApart a n b n
  apart i j p q e = elim k.order [ inl o ↦ omega (arith, o, p, e) | inr o ↦ omega (arith, o, q, e) ]

  abbrev ran : List ℕ
  ran = swap_run words a b n

  -- the words then
  abbrev pub now : List ℕ
  now = set (set ran (a + l) wa) (b + l) wb

  mid_long : length (set ran (a + l) wa) ≡ length words
  mid_long = length-set ran (a + l) wa ∙ swap_long words a b n

  pub now_long : length now ≡ length words
  now_long = length-set (set ran (a + l) wa) (b + l) wb ∙ mid_long

  kept : (j : ℕ) → j ≢ a + l → j ≢ b + l → get_or now j 0 ≡ get_or ran j 0
  kept j p q = get_or-set_other (set ran (a + l) wa) (b + l) j wb 0 q ∙ get_or-set_other ran (a + l) j wa 0 p

  pub now_out : (j : ℕ) → (j < a) ⊎ (a + n ≤ j) → (j < b) ⊎ (b + n ≤ j) → get_or now j 0 ≡ get_or words j 0
  now_out j p q =
      let off_a : (i : ℕ) → i < n → j ≢ a + i = λ i m e. elim p [ inl o ↦ omega (arith, o, e) | inr o ↦ omega (arith, o, e, m) ] in
      let off_b : (i : ℕ) → i < n → j ≢ b + i = λ i m e. elim q [ inl o ↦ omega (arith, o, e) | inr o ↦ omega (arith, o, e, m) ] in
      kept j (off_a l k.header) (off_b l k.header) ∙ swap_out words a b n j off_a off_b

  pub now_first : (i : ℕ) → i < n → i ≢ l → get_or now (a + i) 0 ≡ get_or words (b + i) 0
  now_first i m o = kept (a + i) (λ e. o (omega (arith, e))) (apart i l m k.header) ∙ swap_first words a b n apart k.first_fits k.second_fits i m

  pub now_second : (i : ℕ) → i < n → i ≢ l → get_or now (b + i) 0 ≡ get_or words (a + i) 0
  now_second i m o = kept (b + i) (λ e. apart l i k.header m (sym e)) (λ e. o (omega (arith, e))) ∙ swap_second words a b n apart k.first_fits k.second_fits i m

  pub head_first : get_or now (a + l) 0 ≡ wa
  head_first =
      get_or-set_other (set ran (a + l) wa) (b + l) (a + l) wb 0 (apart l l k.header k.header)
      ∙ get_or-set_same ran (a + l) wa 0 (let s = swap_long words a b n in let f = k.first_fits in let h = k.header in omega (arith, s, f, h))

  pub head_second : get_or now (b + l) 0 ≡ wb
  head_second = get_or-set_same (set ran (a + l) wa) (b + l) wb 0 (let s = mid_long in let f = k.second_fits in let h = k.header in omega (arith, s, f, h))
