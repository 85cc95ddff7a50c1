-- Words of two runs change places: what stands where then.
use Rattle.std.proofs.Common.{◌≡◌, ◌≢◌, ℕ, suc, zero, ◌+◌, ◌<◌, ◌≤◌, List, length, get_or, set, refl, sym, ap, ◌∙◌, inl, inr, arith}
use Rattle.std.proofs.lemmas.Bool.{cases_eq}
use Rattle.std.proofs.lemmas.List.{length-set, get_or-set_other, get_or-set_same}
use Rattle.spur_words.specs.Runs.{IsApart}
use Rattle.spur_heap.specs.Swaps.{swap_run}

pub swap_none : (words : List ℕ) (a b : ℕ) → swap_run words a b 0 ≡ words
unfolding swap_run
swap_none words a b = refl

pub swap_next : (words : List ℕ) (a b i : ℕ) → swap_run words a b (i + 1) ≡ set (set (swap_run words a b i) (a + i) (get_or (swap_run words a b i) (b + i) 0)) (b + i) (get_or (swap_run words a b i) (a + i) 0)
unfolding swap_run
swap_next words a b i = let e : i + 1 ≡ suc i = omega arith in ap (swap_run words a b) e

pub swap_long : (words : List ℕ) (a b n : ℕ) → length (swap_run words a b n) ≡ length words
unfolding swap_run
swap_long words a b zero = refl
swap_long words a b (suc n) =
    let ws : List ℕ = swap_run words a b n in
    length-set (set ws (a + n) (get_or ws (b + n) 0)) (b + n) (get_or ws (a + n) 0) ∙ length-set ws (a + n) (get_or ws (b + n) 0) ∙ swap_long words a b n

pub swap_out : (words : List ℕ) (a b n j : ℕ) → ((i : ℕ) → i < n → j ≢ a + i) → ((i : ℕ) → i < n → j ≢ b + i) → get_or (swap_run words a b n) j 0 ≡ get_or words j 0
unfolding swap_run
swap_out words a b zero j p q = refl
swap_out words a b (suc n) j p q =
    let ws : List ℕ = swap_run words a b n in
    get_or-set_other (set ws (a + n) (get_or ws (b + n) 0)) (b + n) j (get_or ws (a + n) 0) 0 (q n (omega arith))
    ∙ get_or-set_other ws (a + n) j (get_or ws (b + n) 0) 0 (p n (omega arith))
    ∙ swap_out words a b n j (λ i l. p i (omega (arith, l))) (λ i l. q i (omega (arith, l)))

pub swap_first : (words : List ℕ) (a b n : ℕ) → IsApart a n b n → a + n ≤ length words → b + n ≤ length words → (i : ℕ) → i < n → get_or (swap_run words a b n) (a + i) 0 ≡ get_or words (b + i) 0
unfolding swap_run
swap_first words a b zero apart fa fb i l = absurd (omega (arith, l))
swap_first words a b (suc n) apart fa fb i l =
    let ws : List ℕ = swap_run words a b n in
    let before : IsApart a n b n = λ i j p q. apart i j (omega (arith, p)) (omega (arith, q)) in
    get_or-set_other (set ws (a + n) (get_or ws (b + n) 0)) (b + n) (a + i) (get_or ws (a + n) 0) 0 (apart i n l (omega arith))
    ∙ elim (cases_eq i n) [
      | inl e ↦
          ap (λ k. get_or (set ws (a + n) (get_or ws (b + n) 0)) (a + k) 0) e ∙ get_or-set_same ws (a + n) (get_or ws (b + n) 0) 0 (let long = swap_long words a b n in omega (arith, fa, long))
          ∙ swap_out words a b n (b + n) (λ k m q. apart k n (omega (arith, m)) (omega arith) (sym q)) (λ k m q. omega (arith, m, q)) ∙ ap (λ k. get_or words (b + k) 0) (sym e)
      | inr o ↦ get_or-set_other ws (a + n) (a + i) (get_or ws (b + n) 0) 0 (λ q. o (omega (arith, q))) ∙ swap_first words a b n before (omega (arith, fa)) (omega (arith, fb)) i (omega (arith, l, o))
    ]

pub swap_second : (words : List ℕ) (a b n : ℕ) → IsApart a n b n → a + n ≤ length words → b + n ≤ length words → (i : ℕ) → i < n → get_or (swap_run words a b n) (b + i) 0 ≡ get_or words (a + i) 0
unfolding swap_run
swap_second words a b zero apart fa fb i l = absurd (omega (arith, l))
swap_second words a b (suc n) apart fa fb i l =
    let ws : List ℕ = swap_run words a b n in
    let before : IsApart a n b n = λ i j p q. apart i j (omega (arith, p)) (omega (arith, q)) in
    let mid : List ℕ = set ws (a + n) (get_or ws (b + n) 0) in
    elim (cases_eq i n) [
      | inl e ↦
          ap (λ k. get_or (set mid (b + n) (get_or ws (a + n) 0)) (b + k) 0) e
          ∙ get_or-set_same mid (b + n) (get_or ws (a + n) 0) 0 (let long = swap_long words a b n in let more = length-set ws (a + n) (get_or ws (b + n) 0) in omega (arith, fb, long, more))
          ∙ swap_out words a b n (a + n) (λ k m q. omega (arith, m, q)) (λ k m q. apart n k (omega arith) (omega (arith, m)) q) ∙ ap (λ k. get_or words (a + k) 0) (sym e)
      | inr o ↦
          get_or-set_other mid (b + n) (b + i) (get_or ws (a + n) 0) 0 (λ q. o (omega (arith, q)))
          ∙ get_or-set_other ws (a + n) (b + i) (get_or ws (b + n) 0) 0 (λ q. apart n i (omega arith) l (sym q))
          ∙ swap_second words a b n before (omega (arith, fa)) (omega (arith, fb)) i (omega (arith, l, o))
    ]
