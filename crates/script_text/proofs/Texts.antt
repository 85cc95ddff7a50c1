-- Numbers as text: the digits that a step adds, and how many there are.
use Rattle.std.proofs.Common.{◌≡◌, ℕ, zero, suc, ◌+◌, ◌-◌, ◌/◌, ◌%◌, ◌^◌, ◌<◌, ◌≤◌, List, [], ◌∷◌, ◌++◌, length, sym, ap, ◌∙◌, arith, length-append, append_assoc, rules}
use Rattle.std.proofs.lemmas.Fmt.{decimal_digit, decimal_step, length-decimal-le}
use Rattle.std.specs.Fmt.{decimal}
use Rattle.spur_graph.specs.Text.{hex_text, glyph}

pub one_length : (n : ℕ) → n < 10 → length (decimal n) ≡ 1
one_length n small = ap length (decimal_digit n small)

pub step_length : (n : ℕ) → 10 ≤ n → n < 2 ^ 64 → length (decimal n) ≡ length (decimal (n / 10)) + 1
step_length n high small = ap length (decimal_step n high small) ∙ length-append (decimal (n / 10)) ((48 + n % 10) ∷ [])

pub decimal_length : (n : ℕ) → n < 2 ^ 64 → length (decimal n) ≤ 20
decimal_length n small = length-decimal-le 20 n (omega arith) (omega arith) small

pub more_digits : (out mid new : List ℕ) (n : ℕ) → 10 ≤ n → n < 2 ^ 64 → mid ≡ out ++ decimal (n / 10) → new ≡ mid ++ (48 + n % 10) ∷ [] → new ≡ out ++ decimal n
more_digits out mid new n high small is_mid is_new =
    is_new ∙ ap (λ xs. xs ++ (48 + n % 10) ∷ []) is_mid ∙ append_assoc out (decimal (n / 10)) ((48 + n % 10) ∷ []) ∙ ap (λ xs. out ++ xs) (sym (decimal_step n high small))

pub hex_none : (out : List ℕ) (k w : ℕ) → k ≤ 0 → out ≡ out ++ hex_text k w
unfolding hex_text
hex_none out zero w none = search rules
hex_none out (suc k) w none = absurd (omega arith)

pub hex_more : (out mid new : List ℕ) (k w g : ℕ) → 0 < k → mid ≡ out ++ hex_text (k - 1) (w / 16) → new ≡ mid ++ g ∷ [] → g ≡ glyph (w % 16) → new ≡ out ++ hex_text k w
unfolding hex_text
hex_more out mid new zero w g some is_mid is_new is_g = absurd (omega arith)
hex_more out mid new (suc k) w g some is_mid is_new is_g =
    let less : suc k - 1 ≡ k = omega arith in
    is_new ∙ ap (λ x. mid ++ x ∷ []) is_g ∙ ap (λ xs. xs ++ glyph (w % 16) ∷ []) (is_mid ∙ ap (λ j. out ++ hex_text j (w / 16)) less) ∙ append_assoc out (hex_text k (w / 16)) (glyph (w % 16) ∷ [])

pub one_digit : (out new : List ℕ) (n : ℕ) → n < 10 → new ≡ out ++ (48 + n) ∷ [] → new ≡ out ++ decimal n
one_digit out new n small is = is ∙ ap (λ xs. out ++ xs) (sym (decimal_digit n small))
