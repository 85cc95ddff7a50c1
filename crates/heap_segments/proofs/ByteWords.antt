-- The words of some bytes: the first and the others.
use Rattle.std.proofs.Common.{◌≡◌, ℕ, zero, suc, ◌*◌, ◌≤◌, List, [], ◌∷◌, length, take, drop, arith, refl, ap, length-drop}
use Rattle.std.specs.Int.{w64, from_le_bytes}
use Rattle.spur_graph.specs.Bytes.{words_in}

-- the first word, and the others
pub words_in_cut : (bytes : List ℕ) → 8 ≤ length bytes → words_in bytes ≡ from_le_bytes w64 (take 8 bytes) ∷ words_in (drop 8 bytes)
unfolding words_in
words_in_cut (a ∷ b ∷ c ∷ d ∷ e ∷ f ∷ g ∷ h ∷ rest) le = refl
words_in_cut bytes le = absurd (omega arith)

-- no whole word
pub words_in_short : (bytes : List ℕ) → length bytes ≤ 7 → words_in bytes ≡ []
unfolding words_in
words_in_short (a ∷ b ∷ c ∷ d ∷ e ∷ f ∷ g ∷ h ∷ rest) le = absurd (omega arith)
words_in_short bytes le = refl

-- so many words as eight times as many bytes are
pub words_in-length : (n : ℕ) (xs : List ℕ) → length xs ≡ 8 * n → length (words_in xs) ≡ n
words_in-length zero xs is = ap length (words_in_short xs (omega arith))
words_in-length (suc n) xs is =
    let rest : length (words_in (drop 8 xs)) ≡ n = words_in-length n (drop 8 xs) (omega (arith, length-drop 8 xs)) in
    omega (arith, ap length (words_in_cut xs (omega arith)), rest)
