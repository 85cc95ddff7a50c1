-- The words of a file have 64 bits.
use Rattle.std.proofs.Common.{ℕ, suc, zero, ◌+◌, ◌-◌, ◌^◌, ◌<◌, List, [], ◌∷◌, drop, sym, subst, arith}
use Rattle.std.proofs.lemmas.List.Concat.{flat_map-cons}
use Rattle.std.proofs.lemmas.List.Elements.{All-append, All-take, All-drop}
use Rattle.std.specs.Int.{w64, from_le_bytes}
use Rattle.std.specs.List.{All, flat_map}
use Rattle.spur_graph.specs.Bytes.{words_in}
use Rattle.spur_graph.specs.Segments.{Segment, bridge_bytes, segments, segment_words, all_words}

-- eight bytes make a number of 64 bits
eight_fit : (a b c d e f g h : ℕ) → a < 2 ^ 8 → b < 2 ^ 8 → c < 2 ^ 8 → d < 2 ^ 8 → e < 2 ^ 8 → f < 2 ^ 8 → g < 2 ^ 8 → h < 2 ^ 8
    → from_le_bytes w64 (a ∷ b ∷ c ∷ d ∷ e ∷ f ∷ g ∷ h ∷ []) < 2 ^ 64
eight_fit a b c d e f g h la lb lc ld le lf lg lh = omega (arith, la, lb, lc, ld, le, lf, lg, lh)

words_fit : (bytes : List ℕ) → All (λ b. b < 2 ^ 8) bytes → All (λ w. w < 2 ^ 64) (words_in bytes)
unfolding words_in
words_fit (a ∷ b ∷ c ∷ d ∷ e ∷ f ∷ g ∷ h ∷ rest) all zero z l =
    eight_fit a b c d e f g h (all 0 0 (omega arith)) (all 1 0 (omega arith)) (all 2 0 (omega arith)) (all 3 0 (omega arith)) (all 4 0 (omega arith)) (all 5 0 (omega arith)) (all 6 0 (omega arith)) (all 7 0 (omega arith))
words_fit (a ∷ b ∷ c ∷ d ∷ e ∷ f ∷ g ∷ h ∷ rest) all (suc k) z l = words_fit rest (λ j y m. all (suc (suc (suc (suc (suc (suc (suc (suc j)))))))) y (omega (arith, m))) k z (omega (arith, l))
words_fit bytes all k z l = absurd (omega (arith, l))

pieces_fit : {X : Type 0} (P : ℕ → Type 0) (f : X → List ℕ) (xs : List X) → ((x : X) → All P (f x)) → All P (flat_map f xs)
pieces_fit P f [] all = λ k z l. absurd (omega (arith, l))
pieces_fit P f (x ∷ xs) all = subst (All P) (sym (flat_map-cons f x xs)) (All-append P (f x) (flat_map f xs) (all x) (pieces_fit P f xs all))

pub all_words_fit : (bytes : List ℕ) → All (λ b. b < 2 ^ 8) bytes → All (λ w. w < 2 ^ 64) (all_words bytes)
unfolding all_words
all_words_fit bytes all = pieces_fit (λ w. w < 2 ^ 64) (segment_words bytes) (segments bytes)
    (λ (s : Segment). words_fit _ (All-take (λ b. b < 2 ^ 8) (s.at + s.size - bridge_bytes - s.at) (drop s.at bytes) (All-drop (λ b. b < 2 ^ 8) s.at bytes all)))
