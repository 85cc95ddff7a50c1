-- The cut of a line into words, and back.
use Rattle.std.proofs.Common.{◌≡◌, ◌≢◌, ℕ, zero, suc, ◌+◌, ◌<◌, List, [], ◌∷◌, length, take, drop, get_or, refl, sym, ap, ◌∙◌, arith, true, false, cond}
use Rattle.std.specs.Prelude.{◌==◌, None}
use Rattle.std.proofs.lemmas.Bool.{eqb-true}
use Rattle.spur_graph.specs.Bytes.{Text}
use Rattle.spur_graph.specs.Words.{words_of, onto_first, spaced}
use Rattle.script_text.specs.Grammar.{command_of}

pub other_byte : (b : ℕ) → b ≢ 32 → (b == 32) ≡ false
other_byte b not = elim (b == 32) as (λ v. (b == 32) ≡ v → v ≡ false) [ true ↦ λ e. absurd (not (eqb-true b 32 e)) | false ↦ λ e. refl ] refl

-- the first space ends the first word
pub word_cut : (bytes : Text) (n : ℕ) → n < length bytes → ((k : ℕ) → k < n → get_or bytes k 0 ≢ 32) → get_or bytes n 0 ≡ 32 → words_of bytes ≡ take n bytes ∷ words_of (drop (n + 1) bytes)
unfolding words_of
word_cut [] n within before found = absurd (omega arith)
word_cut (b ∷ bs) zero within before found = let test : (b == 32) ≡ true = ap (λ x. x == 32) found in rw test refl
word_cut (b ∷ bs) (suc n) within before found =
    let test = other_byte b (before 0 (omega arith)) in
    let rest = word_cut bs n (omega arith) (λ k h. before (suc k) (omega arith)) found in
    ap (λ v. cond v ([] ∷ words_of bs) (onto_first b (words_of bs))) test ∙ ap (onto_first b) rest
    ∙ ap (λ m. (b ∷ take n bs) ∷ words_of (drop m (b ∷ bs))) (let e : suc (n + 1) ≡ suc n + 1 = omega arith in e)

-- without a space the line is one word
pub word_whole : (bytes : Text) → ((k : ℕ) → k < length bytes → get_or bytes k 0 ≢ 32) → words_of bytes ≡ bytes ∷ []
unfolding words_of
word_whole [] before = refl
word_whole (b ∷ bs) before =
    let test = other_byte b (before 0 (omega arith)) in
    let rest = word_whole bs (λ k h. before (suc k) (omega arith)) in
    ap (λ v. cond v ([] ∷ words_of bs) (onto_first b (words_of bs))) test ∙ ap (onto_first b) rest

-- a line has a word
pub some_word : (bytes : Text) → (x : Text) × (xs : List Text) × (words_of bytes ≡ x ∷ xs)
unfolding words_of
some_word [] = ([], [], refl)
some_word (b ∷ bs) = let more = some_word bs in
    elim (b == 32) as (λ v. (x : Text) × (xs : List Text) × (cond v ([] ∷ words_of bs) (onto_first b (words_of bs)) ≡ x ∷ xs)) [
      | true ↦ ([], words_of bs, refl)
      | false ↦ (b ∷ more.0, more.1, ap (onto_first b) more.2)
    ]

-- no command has five words behind its keyword
pub five_words : (w a b c d bytes : Text) → command_of (w ∷ a ∷ b ∷ c ∷ d ∷ words_of bytes) ≡ None
five_words w a b c d bytes = let more = some_word bytes in rw more.2 refl

onto_spaced : (b : ℕ) (words : List Text) (x : Text) (xs : List Text) → words ≡ x ∷ xs → spaced (onto_first b words) ≡ b ∷ spaced words
onto_spaced b [] x xs is = cc
onto_spaced b (w ∷ []) x xs is = refl
onto_spaced b (w ∷ v ∷ ws) x xs is = refl

none_spaced : (words : List Text) (x : Text) (xs : List Text) → words ≡ x ∷ xs → spaced ([] ∷ words) ≡ 32 ∷ spaced words
none_spaced [] x xs is = cc
none_spaced (v ∷ ws) x xs is = refl

-- the words of a line, spaced, are the line
pub spaced_words : (bytes : Text) → spaced (words_of bytes) ≡ bytes
unfolding words_of
spaced_words [] = refl
spaced_words (b ∷ bs) = let more = some_word bs in
    elim (b == 32) as (λ v. (b == 32) ≡ v → spaced (cond v ([] ∷ words_of bs) (onto_first b (words_of bs))) ≡ b ∷ bs) [
      | true ↦ λ e. none_spaced (words_of bs) more.0 more.1 more.2 ∙ ap (λ r. 32 ∷ r) (spaced_words bs) ∙ ap (λ c. c ∷ bs) (sym (eqb-true b 32 e))
      | false ↦ λ e. onto_spaced b (words_of bs) more.0 more.1 more.2 ∙ ap (λ r. b ∷ r) (spaced_words bs)
    ] refl
