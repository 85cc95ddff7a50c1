use Rattle.std.proofs.Common.{◌≡◌, ◌≤◌, ◌∷◌, ◌++◌, [], arith, refl, sym, ap, ◌∙◌, append_assoc, append-nil, length, take, length-set}
use Rattle.std.specs.Int.{w64, from_le_bytes}
use Rattle.std.proofs.lemmas.List.{take_more_set, take_all}
use Rattle.spur_graph.specs.Bytes.{words_in}
use Rattle.heap_segments.proofs.ByteWords.{words_in_cut, words_in_short}
use Rattle.image_file.proofs.pieces.copy_words.Goals as goal

pub words-init : goal.words-init
words-init c = record { words = refl; rest = omega arith }

pub split_at-requires : goal.split_at-requires
split_at-requires c = omega (arith, c.words.invariant.rest, c.words.auto.words, c.words-test.true)

pub words-preserved : goal.words-preserved
words-preserved c =
    let i = c.words.word-index in
    let words = c.words.words in
    let rest = c.words.rest.now in
    let word = c.number64.result in
    let behind = c.split_at.result.1.now in
    let long : 8 ≤ length rest = omega (arith, c.words.invariant.rest, c.words.auto.words, c.words-test.true) in
    let is : word ≡ from_le_bytes w64 (take 8 rest) = c.number64.ensures ∙ ap (from_le_bytes w64) c.split_at.ensures.front in
    let cut : word ∷ words_in behind ≡ words_in rest =
    ap (λ n. n ∷ words_in behind) is ∙ (ap (λ bytes. from_le_bytes w64 (take 8 rest) ∷ words_in bytes) c.split_at.ensures.back ∙ sym (words_in_cut rest long)) in
    record {
      words = ap (λ ws. ws ++ words_in behind) (take_more_set words i word (omega (arith, c.words.auto.words, c.words-test.true)))
          ∙ (append_assoc (take i words) (word ∷ []) (words_in behind) ∙ (ap (λ ws. take i words ++ ws) cut ∙ c.words.invariant.words));
      rest = omega (arith, c.words.invariant.rest, c.split_at.ensures.back_len, length-set words i word, c.words-test.true, c.words.auto.words);
    }

pub returns : goal.returns
returns c =
    let words = c.words.words in
    let i = c.words.word-index in
    let rest = c.words.rest.now in
    let end : length words ≤ i = omega (arith, c.words.auto.words, c.words-test.false) in
    sym (append-nil words) ∙ (ap (λ ws. ws ++ []) (sym (take_all i words end)) ∙ (ap (λ ws. take i words ++ ws) (sym (words_in_short rest (omega (arith, c.words.invariant.rest, end)))) ∙ c.words.invariant.words))
