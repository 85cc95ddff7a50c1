use Rattle.std.proofs.Common.{rules, ◌≡◌, ◌+◌, subst, arith}
use Rattle.spur_heap.specs.Parts.{view_of}
use Rattle.image_save.specs.Places.{IsReady}
use Rattle.image_save.proofs.Pieces.{word_bytes_none, word_bytes_more}
use Rattle.image_save.proofs.words.words_piece.Goals as goal

pub words-init : goal.words-init
words-init c = record {
  bytes = search (rules, word_bytes_none);
  len = search rules;
  ready = let same : c.args.from ≡ c.args.from + 0 = omega arith in subst (λ n. IsReady (view_of c.args.parts.now) n c.args.cursor.now) same c.requires.ready;
}

pub words-preserved : goal.words-preserved
words-preserved c = record {
  bytes = search (rules, word_bytes_more);
  len = search rules;
  ready = let same : c.args.from + c.words.done + 1 ≡ c.args.from + (c.words.done + 1) = omega arith in subst (λ n. IsReady (view_of c.args.parts.now) n c.next_word.new.cursor) same c.next_word.ensures.ready;
}

pub returns-clause-ready : goal.returns-clause-ready
returns-clause-ready c = let same : c.args.from + c.words.done ≡ c.args.from + c.args.count = omega (arith, c.words-test.false, c.words.auto) in subst (λ n. IsReady (view_of c.args.parts.now) n c.words.cursor) same c.words.invariant.ready
