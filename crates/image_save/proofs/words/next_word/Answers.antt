use Rattle.std.proofs.Common.{subst, sym, ap, ◌∙◌, arith}
use Rattle.spur_heap.specs.Parts.{view_of}
use Rattle.image_save.specs.Saved.{saved_at}
use Rattle.image_save.specs.Places.{Covers}
use Rattle.image_save.proofs.Ready.{word_behind, word_is}
use Rattle.image_save.proofs.words.next_word.Goals as goal

pub returns-then-i-places-clause-word : goal.returns-then-i-places-clause-word
returns-then-i-places-clause-word c = sym (word_behind (view_of c.args.parts.now) c.args.i (omega (arith, c.if-i-places.true, c.requires.places.words_is)))

pub returns-clause-word : goal.returns-clause-word
returns-clause-word c =
    let v = view_of c.args.parts.now in
    let a = c.advance.ensures.at in
    let same = c.region_place-at.ensures in
    c.saved_at.ensures a.chunk a.covers ∙ ap (saved_at v a.chunk) same
    ∙ sym (word_is v c.requires.whole c.args.i a.chunk (omega (arith, c.if-i-places.false, c.requires.places.words_is)) (subst (Covers v a.chunk) same a.covers))
