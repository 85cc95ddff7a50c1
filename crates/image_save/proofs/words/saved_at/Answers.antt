use Rattle.std.proofs.Common.{◌∙◌, arith}
use Rattle.heap_cells.proofs.Members.{in_list}
use Rattle.spur_heap.specs.Parts.{view_of}
use Rattle.image_save.specs.Saved.{saved_chunks}
use Rattle.image_save.proofs.Parts.{seen}
use Rattle.image_save.proofs.Fits.{chunk_small}
use Rattle.image_save.proofs.Ready.{object_at, free_at}
use Rattle.image_save.proofs.words.saved_at.Goals as goal

pub object_word-requires-clause-inside : goal.object_word-requires-clause-inside
object_word-requires-clause-inside c =
    let v = view_of c.args.parts.now in
    let a = c.requires.at in
    let l = (seen v c.requires.whole a.chunk (in_list (saved_chunks v) a.chunk a.covers.saved)).lies in
    omega (arith, a.covers.to, l.before)

pub free_word-requires-clause-big : goal.free_word-requires-clause-big
free_word-requires-clause-big c =
    let v = view_of c.args.parts.now in
    let a = c.requires.at in
    let l = (seen v c.requires.whole a.chunk (in_list (saved_chunks v) a.chunk a.covers.saved)).lies in
    omega (arith, a.at_is, a.end_is, l.lead, l.room)

pub free_word-requires-clause-small : goal.free_word-requires-clause-small
free_word-requires-clause-small c =
    let v = view_of c.args.parts.now in
    let a = c.requires.at in
    let few = chunk_small v c.requires.whole a.chunk (in_list (saved_chunks v) a.chunk a.covers.saved) in
    omega (arith, a.at_is, a.end_is, few)

pub returns-in-Some : goal.returns-in-Some
returns-in-Some c d k = c.object_word.ensures ∙ object_at (view_of c.args.parts.now) c.requires.whole c.args.at c.args.cursor.now c.requires.at c.in-Some.pointers c.in-Some.is d k

pub returns-in-None : goal.returns-in-None
returns-in-None c d k = c.free_word.ensures ∙ free_at (view_of c.args.parts.now) c.requires.whole c.args.at c.args.cursor.now c.requires.at c.in-None.is d k
