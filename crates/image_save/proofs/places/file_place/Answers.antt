use Rattle.std.proofs.Common.{sym, arith}
use Rattle.spur_heap.specs.Parts.{view_of}
use Rattle.image_save.proofs.Placing.{file_old, file_eden, file_past}
use Rattle.image_save.proofs.places.file_place.Goals as goal

pub returns-then-start-places-clause-place : goal.returns-then-start-places-clause-place
returns-then-start-places-clause-place c = sym (file_old (view_of c.args.parts.now) c.args.start (omega (arith, c.if-start-places.true, c.requires.places.cut_is)))

pub returns-then-start-places-2-clause-place : goal.returns-then-start-places-2-clause-place
returns-then-start-places-2-clause-place c =
    let is = file_eden (view_of c.args.parts.now) c.args.start (omega (arith, c.if-start-places.false, c.requires.places.cut_is)) (omega (arith, c.if-start-places-2.true, c.requires.places.eden_end_is)) in
    omega (arith, is, c.requires.places.cut_is, c.requires.places.eden_is)

pub returns-else-start-places-2-clause-place : goal.returns-else-start-places-2-clause-place
returns-else-start-places-2-clause-place c =
    let is = file_past (view_of c.args.parts.now) c.args.start (omega (arith, c.if-start-places.false, c.requires.places.cut_is)) (omega (arith, c.if-start-places-2.false, c.requires.places.eden_end_is)) in
    omega (arith, is, c.requires.places.past_from_is, c.requires.places.past_is)
