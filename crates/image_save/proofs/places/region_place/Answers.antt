use Rattle.std.proofs.Common.{sym, arith}
use Rattle.spur_heap.specs.Parts.{view_of}
use Rattle.image_save.proofs.Placing.{region_old, region_eden, region_past}
use Rattle.image_save.proofs.places.region_place.Goals as goal

pub returns-then-i-places : goal.returns-then-i-places
returns-then-i-places c = sym (region_old (view_of c.args.parts.now) c.args.i (omega (arith, c.if-i-places.true, c.requires.places.cut_is)))

pub returns-then-i-places-2 : goal.returns-then-i-places-2
returns-then-i-places-2 c =
    let is = region_eden (view_of c.args.parts.now) c.args.i (omega (arith, c.if-i-places.false, c.requires.places.cut_is)) (omega (arith, c.if-i-places-2.true, c.requires.places.past_from_is)) in
    omega (arith, is, c.requires.places.cut_is, c.requires.places.eden_is)

pub returns-else-i-places-2 : goal.returns-else-i-places-2
returns-else-i-places-2 c =
    let is = region_past (view_of c.args.parts.now) c.args.i (omega (arith, c.if-i-places.false, c.requires.places.cut_is)) (omega (arith, c.if-i-places-2.false, c.requires.places.past_from_is)) in
    omega (arith, is, c.requires.places.past_from_is, c.requires.places.past_is)
