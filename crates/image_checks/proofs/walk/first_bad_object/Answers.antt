use Rattle.std.proofs.Common.{◌+◌, arith}
use Rattle.image_checks.proofs.Segmented.{segment_found, segment_good, no-more, all-good, bound-next, bound-low}
use Rattle.image_checks.proofs.walk.first_bad_object.Goals as goal

pub walk-requires-clause-order : goal.walk-requires-clause-order
walk-requires-clause-order c = omega (arith, c.begin.ensures, c.begin-in-segments.ensures, bound-next c.args.map.now c.segments.i)

pub walk-requires-clause-within : goal.walk-requires-clause-within
walk-requires-clause-within c = omega (arith, c.begin-in-segments.ensures, bound-low c.args.map.now (c.segments.i + 1), c.requires.all)

pub returns-in-Err-clause-least : goal.returns-in-Err-clause-least
returns-in-Err-clause-least c =
    segment_found c.args.map.now c.args.words.now c.segments.i c.begin.result c.begin-in-segments.result c.in-Err.at c.begin.ensures c.begin-in-segments.ensures
    (omega (arith, c.segments-test.true, c.len-i-end.ensures.len)) c.in-Err.ensures c.segments.invariant

pub segments-preserved : goal.segments-preserved
segments-preserved c =
    segment_good c.args.map.now c.args.words.now c.segments.i c.begin.result c.begin-in-segments.result c.begin.ensures c.begin-in-segments.ensures c.in-Ok.ensures c.segments.invariant

pub returns-clause-least : goal.returns-clause-least
returns-clause-least c = no-more c.args.map.now c.args.words.now c.segments.i (omega (arith, c.segments-test.false, c.len-i-end.ensures.len)) c.segments.invariant

pub returns-clause-cut : goal.returns-clause-cut
returns-clause-cut c = (all-good c.args.map.now c.args.words.now c.requires.all (returns-clause-least c)).0

pub returns-clause-read : goal.returns-clause-read
returns-clause-read c = (all-good c.args.map.now c.args.words.now c.requires.all (returns-clause-least c)).1
