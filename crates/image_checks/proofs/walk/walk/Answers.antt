use Rattle.std.proofs.Common.{suc, ◌∙◌, sym, arith}
use Rattle.heap_cells.proofs.Ranges.{first_place}
use Rattle.image_checks.proofs.Walks.{goes_on, object_found, no_object}
use Rattle.image_checks.proofs.walk.walk.Goals as goal

pub walk-init : goal.walk-init
walk-init c = record { order = c.requires.order; walked = (0, first_place c.args.words.now c.args.from c.args.to) }

pub walk-preserved : goal.walk-preserved
walk-preserved c =
    let i = c.walk.invariant in
    let is = sym c.head_at.ensures.value ∙ c.in-Ok.is in
    record {
      order = omega (arith, c.in-Ok.ensures.room);
      walked = (suc i.walked.0, goes_on c.args.words.now c.args.from c.args.to i.walked.0 c.walk.at c.in-Ok.head i.walked.1 c.walk-test.true is);
    }

pub returns-in-Err : goal.returns-in-Err
returns-in-Err c =
    let i = c.walk.invariant in
    object_found c.args.words.now c.args.from c.args.to i.walked.0 c.walk.at c.in-Err.field-0 i.walked.1 c.walk-test.true (sym c.head_at.ensures.value ∙ c.in-Err.is)

pub returns : goal.returns
returns c = let i = c.walk.invariant in no_object c.args.words.now c.args.from c.args.to i.walked.0 c.walk.at i.walked.1 c.walk-test.false
