use Rattle.std.proofs.Common.{◌*◌, ap, ◌∙◌}
use Rattle.spur_heap.specs.Words.{is_good}
use Rattle.spur_heap.specs.Parts.{view_of}
use Rattle.spur_heap.proofs.Pages.{outer_good}
use Rattle.spur_heap.proofs.places.first_word.Goals as goal

pub returns-clause-good : goal.returns-clause-good
returns-clause-good c = ap (λ s. is_good (view_of c.args.parts.now) (8 * s)) c.first_start.ensures.start ∙ outer_good (view_of c.args.parts.now) c.requires.sound c.args.k c.requires.three
