use Rattle.std.proofs.Common.{◌∙◌, arith}
use Rattle.image_checks.proofs.Objects.{roots_end}
use Rattle.image_load.proofs.Inside.{paged}
use Rattle.image_load.proofs.checks.check_classes.Goals as goal

pub first_bad_entry-requires : goal.first_bad_entry-requires
first_bad_entry-requires c = record {
  paged = paged _ c.args.words.now c.requires.checked c.requires.first (c.take_pages.ensures.covers ∙ c.mark_objects.ensures.covers ∙ c.in-Ok.ensures.covers) c.in-Ok-take_pages.ensures.ordinary c.in-Ok-take_pages.ensures.least;
}

pub overflow_add-roots : goal.overflow_add-roots
overflow_add-roots c = let end = roots_end c.requires.checked.cut c.requires.first in omega (arith, end)

pub overflow_add-roots-in-Err : goal.overflow_add-roots-in-Err
overflow_add-roots-in-Err c = let end = roots_end c.requires.checked.cut c.requires.first in omega (arith, end, c.in-Err.ensures.least.is.0)

pub offset-requires-clause-within : goal.offset-requires-clause-within
offset-requires-clause-within c = let end = roots_end c.requires.checked.cut c.requires.first in omega (arith, end, c.in-Err.ensures.least.is.0, c.requires.all)
