use Rattle.std.proofs.Common.{sym, ap, ◌∙◌, arith}
use Rattle.spur_graph.specs.Segments.{word_in}
use Rattle.image_checks.proofs.Objects.{roots_end, root_word}
use Rattle.image_checks.proofs.pages.named_at.Goals as goal

pub overflow_add-roots : goal.overflow_add-roots
overflow_add-roots c = let end = roots_end c.requires.cut c.requires.first in omega (arith, end)

pub overflow_add-roots-2 : goal.overflow_add-roots-2
overflow_add-roots-2 c = let end = roots_end c.requires.cut c.requires.first in omega (arith, end, c.requires.within)

pub offset_bounds-words-roots : goal.offset_bounds-words-roots
offset_bounds-words-roots c = let end = roots_end c.requires.cut c.requires.first in omega (arith, end, c.requires.within)

pub bounds-words-roots : goal.bounds-words-roots
bounds-words-roots c = let end = roots_end c.requires.cut c.requires.first in omega (arith, end, c.requires.within)

pub returns : goal.returns
returns c = c.to_region.ensures ∙ ap (word_in c.args.map.now 0) (sym (root_word c.requires.cut c.requires.first c.args.place (omega (arith, c.requires.within))))
