use Rattle.std.proofs.Common.{◌+◌, ap, sym, ◌∙◌, get_or, arith}
use Rattle.spur_heap.specs.Parts.{view_of}
use Rattle.spur_heap.proofs.Pages.{root_place}
use Rattle.spur_heap.proofs.classes.root_word.Goals as goal

pub get-requires : goal.get-requires
get-requires c = omega (arith, c.first_start.ensures.start, (root_place (view_of c.args.parts.now) c.requires.sound c.args.i c.requires.inside).0)

pub returns : goal.returns
returns c = c.get.ensures ∙ ap (λ n. get_or c.args.parts.now.region (n + 1 + c.args.i) 0) c.first_start.ensures.start ∙ sym (root_place (view_of c.args.parts.now) c.requires.sound c.args.i c.requires.inside).1
