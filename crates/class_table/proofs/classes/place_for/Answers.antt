use Rattle.std.proofs.Common.{◌∙◌, sym}
use Rattle.class_table.proofs.Placed.{page_made}
use Rattle.class_table.proofs.classes.place_for.Goals as goal

pub returns-in-Ok-clause-place : goal.returns-in-Ok-clause-place
returns-in-Ok-clause-place c = page_made c.args.heap.now c.make_page.new.self c.args.index (sym c.has_page.ensures ∙ c.if-has_page.false) c.in-Ok.ensures.made
