use Rattle.std.proofs.Common.{◌∙◌, ap, sym}
use Rattle.spur_graph.specs.declared.answer.Value.TheVariants.{Ref}
use Rattle.read_barrier.proofs.Telling.{start_named}
use Rattle.read_barrier.proofs.values.start.Goals as goal

pub returns-clause-value : goal.returns-clause-value
returns-clause-value c = start_named c.args.heap.now c.args.reference c.follow.result c.requires.reference c.follow.ensures.followed ∙ ap (λ s. Ref s) (sym c.named_start.ensures)
