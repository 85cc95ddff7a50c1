use Rattle.std.proofs.Common.{sym, ◌∙◌}
use Rattle.std.proofs.lemmas.Bool.{eqb-false}
use Rattle.marker.proofs.Keeping.{node_format}
use Rattle.marker.proofs.inner.has_format.Goals as goal

pub returns : goal.returns
returns c = record { no = λ off on e. eqb-false c.format_of.result c.args.format off (c.format_of.ensures ∙ sym (node_format c.args.heap.now c.args.start) ∙ e) }
