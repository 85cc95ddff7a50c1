use Rattle.std.proofs.Common.{◌∙◌, ap, sym}
use Rattle.std.specs.FinMap.{len}
use Rattle.handle_table.specs.Handles.{Bindings, held}
use Rattle.handle_table.proofs.Bound.{len-bound}
use Rattle.handle_table.proofs.table.HandleTable.len.Goals as goal

pub returns-clause-len : goal.returns-clause-len
returns-clause-len c = c.len.ensures.len ∙ sym (len-bound c.self.inside.index c.self.inside.words.items c.len.ensures.distinct (sym c.self.invariant.0)) ∙ ap (λ (t : Bindings). len (held t)) c.self.view_is
