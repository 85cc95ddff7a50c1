use Rattle.std.proofs.Common.{◌<◌, ◌^◌, ℕ, subst, ap, ◌∙◌}
use Rattle.std.specs.List.{All}
use Rattle.std.specs.FinMap.{get}
use Rattle.handle_table.specs.Handles.{Bindings, held}
use Rattle.handle_table.proofs.Bound.{bound-below}
use Rattle.handle_table.proofs.table.HandleTable.held_fit.Goals as goal

pub returns : goal.returns
returns c handle word e =
    bound-below (2 ^ 64) c.self.inside.index c.self.inside.words.items handle word (subst (All (λ w. w < 2 ^ 64)) c.as_slice.ensures.value c.words_fit.ensures)
    (ap (λ (t : Bindings). get (held t) handle) c.self.view_is ∙ e)
