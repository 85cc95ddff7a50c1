use Rattle.std.proofs.Common.{◌≡◌, ◌<◌, ℕ, List, length, slice_index_or, Some, ◌∙◌, ap, sym, arith}
use Rattle.std.proofs.lemmas.List.{get_or_default}
use Rattle.std.specs.FinMap.{get}
use Rattle.spur_graph.specs.Graph.{Handle}
use Rattle.handle_table.specs.Handles.{Bindings, held}
use Rattle.handle_table.proofs.Bound.{get-bound_absent, get-bound_held}
use Rattle.handle_table.proofs.table.HandleTable.get.Goals as goal

pub returns-in_err-at : goal.returns-in_err-at
returns-in_err-at c =
    let handle : Handle = (c.args.mutator, c.args.name.now.bytes) in
    c.from_residual.ensures ∙ sym (get-bound_absent c.self.inside.index c.self.inside.words.items handle c.in_err-at.ensures.absent) ∙ ap (λ (t : Bindings). get (held t) handle) c.self.view_is

pub returns : goal.returns
returns c =
    let handle : Handle = (c.args.mutator, c.args.name.now.bytes) in
    let words : List ℕ = c.self.inside.words.items in
    let same : length words ≡ length c.self.inside.index = c.self.invariant.0 in
    let within : c.in_ok-at.at < length c.self.inside.index = c.in_ok-at.ensures.found.within in
    let found = get-bound_held c.self.inside.index words handle c.in_ok-at.at c.in_ok-at.ensures.distinct (sym same) c.in_ok-at.ensures.found in
    let read : c.index.result.now ≡ slice_index_or words c.in_ok-at.at c.index.result.now = c.index.ensures in
    ap Some (read ∙ get_or_default words c.in_ok-at.at c.index.result.now 0 (omega arith)) ∙ sym found ∙ ap (λ (t : Bindings). get (held t) handle) c.self.view_is
