use Rattle.std.proofs.Common.{◌≡◌, ℕ, List, slice_index, swap_remove, None, Some, is_some, refl, ◌∙◌, ap, sym}
use Rattle.std.proofs.lemmas.Bool.{false≢true}
use Rattle.std.specs.FinMap.{get, remove}
use Rattle.spur_graph.specs.Graph.{Handle}
use Rattle.handle_table.specs.Handles.{Bindings, held, bound}
use Rattle.handle_table.proofs.Bound.{get-bound_absent, get-bound_held, bound-swap_remove, remove-absent}
use Rattle.handle_table.proofs.table.HandleTable.unbind.Goals as goal

pub returns-in_default-clause-held : goal.returns-in_default-clause-held
returns-in_default-clause-held c =
    let handle : Handle = (c.args.mutator, c.args.name.now.bytes) in
    let none : get (held c.args.self.now) handle ≡ None = ap (λ (t : Bindings). get (held t) handle) (sym c.self.view_is) ∙ get-bound_absent c.self.inside.index c.self.inside.words.items handle c.in_default.ensures.absent in
    ((λ f. absurd (false≢true f)), (λ s. absurd (false≢true (sym (ap is_some none) ∙ s))))

pub returns-in_default-clause-unbound : goal.returns-in_default-clause-unbound
returns-in_default-clause-unbound c =
    let handle : Handle = (c.args.mutator, c.args.name.now.bytes) in
    let words : List ℕ = c.self.inside.words.items in
    ap (λ (ks : List Handle). bound ks words) c.in_default.ensures.same
    ∙ remove-absent (bound c.self.inside.index words) handle (get-bound_absent c.self.inside.index words handle c.in_default.ensures.absent)
    ∙ ap (λ (t : Bindings). remove (held t) handle) c.self.view_is

pub returns-clause-held : goal.returns-clause-held
returns-clause-held c =
    let handle : Handle = (c.args.mutator, c.args.name.now.bytes) in
    let words : List ℕ = c.self.inside.words.items in
    let found : get (held c.args.self.now) handle ≡ Some (slice_index words c.in-Some.at) =
    ap (λ (t : Bindings). get (held t) handle) (sym c.self.view_is) ∙ get-bound_held c.self.inside.index words handle c.in-Some.at c.in-Some.ensures.distinct (sym c.self.invariant.0) c.in-Some.ensures.found in
    ((λ _. ap is_some found), (λ _. refl))

pub returns-clause-unbound : goal.returns-clause-unbound
returns-clause-unbound c =
    let handle : Handle = (c.args.mutator, c.args.name.now.bytes) in
    let words : List ℕ = c.self.inside.words.items in
    let at : ℕ = c.in-Some.at in
    let left : List Handle = swap_remove c.self.inside.index at handle in
    ap (λ (ks : List Handle). bound ks c.swap_remove.new.self.items) c.in-Some.ensures.left
    ∙ ap (λ (ws : List ℕ). bound left ws) c.swap_remove.ensures.items
    ∙ bound-swap_remove c.self.inside.index words handle at c.swap_remove.result c.in-Some.ensures.distinct (sym c.self.invariant.0) c.in-Some.ensures.found
    ∙ ap (λ (t : Bindings). remove (held t) handle) c.self.view_is
