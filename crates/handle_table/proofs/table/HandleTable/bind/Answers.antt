use Rattle.std.proofs.Common.{◌≡◌, ◌<◌, ℕ, List, [], ◌∷◌, ◌++◌, length, slice_index, slice_set, None, Some, refl, ◌∙◌, ap, sym, arith}
use Rattle.std.proofs.lemmas.Bool.{false≢true}
use Rattle.std.specs.FinMap.{get, insert, len}
use Rattle.spur_graph.specs.Graph.{Handle}
use Rattle.handle_table.specs.Handles.{Bindings, held, bound}
use Rattle.handle_table.proofs.Bound.{get-bound_absent, get-bound_held, bound-set, bound-append, len-bound, no_some}
use Rattle.handle_table.proofs.table.HandleTable.bind.Goals as goal

pub returns-in-Before-clause-bound : goal.returns-in-Before-clause-bound
returns-in-Before-clause-bound c =
    let handle : Handle = (c.args.mutator, c.args.name.bytes) in
    let words : List ℕ = c.self.inside.words.items in
    let at : ℕ = c.in-Before.at in
    ap (λ (ks : List Handle). bound ks (slice_set words at c.args.word)) c.in-Before.ensures.enters.1
    ∙ bound-set c.self.inside.index words handle at c.args.word c.in-Before.ensures.distinct (sym c.self.invariant.0) c.in-Before.ensures.enters.0
    ∙ ap (λ (t : Bindings). insert (held t) handle c.args.word) c.self.view_is

pub returns-in-Before-clause-full : goal.returns-in-Before-clause-full
returns-in-Before-clause-full c =
    let handle : Handle = (c.args.mutator, c.args.name.bytes) in
    let words : List ℕ = c.self.inside.words.items in
    let found : get (held c.args.self.now) handle ≡ Some (slice_index words c.in-Before.at) =
    ap (λ (t : Bindings). get (held t) handle) (sym c.self.view_is) ∙ get-bound_held c.self.inside.index words handle c.in-Before.at c.in-Before.ensures.distinct (sym c.self.invariant.0) c.in-Before.ensures.enters.0 in
    ((λ f. absurd (false≢true f)), (λ p. absurd (no_some found p.0)))

pub returns-in-Last-clause-bound : goal.returns-in-Last-clause-bound
returns-in-Last-clause-bound c =
    let handle : Handle = (c.args.mutator, c.args.name.bytes) in
    let words : List ℕ = c.self.inside.words.items in
    ap (λ (ks : List Handle). bound ks c.push_reserved.new.self.items) c.in-Last.ensures.enters.2
    ∙ ap (λ (ws : List ℕ). bound (c.self.inside.index ++ handle ∷ []) ws) c.push_reserved.ensures.items
    ∙ bound-append c.self.inside.index words handle c.args.word (sym c.self.invariant.0) c.in-Last.ensures.enters.0
    ∙ ap (λ (t : Bindings). insert (held t) handle c.args.word) c.self.view_is

pub returns-in-Last-clause-full : goal.returns-in-Last-clause-full
returns-in-Last-clause-full c =
    let words : List ℕ = c.self.inside.words.items in
    let few : length c.self.inside.index < 65536 = c.in-Last.ensures.enters.1 in
    let count : len (held c.args.self.now) ≡ length c.self.inside.index = ap (λ (t : Bindings). len (held t)) (sym c.self.view_is) ∙ len-bound c.self.inside.index words c.in-Last.ensures.distinct (sym c.self.invariant.0) in
    ((λ f. absurd (false≢true f)), (λ p. let full : len (held c.args.self.now) ≡ 65536 = p.1 in absurd (omega arith)))

pub returns-in-Full-clause-full : goal.returns-in-Full-clause-full
returns-in-Full-clause-full c =
    let handle : Handle = (c.args.mutator, c.args.name.bytes) in
    let words : List ℕ = c.self.inside.words.items in
    let none : get (held c.args.self.now) handle ≡ None = ap (λ (t : Bindings). get (held t) handle) (sym c.self.view_is) ∙ get-bound_absent c.self.inside.index words handle c.in-Full.ensures.enters.0 in
    let count : len (held c.args.self.now) ≡ 65536 = ap (λ (t : Bindings). len (held t)) (sym c.self.view_is) ∙ len-bound c.self.inside.index words c.in-Full.ensures.distinct (sym c.self.invariant.0) ∙ c.in-Full.ensures.enters.1 in
    ((λ _. (none, count)), (λ _. refl))
