use Rattle.std.proofs.Common.{◌≡◌, ◌∙◌, ap, map}
use Rattle.spur_graph.specs.Graph.{Handle}
use Rattle.handle_table.specs.Slots.{key_of}
use Rattle.handle_table.proofs.Held.{absent, distinct, none_of_error}
use Rattle.handle_table.proofs.index.Index.find.Goals as goal

pub returns-clause-absent : goal.returns-clause-absent
returns-clause-absent c =
    let handle : Handle = (c.args.mutator, c.args.name.now.bytes) in
    let view : map key_of c.as_slice-2.result.now ≡ c.args.self.now = ap (map key_of) c.as_slice-2.ensures.value ∙ c.self.view_is in
    none_of_error c.find.result c.ok.result c.ok.ensures.value (absent c.as_slice-2.result.now c.args.self.now view handle) c.find.ensures.absent

pub returns-clause-distinct : goal.returns-clause-distinct
returns-clause-distinct c = distinct c.self.inside.held.items _ c.self.view_is c.self.invariant.0.apart
