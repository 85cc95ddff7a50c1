use Rattle.std.proofs.Common.{◌∙◌, not, sym, ap}
use Rattle.spur_graph.specs.declared.answer.Refusal.TheVariants as r
use Rattle.spur_graph.specs.Value.{int_of}
use Rattle.spur_graph.specs.Refusals.{test}
use Rattle.spur_graph.specs.Instances.{layout_of}
use Rattle.spur_graph.specs.Heaps.{heap_graph}
use Rattle.spur_heap.proofs.NodesAt.{node_there}
use Rattle.class_table.proofs.Made.{class_told, class_untold}
use Rattle.class_table.proofs.instances.instance_layout.Goals as goal

pub returns-in-Some-clause-refusal : goal.returns-in-Some-clause-refusal
returns-in-Some-clause-refusal c =
    let v = c.args.heap.now in
    let entered = sym c.is_entered.ensures ∙ c.if-not-is_entered.false in
    let slot = ap layout_of (node_there v c.args.class c.requires.there) ∙ sym c.in-Some.ensures in
    class_told (heap_graph v) c.args.class (int_of c.in-Some.layout.0) entered slot ∙ ap (λ b. test (not b) r.Class) (sym c.has_instances.ensures ∙ c.if-has_instances.true)

pub returns-in-Some-clause-layout : goal.returns-in-Some-clause-layout
returns-in-Some-clause-layout c = record {
  entered = sym c.is_entered.ensures ∙ c.if-not-is_entered.false;
  slot = ap layout_of (node_there c.args.heap.now c.args.class c.requires.there) ∙ sym c.in-Some.ensures;
  formed = sym c.has_instances.ensures ∙ c.if-has_instances.true;
}

pub returns-in_default-clause-refusal : goal.returns-in_default-clause-refusal
returns-in_default-clause-refusal c =
    let v = c.args.heap.now in
    let entered = sym c.is_entered.ensures ∙ c.if-not-is_entered.false in
    let slot = ap layout_of (node_there v c.args.class c.requires.there) ∙ sym c.in-Some.ensures in
    class_told (heap_graph v) c.args.class (int_of c.in-Some.layout.0) entered slot ∙ ap (λ b. test (not b) r.Class) (sym c.has_instances.ensures ∙ c.if-has_instances.false)

pub returns-in_default-2-clause-refusal : goal.returns-in_default-2-clause-refusal
returns-in_default-2-clause-refusal c =
    let v = c.args.heap.now in
    let entered = sym c.is_entered.ensures ∙ c.if-not-is_entered.false in
    class_untold (heap_graph v) c.args.class entered (ap layout_of (node_there v c.args.class c.requires.there) ∙ sym c.in_default.ensures)
