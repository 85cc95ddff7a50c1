use Rattle.std.proofs.Common.{sym, ◌∙◌, subst}
use Rattle.std.proofs.lemmas.Bool.{false_from_ne_true}
use Rattle.spur_graph.specs.Heaps.{View, IsWhole}
use Rattle.spur_heap.proofs.Mourned.{waits_fired}
use Rattle.spur_heap.proofs.Puts.{fields_are}
use Rattle.spur_heap.proofs.heap.Heap.is_mourner.Goals as goal

pub returns-then-format-ne-NAMED_SLOTS_FORMAT : goal.returns-then-format-ne-NAMED_SLOTS_FORMAT
returns-then-format-ne-NAMED_SLOTS_FORMAT c =
    let v = c.args.self.now in
    let whole : IsWhole v = subst (λ (u : View). IsWhole u) c.self.view_is c.self.invariant.whole in
    sym (false_from_ne_true _ (λ on. c.if-format-ne-NAMED_SLOTS_FORMAT.true
    (c.format.ensures.value ∙ c.header.ensures.format ∙ (fields_are v whole c.args.start c.requires.there).format ∙ waits_fired v whole.mourners c.args.start on)))
