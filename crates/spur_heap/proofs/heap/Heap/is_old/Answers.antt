use Rattle.std.proofs.Common.{ap, ◌∙◌, subst}
use Rattle.std.specs.Prelude.{nat_lt}
use Rattle.spur_graph.specs.Heaps.{View, IsWhole}
use Rattle.spur_heap.proofs.SpotsAt.{old_told}
use Rattle.spur_heap.proofs.heap.Heap.is_old.Goals as goal

pub returns-clause-room : goal.returns-clause-room
returns-clause-room c =
    let whole : IsWhole c.args.self.now = subst (λ (v : View). IsWhole v) c.self.view_is c.self.invariant.whole in
    ap (λ (v : View). nat_lt c.args.start v.spaces.old_end) c.self.view_is ∙ old_told c.args.self.now whole c.args.start c.requires.there
