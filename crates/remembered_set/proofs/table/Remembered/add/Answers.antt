use Rattle.std.proofs.Common.{}
use Rattle.remembered_set.proofs.Distinct.{distinct-push}
use Rattle.remembered_set.proofs.table.Remembered.add.Goals as goal

pub invariant_of-self : goal.invariant_of-self
invariant_of-self c = rw c.push_reserved.ensures.items (distinct-push _ _ c.self.invariant (rw (← c.self.view_is) at c.requires.absent))
