use Rattle.handle_table.proofs.Held.{distinct}
use Rattle.handle_table.proofs.index.Index.len.Goals as goal

pub returns-clause-distinct : goal.returns-clause-distinct
returns-clause-distinct c = distinct c.self.inside.held.items _ c.self.view_is c.self.invariant.0.apart
