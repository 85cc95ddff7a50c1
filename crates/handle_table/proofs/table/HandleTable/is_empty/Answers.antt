use Rattle.handle_table.specs.Handles.{Bindings, held}
use Rattle.handle_table.proofs.Bound.{is_empty_map}
use Rattle.handle_table.proofs.table.HandleTable.is_empty.Goals as goal

pub returns : goal.returns
returns c = is_empty_map (held c.args.self.now) c.len.result c.len.ensures.len
