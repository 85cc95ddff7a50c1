-- The words of a table, lent to be written.
use Rattle.std.specs.Prelude.{ℕ, List, length}
use Rattle.std.specs.List.{refill}
use Rattle.std.specs.Borrow.{Lends, MutBor, Fml, u64, Array}
use Rattle.handle_table.specs.Handles.{Bindings}
use Rattle.handle_table.specs.contracts.table.HandleTable.{the_row}

-- a table ends with the last words behind the lent slice, and else as it was
abbrev pub LendsWords : MutBor Bindings → MutBor (List ℕ) → Fml
LendsWords table words = Lends the_row (Array u64 0) table words (λ ws. record table.now { words = refill (length table.now.words) table.now.words ws })
