use Rattle.std.proofs.Common.{◌-◌, arith}
use Rattle.std.proofs.lemmas.Grind.{common_steps}
use Rattle.std.proofs.lemmas.List.Edits.{map_over_more}
use Rattle.spur_io.proofs.listed_calls.bring_nearer.Goals as goal

pub numbers-preserved : goal.numbers-preserved
numbers-preserved c = grind (arith, common_steps, map_over_more (λ n. n - 1))
