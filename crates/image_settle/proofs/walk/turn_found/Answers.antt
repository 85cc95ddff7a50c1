use Rattle.std.proofs.Common.{refl}
use Rattle.image_settle.proofs.walk.turn_found.Goals as goal

pub returns-then-not-found-clause-turned : goal.returns-then-not-found-clause-turned
returns-then-not-found-clause-turned c d m j low high = record { target = λ e is. absurd (c.requires.found c.if-not-found.true d m e); kept = λ n. refl; others = λ n. refl }
