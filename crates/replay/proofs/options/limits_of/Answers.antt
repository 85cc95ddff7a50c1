use Rattle.std.proofs.Common.{map, sym, subst}
use Rattle.std.specs.String.{string_bytes}
use Rattle.image_load.specs.Loaded.{AreLimits}
use Rattle.replay.proofs.Words.{told_limits}
use Rattle.replay.proofs.options.limits_of.Goals as goal

pub returns-clause-limits : goal.returns-clause-limits
returns-clause-limits c = subst AreLimits (sym c.limits.ensures) (told_limits (map string_bytes c.args.options.now) c.in_ok-told_by.field-0 c.in_ok-told_by.ensures.some)
