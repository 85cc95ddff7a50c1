use Rattle.std.proofs.Common.{sym}
use Rattle.marker.proofs.Gathering.{other_lives}
use Rattle.marker.proofs.rounds.is_dying.Goals as goal

pub returns-then-not-has_format : goal.returns-then-not-has_format
returns-then-not-has_format c = sym (other_lives c.args.heap.now c.args.start (c.has_format.ensures.no c.if-not-has_format.true))
