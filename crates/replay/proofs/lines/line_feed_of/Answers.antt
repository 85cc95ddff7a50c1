use Rattle.replay.proofs.ScriptLines.{feed_is}
use Rattle.replay.proofs.lines.line_feed_of.Goals as goal

pub returns : goal.returns
returns c = feed_is c.args.bytes.now c.memchr.result c.memchr.ensures
