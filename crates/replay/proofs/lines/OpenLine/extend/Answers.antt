use Rattle.std.proofs.Common.{◌∙◌, ap, take}
use Rattle.replay.proofs.ScriptLines.{extended}
use Rattle.replay.proofs.lines.OpenLine.extend.Goals as goal

pub returns : goal.returns
returns c =
    rw (← c.self.view_is) (extended c.try_extend_from_slice-fits.result c.self.inside.kept.items c.try_extend_from_slice-fits.new.self.items c.args.bytes.now c.split_at.result.0.now c.remaining_capacity-room.result
    c.remaining_capacity-room.ensures (c.split_at.ensures.front ∙ ap (λ n. take n c.args.bytes.now) c.min.ensures) c.try_extend_from_slice-fits.ensures.variant.1 c.try_extend_from_slice-fits.ensures.ok)
