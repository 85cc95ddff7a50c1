use Rattle.std.proofs.Common.{◌≤◌, ◌-◌, length, arith}
use Rattle.heap_cells.specs.Settled.{settled_root}
use Rattle.image_settle.proofs.Mapped.{next_mapped}
use Rattle.image_settle.proofs.object.settle_roots.Goals as goal

pub roots-preserved : goal.roots-preserved
roots-preserved g c =
    let within : c.args.to ≤ length c.args.words.now = c.requires.1.1 in
    next_mapped (λ k w. settled_root g.h (k - c.args.from) w) c.args.words.now c.roots.words c.args.from c.roots.j c.settled_root.result c.roots.invariant (omega arith) (omega arith) c.settled_root.ensures
