use Rattle.std.proofs.Common.{◌-◌}
use Rattle.heap_cells.specs.Settled.{settled_root}
use Rattle.image_settle.proofs.Mapped.{Mapped}
use Rattle.image_settle.proofs.object.settle_roots.Given as goal

abbrev pub ghost-settled_root : goal.ghost-settled_root
ghost-settled_root g a = g.h

abbrev pub invariant-roots : goal.invariant-roots
invariant-roots g l = Mapped (λ k w. settled_root g.h (k - l.from) w) l.fn.words l.words l.from l.j
