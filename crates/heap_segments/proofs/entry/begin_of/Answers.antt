use Rattle.std.proofs.Common.{arith}
use Rattle.spur_graph.specs.ImageFile.{header_bytes}
use Rattle.heap_segments.proofs.Laid.{begins}
use Rattle.heap_segments.proofs.entry.begin_of.Goals as goal

pub returns : goal.returns
returns c = omega (arith, begins header_bytes 0 0 c.args.entries.now c.args.i c.requires.laid c.if-i-entries.false)
