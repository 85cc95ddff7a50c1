use Rattle.std.proofs.Common.{◌≤◌, length, arith}
use Rattle.heap_cells.specs.Settled.{settled_word}
use Rattle.image_settle.proofs.Leading.{loose_written}
use Rattle.image_settle.proofs.Mapped.{next_mapped}
use Rattle.image_settle.proofs.object.settle_slots.Goals as goal

pub slots-preserved : goal.slots-preserved
slots-preserved g c =
    let i = c.slots.invariant in
    let within : c.args.to ≤ length c.args.words.now = c.requires.1.1.1.0 in
    record {
      leads = loose_written g.h c.slots.words i.leads c.slots.j c.settled_word.result (c.requires.1.1.1.1 c.slots.j (omega arith) c.slots-test.true);
      mapped = next_mapped (λ k w. settled_word g.h w) c.args.words.now c.slots.words c.args.from c.slots.j c.settled_word.result i.mapped (omega arith) (omega arith) c.settled_word.ensures;
    }
