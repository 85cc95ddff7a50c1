use Rattle.std.proofs.Common.{length-append, length-take, length-drop, rules, arith, refl, ◌∙◌}
use Rattle.spur_io.proofs.FullReads.{told_more}
use Rattle.spur_io.proofs.full_reads.read_full.Goals as goal

pub pieces-preserved : goal.pieces-preserved
pieces-preserved g c = record {
  told = c.in_ok-count.ensures.same ∙ c.pieces.invariant.told;
  reads = search rules;
  writes = search rules;
  most = simp (length-append, length-take, length-drop) (omega (arith, c.in_ok-count.ensures.bound));
  front = told_more (g.F.Files.told c.pieces.files) (g.F.Files.told c.args.files.now) c.args.name.now c.pieces.into c.read_at.new.into _ c.args.at _ c.pieces.filled c.in_ok-count.count c.pieces.invariant.told
      c.in_ok-count.ensures.bytes refl (omega arith) c.in_ok-count.ensures.bound c.pieces.invariant.front;
}
