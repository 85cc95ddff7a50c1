use Rattle.std.proofs.Common.{subst, arith}
use Rattle.spur_heap.specs.Parts.{view_of}
use Rattle.image_save.specs.Places.{IsAt}
use Rattle.image_save.proofs.Ready.{ready_next}
use Rattle.image_save.proofs.cursor.advance.Goals as goal

pub returns-then-at-cursor-clause-ready : goal.returns-then-at-cursor-clause-ready
returns-then-at-cursor-clause-ready c = ready_next (view_of c.args.parts.now) c.requires.whole c.args.i c.look.result (subst (λ q. IsAt (view_of c.args.parts.now) q c.look.result) c.requires.place c.look.ensures)

pub returns-else-at-cursor-clause-ready : goal.returns-else-at-cursor-clause-ready
returns-else-at-cursor-clause-ready c = ready_next (view_of c.args.parts.now) c.requires.whole c.args.i c.args.cursor.now (c.requires.ready.at c.requires.inside (omega (arith, c.requires.place, c.if-at-cursor.false)))
