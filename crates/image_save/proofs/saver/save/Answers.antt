use Rattle.std.proofs.Common.{◌<◌, ◌^◌, subst}
use Rattle.std.specs.List.{All}
use Rattle.spur_graph.specs.Denotes.{Denotes}
use Rattle.spur_heap.specs.Parts.{view_of}
use Rattle.image_save.specs.Saved.{saved_text}
use Rattle.image_save.specs.Denotes.{bare_graph}
use Rattle.image_save.proofs.Denoting.{saved_denotes}
use Rattle.image_save.proofs.saver.save.Goals as goal

pub returns-clause-denotes : goal.returns-clause-denotes
returns-clause-denotes g c =
    subst (λ v. Denotes (saved_text v) (bare_graph v)) c.heap.view_is
    (saved_denotes (view_of c.heap.inside.parts) c.heap.invariant.whole (subst (All (λ w. w < 2 ^ 64)) c.as_slice.ensures c.words_fit.ensures))
