use Rattle.std.proofs.Common.{◌∙◌, sym}
use Rattle.spur_heap.proofs.Leads.{root_start}
use Rattle.read_barrier.proofs.Telling.{object_shown}
use Rattle.read_barrier.proofs.values.shown_object.Goals as goal

pub returns-else-start-named_start-3 : goal.returns-else-start-named_start-3
returns-else-start-named_start-3 c =
    let v = c.args.heap.now in
    let nil = root_start v 0 c.nil.result c.named_start.result c.nil.ensures.word c.named_start.ensures in
    let no = root_start v 1 c.no.result c.named_start-else-start-named_start.result c.no.ensures.word c.named_start-else-start-named_start.ensures in
    let yes = root_start v 2 c.yes.result c.named_start-else-start-named_start-2.result c.yes.ensures.word c.named_start-else-start-named_start-2.ensures in
    object_shown v c.args.start c.class.result c.format.result c.requires.there (λ e. c.if-start-named_start.false (e ∙ sym nil)) (λ e. c.if-start-named_start-2.false (e ∙ sym no)) (λ e. c.if-start-named_start-3.false (e ∙ sym yes))
    (c.class.ensures.value ∙ c.header-header.ensures.class) (c.format.ensures.value ∙ c.header-header.ensures.format)
