use Rattle.std.proofs.Common.{◌≡◌, get_or, ap, arith, ◌∙◌}
use Rattle.std.proofs.lemmas.List.{get_or-set_other}
use Rattle.object_header.specs.Fields.{Fields}
use Rattle.object_header.specs.Head.{class_of}
use Rattle.image_settle.specs.Settles.{IsNext}
use Rattle.image_settle.proofs.Leading.{header_written}
use Rattle.image_settle.proofs.Slots.{next_written}
use Rattle.image_settle.proofs.object.settle_chunk.Goals as goal

pub settle_body-requires : goal.settle_body-requires
settle_body-requires g c =
    let words = c.args.words.now in
    let start = c.args.span.start in
    let w = c.cleared.result.0 in
    let n : IsNext g.h words (get_or words start 0) start c.args.span.slots = c.requires.1.1 in
    let class : class_of w ≡ class_of (get_or words start 0) = ap (λ (f : Fields). f.class) c.cleared.ensures.fields in
    let leads = header_written g.h words c.requires.1.0 start w (omega (arith, n.below)) class n.apart in
    (c.requires.0, (leads, next_written w n))

pub returns-clause-behind : goal.returns-clause-behind
returns-clause-behind g c = λ j l. c.settle_body.ensures.behind j l ∙ get_or-set_other c.args.words.now c.args.span.start j c.cleared.result.0 0 (λ e. omega (arith, e))
