use Rattle.std.proofs.Common.{◌≡◌, ◌+◌, false, sym, ap, ◌∙◌, arith}
use Rattle.object_header.specs.Head.{class_of, is_unformed}
use Rattle.object_header.specs.Chunks.{chunk_of}
use Rattle.spur_heap.specs.Parts.{view_of}
use Rattle.image_save.proofs.Looks.{here, there_by, at_unformed, at_object}
use Rattle.image_save.proofs.cursor.look.Goals as goal

pub get-requires : goal.get-requires
get-requires c = (here (view_of c.args.parts.now) c.requires.whole c.args.at c.requires.begins).inside

pub span_of-span-requires : goal.span_of-span-requires
span_of-span-requires c = let h = here (view_of c.args.parts.now) c.requires.whole c.args.at c.requires.begins in omega (arith, h.inside, c.requires.places.few)

pub get-requires-2 : goal.get-requires-2
get-requires-2 c =
    let h = here (view_of c.args.parts.now) c.requires.whole c.args.at c.requires.begins in
    let start : c.span_of-span.result.start ≡ c.requires.begins.chunk.start = c.span_of-span.ensures.start ∙ ap (λ w. (chunk_of c.args.at w).start) c.get.ensures ∙ sym h.start in
    omega (arith, start, h.header)

pub returns-then-is_unformed : goal.returns-then-is_unformed
returns-then-is_unformed c =
    at_unformed (view_of c.args.parts.now) c.requires.whole c.args.at c.requires.begins c.span_of-span.result.start c.span_of-span.result.end
    (c.span_of-span.ensures.start ∙ ap (λ w. (chunk_of c.args.at w).start) c.get.ensures)
    (c.span_of-span.ensures.end ∙ ap (λ w. c.args.at + (chunk_of c.args.at w).size) c.get.ensures)
    (ap (λ w. is_unformed (class_of w)) (sym c.get-2.ensures) ∙ sym c.is_unformed.ensures ∙ c.if-is_unformed.true)

pub pointer_count_of-requires-clause-there : goal.pointer_count_of-requires-clause-there
pointer_count_of-requires-clause-there c =
    there_by (view_of c.args.parts.now) c.requires.whole c.args.at c.requires.begins c.span_of-span.result.start c.span_of-span.result.end
    (c.span_of-span.ensures.start ∙ ap (λ w. (chunk_of c.args.at w).start) c.get.ensures)
    false (ap (λ w. is_unformed (class_of w)) (sym c.get-2.ensures) ∙ sym c.is_unformed.ensures ∙ c.if-is_unformed.false)

pub returns : goal.returns
returns c =
    at_object (view_of c.args.parts.now) c.requires.whole c.args.at c.requires.begins c.span_of-span.result.start c.span_of-span.result.end
    (c.span_of-span.ensures.start ∙ ap (λ w. (chunk_of c.args.at w).start) c.get.ensures)
    c.pointer_count_of.result
    (c.span_of-span.ensures.end ∙ ap (λ w. c.args.at + (chunk_of c.args.at w).size) c.get.ensures)
    (ap (λ w. is_unformed (class_of w)) (sym c.get-2.ensures) ∙ sym c.is_unformed.ensures ∙ c.if-is_unformed.false)
    c.pointer_count_of.ensures.count
