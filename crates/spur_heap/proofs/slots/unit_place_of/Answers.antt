use Rattle.std.proofs.Common.{◌*◌, ◌<◌, ◌^◌, ap, sym, ◌∙◌, subst, arith}
use Rattle.object_header.specs.Formats.{unit_bytes_of}
use Rattle.spur_heap.specs.Parts.{view_of}
use Rattle.spur_heap.proofs.SlotCounts.{at_start, place_inside, place_small, place_made}
use Rattle.spur_heap.proofs.slots.unit_place_of.Goals as goal

pub overflow_add-result : goal.overflow_add-result
overflow_add-result c = let few = c.requires.sound.few in omega (arith, (at_start (view_of c.args.parts.now) c.requires.sound c.args.start c.requires.there).below, few)

pub overflow_add-result-2 : goal.overflow_add-result-2
overflow_add-result-2 c =
    let few = c.requires.sound.few in
    let far = place_inside (view_of c.args.parts.now) c.requires.sound c.args.start c.requires.there c.args.i c.requires.within in
    omega (arith, far, few, c.pointer_count_of.ensures.count)

pub overflow_mul-result : goal.overflow_mul-result
overflow_mul-result c =
    let small = place_small (view_of c.args.parts.now) c.requires.sound c.args.start c.requires.there c.args.i c.requires.within in
    let bytes = c.unit_bytes-bytes.ensures ∙ ap unit_bytes_of c.format_of.ensures in
    let read : c.args.i * c.unit_bytes-bytes.result < 2 ^ 30 = subst (λ n. c.args.i * n < 2 ^ 30) (sym bytes) small in
    omega (arith, read)

pub overflow_add-result-3 : goal.overflow_add-result-3
overflow_add-result-3 c =
    let few = c.requires.sound.few in
    let far = place_inside (view_of c.args.parts.now) c.requires.sound c.args.start c.requires.there c.args.i c.requires.within in
    let bytes = c.unit_bytes-bytes.ensures ∙ ap unit_bytes_of c.format_of.ensures in
    let place = place_made (view_of c.args.parts.now) c.requires.sound c.args.start c.requires.there c.args.i c.requires.within c.pointer_count_of.result c.unit_bytes-bytes.result c.pointer_count_of.ensures.count bytes in
    omega (arith, far, few, place)

pub returns-clause-inside : goal.returns-clause-inside
returns-clause-inside c =
    let far = place_inside (view_of c.args.parts.now) c.requires.sound c.args.start c.requires.there c.args.i c.requires.within in
    let bytes = c.unit_bytes-bytes.ensures ∙ ap unit_bytes_of c.format_of.ensures in
    let place = place_made (view_of c.args.parts.now) c.requires.sound c.args.start c.requires.there c.args.i c.requires.within c.pointer_count_of.result c.unit_bytes-bytes.result c.pointer_count_of.ensures.count bytes in
    omega (arith, far, place)

pub returns-clause-small : goal.returns-clause-small
returns-clause-small c = place_small (view_of c.args.parts.now) c.requires.sound c.args.start c.requires.there c.args.i c.requires.within
