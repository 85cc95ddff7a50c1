use Rattle.std.proofs.Common.{◌≡◌, ◌+◌, refl, ap, arith}
use Rattle.spur_heap.specs.Parts.{view_of}
use Rattle.image_save.specs.Saved.{cut}
use Rattle.image_save.proofs.Trims.{cut_told}
use Rattle.image_save.proofs.Parts.{spaced}
use Rattle.image_save.proofs.places.places_of.Goals as goal

pub overflow_add-past_from : goal.overflow_add-past_from
overflow_add-past_from c =
    let v = view_of c.args.parts.now in
    let p = spaced v c.requires in
    let is : c.kept_end-cut.result ≡ cut v = cut_told v c.as_slice.result.now c.kept_end-cut.result c.as_slice.ensures c.kept_end-cut.ensures in
    let few = c.requires.few in
    omega (arith, is, p.old, p.eden, p.past, few)

pub overflow_add-result-2 : goal.overflow_add-result-2
overflow_add-result-2 c =
    let v = view_of c.args.parts.now in
    let p = spaced v c.requires in
    let is : c.kept_end-cut.result ≡ cut v = cut_told v c.as_slice.result.now c.kept_end-cut.result c.as_slice.ensures c.kept_end-cut.ensures in
    let few = c.requires.few in
    omega (arith, is, p.old, p.eden, p.past, few)

pub returns : goal.returns
returns c =
    let v = view_of c.args.parts.now in
    let p = spaced v c.requires in
    let is : c.kept_end-cut.result ≡ cut v = cut_told v c.as_slice.result.now c.kept_end-cut.result c.as_slice.ensures c.kept_end-cut.ensures in
    record {
      cut_is = is;
      eden_is = refl;
      eden_end_is = refl;
      past_from_is = ap (λ n. n + v.spaces.eden_used) is;
      past_is = refl;
      words_is = ap (λ n. n + v.spaces.eden_used + v.spaces.past_used) is;
      base_is = c.base_of.ensures;
      lists_is = c.first_start.ensures.start;
      low = c.requires.header.low;
      eden_behind = p.old;
      past_behind = p.eden;
      within = p.past;
      few = c.requires.few;
    }
