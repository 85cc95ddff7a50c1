use Rattle.std.proofs.Common.{◌∙◌}
use Rattle.pinning.proofs.Copying.{can_take, copied}
use Rattle.spur_heap.proofs.SpotsAt.{old_told}
use Rattle.pinning.proofs.pins.copy_to_old.Goals as goal

pub copy_contents-requires-clause-can : goal.copy_contents-requires-clause-can
copy_contents-requires-clause-can c =
    let v = c.args.heap.now in
    let s = c.args.start in
    let whole = c.whole.ensures.whole in
    can_take v c.allocate.new.self s c.in-Ok.copy c.slot_count-slots.result whole c.whole.ensures.closed c.requires.there c.in-Ok.ensures.made c.whole-in-Ok.ensures.whole
    (old_told v whole s c.requires.there ∙ c.requires.young) c.slot_count-slots.ensures.slots

pub returns-in-Ok-clause-copied : goal.returns-in-Ok-clause-copied
returns-in-Ok-clause-copied c =
    let v = c.args.heap.now in
    copied v c.allocate.new.self c.args.start c.in-Ok.copy c.slot_count-slots.result c.whole.ensures.whole c.whole.ensures.closed c.requires.there c.in-Ok.ensures.made
    c.requires.young (c.slot_count-slots.ensures.young c.requires.young) c.whole-in-Ok.ensures.whole c.copy_contents.new.self c.hash-hash.result (c.hash-hash.ensures.value ∙ c.header.ensures.hash)
    c.copy_contents.ensures.graph c.copy_contents.ensures.room c.copy_contents.ensures.ordinary c.copy_contents.ensures.rest
