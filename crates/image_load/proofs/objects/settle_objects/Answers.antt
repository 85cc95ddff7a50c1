use Rattle.std.proofs.Common.{◌≡◌, true, sym, ◌∙◌, arith}
use Rattle.spur_graph.specs.FileStores.{file_store}
use Rattle.image_words.specs.declared.image.ImageWords.{ImageWords}
use Rattle.image_checks.proofs.AtStarts.{checked_leads}
use Rattle.image_load.specs.Passes.{HasValues}
use Rattle.image_load.proofs.Inside.{pointer_inside}
use Rattle.image_load.proofs.Settling.{follows, ready, settled}
use Rattle.image_load.proofs.Telling.{told_slot, told_special, reaches_slots, accepted}
use Rattle.image_load.proofs.objects.settle_objects.Goals as goal

pub is_good_reference-is_good-requires-clause-image : goal.is_good_reference-is_good-requires-clause-image
is_good_reference-is_good-requires-clause-image c =
    (ready _ c.args.words.now c.check.new.words c.in-Ok.ensures.passed c.len-segments.ensures.rising c.requires.all c.requires.small).maps

pub is_good_reference-is_good-requires-clause-leads : goal.is_good_reference-is_good-requires-clause-leads
is_good_reference-is_good-requires-clause-leads c = checked_leads c.in-Ok.ensures.passed.forwarded.checked

pub settled_word-word-requires : goal.settled_word-word-requires
settled_word-word-requires c = (
  follows _ c.args.words.now c.check.new.words c.in-Ok.ensures.passed c.len-segments.ensures.rising c.requires.all c.requires.small,
  checked_leads c.in-Ok.ensures.passed.forwarded.checked,
)

pub settle-requires : goal.settle-requires
settle-requires c = ready _ c.args.words.now c.check.new.words c.in-Ok.ensures.passed c.len-segments.ensures.rising c.requires.all c.requires.small

pub returns-in-Err-clause-refused : goal.returns-in-Err-clause-refused
returns-in-Err-clause-refused c bytes limits t = c.in-Err.ensures.refused bytes limits c.args.special t

pub offset-requires-clause-within : goal.offset-requires-clause-within
offset-requires-clause-within c =
    let p = c.in-Ok.ensures.passed in
    omega (arith, pointer_inside p.forwarded.checked.cut c.in-Err-settle.slot c.in-Err-settle.ensures.least.is, c.requires.all, p.forwarded.long)

pub returns-in-Err-settle-clause-refused : goal.returns-in-Err-settle-clause-refused
returns-in-Err-settle-clause-refused c bytes limits t =
    let p = c.in-Ok.ensures.passed in
    told_slot c.args.map.now c.args.words.now (file_store c.args.map.now c.check.new.words) c.args.special c.in-Err-settle.slot c.offset.result c.offset.ensures c.in-Err-settle.ensures.least bytes limits t.special_is
    (reaches_slots t p.chunks_are p.forwarded p.classes)

pub returns-then-is_good-clause-settled : goal.returns-then-is_good-clause-settled
returns-then-is_good-clause-settled c =
    let e = c.in-Ok-settle.ensures in
    let v : HasValues c.args.map.now c.check.new.words c.args.special = record { pointers = e.least; special_there = sym c.is_good_reference-is_good.ensures ∙ c.if-is_good.true } in
    let f = c.in-Ok.found in
    let image : ImageWords = record { map = c.args.map; starts = record { ref_ptr = c.args.map.ref_ptr; now = f.starts }; ordinary = record { ref_ptr = c.args.map.ref_ptr; now = f.ordinary }; roots = f.roots } in
    settled image c.args.words.now c.check.new.words c.in-Ok.ensures.passed c.len-segments.ensures.rising c.requires.all c.requires.small
    c.args.special v c.settle.new.words c.settled_word-word.result c.settled_word-word.ensures e.same_len e.settled e.cut e.chunks e.clear

pub returns-then-is_good-clause-accepted : goal.returns-then-is_good-clause-accepted
returns-then-is_good-clause-accepted c bytes limits t =
    let p = c.in-Ok.ensures.passed in
    let v : HasValues c.args.map.now c.check.new.words c.args.special = record { pointers = c.in-Ok-settle.ensures.least; special_there = sym c.is_good_reference-is_good.ensures ∙ c.if-is_good.true } in
    accepted t p.chunks_are p.forwarded p.classes v

pub returns-clause-refused : goal.returns-clause-refused
returns-clause-refused c bytes limits t =
    let p = c.in-Ok.ensures.passed in
    told_special c.args.map.now c.args.words.now (file_store c.args.map.now c.check.new.words) c.args.special c.in-Ok-settle.ensures.least (sym c.is_good_reference-is_good.ensures ∙ c.if-is_good.false) bytes limits t.special_is
    (reaches_slots t p.chunks_are p.forwarded p.classes)
