use Rattle.std.proofs.Common.{◌∙◌}
use Rattle.lazy_become.proofs.Pieces.{HasSlots, is_served, is_refused}
use Rattle.lazy_become.proofs.Copies.{Makes, Copies, first_can, second_can, copies_both}
use Rattle.lazy_become.proofs.exchanging.copy_both.Goals as goal

pub copy_contents-requires-clause-can : goal.copy_contents-requires-clause-can
copy_contents-requires-clause-can c =
    let v = c.args.heap.now in
    let slots : HasSlots v c.args.a c.args.b c.slot_count-2.result c.slot_count.result = record {
      first = c.slot_count-2.ensures.slots;
      second = c.slot_count.ensures.slots;
      first_spot = c.slot_count-2.ensures.spot;
      second_spot = c.slot_count.ensures.spot;
    } in
    let u = c.make_pair.new.self in
    let made : Makes v u c.args.a c.args.b c.in-Ok.first c.in-Ok.second c.slot_count-2.result c.slot_count.result = record {
      closed = c.whole.ensures.closed;
      there_a = c.requires.first;
      there_b = c.requires.second;
      can = c.requires.can;
      slots = slots;
      pair = c.in-Ok.ensures.made;
    } in
    first_can made

pub copy_contents-requires-in-Ok-clause-source : goal.copy_contents-requires-in-Ok-clause-source
copy_contents-requires-in-Ok-clause-source c =
    c.copy_contents.ensures.ordinary c.args.a (c.in-Ok.ensures.made.ordinary c.args.a c.requires.first)

pub copy_contents-requires-in-Ok-clause-target : goal.copy_contents-requires-in-Ok-clause-target
copy_contents-requires-in-Ok-clause-target c =
    c.copy_contents.ensures.ordinary c.in-Ok.second c.in-Ok.ensures.made.there_second

pub copy_contents-requires-in-Ok-clause-can : goal.copy_contents-requires-in-Ok-clause-can
copy_contents-requires-in-Ok-clause-can c =
    let v = c.args.heap.now in
    let slots : HasSlots v c.args.a c.args.b c.slot_count-2.result c.slot_count.result = record {
      first = c.slot_count-2.ensures.slots;
      second = c.slot_count.ensures.slots;
      first_spot = c.slot_count-2.ensures.spot;
      second_spot = c.slot_count.ensures.spot;
    } in
    let u = c.make_pair.new.self in
    let made : Makes v u c.args.a c.args.b c.in-Ok.first c.in-Ok.second c.slot_count-2.result c.slot_count.result = record {
      closed = c.whole.ensures.closed;
      there_a = c.requires.first;
      there_b = c.requires.second;
      can = c.requires.can;
      slots = slots;
      pair = c.in-Ok.ensures.made;
    } in
    let w = c.copy_contents.new.self in
    let one : Copies u w c.args.b c.in-Ok.first c.hash-first_hash.result = record {
      graph = c.copy_contents.ensures.graph;
      room = c.copy_contents.ensures.room;
      ordinary = c.copy_contents.ensures.ordinary;
      others = c.copy_contents.ensures.others;
      chunks = c.copy_contents.ensures.chunks;
      rest = c.copy_contents.ensures.rest;
    } in
    second_can made one (c.hash-first_hash.ensures.value ∙ c.header.ensures.hash) c.whole-in-Ok.ensures.whole c.whole-in-Ok-2.ensures.whole

pub returns-in-Ok-clause-refusal : goal.returns-in-Ok-clause-refusal
returns-in-Ok-clause-refusal c =
    let v = c.args.heap.now in
    let slots : HasSlots v c.args.a c.args.b c.slot_count-2.result c.slot_count.result = record {
      first = c.slot_count-2.ensures.slots;
      second = c.slot_count.ensures.slots;
      first_spot = c.slot_count-2.ensures.spot;
      second_spot = c.slot_count.ensures.spot;
    } in
    is_served v c.args.a c.args.b c.requires.can slots c.in-Ok.ensures.made.served c.in-Ok.ensures.made.serves

pub returns-in-Ok-clause-copied : goal.returns-in-Ok-clause-copied
returns-in-Ok-clause-copied c =
    let v = c.args.heap.now in
    let slots : HasSlots v c.args.a c.args.b c.slot_count-2.result c.slot_count.result = record {
      first = c.slot_count-2.ensures.slots;
      second = c.slot_count.ensures.slots;
      first_spot = c.slot_count-2.ensures.spot;
      second_spot = c.slot_count.ensures.spot;
    } in
    let u = c.make_pair.new.self in
    let made : Makes v u c.args.a c.args.b c.in-Ok.first c.in-Ok.second c.slot_count-2.result c.slot_count.result = record {
      closed = c.whole.ensures.closed;
      there_a = c.requires.first;
      there_b = c.requires.second;
      can = c.requires.can;
      slots = slots;
      pair = c.in-Ok.ensures.made;
    } in
    let w = c.copy_contents.new.self in
    let one : Copies u w c.args.b c.in-Ok.first c.hash-first_hash.result = record {
      graph = c.copy_contents.ensures.graph;
      room = c.copy_contents.ensures.room;
      ordinary = c.copy_contents.ensures.ordinary;
      others = c.copy_contents.ensures.others;
      chunks = c.copy_contents.ensures.chunks;
      rest = c.copy_contents.ensures.rest;
    } in
    let t = c.copy_contents-in-Ok.new.self in
    let two : Copies w t c.args.a c.in-Ok.second c.hash-second_hash.result = record {
      graph = c.copy_contents-in-Ok.ensures.graph;
      room = c.copy_contents-in-Ok.ensures.room;
      ordinary = c.copy_contents-in-Ok.ensures.ordinary;
      others = c.copy_contents-in-Ok.ensures.others;
      chunks = c.copy_contents-in-Ok.ensures.chunks;
      rest = c.copy_contents-in-Ok.ensures.rest;
    } in
    copies_both made one (c.hash-first_hash.ensures.value ∙ c.header.ensures.hash) c.whole-in-Ok.ensures.whole c.whole-in-Ok-2.ensures.whole two (c.hash-second_hash.ensures.value ∙ c.header-2.ensures.hash)

pub returns-in-Err-clause-refusal : goal.returns-in-Err-clause-refusal
returns-in-Err-clause-refusal c =
    let v = c.args.heap.now in
    let slots : HasSlots v c.args.a c.args.b c.slot_count-2.result c.slot_count.result = record {
      first = c.slot_count-2.ensures.slots;
      second = c.slot_count.ensures.slots;
      first_spot = c.slot_count-2.ensures.spot;
      second_spot = c.slot_count.ensures.spot;
    } in
    is_refused v c.args.a c.args.b c.requires.can slots c.in-Err.full c.in-Err.ensures.unserved c.in-Err.ensures.full
