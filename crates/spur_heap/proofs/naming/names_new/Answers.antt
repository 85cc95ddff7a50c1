use Rattle.std.proofs.Common.{◌≡◌, ◌<◌, ◌+◌, ◌||◌, sym, ap, ◌∙◌, arith, length}
use Rattle.spur_graph.specs.Cells.{pointer_count}
use Rattle.spur_graph.specs.Heaps.{is_over}
use Rattle.spur_heap.specs.Parts.{view_of}
use Rattle.spur_heap.specs.Words.{body_in}
use Rattle.spur_heap.proofs.OverSlots.{over_below, over_none, over_next, over_all, over_found, pointer_below, pointer_word}
use Rattle.spur_heap.proofs.naming.names_new.Goals as goal

pub slots-init : goal.slots-init
slots-init c = record { none = over_none (view_of c.args.parts.now) c.args.start }

-- the slot is one of the pointers
among : (c : goal.In-slots) → c.slots.i < pointer_count (body_in (view_of c.args.parts.now) c.args.start)
among c = let on = c.slots-test.true in let count = c.pointer_count_of-count.ensures.count in omega (arith, on, count)

inside : (c : goal.In-slots) → c.args.start + 1 + c.slots.i < length c.args.parts.now.region
inside c = pointer_below (view_of c.args.parts.now) c.requires.sound c.args.start c.requires.there c.slots.i (among c)

pub overflow_add-start : goal.overflow_add-start
overflow_add-start c = let far = inside c in let few = c.requires.sound.few in omega (arith, far, few)

pub overflow_add-start-in-slots : goal.overflow_add-start-in-slots
overflow_add-start-in-slots c = let far = inside c in let few = c.requires.sound.few in omega (arith, far, few)

pub get-requires : goal.get-requires
get-requires c = inside c

pub returns-then-is_new : goal.returns-then-is_new
returns-then-is_new c =
    let on = c.slots-test.true in
    let count = c.pointer_count_of-count.ensures.count in
    sym (over_found (view_of c.args.parts.now) c.requires.sound c.args.start c.requires.there c.slots.i (omega (arith, on, count)) (ap (is_over c.args.parts.now.old_end) (sym c.get.ensures) ∙ sym c.is_new.ensures ∙ c.if-is_new.true))

pub slots-preserved : goal.slots-preserved
slots-preserved c =
    let on = c.slots-test.true in
    let count = c.pointer_count_of-count.ensures.count in
    let word = pointer_word (view_of c.args.parts.now) c.requires.sound c.args.start c.requires.there c.slots.i (omega (arith, on, count)) in
    record {
      none = over_next (view_of c.args.parts.now) c.args.start c.slots.i
          ∙ (λ x. (ap (is_over c.args.parts.now.old_end) (word ∙ sym c.get.ensures) ∙ sym c.is_new.ensures ∙ c.if-is_new.false) x || c.slots.invariant.none x);
    }

pub returns : goal.returns
returns c =
    let off = c.slots-test.false in
    let end = c.slots.auto.i-end in
    let count = c.pointer_count_of-count.ensures.count in
    let i : c.slots.i ≡ pointer_count (body_in (view_of c.args.parts.now) c.args.start) = omega (arith, off, end, count) in
    sym (sym (over_all (view_of c.args.parts.now) c.requires.sound c.args.start c.requires.there) ∙ sym (ap (over_below (view_of c.args.parts.now) c.args.start) i) ∙ c.slots.invariant.none)
