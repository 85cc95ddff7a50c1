use Rattle.std.proofs.Common.{List, ℕ, subst, ap, sym, ◌∙◌, arith}
use Rattle.object_header.specs.Chunks.{StandsAt, slots_at}
use Rattle.object_header.specs.Formats.{unit_bytes_of, unused_of}
use Rattle.heap_cells.proofs.ObjectReads.{object-slots}
use Rattle.spur_heap.specs.Parts.{view_of}
use Rattle.spur_heap.proofs.Orders.{order}
use Rattle.spur_heap.proofs.SlotCounts.{at_start, no_units, units_left}
use Rattle.spur_heap.proofs.slots.unit_count_of.Goals as goal

pub slots_of-requires : goal.slots_of-requires
slots_of-requires c = subst (λ (ws : List ℕ). StandsAt ws c.args.start) (sym c.as_slice.ensures) (at_start (view_of c.args.parts.now) c.requires.sound c.args.start c.requires.there)

pub overflow_sub-slots : goal.overflow_sub-slots
overflow_sub-slots c =
    let slots = object-slots _ c.args.parts.now.region _ (order (view_of c.args.parts.now) c.requires.sound) c.args.start c.requires.there in
    let told = c.slots_of.ensures.value ∙ ap (λ (ws : List ℕ). slots_at ws c.args.start) c.as_slice.ensures in
    omega (arith, slots, told, c.pointer_count_of.ensures.fits)

pub overflow_sub-result : goal.overflow_sub-result
overflow_sub-result c =
    (units_left (view_of c.args.parts.now) c.requires.sound c.args.start c.requires.there c.slots_of.result c.pointer_count_of.result c.unit_bytes.result c.unused.result
    (c.slots_of.ensures.value ∙ ap (λ (ws : List ℕ). slots_at ws c.args.start) c.as_slice.ensures ∙ sym (object-slots _ c.args.parts.now.region _ (order (view_of c.args.parts.now) c.requires.sound) c.args.start c.requires.there))
    c.pointer_count_of.ensures.count (c.unit_bytes.ensures ∙ ap unit_bytes_of c.format_of-format.ensures) (c.unused.ensures ∙ ap unused_of c.format_of-format.ensures) (λ none. omega (arith, none))).0

pub returns-in-0 : goal.returns-in-0
returns-in-0 c = no_units (view_of c.args.parts.now) c.requires.sound c.args.start c.requires.there c.unit_bytes.result (c.unit_bytes.ensures ∙ ap unit_bytes_of c.format_of-format.ensures) c.in-0.is

pub returns-in_default : goal.returns-in_default
returns-in_default c =
    (units_left (view_of c.args.parts.now) c.requires.sound c.args.start c.requires.there c.slots_of.result c.pointer_count_of.result c.unit_bytes.result c.unused.result
    (c.slots_of.ensures.value ∙ ap (λ (ws : List ℕ). slots_at ws c.args.start) c.as_slice.ensures ∙ sym (object-slots _ c.args.parts.now.region _ (order (view_of c.args.parts.now) c.requires.sound) c.args.start c.requires.there))
    c.pointer_count_of.ensures.count (c.unit_bytes.ensures ∙ ap unit_bytes_of c.format_of-format.ensures) (c.unused.ensures ∙ ap unused_of c.format_of-format.ensures) (λ none. omega (arith, none))).1
