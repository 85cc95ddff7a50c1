use Rattle.std.proofs.Common.{◌+◌, ◌-◌, ◌*◌, arith}
use Rattle.object_header.proofs.Fields.{shl-field_of-le, sub-add-with_field, with_field-lt}
use Rattle.spur_heap.proofs.Sizes.{size_some}
use Rattle.spur_heap.proofs.units.with_unit.Goals as goal

pub overflow_shl-result : goal.overflow_shl-result
overflow_shl-result c = let some = size_some c.args.bytes c.requires.size in omega (arith, some, c.requires.place)

pub overflow_sub-result : goal.overflow_sub-result
overflow_sub-result c = rw c.unit_of.ensures (shl-field_of-le c.args.word c.args.lo (8 * c.args.bytes) c.requires.place)

pub overflow_shl-result-2 : goal.overflow_shl-result-2
overflow_shl-result-2 c = let some = size_some c.args.bytes c.requires.size in omega (arith, some, c.requires.place)

pub overflow_add-result : goal.overflow_add-result
overflow_add-result c =
    rw (c.unit_of.ensures, sub-add-with_field c.args.word c.args.lo (8 * c.args.bytes) c.args.value c.requires.place c.requires.fits)
    (record { fits = with_field-lt c.args.word c.args.lo (8 * c.args.bytes) c.args.value (64 - (c.args.lo + 8 * c.args.bytes)) (omega (arith, c.requires.place)) c.ranges.word.fits c.requires.fits })

pub returns : goal.returns
returns c = rw c.unit_of.ensures (sub-add-with_field c.args.word c.args.lo (8 * c.args.bytes) c.args.value c.requires.place c.requires.fits)
