use Rattle.std.proofs.Common.{◌*◌, ◌/◌, ◌^◌, arith, ap, ◌∙◌, bit_and}
use Rattle.std.proofs.lemmas.Nat.{and_mask}
use Rattle.object_header.specs.Field.{field_of}
use Rattle.spur_heap.proofs.Sizes.{size_some}
use Rattle.spur_heap.proofs.units.unit_of.Goals as goal

pub overflow_shr-result : goal.overflow_shr-result
overflow_shr-result c = let some = size_some c.args.bytes c.requires.size in omega (arith, some, c.requires.place)

pub returns : goal.returns
unfolding field_of
returns c = ap (bit_and (c.args.word / 2 ^ c.args.lo)) c.unit_mask.ensures ∙ and_mask (c.args.word / 2 ^ c.args.lo) (8 * c.args.bytes)
