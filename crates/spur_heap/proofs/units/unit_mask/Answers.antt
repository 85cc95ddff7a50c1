use Rattle.std.proofs.Common.{arith}
use Rattle.spur_heap.proofs.Sizes.{size_some, mask_is}
use Rattle.spur_heap.proofs.units.unit_mask.Goals as goal

pub overflow_mul-result : goal.overflow_mul-result
overflow_mul-result c = let small = size_some c.args.bytes c.requires.size in omega (arith, small)

pub overflow_sub-result : goal.overflow_sub-result
overflow_sub-result c = let small = size_some c.args.bytes c.requires.size in omega (arith, small)

pub overflow_shr-result : goal.overflow_shr-result
overflow_shr-result c = let small = size_some c.args.bytes c.requires.size in omega (arith, small)

pub returns : goal.returns
returns c = mask_is c.args.bytes c.requires.size
