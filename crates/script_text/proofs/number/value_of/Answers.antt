use Rattle.std.proofs.Common.{refl, arith, get_or}
use Rattle.std.specs.Char.{digit_value}
use Rattle.spur_graph.specs.Words.{is_hex_digit}
use Rattle.script_text.proofs.Digits.{step, all_at}
use Rattle.script_text.proofs.number.value_of.Goals as goal

pub value_of_digit-requires : goal.value_of_digit-requires
value_of_digit-requires c = all_at is_hex_digit c.args.digits.now c.digits.i c.requires.digits (omega arith)

pub overflow_mul-value : goal.overflow_mul-value
overflow_mul-value c = let s = step c.args.radix c.args.digits.now c.digits.i c.digits.value (digit_value (get_or c.args.digits.now c.digits.i 0)) c.requires.radix (omega arith) c.digits.invariant refl in omega arith

pub overflow_add-value : goal.overflow_add-value
overflow_add-value c = let s = step c.args.radix c.args.digits.now c.digits.i c.digits.value c.value_of_digit.result c.requires.radix (omega arith) c.digits.invariant c.value_of_digit.ensures in omega arith

pub digits-preserved : goal.digits-preserved
digits-preserved c = (step c.args.radix c.args.digits.now c.digits.i c.digits.value c.value_of_digit.result c.requires.radix (omega arith) c.digits.invariant c.value_of_digit.ensures).0
