use Rattle.std.proofs.Common.{arith}
use Rattle.script_text.proofs.Texts.{decimal_length}
use Rattle.script_text.proofs.answer.put_number.Goals as goal

pub put_digits-requires : goal.put_digits-requires
put_digits-requires c = let s = decimal_length c.args.n (omega arith) in omega arith

pub returns-clause-len : goal.returns-clause-len
returns-clause-len c = let s = decimal_length c.args.n (omega arith) in omega arith
