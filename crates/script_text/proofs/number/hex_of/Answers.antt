use Rattle.std.proofs.Common.{◌∙◌, sym, arith}
use Rattle.script_text.proofs.Digits.{hex_bound}
use Rattle.script_text.proofs.number.hex_of.Goals as goal

pub value_of-requires-clause-small : goal.value_of-requires-clause-small
value_of-requires-clause-small c = let s = hex_bound c.args.word.now (sym c.is_hex.ensures ∙ c.if-not-is_hex.false) in omega arith

pub overflow_cast-result : goal.overflow_cast-result
overflow_cast-result c = let s = hex_bound c.args.word.now (sym c.is_hex.ensures ∙ c.if-not-is_hex.false) in omega arith
