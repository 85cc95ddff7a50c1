use Rattle.std.proofs.Common.{◌∙◌, sym, arith}
use Rattle.script_text.proofs.Digits.{number_digits, number_small}
use Rattle.script_text.proofs.number.number_of.Goals as goal

pub value_of-requires-clause-digits : goal.value_of-requires-clause-digits
value_of-requires-clause-digits c = number_digits c.args.word.now (sym c.is_number.ensures ∙ c.if-not-is_number.false)

pub value_of-requires-clause-small : goal.value_of-requires-clause-small
value_of-requires-clause-small c = let s = number_small c.args.word.now (sym c.is_number.ensures ∙ c.if-not-is_number.false) in omega arith

pub returns-clause-small : goal.returns-clause-small
returns-clause-small c = let s = number_small c.args.word.now (sym c.is_number.ensures ∙ c.if-not-is_number.false) in omega arith
