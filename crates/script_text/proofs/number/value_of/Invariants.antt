use Rattle.std.proofs.Common.{◌≡◌, take}
use Rattle.std.specs.Str.Parse.{digits_value}
use Rattle.script_text.proofs.number.value_of.Given as goal

abbrev pub invariant-digits : goal.invariant-digits
invariant-digits l = l.value ≡ digits_value l.radix (take l.i l.digits)
