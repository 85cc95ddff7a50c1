use Rattle.std.proofs.Common.{◌∙◌, sym}
use Rattle.script_text.proofs.Digits.{name_utf8}
use Rattle.script_text.proofs.word.name_of.Goals as goal

pub from_utf8_unchecked-text-requires : goal.from_utf8_unchecked-text-requires
from_utf8_unchecked-text-requires c = name_utf8 c.args.word.now (sym c.is_handle_name.ensures ∙ c.if-not-is_handle_name.false)
