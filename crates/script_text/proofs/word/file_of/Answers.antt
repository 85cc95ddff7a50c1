use Rattle.std.proofs.Common.{◌∙◌, sym}
use Rattle.script_text.proofs.Digits.{file_utf8}
use Rattle.script_text.proofs.word.file_of.Goals as goal

pub from_utf8_unchecked-text-requires : goal.from_utf8_unchecked-text-requires
from_utf8_unchecked-text-requires c = file_utf8 c.args.word.now (sym c.is_file_name.ensures ∙ c.if-not-is_file_name.false)
