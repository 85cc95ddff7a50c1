use Rattle.std.proofs.Common.{arith}
use Rattle.script_text.proofs.Texts.{hex_none, hex_more}
use Rattle.script_text.proofs.answer.+put_hex.Goals as goal

pub returns-then-count-gt0-clause-items : goal.returns-then-count-gt0-clause-items
returns-then-count-gt0-clause-items t c = hex_more c.args.out.now.items c.put_hex.new.out.items c.push.new.self.items c.args.count c.args.w _ (omega arith) c.put_hex.ensures.items c.push.ensures.items c.glyph_of.ensures

pub returns-else-count-gt0-clause-items : goal.returns-else-count-gt0-clause-items
returns-else-count-gt0-clause-items t c = hex_none c.args.out.now.items c.args.count c.args.w (omega arith)
