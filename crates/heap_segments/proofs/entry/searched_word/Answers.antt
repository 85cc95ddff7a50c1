use Rattle.std.proofs.Common.{sym, ◌∙◌}
use Rattle.spur_graph.specs.ImageFile.{header_bytes}
use Rattle.heap_segments.proofs.Laid.{near, none_above, found_entry}
use Rattle.heap_segments.proofs.entry.searched_word.Goals as goal

pub returns-in_err-i : goal.returns-in_err-i
returns-in_err-i c = c.from_residual.ensures ∙ sym (none_above header_bytes 0 0 c.args.entries.now c.args.address c.in_err-i.ensures.none)

pub word-requires : goal.word-requires
word-requires c = near c.args.entries.now c.in_ok-i.i c.requires c.in_ok-i.ensures.found.within

pub returns : goal.returns
returns c = c.word.ensures ∙ sym (found_entry header_bytes 0 0 c.args.entries.now c.args.address c.in_ok-i.i c.requires.laid c.in_ok-i.ensures.found.within c.in_ok-i.ensures.found.low c.in_ok-i.ensures.found.high)
