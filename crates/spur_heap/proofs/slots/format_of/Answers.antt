use Rattle.std.proofs.Common.{ap, sym, ◌∙◌, arith}
use Rattle.object_header.specs.Head.{format_of}
use Rattle.spur_heap.specs.Parts.{view_of}
use Rattle.spur_heap.proofs.SlotCounts.{at_start, format_read}
use Rattle.spur_heap.proofs.slots.format_of.Goals as goal

pub get-requires : goal.get-requires
get-requires c = omega (arith, (at_start (view_of c.args.parts.now) c.requires.sound c.args.start c.requires.there).below)

pub returns : goal.returns
returns c = c.new.ensures ∙ c.format.ensures.value ∙ ap format_of c.get.ensures ∙ sym (format_read (view_of c.args.parts.now) c.requires.sound c.args.start c.requires.there)
