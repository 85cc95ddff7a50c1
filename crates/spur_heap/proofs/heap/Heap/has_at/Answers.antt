use Rattle.std.proofs.Common.{◌∙◌, sym}
use Rattle.spur_heap.proofs.ClassTold.{entry_told}
use Rattle.spur_heap.proofs.heap.Heap.has_at.Goals as goal

pub returns : goal.returns
returns c =
    entry_told c.args.self.now c.whole.ensures.whole c.args.index c.requires.below c.args.start c.class_at.result c.word_of.result c.class_at.ensures.class c.word_of.ensures.word (sym c.is_unentered.ensures ∙ c.if-is_unentered.false)
