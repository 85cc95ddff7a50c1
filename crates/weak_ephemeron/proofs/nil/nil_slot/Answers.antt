use Rattle.std.proofs.Common.{sym, ◌∙◌}
use Rattle.weak_ephemeron.proofs.Nilling.{slot_nilled}
use Rattle.weak_ephemeron.proofs.nil.nil_slot.Goals as goal

pub returns-clause-nils : goal.returns-clause-nils
returns-clause-nils c =
    slot_nilled c.args.heap.now c.args.start c.args.i c.whole.ensures.whole c.requires.there c.requires.weak c.requires.within (sym c.names_unmarked.ensures ∙ c.if-not-names_unmarked.false) c.nil-nil.result c.nil-nil.ensures.word
    c.nil-nil.ensures.good c.put_pointer.new.self c.put_pointer.ensures.written c.put_pointer.ensures.graph c.put_pointer.ensures.room
