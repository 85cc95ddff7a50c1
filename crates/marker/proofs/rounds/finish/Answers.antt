use Rattle.marker.proofs.Finishing.{finishes, finishes_idle}
use Rattle.marker.proofs.rounds.finish.Goals as goal

pub returns-then-is_idle : goal.returns-then-is_idle
returns-then-is_idle c =
    let none = c.is_idle.ensures.idle c.if-is_idle.true in
    finishes_idle c.args.heap.now c.requires.marked c.fire_in_rounds-fired.result c.fire_in_rounds-fired.new.heap c.fire_in_rounds-fired.ensures.rounds c.whole.ensures.whole c.nil_all-nilled.result c.nil_all-nilled.new.heap
    c.nil_all-nilled.ensures.nils c.nil_all-nilled.ensures.count c.whole-2.ensures.whole none.1 (c.nil_all-nilled.ensures.idle none.0)

pub returns : goal.returns
returns c = finishes c.args.heap.now c.requires.marked c.fire_in_rounds-fired.result c.fire_in_rounds-fired.new.heap c.fire_in_rounds-fired.ensures.rounds c.whole.ensures.whole c.nil_all-nilled.result c.nil_all-nilled.new.heap
    c.nil_all-nilled.ensures.nils c.nil_all-nilled.ensures.count c.whole-2.ensures.whole c.mark_internal.new.self
    (record { rest = c.mark_internal.ensures.rest; store = c.mark_internal.ensures.store; graph = c.mark_internal.ensures.graph; room = c.mark_internal.ensures.room; inner = c.mark_internal.ensures.inner; others = c.mark_internal.ensures.others })
    c.follow_all.new.heap c.follow_all.ensures.follows c.follow_all.ensures.all c.whole-3.ensures.whole
