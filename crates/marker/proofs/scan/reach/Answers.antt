use Rattle.std.proofs.Common.{◌≡◌, sym, ◌∙◌, ap, arith, false, length}
use Rattle.spur_graph.specs.Heaps.{View, is_marked}
use Rattle.spur_heap.specs.MarkBits.{marked}
use Rattle.marker.proofs.Keeping.{some_unmarked, keeps_words}
use Rattle.marker.proofs.Visiting.{visits_pushed}
use Rattle.marker.proofs.scan.reach.Goals as goal

pub push_mark-requires-clause-room : goal.push_mark-requires-clause-room
push_mark-requires-clause-room c =
    let off : is_marked c.args.heap.now.words c.args.start ≡ false = sym c.is_marked.ensures ∙ c.if-is_marked.false in
    let some = some_unmarked c.args.heap.now c.whole.ensures.whole c.args.start c.requires.there off in
    let room = c.requires.room in
    let stack = ap (λ (v : View). length v.stack) c.set_mark.ensures.written in
    let long = ap (λ h. h.names) c.set_mark.ensures.store in
    omega (arith, some, room, stack, long)

pub returns : goal.returns
returns c =
    let off : is_marked c.args.heap.now.words c.args.start ≡ false = sym c.is_marked.ensures ∙ c.if-is_marked.false in
    record {
      visits = visits_pushed c.args.heap.now c.set_mark.new.self c.push_mark.new.self c.whole.ensures.whole c.args.start c.requires.there off
          (keeps_words c.args.heap.now c.set_mark.new.self (marked c.args.heap.now c.args.start).words c.set_mark.ensures.store c.set_mark.ensures.graph c.set_mark.ensures.room c.set_mark.ensures.written)
          (ap (λ (v : View). v.stack) c.set_mark.ensures.written) c.set_mark.ensures.here c.set_mark.ensures.others c.push_mark.ensures;
    }
