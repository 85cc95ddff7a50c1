use Rattle.std.proofs.Common.{ap}
use Rattle.spur_graph.specs.Graph.{Graph}
use Rattle.spur_graph.specs.Heaps.{View}
use Rattle.full_collection.proofs.Closed.{marked_closed}
use Rattle.full_collection.proofs.Joined.{collected, placed}
use Rattle.full_collection.proofs.MarkedWhole.{marked_whole}
use Rattle.full_collection.proofs.Tight.{tight}
use Rattle.full_collection.proofs.collect.Goals as goal

pub finish-counts-requires-clause-marked : goal.finish-counts-requires-clause-marked
finish-counts-requires-clause-marked c =
    let m = c.mark.ensures in
    marked_whole c.args.heap.now c.mark.new.heap c.whole.ensures.closed m.keeps.graph m.sound m.complete m.inner m.bare m.followed m.empty

pub compact-requires-clause-tight : goal.compact-requires-clause-tight
compact-requires-clause-tight c =
    let f = c.finish-counts.ensures in
    tight c.finish-counts.new.heap c.whole-2.ensures.whole (marked_closed c.mark.new.heap c.finish-counts.new.heap c.finish-counts.result.nilled c.finish-counts.result.fired f c.whole.ensures.closed) f.through

pub returns-clause-collects : goal.returns-clause-collects
returns-clause-collects c =
    let m = c.mark.ensures in
    let cleared = c.clear_marks.ensures in
    collected c.args.heap.now c.mark.new.heap c.finish-counts.new.heap c.compact.new.heap c.clear_marks.new.self c.finish-counts.result.nilled c.finish-counts.result.fired c.requires.phase m.keeps.graph m.keeps.room m.rest
    c.finish-counts.ensures c.compact.ensures cleared.graph cleared.room cleared.rest c.whole-3.ensures.whole

pub returns-clause-placed : goal.returns-clause-placed
returns-clause-placed c =
    let m = c.mark.ensures in
    let cleared = c.clear_marks.ensures in
    placed c.args.heap.now c.mark.new.heap c.finish-counts.new.heap c.compact.new.heap c.clear_marks.new.self c.finish-counts.result.nilled c.finish-counts.result.fired m.keeps.graph m.keeps.room
    (ap (λ (v : View). v.spaces) m.rest) c.finish-counts.ensures c.compact.ensures
    (record { words = record { long = ap (λ (g : Graph). g.next) cleared.graph; headers = cleared.headers; others = cleared.others }; store = cleared.store; rest = cleared.rest })
