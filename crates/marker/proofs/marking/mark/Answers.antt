use Rattle.marker.proofs.Working.{room_kept}
use Rattle.marker.proofs.Rooting.{room_begun}
use Rattle.marker.proofs.MarkedHeaps.{IsMarkedFrom, marked_from}
use Rattle.marker.proofs.marking.mark.Goals as goal

pub visit_roots-requires-clause-room : goal.visit_roots-requires-clause-room
visit_roots-requires-clause-room c = room_begun c.args.heap.now c.begin_marking.new.self c.whole.ensures.whole c.begin_marking.ensures.begun

pub complete-requires-clause-room : goal.complete-requires-clause-room
complete-requires-clause-room c =
    let v = c.visit_roots.ensures.visits in
    room_kept c.begin_marking.new.self c.visit_roots.new.heap v.keeps v.low (room_begun c.args.heap.now c.begin_marking.new.self c.whole.ensures.whole c.begin_marking.ensures.begun)

from : (c : goal.After-whole-3) → IsMarkedFrom c.args.heap.now c.args.except c.follow_all.new.heap
from c =
    let done = c.complete.ensures in
    let inner = c.mark_internal.ensures in
    marked_from c.args.heap.now c.whole.ensures.whole c.requires.phase c.args.except c.excepted_start-name.result c.excepted_start-name.ensures.name
    c.begin_marking.new.self c.visit_roots.new.heap c.complete.new.heap c.clear_stack.new.self c.mark_excepted.new.heap c.mark_internal.new.self c.follow_all.new.heap c.begin_marking.ensures.begun c.visit_roots.ensures.visits
    (record { works = done.works; all = done.all }) c.clear_stack.ensures c.mark_excepted.ensures.marks c.whole-2.ensures.whole
    (record { rest = inner.rest; cells = inner.store; graph = inner.graph; room = inner.room; inner = inner.inner; others = inner.others }) c.whole-3.ensures.whole c.follow_all.ensures.follows

pub returns-clause-keeps : goal.returns-clause-keeps
returns-clause-keeps c = (from c).keeps

pub returns-clause-sound : goal.returns-clause-sound
returns-clause-sound c = (from c).sound

pub returns-clause-complete : goal.returns-clause-complete
returns-clause-complete c = (from c).complete

pub returns-clause-inner : goal.returns-clause-inner
returns-clause-inner c = (from c).inner

pub returns-clause-bare : goal.returns-clause-bare
returns-clause-bare c = (from c).bare
