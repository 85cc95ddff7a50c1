use Rattle.std.proofs.Common.{◌<◌, arith}
use Rattle.spur_graph.specs.Room.{fresh_words}
use Rattle.spur_graph.specs.Heaps.{heap_room}
use Rattle.spur_heap.proofs.Allocated.{anywhere_told}
use Rattle.spur_heap.proofs.heap.Heap.make_anywhere.Goals as goal

pub returns-then-eden_left-fresh_words-clause-made : goal.returns-then-eden_left-fresh_words-clause-made
returns-then-eden_left-fresh_words-clause-made c =
    let few : (heap_room c.args.self.now).eden_left < fresh_words c.args.slots = omega (arith, c.if-eden_left-fresh_words.true, c.eden_left.ensures, c.fresh_words.ensures) in
    anywhere_told c.args.self.now c.make_old.new.self c.args.class c.args.format c.args.slots few c.make_old.result c.make_old.ensures.made
