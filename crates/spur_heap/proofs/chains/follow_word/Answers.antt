use Rattle.std.proofs.Common.{ℕ, arith, ◌/◌}
use Rattle.spur_graph.specs.Cells.{final}
use Rattle.spur_graph.specs.Heaps.{store_of}
use Rattle.heap_cells.proofs.CellKinds.{there_starts}
use Rattle.heap_cells.proofs.References.{ordinary_there}
use Rattle.spur_heap.specs.Parts.{view_of}
use Rattle.spur_heap.proofs.Hops.{reference_named, start_at}
use Rattle.spur_heap.proofs.Following.{good_reference, leads}
use Rattle.spur_heap.proofs.chains.follow_word.Goals as goal

pub follow_start-requires-clause-there : goal.follow_start-requires-clause-there
follow_start-requires-clause-there c =
    let good = good_reference (view_of c.args.parts.now) c.requires.sound c.args.word c.requires.good c.if-word-ne0.false in
    (reference_named (view_of c.args.parts.now) c.requires.sound c.args.word good).starts

pub overflow_mul-result : goal.overflow_mul-result
overflow_mul-result c =
    let good = good_reference (view_of c.args.parts.now) c.requires.sound c.args.word c.requires.good c.if-word-ne0.false in
    let n = reference_named (view_of c.args.parts.now) c.requires.sound c.args.word good in
    let s : ℕ = final (store_of (view_of c.args.parts.now)) (c.args.word / 8) in
    let low = (start_at (view_of c.args.parts.now) c.requires.sound s (there_starts ((store_of (view_of c.args.parts.now)).cell s) (ordinary_there (store_of (view_of c.args.parts.now)) s n.ordinary))).below in
    let few = c.requires.sound.few in
    omega (arith, c.follow_start.ensures, low, few)

pub returns : goal.returns
returns c =
    let r = leads (view_of c.args.parts.now) c.requires.sound c.args.word c.requires.good c.if-word-ne0.false in
    rw c.follow_start.ensures (record { followed = r.followed; value = r.value; good = r.good })
