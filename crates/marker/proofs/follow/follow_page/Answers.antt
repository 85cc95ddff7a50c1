use Rattle.std.proofs.Common.{◌≡◌, ◌+◌, ◌/◌, sym, ap, ◌∙◌, arith}
use Rattle.std.specs.FinSet.{contains}
use Rattle.spur_graph.specs.Heaps.{heap_room}
use Rattle.marker.proofs.FollowedHeaps.{page_more, page_follows}
use Rattle.marker.proofs.follow.follow_page.Goals as goal

pub follow_entry-requires-clause-page : goal.follow_entry-requires-clause-page
follow_entry-requires-clause-page c =
    let place : (c.args.first + c.entries.i) / 1024 ≡ c.args.first / 1024 = omega (arith, c.requires.first, c.entries-test.true) in
    ap (λ n. contains (heap_room c.entries.heap).pages n) place ∙ page_follows c.entries.invariant.follows.follows c.args.first (sym c.has_page.ensures ∙ c.if-not-has_page.false)

pub entries-preserved : goal.entries-preserved
entries-preserved c = record {
  follows = page_more c.args.heap.now c.entries.heap c.follow_entry.new.self c.args.first c.entries.i c.entries.invariant.follows c.follow_entry.ensures.follows c.follow_entry.ensures.followed;
}
