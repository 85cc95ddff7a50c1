use Rattle.spur_heap.proofs.PageMade.{can_turn, page_made}
use Rattle.spur_heap.proofs.heap.Heap.make_page.Goals as goal

pub turn_into_page-requires : goal.turn_into_page-requires
turn_into_page-requires c = record { can = can_turn c.whole.ensures.whole c.whole.ensures.closed c.in_ok-start.ensures.made c.requires.below c.requires.absent }

pub returns-clause-made : goal.returns-clause-made
returns-clause-made c = page_made c.whole.ensures.whole c.whole.ensures.closed c.in_ok-start.ensures.made c.requires.below c.requires.absent c.turn_into_page.ensures
