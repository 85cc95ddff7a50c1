use Rattle.marker.proofs.FollowedHeaps.{pages_none, pages_more}
use Rattle.marker.proofs.follow.follow_classes.Goals as goal

pub pages-init : goal.pages-init
pages-init c = record { follows = pages_none c.args.heap.now }

pub pages-preserved : goal.pages-preserved
pages-preserved c = record { follows = pages_more c.args.heap.now c.pages.heap c.follow_page.new.heap c.pages.page c.pages.invariant.follows c.follow_page.ensures.follows }
