-- A heap in which nothing that is marked, and no root, names a forwarder.
use Rattle.std.specs.Prelude.{ℕ, ◌≡◌, ◌+◌, ◌*◌, ◌<◌, length, true}
use Rattle.spur_graph.specs.Graph.{Handle}
use Rattle.spur_graph.specs.Ordinary.{class_limit, page_entries}
use Rattle.spur_graph.specs.Heaps.{View}
use Rattle.spur_heap.specs.Entering.{HasPage}
use Rattle.spur_heap.specs.Following.{IsFollowed, IsFollowedSlot, IsFollowedEntry, IsFollowedHandle, IsFollowedMourner, Follows}
use Rattle.spur_heap.specs.MarkBits.{marks}
use Rattle.spur_heap.specs.Views.{node_in}

-- no pointer slot of the object names a forwarder
abbrev pub HasFollowedSlots : View → ℕ → Type 0
HasFollowedSlots v s = (i : ℕ) → i < length (node_in v s).pointers → IsFollowedSlot v s i

-- nothing that is marked, and no root, names a forwarder
pub record AreFollowed (v : View) : Type 0 where
  pub slots : (s : ℕ) → marks v s ≡ true → HasFollowedSlots v s
  pub entries : (index : ℕ) → index < class_limit → HasPage v index → IsFollowedEntry v index
  pub special : IsFollowed v v.special
  pub held : (handle : Handle) → IsFollowedHandle v handle
  pub mourners : (k : ℕ) → IsFollowedMourner v k

-- the marked objects that start below `i` were followed
pub record FollowsBelow (i : ℕ) (old new : View) : Type 0 where
  pub follows : Follows old new
  pub slots : (s : ℕ) → s < i → marks old s ≡ true → HasFollowedSlots new s

-- the entries of the first `k` indices of a page were followed, if there is the page
pub record FollowsPage (first k : ℕ) (old new : View) : Type 0 where
  pub follows : Follows old new
  pub entries : (i : ℕ) → i < k → HasPage old first → IsFollowedEntry new (first + i)

-- those of the first `k` pages were
pub record FollowsPages (k : ℕ) (old new : View) : Type 0 where
  pub follows : Follows old new
  pub entries : (index : ℕ) → index < page_entries * k → HasPage old index → IsFollowedEntry new index
