-- An object that can't stay where it is is copied, and its name forwarded to the copy: up to names nothing but the node and the spot of the name changed. Two names
-- whose contents do not fit each other's places are exchanged so: each is forwarded to a copy of the other's contents.
use Rattle.std.specs.Prelude.{ℕ, ◌≡◌, ◌≢◌, if◌then◌else◌, nat_eq, false, Some, None}
use Rattle.std.specs.List.{All}
use Rattle.std.specs.FinMap.{get}
use Rattle.std.specs.FinSet.{contains}
use Rattle.spur_graph.specs.Node.{Node}
use Rattle.spur_graph.specs.Graph.{Graph, HasNode, node, with_node, IsClosed}
use Rattle.spur_graph.specs.Names.{Iso, swapped}
use Rattle.spur_graph.specs.Room.{Room, Spot, placed}
use Rattle.spur_graph.specs.Step.{SameRoom}
use Rattle.spur_graph.specs.Become.{exchange, redirect, room_redirected}

-- a name that has a node and is none of nil, false and true
pub record IsPlain (g : Graph) (a : ℕ) : Type 0 where
  pub node : Node
  pub there : get g.nodes a ≡ Some node
  pub no_nil : a ≢ g.nil
  pub no_false : a ≢ g.no
  pub no_true : a ≢ g.yes

-- the room tells nothing of the name
pub record IsNowhere (room : Room) (a : ℕ) : Type 0 where
  pub spot : get room.spots a ≡ None
  pub young : contains room.old_names a ≡ false

-- ---- one copy

-- a copy with this node is made under another name, to which the name is forwarded
abbrev pub copied_out : Graph → ℕ → ℕ → Node → Graph
copied_out g a c n = redirect (with_node g c n) a c

abbrev pub room_copied_out : Room → ℕ → ℕ → Spot → Room
room_copied_out room a c spot = room_redirected (placed room c spot) a c

-- a name whose object may be copied, a fresh one, and the node of the copy
pub record CanCopy (g : Graph) (a c : ℕ) (n : Node) : Type 0 where
  pub closed : IsClosed g
  pub plain : IsPlain g a
  pub fresh : get g.nodes c ≡ None
  pub named : All (HasNode g) n.pointers

-- then the name has the node, under names that are swapped
abbrev pub CopiesOut : Type 0
CopiesOut = (g : Graph) (a c : ℕ) (n : Node) → CanCopy g a c n → Iso (with_node g a n) (copied_out g a c n) (swapped a c) (swapped a c)

abbrev pub RoomCopiesOut : Type 0
RoomCopiesOut = (room : Room) (a c : ℕ) (spot : Spot) → a ≢ c → IsNowhere room c → SameRoom (placed room a spot) (room_copied_out room a c spot) (swapped a c)

-- ---- two copies

-- `a` and `c` change places, and `b` and `d`; every other name is itself
abbrev pub crossed : ℕ → ℕ → ℕ → ℕ → ℕ → ℕ
crossed a b c d x = if nat_eq x a then c else if nat_eq x c then a else if nat_eq x b then d else if nat_eq x d then b else x

-- both contents are copied, each copy has the hash of the name that is forwarded to it, and both names are forwarded
abbrev pub moved_out : Graph → ℕ → ℕ → ℕ → ℕ → Graph
moved_out g a b c d = redirect (redirect (with_node (with_node g c (record (node g b) { hash = (node g a).hash })) d (record (node g a) { hash = (node g b).hash })) a c) b d

abbrev pub room_moved_out : Room → ℕ → ℕ → ℕ → ℕ → Spot → Spot → Room
room_moved_out room a b c d first second = room_redirected (room_redirected (placed (placed room c first) d second) a c) b d

-- two names that may be exchanged, and two fresh ones
pub record CanMove (g : Graph) (a b c d : ℕ) : Type 0 where
  pub closed : IsClosed g
  pub apart : a ≢ b
  pub fresh_apart : c ≢ d
  pub first : IsPlain g a
  pub second : IsPlain g b
  pub fresh_first : get g.nodes c ≡ None
  pub fresh_second : get g.nodes d ≡ None

-- the graph then is that of the exchange, under names that are crossed
abbrev pub MovesOut : Type 0
MovesOut = (g : Graph) (a b c d : ℕ) → CanMove g a b c d → Iso (exchange g a b) (moved_out g a b c d) (crossed a b c d) (crossed a b c d)

-- four names that are apart
pub record AreFour (a b c d : ℕ) : Type 0 where
  pub apart : a ≢ b
  pub fresh_apart : c ≢ d
  pub first : (a ≢ c) × (a ≢ d)
  pub second : (b ≢ c) × (b ≢ d)

-- and so is the room
abbrev pub RoomMovesOut : Type 0
RoomMovesOut =
    (room : Room) (a b c d : ℕ) (first second : Spot) → AreFour a b c d → IsNowhere room c → IsNowhere room d
    → SameRoom (placed (placed room a first) b second) (room_moved_out room a b c d first second) (crossed a b c d)
