-- A state that speaks only of names that have nodes goes on so after an exchange or a pin.
use Rattle.std.proofs.Common.{◌≡◌, ℕ, Bool, true, false, cond, ◌||◌, if◌then◌else◌, nat_eq, get_or, refl, sym, ap, ◌∙◌, subst, Some, None, Option}
use Rattle.std.proofs.lemmas.Bool.{ne_eqb}
use Rattle.std.proofs.lemmas.Option.{none-some, same_Some}
use Rattle.std.specs.Ordering.{nat_cmp, eq_by_cmp}
use Rattle.std.specs.Cmp.{nat_cmp_total, unsigned_tied}
use Rattle.std.specs.Option.{option_map, unwrap_or}
use Rattle.std.specs.List.{All}
use Rattle.std.specs.FinMap.{get, get-insert}
use Rattle.std.specs.FinSet.{contains, contains-insert}
use Rattle.std.specs.FinSet as sets
use Rattle.spur_graph.specs.declared.answer.Value.TheVariants.{Ref}
use Rattle.spur_graph.specs.Node.{Node}
use Rattle.spur_graph.specs.Graph.{Graph, blank, node, with_node, HasNode}
use Rattle.spur_graph.specs.Room.{Room, Spot, Old, placed, is_old, spot_at, slots_in, fresh_spot}
use Rattle.spur_graph.specs.Serve.{Anywhere, OldAlone, Served, serve}
use Rattle.spur_graph.specs.State.{State, with_graph}
use Rattle.spur_graph.specs.Become.{exchange, exchanged, hand_hash, needs_no_words, exchange_words, room_exchanged, room_pinned}
use Rattle.graph_laws.proofs.Named.{IsNamed, has_name, still-named, changed-named, room-named}
use Rattle.graph_laws.proofs.Rooms.{served-keeps}

-- the node of a name that has one
pub node_is : (g : Graph) (a : ℕ) (m : Node) → get g.nodes a ≡ Some m → node g a ≡ m
node_is g a m e = ap (λ o. unwrap_or o blank) e

module _ {s : State} (k : IsNamed s) where
  -- ---- places

  -- a name that has a node stands somewhere
  placed-named : (a : ℕ) (n : Node) (spot : Spot) → get s.graph.nodes a ≡ Some n → IsNamed (record s { room = placed s.room a spot })
  placed-named a n spot there = record {
    fresh = k.fresh;
    pointers = k.pointers;
    nil = k.nil;
    no = k.no;
    yes = k.yes;
    special = k.special;
    classes = k.classes;
    handles = k.handles;
    mourners = k.mourners;
    spots = λ b none.
        get-insert nat_cmp_total s.room.spots a spot b
        ∙ ap (λ x. cond x (Some spot) (get s.room.spots b)) (other b none)
        ∙ k.spots b none;
    old_names = λ b none. by b none (is_old spot.space);
  }
    where
      other : (b : ℕ) → get s.graph.nodes b ≡ None → eq_by_cmp nat_cmp b a ≡ false
      other b none = unsigned_tied b a ∙ ne_eqb b a (λ e. none-some n (sym none ∙ ap (get s.graph.nodes) e ∙ there))

      by : (b : ℕ) → get s.graph.nodes b ≡ None → (old : Bool) → contains (if old then sets.insert s.room.old_names a else s.room.old_names) b ≡ false
      by b none true = contains-insert nat_cmp_total s.room.old_names a b ∙ ap (λ x. x || contains s.room.old_names b) (other b none) ∙ k.old_names b none
      by b none false = k.old_names b none

module _ {s : State} (k : IsNamed s) where
  -- the room of an exchange of names that have nodes
  pub room_exchanged-named : (a b : ℕ) (m n : Node) (room : Room) → get s.graph.nodes a ≡ Some m → get s.graph.nodes b ≡ Some n → room_exchanged s.room a b ≡ Some room → IsNamed (record s { room = room })
  room_exchanged-named a b m n room first second e = by (needs_no_words s.room a b) (serve Anywhere s.room (exchange_words s.room a b)) refl e
    where
      by : (x : Bool) (o : Option Served) → serve Anywhere s.room (exchange_words s.room a b) ≡ o
          → (if x then Some s.room else option_map (λ served. placed (placed served.room a (fresh_spot served.space (slots_in (spot_at s.room b)))) b (fresh_spot served.space (slots_in (spot_at s.room a)))) o) ≡ Some room
          → IsNamed (record s { room = room })
      by true o served e = subst (λ x. IsNamed (record s { room = x })) (same_Some s.room room e) k
      by false None served e = absurd (none-some room e)
      by false (Some served) is e =
          let keep = served-keeps Anywhere s.room (exchange_words s.room a b) served is in
          let one = fresh_spot served.space (slots_in (spot_at s.room b)) in
          let two = fresh_spot served.space (slots_in (spot_at s.room a)) in
          subst (λ x. IsNamed (record s { room = x })) (same_Some (placed (placed served.room a one) b two) room e)
          (placed-named (placed-named (room-named k served.room keep) a m one first) b n two second)

  -- the room of a pin
  pub room_pinned-named : (a : ℕ) (m : Node) (room : Room) → get s.graph.nodes a ≡ Some m → room_pinned s.room a ≡ Some room → IsNamed (record s { room = room })
  room_pinned-named a m room there e = by (is_old (spot_at s.room a).space) (serve OldAlone s.room (spot_at s.room a).words) refl e
    where
      by : (x : Bool) (o : Option Served) → serve OldAlone s.room (spot_at s.room a).words ≡ o
          → (if x then Some s.room else option_map (λ served. placed served.room a (record (spot_at s.room a) { space = Old })) o) ≡ Some room
          → IsNamed (record s { room = room })
      by true o served e = subst (λ x. IsNamed (record s { room = x })) (same_Some s.room room e) k
      by false None served e = absurd (none-some room e)
      by false (Some served) is e =
          let keep = served-keeps OldAlone s.room (spot_at s.room a).words served is in
          let spot = record (spot_at s.room a) { space = Old } in
          subst (λ x. IsNamed (record s { room = x })) (same_Some (placed served.room a spot) room e) (placed-named (room-named k served.room keep) a m spot there)

  -- ---- exchange

  pub pointers_at : (a : ℕ) (m : Node) → get s.graph.nodes a ≡ Some m → All (HasNode s.graph) (node s.graph a).pointers
  pointers_at a m there = subst (λ (n : Node). All (HasNode s.graph) n.pointers) (sym (node_is s.graph a m there)) (k.pointers a m there)

  -- a node with another hash
  hash_of-named : (b a : ℕ) (m n : Node) (hash : ℕ) → get s.graph.nodes b ≡ Some n → get s.graph.nodes a ≡ Some m → IsNamed (with_graph s (with_node s.graph b (record (node s.graph a) { hash = hash })))
  hash_of-named b a m n hash there other = changed-named k b n (record (node s.graph a) { hash = hash }) there (pointers_at a m other)

module _ {s : State} (k : IsNamed s) where
  pub exchanged-named : (a b : ℕ) (m n : Node) → get s.graph.nodes a ≡ Some m → get s.graph.nodes b ≡ Some n → IsNamed (with_graph s (exchanged s.graph a b))
  exchanged-named a b m n first second = by (nat_eq a b)
    where
      by : (x : Bool) → IsNamed (with_graph s (if x then s.graph else exchange s.graph a b))
      by true = k
      by false =
          let one : Node = record (node s.graph b) { hash = (node s.graph a).hash } in
          let two : Node = record (node s.graph a) { hash = (node s.graph b).hash } in
          let still = still-named s.graph a one in
          let there = still (Ref b) (has_name s.graph b n second) b refl in
          changed-named (hash_of-named k a b n m (node s.graph a).hash first second) b there.0 two there.1
          (λ i v l. still (get_or (node s.graph a).pointers i v) (pointers_at k a m first i v l))

  pub handed-named : (a b : ℕ) (n : Node) (hash : Bool) → get s.graph.nodes b ≡ Some n → IsNamed (with_graph s (if hash then hand_hash s.graph a b else s.graph))
  handed-named a b n false there = k
  handed-named a b n true there = by (nat_eq (node s.graph a).hash 0)
    where
      by : (x : Bool) → IsNamed (with_graph s (if x then s.graph else with_node s.graph b (record (node s.graph b) { hash = (node s.graph a).hash })))
      by true = k
      by false = hash_of-named k b b n n (node s.graph a).hash there there
