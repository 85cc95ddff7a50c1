-- Exchange, forwarding and pins do the same in states that differ in names alone, and lead to states that speak only of names that have nodes.
use Rattle.std.proofs.Common.{◌≡◌, ℕ, Bool, true, false, if◌then◌else◌, nat_eq, refl, sym, subst, Some, None, Option}
use Rattle.std.proofs.lemmas.Bool.{eqb-false}
use Rattle.std.specs.Option.{option_map}
use Rattle.std.specs.FinMap.{get}
use Rattle.spur_graph.specs.declared.answer.Answer.{Answer}
use Rattle.spur_graph.specs.Node.{Node}
use Rattle.spur_graph.specs.Graph.{node, with_node}
use Rattle.spur_graph.specs.Room.{Room}
use Rattle.spur_graph.specs.State.{State}
use Rattle.spur_graph.specs.Refusals.{is_special}
use Rattle.spur_graph.specs.Become.{exchanged, room_exchanged, redirect, hand_hash, forwarded, room_forwarded, room_redirected, pinned, room_pinned}
use Rattle.spur_graph.specs.Does.{Outcome, ok, Is}
use Rattle.spur_graph.specs.Step.{Renamed}
use Rattle.graph_laws.proofs.Named.{IsNamed, get-here, changed-named}
use Rattle.graph_laws.proofs.Alikes.{Alike, rooms-alike}
use Rattle.graph_laws.proofs.BecomeRooms.{room_exchanged-same, room_pinned-same}
use Rattle.graph_laws.proofs.Becoming.{exchanged-renamed, forwarded-renamed, flagged-renamed}
use Rattle.graph_laws.proofs.KeptNames.{room_exchanged-named, room_pinned-named, exchanged-named, handed-named, pointers_at}
use Rattle.graph_laws.proofs.Redirected.{redirected-named}

-- the outcomes by the names of the objects
abbrev pub exchange_of : State → ℕ → ℕ → Option Outcome
exchange_of s a b = option_map (λ room. ok (record s { graph = exchanged s.graph a b; room = room })) (room_exchanged s.room a b)

abbrev pub forward_of : State → ℕ → ℕ → Bool → State
forward_of s a b hash = record s { graph = forwarded s.graph a b hash; room = room_forwarded s.room a b }

abbrev pub pin_of : State → ℕ → Option Outcome
pin_of s a = option_map (λ room. ok (record s { graph = pinned s.graph a; room = room })) (room_pinned s.room a)

module _ {s t : State} (k : Renamed s t) where
  pub exchange-alike : (a b x y : ℕ) (m n : Node) → get s.graph.nodes a ≡ Some m → get s.graph.nodes b ≡ Some n → x ≡ k.p a → y ≡ k.p b → Alike (exchange_of s a b) (exchange_of t x y)
  exchange-alike a b x y m n first second e f =
      subst (λ z. Alike (exchange_of s a b) (exchange_of t z y)) (sym e)
      (subst (λ z. Alike (exchange_of s a b) (exchange_of t (k.p a) z)) (sym f)
      (rooms-alike (room_exchanged s.room a b) (room_exchanged t.room (k.p a) (k.p b))
      (λ room. ok (record s { graph = exchanged s.graph a b; room = room })) (λ room. ok (record t { graph = exchanged t.graph (k.p a) (k.p b); room = room }))
      (room_exchanged-same k.back k.graph.left k.room a b) (λ R S room. (refl, exchanged-renamed k a b m n first second R S room))))

  pub forward-alike : (a b x y : ℕ) (n : Node) (hash : Bool) → get s.graph.nodes b ≡ Some n → x ≡ k.p a → y ≡ k.p b → Renamed (forward_of s a b hash) (forward_of t x y hash)
  forward-alike a b x y n hash there e f =
      subst (λ z. Renamed (forward_of s a b hash) (forward_of t z y hash)) (sym e)
      (subst (λ z. Renamed (forward_of s a b hash) (forward_of t (k.p a) z hash)) (sym f) (forwarded-renamed k a b n hash there))

  pub pin-alike : (a x : ℕ) (m : Node) → get s.graph.nodes a ≡ Some m → x ≡ k.p a → Alike (pin_of s a) (pin_of t x)
  pin-alike a x m there e =
      subst (λ z. Alike (pin_of s a) (pin_of t z)) (sym e)
      (rooms-alike (room_pinned s.room a) (room_pinned t.room (k.p a))
      (λ room. ok (record s { graph = pinned s.graph a; room = room })) (λ room. ok (record t { graph = pinned t.graph (k.p a); room = room }))
      (room_pinned-same k.back k.graph.left k.room a)
      (λ R S room. (refl, flagged-renamed k a m (λ n. record n { pinned = true }) there (λ n. refl) R S room)))

module _ {s : State} (named : IsNamed s) where
  -- an outcome by a room
  by_room : (o : Option Room) (f : Room → State) (answer : Answer) (new : State) → ((room : Room) → o ≡ Some room → IsNamed (f room)) → Is (option_map (λ room. ok (f room)) o) answer new → IsNamed new
  by_room None f answer new each is = absurd is
  by_room (Some room) f answer new each is = subst IsNamed (sym is.1) (each room refl)

  pub exchange-named : (a b : ℕ) (m n : Node) (answer : Answer) (new : State) → get s.graph.nodes a ≡ Some m → get s.graph.nodes b ≡ Some n → Is (exchange_of s a b) answer new → IsNamed new
  exchange-named a b m n answer new first second is =
      by_room (room_exchanged s.room a b) (λ room. record s { graph = exchanged s.graph a b; room = room }) answer new
      (λ room e. exchanged-named (room_exchanged-named named a b m n room first second e) a b m n first second) is

  pub pin-named : (a : ℕ) (m : Node) (answer : Answer) (new : State) → get s.graph.nodes a ≡ Some m → Is (pin_of s a) answer new → IsNamed new
  pin-named a m answer new there is =
      by_room (room_pinned s.room a) (λ room. record s { graph = pinned s.graph a; room = room }) answer new
      (λ room e. changed-named (room_pinned-named named a m room there e) a m (record (node s.graph a) { pinned = true }) there (pointers_at named a m there)) is

  pub forward-named : (a b : ℕ) (n : Node) (hash : Bool) → get s.graph.nodes b ≡ Some n → is_special s.graph a ≡ false → IsNamed (forward_of s a b hash)
  forward-named a b n hash there plain = by (nat_eq a b) refl
    where
      -- the hash changes no special name, and leaves the node there
      has : (x : Bool) (m : Node) → (z : Node) × (get (if x then s.graph else with_node s.graph b m).nodes b ≡ Some z)
      has true m = (n, there)
      has false m = (m, get-here s.graph b m)

      still : (hash : Bool) → (z : Node) × (get (if hash then hand_hash s.graph a b else s.graph).nodes b ≡ Some z)
      still true = has (nat_eq (node s.graph a).hash 0) (record (node s.graph b) { hash = (node s.graph a).hash })
      still false = (n, there)

      plain_still : (x : Bool) (m : Node) → is_special (if x then s.graph else with_node s.graph b m) a ≡ false
      plain_still true m = plain
      plain_still false m = plain

      plain_then : (hash : Bool) → is_special (if hash then hand_hash s.graph a b else s.graph) a ≡ false
      plain_then true = plain_still (nat_eq (node s.graph a).hash 0) (record (node s.graph b) { hash = (node s.graph a).hash })
      plain_then false = plain

      by : (x : Bool) → nat_eq a b ≡ x → IsNamed (record s { graph = if x then s.graph else redirect (if hash then hand_hash s.graph a b else s.graph) a b; room = if x then s.room else room_redirected s.room a b })
      by true e = named
      by false e = redirected-named (handed-named named a b n hash there) a b (still hash).0 (still hash).1 (λ same. eqb-false a b e (sym same)) (plain_then hash)
