-- What exchange, forwarding, pins and flags refuse and do, by what the calls tell of the heap.
use Rattle.std.proofs.Common.{◌≡◌, inl, inr, ℕ, Bool, true, false, refl, Some}
use Rattle.std.proofs.Math.Bool.{or-false}
use Rattle.spur_graph.specs.declared.answer.Value.{Value}
use Rattle.spur_graph.specs.declared.answer.Answer.TheVariants as answers
use Rattle.spur_graph.specs.declared.answer.Refusal.TheVariants as r
use Rattle.spur_graph.specs.Bytes.{Text}
use Rattle.spur_graph.specs.Value.{is_immediate, name_of}
use Rattle.spur_graph.specs.Graph.{Graph, held, node, with_node}
use Rattle.spur_graph.specs.Room.{Room}
use Rattle.spur_graph.specs.Become.{exchanged, room_exchanged, forwarded, room_forwarded, pinned, room_pinned}
use Rattle.spur_graph.specs.Form.{Become, Forward, Pin, Unpin}
use Rattle.spur_graph.specs.State.{State}
use Rattle.spur_graph.specs.Refusals.{first, test}
use Rattle.spur_graph.specs.Refused.{refused}
use Rattle.spur_graph.specs.Step.{Renamed}
use Rattle.spur_graph.specs.Heaps.{View, Stands, heap_graph, heap_room, heap_value}
use Rattle.spur_graph.proofs.Refusing.{alone}
use Rattle.lazy_become.specs.Rows.{exchange_row, forward_row}
use Rattle.lazy_become.specs.Writes.{Exchanges}
use Rattle.pinning.specs.Pins.{Pins, pin_row}
use Rattle.replay.specs.Sessions.{graph_of, room_of, value_in, over}
use Rattle.replay.specs.Commands.{Obeys, ObeysExactly, Becomes, flag_asked}
use Rattle.replay.proofs.Graphs.{names_fresh}
use Rattle.replay.proofs.Doing.{state_moved}
use Rattle.replay.proofs.Steps.{over_is}

-- ---- rows

module _ (s : State) (k : ℕ) (a b : Text) (x y : Value) (one : held s.graph k a ≡ Some x) (other : held s.graph k b ≡ Some y) where
  exchange_by : refused s k (Become a b) ≡ first (exchange_row s.graph s.room x y)
  exchange_by = rw (one, other) refl

  forward_by : (hash : Bool) → refused s k (Forward a b hash) ≡ first (forward_row s.graph x y hash)
  forward_by true = rw (one, other) refl
  forward_by false = rw (one, other) refl

module _ (s : State) (k : ℕ) (o : Text) (x : Value) (is : held s.graph k o ≡ Some x) where
  pin_by : refused s k (Pin o) ≡ first (pin_row s.room x)
  pin_by = rw (is, or-false (is_immediate x)) refl

  pub flag_by : (on : Bool) → refused s k (flag_asked on o) ≡ test (is_immediate x) r.Immediate
  flag_by true = rw (is, or-false (is_immediate x)) (alone (test (is_immediate x) r.Immediate))
  flag_by false = rw (is, or-false (is_immediate x)) (alone (test (is_immediate x) r.Immediate))

-- ---- what is done

-- a heap that stands for a graph and a room has them, under its own names
pub stood : (new : View) (g : Graph) (room : Room) (s : State) → Stands new g room → Renamed (record s { graph = g; room = room }) (over new s)
unfolding graph_of room_of
stood new g room s is = record {
  p = is.place;
  back = is.back;
  graph = is.graph;
  room = is.figures;
  files = refl;
  script = refl;
  next = names_fresh new is.whole;
}

exchange_does : (old new : View) (k : ℕ) (a b : Text) (x y : Value) (room : Room) → held (graph_of old) k a ≡ Some x → held (graph_of old) k b ≡ Some y → room_exchanged (room_of old) (name_of x) (name_of y) ≡ Some room
    → Stands new (exchanged (graph_of old) (name_of x) (name_of y)) room → Obeys old k (Become a b) answers.Done new
exchange_does old new k a b x y room one other serves stands = λ s.
    let exact : State = record (over old s) { graph = exchanged (graph_of old) (name_of x) (name_of y); room = room } in
    (exact, over new s, inl (rw (one, other, serves) (refl, refl)), inr (stood new (exchanged (graph_of old) (name_of x) (name_of y)) room (over old s) stands), over_is new s)

pin_does : (old new : View) (k : ℕ) (o : Text) (x : Value) (room : Room) → held (graph_of old) k o ≡ Some x → room_pinned (room_of old) (name_of x) ≡ Some room → Stands new (pinned (graph_of old) (name_of x)) room → Obeys old k (Pin o) answers.Done new
pin_does old new k o x room is serves stands = λ s.
    let exact : State = record (over old s) { graph = pinned (graph_of old) (name_of x); room = room } in
    (exact, over new s, inl (rw (is, serves) (refl, refl)), inr (stood new (pinned (graph_of old) (name_of x)) room (over old s) stands), over_is new s)

forward_does : (old new : View) (k : ℕ) (a b : Text) (x y : Value) (hash : Bool) → held (graph_of old) k a ≡ Some x → held (graph_of old) k b ≡ Some y → graph_of new ≡ forwarded (graph_of old) (name_of x) (name_of y) hash
    → room_of new ≡ room_forwarded (room_of old) (name_of x) (name_of y) → ObeysExactly old k (Forward a b hash) answers.Done new
forward_does old new k a b x y hash one other graph room = λ s. inl (rw (one, other) (refl, λ i. record s { graph = graph i; room = room i }))

module _ (old new : View) (k : ℕ) (o : Text) (x : Value) (is : held (graph_of old) k o ≡ Some x) where
  unpin_does : Becomes old new (with_node (graph_of old) (name_of x) (record (node (graph_of old) (name_of x)) { pinned = false })) → ObeysExactly old k (Unpin o) answers.Done new
  unpin_does becomes = λ s. inl (rw (is) (refl, state_moved old new s (with_node (graph_of old) (name_of x) (record (node (graph_of old) (name_of x)) { pinned = false })) becomes))

  flag_does : (on : Bool) → Becomes old new (with_node (graph_of old) (name_of x) (record (node (graph_of old) (name_of x)) { readonly = on })) → ObeysExactly old k (flag_asked on o) answers.Done new
  flag_does true becomes = λ s. inl (rw (is) (refl, state_moved old new s (with_node (graph_of old) (name_of x) (record (node (graph_of old) (name_of x)) { readonly = true })) becomes))
  flag_does false becomes = λ s. inl (rw (is) (refl, state_moved old new s (with_node (graph_of old) (name_of x) (record (node (graph_of old) (name_of x)) { readonly = false })) becomes))

-- ---- the same over the heap's own graph

module _ (old : View) (k : ℕ) (a b : Text) (from to : ℕ) (one : held (graph_of old) k a ≡ Some (value_in old from)) (other : held (graph_of old) k b ≡ Some (value_in old to)) where
  pub exchange_refused : (s : State) → refused (over old s) k (Become a b) ≡ first (exchange_row (heap_graph old) (heap_room old) (heap_value old from) (heap_value old to))
  unfolding graph_of room_of
  exchange_refused s = exchange_by (over old s) k a b (value_in old from) (value_in old to) one other

  pub forward_refused : (s : State) (hash : Bool) → refused (over old s) k (Forward a b hash) ≡ first (forward_row (heap_graph old) (heap_value old from) (heap_value old to) hash)
  unfolding graph_of
  forward_refused s hash = forward_by (over old s) k a b (value_in old from) (value_in old to) one other hash

  pub exchange_obeys : (new : View) → Exchanges old new (name_of (heap_value old from)) (name_of (heap_value old to)) → Obeys old k (Become a b) answers.Done new
  unfolding graph_of room_of
  exchange_obeys new did = exchange_does old new k a b (value_in old from) (value_in old to) did.0 one other did.1 did.2

  pub forward_obeys : (new : View) (hash : Bool) → heap_graph new ≡ forwarded (heap_graph old) (name_of (heap_value old from)) (name_of (heap_value old to)) hash
      → heap_room new ≡ room_forwarded (heap_room old) (name_of (heap_value old from)) (name_of (heap_value old to)) → ObeysExactly old k (Forward a b hash) answers.Done new
  unfolding graph_of room_of
  forward_obeys new hash graph room = forward_does old new k a b (value_in old from) (value_in old to) hash one other graph room

module _ (old : View) (k : ℕ) (o : Text) (word : ℕ) (is : held (graph_of old) k o ≡ Some (value_in old word)) where
  pub pin_refused : (s : State) → refused (over old s) k (Pin o) ≡ first (pin_row (heap_room old) (heap_value old word))
  unfolding graph_of room_of
  pin_refused s = pin_by (over old s) k o (value_in old word) is

  pub pin_obeys : (new : View) → Pins old new (name_of (heap_value old word)) → Obeys old k (Pin o) answers.Done new
  unfolding graph_of room_of
  pin_obeys new did = pin_does old new k o (value_in old word) did.0 is did.1 did.2

  pub unpin_obeys : (new : View) → heap_graph new ≡ with_node (heap_graph old) (name_of (heap_value old word)) (record (node (heap_graph old) (name_of (heap_value old word))) { pinned = false }) → heap_room new ≡ heap_room old
      → ObeysExactly old k (Unpin o) answers.Done new
  unfolding graph_of room_of
  unpin_obeys new graph room = unpin_does old new k o (value_in old word) is (graph, room)

  pub flag_obeys : (new : View) (on : Bool) → heap_graph new ≡ with_node (heap_graph old) (name_of (heap_value old word)) (record (node (heap_graph old) (name_of (heap_value old word))) { readonly = on }) → heap_room new ≡ heap_room old
      → ObeysExactly old k (flag_asked on o) answers.Done new
  unfolding graph_of room_of
  flag_obeys new on graph room = flag_does old new k o (value_in old word) is on (graph, room)
