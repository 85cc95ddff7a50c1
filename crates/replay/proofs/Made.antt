-- Objects that are made, classes that are entered, and hashes.
use Rattle.std.proofs.Common.{◌≡◌, inl, inr, ◌≤◌, ◌<◌, ℕ, [], ◌∷◌, length, refl, sym, ap, subst, ◌∙◌, arith, Some, None}
use Rattle.std.proofs.Math.Bool.{or-false}
use Rattle.std.proofs.lemmas.Bool.{cases_lt}
use Rattle.std.proofs.lemmas.Option.{none-some}
use Rattle.std.specs.FinMap.{get, len}
use Rattle.std.specs.List.{sum}
use Rattle.std.specs.FinSet.{contains}
use Rattle.spur_graph.specs.declared.answer.Value.{Value}
use Rattle.spur_graph.specs.declared.answer.Value.TheVariants.{Ref}
use Rattle.spur_graph.specs.declared.answer.Answer.TheVariants as answers
use Rattle.spur_graph.specs.declared.answer.Refusal.{Refusal}
use Rattle.spur_graph.specs.Bytes.{Text}
use Rattle.spur_graph.specs.Value.{is_immediate, name_of}
use Rattle.spur_graph.specs.Node.{Node}
use Rattle.spur_graph.specs.Graph.{Graph, IsClosed, node_at, held, bind, with_node, waiting}
use Rattle.spur_graph.specs.FreeSizes.{largest}
use Rattle.spur_graph.specs.Names.{rename_node}
use Rattle.spur_graph.specs.Room.{placed, fresh_spot, fresh_words}
use Rattle.spur_graph.specs.Serve.{Source, Served, serve}
use Rattle.spur_graph.specs.Instances.{fresh_node, layout_in, format_for, slots_for, instance}
use Rattle.spur_graph.specs.Hashes.{hash_now, hashed, free_index, entered}
use Rattle.spur_graph.specs.Form.{Enter, Hash, Stat}
use Rattle.spur_graph.specs.State.{State, made}
use Rattle.spur_graph.specs.State.{made as made_state}
use Rattle.spur_graph.specs.Refusals.{first, unknown, handles, is_special}
use Rattle.spur_graph.specs.Refused.{refused}
use Rattle.spur_graph.specs.Does.{room_entered, Does}
use Rattle.spur_graph.specs.Step.{SameRoom, Renamed}
use Rattle.spur_graph.specs.Heaps.{View, IsWhole, heap_graph, heap_room, heap_value}
use Rattle.spur_graph.proofs.Renaming.{itself}
use Rattle.spur_heap.specs.declared.allocation.Space.{Space}
use Rattle.spur_heap.specs.declared.allocation.Space.TheVariants as spaces
use Rattle.spur_heap.specs.Allocating.{source_of}
use Rattle.class_table.specs.Rows.{instance_slots, instance_row, enter_row}
use Rattle.class_table.specs.Instantiating.{Instantiates}
use Rattle.graph_laws.proofs.Named.{IsNamed, all_named, get-here}
use Rattle.graph_laws.proofs.Changes.{made-renamed, q}
use Rattle.graph_laws.proofs.Fresh.{fresh-iso, fresh-room}
use Rattle.graph_laws.proofs.Outcomes.{fresh_node-renamed}
use Rattle.graph_laws.proofs.Rooms.{served-keeps}
use Rattle.replay.specs.Sessions.{graph_of, room_of, value_in, over}
use Rattle.replay.specs.Commands.{Obeys, ObeysExactly, Becomes, asked}
use Rattle.replay.proofs.Graphs.{names_fresh, handles_counted}
use Rattle.spur_heap.proofs.RoomNames.{no_spot_without, no_old_name_without}
use Rattle.replay.proofs.Steps.{unrenamed, over_is}

-- ---- rows

module _ (s : State) (k : ℕ) (c : Text) (v : Value) (is : held s.graph k c ≡ Some v) where
  pub make_row : (space : Space) (h : Text) (n : ℕ) → refused s k (asked space h c n) ≡ first (handles s.graph k h ∷ instance_row s.graph s.room v n (source_of space))
  make_row spaces.Any h n = rw (is, or-false (is_immediate v)) refl
  make_row spaces.Old h n = rw (is, or-false (is_immediate v)) refl

  pub class_row : refused s k (Enter c) ≡ first (enter_row s.graph s.room v)
  class_row = rw (is, or-false (is_immediate v), or-false (is_special s.graph (name_of v))) refl

-- a handle that is not held
pub make_unknown : (s : State) (k : ℕ) (space : Space) (h c : Text) (n : ℕ) (why : Refusal) → unknown s.graph k (c ∷ []) ≡ Some why → refused s k (asked space h c n) ≡ Some why
make_unknown s k spaces.Any h c n why is = rw (is) refl
make_unknown s k spaces.Old h c n why is = rw (is) refl

pub some_room : (s : State) (k : ℕ) (space : Space) (h c : Text) (n : ℕ) (v : Value) → held s.graph k c ≡ Some v → handles s.graph k h ≡ None → refused s k (asked space h c n) ≡ first (instance_row s.graph s.room v n (source_of space))
some_room s k space h c n v is room = make_row s k c v is space h n ∙ ap (λ o. first (o ∷ instance_row s.graph s.room v n (source_of space))) room

-- the rows over a heap
pub instances_refused : (v : View) (class : ℕ) (n : ℕ) (source : Source) → first (instance_row (graph_of v) (room_of v) (value_in v class) n source) ≡ first (instance_row (heap_graph v) (heap_room v) (heap_value v class) n source)
unfolding graph_of room_of
instances_refused v class n source = refl

pub enters_refused : (v : View) (class : ℕ) → first (enter_row (graph_of v) (room_of v) (value_in v class)) ≡ first (enter_row (heap_graph v) (heap_room v) (heap_value v class))
unfolding graph_of room_of
enters_refused v class = refl

-- ---- an instance is made

-- the handles of the heap with the instance are as before
pub same_handles : (old new : View) (source : Source) (class : Value) (n word : ℕ) → Instantiates old new source class n word → (k : ℕ) (h : Text) → handles (graph_of new) k h ≡ handles (graph_of old) k h
unfolding graph_of
same_handles old new source class n word made k h = ap (λ (g : Graph). handles g k h) made.graph

-- a state over a heap speaks only of names that have nodes
names_there : (v : View) → IsClosed (heap_graph v) → IsWhole v → (s : State) → IsNamed (over v s)
unfolding graph_of room_of
names_there v closed whole s = all_named (over v s) (record { closed = closed; spots = λ a none. no_spot_without v a none; old_names = λ a none. no_old_name_without v a none })

-- what makes it, under the next name
made_does : (s : State) (k : ℕ) (space : Space) (h c : Text) (n : ℕ) (v : Value) (served : Served) → held s.graph k c ≡ Some v → serve (source_of space) s.room (fresh_words (instance_slots s.graph v n)) ≡ Some served
    → Does s k (asked space h c n) answers.Done (made s k h (instance s.graph (node_at s.graph v) n) (instance_slots s.graph v n) served)
made_does s k spaces.Any h c n v served is serves = inl (rw (is, serves) (refl, refl))
made_does s k spaces.Old h c n v served is serves = inl (rw (is, serves) (refl, refl))

-- what the heap tells of its graph, as the state has it
on_graphs : (old mid : View) (source : Source) (class : Value) (n word : ℕ) (made : Instantiates old mid source class n word)
    → (graph_of mid ≡ with_node (graph_of old) made.start (instance (graph_of old) (node_at (graph_of old) class) n)) × ((graph_of mid).next ≡ (graph_of old).next)
    × (serve source (room_of old) (fresh_words (instance_slots (graph_of old) class n)) ≡ Some made.served) × (get (graph_of old).nodes made.start ≡ None)
    × (room_of mid ≡ placed made.served.room made.start (fresh_spot made.served.space (instance_slots (graph_of old) class n)))
unfolding graph_of room_of
on_graphs old mid source class n word made = (made.graph, ap (λ (g : Graph). g.next) made.graph, made.serves, made.fresh, made.room)

-- a name that has a node is one before the next
below_next : (old mid : View) → IsWhole mid → (a : ℕ) (n : Node) → graph_of mid ≡ with_node (graph_of old) a n → (graph_of mid).next ≡ (graph_of old).next → a < (graph_of old).next
below_next old mid whole a n is next = elim (cases_lt a (graph_of old).next) [
  | inl low ↦ low
  | inr past ↦ absurd (none-some n (sym (names_fresh mid whole a (subst (λ x. x ≤ a) (sym next) past)) ∙ ap (λ (g : Graph). get g.nodes a) is ∙ get-here (graph_of old) a n))
]

-- the same under the start where it stands
module _ (s : State) (named : IsNamed s) (k : ℕ) (h : Text) (class : Node) (n start : ℕ) (served : Served) (source : Source) (words : ℕ) (serves : serve source s.room words ≡ Some served)
    (free : get s.graph.nodes start ≡ None) (low : start < s.graph.next) where
  abbrev there : State
  there = record s { graph = bind (with_node s.graph start (instance s.graph class n)) k h (Ref start); room = placed served.room start (fresh_spot served.space (slots_for (layout_in class) n)) }

  same : Renamed s s
  same = unrenamed s (itself s.graph) named.fresh

  instance_stays : instance s.graph class n ≡ rename_node (q same named start free) (instance s.graph class n)
  instance_stays =
      ap (λ nil. fresh_node nil class.hash (format_for (layout_in class) n) (slots_for (layout_in class) n)) (fresh-iso named same.graph start free).nil
      ∙ fresh_node-renamed (q same named start free) s.graph.nil class.hash (format_for (layout_in class) n) (slots_for (layout_in class) n)

  room_stays : SameRoom served.room served.room (q same named start free)
  room_stays =
      let keep = served-keeps source s.room words served serves in
      let room = fresh-room named same.graph start free same.room in
      record {
        spots = λ a. ap (λ x. get x (q same named start free a)) keep.spots ∙ room.spots a ∙ sym (ap (λ x. get x a) keep.spots);
        old_names = λ a. ap (λ x. contains x (q same named start free a)) keep.old_names ∙ room.old_names a ∙ sym (ap (λ x. contains x a) keep.old_names);
        rest = refl;
      }

  stands_renamed : Renamed (made s k h (instance s.graph class n) (slots_for (layout_in class) n) served) there
  stands_renamed =
      made-renamed same named start free k h (instance s.graph class n) (instance s.graph class n) served.room served.room (fresh_spot served.space (slots_for (layout_in class) n)) s.graph.next
      instance_stays room_stays (λ b l. (λ e. omega (arith, e, l, low), l))

-- an instance is made, and a handle bound to it
pub made_obeys : (old mid new : View) (k : ℕ) (space : Space) (h c : Text) (n word : ℕ) (class : Value) → IsClosed (heap_graph old) → IsWhole old → IsWhole mid → held (graph_of old) k c ≡ Some class
    → Instantiates old mid (source_of space) class n word → Becomes mid new (bind (graph_of mid) k h (value_in mid word)) → Obeys old k (asked space h c n) answers.Done new
made_obeys old mid new k space h c n word class closed whole after is made becomes = λ s.
    let e : State = over old s in
    let served = made.served in
    let named = names_there old closed whole s in
    let slots = instance_slots (graph_of old) class n in
    let heap = on_graphs old mid (source_of space) class n word made in
    let low : made.start < (graph_of old).next = below_next old mid after made.start _ heap.0 heap.1 in
    let renamed = stands_renamed e named k h (node_at (graph_of old) class) n made.start served (source_of space) (fresh_words slots) heap.2 heap.3 low in
    let graph : graph_of new ≡ bind (with_node (graph_of old) made.start (instance (graph_of old) (node_at (graph_of old) class) n)) k h (Ref made.start) = becomes.0 ∙ (λ i. bind (heap.0 i) k h (made.value i)) in
    let room : room_of new ≡ placed served.room made.start (fresh_spot served.space slots) = becomes.1 ∙ heap.4 in
    let exact : State = made_state e k h (instance (graph_of old) (node_at (graph_of old) class) n) slots served in
    let P : State → Type 0 = λ t. Renamed exact t in
    (exact, over new s, made_does e k space h c n class served is heap.2, inr (subst P (λ i. record s { graph = sym graph i; room = sym room i }) renamed), over_is new s)

-- ---- hashes, entries, counts

hash_does : (old new : View) (k : ℕ) (o : Text) (v : Value) (hash : ℕ) → held (graph_of old) k o ≡ Some v → hash ≡ hash_now (graph_of old) (name_of v) → graph_of new ≡ hashed (graph_of old) (name_of v) → room_of new ≡ room_of old
    → ObeysExactly old k (Hash o) (answers.Number hash) new
hash_does old new k o v hash is at graph room = λ s. inl (rw (is) (ap answers.Number at, λ i. record s { graph = graph i; room = room i }))

pub hash_obeys : (old new : View) (k : ℕ) (o : Text) (word hash : ℕ) → held (graph_of old) k o ≡ Some (value_in old word) → hash ≡ hash_now (heap_graph old) (name_of (heap_value old word))
    → heap_graph new ≡ hashed (heap_graph old) (name_of (heap_value old word)) → heap_room new ≡ heap_room old → ObeysExactly old k (Hash o) (answers.Number hash) new
unfolding graph_of room_of
hash_obeys old new k o word hash is at graph room = hash_does old new k o (value_in old word) hash is at graph room

enter_does : (old new : View) (k : ℕ) (c : Text) (v : Value) (index : ℕ) → held (graph_of old) k c ≡ Some v → index ≡ free_index (graph_of old) → graph_of new ≡ entered (graph_of old) (name_of v) (free_index (graph_of old))
    → room_entered (room_of old) (free_index (graph_of old)) ≡ Some (room_of new) → ObeysExactly old k (Enter c) (answers.Number index) new
enter_does old new k c v index is at graph room = λ s. inl (rw (is, room) (ap answers.Number at, λ i. record s { graph = graph i; room = room_of new }))

pub enter_obeys : (old new : View) (k : ℕ) (c : Text) (word index : ℕ) → held (graph_of old) k c ≡ Some (value_in old word) → index ≡ free_index (heap_graph old)
    → heap_graph new ≡ entered (heap_graph old) (name_of (heap_value old word)) (free_index (heap_graph old)) → room_entered (heap_room old) (free_index (heap_graph old)) ≡ Some (heap_room new)
    → ObeysExactly old k (Enter c) (answers.Number index) new
unfolding graph_of room_of
enter_obeys old new k c word index is at graph room = enter_does old new k c (value_in old word) index is at graph room

pub stat_obeys : (v : View) (k nodes handles mourners free most eden past : ℕ) → nodes ≡ len (heap_graph v).nodes → handles ≡ len v.handles → mourners ≡ length (waiting (heap_graph v)) → free ≡ sum (heap_room v).free
    → most ≡ largest (heap_room v).free → eden ≡ (heap_room v).eden_left → past ≡ (heap_room v).past_used
    → ObeysExactly v k Stat (answers.Stat (record { nodes = nodes; handles = handles; mourners = mourners; free = free; largest = most; eden = eden; past = past })) v
unfolding graph_of room_of
stat_obeys v k nodes handles mourners free most eden past a b c d e f g =
    λ s. inl (λ i. answers.Stat (record { nodes = a i; handles = (b ∙ sym (handles_counted v)) i; mourners = c i; free = d i; largest = e i; eden = f i; past = g i }), refl)
