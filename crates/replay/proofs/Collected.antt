-- What a full collection and a mourning answer, by what the calls tell of the heap.
use Rattle.std.proofs.Common.{◌≡◌, inr, ℕ, List, [], ◌∷◌, length, refl, ap, ◌∙◌, subst, Option, Some, None}
use Rattle.std.proofs.Math.Dec.{eqb-suc-zero}
use Rattle.std.specs.Prelude.{Ok}
use Rattle.std.specs.Option.{IfSome, IfNone, ok_or}
use Rattle.std.specs.Result.{result_err}
use Rattle.std.specs.List.{Contains}
use Rattle.spur_graph.specs.declared.answer.Value.TheVariants.{Ref}
use Rattle.spur_graph.specs.declared.answer.Answer.TheVariants as answers
use Rattle.spur_graph.specs.Bytes.{Text}
use Rattle.spur_graph.specs.Form.{Gc, Mourn}
use Rattle.spur_graph.specs.Graph.{Graph, bind}
use Rattle.spur_graph.specs.Live.{none}
use Rattle.spur_graph.specs.Rounds.{Collect}
use Rattle.spur_graph.specs.Room.{Room}
use Rattle.spur_graph.specs.Collections.{RoomCollected, without_first}
use Rattle.spur_graph.specs.State.{State}
use Rattle.spur_graph.specs.declared.answer.Refusal.TheVariants as r
use Rattle.spur_graph.specs.Refusals.{handles}
use Rattle.spur_graph.specs.Refused.{refused}
use Rattle.spur_graph.specs.Heaps.{View, Stands, heap_graph}
use Rattle.spur_heap.specs.Mourning.{TakesMourner}
use Rattle.full_collection.specs.Collected.{CollectsHeap}
use Rattle.replay.specs.Sessions.{graph_of, room_of, value_in, over}
use Rattle.replay.specs.Commands.{Obeys, ObeysExactly, Becomes}
use Rattle.replay.proofs.Changed.{stood}
use Rattle.replay.proofs.Steps.{over_is}

-- ---- a full collection

collect_does : (old new : View) (k nilled fired : ℕ) (graph : Graph) (room : Room) → Collect (graph_of old) none nilled fired graph → RoomCollected (room_of old) graph room → Stands new graph room
    → Obeys old k Gc (answers.Counts nilled fired) new
collect_does old new k nilled fired graph room collect collected stands = λ s. (
  record (over old s) { graph = graph; room = room },
  over new s,
  inr (record { nilled = nilled; fired = fired; counts = refl; collect = collect; room = collected; rest = refl }),
  inr (stood new graph room (over old s) stands),
  over_is new s,
)

pub collect_obeys : (old new : View) (k nilled fired : ℕ) → CollectsHeap old nilled fired new → Obeys old k Gc (answers.Counts nilled fired) new
unfolding graph_of room_of
collect_obeys old new k nilled fired c = collect_does old new k nilled fired c.graph c.room c.collect c.collected c.stands

-- ---- a mourning

mourn_does : (old new : View) (k : ℕ) (h : Text) (name : ℕ) (group : List ℕ) (groups : List (List ℕ)) → (graph_of old).mourners ≡ group ∷ groups → Contains group name
    → Becomes old new (bind (record (graph_of old) { mourners = without_first name group groups }) k h (Ref name)) → ObeysExactly old k (Mourn h) answers.Done new
mourn_does old new k h name group groups are waits becomes = λ s. inr (record {
  group = group;
  groups = groups;
  are = are;
  name = name;
  waits = waits;
  done = refl;
  becomes = λ i. record s { graph = becomes.0 i; room = becomes.1 i };
})

-- what was taken away and bound
taken : (old mid : View) (word : ℕ) (t : TakesMourner old mid word) → ((graph_of old).mourners ≡ t.group ∷ t.groups)
    × (graph_of mid ≡ record (graph_of old) { mourners = without_first t.name t.group t.groups }) × (room_of mid ≡ room_of old)
unfolding graph_of room_of
taken old mid word t = (t.are, t.graph, t.room)

pub mourn_obeys : (old mid new : View) (k : ℕ) (h : Text) (word : ℕ) → TakesMourner old mid word → Becomes mid new (bind (graph_of mid) k h (value_in mid word)) → ObeysExactly old k (Mourn h) answers.Done new
mourn_obeys old mid new k h word t becomes =
    let was = taken old mid word t in
    mourn_does old new k h t.name t.group t.groups was.0 t.waits (becomes.0 ∙ (λ i. bind (was.1 i) k h (t.value i)), becomes.1 ∙ was.2)

-- a mourning is refused by its row where there is no mourner, and where there is one nothing refuses it
none_waits : (v : View) (k : ℕ) (h : Text) (s : State) → handles (graph_of v) k h ≡ None → (heap_graph v).mourners ≡ [] → refused (over v s) k (Mourn h) ≡ Some r.NoMourner
unfolding graph_of
none_waits v k h s room left = rw (room, left) refl

one_waits : (v : View) (k : ℕ) (h : Text) (s : State) (group : List ℕ) (groups : List (List ℕ)) → handles (graph_of v) k h ≡ None → (heap_graph v).mourners ≡ group ∷ groups → refused (over v s) k (Mourn h) ≡ None
unfolding graph_of
one_waits v k h s group groups room are = rw (room, are, eqb-suc-zero (length groups)) refl

pub mourn_refused : (v mid : View) (k : ℕ) (h : Text) (s : State) (o : Option ℕ) → handles (graph_of v) k h ≡ None → IfNone o (((heap_graph v).mourners ≡ []) × (mid ≡ v)) → IfSome o (TakesMourner v mid)
    → refused (over v s) k (Mourn h) ≡ result_err (ok_or o r.NoMourner)
mourn_refused v mid k h s None room left took = none_waits v k h s room left.0
mourn_refused v mid k h s (Some word) room left took = one_waits v k h s took.group took.groups room took.are

-- the word that was taken
pub taken_word : (v mid : View) (o : Option ℕ) (word : ℕ) → ok_or o r.NoMourner ≡ Ok word → IfSome o (TakesMourner v mid) → TakesMourner v mid word
taken_word v mid None word is took = absurd cc
taken_word v mid (Some other) word is took =
    let same : other ≡ word = cc in
    let P : ℕ → Type 0 = TakesMourner v mid in
    subst P same took

-- there is as much room for handles as before
pub mourn_room : (v mid : View) (word k : ℕ) (h : Text) → TakesMourner v mid word → handles (graph_of v) k h ≡ None → handles (graph_of mid) k h ≡ None
unfolding graph_of
mourn_room v mid word k h t room = ap (λ g. handles g k h) t.graph ∙ room
