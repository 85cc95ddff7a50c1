-- What holds over a heap whose handles were rewritten to where they lead holds over the heap before.
use Rattle.std.proofs.Common.{◌≡◌, ℕ, ap, subst, ◌∙◌, Option}
use Rattle.std.specs.Prelude.{Bool, Result, Ok, Err, IfOk, OnErr}
use Rattle.spur_graph.specs.declared.answer.Answer.{Answer}
use Rattle.spur_graph.specs.declared.answer.Refusal.{Refusal}
use Rattle.spur_graph.specs.Bytes.{Text}
use Rattle.spur_graph.specs.Graph.{Graph, handle_cmp}
use Rattle.spur_graph.specs.Form.{Form, Become, Forward}
use Rattle.spur_graph.specs.State.{State, name_at}
use Rattle.spur_graph.specs.Refused.{refused}
use Rattle.spur_graph.specs.Does.{Does}
use Rattle.spur_graph.specs.Heaps.{View}
use Rattle.std.specs.FinMap.{FinMap}
use Rattle.lazy_become.specs.Writes.{ExchangeWrites, ForwardWrites}
use Rattle.replay.specs.Sessions.{graph_of, room_of, over}
use Rattle.replay.specs.Commands.{Settles, FirstRefusal, Obeys, Same}
use Rattle.replay.specs.Writes.{Writes}

-- the words of heaps that differ in handles alone
module _ (old new : View) (held : FinMap handle_cmp ℕ) (a b : ℕ) where
  exchange_written : ExchangeWrites (record old { handles = held }) new a b → ExchangeWrites old new a b
  exchange_written is = record { one = is.one; in_place = is.in_place; moved = is.moved }

  forward_written : (hash : Bool) → ForwardWrites (record old { handles = held }) new a b hash → ForwardWrites old new a b hash
  forward_written hash is = record { one = is.one; moved = is.moved }

module _ (old mid : View) (settled : Settles old mid) where
  room_stays : room_of mid ≡ room_of old
  unfolding room_of
  room_stays = ap room_of settled.rest

  state_stays : (s : State) → over mid s ≡ over old s
  state_stays s = λ i. record s { graph = settled.graph i; room = room_stays i }

  module _ (k : ℕ) (form : Form) where
    pub first_refusal : (refusal : Option Refusal) → FirstRefusal mid k form refusal → FirstRefusal old k form refusal
    first_refusal refusal is = λ s. subst (λ (t : State). refused t k form ≡ refusal) (state_stays s) (is s)

    pub obeys : (new : View) (result : Result Answer Refusal) → IfOk result (λ answer. Obeys mid k form answer new) → IfOk result (λ answer. Obeys old k form answer new)
    obeys new (Ok answer) does = λ s.
        let did = does s in
        (did.0, did.1, subst (λ (t : State). Does t k form answer did.0) (state_stays s) did.2, did.3, did.4)
    obeys new (Err why) does = tt

  pub stays_same : (new : View) (result : Result Answer Refusal) → OnErr result (new ≡ mid) → OnErr result (Same old new)
  stays_same new (Ok answer) is = tt
  stays_same new (Err why) is = (ap graph_of is ∙ settled.graph, ap room_of is ∙ room_stays)

  exchange_writes : (new : View) (k : ℕ) (a b : Text) → ExchangeWrites mid new (name_at (graph_of mid) k a) (name_at (graph_of mid) k b) → ExchangeWrites old new (name_at (graph_of old) k a) (name_at (graph_of old) k b)
  exchange_writes new k a b is =
      let named = subst (λ (g : Graph). ExchangeWrites mid new (name_at g k a) (name_at g k b)) settled.graph is in
      exchange_written old new mid.handles (name_at (graph_of old) k a) (name_at (graph_of old) k b)
      (subst (λ (v : View). ExchangeWrites v new (name_at (graph_of old) k a) (name_at (graph_of old) k b)) settled.rest named)

  forward_writes : (new : View) (k : ℕ) (a b : Text) (hash : Bool) → ForwardWrites mid new (name_at (graph_of mid) k a) (name_at (graph_of mid) k b) hash → ForwardWrites old new (name_at (graph_of old) k a) (name_at (graph_of old) k b) hash
  forward_writes new k a b hash is =
      let named = subst (λ (g : Graph). ForwardWrites mid new (name_at g k a) (name_at g k b) hash) settled.graph is in
      forward_written old new mid.handles (name_at (graph_of old) k a) (name_at (graph_of old) k b) hash
      (subst (λ (v : View). ForwardWrites v new (name_at (graph_of old) k a) (name_at (graph_of old) k b) hash) settled.rest named)

  pub writes : (new : View) (k : ℕ) (form : Form) → Writes mid new k form → Writes old new k form
  writes new k (Become a b) is = exchange_writes new k a b is
  writes new k (Forward a b hash) is = forward_writes new k a b hash is
  writes new k form is = is
