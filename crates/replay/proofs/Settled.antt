-- Handles that are rewritten to where they lead.
use Rattle.std.proofs.Common.{◌≡◌, ℕ, List, Bool, true, false, cond, refl, ap, sym, ◌∙◌, Some, None}
use Rattle.std.specs.Prelude.{Result, Ok, Err, OnOk, IsErr}
use Rattle.std.specs.FinMap.{FinMap, get, insert, same_map, get-insert}
use Rattle.std.specs.Ordering.{eq_by_cmp}
use Rattle.std.specs.Cmp.{Equal-is}
use Rattle.spur_graph.specs.declared.answer.Value.{Value}
use Rattle.spur_graph.specs.declared.answer.Refusal.{Refusal}
use Rattle.spur_graph.specs.Graph.{Graph, Handle, handle_cmp, held, bind}
use Rattle.spur_graph.specs.Handles.{handles_total}
use Rattle.spur_graph.specs.Heaps.{View}
use Rattle.spur_graph.proofs.HandleMaps.{exact_handles}
use Rattle.replay.specs.Sessions.{graph_of, value_in}
use Rattle.replay.specs.Commands.{Settles}
use Rattle.replay.proofs.Graphs.{handle_bound, held_value}

-- a handle that is bound to the value that it has changes nothing
insert-again : {X : Type 0} (m : FinMap handle_cmp X) (h : Handle) (x : X) → get m h ≡ Some x → insert m h x ≡ m
insert-again m h x is = same_map handles_total exact_handles _ _ (λ q. get-insert handles_total m h x q ∙ by q (eq_by_cmp handle_cmp q h) refl)
  where
    by : (q : Handle) (b : Bool) → eq_by_cmp handle_cmp q h ≡ b → cond b (Some x) (get m q) ≡ get m q
    by q true e = sym is ∙ ap (get m) (sym (exact_handles q h ((Equal-is (handle_cmp q h)).0 e)))
    by q false e = refl

bound_again : (g : Graph) (k : ℕ) (h : List ℕ) (x : Value) → held g k h ≡ Some x → bind g k h x ≡ g
bound_again g k h x is = λ i. record g { handles = insert-again g.handles (k, h) x is i }

-- a handle is rewritten to a word of the same value
rebound : (v new : View) (k : ℕ) (h : List ℕ) (word end : ℕ) → get v.handles (k, h) ≡ Some word → value_in v end ≡ value_in v word → new ≡ record v { handles = insert v.handles (k, h) end } → Settles v new
rebound v new k h word end is same moved = record {
  graph = (handle_bound v new k h end moved).0 ∙ bound_again (graph_of v) k h (value_in v end) (held_value v k h word is ∙ ap (λ x. Some x) (sym same));
  rest = moved ∙ (λ i. record v { handles = sym (ap (λ (u : View). u.handles) moved) i });
}

-- which is not refused, since the handle is held
pub resettled : (v new : View) (k : ℕ) (h : List ℕ) (word end : ℕ) (result : Result (Unit {0}) Refusal) → get v.handles (k, h) ≡ Some word → value_in v end ≡ value_in v word
    → OnOk result (new ≡ record v { handles = insert v.handles (k, h) end }) → (IsErr result → get v.handles (k, h) ≡ None) → Settles v new
resettled v new k h word end (Ok x) is same moved full = rebound v new k h word end is same moved
resettled v new k h word end (Err e) is same moved full =
    let none : get v.handles (k, h) ≡ None = full refl in
    cc
