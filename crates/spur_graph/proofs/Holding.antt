-- What was bound is held.
use Rattle.std.proofs.Common.{◌≡◌, ℕ, List, Some, cond, ◌∙◌, ap}
use Rattle.std.specs.Cmp.{eq_by_cmp_equiv}
use Rattle.std.specs.FinMap.{get-insert}
use Rattle.spur_graph.specs.Handles.{handles_total}
use Rattle.spur_graph.specs.declared.answer.Value.{Value}
use Rattle.spur_graph.specs.Graph.{Graph, held, bind}

pub held-bind : (g : Graph) (k : ℕ) (h : List ℕ) (v : Value) → held (bind g k h v) k h ≡ Some v
held-bind g k h v = get-insert handles_total g.handles (k, h) v (k, h) ∙ ap (λ b. cond b (Some v) (held g k h)) ((eq_by_cmp_equiv handles_total).refl (k, h))
