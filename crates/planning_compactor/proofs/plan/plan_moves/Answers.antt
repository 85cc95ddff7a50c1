use Rattle.std.proofs.Common.{◌≡◌, ℕ, ◌∙◌, subst, arith}
use Rattle.heap_walk.specs.Starts.{has_start}
use Rattle.planning_compactor.specs.Planning.{IsPlan, HasMoves, IsNext, left}
use Rattle.planning_compactor.proofs.Lefts.{planned-more}
use Rattle.planning_compactor.proofs.plan.plan_moves.Goals as goal

pub objects-preserved : goal.objects-preserved
objects-preserved c =
    let has = has_start c.args.starts.now in
    let words = c.args.words.now in
    let v = c.plan_object-count.ensures in
    let i = c.objects.invariant in
    let p = c.objects.plan in
    let q = c.plan_object-count.new.plan in
    let t = c.plan_object-count.new.table in
    let n : ℕ = c.plan_object-count.result in
    let lows : p.low ≡ c.args.plan.now.low = i.same.0 in
    let ends : p.end ≡ c.args.plan.now.end = i.same.1 in
    let next : IsNext (left has words p.next p.pin p.finger c.args.plan.now.end) t c.objects.count n q.next (left has words q.next q.pin q.finger c.args.plan.now.end) =
    subst (λ e. IsNext (left has words p.next p.pin p.finger e) t c.objects.count n q.next (left has words q.next q.pin q.finger e)) ends v.is in
    record {
      same = (v.same.0 ∙ lows, v.same.1 ∙ ends, omega (arith, i.same.2, v.same.2, c.in-Some.ensures.found.0));
      same_table = v.same_table ∙ i.same_table;
      few = omega (arith, v.few.0, c.objects-test.true, i.same_table);
      plan = subst (λ x. IsPlan has words c.args.plan.now.low x q.next q.pin q.finger t n) ends (subst (λ x. IsPlan has words x p.end q.next q.pin q.finger t n) lows v.plan);
      is = planned-more (left has words c.args.plan.now.next c.args.plan.now.pin c.args.plan.now.finger c.args.plan.now.end) (left has words p.next p.pin p.finger c.args.plan.now.end) (left has words q.next q.pin q.finger c.args.plan.now.end)
          c.objects.table t c.objects.count n p.next q.next (omega (arith, v.same.2, c.in-Some.ensures.found.0)) (omega (arith, c.objects-test.true)) (omega (arith, c.objects-test.true, v.same_table)) v.front i.is next;
      moves = subst (λ x. HasMoves has words c.args.plan.now.low x t n q.next) ends (subst (λ x. HasMoves has words x p.end t n q.next) lows v.moves);
    }
