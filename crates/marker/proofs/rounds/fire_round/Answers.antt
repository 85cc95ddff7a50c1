use Rattle.std.proofs.Common.{◌≡◌, ◌<◌, ℕ, List, length, sym, ap, subst, ◌∙◌, arith}
use Rattle.std.proofs.lemmas.List.Elements.{Contains-get_or}
use Rattle.std.specs.List.{Contains}
use Rattle.std.specs.Prelude.{slice_index}
use Rattle.weak_ephemeron.proofs.Turning.{one_or_none}
use Rattle.marker.specs.Firing.{FiresFirst}
use Rattle.marker.specs.Waiting.{waits}
use Rattle.marker.proofs.FiredHeaps.{fires_more, fires_none, fires_some, fires_stack}
use Rattle.marker.proofs.rounds.fire_round.Goals as goal

pub waiting-init : goal.waiting-init
waiting-init c = record { fires = fires_none c.args.heap.now; low = omega arith }

pub fire_at-fired-requires-clause-there : goal.fire_at-fired-requires-clause-there
fire_at-fired-requires-clause-there c =
    let fires = c.waiting.invariant.fires in
    let stack = fires_stack c.waiting.i c.args.heap.now c.waiting.fired c.waiting.heap fires in
    let is : c.stack_item-start.result ≡ slice_index c.args.heap.now.stack c.waiting.i = c.stack_item-start.ensures ∙ ap (λ (ss : List ℕ). slice_index ss c.waiting.i) stack in
    let there : c.waiting.i < length c.args.heap.now.stack = omega (arith, c.waiting-test.true, c.stack_len-i-end.ensures) in
    fires.stays.ordinary c.stack_item-start.result ∙ c.requires.stack c.stack_item-start.result (subst (Contains c.args.heap.now.stack) (sym is) (Contains-get_or c.args.heap.now.stack c.waiting.i 0 there))

pub fire_at-fired-requires-clause-some : goal.fire_at-fired-requires-clause-some
fire_at-fired-requires-clause-some c = fires_some c.waiting.i c.args.heap.now c.waiting.fired c.waiting.heap c.waiting.invariant.fires

pub waiting-preserved : goal.waiting-preserved
waiting-preserved c =
    let fires = c.waiting.invariant.fires in
    let stack = fires_stack c.waiting.i c.args.heap.now c.waiting.fired c.waiting.heap fires in
    let is : c.stack_item-start.result ≡ slice_index c.args.heap.now.stack c.waiting.i = c.stack_item-start.ensures ∙ ap (λ (ss : List ℕ). slice_index ss c.waiting.i) stack in
    let there : c.waiting.i < length c.args.heap.now.stack = omega (arith, c.waiting-test.true, c.stack_len-i-end.ensures) in
    let one = one_or_none (waits c.waiting.heap c.stack_item-start.result) in
    record {
      fires = fires_more c.waiting.i c.args.heap.now c.waiting.fired c.waiting.heap fires c.stack_item-start.result is there c.fire_at-fired.result c.fire_at-fired.new.heap c.fire_at-fired.ensures.skips c.fire_at-fired.ensures.fires c.fire_at-fired.ensures.count;
      low = omega (arith, one, c.waiting.invariant.low, c.fire_at-fired.ensures.count);
    }

pub returns : goal.returns
returns c =
    let all : c.waiting.i ≡ length c.args.heap.now.stack = omega (arith, c.waiting-test.false, c.stack_len-i-end.ensures, c.waiting.auto.i-end) in
    record { fires = subst (λ k. FiresFirst k c.args.heap.now c.waiting.fired c.waiting.heap) all c.waiting.invariant.fires }
