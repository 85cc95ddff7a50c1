use Rattle.std.proofs.Common.{◌+◌, Some, get_or, sym, ap, ◌∙◌, arith}
use Rattle.image_checks.proofs.Resolving.{told_moved, moved-below, named-below, left-first, left-next, left-nowhere, left-over, arrives}
use Rattle.image_checks.proofs.chains.end_of.Goals as goal

pub steps-init : goal.steps-init
steps-init c = record {
  inside = moved-below c.args.map.now c.args.words.now c.args.starts.now c.requires.known c.args.s c.requires.moved;
  moved = c.requires.moved;
  left = left-first c.args.map.now c.args.words.now c.args.starts.now c.requires.known c.args.s;
}

pub returns-in-None-clause-lost : goal.returns-in-None-clause-lost
returns-in-None-clause-lost c =
    let i = c.steps.invariant in
    left-nowhere c.args.map.now c.args.words.now c.args.starts.now c.requires.known c.steps._step c.steps.at c.args.s c.steps-test.true i.moved (sym c.to_region.ensures ∙ c.in-None.is) i.left

pub is_forwarder-requires-clause-inside : goal.is_forwarder-requires-clause-inside
is_forwarder-requires-clause-inside c =
    named-below c.args.map.now c.args.words.now c.args.starts.now c.requires.known (get_or c.args.words.now (c.steps.at + 1) 0) c.in-Some.next (sym c.to_region.ensures ∙ c.in-Some.is)

pub has-requires : goal.has-requires
has-requires c =
    let below = named-below c.args.map.now c.args.words.now c.args.starts.now c.requires.known (get_or c.args.words.now (c.steps.at + 1) 0) c.in-Some.next (sym c.to_region.ensures ∙ c.in-Some.is) in
    omega (arith, below, c.requires.known.covers)

pub returns-then-has-clause-end : goal.returns-then-has-clause-end
returns-then-has-clause-end c =
    let i = c.steps.invariant in
    let m = c.args.map.now in
    let ws = c.args.words.now in
    let st = c.args.starts.now in
    let k = c.requires.known in
    let w = sym c.to_region.ensures ∙ c.in-Some.is in
    let off = told_moved m ws st k c.in-Some.next c.is_forwarder.result c.is_forwarder.ensures ∙ c.if-not-is_forwarder.true in
    let end = arrives m ws st k c.steps._step c.steps.at c.args.s c.in-Some.next c.steps-test.true i.moved w i.left off in
    w ∙ ap Some (sym end.0)

pub returns-then-has-clause-ends : goal.returns-then-has-clause-ends
returns-then-has-clause-ends c =
    let i = c.steps.invariant in
    let m = c.args.map.now in
    let ws = c.args.words.now in
    let st = c.args.starts.now in
    let k = c.requires.known in
    let w = sym c.to_region.ensures ∙ c.in-Some.is in
    let off = told_moved m ws st k c.in-Some.next c.is_forwarder.result c.is_forwarder.ensures ∙ c.if-not-is_forwarder.true in
    let end = arrives m ws st k c.steps._step c.steps.at c.args.s c.in-Some.next c.steps-test.true i.moved w i.left off in
    end.1 ∙ sym c.has.ensures ∙ c.if-has.true

pub returns-else-has-clause-lost : goal.returns-else-has-clause-lost
returns-else-has-clause-lost c =
    let i = c.steps.invariant in
    let m = c.args.map.now in
    let ws = c.args.words.now in
    let st = c.args.starts.now in
    let k = c.requires.known in
    let w = sym c.to_region.ensures ∙ c.in-Some.is in
    let off = told_moved m ws st k c.in-Some.next c.is_forwarder.result c.is_forwarder.ensures ∙ c.if-not-is_forwarder.true in
    let end = arrives m ws st k c.steps._step c.steps.at c.args.s c.in-Some.next c.steps-test.true i.moved w i.left off in
    end.1 ∙ sym c.has.ensures ∙ c.if-has.false

pub steps-preserved : goal.steps-preserved
steps-preserved c =
    let i = c.steps.invariant in
    let m = c.args.map.now in
    let ws = c.args.words.now in
    let st = c.args.starts.now in
    let k = c.requires.known in
    let w = sym c.to_region.ensures ∙ c.in-Some.is in
    let on = told_moved m ws st k c.in-Some.next c.is_forwarder.result c.is_forwarder.ensures ∙ c.if-not-is_forwarder.false in
    record { inside = moved-below m ws st k c.in-Some.next on; moved = on; left = left-next m ws st k c.steps._step c.steps.at c.args.s c.in-Some.next c.steps-test.true i.moved w i.left }

pub returns-clause-lost : goal.returns-clause-lost
returns-clause-lost c =
    let i = c.steps.invariant in
    left-over c.args.map.now c.args.words.now c.args.starts.now c.requires.known c.steps._step c.steps.at c.args.s c.steps-test.false i.moved i.left
