use Rattle.std.proofs.Common.{◌<◌, length, arith}
use Rattle.object_header.specs.Chunks.{chunks}
use Rattle.image_settle.specs.Settles.{IsTurned}
use Rattle.image_settle.proofs.Walking.{walk_ends}
use Rattle.image_settle.proofs.Steps.{Spans, Turns, turns_step, turned_long, span_fits}
use Rattle.image_settle.proofs.walk.turn_forwarders.Goals as goal

pub turn_forwarder-requires-clause-inside : goal.turn_forwarder-requires-clause-inside
turn_forwarder-requires-clause-inside c =
    let i = c.chunks.invariant in
    let span = c.span_of-span.result in
    let s : Spans c.chunks.words c.chunks.at span.start span.slots span.end = record { start_is = c.span_of-span.ensures.start; slots_is = c.span_of-span.ensures.slots; end_is = c.span_of-span.ensures.end } in
    let low : c.chunks.at < length c.args.words.now = omega (arith, i.long) in
    (span_fits (λ d j w. IsTurned c.args.map.now c.args.words.now d j w) c.args.words.now (chunks c.args.words.now) c.chunks.words c.chunks.at span.start span.slots span.end i low s).inside

pub chunks-smaller : goal.chunks-smaller
chunks-smaller c =
    let i = c.chunks.invariant in
    let span = c.span_of-span.result in
    let s : Spans c.chunks.words c.chunks.at span.start span.slots span.end = record { start_is = c.span_of-span.ensures.start; slots_is = c.span_of-span.ensures.slots; end_is = c.span_of-span.ensures.end } in
    let low : c.chunks.at < length c.args.words.now = omega (arith, i.long) in
    let f = span_fits (λ d j w. IsTurned c.args.map.now c.args.words.now d j w) c.args.words.now (chunks c.args.words.now) c.chunks.words c.chunks.at span.start span.slots span.end i low s in
    let k : Turns c.args.map.now c.chunks.words c.turn_forwarder.new.words span.start = record { turned = c.turn_forwarder.ensures.turned; kept = c.turn_forwarder.ensures.kept } in
    let len = turned_long c.args.map.now c.chunks.words c.turn_forwarder.new.words span.start k in
    omega (arith, f.ahead, len, c.chunks-test.true)

pub chunks-preserved : goal.chunks-preserved
chunks-preserved c =
    let i = c.chunks.invariant in
    let span = c.span_of-span.result in
    let s : Spans c.chunks.words c.chunks.at span.start span.slots span.end = record { start_is = c.span_of-span.ensures.start; slots_is = c.span_of-span.ensures.slots; end_is = c.span_of-span.ensures.end } in
    let low : c.chunks.at < length c.args.words.now = omega (arith, i.long) in
    let k : Turns c.args.map.now c.chunks.words c.turn_forwarder.new.words span.start = record { turned = c.turn_forwarder.ensures.turned; kept = c.turn_forwarder.ensures.kept } in
    turns_step c.args.words.now (chunks c.args.words.now) c.chunks.words c.turn_forwarder.new.words c.chunks.at span.start span.slots span.end c.args.map.now i low s k

pub returns-clause-turned : goal.returns-clause-turned
returns-clause-turned c =
    let i = c.chunks.invariant in
    walk_ends (λ d j w. IsTurned c.args.map.now c.args.words.now d j w) c.args.words.now (chunks c.args.words.now) c.chunks.words c.chunks.at i (omega (arith, i.long))
