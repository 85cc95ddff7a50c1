use Rattle.std.proofs.Common.{◌-◌, length, ap, ◌∙◌, arith}
use Rattle.std.proofs.lemmas.List.{length-set}
use Rattle.spur_heap.specs.Parts.{view_of}
use Rattle.heap_walk.specs.Shapes.{lead_at, words_at}
use Rattle.spur_heap.proofs.TwoRuns.{two_runs}
use Rattle.spur_heap.proofs.ExchangedWords.{apart}
use Rattle.spur_heap.proofs.Headers.{header_inside}
use Rattle.spur_heap.proofs.SlotCounts.{at_start}
use Rattle.spur_heap.proofs.Swapped.{swap_long}
use Rattle.spur_heap.proofs.swapping.exchange_contents.Goals as goal

pub header_for-first-requires-clause-inside : goal.header_for-first-requires-clause-inside
header_for-first-requires-clause-inside c = header_inside (view_of c.args.parts.now) c.requires.sound c.args.a c.requires.first 0

pub header_for-second-requires-clause-inside : goal.header_for-second-requires-clause-inside
header_for-second-requires-clause-inside c = header_inside (view_of c.args.parts.now) c.requires.sound c.args.b c.requires.second 0

pub lead_of-lead-requires : goal.lead_of-lead-requires
lead_of-lead-requires c = record { inside = header_inside (view_of c.args.parts.now) c.requires.sound c.args.a c.requires.first 0 }

pub words_of-words-requires : goal.words_of-words-requires
words_of-words-requires c = record { stands = at_start (view_of c.args.parts.now) c.requires.sound c.args.a c.requires.first }

pub overflow_sub-a : goal.overflow_sub-a
overflow_sub-a c =
    let two = two_runs (view_of c.args.parts.now) c.requires.sound c.args.a c.args.b c.requires.first c.requires.second c.requires.alike c.requires.apart in
    let lead = c.lead_of-lead.ensures in
    let low = two.first in
    omega (arith, lead, low)

pub overflow_sub-b : goal.overflow_sub-b
overflow_sub-b c =
    let two = two_runs (view_of c.args.parts.now) c.requires.sound c.args.a c.args.b c.requires.first c.requires.second c.requires.alike c.requires.apart in
    let lead = c.lead_of-lead.ensures in
    let low = two.second in
    omega (arith, lead, low)

pub swap_runs-requires-clause-first : goal.swap_runs-requires-clause-first
swap_runs-requires-clause-first c =
    let two = two_runs (view_of c.args.parts.now) c.requires.sound c.args.a c.args.b c.requires.first c.requires.second c.requires.alike c.requires.apart in
    let lead = c.lead_of-lead.ensures in
    let words = c.words_of-words.ensures in
    let fits = two.runs.first_fits in
    omega (arith, lead, words, fits)

pub swap_runs-requires-clause-second : goal.swap_runs-requires-clause-second
swap_runs-requires-clause-second c =
    let two = two_runs (view_of c.args.parts.now) c.requires.sound c.args.a c.args.b c.requires.first c.requires.second c.requires.alike c.requires.apart in
    let lead = c.lead_of-lead.ensures in
    let words = c.words_of-words.ensures in
    let fits = two.runs.second_fits in
    omega (arith, lead, words, fits)

pub swap_runs-requires-clause-apart : goal.swap_runs-requires-clause-apart
swap_runs-requires-clause-apart c i j p q e =
    let v = view_of c.args.parts.now in
    let two = two_runs v c.requires.sound c.args.a c.args.b c.requires.first c.requires.second c.requires.alike c.requires.apart in
    let lead = c.lead_of-lead.ensures in
    let words = c.words_of-words.ensures in
    apart v.words (c.args.a - lead_at v.words c.args.a) (c.args.b - lead_at v.words c.args.a) (words_at v.words c.args.a) (lead_at v.words c.args.a) 0 0 two.runs i j (omega (arith, p, words)) (omega (arith, q, words)) (omega (arith, e, lead))

pub put-requires : goal.put-requires
put-requires c =
    let low = header_inside (view_of c.args.parts.now) c.requires.sound c.args.a c.requires.first 0 in
    let long = ap length c.swap_runs.ensures ∙ swap_long c.args.parts.now.region (c.args.a - c.lead_of-lead.result) (c.args.b - c.lead_of-lead.result) c.words_of-words.result in
    omega (arith, low, long)

pub put-requires-2 : goal.put-requires-2
put-requires-2 c =
    let low = header_inside (view_of c.args.parts.now) c.requires.sound c.args.b c.requires.second 0 in
    let long = ap length c.swap_runs.ensures ∙ swap_long c.args.parts.now.region (c.args.a - c.lead_of-lead.result) (c.args.b - c.lead_of-lead.result) c.words_of-words.result in
    let more = ap length c.put.ensures ∙ length-set c.swap_runs.new.region c.args.a c.header_for-first.result.0 in
    omega (arith, low, long, more)
