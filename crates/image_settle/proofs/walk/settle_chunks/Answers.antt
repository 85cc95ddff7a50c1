use Rattle.std.proofs.Common.{◌≢◌, ◌<◌, length, sym, subst, arith, get_or, nat_eq, ◌∙◌}
use Rattle.std.proofs.lemmas.Bool.{or_parts, eqb-false}
use Rattle.object_header.specs.Head.{class_of}
use Rattle.object_header.specs.Chunks.{chunks}
use Rattle.image_words.specs.References.{Leads}
use Rattle.image_settle.specs.Settles.{Follows, IsNext, IsCleared}
use Rattle.image_settle.proofs.Finding.{passes, finds, ends}
use Rattle.image_settle.proofs.Walking.{walk_starts, walk_ends}
use Rattle.image_settle.proofs.Ready.{ready_follows, next_span}
use Rattle.heap_cells.proofs.Cutting.{stands, all-in_order}
use Rattle.heap_cells.proofs.Members.{in_list}
use Rattle.image_settle.proofs.Steps.{Spans, Settles, settles_step, others_step, span_fits}
use Rattle.image_settle.proofs.walk.settle_chunks.Goals as goal

pub chunks-init : goal.chunks-init
chunks-init g c = record {
  leads = subst (λ h. Leads h c.args.words.now) (sym c.requires.1) c.requires.0.leads;
  walking = walk_starts (λ d j w. IsCleared g.h c.args.words.now d j w) c.args.words.now (chunks c.args.words.now) c.requires.0.cut;
  none = λ t l. absurd (omega (arith, l));
  found = λ off. walk_starts (λ d j w. class_of (get_or c.args.words.now d.start 0) ≢ 8) c.args.words.now (chunks c.args.words.now) c.requires.0.cut;
}

pub settle_chunk-requires : goal.settle_chunk-requires
settle_chunk-requires g c =
    let i = c.chunks.invariant in
    let span = c.span_of-span.result in
    let s : Spans c.chunks.words c.chunks.at span.start span.slots span.end = record { start_is = c.span_of-span.ensures.start; slots_is = c.span_of-span.ensures.slots; end_is = c.span_of-span.ensures.end } in
    let low : c.chunks.at < length c.args.words.now = omega (arith, i.walking.long) in
    let next = next_span c.args.image.now c.args.words.now c.requires.0 (λ d j w. IsCleared g.h c.args.words.now d j w) c.chunks.words c.chunks.at span.start span.slots span.end i.walking low s in (
      subst (λ h. Follows h c.args.image.now) (sym c.requires.1) (ready_follows c.args.image.now c.args.words.now c.requires.0),
      (i.leads, subst (λ h. IsNext h c.chunks.words (get_or c.chunks.words span.start 0) span.start span.slots) (sym c.requires.1) next),
    )

pub chunks-smaller : goal.chunks-smaller
chunks-smaller g c =
    let i = c.chunks.invariant in
    let span = c.span_of-span.result in
    let s : Spans c.chunks.words c.chunks.at span.start span.slots span.end = record { start_is = c.span_of-span.ensures.start; slots_is = c.span_of-span.ensures.slots; end_is = c.span_of-span.ensures.end } in
    let low : c.chunks.at < length c.args.words.now = omega (arith, i.walking.long) in
    let f = span_fits (λ d j w. IsCleared g.h c.args.words.now d j w) c.args.words.now (chunks c.args.words.now) c.chunks.words c.chunks.at span.start span.slots span.end i.walking low s in
    omega (arith, f.ahead, c.settle_chunk.ensures.same_len, c.chunks-test.true)

pub chunks-preserved : goal.chunks-preserved
chunks-preserved g c =
    let i = c.chunks.invariant in
    let span = c.span_of-span.result in
    let s : Spans c.chunks.words c.chunks.at span.start span.slots span.end = record { start_is = c.span_of-span.ensures.start; slots_is = c.span_of-span.ensures.slots; end_is = c.span_of-span.ensures.end } in
    let e = c.in-Ok.ensures in
    let k : Settles g.h c.chunks.words c.settle_chunk.new.words span.start span.slots = record { same_len = e.same_len; header = e.header; unused = e.unused; slots_are = e.slots; before = e.before; behind = e.behind } in
    let low : c.chunks.at < length c.args.words.now = omega (arith, i.walking.long) in
    record {
      leads = e.leads;
      walking = settles_step c.args.words.now (chunks c.args.words.now) c.chunks.words c.settle_chunk.new.words c.chunks.at span.start span.slots span.end g.h i.walking low s k;
      none = passes c.args.image.now c.args.words.now c.requires.0 g.h c.requires.1 (λ d j w. IsCleared g.h c.args.words.now d j w) c.chunks.words c.chunks.at span.start span.slots span.end i.walking low s i.none e.least;
      found = λ off.
          let parts = or_parts c.chunks.found (nat_eq (class_of (get_or c.chunks.words span.start 0)) 8) (sym c.is_found-found.ensures ∙ off) in
          others_step c.args.words.now (chunks c.args.words.now) c.chunks.words c.settle_chunk.new.words c.chunks.at span.start span.slots span.end g.h (i.found parts.0) low s k (eqb-false (class_of (get_or c.chunks.words span.start 0)) 8 parts.1);
    }

pub returns-in-Err-clause-least : goal.returns-in-Err-clause-least
returns-in-Err-clause-least g c =
    let i = c.chunks.invariant in
    let span = c.span_of-span.result in
    let s : Spans c.chunks.words c.chunks.at span.start span.slots span.end = record { start_is = c.span_of-span.ensures.start; slots_is = c.span_of-span.ensures.slots; end_is = c.span_of-span.ensures.end } in
    let low : c.chunks.at < length c.args.words.now = omega (arith, i.walking.long) in
    finds c.args.image.now c.args.words.now c.requires.0 g.h c.requires.1 (λ d j w. IsCleared g.h c.args.words.now d j w) c.chunks.words c.chunks.at span.start span.slots span.end i.walking low s i.none c.in-Err.slot c.in-Err.ensures.least

pub returns-clause-least : goal.returns-clause-least
returns-clause-least g c =
    let i = c.chunks.invariant in
    ends c.args.image.now c.args.words.now c.requires.0 g.h c.requires.1 c.chunks.at (omega (arith, i.walking.long)) i.none

pub returns-clause-cleared : goal.returns-clause-cleared
returns-clause-cleared g c =
    let i = c.chunks.invariant in
    walk_ends (λ d j w. IsCleared g.h c.args.words.now d j w) c.args.words.now (chunks c.args.words.now) c.chunks.words c.chunks.at i.walking (omega (arith, i.walking.long))

pub returns-clause-found : goal.returns-clause-found
returns-clause-found g c off d m =
    let i = c.chunks.invariant in
    let p = (stands c.args.words.now 0 (length c.args.words.now) (chunks c.args.words.now) d (all-in_order c.args.words.now c.requires.0.cut) (in_list (chunks c.args.words.now) d m)).lies in
    walk_ends (λ e j w. class_of (get_or c.args.words.now e.start 0) ≢ 8) c.args.words.now (chunks c.args.words.now) c.chunks.words c.chunks.at (i.found off) (omega (arith, i.walking.long)) d m d.start p.lead (omega (arith, p.room))

pub offset_bounds-words-span : goal.offset_bounds-words-span
offset_bounds-words-span g c =
    let i = c.chunks.invariant in
    let span = c.span_of-span.result in
    let s : Spans c.chunks.words c.chunks.at span.start span.slots span.end = record { start_is = c.span_of-span.ensures.start; slots_is = c.span_of-span.ensures.slots; end_is = c.span_of-span.ensures.end } in
    let low : c.chunks.at < length c.args.words.now = omega (arith, i.walking.long) in
    let f = span_fits (λ d j w. IsCleared g.h c.args.words.now d j w) c.args.words.now (chunks c.args.words.now) c.chunks.words c.chunks.at span.start span.slots span.end i.walking low s in
    omega (arith, f.inside, i.walking.long, c.requires.0.small)

pub bounds-words-span : goal.bounds-words-span
bounds-words-span g c =
    let i = c.chunks.invariant in
    let span = c.span_of-span.result in
    let s : Spans c.chunks.words c.chunks.at span.start span.slots span.end = record { start_is = c.span_of-span.ensures.start; slots_is = c.span_of-span.ensures.slots; end_is = c.span_of-span.ensures.end } in
    let low : c.chunks.at < length c.args.words.now = omega (arith, i.walking.long) in
    let f = span_fits (λ d j w. IsCleared g.h c.args.words.now d j w) c.args.words.now (chunks c.args.words.now) c.chunks.words c.chunks.at span.start span.slots span.end i.walking low s in
    omega (arith, f.inside)
