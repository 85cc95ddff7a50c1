use Rattle.std.proofs.Common.{◌≡◌, ◌+◌, suc, length, ◌∙◌, sym, refl, arith}
use Rattle.std.proofs.lemmas.List.{length-set}
use Rattle.spur_graph.specs.Segments.{word_in}
use Rattle.heap_cells.proofs.Ranges.{first_place}
use Rattle.image_checks.proofs.Walks.{goes_on, root_end, root_found, root_good}
use Rattle.image_checks.proofs.Placed.{chunked, five, more-roots, more-starts}
use Rattle.image_checks.proofs.roots.first_bad_root.Goals as goal

pub roots-init : goal.roots-init
roots-init c = record {
  order = omega arith;
  here = first_place c.args.words.now 0 (length c.args.words.now);
  none = λ n b. omega arith;
  good = λ j l. absurd (omega arith);
  count = refl;
  starts = λ j l. absurd (omega arith);
}

pub returns-then-at-words-clause-least : goal.returns-then-at-words-clause-least
returns-then-at-words-clause-least c =
    let i = c.roots.invariant in
    let words = c.args.words.now in
    root_end words 0 (length words) c.roots.k c.roots.at c.roots-test.true i.here c.if-at-words.true i.order i.none

pub returns-then-is_bad_root-clause-least : goal.returns-then-is_bad_root-clause-least
returns-then-is_bad_root-clause-least c =
    let i = c.roots.invariant in
    let words = c.args.words.now in
    root_found words 0 (length words) c.roots.k c.roots.at c.known_head-head.result c.roots-test.true i.here c.if-at-words.false c.known_head-head.ensures.value
    (sym c.is_bad_root.ensures ∙ c.if-is_bad_root.true) i.none

pub roots-preserved : goal.roots-preserved
roots-preserved c =
    let i = c.roots.invariant in
    let words = c.args.words.now in
    let k = c.roots.k in
    let at = c.roots.at in
    let h = c.known_head-head.result in
    let ok = c.known_head-head.ensures.value in
    let good = sym c.is_bad_root.ensures ∙ c.if-is_bad_root.false in
    let chunk = chunked words c.requires k at h i.here c.if-at-words.false ok in
    record {
      order = omega (arith, c.known_head-head.ensures.room);
      here = let e : k + 1 ≡ suc k = omega arith in rw e (goes_on words 0 (length words) k at h i.here c.if-at-words.false ok);
      none = root_good words 0 (length words) k at h i.here c.if-at-words.false ok good i.none;
      good = more-roots words k (record { at = at; head = h; chunk = chunk; room = omega (arith, c.known_head-head.ensures.room, c.known_head-head.ensures.size); good = good }) i.good;
      count = length-set c.roots.starts k (at + h.lead) ∙ i.count;
      starts = more-starts words k at h c.roots.starts chunk (omega (arith, i.count, c.roots-test.true)) i.starts;
    }

pub returns-clause-least : goal.returns-clause-least
returns-clause-least c = λ n b. omega (arith, b.first, c.roots.invariant.none n b, c.roots-test.false)

pub returns-clause-five : goal.returns-clause-five
returns-clause-five c = λ segs. five c.args.words.now c.requires (λ j l. c.roots.invariant.good j (omega (arith, c.roots-test.false))) (word_in segs 0)
