use Rattle.std.proofs.Common.{◌∙◌, subst, arith, get_or, ◌≡◌, ◌||◌, ◌&&◌, not, eqb, ℕ}
use Rattle.object_header.specs.Chunks.{row}
use Rattle.object_header.specs.Head.{class_of}
use Rattle.heap_walk.specs.Starts.{has_start}
use Rattle.heap_walk.proofs.Walked.{next, walk_on, walked_all}
use Rattle.heap_walk.proofs.marking.mark_starts.Goals as goal

pub offset_bounds-words-chunk : goal.offset_bounds-words-chunk
offset_bounds-words-chunk c =
    let h = next c.args.words.now c.chunks.at c.args.end (row c.args.words.now 0 c.args.end) c.chunks.starts c.chunks.invariant.walked c.chunks-test.true in
    omega (arith, c.span_of-chunk.ensures.start, h.room, h.fits, c.requires.within)

pub bounds-words-chunk : goal.bounds-words-chunk
bounds-words-chunk c =
    let h = next c.args.words.now c.chunks.at c.args.end (row c.args.words.now 0 c.args.end) c.chunks.starts c.chunks.invariant.walked c.chunks-test.true in
    omega (arith, c.span_of-chunk.ensures.start, h.room, h.fits, c.requires.within)

pub mark-requires : goal.mark-requires
mark-requires c =
    let h = next c.args.words.now c.chunks.at c.args.end (row c.args.words.now 0 c.args.end) c.chunks.starts c.chunks.invariant.walked c.chunks-test.true in
    omega (arith, c.span_of-chunk.ensures.start, h.room, h.fits, c.requires.within, c.chunks.invariant.covers)

pub chunks-smaller : goal.chunks-smaller
chunks-smaller c =
    let h = next c.args.words.now c.chunks.at c.args.end (row c.args.words.now 0 c.args.end) c.chunks.starts c.chunks.invariant.walked c.chunks-test.true in
    omega (arith, c.span_of-chunk.ensures.end, h.after, h.room, c.chunks-test.true)

pub chunks-preserved : goal.chunks-preserved
chunks-preserved c =
    let words = c.args.words.now in
    let start = c.span_of-chunk.ensures.start in
    let marks : (k : ℕ) → has_start c.mark.new.starts k ≡ (has_start c.chunks.starts k || (eqb k c.span_of-chunk.result.start && not (eqb (class_of (get_or words c.span_of-chunk.result.start 0)) 0))) = c.mark.ensures.marks in
    record {
      walked = rw c.span_of-chunk.ensures.end
          (walk_on words c.chunks.at c.args.end (row words 0 c.args.end) c.chunks.starts c.mark.new.starts c.chunks.invariant.walked c.chunks-test.true
          (subst (λ s. (k : ℕ) → has_start c.mark.new.starts k ≡ (has_start c.chunks.starts k || (eqb k s && not (eqb (class_of (get_or words s 0)) 0)))) start marks));
      covers = c.mark.ensures.covers ∙ c.chunks.invariant.covers;
    }

pub returns-clause-map : goal.returns-clause-map
returns-clause-map c = walked_all c.args.words.now c.chunks.at c.args.end (row c.args.words.now 0 c.args.end) c.chunks.starts c.chunks.invariant.walked (omega (arith, c.chunks-test.false))
