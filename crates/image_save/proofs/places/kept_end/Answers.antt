use Rattle.std.proofs.Common.{◌≡◌, ◌+◌, cond, eqb, get_or, refl, subst, sym, ◌∙◌, arith}
use Rattle.object_header.specs.Head.{class_of}
use Rattle.object_header.specs.Chunks.{Cuts, row}
use Rattle.spur_heap.proofs.Walking.{chunk_at}
use Rattle.image_save.specs.Saved.{kept_from}
use Rattle.image_save.proofs.Walk.{step, kept_step, kept_none}
use Rattle.image_save.proofs.places.kept_end.Goals as goal

pub chunks-init : goal.chunks-init
chunks-init c = record { cuts = c.requires.row; rest = refl; low = omega arith }

pub bounds-words-chunk : goal.bounds-words-chunk
bounds-words-chunk c =
    let s = step c.args.words.now c.chunks.at c.args.end c.chunks.invariant.cuts c.chunks-test.true in
    omega (arith, c.span_of-chunk.ensures.start, s.start, s.fits, c.requires.within)

pub chunks-smaller : goal.chunks-smaller
chunks-smaller c =
    let s = step c.args.words.now c.chunks.at c.args.end c.chunks.invariant.cuts c.chunks-test.true in
    omega (arith, c.span_of-chunk.ensures.end, s.fits, s.start, s.after)

pub chunks-preserved : goal.chunks-preserved
chunks-preserved c =
    let words = c.args.words.now in
    let s = step words c.chunks.at c.args.end c.chunks.invariant.cuts c.chunks-test.true in
    let end : c.span_of-chunk.result.end ≡ c.chunks.at + (chunk_at words c.chunks.at).size = c.span_of-chunk.ensures.end in
    let kept = c.kept_after-kept.ensures ∙ (λ i. cond (eqb (class_of (get_or words (c.span_of-chunk.ensures.start i) 0)) 0) c.chunks.kept (end i)) in
    record {
      cuts = subst (λ n. Cuts words n c.args.end (row words n c.args.end)) (sym end) s.cuts;
      rest = (λ i. kept_from words (kept i) (row words (end i) c.args.end)) ∙ sym (kept_step words c.chunks.at c.args.end c.chunks.kept c.chunks.invariant.cuts c.chunks-test.true) ∙ c.chunks.invariant.rest;
      low = omega (arith, end, s.fits);
    }

pub returns : goal.returns
returns c = sym (kept_none c.args.words.now c.chunks.at c.args.end c.chunks.kept (omega (arith, c.chunks-test.false))) ∙ c.chunks.invariant.rest

pub offset_bounds-words-chunk : goal.offset_bounds-words-chunk
offset_bounds-words-chunk c =
    let s = step c.args.words.now c.chunks.at c.args.end c.chunks.invariant.cuts c.chunks-test.true in
    omega (arith, c.span_of-chunk.ensures.start, s.start, s.fits, c.requires.within)
