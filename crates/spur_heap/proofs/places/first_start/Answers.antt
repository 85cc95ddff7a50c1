use Rattle.std.proofs.Common.{◌≡◌, ◌+◌, ◌≤◌, ℕ, suc, ap, sym, ◌∙◌, subst, arith, length, drop, get_or}
use Rattle.object_header.specs.Chunks.{Cuts, chunk_of}
use Rattle.spur_graph.specs.Spaces.{old_row}
use Rattle.heap_cells.specs.Rows.{starts_of}
use Rattle.heap_cells.proofs.Spaced.{old_inside}
use Rattle.spur_heap.specs.Words.{AreSound}
use Rattle.spur_heap.specs.Parts.{view_of, spaces_of}
use Rattle.spur_heap.specs.declared.heap.HeapParts.{HeapParts}
use Rattle.spur_heap.proofs.Walking.{chunk_at, early, first_old}
use Rattle.spur_heap.proofs.places.first_start.Goals as goal

-- old space is among the words
old_fits : (p : HeapParts) → AreSound (view_of p) → p.old_end ≤ length p.region
old_fits p k = old_inside p.region p.limits (spaces_of p) k.spaces

pub chunks-init : goal.chunks-init
chunks-init c = record { row = c.requires.sound.rows.old; inside = (early (view_of c.args.parts.now) c.requires.sound 0 0 (omega arith) c.requires.sound.rows.old).inside }

pub chunks-preserved : goal.chunks-preserved
chunks-preserved c =
    let words = c.args.parts.now.region in
    let end : ℕ = c.args.parts.now.old_end in
    let cs = old_row words (spaces_of c.args.parts.now) in
    let h = early (view_of c.args.parts.now) c.requires.sound c.chunks.at c.chunks.counter (omega (arith, c.chunks-test.true, c.requires.five)) c.chunks.invariant.row in
    let one : suc c.chunks.counter ≡ c.chunks.counter + 1 = omega arith in
    let rest : Cuts words (c.chunks.at + (chunk_at words c.chunks.at).size) end (drop (c.chunks.counter + 1) cs) =
    subst (λ n. Cuts words (c.chunks.at + (chunk_at words c.chunks.at).size) end (drop n cs)) one h.rest in
    let next : c.span_of-at.result.end ≡ c.chunks.at + (chunk_at words c.chunks.at).size = c.span_of-at.ensures.end ∙ ap (λ w. c.chunks.at + (chunk_of c.chunks.at w).size) c.get.ensures in
    let row : Cuts words c.span_of-at.result.end end (drop (c.chunks.counter + 1) cs) =
    subst (λ n. Cuts words n end (drop (c.chunks.counter + 1) cs)) (sym next) rest in
    record { row = row; inside = (early (view_of c.args.parts.now) c.requires.sound c.span_of-at.result.end (c.chunks.counter + 1) (omega (arith, c.chunks-test.true, c.requires.five)) row).inside }

pub returns-clause-start : goal.returns-clause-start
returns-clause-start c =
    let h = early (view_of c.args.parts.now) c.requires.sound c.chunks.at c.chunks.counter (omega (arith, c.chunks-test.false, c.chunks.auto, c.requires.five)) c.chunks.invariant.row in
    let same : c.chunks.counter ≡ c.args.k = omega (arith, c.chunks-test.false, c.chunks.auto) in
    c.span_of.ensures.start ∙ ap (λ w. (chunk_of c.chunks.at w).start) c.get-2.ensures ∙ sym h.start ∙ ap (λ n. get_or (starts_of (old_row c.args.parts.now.region (spaces_of c.args.parts.now))) n 0) same
    ∙ sym (first_old (view_of c.args.parts.now) c.requires.sound c.args.k c.requires.five)

pub returns-clause-inside : goal.returns-clause-inside
returns-clause-inside c =
    let h = early (view_of c.args.parts.now) c.requires.sound c.chunks.at c.chunks.counter (omega (arith, c.chunks-test.false, c.chunks.auto, c.requires.five)) c.chunks.invariant.row in
    let start : c.span_of.result.start ≡ (chunk_at c.args.parts.now.region c.chunks.at).start = c.span_of.ensures.start ∙ ap (λ w. (chunk_of c.chunks.at w).start) c.get-2.ensures in
    omega (arith, start, h.room, h.fits, old_fits c.args.parts.now c.requires.sound)
