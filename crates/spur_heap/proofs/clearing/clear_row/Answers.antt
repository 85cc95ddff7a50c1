use Rattle.std.proofs.Common.{◌≡◌, ℕ, ◌+◌, List, get_or, set, sym, ap, ◌∙◌, subst, arith}
use Rattle.object_header.specs.Chunks.{Chunk, chunk_of, row}
use Rattle.spur_heap.specs.MarkBits.{without_mark}
use Rattle.spur_heap.proofs.Cleared.{IsCleared, clearing_begins, next_cleared, clear_on, cleared_all}
use Rattle.spur_heap.proofs.clearing.clear_row.Goals as goal

pub chunks-init : goal.chunks-init
chunks-init c = record { cleared = clearing_begins c.args.region.now c.args.from c.args.end (row c.args.region.now c.args.from c.args.end) c.requires.row }

pub get-requires-in-chunks : goal.get-requires-in-chunks
get-requires-in-chunks c =
    let words = c.args.region.now in
    let at : ℕ = c.chunks.at in
    let k = c.chunks.invariant.cleared in
    let cs : List Chunk = row words c.args.from c.args.end in
    let word : c.get.result ≡ get_or words at 0 = c.get.ensures ∙ k.ahead at (omega arith) in
    let start : c.span_of-chunk.result.start ≡ (chunk_of at (get_or words at 0)).start = c.span_of-chunk.ensures.start ∙ ap (λ w. (chunk_of at w).start) word in
    let h = next_cleared words c.chunks.region at c.args.end cs k c.chunks-test.true in
    let long = k.long in
    omega (arith, start, h.room, h.fits, c.requires.within, long)

pub put-requires : goal.put-requires
put-requires c =
    let words = c.args.region.now in
    let at : ℕ = c.chunks.at in
    let k = c.chunks.invariant.cleared in
    let cs : List Chunk = row words c.args.from c.args.end in
    let word : c.get.result ≡ get_or words at 0 = c.get.ensures ∙ k.ahead at (omega arith) in
    let start : c.span_of-chunk.result.start ≡ (chunk_of at (get_or words at 0)).start = c.span_of-chunk.ensures.start ∙ ap (λ w. (chunk_of at w).start) word in
    let h = next_cleared words c.chunks.region at c.args.end cs k c.chunks-test.true in
    let long = k.long in
    omega (arith, start, h.room, h.fits, c.requires.within, long)

pub chunks-smaller : goal.chunks-smaller
chunks-smaller c =
    let words = c.args.region.now in
    let at : ℕ = c.chunks.at in
    let k = c.chunks.invariant.cleared in
    let cs : List Chunk = row words c.args.from c.args.end in
    let word : c.get.result ≡ get_or words at 0 = c.get.ensures ∙ k.ahead at (omega arith) in
    let end : c.span_of-chunk.result.end ≡ at + (chunk_of at (get_or words at 0)).size = c.span_of-chunk.ensures.end ∙ ap (λ w. at + (chunk_of at w).size) word in
    let h = next_cleared words c.chunks.region at c.args.end cs k c.chunks-test.true in
    omega (arith, end, h.after, h.room, c.chunks-test.true)

pub chunks-preserved : goal.chunks-preserved
chunks-preserved c =
    let words = c.args.region.now in
    let at : ℕ = c.chunks.at in
    let k = c.chunks.invariant.cleared in
    let cs : List Chunk = row words c.args.from c.args.end in
    let word : c.get.result ≡ get_or words at 0 = c.get.ensures ∙ k.ahead at (omega arith) in
    let start : c.span_of-chunk.result.start ≡ (chunk_of at (get_or words at 0)).start = c.span_of-chunk.ensures.start ∙ ap (λ w. (chunk_of at w).start) word in
    let end : c.span_of-chunk.result.end ≡ at + (chunk_of at (get_or words at 0)).size = c.span_of-chunk.ensures.end ∙ ap (λ w. at + (chunk_of at w).size) word in
    let s : ℕ = (chunk_of at (get_or words at 0)).start in
    let header : c.set_marked.result.0 ≡ without_mark (get_or c.chunks.region s 0) = c.set_marked.ensures.word ∙ ap without_mark (c.get-in-chunks.ensures ∙ ap (λ n. get_or c.chunks.region n 0) start) in
    let new : c.put.new.self ≡ set c.chunks.region s (without_mark (get_or c.chunks.region s 0)) = c.put.ensures ∙ (λ x. set c.chunks.region (start x) (header x)) in
    let on = clear_on words c.chunks.region at c.args.end cs k c.chunks-test.true c.requires.within in
    record {
      cleared = subst (λ (ws : List ℕ). IsCleared words ws c.span_of-chunk.result.end c.args.end cs) (sym new)
          (subst (λ n. IsCleared words (set c.chunks.region s (without_mark (get_or c.chunks.region s 0))) n c.args.end cs) (sym end) on);
    }

pub returns : goal.returns
returns c = cleared_all c.args.region.now c.chunks.region c.chunks.at c.args.end (row c.args.region.now c.args.from c.args.end) c.chunks.invariant.cleared (omega (arith, c.chunks-test.false))
