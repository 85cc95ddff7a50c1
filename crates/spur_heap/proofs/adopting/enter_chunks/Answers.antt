use Rattle.std.proofs.Common.{◌≡◌, ◌+◌, ℕ, get_or, sym, ap, ◌∙◌, subst, arith}
use Rattle.object_header.specs.Chunks.{row, chunk_of}
use Rattle.heap_walk.specs.Starts.{has_start}
use Rattle.spur_heap.specs.Counting.{one_new, has_entered}
use Rattle.spur_heap.proofs.Counted.{IsCounted, counting_begins, next_counted, count_on, counted_all, one_at_most}
use Rattle.spur_heap.proofs.adopting.enter_chunks.Goals as goal

pub chunks-init : goal.chunks-init
chunks-init c = record { counted = counting_begins c.args.region.now c.args.end (row c.args.region.now 0 c.args.end) c.args.starts.now c.requires.row; covers = c.requires.covers }

pub span_of-chunk-requires : goal.span_of-chunk-requires
span_of-chunk-requires c = omega (arith, c.chunks-test.true, c.requires.within, c.requires.small)

pub get-requires-in-chunks : goal.get-requires-in-chunks
get-requires-in-chunks c =
    let words = c.args.region.now in
    let h = next_counted words c.chunks.at c.args.end (row words 0 c.args.end) c.args.starts.now c.chunks.starts c.chunks.objects c.chunks.invariant.counted c.chunks-test.true in
    let start : c.span_of-chunk.result.start ≡ (chunk_of c.chunks.at (get_or words c.chunks.at 0)).start = c.span_of-chunk.ensures.start ∙ ap (λ w. (chunk_of c.chunks.at w).start) c.get.ensures in
    omega (arith, start, h.room, h.fits, c.requires.within)

pub enter-objects-requires : goal.enter-objects-requires
enter-objects-requires c =
    let words = c.args.region.now in
    let h = next_counted words c.chunks.at c.args.end (row words 0 c.args.end) c.args.starts.now c.chunks.starts c.chunks.objects c.chunks.invariant.counted c.chunks-test.true in
    let start : c.span_of-chunk.result.start ≡ (chunk_of c.chunks.at (get_or words c.chunks.at 0)).start = c.span_of-chunk.ensures.start ∙ ap (λ w. (chunk_of c.chunks.at w).start) c.get.ensures in
    record { inside = omega (arith, start, h.room, h.fits, c.requires.within, c.chunks.invariant.covers) }

pub overflow_add-objects : goal.overflow_add-objects
overflow_add-objects c =
    let few = c.chunks.invariant.counted.few in
    omega (arith, few, c.enter-objects.ensures.counts, one_at_most c.chunks.starts c.span_of-chunk.result.start c.get-in-chunks.result, c.chunks-test.true, c.requires.within, c.requires.small)

pub chunks-smaller : goal.chunks-smaller
chunks-smaller c =
    let words = c.args.region.now in
    let h = next_counted words c.chunks.at c.args.end (row words 0 c.args.end) c.args.starts.now c.chunks.starts c.chunks.objects c.chunks.invariant.counted c.chunks-test.true in
    let end : c.span_of-chunk.result.end ≡ c.chunks.at + (chunk_of c.chunks.at (get_or words c.chunks.at 0)).size = c.span_of-chunk.ensures.end ∙ ap (λ w. c.chunks.at + (chunk_of c.chunks.at w).size) c.get.ensures in
    omega (arith, end, h.after, h.room, c.chunks-test.true)

pub chunks-preserved : goal.chunks-preserved
chunks-preserved c =
    let words = c.args.region.now in
    let at : ℕ = c.chunks.at in
    let s : ℕ = (chunk_of at (get_or words at 0)).start in
    let start : c.span_of-chunk.result.start ≡ s = c.span_of-chunk.ensures.start ∙ ap (λ w. (chunk_of at w).start) c.get.ensures in
    let end : c.span_of-chunk.result.end ≡ at + (chunk_of at (get_or words at 0)).size = c.span_of-chunk.ensures.end ∙ ap (λ w. at + (chunk_of at w).size) c.get.ensures in
    let header : c.get-in-chunks.result ≡ get_or words s 0 = c.get-in-chunks.ensures ∙ ap (λ n. get_or words n 0) start in
    let marks : (k : ℕ) → has_start c.enter-objects.new.starts k ≡ has_entered c.chunks.starts s (get_or words s 0) k = λ k. c.enter-objects.ensures.marks k ∙ (λ x. has_entered c.chunks.starts (start x) (header x) k) in
    let more : c.chunks.objects + c.enter-objects.result ≡ c.chunks.objects + one_new c.chunks.starts s (get_or words s 0) =
    ap (λ n. c.chunks.objects + n) (c.enter-objects.ensures.counts ∙ (λ x. one_new c.chunks.starts (start x) (header x))) in
    let counted = count_on words at c.args.end (row words 0 c.args.end) c.args.starts.now c.chunks.starts c.chunks.objects c.chunks.invariant.counted c.chunks-test.true c.enter-objects.new.starts marks in
    record {
      counted = subst (λ n. IsCounted words n c.args.end (row words 0 c.args.end) c.args.starts.now c.enter-objects.new.starts (c.chunks.objects + c.enter-objects.result)) (sym end)
          (subst (λ n. IsCounted words (at + (chunk_of at (get_or words at 0)).size) c.args.end (row words 0 c.args.end) c.args.starts.now c.enter-objects.new.starts n) (sym more) counted);
      covers = c.enter-objects.ensures.covers ∙ c.chunks.invariant.covers;
    }

pub returns-clause-counts : goal.returns-clause-counts
returns-clause-counts c =
    (counted_all c.args.region.now c.chunks.at c.args.end (row c.args.region.now 0 c.args.end) c.args.starts.now c.chunks.starts c.chunks.objects c.chunks.invariant.counted (omega (arith, c.chunks-test.false))).1

pub returns-clause-marks : goal.returns-clause-marks
returns-clause-marks c =
    (counted_all c.args.region.now c.chunks.at c.args.end (row c.args.region.now 0 c.args.end) c.args.starts.now c.chunks.starts c.chunks.objects c.chunks.invariant.counted (omega (arith, c.chunks-test.false))).0
