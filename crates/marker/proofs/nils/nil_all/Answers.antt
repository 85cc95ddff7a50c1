use Rattle.std.proofs.Common.{refl, sym, ◌∙◌, arith}
use Rattle.spur_heap.proofs.Starting.{start_below}
use Rattle.marker.proofs.NilledHeaps.{nils_long, nils_none}
use Rattle.marker.proofs.NilledWalks.{count_every, count_more, count_none, few_at, nils_every, nils_more}
use Rattle.marker.proofs.nils.nil_all.Goals as goal

pub starts-init : goal.starts-init
starts-init c = record { nils = nils_none c.args.heap.now; count = sym (count_none c.args.heap.now); low = omega arith; idle = λ e. refl }

pub overflow_add-nilled : goal.overflow_add-nilled
overflow_add-nilled c =
    let low = start_below c.starts.heap c.whole.ensures.whole c.in-Some.start c.in-Some.ensures.found.1 in
    let few = c.whole.ensures.whole.few in
    let most = few_at c.starts.heap c.whole.ensures.whole c.in-Some.start c.nil_at-nilled.result (λ off. (c.nil_at-nilled.ensures.skips off).1) c.nil_at-nilled.ensures.count in
    let from = c.in-Some.ensures.found.0 in
    omega (arith, low, few, most, from, c.starts.invariant.low)

pub overflow_add-at : goal.overflow_add-at
overflow_add-at c =
    let low = start_below c.starts.heap c.whole.ensures.whole c.in-Some.start c.in-Some.ensures.found.1 in
    let few = c.whole.ensures.whole.few in
    omega (arith, low, few)

pub starts-smaller : goal.starts-smaller
starts-smaller c =
    let low = start_below c.starts.heap c.whole.ensures.whole c.in-Some.start c.in-Some.ensures.found.1 in
    let long = nils_long c.starts.at c.args.heap.now c.starts.heap c.starts.invariant.nils in
    let from = c.in-Some.ensures.found.0 in
    omega (arith, low, long, from)

pub starts-preserved : goal.starts-preserved
starts-preserved c =
    let most = few_at c.starts.heap c.whole.ensures.whole c.in-Some.start c.nil_at-nilled.result (λ off. (c.nil_at-nilled.ensures.skips off).1) c.nil_at-nilled.ensures.count in
    let from = c.in-Some.ensures.found.0 in
    record {
      nils = nils_more c.starts.at c.in-Some.start c.args.heap.now c.starts.heap c.starts.invariant.nils from c.in-Some.ensures.first c.nil_at-nilled.new.heap (λ off. (c.nil_at-nilled.ensures.skips off).0) c.nil_at-nilled.ensures.nils;
      count = count_more c.starts.at c.in-Some.start c.args.heap.now c.starts.heap c.starts.invariant.nils from c.in-Some.ensures.first c.starts.nilled c.nil_at-nilled.result c.starts.invariant.count
          (λ off. (c.nil_at-nilled.ensures.skips off).1) c.nil_at-nilled.ensures.count;
      low = omega (arith, most, from, c.starts.invariant.low);
      idle = λ e. c.nil_at-nilled.ensures.idle (omega (arith, e)) ∙ c.starts.invariant.idle (omega (arith, e));
    }

pub returns-clause-nils : goal.returns-clause-nils
returns-clause-nils c = nils_every c.starts.at c.args.heap.now c.starts.heap c.starts.invariant.nils c.in_default.ensures.none c.whole-2.ensures.whole

pub returns-clause-count : goal.returns-clause-count
returns-clause-count c = c.starts.invariant.count ∙ count_every c.starts.at c.args.heap.now c.starts.heap c.starts.invariant.nils c.in_default.ensures.none
