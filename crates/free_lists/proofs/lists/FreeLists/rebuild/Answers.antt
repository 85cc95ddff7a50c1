use Rattle.std.proofs.Common.{◌-◌, refl, arith, sym, subst, ◌∙◌}
use Rattle.free_lists.specs.Lists.{Lists, MeetsNone}
use Rattle.free_lists.specs.Rows.{free_runs}
use Rattle.free_lists.proofs.Rebuilt.{walk_begins, walk_next, walk_on, walk_ends, cuts_rewritten}
use Rattle.free_lists.proofs.lists.FreeLists.rebuild.Goals as goal

pub chunks-init : goal.chunks-init
chunks-init c = record {
  same_length = refl;
  walked = λ cs t. walk_begins c.args.region.now c.new.result c.args.from c.args.to cs (c.new.ensures.empty c.args.region.now) t;
}

pub get-requires-in-chunks : goal.get-requires-in-chunks
get-requires-in-chunks c =
    let h = c.requires.row in
    let s = c.span_of-chunk in
    let n = walk_next c.args.region.now c.chunks.region c.chunks.self c.chunks.at c.args.to h.0 (c.chunks.invariant.walked h.0 h.1) c.get.result s.result.start s.result.end c.get.ensures s.ensures.start s.ensures.end c.chunks-test.true in
    omega (arith, n.room, n.fits, c.requires.inside, c.chunks.invariant.same_length)

pub add_if_free-requires-clause-big : goal.add_if_free-requires-clause-big
add_if_free-requires-clause-big c =
    let h = c.requires.row in
    let s = c.span_of-chunk in
    let n = walk_next c.args.region.now c.chunks.region c.chunks.self c.chunks.at c.args.to h.0 (c.chunks.invariant.walked h.0 h.1) c.get.result s.result.start s.result.end c.get.ensures s.ensures.start s.ensures.end c.chunks-test.true in
    omega (arith, n.from, n.room)

pub add_if_free-requires-clause-inside : goal.add_if_free-requires-clause-inside
add_if_free-requires-clause-inside c =
    let h = c.requires.row in
    let s = c.span_of-chunk in
    let n = walk_next c.args.region.now c.chunks.region c.chunks.self c.chunks.at c.args.to h.0 (c.chunks.invariant.walked h.0 h.1) c.get.result s.result.start s.result.end c.get.ensures s.ensures.start s.ensures.end c.chunks-test.true in
    omega (arith, n.from, n.room, n.fits, c.requires.inside, c.chunks.invariant.same_length)

pub add_if_free-requires-clause-held : goal.add_if_free-requires-clause-held
add_if_free-requires-clause-held c =
    let h = c.requires.row in
    let w = c.chunks.invariant.walked h.0 h.1 in
    (free_runs c.args.region.now w.done, w.lists, λ k ge lt. w.before k ge)

pub chunks-smaller : goal.chunks-smaller
chunks-smaller c =
    let h = c.requires.row in
    let s = c.span_of-chunk in
    let n = walk_next c.args.region.now c.chunks.region c.chunks.self c.chunks.at c.args.to h.0 (c.chunks.invariant.walked h.0 h.1) c.get.result s.result.start s.result.end c.get.ensures s.ensures.start s.ensures.end c.chunks-test.true in
    omega (arith, n.from, n.room, c.chunks-test.true)

pub chunks-preserved : goal.chunks-preserved
chunks-preserved c =
    let i = c.chunks.invariant in
    let s = c.span_of-chunk in
    let a = c.add_if_free in
    record {
      same_length = a.ensures.same_length ∙ i.same_length;
      walked = λ cs t.
          let w = i.walked cs t in
          let runs = free_runs c.args.region.now w.done in
          let apart : MeetsNone runs c.chunks.at (s.result.end - c.chunks.at) = λ k ge lt. w.before k ge in
          walk_on c.args.region.now c.chunks.region c.chunks.self c.chunks.at c.args.to cs w c.get.result s.result.start s.result.end c.get.ensures s.ensures.start s.ensures.end
          c.get-in-chunks.result c.get-in-chunks.ensures c.chunks-test.true a.new.region a.new.self (a.ensures.added runs w.lists apart) (a.ensures.others runs w.lists apart);
    }

pub returns-clause-rebuilt : goal.returns-clause-rebuilt
returns-clause-rebuilt c = λ cs t.
    let w = c.chunks.invariant.walked cs t in
    let end = walk_ends c.args.region.now c.chunks.region c.chunks.self c.chunks.at c.args.to cs w (omega (arith, c.chunks-test.false)) in
    subst (λ ds. Lists c.chunks.region c.chunks.self (free_runs c.args.region.now ds)) (sym end) w.lists

pub returns-clause-row : goal.returns-clause-row
returns-clause-row c = λ cs t.
    let w = c.chunks.invariant.walked cs t in
    let end = walk_ends c.args.region.now c.chunks.region c.chunks.self c.chunks.at c.args.to cs w (omega (arith, c.chunks-test.false)) in
    let lists : Lists c.chunks.region c.chunks.self (free_runs c.args.region.now cs) = subst (λ ds. Lists c.chunks.region c.chunks.self (free_runs c.args.region.now ds)) (sym end) w.lists in
    cuts_rewritten c.args.region.now c.chunks.region c.args.to c.args.from cs t lists.chunks (λ k ge le out. w.others k (rw (← end) out))

pub returns-clause-others : goal.returns-clause-others
returns-clause-others c = λ cs t k out.
    let w = c.chunks.invariant.walked cs t in
    let end = walk_ends c.args.region.now c.chunks.region c.chunks.self c.chunks.at c.args.to cs w (omega (arith, c.chunks-test.false)) in
    w.others k (rw (← end) out)
