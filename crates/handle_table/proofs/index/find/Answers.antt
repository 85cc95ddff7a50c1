use Rattle.std.proofs.Common.{◌≢◌, ℕ, ◌<◌, ◌≤◌, ◌-◌, slice_index, ◌∙◌, arith}
use Rattle.std.proofs.lemmas.Bool.{false≢true}
use borrow.Author.Count.{below_more}
use Rattle.spur_graph.specs.Graph.{Handle}
use Rattle.handle_table.specs.Slots.{home_of, key_at}
use Rattle.handle_table.proofs.Slots.{next_probe}
use Rattle.handle_table.proofs.Held.{key_read}
use Rattle.handle_table.proofs.index.find.Goals as goal

pub probes-preserved : goal.probes-preserved
probes-preserved c =
    let key : Handle = (c.args.mutator, c.args.name.now.bytes) in
    let slots = c.args.slots.now in
    let at = c.probes.at in
    let r = c.requires.indexed.paired in
    let here : slice_index slots at ≢ 0 = c.probes-test.true in
    let small : home_of key < 131072 = omega (arith, c.home-at.ensures.value, c.home-at.ensures.small) in
    let next = next_probe slots _ (home_of key) at r.counted r.few r.size small c.probes.invariant.reached c.probes.invariant.within here in
    let below = (r.named at here).0 in
    let read = key_read c.args.held.now (slice_index slots at - 1) c.index-held-n.result c.index-held-n.is (omega arith) in
    let other : key_at c.args.held.now (slice_index slots at - 1) ≢ key = λ e. false≢true (c.if-is.ensures.1 (read ∙ e)) in
    record {
      within = next.0;
      reached = next.1;
      missed = λ j m k. below_more (λ (j : ℕ). home_of key ≤ j → key_at c.args.held.now (slice_index slots j - 1) ≢ key) at (λ (i : ℕ) l h. c.probes.invariant.missed i h l) (λ _. other) j k m;
    }
