use Rattle.std.proofs.Common.{◌≤◌, ◌+◌, ◌∙◌, ℕ, arith}
use Rattle.free_lists.specs.Runs.{cover}
use Rattle.free_lists.specs.Trees.{runs_in, key_of}
use Rattle.free_lists.proofs.Trees.{top_length, top_cover, right_held, top_within}
use Rattle.free_lists.proofs.Joins.{join_first_none, join_second_none}
use Rattle.free_lists.proofs.Branches.{join_parts, join_over, join_none, join_size}
use Rattle.free_lists.proofs.tree.+join.Goals as goal

pub returns-then-first-eq-NONE-clause-joins : goal.returns-then-first-eq-NONE-clause-joins
returns-then-first-eq-NONE-clause-joins m c = λ a b low mid high held_a held_b apart within_a within_b le ge.
    join_first_none c.args.region.now c.args.first c.args.second a b low mid high held_a held_b c.if-first-eq-NONE.true within_b le

pub returns-then-second-eq-NONE-clause-joins : goal.returns-then-second-eq-NONE-clause-joins
returns-then-second-eq-NONE-clause-joins m c = λ a b low mid high held_a held_b apart within_a within_b le ge.
    join_second_none c.args.region.now c.args.first c.args.second a b low mid high held_a held_b c.if-second-eq-NONE.true within_a ge

pub overflow_sub-levels : goal.overflow_sub-levels
overflow_sub-levels m c =
    let h = c.requires.held in
    let a = h.0 in
    let b = h.1 in
    let held_a = h.2 in
    let held_b = h.3 in
    let apart = h.4 in
    let low = h.5 in
    let mid = h.6 in
    let high = h.7 in
    let within_a = h.8 in
    let within_b = h.9 in
    let le = h.10 in
    let ge = h.11 in
    let node = c.read_node-node.result in
    let top = c.read_node-node.ensures.top a held_a.tree in
    let part = right_held c.args.region.now a node top c.args.first held_a in
    let less : (k : ℕ) → cover (runs_in top.r) k + cover (runs_in b) k ≤ 1 = λ k. omega (arith, apart k, top_cover c.args.region.now a node top k) in
    omega (arith, h.12, top_length c.args.region.now a node top)

pub join-last-requires : goal.join-last-requires
join-last-requires m c =
    let h = c.requires.held in
    let a = h.0 in
    let b = h.1 in
    let held_a = h.2 in
    let held_b = h.3 in
    let apart = h.4 in
    let low = h.5 in
    let mid = h.6 in
    let high = h.7 in
    let within_a = h.8 in
    let within_b = h.9 in
    let le = h.10 in
    let ge = h.11 in
    let node = c.read_node-node.result in
    let top = c.read_node-node.ensures.top a held_a.tree in
    let part = right_held c.args.region.now a node top c.args.first held_a in
    let less : (k : ℕ) → cover (runs_in top.r) k + cover (runs_in b) k ≤ 1 = λ k. omega (arith, apart k, top_cover c.args.region.now a node top k) in
    let n = top_length c.args.region.now a node top in
    let w = top_within c.args.region.now a node top low mid within_a in
    (omega arith, (c.requires.small, (top.r, b, part, held_b, less, key_of node.at node.words + 1, mid, high, w.3, within_b, omega (arith, w.1), ge, omega arith)))

pub join_at-requires-clause-held : goal.join_at-requires-clause-held
join_at-requires-clause-held m c =
    let h = c.requires.held in
    let a = h.0 in
    let b = h.1 in
    let held_a = h.2 in
    let held_b = h.3 in
    let apart = h.4 in
    let low = h.5 in
    let mid = h.6 in
    let high = h.7 in
    let within_a = h.8 in
    let within_b = h.9 in
    let le = h.10 in
    let ge = h.11 in
    let node = c.read_node-node.result in
    let top = c.read_node-node.ensures.top a held_a.tree in
    let part = right_held c.args.region.now a node top c.args.first held_a in
    let less : (k : ℕ) → cover (runs_in top.r) k + cover (runs_in b) k ≤ 1 = λ k. omega (arith, apart k, top_cover c.args.region.now a node top k) in
    let w = top_within c.args.region.now a node top low mid within_a in
    let j = c.join-last.ensures.joins top.r b (key_of node.at node.words + 1) mid high part held_b less w.3 within_b (omega (arith, w.1)) ge in
    let still = c.join-last.ensures.others top.r b (key_of node.at node.words + 1) mid high part held_b less w.3 within_b (omega (arith, w.1)) ge in
    let n = top_length c.args.region.now a node top in
    (top.l, node.words, j.t, low, high, join_parts c.args.region.now c.join-last.new.region c.args.first a b node top held_a apart low mid high within_a ge c.join-last.ensures.same_length c.join-last.result j still, omega (arith, h.12, n, join_size c.join-last.new.region top.r b c.join-last.result (key_of node.at node.words + 1) high j))

pub returns-clause-joins : goal.returns-clause-joins
returns-clause-joins m c = λ a b low mid high held_a held_b apart within_a within_b le ge.
    let node = c.read_node-node.result in
    let top = c.read_node-node.ensures.top a held_a.tree in
    let part = right_held c.args.region.now a node top c.args.first held_a in
    let less : (k : ℕ) → cover (runs_in top.r) k + cover (runs_in b) k ≤ 1 = λ k. omega (arith, apart k, top_cover c.args.region.now a node top k) in
    let w = top_within c.args.region.now a node top low mid within_a in
    let j = c.join-last.ensures.joins top.r b (key_of node.at node.words + 1) mid high part held_b less w.3 within_b (omega (arith, w.1)) ge in
    let still = c.join-last.ensures.others top.r b (key_of node.at node.words + 1) mid high part held_b less w.3 within_b (omega (arith, w.1)) ge in
    join_over c.args.region.now c.join-last.new.region c.args.first a b node top held_a apart low mid high within_a ge c.join-last.ensures.same_length c.join-last.result j still c.join_at.new.region c.join_at.result (c.join_at.ensures.made top.l node.words j.t low high (join_parts c.args.region.now c.join-last.new.region c.args.first a b node top held_a apart low mid high within_a ge c.join-last.ensures.same_length c.join-last.result j still))

pub returns-clause-others : goal.returns-clause-others
returns-clause-others m c = λ a b low mid high held_a held_b apart within_a within_b le ge k out.
    let node = c.read_node-node.result in
    let top = c.read_node-node.ensures.top a held_a.tree in
    let part = right_held c.args.region.now a node top c.args.first held_a in
    let less : (k : ℕ) → cover (runs_in top.r) k + cover (runs_in b) k ≤ 1 = λ k. omega (arith, apart k, top_cover c.args.region.now a node top k) in
    let w = top_within c.args.region.now a node top low mid within_a in
    let j = c.join-last.ensures.joins top.r b (key_of node.at node.words + 1) mid high part held_b less w.3 within_b (omega (arith, w.1)) ge in
    let still = c.join-last.ensures.others top.r b (key_of node.at node.words + 1) mid high part held_b less w.3 within_b (omega (arith, w.1)) ge in
    let n = join_none c.args.region.now c.join-last.new.region c.args.first a b node top held_a apart low mid high within_a ge c.join-last.ensures.same_length c.join-last.result j still k out in
    c.join_at.ensures.others top.l node.words j.t low high (join_parts c.args.region.now c.join-last.new.region c.args.first a b node top held_a apart low mid high within_a ge c.join-last.ensures.same_length c.join-last.result j still) k n.0 ∙ still k n.1
