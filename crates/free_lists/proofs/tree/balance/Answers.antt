use Rattle.std.proofs.Common.{◌+◌, ◌∙◌, arith, ap}
use Rattle.free_lists.specs.Runs.{cover}
use Rattle.free_lists.specs.Trees.{key_of}
use Rattle.free_lists.proofs.Branches.{left_turned, right_turned, left_turned_made, right_turned_made}
use Rattle.free_lists.proofs.tree.balance.Goals as goal

pub lift_left-requires-clause-held : goal.lift_left-requires-clause-held
lift_left-requires-clause-held c =
    let h = c.requires.held in
    let l = h.0 in
    let size = h.1 in
    let r = h.2 in
    let low = h.3 in
    let high = h.4 in
    let p = h.5 in
    let u = c.lean_left-leaning.ensures.turns l low (key_of c.args.at size) p.left p.before in
    let still = c.lean_left-leaning.ensures.others l low (key_of c.args.at size) p.left p.before in
    let q = left_turned c.args.region.now c.lean_left-leaning.new.region c.args.left c.args.at c.args.right l size r low high p c.lean_left-leaning.result c.lean_left-leaning.ensures.same_length u still in
    (u.t', size, r, low, high, q)

pub returns-then-before-saturating_add-clause-made : goal.returns-then-before-saturating_add-clause-made
returns-then-before-saturating_add-clause-made c = λ l size r low high p.
    let u = c.lean_left-leaning.ensures.turns l low (key_of c.args.at size) p.left p.before in
    let still = c.lean_left-leaning.ensures.others l low (key_of c.args.at size) p.left p.before in
    let q = left_turned c.args.region.now c.lean_left-leaning.new.region c.args.left c.args.at c.args.right l size r low high p c.lean_left-leaning.result c.lean_left-leaning.ensures.same_length u still in
    left_turned_made c.lift_left.new.region c.lean_left-leaning.new.region l c.args.at size r c.lean_left-leaning.result c.lift_left.result low high low (key_of c.args.at size) u (c.lift_left.ensures.made u.t' size r low high q)

pub returns-then-before-saturating_add-clause-others : goal.returns-then-before-saturating_add-clause-others
returns-then-before-saturating_add-clause-others c = λ l size r low high p k out.
    let u = c.lean_left-leaning.ensures.turns l low (key_of c.args.at size) p.left p.before in
    let still = c.lean_left-leaning.ensures.others l low (key_of c.args.at size) p.left p.before in
    let q = left_turned c.args.region.now c.lean_left-leaning.new.region c.args.left c.args.at c.args.right l size r low high p c.lean_left-leaning.result c.lean_left-leaning.ensures.same_length u still in
    c.lift_left.ensures.others u.t' size r low high q k (omega (arith, out, ap (λ rs. cover rs k) u.runs)) ∙ still k (omega arith)

pub lift_right-requires-clause-held : goal.lift_right-requires-clause-held
lift_right-requires-clause-held c =
    let h = c.requires.held in
    let l = h.0 in
    let size = h.1 in
    let r = h.2 in
    let low = h.3 in
    let high = h.4 in
    let p = h.5 in
    let u = c.lean_right-leaning.ensures.turns r (key_of c.args.at size + 1) high p.right p.behind in
    let still = c.lean_right-leaning.ensures.others r (key_of c.args.at size + 1) high p.right p.behind in
    let q = right_turned c.args.region.now c.lean_right-leaning.new.region c.args.left c.args.at c.args.right l size r low high p c.lean_right-leaning.result c.lean_right-leaning.ensures.same_length u still in
    (l, size, u.t', low, high, q)

pub returns-then-behind-saturating_add-clause-made : goal.returns-then-behind-saturating_add-clause-made
returns-then-behind-saturating_add-clause-made c = λ l size r low high p.
    let u = c.lean_right-leaning.ensures.turns r (key_of c.args.at size + 1) high p.right p.behind in
    let still = c.lean_right-leaning.ensures.others r (key_of c.args.at size + 1) high p.right p.behind in
    let q = right_turned c.args.region.now c.lean_right-leaning.new.region c.args.left c.args.at c.args.right l size r low high p c.lean_right-leaning.result c.lean_right-leaning.ensures.same_length u still in
    right_turned_made c.lift_right.new.region c.lean_right-leaning.new.region l c.args.at size r c.lean_right-leaning.result c.lift_right.result low high (key_of c.args.at size + 1) high u (c.lift_right.ensures.made l size u.t' low high q)

pub returns-then-behind-saturating_add-clause-others : goal.returns-then-behind-saturating_add-clause-others
returns-then-behind-saturating_add-clause-others c = λ l size r low high p k out.
    let u = c.lean_right-leaning.ensures.turns r (key_of c.args.at size + 1) high p.right p.behind in
    let still = c.lean_right-leaning.ensures.others r (key_of c.args.at size + 1) high p.right p.behind in
    let q = right_turned c.args.region.now c.lean_right-leaning.new.region c.args.left c.args.at c.args.right l size r low high p c.lean_right-leaning.result c.lean_right-leaning.ensures.same_length u still in
    c.lift_right.ensures.others l size u.t' low high q k (omega (arith, out, ap (λ rs. cover rs k) u.runs)) ∙ still k (omega arith)
