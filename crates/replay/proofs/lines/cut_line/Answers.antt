use Rattle.std.proofs.Common.{◌∙◌, ◌∷◌, ◌++◌, drop, sym, ap}
use Rattle.spur_graph.specs.Lines.{has_line_feed}
use Rattle.replay.proofs.ScriptLines.{first_cut, feed_cut, none_found}
use Rattle.replay.proofs.lines.cut_line.Goals as goal

pub returns-in_err-end-clause-none : goal.returns-in_err-end-clause-none
returns-in_err-end-clause-none c = rw c.from_residual.ensures (none_found c.args.bytes.now (sym c.in_err-end.ensures))

pub returns-clause-whole : goal.returns-clause-whole
returns-clause-whole c =
    feed_cut c.args.bytes.now c.in_ok-end.end (sym c.in_ok-end.ensures) ∙ sym (λ i. c.split_at.ensures.front i ++ 10 ∷ (c.split_at-2.ensures.back ∙ ap (drop 1) c.split_at.ensures.back) i)

pub returns-clause-first : goal.returns-clause-first
returns-clause-first c = ap has_line_feed c.split_at.ensures.front ∙ first_cut c.args.bytes.now c.in_ok-end.end (sym c.in_ok-end.ensures)
