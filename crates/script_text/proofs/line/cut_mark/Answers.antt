use Rattle.std.proofs.Common.{◌∙◌, sym, ap}
use Rattle.std.specs.Prelude.{option_and_then}
use Rattle.script_text.specs.Reading.{words_after}
use Rattle.script_text.specs.Grammar.{of_mutator}
use Rattle.script_text.proofs.Marks.{plain_line, some_mark, marked_line}
use Rattle.script_text.proofs.line.cut_mark.Goals as goal

pub returns-then-not-is_marked-clause-cut : goal.returns-then-not-is_marked-clause-cut
returns-then-not-is_marked-clause-cut c = plain_line c.args.bytes.now (sym c.is_marked.ensures ∙ c.if-not-is_marked.true)

pub mutator_of-requires : goal.mutator_of-requires
mutator_of-requires c = some_mark c.args.bytes.now c.cut.result.0.now (words_after c.cut.result.1) c.cut.ensures (sym c.is_marked.ensures ∙ c.if-not-is_marked.false)

pub returns-in_err-mutator-clause-none : goal.returns-in_err-mutator-clause-none
returns-in_err-mutator-clause-none c =
    let words = words_after c.cut.result.1 in
    rw c.from_residual.ensures
    (marked_line c.args.bytes.now c.cut.result.0.now words c.cut.ensures (sym c.is_marked.ensures ∙ c.if-not-is_marked.false) ∙ ap (option_and_then (λ k. of_mutator k words)) c.in_err-mutator.ensures)

pub returns-in_err-rest-clause-none : goal.returns-in_err-rest-clause-none
returns-in_err-rest-clause-none c =
    let words = words_after c.cut.result.1 in
    rw c.from_residual-in_err-rest.ensures
    (marked_line c.args.bytes.now c.cut.result.0.now words c.cut.ensures (sym c.is_marked.ensures ∙ c.if-not-is_marked.false) ∙ ap (option_and_then (λ k. of_mutator k words)) c.in_ok-mutator.ensures
    ∙ ap (λ rest. of_mutator c.in_ok-mutator.mutator (words_after rest)) c.in_err-rest.was)

pub returns-clause-cut : goal.returns-clause-cut
returns-clause-cut c =
    let words = words_after c.cut.result.1 in
    marked_line c.args.bytes.now c.cut.result.0.now words c.cut.ensures (sym c.is_marked.ensures ∙ c.if-not-is_marked.false) ∙ ap (option_and_then (λ k. of_mutator k words)) c.in_ok-mutator.ensures
    ∙ ap (λ rest. of_mutator c.in_ok-mutator.mutator (words_after rest)) c.in_ok-rest.was
