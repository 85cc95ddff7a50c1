use Rattle.std.proofs.Common.{◌≡◌, ◌∙◌, sym, ap, subst, map, length, List}
use Rattle.std.proofs.lemmas.List.{drop-map, length-map}
use Rattle.std.specs.String.{string_bytes}
use Rattle.spur_graph.specs.Bytes.{Text}
use Rattle.replay.specs.Runs.{IsMisused}
use Rattle.replay.specs.Options.{AskFor}
use Rattle.replay.proofs.Words.{split_words, none_is}
use Rattle.replay.proofs.runs.request_of.Goals as goal

pub returns-in_err-limits-clause-none : goal.returns-in_err-limits-clause-none
returns-in_err-limits-clause-none c =
    let words = c.args.words.now in
    let misused : IsMisused (map string_bytes words) = λ image script limits is.
    let options : map string_bytes c.split_at.result.1.now ≡ is.options =
    ap (map string_bytes) c.split_at.ensures.back ∙ sym (drop-map string_bytes c.min.result words)
    ∙ split_words (map string_bytes words) is.front is.options image script c.min.result (length words) is.are is.call (sym (length-map words string_bytes)) c.min.ensures in
    let P : List Text → Type 0 = λ others. AskFor others limits in
    c.in_err-limits.ensures.none limits (subst P (sym options) is.asks) in
    none_is _ _ misused
