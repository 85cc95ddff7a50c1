use Rattle.std.proofs.Common.{◌∙◌, ◌∷◌, [], sym, subst, List, ℕ}
use Rattle.std.specs.Prelude.{codes}
use Rattle.std.specs.String.{string_bytes}
use Rattle.std.proofs.lemmas.Slice.Eq.{bytes_eq-Decides}
use Rattle.replay.specs.Runs.{IsPath}
use Rattle.replay.proofs.Words.{three_words}
use Rattle.replay.proofs.runs.paths_of.Goals as goal

pub returns-in-len3-clause-some : goal.returns-in-len3-clause-some
returns-in-len3-clause-some c =
    let are = three_words string_bytes c.args.words.now c.command-item.result c.image-item.result c.script-item.result c.in-len3.len_at_least c.in-len3.len_below c.command-item.is c.image-item.is c.script-item.is in
    let command = sym c.as_str.ensures.value ∙ (bytes_eq-Decides c.as_str.result.now (codes "replay")).0 (sym c.eq.ensures ∙ c.if-eq.true) in
    let P : List ℕ → Type 0 = IsPath in
    record {
      are = are ∙ (λ k. command k ∷ sym c.as_str-in-len3.ensures.value k ∷ sym c.as_str-in-len3-2.ensures.value k ∷ []);
      image_path = subst P (c.as_str-then-eq.ensures.value ∙ sym c.as_str-in-len3.ensures.value) (c.is_path.ensures.yes c.if-is_path.true);
      script_path = subst P (c.as_str-then-is_path.ensures.value ∙ sym c.as_str-in-len3-2.ensures.value) (c.is_path-then-is_path.ensures.yes c.if-is_path-2.true);
    }
