-- Rows of refusals, of which the first counts.
use Rattle.std.proofs.Common.{◌≡◌, refl, ap, sym}
use Rattle.std.specs.Prelude.{[], ◌∷◌, Option, Some, None, Result, Ok, Err}
use Rattle.std.specs.Result.{result_err, IsErrAnd}
use Rattle.spur_graph.specs.declared.answer.Refusal.{Refusal}
use Rattle.spur_graph.specs.Refusals.{first}

-- a refusal that a result hands on
pub handed_on : {X : Type 0} (result : Result X Refusal) (why : Refusal) → IsErrAnd result (λ e. e ≡ why) → Some why ≡ result_err result
handed_on (Ok x) why is = absurd is
handed_on (Err e) why is = ap (λ x. Some x) (sym is)

-- a row of one
pub alone : (o : Option Refusal) → first (o ∷ []) ≡ o
alone None = refl
alone (Some why) = refl
