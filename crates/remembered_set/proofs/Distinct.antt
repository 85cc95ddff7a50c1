-- Starts stay distinct where one comes.
use Rattle.std.proofs.Common.{ℕ, ◌≢◌, List, [], ◌∷◌, ◌++◌, Contains, subst}
use Rattle.std.proofs.lemmas.List.Elements.{Contains-get_or}
use Rattle.std.proofs.lemmas.List.Quantifiers.{all_pairs_push}
use Rattle.remembered_set.specs.Starts.{AreDistinct}

pub distinct-push : (starts : List ℕ) (s : ℕ) → AreDistinct starts → (Contains starts s → ⊥) → AreDistinct (starts ++ s ∷ [])
distinct-push starts s distinct absent = all_pairs_push (λ a b. a ≢ b) starts s distinct (λ k d l e. absent (subst (Contains starts) e (Contains-get_or starts k d l)))
