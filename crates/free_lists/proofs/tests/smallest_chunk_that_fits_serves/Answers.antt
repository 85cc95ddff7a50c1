use Rattle.std.proofs.Common.{[], ◌∷◌, inr, refl, arith}
use Rattle.free_lists.specs.Lists.{MeetsNone}
use Rattle.free_lists.proofs.Covers.{covers-outside, cover-cons}
use Rattle.free_lists.proofs.tests.smallest_chunk_that_fits_serves.Goals as goal

none : MeetsNone [] 10 6
none k from to = refl

second : MeetsNone ((10, 6) ∷ []) 100 300
second k from to = omega (arith, cover-cons (10, 6) [] k, covers-outside k 10 6 (inr (omega arith)))

third : MeetsNone ((100, 300) ∷ (10, 6) ∷ []) 500 64
third k from to =
    omega (arith, cover-cons (100, 300) ((10, 6) ∷ []) k, cover-cons (10, 6) [] k, covers-outside k 10 6 (inr (omega arith)), covers-outside k 100 300 (inr (omega arith)))

pub give-requires-clause-held : goal.give-requires-clause-held
give-requires-clause-held g c = ([], c.new-free.ensures.empty _, none)

pub give-requires-2-clause-held : goal.give-requires-2-clause-held
give-requires-2-clause-held g c = ((10, 6) ∷ [], c.give.ensures.given [] (c.new-free.ensures.empty _) none, second)

pub give-requires-3-clause-held : goal.give-requires-3-clause-held
give-requires-3-clause-held g c =
    ((100, 300) ∷ (10, 6) ∷ [], c.give-2.ensures.given ((10, 6) ∷ []) (c.give.ensures.given [] (c.new-free.ensures.empty _) none) second, third)
