-- The region of places that are not yet a heap, lent to be filled.
use Rattle.std.specs.Prelude.{ℕ, List}
use Rattle.std.specs.Borrow.{Lends, MutBor, Fml}
use Rattle.spur_words.specs.contracts.region.Region.{the_row as region_row}
use Rattle.spur_heap.specs.declared.bare.Bare.{Bare}
use Rattle.spur_heap.specs.contracts.bare.Bare.{the_row}

-- the places with other words in their region
abbrev pub with_region : Bare → List ℕ → Bare
with_region bare words = record bare { region = words }

-- the places end with the last words of the lent region
abbrev pub LendsRegion : MutBor Bare → MutBor (List ℕ) → Fml
LendsRegion bare region = Lends the_row region_row bare region (with_region bare.now)
