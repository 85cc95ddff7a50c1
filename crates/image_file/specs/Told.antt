-- The file of a store that tells its bytes.
use Rattle.std.specs.Prelude.{◌≡◌, ℕ, List, Option, Some}
use Rattle.std.specs.Option.{option_map}
use Rattle.spur_io.specs.Store.{FileMap}

-- the store tells that these are the bytes of this name
abbrev pub Tells : Option FileMap → List ℕ → List ℕ → Type 0
Tells told name file = option_map (λ (store : FileMap). store name) told ≡ Some file
