-- The handles that are held, as a list by index, and the map that they make with their words.
use Rattle.std.specs.Prelude.{◌≡◌, ◌≢◌, ◌<◌, ℕ, List, [], ◌∷◌, ◌++◌, length, slice_index_or, refl}
use Rattle.std.specs.List.{zip}
use Rattle.std.specs.Coded.{Coded, code_by, coded×, coded_ℕ, coded_list}
use Rattle.std.specs.FinMap.{FinMap, from_entries}
use Rattle.spur_graph.specs.Graph.{Handle, handle_cmp}
use Rattle.handle_table.specs.declared.index.TheConstants.{MOST_HANDLES}
use Rattle.handle_table.specs.declared.index.Entered.{Entered}
use Rattle.handle_table.specs.declared.index.Entered.TheVariants.{Before, Last, Full}
use Rattle.handle_table.specs.Slots.{AreApart}

abbrev pub no_handle : Handle
no_handle = (0, [])

-- the handle at an index
abbrev pub handle_at : List Handle → ℕ → Handle
handle_at handles n = slice_index_or handles n no_handle

abbrev pub AreDistinct : List Handle → Type 0
AreDistinct handles = AreApart (length handles) (handle_at handles)

-- the handle stands at this index
pub record IsHeldAt (handles : List Handle) (handle : Handle) (n : ℕ) : Type 0 where
  pub within : n < length handles
  pub is : handle_at handles n ≡ handle

-- the handle stands at no index
abbrev pub IsAbsent : List Handle → Handle → Type 0
IsAbsent handles handle = (n : ℕ) → n < length handles → handle_at handles n ≢ handle

-- what becomes of a handle that is to be held: it stays where it is, it is the last, or 65,536 others are held
abbrev pub Enters : List Handle → Handle → Entered → List Handle → Type 0
Enters old handle (Before n) new = IsHeldAt old handle n × (new ≡ old)
Enters old handle Last new = IsAbsent old handle × (length old < MOST_HANDLES) × (new ≡ old ++ handle ∷ [])
Enters old handle Full new = IsAbsent old handle × (length old ≡ MOST_HANDLES) × (new ≡ old)

-- each handle with its word
abbrev pub bound : List Handle → List ℕ → FinMap handle_cmp ℕ
bound handles words = from_entries (zip handles words)

-- what contracts see of a table: the handles by index, and the word of each
pub record Bindings : Type 0 where
  pub handles : List Handle
  pub words : List ℕ

-- the word of each handle that is held
abbrev pub held : Bindings → FinMap handle_cmp ℕ
held b = bound b.handles b.words

-- the code of a table's value, as a pair
abbrev pub bindings_code : Coded Bindings
bindings_code = code_by (List Handle × List ℕ) (coded× (coded_list (coded× coded_ℕ (coded_list coded_ℕ))) (coded_list coded_ℕ))
    (λ b. (b.handles, b.words)) (λ p. record { handles = p.0; words = p.1 }) (λ _. refl)
