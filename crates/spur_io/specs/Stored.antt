-- What a list of files holds.
use Rattle.std.specs.Prelude.{ℕ, Bool, List, [], ◌∷◌, if◌then◌else◌, nat_eq}
use Rattle.std.specs.Cmp.Lexicographic.{pointwise}
use Rattle.std.specs.String.{string_bytes}
use Rattle.spur_io.specs.Store.{FileMap}
use Rattle.spur_io.specs.declared.stored_files.StoredFile.{StoredFile}

-- whether a file has this name
abbrev pub is_named : List ℕ → StoredFile → Bool
is_named name f = pointwise nat_eq (string_bytes f.name) name

-- the bytes of each name: those of the first file that has it, none where no file has it
abbrev pub stored : List StoredFile → FileMap
stored [] name = []
stored (f ∷ files) name = if is_named name f then f.bytes.items else stored files name
