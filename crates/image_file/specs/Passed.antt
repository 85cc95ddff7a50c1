-- The rows of causes that do not apply.
use Rattle.std.specs.Prelude.{◌≤◌, ℕ, ◌+◌, ◌*◌, ◌/◌, List}
use Rattle.spur_graph.specs.declared.limits.Limits.{Limits}
use Rattle.spur_graph.specs.ImageCauses.{Row, number, Bad}
use Rattle.image_header.specs.declared.header.ImageHeader.{ImageHeader}

-- no row up to this number has a bad key
abbrev pub Passes : List ℕ → Limits → ℕ → Type 0
Passes bytes limits last = (row : Row) (n : ℕ) → number row ≤ last → Bad bytes limits row n → ⊥

-- the words that an image with this header and the limits ask for
abbrev pub needed_words : ImageHeader → Limits → ℕ
needed_words h limits = h.heap_bytes / 8 + limits.room + limits.eden + 2 * limits.survivor
