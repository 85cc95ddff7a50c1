use Rattle.std.specs.Prelude.{ℕ, Bool, ◌/◌, ◌%◌, List, slice_index, nat_eq}
use Rattle.std.specs.Int.{bit_at}
use Rattle.heap_walk.specs.declared.starts.StartMap.{StartMap}

-- whether the bit with the number `at` is 1, where each word has 64 of them, the lowest first
abbrev pub is_one : List ℕ → ℕ → Bool
is_one bits at = nat_eq (bit_at (slice_index bits (at / 64)) (at % 64)) 1

-- whether the set holds the start `at`
unfoldable pub has_start : StartMap → ℕ → Bool
has_start map at = is_one map.bits.items at

-- the number of words whose starts the set can hold
abbrev pub covered : StartMap → ℕ
covered map = map.words
