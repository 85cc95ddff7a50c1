-- The words that a file holds.
use Rattle.std.specs.Prelude.{◌≡◌, ◌≤◌, ℕ, ◌*◌, List, length, take, drop}
use Rattle.spur_graph.specs.Bytes.{words_in}

-- the file holds these words behind `at` bytes
pub record HasWords (file : List ℕ) (at : ℕ) (words : List ℕ) : Type 0 where
  pub held : 8 * length words ≤ length (drop at file)
  pub read : words ≡ words_in (take (8 * length words) (drop at file))
