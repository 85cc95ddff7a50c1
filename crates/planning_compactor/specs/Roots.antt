-- What names objects from outside of the words.
use Rattle.std.specs.Prelude.{ℕ, ◌≡◌, ◌*◌, ◌/◌, ◌%◌, ◌^◌, ◌<◌, Bool, true, List, length, slice_index}
use Rattle.heap_laws.specs.Instances.{readdressed_by}
use Rattle.spur_heap.specs.Tables.{begins, start_in}
use Rattle.planning_compactor.specs.Readdressed.{moved_word}

-- the words of handles, the special objects word, and the entries of mourners
pub record Roots : Type 0 where
  pub handles : List ℕ
  pub special : ℕ
  pub mourners : List ℕ

abbrev pub roots_of : List ℕ → ℕ → List ℕ → Roots
roots_of handles special mourners = record { handles = handles; special = special; mourners = mourners }

-- each is an immediate or names a start, and mourners are starts
pub record AreRoots (has : ℕ → Bool) (r : Roots) : Type 0 where
  pub handles : (i : ℕ) → i < length r.handles → slice_index r.handles i % 8 ≡ 0 → has (slice_index r.handles i / 8) ≡ true
  pub special : r.special % 8 ≡ 0 → has (r.special / 8) ≡ true
  pub mourners : (i : ℕ) → i < length r.mourners → has (start_in (slice_index r.mourners i)) ≡ true

-- each is under the new places
pub record RootsMovedBy (p : ℕ → ℕ) (r r' : Roots) : Type 0 where
  pub same_handles : length r'.handles ≡ length r.handles
  pub handles : (i : ℕ) → i < length r.handles → slice_index r'.handles i ≡ readdressed_by p (slice_index r.handles i)
  pub special : r'.special ≡ readdressed_by p r.special
  pub same_mourners : length r'.mourners ≡ length r.mourners
  pub starts : (i : ℕ) → i < length r.mourners → start_in (slice_index r'.mourners i) ≡ p (start_in (slice_index r.mourners i))
  pub groups : (i : ℕ) → i < length r.mourners → begins (slice_index r'.mourners i) ≡ begins (slice_index r.mourners i)

-- each that names an object from `low` up to `high` is rewritten, unless the object is pinned
pub record Readdresses (words : List ℕ) (low high : ℕ) (r r' : Roots) : Type 0 where
  pub same_handles : length r'.handles ≡ length r.handles
  pub handles : (i : ℕ) → i < length r.handles → slice_index r'.handles i ≡ moved_word words low high (slice_index r.handles i)
  pub special : r'.special ≡ moved_word words low high r.special
  pub same_mourners : length r'.mourners ≡ length r.mourners
  pub starts : (i : ℕ) → i < length r.mourners → start_in (slice_index r'.mourners i) ≡ moved_word words low high (8 * start_in (slice_index r.mourners i)) / 8
  pub groups : (i : ℕ) → i < length r.mourners → begins (slice_index r'.mourners i) ≡ begins (slice_index r.mourners i)
