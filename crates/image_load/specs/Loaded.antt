-- When an image is loaded, and when it is not.
use Rattle.std.specs.Prelude.{ℕ, ◌≡◌, ◌≢◌, ◌≤◌, ◌^◌, Result, Err}
use Rattle.spur_io.specs.Causes.{Rose}
use Rattle.spur_graph.specs.declared.limits.Limits.{Limits}
use Rattle.image_file.specs.declared.error.LoadError.{LoadError}
use Rattle.image_file.specs.declared.error.LoadError.TheVariants as errors

-- the limits that a heap can have: a table for saved fields, no room of one word, and no more than the most words and entries of each
pub record AreLimits (limits : Limits) : Type 0 where
  pub most_eden : limits.eden ≤ 2 ^ 27
  pub most_survivor : limits.survivor ≤ 2 ^ 27
  pub room : limits.room ≢ 1
  pub most_room : limits.room ≤ 2 ^ 27
  pub some_saved : 1 ≤ limits.saved
  pub most_saved : limits.saved ≤ 2 ^ 27

-- a read fault comes only where the count of them rose, and every other answer only where it did not
abbrev pub LoadCause : {T : Type 0} → ℕ → ℕ → Result T LoadError → Type 0
LoadCause before now (Err errors.ReadFault) = (before ≤ now) × Rose before now
LoadCause before now other = now ≡ before
