use Rattle.std.proofs.Common.{◌≤◌, ℕ}
use Rattle.image_checks.specs.Checks.{IsBadIn}
use Rattle.image_checks.proofs.walk.first_bad_object.Given as goal

abbrev pub invariant-segments : goal.invariant-segments
invariant-segments l = (n : ℕ) (b : IsBadIn l.map l.words n) → l.i ≤ b.0
