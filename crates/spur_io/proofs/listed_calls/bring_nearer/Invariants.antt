use Rattle.std.proofs.Common.{◌≡◌, ◌-◌, ◌++◌, take, drop, map}
use Rattle.spur_io.proofs.listed_calls.bring_nearer.Given as goal

-- the numbers so far are lower, and the others as before
abbrev pub invariant-numbers : goal.invariant-numbers
invariant-numbers l = l.numbers ≡ map (λ n. n - 1) (take l.number-index l.initial.numbers) ++ drop l.number-index l.initial.numbers
