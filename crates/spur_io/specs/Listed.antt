-- Calls that are listed to fail, by their numbers from the next call on.
use Rattle.std.specs.Prelude.{ℕ, ◌-◌, List, map, nat_lt}
use Rattle.std.specs.List.{filter}

-- one call later each number is one lower, and that of the call which was made is gone
abbrev pub after_call : List ℕ → List ℕ
after_call numbers = filter (λ n. nat_lt 0 n) (map (λ n. n - 1) numbers)
