use Rattle.std.specs.Prelude.{ℕ, List, ◌++◌, take, drop, length}
use Rattle.std.specs.List.{refill}
use Rattle.std.specs.Borrow.{Lends, MutBor, Fml, u64, Array}
use Rattle.spur_words.specs.contracts.region.Region.{the_row}

-- the words with the run from `at` on replaced by `run`
abbrev pub with_run : List ℕ → ℕ → List ℕ → List ℕ
with_run words at run = take at words ++ (run ++ drop (length run) (drop at words))

-- a region ends with the run from `at` on as the last words behind the lent slice, and else as it was
abbrev pub LendsRun : MutBor (List ℕ) → ℕ → MutBor (List ℕ) → Fml
LendsRun region at run =
    Lends the_row (Array u64 0) region run (λ words. refill (length region.now) region.now (with_run region.now at words))
