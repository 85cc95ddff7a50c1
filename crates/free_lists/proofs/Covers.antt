-- Which runs a word is one of.
use Rattle.std.proofs.Common.{◌≡◌, ℕ, ◌+◌, ◌<◌, ◌≤◌, List, ◌∷◌, ◌++◌, arith, ◌∙◌, ◌⊎◌}
use Rattle.std.proofs.lemmas.Bool.Decides.{nat_tests}
use Rattle.std.proofs.lemmas.List.Sums.{sum_by-cons, sum_by-append}
use Rattle.free_lists.specs.Runs.{covers, cover}
use Rattle.free_lists.specs.Trees.{Tree, Branch, runs_in}

pub covers-inside : (k at size : ℕ) → at ≤ k → k < at + size → covers k (at, size) ≡ 1
unfolding covers
covers-inside k at size from to = grind (arith, nat_tests)

pub covers-outside : (k at size : ℕ) → (k < at) ⊎ (at + size ≤ k) → covers k (at, size) ≡ 0
unfolding covers
covers-outside k at size out = grind (arith, nat_tests)

pub covers-place : (k at size : ℕ) → 1 ≤ covers k (at, size) → (at ≤ k) × (k < at + size)
unfolding covers
covers-place k at size some = (grind (arith, nat_tests), grind (arith, nat_tests))

pub cover-cons : (r : ℕ × ℕ) (rs : List (ℕ × ℕ)) (k : ℕ) → cover (r ∷ rs) k ≡ covers k r + cover rs k
cover-cons r rs k = sum_by-cons (covers k) r rs

pub cover-append : (rs ss : List (ℕ × ℕ)) (k : ℕ) → cover (rs ++ ss) k ≡ cover rs k + cover ss k
cover-append rs ss k = sum_by-append (covers k) rs ss

pub cover-branch : (l : Tree) (at size : ℕ) (r : Tree) (k : ℕ)
    → cover (runs_in (Branch l at size r)) k ≡ cover (runs_in l) k + covers k (at, size) + cover (runs_in r) k
unfolding runs_in
cover-branch l at size r k =
    cover-append (runs_in l) ((at, size) ∷ runs_in r) k ∙ omega (arith, cover-cons (at, size) (runs_in r) k)

pub covers-le : (k : ℕ) (run : ℕ × ℕ) → covers k run ≤ 1
unfolding covers
covers-le k run = grind (arith, nat_tests)
