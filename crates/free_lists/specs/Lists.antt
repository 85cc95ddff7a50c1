-- The free chunks as a list of runs, in any order, and what the calls answer and leave of them. The lists by size and the tree stand
-- in `Lists` alone, which a reader of the calls need not open.
use Rattle.std.specs.Prelude.{ℕ, ◌≡◌, ◌≢◌, ◌+◌, ◌-◌, ◌<◌, ◌≤◌, ◌⊎◌, List, [], ◌∷◌, ◌++◌, length, slice_index, sum_by, nat_eq, nat_lt, if◌then◌else◌}
use Rattle.std.specs.Int.{bit_at}
use Rattle.std.specs.List.{Contains, filter}
use Rattle.std.specs.List.Sorted.{IsPermutation}
use Rattle.free_lists.specs.Runs.{IsFree, cover}
use Rattle.free_lists.specs.Trees.{Tree, runs_in, HoldsTree, IsOrdered}
use Rattle.free_lists.specs.declared.lists.FreeLists.{FreeLists}

-- the link of a chunk in a list by size, in its first slot
abbrev pub next_of : List ℕ → ℕ → ℕ
next_of words at = slice_index words (at + 1)

-- the chunks of a list, from the one that `link` names
unfoldable pub IsChain : List ℕ → ℕ → List (ℕ × ℕ) → Type 0
IsChain words link [] = link ≡ 0
IsChain words link (r ∷ rs) = (link ≡ r.0 + 1) × IsChain words (next_of words r.0) rs

-- the runs of that many words, in their order
unfoldable pub of_size : ℕ → List (ℕ × ℕ) → List (ℕ × ℕ)
of_size size runs = filter (λ (r : ℕ × ℕ). nat_eq r.1 size) runs

-- the bit of a size is 1 exactly where its list has a chunk
abbrev pub HaveBits : FreeLists → Type 0
HaveBits free = (size : ℕ) → size < 64 → bit_at free.sizes size ≡ (if nat_eq (slice_index free.heads size) 0 then 0 else 1)

-- all words of the runs
abbrev pub total_of : List (ℕ × ℕ) → ℕ
total_of runs = sum_by (λ (r : ℕ × ℕ). r.1) runs

-- the words hold the free chunks, and these are their runs, in any order: each is in the list of its size or in the tree, stands there
-- as a free chunk, and shares no word with another
pub record Lists (words : List ℕ) (free : FreeLists) (runs : List (ℕ × ℕ)) : Type 0 where
  pub smalls : List (ℕ × ℕ)
  pub tree : Tree
  pub all : IsPermutation runs (smalls ++ runs_in tree)
  pub chains : (size : ℕ) → size < 64 → IsChain words (slice_index free.heads size) (of_size size smalls)
  pub bits : HaveBits free
  pub width : length free.heads ≡ 64
  pub small : (x : ℕ × ℕ) → Contains smalls x → x.1 < 64
  pub held : HoldsTree words free.root tree
  pub ordered : IsOrdered tree
  pub chunks : (x : ℕ × ℕ) → Contains runs x → IsFree words x.0 x.1
  pub apart : (k : ℕ) → cover runs k ≤ 1
  pub total : free.total ≡ total_of runs

-- the words hold the free chunks, whichever they are
abbrev pub Held : List ℕ → FreeLists → Type 0
Held words free = (runs : List (ℕ × ℕ)) × Lists words free runs

-- a run that shares no word with these
abbrev pub MeetsNone : List (ℕ × ℕ) → ℕ → ℕ → Type 0
MeetsNone runs at size = (k : ℕ) → at ≤ k → k < at + size → cover runs k ≡ 0

-- a word of none of these
abbrev pub IsOutside : List (ℕ × ℕ) → ℕ → Type 0
IsOutside runs k = cover runs k ≡ 0

-- each has fewer words than `n`
abbrev pub AllBelow : List (ℕ × ℕ) → ℕ → Type 0
AllBelow runs n = (x : ℕ × ℕ) → Contains runs x → x.1 < n

-- of the sizes from `from` on that have a list with a chunk, the least
pub record IsNextSize (free : FreeLists) (from size : ℕ) : Type 0 where
  pub within : size < 64
  pub least : from ≤ size
  pub some : slice_index free.heads size ≢ 0
  pub before : (k : ℕ) → from ≤ k → k < size → slice_index free.heads k ≡ 0

-- of those with at least `n` words it has the fewest
pub record IsSmallest (runs : List (ℕ × ℕ)) (n : ℕ) (f : ℕ × ℕ) : Type 0 where
  pub there : Contains runs f
  pub enough : n ≤ f.1
  pub least : (x : ℕ × ℕ) → Contains runs x → n ≤ x.1 → f.1 ≤ x.1

-- the chunk of its size that the link of the list names, where its size has a list
abbrev pub IsFirstOfSize : FreeLists → ℕ × ℕ → Type 0
IsFirstOfSize free f = f.1 < 64 → slice_index free.heads f.1 ≡ f.0 + 1

-- a chunk of `size` words serves a need of `n` words: with no rest, or with one that is a chunk itself
abbrev pub Fits : ℕ → ℕ → Type 0
Fits size n = (size ≡ n) ⊎ (n + 2 ≤ size)

-- no chunk serves a need of `n` words
abbrev pub NoneFits : List (ℕ × ℕ) → ℕ → Type 0
NoneFits runs n = (x : ℕ × ℕ) → Contains runs x → Fits x.1 n → ⊥

-- of those that serve a need of `n` words it has the fewest
pub record IsFitting (runs : List (ℕ × ℕ)) (n : ℕ) (f : ℕ × ℕ) : Type 0 where
  pub there : Contains runs f
  pub fits : Fits f.1 n
  pub least : (x : ℕ × ℕ) → Contains runs x → Fits x.1 n → f.1 ≤ x.1

-- what is left of a run once its low `n` words are taken
abbrev pub rest_of : ℕ → ℕ → ℕ → List (ℕ × ℕ)
rest_of at size n = if nat_lt n size then (at + n, size - n) ∷ [] else []

-- the low `n` words of a chunk are taken, the rest of it stays, and so do the others
pub record Shortens (words : List ℕ) (free : FreeLists) (runs : List (ℕ × ℕ)) (at size n : ℕ) : Type 0 where
  pub others : List (ℕ × ℕ)
  pub from : IsPermutation runs ((at, size) ∷ others)
  pub lists : Lists words free (rest_of at size n ++ others)

-- the chunk is gone, and the others stay
pub record TakesOut (words : List ℕ) (free : FreeLists) (runs : List (ℕ × ℕ)) (at size : ℕ) : Type 0 where
  pub others : List (ℕ × ℕ)
  pub from : IsPermutation runs ((at, size) ∷ others)
  pub lists : Lists words free others

-- once the chunk is cut, whichever list of the other chunks is taken
abbrev pub ShortensAny : List ℕ → FreeLists → List (ℕ × ℕ) → ℕ → ℕ → ℕ → Type 0
ShortensAny words free runs at size n =
    (others : List (ℕ × ℕ)) → IsPermutation runs ((at, size) ∷ others) → Lists words free (rest_of at size n ++ others)

-- once the chunk is gone, whichever list of the other chunks is taken
abbrev pub TakesOutAny : List ℕ → FreeLists → List (ℕ × ℕ) → ℕ → ℕ → Type 0
TakesOutAny words free runs at size = (others : List (ℕ × ℕ)) → IsPermutation runs ((at, size) ∷ others) → Lists words free others

-- the low `n` words of the smallest chunk that serves are taken, the rest of it stays a free chunk, and so do the others
pub record Takes (words : List ℕ) (free : FreeLists) (runs : List (ℕ × ℕ)) (n at : ℕ) : Type 0 where
  pub size : ℕ
  pub fitting : IsFitting runs n (at, size)
  pub lists : ShortensAny words free runs at size n

-- the smallest chunk of at least `n` words is gone, and the others stay
pub record TakesWhole (words : List ℕ) (free : FreeLists) (runs : List (ℕ × ℕ)) (n : ℕ) (f : ℕ × ℕ) : Type 0 where
  pub smallest : IsSmallest runs n f
  pub lists : TakesOutAny words free runs f.0 f.1

-- the greatest size, 0 where there is no chunk
pub record IsGreatest (runs : List (ℕ × ℕ)) (size : ℕ) : Type 0 where
  pub most : (x : ℕ × ℕ) → Contains runs x → x.1 ≤ size
  pub there : 0 < size → (at : ℕ) × Contains runs (at, size)
