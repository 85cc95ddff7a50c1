-- The sizes of free chunks, in ascending order, and which of them serves a need.
use Rattle.std.specs.Prelude.{ℕ, ◌+◌, ◌-◌, max, List, [], ◌∷◌, Bool, if◌then◌else◌, ◌||◌, nat_eq, nat_le, nat_lt}

-- a size among others that ascend
unfoldable pub among : ℕ → List ℕ → List ℕ
among n [] = n ∷ []
among n (m ∷ sizes) = if nat_le n m then n ∷ m ∷ sizes else m ∷ among n sizes

-- sizes in ascending order
unfoldable pub ascending : List ℕ → List ℕ
ascending [] = []
ascending (n ∷ sizes) = among n (ascending sizes)

-- the sizes without the first that is this one
unfoldable pub without : ℕ → List ℕ → List ℕ
without n [] = []
without n (m ∷ sizes) = if nat_eq m n then sizes else m ∷ without n sizes

-- the greatest of some sizes, 0 where there is none
unfoldable pub largest : List ℕ → ℕ
largest [] = 0
largest (n ∷ sizes) = max n (largest sizes)

-- a chunk of `size` words serves a need of `n` words: it has as many, or leaves two and more, since one word is no chunk
abbrev pub fits : ℕ → ℕ → Bool
fits n size = nat_eq size n || nat_le (n + 2) size

-- the sizes once the low `n` words of a chunk of `size` words are taken: the rest of it stays a free chunk
abbrev pub shortened : ℕ → ℕ → List ℕ → List ℕ
shortened n size sizes = if nat_lt n size then among (size - n) (without size sizes) else without size sizes
