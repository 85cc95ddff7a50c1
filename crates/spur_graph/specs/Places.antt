-- The chunks of a range one by one, as they are read, and which of them are bad.
use Rattle.std.specs.Prelude.{ℕ, suc, zero, ◌≡◌, ◌+◌, ◌<◌, ◌⊎◌, List, slice_range, Result, Ok, Err, nat_lt, nat_eq, ◌&&◌, ◌||◌, not, Bool, true, if◌then◌else◌}
use Rattle.object_header.specs.Head.{head_of, class_of, format_of, is_unformed}
use Rattle.object_header.specs.declared.head.Head.{Head}
use Rattle.object_header.specs.declared.head.HeadError.{HeadError}
use Rattle.spur_graph.specs.Ordinary.{roots_slots}

-- the head of the chunk that begins at `at`, in a range that ends at `end`
abbrev pub head_at : List ℕ → ℕ → ℕ → Result Head HeadError
head_at words end at = head_of (slice_range words at end)

abbrev pub size_of : Result Head HeadError → ℕ
size_of (Ok h) = h.words
size_of (Err e) = 0

-- where the next chunk begins; behind a chunk that is refused, and at the end, the place stays
unfoldable pub after : List ℕ → ℕ → ℕ → ℕ
after words end at = if nat_lt at end then at + size_of (head_at words end at) else at

-- where chunk `k` begins
unfoldable pub place : List ℕ → ℕ → ℕ → ℕ → ℕ
place words from end zero = from
place words from end (suc k) = after words end (place words from end k)

-- a chunk begins here and is refused
pub record IsBadObject (words : List ℕ) (from end at : ℕ) : Type 0 where
  pub k : ℕ
  pub is : at ≡ place words from end k
  pub inside : at < end
  pub error : HeadError
  pub refused : head_at words end at ≡ Err error

-- what can't be chunk `k` of the first five: each is an object, the fourth of a format up to 23, the fifth an array of 4,104 slots
abbrev pub is_bad_root : ℕ → Head → Bool
is_bad_root k h =
    is_unformed (class_of h.header)
    || (nat_eq k 3 && nat_lt 23 (format_of h.header))
    || (nat_eq k 4 && not (nat_eq (format_of h.header) 2 && nat_eq h.slots roots_slots))

-- one of the first five chunks is bad, or there is none and here is the end
pub record IsBadRoot (words : List ℕ) (from end at : ℕ) : Type 0 where
  pub k : ℕ
  pub first : k < 5
  pub is : at ≡ place words from end k
  pub bad : (at ≡ end) ⊎ ((at < end) × ((h : Head) × (head_at words end at ≡ Ok h) × (is_bad_root k h ≡ true)))
