-- Numbers among bytes.
use Rattle.std.proofs.Common.{◌≡◌, ℕ, ◌+◌, ◌-◌, ◌≤◌, List, take, drop, arith, ap, ◌∙◌}
use Rattle.std.proofs.lemmas.List.{take-take, drop-take, get_or-take}
use Rattle.std.specs.Int.{w32, w64, Width, byte_len, from_le_bytes}
use Rattle.byteorder.specs.Endian.{little_number}
use Rattle.spur_graph.specs.Bytes.{number}

pub little_32 : (xs : List ℕ) → little_number 4 xs ≡ from_le_bytes w32 (take 4 xs)
little_32 xs = omega (arith, get_or-take 4 xs 0 0 (omega arith), get_or-take 4 xs 1 0 (omega arith), get_or-take 4 xs 2 0 (omega arith), get_or-take 4 xs 3 0 (omega arith))

pub little_64 : (xs : List ℕ) → little_number 8 xs ≡ from_le_bytes w64 (take 8 xs)
little_64 xs = omega (arith, get_or-take 8 xs 0 0 (omega arith), get_or-take 8 xs 1 0 (omega arith), get_or-take 8 xs 2 0 (omega arith), get_or-take 8 xs 3 0 (omega arith), get_or-take 8 xs 4 0 (omega arith), get_or-take 8 xs 5 0 (omega arith), get_or-take 8 xs 6 0 (omega arith), get_or-take 8 xs 7 0 (omega arith))

-- a part of the front is that part of the whole
pub front_same : (m n at : ℕ) (file : List ℕ) → at + n ≤ m → take n (drop at (take m file)) ≡ take n (drop at file)
front_same m n at file within =
    let parts : m ≡ at + (m - at) = omega arith in
    ap (λ k. take n (drop at (take k file))) parts ∙ (ap (take n) (drop-take at (m - at) file) ∙ take-take n (m - at) (drop at file) (omega arith))

pub front_number : (w : Width) (at : ℕ) (file : List ℕ) → at + byte_len w ≤ 128 → number w at (take 128 file) ≡ number w at file
front_number w at file within = ap (from_le_bytes w) (front_same 128 (byte_len w) at file within)
