-- A free chunk of the lists is a chunk of the form in which `give` writes it.
use Rattle.std.proofs.Common.{◌≡◌, ℕ, ◌+◌, ◌-◌, ◌<◌, ◌≤◌, List, cond, get_or, refl, sym, arith, true, false, nat_eq, nat_lt, ◌∙◌, ap, inl, inr, max}
use Rattle.std.proofs.lemmas.Bool.{cases_lt, lt-ltb}
use Rattle.std.proofs.lemmas.Bool.Decides.{nat_tests}
use Rattle.object_header.specs.Head.{class_of, count_of, overflow_slots_of}
use Rattle.object_header.specs.Chunks.{leads, chunk_of, IsChunk}
use Rattle.object_header.specs.Fields.{free_header}
use Rattle.free_lists.specs.Runs.{IsFree}
use Rattle.free_lists.specs.Rows.{written}

-- a free chunk stands there as it is written
pub record IsWritten (words : List ℕ) (at size : ℕ) : Type 0 where
  pub chunk : IsChunk words at (written at size)
  pub class : class_of (get_or words (written at size).start 0) ≡ 0
  pub header : get_or words (written at size).start 0 ≡ free_header (cond (nat_lt 255 size) 255 (size - 1))

short_chunk : (at w size : ℕ) → 2 ≤ size → leads w ≡ false → count_of w ≡ size - 1 → record { at = at; start = at; size = size; slots = size - 1 } ≡ chunk_of at w
unfolding chunk_of
short_chunk at w size big short count =
    let long : size ≡ 1 + max 1 (size - 1) = omega (arith, big) in
    rw (short, count, ← long) refl

long_chunk : (at w size : ℕ) → 255 < size → leads w ≡ true → overflow_slots_of w ≡ size - 2 → record { at = at; start = at + 1; size = size; slots = size - 2 } ≡ chunk_of at w
unfolding chunk_of
long_chunk at w size big is slots =
    let long : size ≡ 2 + max 1 (size - 2) = omega (arith, big) in
    rw (is, slots, ← long) refl

module _ (words : List ℕ) (at size : ℕ) (free : IsFree words at size) where
  as_short : size ≤ 255 → IsWritten words at size
  as_short short =
      let f = free.short short in
      let test : nat_lt 255 size ≡ false = grind (arith, nat_tests) in
      let told : leads (get_or words at 0) ≡ false = grind (arith, nat_tests, f.0, free.big) in
      record {
        chunk = rw test (record { is = short_chunk at (get_or words at 0) size free.big told f.0; twice = refl });
        class = rw test f.1;
        header = rw test f.2;
      }

  as_long : 255 < size → IsWritten words at size
  as_long large =
      let f = free.long large in
      let test : nat_lt 255 size ≡ true = lt-ltb 255 size large in
      let is : leads (get_or words at 0) ≡ true = ap (λ n. nat_eq n 255) f.0 in
      let twice : leads (get_or words (at + 1) 0) ≡ true = ap (λ n. nat_eq n 255) f.2 in
      record {
        chunk = rw test (record { is = long_chunk at (get_or words at 0) size large is f.1; twice = twice ∙ sym is });
        class = rw test f.3;
        header = rw test f.4;
      }

  pub free_is_written : IsWritten words at size
  free_is_written = elim (cases_lt 255 size) [
    | inl lt ↦ as_long lt
    | inr ge ↦ as_short (omega (arith, ge))
  ]
