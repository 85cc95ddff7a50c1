-- The header that a place has once it has the contents of another object.
use Rattle.std.proofs.Common.{◌≡◌, ℕ, Bool, true, false, ◌&&◌, ◌^◌, ◌<◌, get_or, refl, ap, ◌∙◌, arith, inl, inr, nat_eq, nat_lt}
use Rattle.std.proofs.lemmas.Bool.{lt-ltb, ltb-true, or_right, or_cases, and_parts}
use Rattle.object_header.specs.Field.{SetsField, with_field}
use Rattle.object_header.specs.Fields.{fields_of}
use Rattle.object_header.proofs.Fields.{SetsField-with_field, field_of-lt}
use Rattle.spur_graph.specs.Heaps.{View, HasBits, store_of, is_remembered, names_over}
use Rattle.heap_cells.proofs.UnusedBits.{set_unused}
use Rattle.spur_heap.specs.Flags.{flag_bit}
use Rattle.spur_heap.specs.Swaps.{remembers, header_for}
use Rattle.spur_heap.proofs.ExchangedPlace.{IsHeaderFor}

bit_fits : (b : Bool) → flag_bit b < 2 ^ 1
bit_fits true = omega arith
bit_fits false = omega arith

pub bit_told : (b : Bool) → nat_eq (flag_bit b) 1 ≡ b
bit_told true = refl
bit_told false = refl

module _ (v : View) (s t : ℕ) where
  abbrev own : ℕ
  own = get_or v.words s 0

  abbrev other : ℕ
  other = get_or v.words t 0

  abbrev hash : ℕ
  hash = (fields_of own).hash

  abbrev mid : ℕ
  mid = with_field 32 22 other hash

  abbrev bit : ℕ
  bit = flag_bit (remembers v s t)

  hash_fits : hash < 2 ^ 22
  hash_fits = field_of-lt own 32 22

  hashes : SetsField 32 22 other hash mid
  hashes = SetsField-with_field other 32 22 hash hash_fits

  marks : SetsField 29 1 mid bit (header_for v s t)
  marks = SetsField-with_field mid 29 1 bit (bit_fits (remembers v s t))

  pub is_header : IsHeaderFor own other (header_for v s t)
  is_header = record {
    count = marks.others 56 8 (inr (omega arith)) ∙ hashes.others 56 8 (inr (omega arith));
    class = marks.others 0 22 (inl (omega arith)) ∙ hashes.others 0 22 (inl (omega arith));
    format = marks.others 24 5 (inl (omega arith)) ∙ hashes.others 24 5 (inl (omega arith));
    pinned = marks.others 30 1 (inr (omega arith)) ∙ hashes.others 30 1 (inl (omega arith));
    readonly = marks.others 23 1 (inl (omega arith)) ∙ hashes.others 23 1 (inl (omega arith));
    hash = marks.others 32 22 (inr (omega arith)) ∙ hashes.reads;
  }

  pub bits_kept : HasBits v.phase other → HasBits v.phase (header_for v s t)
  bits_kept was = record {
    marked = λ w. marks.others 55 1 (inr (omega arith)) ∙ hashes.others 55 1 (inr (omega arith)) ∙ was.marked w;
    grey = marks.others 31 1 (inr (omega arith)) ∙ hashes.others 31 1 (inl (omega arith)) ∙ was.grey;
    unused = set_unused 29 1 mid bit (header_for v s t) (inl (omega arith)) (inr (omega arith)) (bit_fits (remembers v s t)) refl
        (set_unused 32 22 other hash mid (inl (omega arith)) (inr (omega arith)) hash_fits refl was.unused);
  }

  pub bit_then : nat_eq (fields_of (header_for v s t)).remembered 1 ≡ remembers v s t
  bit_then = ap (λ n. nat_eq n 1) marks.reads ∙ bit_told (remembers v s t)

  -- a place of old space that names new space then is remembered
  pub remembers_all : s < v.spaces.old_end → names_over v.spaces.old_end ((store_of v).cell t) ≡ true → remembers v s t ≡ true
  remembers_all low over = or_right (is_remembered v.words s) _ (λ x. lt-ltb s v.spaces.old_end low x && over x)

  -- a place of new space is not
  pub remembers_only : (is_remembered v.words s ≡ true → s < v.spaces.old_end) → remembers v s t ≡ true → s < v.spaces.old_end
  remembers_only was on = elim (or_cases (is_remembered v.words s) _ on) [
    | inl before ↦ was before
    | inr now ↦ ltb-true s v.spaces.old_end (and_parts (nat_lt s v.spaces.old_end) (names_over v.spaces.old_end ((store_of v).cell t)) now).0
  ]
