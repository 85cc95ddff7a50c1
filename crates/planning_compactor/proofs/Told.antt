-- How many pointers an object has is told alike where it has moved.
use Rattle.std.proofs.Common.{◌≡◌, ◌≢◌, ℕ, true, ◌+◌, ◌-◌, ◌%◌, ◌<◌, ◌≤◌, List, get_or, refl, sym, ap, ◌∙◌, inl, inr, arith}
use Rattle.std.proofs.lemmas.Bool.{cases_lt, lt-ltb, ne_eqb}
use Rattle.object_header.specs.Head.{format_of, literals_of}
use Rattle.object_header.specs.Formats.{is_method}
use Rattle.object_header.specs.Chunks.{leads, slots_at}
use Rattle.heap_cells.proofs.Bodies.{pointers-same}
use Rattle.heap_laws.specs.Instances.{readdressed_by}
use Rattle.heap_laws.specs.Compaction.{pointers_at, IsMovedBy}

-- a method's pointers are told by its first field, those of another object are not
pub pointers-told : (w w' : List ℕ) (t s : ℕ) → get_or w' s 0 ≡ get_or w t 0 → slots_at w' s ≡ slots_at w t → (is_method (format_of (get_or w t 0)) ≡ true → get_or w' (s + 1) 0 ≡ get_or w (t + 1) 0) → pointers_at w' s ≡ pointers_at w t
unfolding pointers_at
pointers-told w w' t s e k m =
    rw (e, k) (pointers-same (format_of (get_or w t 0)) (slots_at w t) (literals_of (get_or w' (s + 1) 0)) (literals_of (get_or w (t + 1) 0)) (λ l. ap literals_of (m (lt-ltb 23 (format_of (get_or w t 0)) (omega (arith, l))))))

-- a first field that is no reference stays
pub field-kept : (p : ℕ → ℕ) (w w' : List ℕ) (t s : ℕ) → (0 < slots_at w t) × (get_or w (t + 1) 0 % 8 ≢ 0)
    → ((i : ℕ) → i < pointers_at w t → get_or w' (s + 1 + i) 0 ≡ readdressed_by p (get_or w (t + 1 + i) 0))
    → ((i : ℕ) → pointers_at w t ≤ i → i < slots_at w t → get_or w' (s + 1 + i) 0 ≡ get_or w (t + 1 + i) 0)
    → get_or w' (s + 1) 0 ≡ get_or w (t + 1) 0
field-kept p w w' t s f pointers others =
    let a : s + 1 + 0 ≡ s + 1 = omega arith in
    let b : t + 1 + 0 ≡ t + 1 = omega arith in
    let same : readdressed_by p (get_or w (t + 1) 0) ≡ get_or w (t + 1) 0 = rw (ne_eqb (get_or w (t + 1) 0 % 8) 0 f.1) refl in
    elim (cases_lt 0 (pointers_at w t)) [
      | inl pos ↦ ap (λ x. get_or w' x 0) (sym a) ∙ pointers 0 pos ∙ ap (λ x. readdressed_by p (get_or w x 0)) b ∙ same
      | inr z ↦ ap (λ x. get_or w' x 0) (sym a) ∙ others 0 z f.0 ∙ ap (λ x. get_or w x 0) b
    ]

-- an object with its slots under the new places has moved
pub object-moved : (p : ℕ → ℕ) (w w' : List ℕ) (t s : ℕ) → (is_method (format_of (get_or w t 0)) ≡ true → (0 < slots_at w t) × (get_or w (t + 1) 0 % 8 ≢ 0)) → get_or w' s 0 ≡ get_or w t 0
    → (leads (get_or w t 0) ≡ true → get_or w' (s - 1) 0 ≡ get_or w (t - 1) 0) → slots_at w' s ≡ slots_at w t
    → ((i : ℕ) → i < pointers_at w t → get_or w' (s + 1 + i) 0 ≡ readdressed_by p (get_or w (t + 1 + i) 0))
    → ((i : ℕ) → pointers_at w t ≤ i → i < slots_at w t → get_or w' (s + 1 + i) 0 ≡ get_or w (t + 1 + i) 0)
    → IsMovedBy p w w' t s
object-moved p w w' t s method header lead slots pointers others = record {
  header = header;
  lead = lead;
  slots = slots;
  count = pointers-told w w' t s header slots (λ on. field-kept p w w' t s (method on) pointers others);
  pointers = pointers;
  others = others;
}
