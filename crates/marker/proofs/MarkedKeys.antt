-- Keys of ephemerons that are marked, and keys that are not.
use Rattle.std.proofs.Common.{◌≡◌, ◌⊎◌, ℕ, Bool, true, false, not, ◌==◌, ◌&&◌, ◌<◌, nat_lt, length, refl, sym, ap, ◌∙◌, inl, inr, Some}
use Rattle.std.proofs.lemmas.Bool.{false≢true, true≢false, and_parts, ltb-true, not-true}
use Rattle.std.proofs.lemmas.List.{get_or_default}
use Rattle.std.proofs.lemmas.Option.{same_Some, slice_get-get_or}
use Rattle.std.specs.Prelude.{slice_get}
use Rattle.std.specs.List.{Contains}
use Rattle.spur_graph.specs.declared.answer.Value.{Value}
use Rattle.spur_graph.specs.declared.answer.Value.TheVariants.{Int, Char, Float, Ref}
use Rattle.spur_graph.specs.Value.{is_immediate}
use Rattle.spur_graph.specs.Node.{Node}
use Rattle.spur_graph.specs.Live.{HasKey, is_keyed}
use Rattle.spur_graph.specs.Rounds.{names_dead}
use Rattle.spur_graph.specs.Heaps.{View, heap_value}
use Rattle.spur_heap.specs.MarkBits.{marks}
use Rattle.spur_heap.specs.Views.{node_in}
use Rattle.weak_ephemeron.specs.Steps.{slot_value}
use Rattle.marker.specs.Waiting.{waits}
use Rattle.marker.proofs.Visiting.{same_ref}

-- a value of a dead name, and any other
pub dead_name : (live : ℕ → Bool) (v : Value) → names_dead live v ≡ true → (key : ℕ) × (v ≡ Ref key) × (live key ≡ false)
dead_name live (Int n) on = absurd (true≢false (sym on))
dead_name live (Char c) on = absurd (true≢false (sym on))
dead_name live (Float w) on = absurd (true≢false (sym on))
dead_name live (Ref a) on = (a, refl, not-true (live a) on)

live_name : (live : ℕ → Bool) (v : Value) → names_dead live v ≡ false → (is_immediate v ≡ true) ⊎ ((a : ℕ) × (v ≡ Ref a) × (live a ≡ true))
live_name live (Int n) off = inl refl
live_name live (Char c) off = inl refl
live_name live (Float w) off = inl refl
live_name live (Ref a) off = inr (a, refl, not-false (live a) off)
  where
    not-false : (b : Bool) → not b ≡ false → b ≡ true
    not-false true e = refl
    not-false false e = absurd (true≢false e)

module _ (v : View) (s : ℕ) where
  abbrev n : Node
  n = node_in v s

  pub has_first : is_keyed n ≡ true → 0 < length n.pointers
  has_first on = ltb-true 0 (length n.pointers) (and_parts (n.format == 5) (nat_lt 0 (length n.pointers)) on).1

  pub key_slot : is_keyed n ≡ true → slice_get n.pointers 0 ≡ Some (slot_value v s 0)
  key_slot on = slice_get-get_or n.pointers 0 (heap_value v 0) (has_first on)

  pub waits_parts : waits v s ≡ true → (is_keyed n ≡ true) × (names_dead (marks v) (slot_value v s 0) ≡ true)
  waits_parts on = and_parts (is_keyed n) (names_dead (marks v) (slot_value v s 0)) on

  -- one that does not wait has a key that is an immediate or marked
  pub ready_key : waits v s ≡ false → is_keyed n ≡ true → HasKey n (λ c. marks v c ≡ true)
  ready_key off on = (slot_value v s 0, key_slot on, live_name (marks v) (slot_value v s 0) (sym (ap (λ b. b && names_dead (marks v) (slot_value v s 0)) on) ∙ off))

  -- and one that waits has none
  pub waits_key : waits v s ≡ true → HasKey n (λ c. marks v c ≡ true) → ⊥
  waits_key on k =
      let parts = waits_parts on in
      let key = dead_name (marks v) (slot_value v s 0) parts.1 in
      let same : k.0 ≡ Ref key.0 = same_Some k.0 (slot_value v s 0) (sym k.1 ∙ key_slot parts.0) ∙ key.1 in
      elim k.2 [
        | inl loose ↦ false≢true (sym (ap is_immediate same) ∙ loose)
        | inr w ↦ false≢true (sym key.2 ∙ ap (marks v) (same_ref (sym same ∙ w.1)) ∙ w.2)
      ]

  -- its key is one of its values
  pub key_among : (on : waits v s ≡ true) → (key : ℕ) × Contains n.pointers (Ref key) × (marks v key ≡ false)
  key_among on =
      let parts = waits_parts on in
      let key = dead_name (marks v) (slot_value v s 0) parts.1 in
      (key.0, (0, has_first parts.0, get_or_default n.pointers 0 (Ref key.0) (heap_value v 0) (has_first parts.0) ∙ key.1), key.2)
