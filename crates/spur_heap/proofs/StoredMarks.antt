-- No mark changes where a slot is written and its object is remembered.
use Rattle.std.proofs.Common.{◌≡◌, ℕ, true, cond, ◌+◌, get_or, nat_eq, refl, sym, ap, ◌∙◌, subst, arith, inl, inr}
use Rattle.std.proofs.lemmas.Bool.{cases_Bool, cases_eq}
use Rattle.std.proofs.lemmas.List.{get_or-set_other}
use Rattle.object_header.specs.Fields.{fields_of}
use Rattle.spur_graph.specs.Cells.{There}
use Rattle.spur_graph.specs.Heaps.{View, IsWhole, chunks_of, heap_to, is_marked}
use Rattle.heap_cells.proofs.Cutting.{start-in}
use Rattle.spur_heap.specs.Words.{is_object, starts_at}
use Rattle.spur_heap.specs.Remembering.{must_remember, with_remembered, remembered_at, remembered_for}
use Rattle.spur_heap.proofs.Headers.{header_read}
use Rattle.spur_heap.proofs.Touched.{headers}
use Rattle.spur_heap.proofs.Written.{Slot, body_then, slot_touch, then}
use Rattle.spur_heap.proofs.RememberedBit.{sets_bit}
use Rattle.spur_heap.proofs.Puts.{whole_sound}

-- the remembered bit is no mark
module _ (v : View) (whole : IsWhole v) (s : ℕ) (object : is_object v s ≡ true) (w t : ℕ) where
  pub remembered_marks : is_marked (remembered_for v s w).words t ≡ is_marked v.words t
  remembered_marks = elim (cases_Bool (must_remember v s w)) [
    | inl on ↦ subst (λ b. is_marked (cond b (remembered_at v s) v).words t ≡ is_marked v.words t) (sym on) set_bit
    | inr off ↦ subst (λ b. is_marked (cond b (remembered_at v s) v).words t ≡ is_marked v.words t) (sym off) refl
  ]
    where
      word : ℕ
      word = get_or v.words s 0

      set_bit : is_marked (remembered_at v s).words t ≡ is_marked v.words t
      set_bit = elim (cases_eq t s) [
        | inl e ↦
            ap (is_marked (remembered_at v s).words) e
            ∙ ap (λ x. nat_eq (fields_of x).marked 1) (header_read v (whole_sound v whole) s object (with_remembered word))
            ∙ ap (λ m. nat_eq m 1) (sets_bit word).marked
            ∙ ap (is_marked v.words) (sym e)
        | inr other ↦ ap (λ x. nat_eq (fields_of x).marked 1) (get_or-set_other v.words s t (with_remembered word) 0 other)
      ]

-- a slot is no header
pub slot_marks : (u : View) (s n w : ℕ) → Slot u s n → (t : ℕ) → starts_at u t ≡ true → is_marked (then u s n w).words t ≡ is_marked u.words t
slot_marks u s n w slot t starts =
    let c = start-in heap_to u.words (chunks_of u) t starts in
    let header : get_or (then u s n w).words t 0 ≡ get_or u.words t 0 = elim (cases_eq t s) [
      | inl e ↦ get_or-set_other u.words (s + 1 + n) t w 0 (λ z. omega (arith, e, z))
      | inr other ↦ subst (λ x. get_or (then u s n w).words x 0 ≡ get_or u.words x 0) c.2 (headers u (then u s n w).words s (There (body_then u s n w)) (slot_touch u s n w slot) c.0 c.1 (λ e. other (sym c.2 ∙ e)))
    ] in
    ap (λ x. nat_eq (fields_of x).marked 1) header
