-- What a head that was read tells of the chunk.
use Rattle.std.proofs.Common.{◌≡◌, ◌≢◌, ◌⊎◌, ℕ, Bool, true, false, ◌+◌, ◌-◌, ◌<◌, ◌≤◌, List, length, get_or, take, drop, slice_range, refl, sym, ap, ◌∙◌, subst, inl, inr, arith, nat_lt, nat_eq, not, ◌&&◌, ◌||◌, Ok}
use Rattle.std.proofs.lemmas.Bool.{false≢true, cases_Bool, cases_eq, ne_eqb}
use Rattle.std.proofs.lemmas.Bool.Decides.{nat_tests}
use Rattle.std.proofs.lemmas.List.{length-take, length-drop, get_or-take, get_or-drop}
use Rattle.std.proofs.lemmas.List.Edits.{get_or-between}
use Rattle.object_header.specs.Fields.{fields_of}
use Rattle.object_header.specs.Formats.{unused_of, is_method, pointer_slots_of}
use Rattle.object_header.specs.Head.{class_of, format_of, is_unformed, is_refused_format, literals_of, whole_units, has_literals}
use Rattle.object_header.specs.declared.head.Head.{Head}
use Rattle.object_header.proofs.Chunks.{chunk-told}
use Rattle.object_header.proofs.Heads.{IsFormed}
use Rattle.object_header.specs.Chunks.{chunk_of, slots_at, slots_from}
use Rattle.spur_graph.specs.Cells.{Body, body_from, is_formed, pointer_count, unit_count}
use Rattle.spur_graph.specs.Places.{head_at}
use Rattle.heap_cells.specs.Rows.{ReadsObject, ReadsHead}
use Rattle.heap_cells.proofs.Cutting.{shape}

-- ---- an object

formed-from : (class f n first : ℕ) → nat_eq class 3 ≡ false → is_refused_format f ≡ false → is_method f && not (has_literals n first) ≡ false
    → nat_lt (whole_units f n (pointer_slots_of f n (literals_of first))) (unused_of f) ≡ false
    → not (nat_eq class 3) && not (is_refused_format f) && (not (is_method f) || has_literals n first) && not (nat_lt (whole_units f n (pointer_slots_of f n (literals_of first))) (unused_of f)) ≡ true
formed-from class f n first c3 res lit en = elim (cases_Bool (is_method f)) [
  | inl m ↦ elim (cases_Bool (has_literals n first)) [
    | inl k ↦ rw (c3, res, m, k, en) refl
    | inr k ↦ absurd (false≢true (sym lit ∙ rw (m, k) refl))
  ]
  | inr m ↦ rw (c3, res, m, en) refl
]

pub no_literals : (f n l m : ℕ) → is_method f ≡ false → pointer_slots_of f n l ≡ pointer_slots_of f n m
no_literals f n l m off = grind (arith, nat_tests, off)

no_method : (f first : ℕ) → is_method f ≡ true → is_method f && not (has_literals 0 first) ≡ false → ⊥
no_method f first m k = grind (arith, nat_tests, m, k)

-- where there is no slot, slot 0 plays no part
pub object-read : (b : Body) (n first : ℕ) (h : Head) → length b.words ≡ n → (n ≡ 0) ⊎ (get_or b.words 0 0 ≡ first) → nat_eq b.class 3 ≡ false → is_refused_format b.format ≡ false
    → IsFormed b.format n first h → ReadsObject b h
unfolding is_formed pointer_count unit_count
object-read b n first h len which c3 res f = elim which [
  | inr e ↦ record {
    formed = rw (len, e) (formed-from b.class b.format n first c3 res f.literals f.enough);
    pointers = rw (len, e) (sym f.pointers);
    units = rw (len, e) (sym f.units);
  }
  | inl z ↦ elim (cases_Bool (is_method b.format)) [
    | inl m ↦ absurd (no_method b.format first m (rw z at f.literals))
    | inr m ↦
        let p : pointer_slots_of b.format n (literals_of (get_or b.words 0 0)) ≡ pointer_slots_of b.format n (literals_of first) = no_literals b.format n _ _ m in
        record {
          formed = rw len (rw (c3, res, m, p, f.enough) refl);
          pointers = rw len (p ∙ sym f.pointers);
          units = rw len (ap (λ k. whole_units b.format n k - unused_of b.format) p ∙ sym f.units);
        }
  ]
]

-- ---- the chunk

known : (u r : Bool) → u ≡ false → not u && r ≡ false → r ≡ false
known true r e k = absurd (false≢true (sym e))
known false r e k = k

unformed : (class : ℕ) → class ≢ 0 → class ≢ 8 → is_unformed class ≡ false
unformed class a b = rw (ne_eqb class 0 a, ne_eqb class 8 b) refl

pub first_slot : (words : List ℕ) (s n : ℕ) → n ≢ 0 → get_or (take n (drop (s + 1) words)) 0 0 ≡ get_or words (s + 1) 0
first_slot words s n o =
    let z : s + 1 + 0 ≡ s + 1 = omega arith in
    let l : 0 < n = omega (arith, o) in
    get_or-take n (drop (s + 1) words) 0 0 l ∙ get_or-drop (s + 1) words 0 0 ∙ ap (λ k. get_or words k 0) z

pub from-head : (words : List ℕ) (end at : ℕ) (h : Head) → end ≤ length words → at < end → head_at words end at ≡ Ok h → ReadsHead words end at h
unfolding chunk_of
from-head words end at h within l ok =
    let ws = slice_range words at end in
    let t = chunk-told words end at h within l ok in
    let d = t.read in
    let told : slots_at words (at + h.lead) ≡ h.slots = ap (slots_at words) (sym t.start) ∙ (shape words (chunk_of at (get_or words at 0)) t.chunk).slots ∙ t.slots in
    record {
      chunk = t.chunk;
      size = t.size;
      start = t.start;
      slots = t.slots;
      fits = t.fits;
      header = t.header;
      told = told;
      object = λ free moved.
          let un : is_unformed (class_of (get_or ws h.lead 0)) ≡ false = ap (λ k. is_unformed (class_of k)) (sym d.header) ∙ unformed (class_of h.header) free moved in
          let f = d.formed un in
          let n = slots_at words (at + h.lead) in
          let first = get_or ws (h.lead + 1) 0 in
          let fit : at + h.lead + 1 + h.slots ≤ end = let k = t.fits in let z = d.words in omega (arith, k, z) in
          let slot : get_or words (at + h.lead + 1) 0 ≡ first = sym (get_or-between words at end (h.lead + 1) 0 (let k = t.fits in let z = d.words in omega (arith, k, z)) ∙ ap (λ n. get_or words n 0) (omega arith)) in
          object-read (body_from (fields_of h.header) (slots_from words (at + h.lead))) n first h
          (omega (arith, length-take n (drop (at + h.lead + 1) words), length-drop (at + h.lead + 1) words, fit, told, within))
          (elim (cases_eq n 0) [
            | inl z ↦ inl z
            | inr o ↦ inr (first_slot words (at + h.lead) n o ∙ slot)
          ])
          (ap (λ k. nat_eq (class_of k) 3) d.header ∙ d.no_bridge)
          (ap (λ k. is_refused_format (format_of k)) d.header ∙ known (is_unformed (class_of (get_or ws h.lead 0))) (is_refused_format (format_of (get_or ws h.lead 0))) un d.known)
          (subst (λ k. IsFormed (format_of k) n first h) (sym d.header) (subst (λ k. IsFormed (format_of (get_or ws h.lead 0)) k first h) (sym told) f));
    }
