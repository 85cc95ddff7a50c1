-- What the head of a chunk tells, read off the chain of its faults.
use Rattle.std.proofs.Common.{◌≡◌, ℕ, Bool, true, false, cond, ◌+◌, ◌-◌, ◌≤◌, max, List, length, get_or, refl, sym, ap, ◌∙◌, inl, inr, arith, nat_lt, nat_eq, not, ◌&&◌, Result, Ok, Err}
use Rattle.std.proofs.lemmas.Bool.{false≢true, cases_Bool, not-false}
use Rattle.std.proofs.lemmas.Bool.Decides.{nat_tests}
use Rattle.object_header.specs.Field.{field_of}
use Rattle.object_header.specs.Formats.{unused_of, is_method, pointer_slots_of}
use Rattle.object_header.specs.Head.{head_of, body_of, formed, count_of, class_of, format_of, is_unformed, is_refused_format, literals_of, whole_units, has_literals}
use Rattle.object_header.specs.declared.head.Head.{Head}
use Rattle.object_header.specs.declared.head.HeadError.{HeadError}

pub ok-else : (b : Bool) (e : HeadError) (r : Result Head HeadError) (h : Head) → cond b (Err e) r ≡ Ok h → (b ≡ false) × (r ≡ Ok h)
ok-else true e r h k = absurd cc
ok-else false e r h k = (refl, k)

same : (g h : Head) → ◌≡◌ {A = Result Head HeadError} (Ok g) (Ok h) → g ≡ h
same g h e = cc

-- what a head tells of the slots of an object
pub record IsFormed (format slots first : ℕ) (h : Head) : Type 0 where
  pub literals : is_method format && not (has_literals slots first) ≡ false
  pub enough : nat_lt (whole_units format slots (pointer_slots_of format slots (literals_of first))) (unused_of format) ≡ false
  pub pointers : h.pointers ≡ pointer_slots_of format slots (literals_of first)
  pub units : h.units ≡ whole_units format slots (pointer_slots_of format slots (literals_of first)) - unused_of format

pub record IsRead (ws : List ℕ) (lead count : ℕ) (h : Head) : Type 0 where
  pub leads : h.lead ≡ lead
  pub slots : h.slots ≡ count
  pub words : h.words ≡ lead + 1 + max 1 count
  pub fits : lead + 1 + max 1 count ≤ length ws
  pub header : h.header ≡ get_or ws lead 0
  pub no_bridge : nat_eq (class_of (get_or ws lead 0)) 3 ≡ false
  pub known : not (is_unformed (class_of (get_or ws lead 0))) && is_refused_format (format_of (get_or ws lead 0)) ≡ false
  pub formed : is_unformed (class_of (get_or ws lead 0)) ≡ false → IsFormed (format_of (get_or ws lead 0)) count (get_or ws (lead + 1) 0) h

from_formed : (lead header slots words first : ℕ) (h : Head) → formed lead header slots words first ≡ Ok h → IsFormed (format_of header) slots first h × (h.lead ≡ lead) × (h.slots ≡ slots) × (h.words ≡ words) × (h.header ≡ header)
unfolding formed
from_formed lead header slots words first h e =
    let f = format_of header in
    let p = pointer_slots_of f slots (literals_of first) in
    let whole = whole_units f slots p in
    let made : Head = record { header = header; lead = lead; slots = slots; words = words; pointers = p; units = whole - unused_of f } in
    let a = ok-else (is_method f && not (has_literals slots first)) _ _ h e in
    let b = ok-else (nat_lt whole (unused_of f)) _ _ h a.1 in
    let k : made ≡ h = same made h b.1 in (
      record { literals = a.0; enough = b.0; pointers = ap (λ (x : Head). x.pointers) (sym k); units = ap (λ (x : Head). x.units) (sym k) },
      ap (λ (x : Head). x.lead) (sym k),
      ap (λ (x : Head). x.slots) (sym k),
      ap (λ (x : Head). x.words) (sym k),
      ap (λ (x : Head). x.header) (sym k),
    )

from_body : (ws : List ℕ) (lead slots : ℕ) (h : Head) → body_of ws lead slots ≡ Ok h → IsRead ws lead slots h
unfolding body_of
from_body ws lead slots h e =
    let header = get_or ws lead 0 in
    let need = lead + 1 + max 1 slots in
    let a = ok-else (nat_eq (class_of header) 3) _ _ h e in
    let b = ok-else (not (is_unformed (class_of header)) && is_refused_format (format_of header)) _ _ h a.1 in
    let c = ok-else (nat_lt (length ws) need) _ _ h b.1 in
    let fits : need ≤ length ws = grind (arith, nat_tests, c.0) in
    elim (cases_Bool (is_unformed (class_of header))) [
      | inl un ↦
          let made : Head = record { header = header; lead = lead; slots = slots; words = need; pointers = 0; units = 0 } in
          let d : ◌≡◌ {A = Result Head HeadError} (Ok made) (Ok h) = rw un at c.1 in
          let k : made ≡ h = same made h d in
          record {
            leads = ap (λ (x : Head). x.lead) (sym k);
            slots = ap (λ (x : Head). x.slots) (sym k);
            words = ap (λ (x : Head). x.words) (sym k);
            fits = fits;
            header = ap (λ (x : Head). x.header) (sym k);
            no_bridge = a.0;
            known = b.0;
            formed = λ off. absurd (false≢true (sym off ∙ un));
          }
      | inr un ↦
          let d : formed lead header slots need (get_or ws (lead + 1) 0) ≡ Ok h = rw un at c.1 in
          let k = from_formed lead header slots need (get_or ws (lead + 1) 0) h d in
          record { leads = k.1; slots = k.2; words = k.3; fits = fits; header = k.4; no_bridge = a.0; known = b.0; formed = λ off. k.0 }
    ]

-- what a head that was read tells
pub record IsHead (ws : List ℕ) (h : Head) : Type 0 where
  pub twice : nat_eq (count_of (get_or ws h.lead 0)) 255 ≡ nat_eq (count_of (get_or ws 0 0)) 255
  pub read : IsRead ws (cond (nat_eq (count_of (get_or ws 0 0)) 255) 1 0) (cond (nat_eq (count_of (get_or ws 0 0)) 255) (field_of 0 56 (get_or ws 0 0)) (count_of (get_or ws 0 0))) h

pub head-read : (ws : List ℕ) (h : Head) → head_of ws ≡ Ok h → IsHead ws h
unfolding head_of
head-read ws h e =
    let a = ok-else (nat_lt (length ws) 1) _ _ h e in
    elim (cases_Bool (nat_eq (count_of (get_or ws 0 0)) 255)) [
      | inl big ↦
          let b = ok-else (nat_lt (length ws) 2) _ _ h (rw big at a.1) in
          let c = ok-else (not (nat_eq (count_of (get_or ws 1 0)) 255)) _ _ h b.1 in
          let r = from_body ws 1 (field_of 0 56 (get_or ws 0 0)) h c.1 in
          record { twice = ap (λ n. nat_eq (count_of (get_or ws n 0)) 255) r.leads ∙ (not-false (nat_eq (count_of (get_or ws 1 0)) 255) c.0 ∙ sym big); read = rw big r }
      | inr small ↦
          let b : body_of ws 0 (count_of (get_or ws 0 0)) ≡ Ok h = rw small at a.1 in
          let r = from_body ws 0 (count_of (get_or ws 0 0)) h b in
          record { twice = ap (λ n. nat_eq (count_of (get_or ws n 0)) 255) r.leads; read = rw small r }
    ]

-- a method's literals stand among its slots, so no format has more pointer slots than slots
pub pointers_fit : (format slots first : ℕ) → is_method format && not (has_literals slots first) ≡ false → pointer_slots_of format slots (literals_of first) ≤ slots
pointers_fit format slots first ok = grind (arith, nat_tests, ok)
