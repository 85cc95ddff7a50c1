-- A head that was read is that of a chunk of a row.
use Rattle.std.proofs.Common.{◌≡◌, ℕ, Bool, true, false, cond, ◌+◌, ◌-◌, ◌<◌, ◌≤◌, max, List, length, get_or, slice_range, refl, sym, ap, ◌∙◌, subst, arith, Ok}
use Rattle.std.proofs.lemmas.List.Edits.{length-between, get_or-between}
use Rattle.object_header.specs.Chunks.{leads, chunk_of, IsChunk}
use Rattle.object_header.specs.Head.{head_of}
use Rattle.object_header.specs.declared.head.Head.{Head}
use Rattle.object_header.proofs.Heads.{IsRead, head-read}

-- the chunk at `at`, in a range that ends at `end`, is as its head tells
pub record TellsChunk (words : List ℕ) (end at : ℕ) (h : Head) : Type 0 where
  pub chunk : IsChunk words at (chunk_of at (get_or words at 0))
  pub start : (chunk_of at (get_or words at 0)).start ≡ at + h.lead
  pub size : (chunk_of at (get_or words at 0)).size ≡ h.words
  pub slots : (chunk_of at (get_or words at 0)).slots ≡ h.slots
  pub header : h.header ≡ get_or words (at + h.lead) 0
  pub fits : at + h.words ≤ end
  pub read : IsRead (slice_range words at end) h.lead h.slots h

lead-start : (b : Bool) (at : ℕ) → cond b (at + 1) at ≡ at + cond b 1 0
lead-start true at = refl
lead-start false at = omega arith

lead-size : (b : Bool) (n : ℕ) → cond b 2 1 + max 1 n ≡ cond b 1 0 + 1 + max 1 n
lead-size true n = omega arith
lead-size false n = omega arith

pub chunk-told : (words : List ℕ) (end at : ℕ) (h : Head) → end ≤ length words → at < end → head_of (slice_range words at end) ≡ Ok h → TellsChunk words end at h
unfolding chunk_of
chunk-told words end at h within l ok =
    let ws = slice_range words at end in
    let w = get_or words at 0 in
    let r = head-read ws h ok in
    let at0 : at + 0 ≡ at = omega arith in
    let e0 : get_or ws 0 0 ≡ w = get_or-between words at end 0 0 (omega arith) ∙ ap (λ n. get_or words n 0) at0 in
    let d : IsRead ws (cond (leads w) 1 0) (chunk_of at w).slots h = rw e0 at r.read in
    let told : IsRead ws h.lead h.slots h = subst (λ n. IsRead ws h.lead n h) (sym d.slots) (subst (λ n. IsRead ws n (chunk_of at w).slots h) (sym d.leads) d) in
    let long : length ws ≡ end - at = length-between words at end within in
    let start : (chunk_of at w).start ≡ at + h.lead = lead-start (leads w) at ∙ sym (ap (λ n. at + n) d.leads) in
    let room : h.lead + 1 + max 1 h.slots ≤ end - at = let q = told.fits in omega (arith, q, long) in
    let head : get_or ws h.lead 0 ≡ get_or words (at + h.lead) 0 = get_or-between words at end h.lead 0 (omega (arith, room)) in
    record {
      chunk = record { is = refl; twice = sym (ap leads (head ∙ ap (λ n. get_or words n 0) (sym start))) ∙ r.twice ∙ ap leads e0 };
      start = start;
      size = lead-size (leads w) (chunk_of at w).slots ∙ sym d.words;
      slots = sym d.slots;
      header = told.header ∙ head;
      fits = let k = told.words in omega (arith, k, room);
      read = told;
    }
