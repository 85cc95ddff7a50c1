-- A head that was read in a range is read where the range goes on.
use Rattle.std.proofs.Common.{◌≡◌, ℕ, ◌+◌, ◌-◌, ◌<◌, ◌≤◌, max, List, length, get_or, slice_range, sym, ◌∙◌, inl, inr, arith, nat_lt, nat_eq, not, ◌&&◌, Ok}
use Rattle.std.proofs.lemmas.Bool.{cases_Bool, le-ltb}
use Rattle.std.proofs.lemmas.Bool.Decides.{nat_tests}
use Rattle.std.proofs.lemmas.List.Edits.{length-between, get_or-between}
use Rattle.object_header.specs.Head.{head_of, body_of, count_of, overflow_slots_of, class_of, format_of, is_unformed, is_refused_format}
use Rattle.object_header.specs.declared.head.Head.{Head}
use Rattle.object_header.proofs.Heads.{ok-else}
use Rattle.spur_graph.specs.Places.{head_at}

-- the second list begins with the first
record Begins (ws vs : List ℕ) : Type 0 where
  long : length ws ≤ length vs
  same : (k : ℕ) → k < length ws → get_or vs k 0 ≡ get_or ws k 0

body-longer : (ws vs : List ℕ) (lead slots : ℕ) (h : Head) → Begins ws vs → body_of ws lead slots ≡ Ok h → body_of vs lead slots ≡ Ok h
unfolding body_of
body-longer ws vs lead slots h b e =
    let header = get_or ws lead 0 in
    let need = lead + 1 + max 1 slots in
    let a = ok-else (nat_eq (class_of header) 3) _ _ h e in
    let c = ok-else (not (is_unformed (class_of header)) && is_refused_format (format_of header)) _ _ h a.1 in
    let d = ok-else (nat_lt (length ws) need) _ _ h c.1 in
    let fits : need ≤ length ws = grind (arith, nat_tests, d.0) in
    let first = b.same lead (omega (arith, fits)) in
    let second = b.same (lead + 1) (omega (arith, fits)) in
    rw (first, second, a.0, c.0, le-ltb (length vs) need (omega (arith, fits, b.long))) d.1

head-longer : (ws vs : List ℕ) (h : Head) → Begins ws vs → head_of ws ≡ Ok h → head_of vs ≡ Ok h
unfolding head_of
head-longer ws vs h b e =
    let a = ok-else (nat_lt (length ws) 1) _ _ h e in
    let one : 1 ≤ length ws = grind (arith, nat_tests, a.0) in
    let e0 = b.same 0 (omega (arith, one)) in
    let l1 = le-ltb (length vs) 1 (omega (arith, one, b.long)) in
    elim (cases_Bool (nat_eq (count_of (get_or ws 0 0)) 255)) [
      | inl big ↦
          let c = ok-else (nat_lt (length ws) 2) _ _ h (rw big at a.1) in
          let two : 2 ≤ length ws = grind (arith, nat_tests, c.0) in
          let d = ok-else (not (nat_eq (count_of (get_or ws 1 0)) 255)) _ _ h c.1 in
          rw (l1, e0, big, le-ltb (length vs) 2 (omega (arith, two, b.long)), b.same 1 (omega (arith, two)), d.0) (body-longer ws vs 1 (overflow_slots_of (get_or ws 0 0)) h b d.1)
      | inr small ↦
          let c : body_of ws 0 (count_of (get_or ws 0 0)) ≡ Ok h = rw small at a.1 in
          rw (l1, e0, small) (body-longer ws vs 0 (count_of (get_or ws 0 0)) h b c)
    ]

pub head_at-longer : (words : List ℕ) (end end' at : ℕ) (h : Head) → end ≤ end' → end' ≤ length words → head_at words end at ≡ Ok h → head_at words end' at ≡ Ok h
head_at-longer words end end' at h l within e =
    let n : length (slice_range words at end) ≡ end - at = length-between words at end (omega arith) in
    let m : length (slice_range words at end') ≡ end' - at = length-between words at end' within in
    head-longer (slice_range words at end) (slice_range words at end') h (record {
      long = omega (arith, n, m);
      same = λ k b. get_or-between words at end' k 0 (omega (arith, n, b)) ∙ sym (get_or-between words at end k 0 (omega (arith, n, b)));
    }) e
