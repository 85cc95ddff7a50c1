-- All words of an object are written: its header, with the same count, and its slots.
use Rattle.std.proofs.Common.{◌≡◌, ◌≢◌, ◌⊎◌, ℕ, suc, zero, true, ◌+◌, ◌<◌, ◌≤◌, List, [], ◌∷◌, length, get_or, set, take, drop, refl, sym, ap, ◌∙◌, subst, inl, inr, arith, Option}
use Rattle.std.proofs.lemmas.Bool.{cases_eq, ne_eqb}
use Rattle.std.proofs.lemmas.List.{length-set, get_or-set_other, get_or-set_same, length-take, length-drop, get_or-take, get_or-drop, ext_get_or}
use Rattle.object_header.specs.Fields.{fields_of}
use Rattle.object_header.specs.Head.{count_of, class_of}
use Rattle.object_header.specs.Chunks.{Chunk, InOrder, slots_of, slots_at}
use Rattle.spur_graph.specs.Cells.{There, read_cell, cell_in, body_from, start_named, is_start}
use Rattle.heap_cells.specs.RowWrites.{KeepsChunk, Rewrites}
use Rattle.heap_cells.proofs.Members.{In, listed}
use Rattle.heap_cells.proofs.Cutting.{stands, shape, start-in}
use Rattle.heap_cells.proofs.Writing.{keeps-same, one-rewritten}
use Rattle.heap_cells.proofs.ObjectWrites.{header-keeps, read-by, to_object}

-- the words with another header at `s` and other words behind it
pub record IsRewritten (words : List ℕ) (s w : ℕ) (xs new : List ℕ) : Type 0 where
  pub long : length new ≡ length words
  pub header : get_or new s 0 ≡ w
  pub slots : (i : ℕ) → i < length xs → get_or new (s + 1 + i) 0 ≡ get_or xs i 0
  pub others : (j : ℕ) → (j < s) ⊎ (s + 1 + length xs ≤ j) → get_or new j 0 ≡ get_or words j 0

-- ---- runs of words

-- words with a run of others from `at` on
pub put_run : List ℕ → ℕ → List ℕ → List ℕ
put_run words at [] = words
put_run words at (x ∷ xs) = put_run (set words at x) (at + 1) xs

pub put_run-long : (words : List ℕ) (at : ℕ) (xs : List ℕ) → length (put_run words at xs) ≡ length words
unfolding put_run
put_run-long words at [] = refl
put_run-long words at (x ∷ xs) = put_run-long (set words at x) (at + 1) xs ∙ length-set words at x

pub put_run-out : (words : List ℕ) (at : ℕ) (xs : List ℕ) (j : ℕ) → (j < at) ⊎ (at + length xs ≤ j) → get_or (put_run words at xs) j 0 ≡ get_or words j 0
unfolding put_run
put_run-out words at [] j o = refl
put_run-out words at (x ∷ xs) j o =
    put_run-out (set words at x) (at + 1) xs j (elim o [ inl a ↦ inl (omega (arith, a)) | inr a ↦ inr (omega (arith, a)) ])
    ∙ get_or-set_other words at j x 0 (λ e. elim o [ inl a ↦ omega (arith, a, e) | inr a ↦ omega (arith, a, e) ])

pub put_run-in : (words : List ℕ) (at : ℕ) (xs : List ℕ) (i : ℕ) → i < length xs → at + length xs ≤ length words → get_or (put_run words at xs) (at + i) 0 ≡ get_or xs i 0
unfolding put_run
put_run-in words at [] i l f = absurd (omega (arith, l))
put_run-in words at (x ∷ xs) zero l f =
    let e : at + 0 ≡ at = omega arith in
    ap (λ j. get_or (put_run (set words at x) (at + 1) xs) j 0) e ∙ put_run-out (set words at x) (at + 1) xs at (inl (omega arith)) ∙ get_or-set_same words at x 0 (omega (arith, f))
put_run-in words at (x ∷ xs) (suc i) l f =
    let e : at + suc i ≡ at + 1 + i = omega arith in
    ap (λ j. get_or (put_run (set words at x) (at + 1) xs) j 0) e ∙ put_run-in (set words at x) (at + 1) xs i (omega (arith, l)) (omega (arith, f, length-set words at x))

-- a run that is put is what rewrites an object
pub run-rewritten : (words : List ℕ) (s w : ℕ) (xs : List ℕ) → s + 1 + length xs ≤ length words → IsRewritten words s w xs (put_run words s (w ∷ xs))
run-rewritten words s w xs fits = record {
  long = put_run-long words s (w ∷ xs);
  header = let e : s + 0 ≡ s = omega arith in sym (ap (λ j. get_or (put_run words s (w ∷ xs)) j 0) e) ∙ put_run-in words s (w ∷ xs) 0 (omega arith) (omega (arith, fits));
  slots = λ i l. let e : s + 1 + i ≡ s + suc i = omega arith in ap (λ j. get_or (put_run words s (w ∷ xs)) j 0) e ∙ put_run-in words s (w ∷ xs) (suc i) (omega (arith, l)) (omega (arith, fits));
  others = λ j o. put_run-out words s (w ∷ xs) j (elim o [ inl a ↦ inl a | inr a ↦ inr (omega (arith, a)) ]);
}

-- ---- the object

-- the slots are read back
slots-read : (words : List ℕ) (s w : ℕ) (xs new : List ℕ) → IsRewritten words s w xs new → s + 1 + length xs ≤ length words → take (length xs) (drop (s + 1) new) ≡ xs
slots-read words s w xs new k fits =
    let n : ℕ = length xs in
    let long : length new ≡ length words = k.long in
    let size : length (take n (drop (s + 1) new)) ≡ n = simp (length-take, length-drop) (omega (arith, fits, long)) in
    ext_get_or 0 _ _ size (λ i b.
    let low : i < n = let l : i < length (take n (drop (s + 1) new)) = b in omega (arith, l, size) in
    rw (get_or-take, get_or-drop) (k.slots i low))

module _ (to : ℕ → Option ℕ) (words : List ℕ) (end : ℕ) (cs : List Chunk) (c : Chunk) (t : InOrder words 0 end cs) (m : In cs c) where
  object-at : (new : List ℕ) → end ≤ length words → length new ≡ length words → ((j : ℕ) → (j < c.start) ⊎ (c.start + 1 + slots_at words c.start ≤ j) → get_or new j 0 ≡ get_or words j 0)
      → count_of (get_or new c.start 0) ≡ count_of (get_or words c.start 0) → class_of (get_or new c.start 0) ≢ 0 → class_of (get_or new c.start 0) ≢ 8
      → Rewrites to words new end cs c.start (There (body_from (fields_of (get_or new c.start 0)) (take (slots_at words c.start) (drop (c.start + 1) new))))
  object-at new within long same count used kept =
      let s = stands words 0 end cs c t m in
      let h = shape words c s.chunk in
      let e = h.slots in
      let w : ℕ = get_or new c.start 0 in
      let low : c.start < length words = let r = s.lies.room in let b = s.lies.before in omega (arith, r, b, within) in
      let first = header-keeps to words end cs c t m w low count in
      let at_first : get_or new c.at 0 ≡ get_or (set words c.start w) c.at 0 = elim (cases_eq c.at c.start) [
        | inl q ↦ ap (λ j. get_or new j 0) q ∙ sym (ap (λ j. get_or (set words c.start w) j 0) q ∙ get_or-set_same words c.start w 0 low)
        | inr n ↦ same c.at (inl (let l = s.lies.lead in omega (arith, l, n))) ∙ sym (get_or-set_other words c.start c.at w 0 n)
      ] in
      let second : KeepsChunk (set words c.start w) new c = keeps-same (set words c.start w) new c at_first (sym (get_or-set_same words c.start w 0 low)) in
      let keeps : KeepsChunk words new c = record { leads_first = second.leads_first ∙ first.leads_first; slots = second.slots ∙ first.slots; leads_start = second.leads_start ∙ first.leads_start } in
      let read : read_cell to new c ≡ There (body_from (fields_of w) (take (slots_at words c.start) (drop (c.start + 1) new))) =
      read-by to new c w (slots_of new c) refl refl
      ∙ to_object (fields_of w) (start_named to new (get_or new (c.start + 1) 0)) (slots_of new c) (ne_eqb (class_of w) 0 used) (ne_eqb (class_of w) 8 kept)
      ∙ ap (λ n. There (body_from (fields_of w) (take n (drop (c.start + 1) new)))) (sym e) in
      let outside : (j : ℕ) → (j < c.at) ⊎ (c.at + c.size ≤ j) → get_or new j 0 ≡ get_or words j 0 = λ j o.
      let l1 = s.lies.lead in let l2 = s.lies.slots in
      elim o [ inl a ↦ same j (inl (omega (arith, a, l1))) | inr a ↦ same j (inr (omega (arith, a, l2, e))) ] in
      subst (Rewrites to words new end cs c.start) read (one-rewritten to words new end cs c t (listed cs c m) long outside keeps)

-- an object with another header of the same count and as many other slots stands where it stood
pub object-rewritten : (to : ℕ → Option ℕ) (words new : List ℕ) (end : ℕ) (cs : List Chunk) (s w : ℕ) (xs : List ℕ) → InOrder words 0 end cs → end ≤ length words → is_start (cell_in to words cs s) ≡ true
    → s + 1 + length xs ≤ length words → slots_at words s ≡ length xs → count_of w ≡ count_of (get_or words s 0) → class_of w ≢ 0 → class_of w ≢ 8 → IsRewritten words s w xs new
    → Rewrites to words new end cs s (There (body_from (fields_of w) xs))
object-rewritten to words new end cs s w xs t l is fits n count used kept k =
    let r = start-in to words cs s is in
    let out : (j : ℕ) → (j < s) ⊎ (s + 1 + slots_at words s ≤ j) → get_or new j 0 ≡ get_or words j 0 = λ j o. k.others j (elim o [ inl a ↦ inl a | inr a ↦ inr (omega (arith, a, n)) ]) in
    let raw : Rewrites to words new end cs s (There (body_from (fields_of (get_or new s 0)) (take (slots_at words s) (drop (s + 1) new)))) =
    subst (λ u. ((j : ℕ) → (j < u) ⊎ (u + 1 + slots_at words u ≤ j) → get_or new j 0 ≡ get_or words j 0) → count_of (get_or new u 0) ≡ count_of (get_or words u 0) → class_of (get_or new u 0) ≢ 0 → class_of (get_or new u 0) ≢ 8
    → Rewrites to words new end cs u (There (body_from (fields_of (get_or new u 0)) (take (slots_at words u) (drop (u + 1) new))))) r.2
    (object-at to words end cs r.0 t r.1 new l k.long) out (ap count_of k.header ∙ count) (λ q. used (sym (ap class_of k.header) ∙ q)) (λ q. kept (sym (ap class_of k.header) ∙ q)) in
    subst (λ x. Rewrites to words new end cs s (There x)) ((λ i. body_from (fields_of (k.header i)) (take (n i) (drop (s + 1) new))) ∙ ap (body_from (fields_of w)) (slots-read words s w xs new k fits)) raw
