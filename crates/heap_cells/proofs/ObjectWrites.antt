-- What a write of slots, of a header or of a forwarder's word leaves of the cell.
use Rattle.std.proofs.Common.{◌≡◌, ◌⊎◌, ℕ, suc, zero, Bool, true, false, cond, ◌+◌, ◌-◌, ◌<◌, ◌≤◌, List, [], ◌∷◌, length, get_or, set, take, drop, refl, sym, ap, ◌∙◌, subst, inl, inr, arith, Option, nat_eq}
use Rattle.std.proofs.lemmas.Bool.{false≢true, cases_Bool, cases_eq}
use Rattle.std.proofs.lemmas.List.{length-set, get_or-set_other, get_or-set_same, drop-set-add, drop-set-lt}
use Rattle.object_header.specs.Fields.{Fields, fields_of}
use Rattle.object_header.specs.Head.{count_of, class_of}
use Rattle.object_header.specs.Chunks.{Chunk, leads, slots_told, InOrder, slots_of, slots_at}
use Rattle.spur_graph.specs.Cells.{Body, Empty, Moved, There, read_cell, cell_in, cell_from, body_from, start_named, is_start, is_moved}
use Rattle.heap_cells.specs.RowWrites.{KeepsChunk, Rewrites}
use Rattle.heap_cells.proofs.CellKinds.{moved_starts}
use Rattle.heap_cells.proofs.Members.{In, listed}
use Rattle.heap_cells.proofs.Cutting.{stands, shape, Shape, cell-at, start-in}
use Rattle.heap_cells.proofs.Writing.{keeps-same, one-rewritten}

-- ---- lists

pub take-set_in : (xs : List ℕ) (n i w : ℕ) → i < n → take n (set xs i w) ≡ set (take n xs) i w
take-set_in xs zero i w l = absurd (omega arith)
take-set_in [] (suc n) i w l = refl
take-set_in (x ∷ xs) (suc n) zero w l = refl
take-set_in (x ∷ xs) (suc n) (suc i) w l = ap (λ ys. x ∷ ys) (take-set_in xs n i w (omega arith))

-- ---- cells

-- what is known of an object's chunk
record IsObject (f : Fields) (ws : List ℕ) (b : Body) : Type 0 where
  not_free : nat_eq f.class 0 ≡ false
  not_moved : nat_eq f.class 8 ≡ false
  body : body_from f ws ≡ b

from_object : (f : Fields) (next : ℕ) (ws : List ℕ) (b : Body) → cell_from f next ws ≡ There b → IsObject f ws b
from_object f next ws b e = elim (cases_Bool (nat_eq f.class 0)) [
  | inl free ↦ let k : Empty ≡ There b = rw free at e in absurd cc
  | inr not_free ↦ elim (cases_Bool (nat_eq f.class 8)) [
    | inl moved ↦ let k : Moved next ≡ There b = rw (not_free, moved) at e in absurd cc
    | inr not_moved ↦ let k : There (body_from f ws) ≡ There b = rw (not_free, not_moved) at e in record { not_free = not_free; not_moved = not_moved; body = cc }
  ]
]

pub to_object : (f : Fields) (next : ℕ) (ws : List ℕ) → nat_eq f.class 0 ≡ false → nat_eq f.class 8 ≡ false → cell_from f next ws ≡ There (body_from f ws)
to_object f next ws n0 n8 = rw (n0, n8) refl

object_there : (to : ℕ → Option ℕ) (words : List ℕ) (c : Chunk) (b : Body) → read_cell to words c ≡ There b → IsObject (fields_of (get_or words c.start 0)) (slots_of words c) b
unfolding read_cell
object_there to words c b e = from_object (fields_of (get_or words c.start 0)) (start_named to words (get_or words (c.start + 1) 0)) (slots_of words c) b e

-- the cell by its parts
pub read-by : (to : ℕ → Option ℕ) (words : List ℕ) (c : Chunk) (w : ℕ) (ws : List ℕ) → get_or words c.start 0 ≡ w → slots_of words c ≡ ws
    → read_cell to words c ≡ cell_from (fields_of w) (start_named to words (get_or words (c.start + 1) 0)) ws
unfolding read_cell
read-by to words c w ws a b =
    let next = start_named to words (get_or words (c.start + 1) 0) in
    ap (λ k. cell_from (fields_of k) next (slots_of words c)) a ∙ ap (cell_from (fields_of w) next) b

-- ---- writes in one chunk

module _ (to : ℕ → Option ℕ) (words : List ℕ) (end : ℕ) (cs : List Chunk) (c : Chunk) (t : InOrder words 0 end cs) (m : In cs c) where
  slots-at : (new : List ℕ) (b : Body) → cell_in to words cs c.start ≡ There b → length new ≡ length words
      → ((j : ℕ) → (j ≤ c.start) ⊎ (c.start + 1 + slots_at words c.start ≤ j) → get_or new j 0 ≡ get_or words j 0)
      → Rewrites to words new end cs c.start (There (record b { words = take (slots_at words c.start) (drop (c.start + 1) new) }))
  slots-at new b is len same =
      let s = stands words 0 end cs c t m in
      let h = shape words c s.chunk in
      let e = h.slots in
      let o = object_there to words c b (sym (cell-at to words 0 end cs c t m) ∙ is) in
      let ws = slots_of new c in
      let head = same c.start (inl (omega arith)) in
      let read : read_cell to new c ≡ There (record b { words = take (slots_at words c.start) (drop (c.start + 1) new) }) =
      read-by to new c (get_or words c.start 0) ws head refl
      ∙ to_object (fields_of (get_or words c.start 0)) (start_named to new (get_or new (c.start + 1) 0)) ws o.not_free o.not_moved
      ∙ ap (λ (x : Body). There (record x { words = ws })) o.body
      ∙ ap (λ n. There (record b { words = take n (drop (c.start + 1) new) })) (sym e) in
      let l1 = s.lies.lead in
      let l2 = s.lies.slots in
      let inside : (j : ℕ) → (j < c.at) ⊎ (c.at + c.size ≤ j) → get_or new j 0 ≡ get_or words j 0 =
      λ j o. elim o [ inl a ↦ same j (inl (omega arith)) | inr a ↦ same j (inr (omega arith)) ] in
      subst (Rewrites to words new end cs c.start) read
      (one-rewritten to words new end cs c t (listed cs c m) len inside (keeps-same words new c (same c.at (inl l1)) head))

  -- a header of the same count tells the same chunk
  pub header-keeps : (w : ℕ) → c.start < length words → count_of w ≡ count_of (get_or words c.start 0) → KeepsChunk words (set words c.start w) c
  header-keeps w low count =
      let s = stands words 0 end cs c t m in
      let h = shape words c s.chunk in
      let new = set words c.start w in
      let here : get_or new c.start 0 ≡ w = get_or-set_same words c.start w 0 low in
      let big : leads w ≡ leads (get_or words c.start 0) = ap (λ n. nat_eq n 255) count in
      elim (cases_eq c.start c.at) [
        | inl e ↦
            let first : get_or new c.at 0 ≡ w = ap (λ j. get_or new j 0) (sym e) ∙ here in
            let was : get_or words c.at 0 ≡ get_or words c.start 0 = ap (λ j. get_or words j 0) (sym e) in
            let small : leads (get_or words c.start 0) ≡ false = alone (leads (get_or words c.start 0)) (sym e ∙ h.lead) in
            record {
              leads_first = ap leads first ∙ big ∙ ap leads (sym was);
              slots = ap slots_told first ∙ short w (big ∙ small) ∙ count ∙ sym (short (get_or words c.start 0) small) ∙ ap slots_told (sym was);
              leads_start = ap leads here ∙ big;
            }
        | inr n ↦
            let first : get_or new c.at 0 ≡ get_or words c.at 0 = get_or-set_other words c.start c.at w 0 (λ e. n (sym e)) in
            record { leads_first = ap leads first; slots = ap slots_told first; leads_start = ap leads here ∙ big }
      ]
    where
      alone : (b : Bool) → c.at ≡ c.at + cond b 1 0 → b ≡ false
      alone true e = absurd (omega (arith, e))
      alone false e = refl

      short : (v : ℕ) → leads v ≡ false → slots_told v ≡ count_of v
      short v off = rw off refl

  header-at : (w : ℕ) (b : Body) → end ≤ length words → cell_in to words cs c.start ≡ There b → count_of w ≡ count_of (get_or words c.start 0) → class_of w ≡ class_of (get_or words c.start 0)
      → Rewrites to words (set words c.start w) end cs c.start (There (body_from (fields_of w) b.words))
  header-at w b within is count class =
      let s = stands words 0 end cs c t m in
      let low : c.start < length words = omega (arith, s.lies.room, s.lies.before) in
      let o = object_there to words c b (sym (cell-at to words 0 end cs c t m) ∙ is) in
      let new = set words c.start w in
      let kept : slots_of new c ≡ b.words = ap (take c.slots) (drop-set-lt (c.start + 1) words c.start w (omega arith)) ∙ ap (λ (x : Body). x.words) o.body in
      let read : read_cell to new c ≡ There (body_from (fields_of w) b.words) =
      read-by to new c w b.words (get_or-set_same words c.start w 0 low) kept
      ∙ to_object (fields_of w) (start_named to new (get_or new (c.start + 1) 0)) b.words (ap (λ k. nat_eq k 0) class ∙ o.not_free) (ap (λ k. nat_eq k 8) class ∙ o.not_moved) in
      let l1 = s.lies.lead in
      let l2 = s.lies.room in
      let same : (j : ℕ) → (j < c.at) ⊎ (c.at + c.size ≤ j) → get_or new j 0 ≡ get_or words j 0 =
      λ j o. get_or-set_other words c.start j w 0 (λ e. elim o [ inl a ↦ omega (arith, a, e, l1) | inr a ↦ omega (arith, a, e, l2) ]) in
      subst (Rewrites to words new end cs c.start) read
      (one-rewritten to words new end cs c t (listed cs c m) (length-set words c.start w) same (header-keeps w low count))

  target-at : (w : ℕ) → end ≤ length words → is_moved (cell_in to words cs c.start) ≡ true → Rewrites to words (set words (c.start + 1) w) end cs c.start (Moved (start_named to words w))
  target-at w within is =
      let s = stands words 0 end cs c t m in
      let low : c.start + 1 < length words = omega (arith, s.lies.room, s.lies.before) in
      let new = set words (c.start + 1) w in
      let head : get_or new c.start 0 ≡ get_or words c.start 0 = get_or-set_other words (c.start + 1) c.start w 0 (omega arith) in
      let moved : is_moved (read_cell to words c) ≡ true = ap is_moved (sym (cell-at to words 0 end cs c t m)) ∙ is in
      let f = from_moved (fields_of (get_or words c.start 0)) (start_named to words (get_or words (c.start + 1) 0)) (slots_of words c) (ap is_moved (sym (read-by to words c (get_or words c.start 0) (slots_of words c) refl refl)) ∙ moved) in
      let next : start_named to new (get_or new (c.start + 1) 0) ≡ start_named to words w = rw (get_or-set_same words (c.start + 1) w 0 low, length-set words (c.start + 1) w) refl in
      let read : read_cell to new c ≡ Moved (start_named to words w) =
      read-by to new c (get_or words c.start 0) (slots_of new c) head refl
      ∙ to_moved (fields_of (get_or words c.start 0)) (start_named to new (get_or new (c.start + 1) 0)) (slots_of new c) f.0 f.1
      ∙ ap Moved next in
      let l1 = s.lies.lead in
      let l2 = s.lies.room in
      let same : (j : ℕ) → (j < c.at) ⊎ (c.at + c.size ≤ j) → get_or new j 0 ≡ get_or words j 0 =
      λ j o. get_or-set_other words (c.start + 1) j w 0 (λ e. elim o [ inl a ↦ omega (arith, a, e, l1) | inr a ↦ omega (arith, a, e, l2) ]) in
      subst (Rewrites to words new end cs c.start) read
      (one-rewritten to words new end cs c t (listed cs c m) (length-set words (c.start + 1) w) same (keeps-same words new c (get_or-set_other words (c.start + 1) c.at w 0 (omega arith)) head))
    where
      from_moved : (f : Fields) (next : ℕ) (ws : List ℕ) → is_moved (cell_from f next ws) ≡ true → (nat_eq f.class 0 ≡ false) × (nat_eq f.class 8 ≡ true)
      from_moved f next ws e = elim (cases_Bool (nat_eq f.class 0)) [
        | inl free ↦ let k : false ≡ true = rw free at e in absurd (false≢true k)
        | inr not_free ↦ elim (cases_Bool (nat_eq f.class 8)) [
          | inl moved ↦ (not_free, moved)
          | inr not_moved ↦ let k : false ≡ true = rw (not_free, not_moved) at e in absurd (false≢true k)
        ]
      ]

      to_moved : (f : Fields) (next : ℕ) (ws : List ℕ) → nat_eq f.class 0 ≡ false → nat_eq f.class 8 ≡ true → cell_from f next ws ≡ Moved next
      to_moved f next ws n0 y8 = rw (n0, y8) refl

-- ---- the same by starts

pub slots-written : (to : ℕ → Option ℕ) (words new : List ℕ) (end : ℕ) (cs : List Chunk) (s : ℕ) (b : Body) → InOrder words 0 end cs → cell_in to words cs s ≡ There b → length new ≡ length words
    → ((j : ℕ) → (j ≤ s) ⊎ (s + 1 + slots_at words s ≤ j) → get_or new j 0 ≡ get_or words j 0)
    → Rewrites to words new end cs s (There (record b { words = take (slots_at words s) (drop (s + 1) new) }))
slots-written to words new end cs s b t is len same =
    let r = start-in to words cs s (ap is_start is) in
    subst
    (λ k. cell_in to words cs k ≡ There b → ((j : ℕ) → (j ≤ k) ⊎ (k + 1 + slots_at words k ≤ j) → get_or new j 0 ≡ get_or words j 0)
    → Rewrites to words new end cs k (There (record b { words = take (slots_at words k) (drop (k + 1) new) })))
    r.2 (λ i e. slots-at to words end cs r.0 t r.1 new b i len e) is same

pub body-written : (to : ℕ → Option ℕ) (words : List ℕ) (end : ℕ) (cs : List Chunk) (s j w : ℕ) (b : Body) → InOrder words 0 end cs → cell_in to words cs s ≡ There b → s + 1 ≤ j → j < s + 1 + slots_at words s
    → Rewrites to words (set words j w) end cs s (There (record b { words = set b.words (j - s - 1) w }))
body-written to words end cs s j w b t is low high =
    let n = slots_at words s in
    let i = j - s - 1 in
    let place : j ≡ s + 1 + i = omega arith in
    let r = slots-written to words (set words j w) end cs s b t is (length-set words j w)
    (λ k o. get_or-set_other words j k w 0 (λ e. elim o [ inl a ↦ omega (arith, a, e) | inr a ↦ omega (arith, a, e) ])) in
    let was : take n (drop (s + 1) words) ≡ b.words = words-are to words end cs s b t is in
    let e : take n (drop (s + 1) (set words j w)) ≡ set b.words i w =
    ap (λ k. take n (drop (s + 1) (set words k w))) place ∙ ap (take n) (drop-set-add (s + 1) words i w) ∙ take-set_in (drop (s + 1) words) n i w (omega arith) ∙ ap (λ xs. set xs i w) was in
    subst (λ xs. Rewrites to words (set words j w) end cs s (There (record b { words = xs }))) e r
  where
    words-are : (to : ℕ → Option ℕ) (words : List ℕ) (end : ℕ) (cs : List Chunk) (s : ℕ) (b : Body) → InOrder words 0 end cs → cell_in to words cs s ≡ There b → take (slots_at words s) (drop (s + 1) words) ≡ b.words
    words-are to words end cs s b t is =
        let r = start-in to words cs s (ap is_start is) in
        let c = r.0 in
        let h : Shape words c = shape words c (stands words 0 end cs c t r.1).chunk in
        let o = object_there to words c b (sym (cell-at to words 0 end cs c t r.1) ∙ (ap (cell_in to words cs) r.2 ∙ is)) in
        ap (λ k. take (slots_at words k) (drop (k + 1) words)) (sym r.2) ∙ ap (λ n. take n (drop (c.start + 1) words)) h.slots ∙ ap (λ (x : Body). x.words) o.body

pub header-written : (to : ℕ → Option ℕ) (words : List ℕ) (end : ℕ) (cs : List Chunk) (s w : ℕ) (b : Body) → InOrder words 0 end cs → end ≤ length words → cell_in to words cs s ≡ There b
    → count_of w ≡ count_of (get_or words s 0) → class_of w ≡ class_of (get_or words s 0) → Rewrites to words (set words s w) end cs s (There (body_from (fields_of w) b.words))
header-written to words end cs s w b t l is count class =
    let r = start-in to words cs s (ap is_start is) in
    subst
    (λ k. cell_in to words cs k ≡ There b → count_of w ≡ count_of (get_or words k 0) → class_of w ≡ class_of (get_or words k 0)
    → Rewrites to words (set words k w) end cs k (There (body_from (fields_of w) b.words)))
    r.2 (λ i p q. header-at to words end cs r.0 t r.1 w b l i p q) is count class

pub target-written : (to : ℕ → Option ℕ) (words : List ℕ) (end : ℕ) (cs : List Chunk) (s w : ℕ) → InOrder words 0 end cs → end ≤ length words → is_moved (cell_in to words cs s) ≡ true
    → Rewrites to words (set words (s + 1) w) end cs s (Moved (start_named to words w))
target-written to words end cs s w t l is =
    let r = start-in to words cs s (moved_starts (cell_in to words cs s) is) in
    subst (λ k. is_moved (cell_in to words cs k) ≡ true → Rewrites to words (set words (k + 1) w) end cs k (Moved (start_named to words w)))
    r.2 (λ i. target-at to words end cs r.0 t r.1 w l i) is
