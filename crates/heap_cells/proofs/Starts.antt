-- What a start tells, and where the starts of a row stand.
use Rattle.std.proofs.Common.{◌≡◌, ◌≢◌, ℕ, suc, zero, true, false, ◌+◌, ◌<◌, ◌≤◌, max, List, [], ◌∷◌, length, get_or, take, drop, refl, sym, ap, ◌∙◌, subst, inl, inr, arith, Option, nat_eq, not}
use Rattle.std.proofs.lemmas.Bool.{false≢true, cases_eq, ne_eqb, eq-eqb}
use Rattle.std.proofs.lemmas.List.Elements.{Contains-get_or}
use Rattle.std.specs.List.{Contains}
use Rattle.object_header.specs.Fields.{Fields, fields_of}
use Rattle.object_header.specs.Head.{class_of}
use Rattle.object_header.specs.Chunks.{Chunk, leads, InOrder, slots_of, slots_at, slots_from, starts_in}
use Rattle.spur_graph.specs.Cells.{read_cell, cell_in, cell_from, body_from, body_of, start_named, is_start, is_moved, is_there, target_of}
use Rattle.heap_cells.specs.Rows.{starts_of, ReadsStart, EndsBefore, AreStarts}
use Rattle.heap_cells.proofs.CellKinds.{start_from}
use Rattle.heap_cells.proofs.Members.{In, in_list, listed, chunk_of_start, start_of_chunk}
use Rattle.heap_cells.proofs.Cutting.{head, stands, shape, cell-at, start-in}

-- ---- one start

record FromStart (f : Fields) (next : ℕ) (ws : List ℕ) : Type 0 where
  not_free : f.class ≢ 0
  moved : is_moved (cell_from f next ws) ≡ nat_eq f.class 8
  target : is_moved (cell_from f next ws) ≡ true → target_of (cell_from f next ws) ≡ next
  body : is_there (cell_from f next ws) ≡ true → body_of (cell_from f next ws) ≡ body_from f ws

from_start : (f : Fields) (next : ℕ) (ws : List ℕ) → is_start (cell_from f next ws) ≡ true → FromStart f next ws
from_start f next ws k = elim (cases_eq f.class 0) [
  | inl e ↦ absurd (false≢true (rw (eq-eqb f.class 0 e) at k))
  | inr n ↦ elim (cases_eq f.class 8) [
    | inl e ↦ record {
      not_free = n;
      moved = rw (ne_eqb f.class 0 n, eq-eqb f.class 8 e) refl;
      target = λ m. rw (ne_eqb f.class 0 n, eq-eqb f.class 8 e) refl;
      body = λ m. let b : false ≡ true = rw (ne_eqb f.class 0 n, eq-eqb f.class 8 e) at m in absurd (false≢true b);
    }
    | inr o ↦ record {
      not_free = n;
      moved = rw (ne_eqb f.class 0 n, ne_eqb f.class 8 o) refl;
      target = λ m. let b : false ≡ true = rw (ne_eqb f.class 0 n, ne_eqb f.class 8 o) at m in absurd (false≢true b);
      body = λ m. rw (ne_eqb f.class 0 n, ne_eqb f.class 8 o) refl;
    }
  ]
]

pub read_cell-is : (to : ℕ → Option ℕ) (words : List ℕ) (c : Chunk) → slots_at words c.start ≡ c.slots
    → read_cell to words c ≡ cell_from (fields_of (get_or words c.start 0)) (start_named to words (get_or words (c.start + 1) 0)) (slots_from words c.start)
unfolding read_cell
read_cell-is to words c e = ap (λ n. cell_from (fields_of (get_or words c.start 0)) (start_named to words (get_or words (c.start + 1) 0)) (take n (drop (c.start + 1) words))) (sym e)

of_chunk : (to : ℕ → Option ℕ) (words : List ℕ) (end : ℕ) (cs : List Chunk) (c : Chunk) → InOrder words 0 end cs → In cs c → is_start (cell_in to words cs c.start) ≡ true → ReadsStart to words end cs c.start
of_chunk to words end cs c t m k =
    let s = stands words 0 end cs c t m in
    let h = shape words c s.chunk in
    let cell = cell-at to words 0 end cs c t m ∙ read_cell-is to words c h.slots in
    let f = from_start (fields_of (get_or words c.start 0)) (start_named to words (get_or words (c.start + 1) 0)) (slots_from words c.start) (ap is_start (sym cell) ∙ k) in
    record {
      stands = listed (starts_of cs) c.start (start_of_chunk cs c m);
      below = omega (arith, s.lies.room, s.lies.before);
      fits = omega (arith, s.lies.slots, s.lies.before, h.slots);
      behind = λ is. let l : c.start ≡ c.at + 1 = rw is at h.lead in omega (arith, l);
      not_free = f.not_free;
      cell = cell;
      moved = ap is_moved cell ∙ f.moved;
      target = λ is. ap target_of cell ∙ f.target (ap is_moved (sym cell) ∙ is);
      body = λ is. ap body_of cell ∙ f.body (ap is_there (sym cell) ∙ is);
    }

pub start-read : (to : ℕ → Option ℕ) (words : List ℕ) (end : ℕ) (cs : List Chunk) (s : ℕ) → InOrder words 0 end cs → is_start (cell_in to words cs s) ≡ true → ReadsStart to words end cs s
start-read to words end cs s t k =
    let r = start-in to words cs s k in
    subst (ReadsStart to words end cs) r.2 (of_chunk to words end cs r.0 t r.1 (ap (λ n. is_start (cell_in to words cs n)) r.2 ∙ k))

-- ---- all starts

-- the chunks of two starts lie one behind the other
pub in_order : (words : List ℕ) (at end : ℕ) (cs : List Chunk) (c d : Chunk) → InOrder words at end cs → In cs c → In cs d → c.start < d.start → c.at + c.size ≤ d.at
in_order words at end [] c d t m n l = absurd m
in_order words at end (x ∷ cs) c d t m n l =
    let f = head words at end x cs t in
    elim m [
      | inl e ↦ elim n [
        | inl o ↦ let k : c.start ≡ d.start = ap (λ (y : Chunk). y.start) (sym e ∙ o) in absurd (omega (arith, k, l))
        | inr o ↦
            let s = stands words (x.at + x.size) end cs d t.1.1 o in
            subst (λ (y : Chunk). y.at + y.size ≤ d.at) e s.lies.after
      ]
      | inr e ↦ elim n [
        | inl o ↦
            let s = stands words (x.at + x.size) end cs c t.1.1 e in
            let k : x.start ≡ d.start = ap (λ (y : Chunk). y.start) o in
            absurd (omega (arith, k, l, f.room, s.lies.after, s.lies.lead))
        | inr o ↦ in_order words (x.at + x.size) end cs c d t.1.1 e o l
      ]
    ]

pub rises : (words : List ℕ) (at end : ℕ) (cs : List Chunk) (i j : ℕ) → InOrder words at end cs → i < j → j < length (starts_of cs) → get_or (starts_of cs) i 0 < get_or (starts_of cs) j 0
rises words at end [] i j t l b = absurd (omega arith)
rises words at end (c ∷ cs) i zero t l b = absurd (omega arith)
rises words at end (c ∷ cs) zero (suc j) t l b =
    let f = head words at end c cs t in
    let low : j < length (starts_of cs) = omega arith in
    let r = chunk_of_start cs (get_or (starts_of cs) j 0) (in_list (starts_of cs) (get_or (starts_of cs) j 0) (Contains-get_or (starts_of cs) j 0 low)) in
    let s = stands words (c.at + c.size) end cs r.0 t.1.1 r.1 in
    omega (arith, f.room, s.lies.after, s.lies.lead, r.2)
rises words at end (c ∷ cs) (suc i) (suc j) t l b = rises words (c.at + c.size) end cs i j t.1.1 (omega arith) (omega arith)

below : (words : List ℕ) (end : ℕ) (cs : List Chunk) (s : ℕ) → InOrder words 0 end cs → Contains (starts_of cs) s → s + 1 + max 1 (slots_at words s) ≤ end
below words end cs s t k =
    let r = chunk_of_start cs s (in_list (starts_of cs) s k) in
    let l = stands words 0 end cs r.0 t r.1 in
    let h = shape words r.0 l.chunk in
    let e : slots_at words s ≡ r.0.slots = ap (slots_at words) (sym r.2) ∙ h.slots in
    omega (arith, l.lies.before, h.size, r.2, e)

apart : (words : List ℕ) (end : ℕ) (cs : List Chunk) (s t : ℕ) → InOrder words 0 end cs → Contains (starts_of cs) s → Contains (starts_of cs) t → s < t → EndsBefore words s t
apart words end cs s t cut k m l =
    let c = chunk_of_start cs s (in_list (starts_of cs) s k) in
    let d = chunk_of_start cs t (in_list (starts_of cs) t m) in
    let a = stands words 0 end cs c.0 cut c.1 in
    let b = stands words 0 end cs d.0 cut d.1 in
    let g = shape words c.0 a.chunk in
    let h = shape words d.0 b.chunk in
    let o : c.0.at + c.0.size ≤ d.0.at = in_order words 0 end cs c.0 d.0 cut c.1 d.1 (omega (arith, c.2, d.2)) in
    let e : slots_at words s ≡ c.0.slots = ap (slots_at words) (sym c.2) ∙ g.slots in
    record {
      next = omega (arith, o, c.2, d.2, a.lies.room, b.lies.lead);
      slots = omega (arith, o, c.2, d.2, a.lies.slots, b.lies.lead, e);
      behind = λ is.
          let big : leads (get_or words d.0.start 0) ≡ true = ap (λ n. leads (get_or words n 0)) d.2 ∙ is in
          let two : d.0.start ≡ d.0.at + 1 = rw big at h.lead in
          omega (arith, two, o, c.2, d.2, g.size, e);
    }

pub starts-rise : (words : List ℕ) (end : ℕ) (cs : List Chunk) → InOrder words 0 end cs → AreStarts words end cs
starts-rise words end cs t = record {
  rising = λ i j l b. rises words 0 end cs i j t l b;
  below = λ k d l. omega (arith, below words end cs (get_or (starts_of cs) k d) t (Contains-get_or (starts_of cs) k d l));
  fit = λ s k. below words end cs s t k;
  apart = λ s u k m l. apart words end cs s u t k m l;
}

-- the starts of a row are those of its chunks that are not free
pub start-of-row : (to : ℕ → Option ℕ) (words : List ℕ) (cs : List Chunk) (s : ℕ) → starts_in words cs s ≡ is_start (cell_in to words cs s)
unfolding starts_in cell_in read_cell
start-of-row to words [] s = refl
start-of-row to words (c ∷ cs) s = elim (cases_eq c.start s) [
  | inl e ↦ rw (eq-eqb c.start s e) (ap (λ n. not (nat_eq (class_of (get_or words n 0)) 0)) (sym e) ∙ sym (start_from (fields_of (get_or words c.start 0)) (start_named to words (get_or words (c.start + 1) 0)) (slots_of words c)))
  | inr n ↦ rw (ne_eqb c.start s n) (start-of-row to words cs s)
]
