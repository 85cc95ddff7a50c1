-- The converse of what a head that was read tells: where a row is cut into chunks and each object among them is formed, each head is read.
use Rattle.std.proofs.Common.{◌≡◌, ◌≢◌, ◌⊎◌, ℕ, Bool, true, false, cond, not, ◌&&◌, ◌||◌, eqb, ltb, max, ◌+◌, ◌-◌, ◌<◌, ◌≤◌, List, length, get_or, drop, slice_range, refl, sym, ap, ◌∙◌, subst, inl, inr, arith, Ok, Option, length-drop}
use Rattle.std.proofs.lemmas.Bool.{cases_Bool, cases_eq, false≢true, ne_eqb, eq-eqb, le-ltb, and_parts, not-true}
use Rattle.std.proofs.lemmas.List.{length-take-le}
use Rattle.std.proofs.lemmas.List.Edits.{length-between, get_or-between}
use Rattle.object_header.specs.Field.{field_of}
use Rattle.object_header.specs.Fields.{Fields, fields_of}
use Rattle.object_header.specs.Formats.{unused_of, is_method, pointer_slots_of}
use Rattle.object_header.specs.Head.{class_of, format_of, count_of, overflow_slots_of, is_unformed, is_refused_format, literals_of, whole_units, has_literals, formed, body_of, head_of}
use Rattle.object_header.specs.declared.head.Head.{Head}
use Rattle.object_header.specs.Chunks.{Chunk, leads, chunk_of, IsChunk, Cuts, slots_of}
use Rattle.spur_graph.specs.Cells.{Body, Cell, cell_from, cell_in, read_cell, body_from, start_named, is_there, is_formed, pointer_count}
use Rattle.spur_graph.specs.Cells as cells
use Rattle.spur_graph.specs.Places.{head_at}
use Rattle.heap_cells.specs.Rows.{AllRead}
use Rattle.heap_cells.proofs.Members.{In}
use Rattle.heap_cells.proofs.Cutting.{stands, cell-at, cuts-in_order}
use Rattle.heap_cells.proofs.HeadReads.{no_literals, first_slot}
use Rattle.heap_cells.proofs.Ranges.{ReadIn}
use Rattle.heap_cells.proofs.Wholes.{none-refused}

-- ---- a head, by its words

-- the words of an object have the format: a known one, with a method's literals and the unused units among so many slots, of which this is the first
record HasFormat (f n first : ℕ) : Type 0 where
  known : is_refused_format f ≡ false
  literals : (is_method f && not (has_literals n first)) ≡ false
  enough : ltb (whole_units f n (pointer_slots_of f n (literals_of first))) (unused_of f) ≡ false

record ReadsAs (ws : List ℕ) (lead slots : ℕ) : Type 0 where
  head : Head
  is : body_of ws lead slots ≡ Ok head

body_ok : (ws : List ℕ) (lead slots : ℕ) → class_of (get_or ws lead 0) ≢ 3 → lead + 1 + max 1 slots ≤ length ws
    → (is_unformed (class_of (get_or ws lead 0)) ≡ false → HasFormat (format_of (get_or ws lead 0)) slots (get_or ws (lead + 1) 0)) → ReadsAs ws lead slots
unfolding body_of formed
body_ok ws lead slots c3 long good =
    let bridge = ne_eqb (class_of (get_or ws lead 0)) 3 c3 in
    let room = le-ltb (length ws) (lead + 1 + max 1 slots) long in
    elim (cases_Bool (is_unformed (class_of (get_or ws lead 0)))) [
      | inl un ↦ record {
        head = record { header = get_or ws lead 0; lead = lead; slots = slots; words = lead + 1 + max 1 slots; pointers = 0; units = 0 };
        is = rw (bridge, un, room) refl;
      }
      | inr object ↦
          let g = good object in
          let f : ℕ = format_of (get_or ws lead 0) in
          let pointers : ℕ = pointer_slots_of f slots (literals_of (get_or ws (lead + 1) 0)) in
          record {
            head = record { header = get_or ws lead 0; lead = lead; slots = slots; words = lead + 1 + max 1 slots; pointers = pointers; units = whole_units f slots pointers - unused_of f };
            is = rw (bridge, object, g.known, room, g.literals, g.enough) refl;
          }
    ]

short : (ws : List ℕ) → 1 ≤ length ws → leads (get_or ws 0 0) ≡ false → head_of ws ≡ body_of ws 0 (count_of (get_or ws 0 0))
unfolding head_of
short ws l off = let room = le-ltb (length ws) 1 l in rw (room, off) refl

long : (ws : List ℕ) → 2 ≤ length ws → leads (get_or ws 0 0) ≡ true → leads (get_or ws 1 0) ≡ true → head_of ws ≡ body_of ws 1 (overflow_slots_of (get_or ws 0 0))
unfolding head_of
long ws l on twice = let one = le-ltb (length ws) 1 (omega (arith, l)) in let two = le-ltb (length ws) 2 l in rw (one, on, two, twice) refl

-- ---- the head of a chunk

-- the chunk is no bridge, and where it is an object it has its format
record IsGood (words : List ℕ) (c : Chunk) : Type 0 where
  class : class_of (get_or words c.start 0) ≢ 3
  formed : is_unformed (class_of (get_or words c.start 0)) ≡ false → HasFormat (format_of (get_or words c.start 0)) c.slots (get_or words (c.start + 1) 0)

record Reads (words : List ℕ) (end at : ℕ) : Type 0 where
  head : Head
  is : head_at words end at ≡ Ok head

two : (b : Bool) (size n : ℕ) → size ≡ cond b 2 1 + max 1 n → 2 ≤ size
two true size n e = omega (arith, e)
two false size n e = omega (arith, e)

module _ (words : List ℕ) (end at : ℕ) (within : end ≤ length words) where
  abbrev ws : List ℕ
  ws = slice_range words at end

  word : (j : ℕ) → at + j < end → get_or ws j 0 ≡ get_or words (at + j) 0
  word j l = get_or-between words at end j 0 l

  reads_by : (lead slots size start : ℕ) → head_of ws ≡ body_of ws lead slots → size ≡ lead + 1 + max 1 slots → at + size ≤ end → start ≡ at + lead → class_of (get_or words start 0) ≢ 3
      → (is_unformed (class_of (get_or words start 0)) ≡ false → HasFormat (format_of (get_or words start 0)) slots (get_or words (start + 1) 0)) → Reads words end at
  reads_by lead slots size start is size_is fits start_is c3 good =
      let a : get_or ws lead 0 ≡ get_or words start 0 = word lead (omega (arith, size_is, fits)) ∙ ap (λ n. get_or words n 0) (sym start_is) in
      let next : at + (lead + 1) ≡ start + 1 = omega (arith, start_is) in
      let b : get_or ws (lead + 1) 0 ≡ get_or words (start + 1) 0 = word (lead + 1) (omega (arith, size_is, fits)) ∙ ap (λ n. get_or words n 0) next in
      let l = length-between words at end within in
      let r = body_ok ws lead slots (λ e. c3 (sym (ap class_of a) ∙ e)) (omega (arith, size_is, fits, l))
      (λ un. let g = good (ap (λ w. is_unformed (class_of w)) (sym a) ∙ un) in subst (λ w. HasFormat (format_of w) slots (get_or ws (lead + 1) 0)) (sym a) (subst (λ w. HasFormat (format_of (get_or words start 0)) slots w) (sym b) g)) in
      record { head = r.head; is = is ∙ r.is }

  head_ok : (c : Chunk) → IsChunk words at c → at + c.size ≤ end → IsGood words c → Reads words end at
  unfolding chunk_of
  head_ok c k fits good =
      let l = length-between words at end within in
      let w : ℕ = get_or words at 0 in
      let size0 : c.size ≡ cond (leads w) 2 1 + max 1 c.slots = ap (λ (d : Chunk). d.size) k.is ∙ ap (λ n. cond (leads w) 2 1 + max 1 n) (sym (ap (λ (d : Chunk). d.slots) k.is)) in
      let some : 2 ≤ c.size = two (leads w) c.size c.slots size0 in
      let zero_at : at + 0 ≡ at = omega arith in
      let front : get_or ws 0 0 ≡ w = word 0 (omega (arith, some, fits)) ∙ ap (λ n. get_or words n 0) zero_at in
      elim (cases_Bool (leads w)) [
        | inr off ↦
            let start : c.start ≡ at + 0 = ap (λ (d : Chunk). d.start) k.is ∙ ap (λ b. cond b (at + 1) at) off ∙ sym zero_at in
            let slots : c.slots ≡ count_of (get_or ws 0 0) = ap (λ (d : Chunk). d.slots) k.is ∙ ap (λ b. cond b (overflow_slots_of w) (count_of w)) off ∙ ap count_of (sym front) in
            let size : c.size ≡ 0 + 1 + max 1 c.slots = size0 ∙ ap (λ b. cond b 2 1 + max 1 c.slots) off in
            reads_by 0 c.slots c.size c.start (short ws (omega (arith, l, some, fits)) (ap leads front ∙ off) ∙ ap (body_of ws 0) (sym slots)) size fits start good.class good.formed
        | inl on ↦
            let start : c.start ≡ at + 1 = ap (λ (d : Chunk). d.start) k.is ∙ ap (λ b. cond b (at + 1) at) on in
            let slots : c.slots ≡ overflow_slots_of (get_or ws 0 0) = ap (λ (d : Chunk). d.slots) k.is ∙ ap (λ b. cond b (overflow_slots_of w) (count_of w)) on ∙ ap overflow_slots_of (sym front) in
            let size : c.size ≡ 1 + 1 + max 1 c.slots = size0 ∙ ap (λ b. cond b 2 1 + max 1 c.slots) on in
            let header : get_or ws 1 0 ≡ get_or words c.start 0 = word 1 (omega (arith, some, fits)) ∙ ap (λ n. get_or words n 0) (sym start) in
            reads_by 1 c.slots c.size c.start (long ws (omega (arith, l, some, fits)) (ap leads front ∙ on) (ap leads header ∙ k.twice ∙ on) ∙ ap (body_of ws 1) (sym slots)) size fits start good.class good.formed
      ]

-- ---- from an object that is formed

method_by : (m l : Bool) → (not m || l) ≡ true → (m && not l) ≡ false
method_by true true e = refl
method_by true false e = absurd (false≢true e)
method_by false l e = refl

no_method : (m : Bool) → (not m || false) ≡ true → m ≡ false
no_method true e = absurd (false≢true e)
no_method false e = refl

good_from : (b : Body) (n first : ℕ) → length b.words ≡ n → (n ≡ 0) ⊎ (get_or b.words 0 0 ≡ first) → is_formed b ≡ true → (b.class ≢ 3) × HasFormat b.format n first
unfolding is_formed pointer_count
good_from b n first len which k =
    let f : ℕ = b.format in
    let x : ℕ = get_or b.words 0 0 in
    let whole : ℕ = whole_units f (length b.words) (pointer_slots_of f (length b.words) (literals_of x)) in
    let p = and_parts (not (eqb b.class 3) && not (is_refused_format f) && (not (is_method f) || has_literals (length b.words) x)) (not (ltb whole (unused_of f))) k in
    let q = and_parts (not (eqb b.class 3) && not (is_refused_format f)) (not (is_method f) || has_literals (length b.words) x) p.0 in
    let s = and_parts (not (eqb b.class 3)) (not (is_refused_format f)) q.0 in
    let enough : ltb (whole_units f n (pointer_slots_of f n (literals_of x))) (unused_of f) ≡ false = ap (λ m. ltb (whole_units f m (pointer_slots_of f m (literals_of x))) (unused_of f)) (sym len) ∙ not-true _ p.1 in
    let literals : (not (is_method f) || has_literals n x) ≡ true = ap (λ m. not (is_method f) || has_literals m x) (sym len) ∙ q.1 in (
      (λ e. false≢true (sym (not-true _ s.0) ∙ eq-eqb b.class 3 e)),
      elim which [
        | inr e ↦ record {
          known = not-true _ s.1;
          literals = method_by (is_method f) (has_literals n first) (ap (λ w. not (is_method f) || has_literals n w) (sym e) ∙ literals);
          enough = ap (λ w. ltb (whole_units f n (pointer_slots_of f n (literals_of w))) (unused_of f)) (sym e) ∙ enough;
        }
        | inl z ↦
            let none : has_literals n x ≡ false = ap (λ m. has_literals m x) z ∙ ap (λ b. b && eqb (field_of 0 3 x) 1) (le-ltb (literals_of x) 0 (omega arith)) in
            let off : is_method f ≡ false = no_method (is_method f) (ap (λ b. not (is_method f) || b) (sym none) ∙ literals) in
            record {
              known = not-true _ s.1;
              literals = ap (λ b. b && not (has_literals n first)) off;
              enough = ap (λ m. ltb (whole_units f n m) (unused_of f)) (no_literals f n (literals_of first) (literals_of x) off) ∙ enough;
            }
      ],
    )

-- ---- a row

there_of : (f : Fields) (next : ℕ) (ws : List ℕ) → is_unformed f.class ≡ false → (is_there (cell_from f next ws) ≡ true) × (cells.body_of (cell_from f next ws) ≡ body_from f ws)
there_of f next ws e = elim (cases_Bool (eqb f.class 0)) [
  | inl a ↦ absurd (false≢true (sym (rw a at e)))
  | inr a ↦ elim (cases_Bool (eqb f.class 8)) [ inl b ↦ absurd (false≢true (sym (rw (a, b) at e))) | inr b ↦ rw (a, b) (refl, refl) ]
]

no_bridge : (class : ℕ) → is_unformed class ≡ true → class ≢ 3
no_bridge class on e = false≢true (ap is_unformed (sym e) ∙ on)

module _ (to : ℕ → Option ℕ) (words : List ℕ) (from end : ℕ) (cs : List Chunk) (within : end ≤ length words) (cuts : Cuts words from end cs)
    (formed : (s : ℕ) → is_there (cell_in to words cs s) ≡ true → is_formed (cells.body_of (cell_in to words cs s)) ≡ true) where
  good : (c : Chunk) → In cs c → IsGood words c
  unfolding read_cell
  good c m =
      let o = cuts-in_order words from end cs cuts in
      let lies = (stands words from end cs c o m).lies in
      let w : ℕ = get_or words c.start 0 in
      let cell : cell_in to words cs c.start ≡ cell_from (fields_of w) (start_named to words (get_or words (c.start + 1) 0)) (slots_of words c) = cell-at to words from end cs c o m in
      elim (cases_Bool (is_unformed (class_of w))) [
        | inl un ↦ record { class = no_bridge (class_of w) un; formed = λ off. absurd (false≢true (sym off ∙ un)) }
        | inr object ↦
            let t = there_of (fields_of w) (start_named to words (get_or words (c.start + 1) 0)) (slots_of words c) object in
            let long = length-drop (c.start + 1) words in
            let g = good_from (body_from (fields_of w) (slots_of words c)) c.slots (get_or words (c.start + 1) 0)
            (length-take-le c.slots (drop (c.start + 1) words) (omega (arith, long, lies.slots, lies.before, within)))
            (elim (cases_eq c.slots 0) [ inl z ↦ inl z | inr o ↦ inr (first_slot words c.start c.slots o) ])
            (ap is_formed (sym (ap cells.body_of cell ∙ t.1)) ∙ formed c.start (ap is_there cell ∙ t.0)) in
            record { class = g.0; formed = λ un. g.1 }
      ]

  head_read : (c : Chunk) → In cs c → ReadIn words end c
  head_read c m =
      let s = stands words from end cs c (cuts-in_order words from end cs cuts) m in
      let r = head_ok words end c.at within c s.chunk s.lies.before (good c m) in
      record { head = r.head; inside = omega (arith, s.lies.lead, s.lies.room, s.lies.before); read = r.is }

  -- no chunk of the row is refused
  pub formed-read : AllRead words from end
  formed-read = none-refused words from end within cs cuts head_read
