-- The parts of a heap that are saved: chunks, cells and starts.
use Rattle.std.proofs.Common.{◌≡◌, ℕ, true, false, not, ◌||◌, eqb, ◌+◌, ◌<◌, ◌≤◌, List, length, get_or, refl, sym, ap, ◌∙◌, inl, inr, arith}
use Rattle.std.proofs.lemmas.Bool.{cases_Bool, cases_lt, false≢true}
use Rattle.object_header.specs.Fields.{Fields, fields_of}
use Rattle.object_header.specs.Head.{class_of}
use Rattle.object_header.specs.Chunks.{Chunk, chunk_of, InOrder, row, slots_of}
use Rattle.spur_graph.specs.Cells.{cell_from, read_cell, start_named, is_start, is_there, Store}
use Rattle.spur_graph.specs.Spaces.{eden_row, past_row, young_row}
use Rattle.spur_graph.specs.Heaps.{View, IsWhole, heap_to, store_of, chunks_of}
use Rattle.heap_cells.proofs.Members.{In, in_either, in_left, in_right, in_list, listed}
use Rattle.heap_cells.proofs.Cutting.{Lies, stands, cell-at, start-in, cuts-in_order, in_order-append}
use Rattle.heap_cells.proofs.CellKinds.{start_from}
use Rattle.heap_cells.proofs.Spaced.{eden_past, past_inside, young-in_order}
use Rattle.spur_heap.specs.Words.{AreSound, starts_at}
use Rattle.spur_heap.proofs.Orders.{order}
use Rattle.image_save.specs.Saved.{cut, saved_chunks, file_words, region_place, chunk_over}
use Rattle.image_save.specs.Places.{HasPlace, Begins, Covers}
use Rattle.image_save.proofs.Trims.{trim, saved_in, in_saved}
use Rattle.image_save.proofs.Over.{over_is, begins, next, inside}
use Rattle.image_save.proofs.Placing.{region_old, region_eden, region_past}

pub whole_sound : (v : View) → IsWhole v → AreSound v
whole_sound v whole = record { spaces = whole.spaces; rows = whole.rows; sound = whole.sound; few = whole.few }

-- a header tells whether an object stands there
pub there_from : (f : Fields) (to : ℕ) (ws : List ℕ) → is_there (cell_from f to ws) ≡ not (eqb f.class 0 || eqb f.class 8)
there_from f to ws = elim (cases_Bool (eqb f.class 0)) [
  | inl on ↦ rw on refl
  | inr off ↦ elim (cases_Bool (eqb f.class 8)) [
    | inl moved ↦ rw (off, moved) refl
    | inr there ↦ rw (off, there) refl
  ]
]

module _ (v : View) (whole : IsWhole v) where
  abbrev h : Store
  h = store_of v

  -- the parts stand one behind another
  pub record Spaced : Type 0 where
    pub old : cut v ≤ v.spaces.eden_at
    pub eden : v.spaces.eden_at + v.spaces.eden_used ≤ v.spaces.past_at
    pub past : v.spaces.past_at + v.spaces.past_used ≤ length v.words

  pub spaced : Spaced
  spaced = record {
    old = let a = (trim v whole.rows).low in let b = whole.spaces.eden_behind in omega (arith, a, b);
    eden = eden_past v.words v.limits v.spaces whole.spaces;
    past = past_inside v.words v.limits v.spaces whole.spaces;
  }

  pub saved_order : InOrder v.words 0 (length v.words) (saved_chunks v)
  saved_order = in_order-append v.words 0 (cut v) v.spaces.eden_at (length v.words) (row v.words 0 (cut v)) (young_row v.words v.spaces)
      (cuts-in_order v.words 0 (cut v) (row v.words 0 (cut v)) (trim v whole.rows).cuts) spaced.old (young-in_order v.words v.limits v.spaces whole.spaces whole.rows)

  -- a chunk that is saved, as the words have it
  pub record Seen (c : Chunk) : Type 0 where
    pub is : c ≡ chunk_of c.at (get_or v.words c.at 0)
    pub lies : Lies 0 (length v.words) c
    pub in_heap : In (chunks_of v) c
    pub there : is_there (h.cell c.start) ≡ not (eqb (class_of (get_or v.words c.start 0)) 0 || eqb (class_of (get_or v.words c.start 0)) 8)
    pub starts : is_start (h.cell c.start) ≡ not (eqb (class_of (get_or v.words c.start 0)) 0)

  pub seen_in : (c : Chunk) → In (chunks_of v) c → Seen c
  unfolding read_cell
  seen_in c m =
      let o = order v (whole_sound v whole) in
      let s = stands v.words 0 (length v.words) (chunks_of v) c o m in
      let cell = cell-at heap_to v.words 0 (length v.words) (chunks_of v) c o m in
      let f = fields_of (get_or v.words c.start 0) in
      let to = start_named heap_to v.words (get_or v.words (c.start + 1) 0) in
      record {
        is = s.chunk.is;
        lies = s.lies;
        in_heap = m;
        there = ap is_there cell ∙ there_from f to (slots_of v.words c);
        starts = ap is_start cell ∙ start_from f to (slots_of v.words c);
      }

  pub seen : (c : Chunk) → In (saved_chunks v) c → Seen c
  seen c m = seen_in c (saved_in v whole.rows c m)

  -- each start is that of a chunk that is saved
  pub start_saved : (s : ℕ) → starts_at v s ≡ true → (c : Chunk) × In (saved_chunks v) c × (c.start ≡ s)
  start_saved s on =
      let d = start-in heap_to v.words (chunks_of v) s on in
      elim (in_saved v whole.rows d.0 d.1) [
        | inl m ↦ (d.0, m, d.2)
        | inr free ↦ let off : is_start (h.cell d.0.start) ≡ false = (seen_in d.0 d.1).starts ∙ ap not free in
            absurd (false≢true (sym off ∙ ap (λ t. is_start (h.cell t)) d.2 ∙ on))
      ]

  -- a chunk that is saved is in one of the parts
  pub data Part (c : Chunk) : Type 0 where
    old : In (row v.words 0 (cut v)) c → c.at + c.size ≤ cut v → Part c
    eden : In (eden_row v.words v.spaces) c → v.spaces.eden_at ≤ c.at → c.at + c.size ≤ v.spaces.eden_at + v.spaces.eden_used → Part c
    past : In (past_row v.words v.spaces) c → v.spaces.past_at ≤ c.at → c.at + c.size ≤ v.spaces.past_at + v.spaces.past_used → Part c

  pub part_of : (c : Chunk) → In (saved_chunks v) c → Part c
  part_of c m = elim (in_either (row v.words 0 (cut v)) (young_row v.words v.spaces) c m) [
    | inl a ↦ old a (inside v.words 0 (cut v) (row v.words 0 (cut v)) c (trim v whole.rows).cuts a).1
    | inr b ↦ elim (in_either (eden_row v.words v.spaces) (past_row v.words v.spaces) c b) [
      | inl e ↦ let i = inside v.words v.spaces.eden_at (v.spaces.eden_at + v.spaces.eden_used) (eden_row v.words v.spaces) c whole.rows.eden e in eden e i.0 i.1
      | inr p ↦ let i = inside v.words v.spaces.past_at (v.spaces.past_at + v.spaces.past_used) (past_row v.words v.spaces) c whole.rows.past p in past p i.0 i.1
    ]
  ]

  pub old_in : (c : Chunk) → In (row v.words 0 (cut v)) c → In (saved_chunks v) c
  old_in c m = in_left (row v.words 0 (cut v)) (young_row v.words v.spaces) c m

  pub eden_in : (c : Chunk) → In (eden_row v.words v.spaces) c → In (saved_chunks v) c
  eden_in c m = in_right (row v.words 0 (cut v)) (young_row v.words v.spaces) c (in_left (eden_row v.words v.spaces) (past_row v.words v.spaces) c m)

  pub past_in : (c : Chunk) → In (past_row v.words v.spaces) c → In (saved_chunks v) c
  past_in c m = in_right (row v.words 0 (cut v)) (young_row v.words v.spaces) c (in_right (eden_row v.words v.spaces) (past_row v.words v.spaces) c m)

  place_by : (c : Chunk) (s : ℕ) → Part c → c.at ≤ s → s < c.at + c.size → HasPlace v s
  place_by c s (old m b) low high = let p = spaced in record { eden = λ x. absurd (omega (arith, x, b, high)); past = λ x. absurd (omega (arith, x, b, high, p.old)); inside = omega (arith, b, high, p.old, p.eden) }
  place_by c s (eden m a b) low high = let p = spaced in record { eden = λ x. omega (arith, a, low); past = λ x. absurd (omega (arith, x, b, high)); inside = omega (arith, b, high, p.eden) }
  place_by c s (past m a b) low high = let p = spaced in record { eden = λ x. omega (arith, a, low, p.eden); past = λ x. omega (arith, a, low); inside = omega (arith, b, high) }

  pub covers_of : (c : Chunk) (q : ℕ) → In (saved_chunks v) c → c.at ≤ q → q < c.at + c.size → Covers v c q × HasPlace v q
  covers_of c q m low high = (record { saved = listed (saved_chunks v) c m; from = low; to = high }, place_by c q (part_of c m) low high)

  pub start_has_place : (s : ℕ) → starts_at v s ≡ true → HasPlace v s
  start_has_place s on =
      let c = start_saved s on in
      let l = (seen c.0 c.1).lies in
      place_by c.0 s (part_of c.0 c.1) (omega (arith, l.lead, c.2)) (omega (arith, l.room, c.2))

  -- ---- the walk from word to word

  begins_from : {q : ℕ} → (c : Chunk) → In (saved_chunks v) c → c.at ≡ q → Begins v q
  begins_from c m e = record { chunk = c; saved = listed (saved_chunks v) c m; here = e }

  past_first : (i : ℕ) → i ≡ cut v + v.spaces.eden_used → i < file_words v → Begins v (region_place v i)
  past_first i e l =
      let b = begins v.words v.spaces.past_at (v.spaces.past_at + v.spaces.past_used) (past_row v.words v.spaces) whole.rows.past (omega (arith, e, l)) in
      let is = region_past v i (omega (arith, e)) (omega (arith, e)) in
      begins_from b.0 (past_in b.0 b.1) (omega (arith, b.2, is, e))

  eden_first : (i : ℕ) → i ≡ cut v → i < file_words v → Begins v (region_place v i)
  eden_first i e l = elim (cases_lt i (cut v + v.spaces.eden_used)) [
    | inl some ↦
        let b = begins v.words v.spaces.eden_at (v.spaces.eden_at + v.spaces.eden_used) (eden_row v.words v.spaces) whole.rows.eden (omega (arith, e, some)) in
        let is = region_eden v i (omega (arith, e)) some in
        begins_from b.0 (eden_in b.0 b.1) (omega (arith, b.2, is, e))
    | inr none ↦ past_first i (omega (arith, e, none)) l
  ]

  pub first_begins : 0 < file_words v → Begins v (region_place v 0)
  first_begins l = elim (cases_lt 0 (cut v)) [
    | inl some ↦
        let b = begins v.words 0 (cut v) (row v.words 0 (cut v)) (trim v whole.rows).cuts some in
        begins_from b.0 (old_in b.0 b.1) (b.2 ∙ sym (region_old v 0 some))
    | inr none ↦ eden_first 0 (omega (arith, none)) l
  ]

  pub rises : (i : ℕ) → i + 1 < file_words v → region_place v i < region_place v (i + 1)
  rises i l =
      let p = spaced in
      elim (cases_lt i (cut v)) [
        | inl a ↦ let is = region_old v i a in elim (cases_lt (i + 1) (cut v)) [
          | inl b ↦ let js = region_old v (i + 1) b in omega (arith, is, js)
          | inr b ↦ elim (cases_lt (i + 1) (cut v + v.spaces.eden_used)) [
            | inl d ↦ let js = region_eden v (i + 1) b d in omega (arith, is, js, a, p.old)
            | inr d ↦ let js = region_past v (i + 1) b d in omega (arith, is, js, a, p.old, p.eden)
          ]
        ]
        | inr a ↦ elim (cases_lt i (cut v + v.spaces.eden_used)) [
          | inl b ↦ let is = region_eden v i a b in elim (cases_lt (i + 1) (cut v + v.spaces.eden_used)) [
            | inl d ↦ let js = region_eden v (i + 1) (omega (arith, a)) d in omega (arith, is, js, a)
            | inr d ↦ let js = region_past v (i + 1) (omega (arith, a)) d in omega (arith, is, js, a, b, p.eden)
          ]
          | inr b ↦ let is = region_past v i a b in let js = region_past v (i + 1) (omega (arith, a)) (omega (arith, b)) in omega (arith, is, js, b)
        ]
      ]

  pub next_begins : (i : ℕ) (c : Chunk) → In (saved_chunks v) c → i + 1 < file_words v → c.at ≤ region_place v i → region_place v i < c.at + c.size → c.at + c.size ≤ region_place v (i + 1) → Begins v (region_place v (i + 1))
  next_begins i c m l low high end = by (part_of c m)
    where
      old_case : In (row v.words 0 (cut v)) c → c.at + c.size ≤ cut v → i < cut v → Begins v (region_place v (i + 1))
      old_case m b a = elim (cases_lt (i + 1) (cut v)) [
        | inl more ↦
            let is = region_old v i a in
            let js = region_old v (i + 1) more in
            let n = next v.words 0 (cut v) (row v.words 0 (cut v)) c (trim v whole.rows).cuts m (omega (arith, is, js, high, end, more)) in
            begins_from n.0 (old_in n.0 n.1) (omega (arith, n.2, is, js, high, end))
        | inr none ↦ eden_first (i + 1) (omega (arith, a, none)) l
      ]

      eden_case : In (eden_row v.words v.spaces) c → c.at + c.size ≤ v.spaces.eden_at + v.spaces.eden_used → cut v ≤ i → i < cut v + v.spaces.eden_used → Begins v (region_place v (i + 1))
      eden_case m b a d = elim (cases_lt (i + 1) (cut v + v.spaces.eden_used)) [
        | inl more ↦
            let is = region_eden v i a d in
            let js = region_eden v (i + 1) (omega (arith, a)) more in
            let n = next v.words v.spaces.eden_at (v.spaces.eden_at + v.spaces.eden_used) (eden_row v.words v.spaces) c whole.rows.eden m (omega (arith, is, js, high, end, more, a)) in
            begins_from n.0 (eden_in n.0 n.1) (omega (arith, n.2, is, js, high, end, a))
        | inr none ↦ past_first (i + 1) (omega (arith, d, none)) l
      ]

      past_case : In (past_row v.words v.spaces) c → c.at + c.size ≤ v.spaces.past_at + v.spaces.past_used → cut v ≤ i → cut v + v.spaces.eden_used ≤ i → Begins v (region_place v (i + 1))
      past_case m b a d =
          let is = region_past v i a d in
          let js = region_past v (i + 1) (omega (arith, a)) (omega (arith, d)) in
          let n = next v.words v.spaces.past_at (v.spaces.past_at + v.spaces.past_used) (past_row v.words v.spaces) c whole.rows.past m (omega (arith, is, js, high, end, l, d)) in
          begins_from n.0 (past_in n.0 n.1) (omega (arith, n.2, is, js, high, end, d))

      by : Part c → Begins v (region_place v (i + 1))
      by (old m b) = elim (cases_lt i (cut v)) [
        | inl a ↦ old_case m b a
        | inr a ↦ let p = spaced in elim (cases_lt i (cut v + v.spaces.eden_used)) [
          | inl d ↦ let is = region_eden v i a d in absurd (omega (arith, is, high, b, p.old))
          | inr d ↦ let is = region_past v i a d in absurd (omega (arith, is, high, b, p.old, p.eden))
        ]
      ]
      by (eden m x b) = let p = spaced in elim (cases_lt i (cut v)) [
        | inl a ↦ let is = region_old v i a in absurd (omega (arith, is, low, x, a, p.old))
        | inr a ↦ elim (cases_lt i (cut v + v.spaces.eden_used)) [
          | inl d ↦ eden_case m b a d
          | inr d ↦ let is = region_past v i a d in absurd (omega (arith, is, high, b, p.eden))
        ]
      ]
      by (past m x b) = let p = spaced in elim (cases_lt i (cut v)) [
        | inl a ↦ let is = region_old v i a in absurd (omega (arith, is, low, x, a, p.old, p.eden))
        | inr a ↦ elim (cases_lt i (cut v + v.spaces.eden_used)) [
          | inl d ↦ let is = region_eden v i a d in absurd (omega (arith, is, low, x, a, d, p.eden))
          | inr d ↦ past_case m b a d
        ]
      ]

  pub over_covers : (c : Chunk) (q : ℕ) → Covers v c q → chunk_over (saved_chunks v) q ≡ c
  over_covers c q k = over_is v.words 0 (length v.words) q (saved_chunks v) c saved_order (in_list (saved_chunks v) c k.saved) k.from k.to
