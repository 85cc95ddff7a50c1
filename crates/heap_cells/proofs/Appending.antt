-- A free chunk behind the last one.
use Rattle.std.proofs.Common.{◌≡◌, ℕ, true, cond, ◌+◌, ◌<◌, ◌≤◌, List, [], ◌∷◌, ◌++◌, length, get_or, take, drop, refl, sym, ap, ◌∙◌, subst, inl, inr, arith, Option, Some, None, nat_eq}
use Rattle.std.specs.Option.{unwrap_or}
use Rattle.std.proofs.lemmas.Bool.{cases_Bool, cases_eq, ne_eqb, eq-eqb}
use Rattle.std.proofs.lemmas.List.{length-append, length-drop, map-append, get_or_append_left, get_or-append-add, take-append-le, drop-append-le}
use Rattle.object_header.specs.Fields.{Fields, fields_of}
use Rattle.object_header.specs.Head.{class_of}
use Rattle.object_header.specs.Chunks.{Chunk, leads, chunk_of, IsChunk, Cuts, slots_of}
use Rattle.spur_graph.specs.Cells.{Empty, read_cell, cell_in, cell_from, start_named, is_moved, target_of}
use Rattle.heap_cells.specs.RowWrites.{IsFreeChunk, Appends}
use Rattle.heap_cells.proofs.Cutting.{chunk_of-lies, chunk_of-at, stands, Cuts-append, cell-at, chunks-are, cuts-in_order}
use Rattle.heap_cells.proofs.Writing.{row-kept, keeps-same, cell-same}

-- ---- a chunk at another place

pub shifted_start : (n w : ℕ) → (chunk_of n w).start ≡ n + (chunk_of 0 w).start
unfolding chunk_of
shifted_start n w = elim (cases_Bool (leads w)) [ inl is ↦ rw is (omega arith) | inr not ↦ rw not (omega arith) ]

pub shifted_size : (n w : ℕ) → (chunk_of n w).size ≡ (chunk_of 0 w).size
unfolding chunk_of
shifted_size n w = refl

-- ---- words that go on behind a chunk

-- a word that names a place among the words names it also among more words
named-more : (o : Option ℕ) (n m : ℕ) → unwrap_or o n < n → unwrap_or o m ≡ unwrap_or o n
named-more (Some t) n m l = refl
named-more None n m l = absurd (omega arith)

-- the word behind the header plays a part in a forwarder alone
cell_from-same : (f : Fields) (a b : ℕ) (ws : List ℕ) → (is_moved (cell_from f a ws) ≡ true → target_of (cell_from f a ws) ≡ a → b ≡ a) → cell_from f b ws ≡ cell_from f a ws
cell_from-same f a b ws same = elim (cases_eq f.class 0) [
  | inl e ↦ rw (eq-eqb f.class 0 e) refl
  | inr n ↦ elim (cases_eq f.class 8) [
    | inl e ↦
        let k : b ≡ a = same (rw (ne_eqb f.class 0 n, eq-eqb f.class 8 e) refl) (rw (ne_eqb f.class 0 n, eq-eqb f.class 8 e) refl) in
        ap (λ t. cell_from f t ws) k
    | inr o ↦ rw (ne_eqb f.class 0 n, ne_eqb f.class 8 o) refl
  ]
]

pub read-longer : (to : ℕ → Option ℕ) (words room : List ℕ) (c : Chunk) → c.start + 1 < length words → c.start + 1 + c.slots ≤ length words
    → (is_moved (read_cell to words c) ≡ true → target_of (read_cell to words c) < length words) → read_cell to (words ++ room) c ≡ read_cell to words c
unfolding read_cell
read-longer to words room c low fits named =
    let new = words ++ room in
    let w = get_or words (c.start + 1) 0 in
    let f = fields_of (get_or words c.start 0) in
    let head : get_or new c.start 0 ≡ get_or words c.start 0 = get_or_append_left words room 0 c.start (omega arith) in
    let next : get_or new (c.start + 1) 0 ≡ w = get_or_append_left words room 0 (c.start + 1) low in
    let cut : drop (c.start + 1) new ≡ drop (c.start + 1) words ++ room = drop-append-le (c.start + 1) words room (omega arith) in
    let long : c.slots ≤ length (drop (c.start + 1) words) = omega (arith, length-drop (c.start + 1) words) in
    let slots : slots_of new c ≡ slots_of words c = ap (take c.slots) cut ∙ take-append-le c.slots (drop (c.start + 1) words) room long in
    let parts : cell_from (fields_of (get_or new c.start 0)) (start_named to new (get_or new (c.start + 1) 0)) (slots_of new c) ≡ cell_from f (start_named to new w) (slots_of words c) =
    ap (λ k. cell_from (fields_of k) (start_named to new (get_or new (c.start + 1) 0)) (slots_of new c)) head
    ∙ ap (λ k. cell_from f (start_named to new k) (slots_of new c)) next
    ∙ ap (cell_from f (start_named to new w)) slots in
    parts ∙ cell_from-same f (start_named to words w) (start_named to new w) (slots_of words c)
    (λ m is. named-more (to w) (length words) (length new) (subst (λ n. n < length words) is (named m)))

pub read-free : (to : ℕ → Option ℕ) (words : List ℕ) (c : Chunk) → class_of (get_or words c.start 0) ≡ 0 → read_cell to words c ≡ Empty
unfolding read_cell
read-free to words c free = rw (eq-eqb (class_of (get_or words c.start 0)) 0 free) refl

-- of a row of two parts, the front
cell-front : (to : ℕ → Option ℕ) (words : List ℕ) (xs ys : List Chunk) (s : ℕ) → cell_in to words ys s ≡ Empty → cell_in to words (xs ++ ys) s ≡ cell_in to words xs s
unfolding cell_in
cell-front to words [] ys s e = e
cell-front to words (x ∷ xs) ys s e = ap (cond (nat_eq x.start s) (read_cell to words x)) (cell-front to words xs ys s e)

cell-one : (to : ℕ → Option ℕ) (words : List ℕ) (c : Chunk) (s : ℕ) → read_cell to words c ≡ Empty → cell_in to words (c ∷ []) s ≡ Empty
unfolding cell_in
cell-one to words c s e = elim (cases_eq c.start s) [ inl k ↦ rw (eq-eqb c.start s k) e | inr n ↦ rw (ne_eqb c.start s n) refl ]

-- ---- the law

pub appended : (to : ℕ → Option ℕ) (words room : List ℕ) (cs : List Chunk) → Cuts words 0 (length words) cs → IsFreeChunk room
    → ((s : ℕ) → is_moved (cell_in to words cs s) ≡ true → target_of (cell_in to words cs s) < length words)
    → Appends to words room cs (chunk_of (length words) (get_or room 0 0))
appended to words room cs t free named =
    let n = length words in
    let w = get_or room 0 0 in
    let new = words ++ room in
    let c = chunk_of n w in
    let l = chunk_of-lies n w in
    let l1 = l.lead in
    let l2 = l.room in
    let at : c.at ≡ n = chunk_of-at n w in
    let n0 : n + 0 ≡ n = omega arith in
    let first : get_or new n 0 ≡ w = ap (λ k. get_or new k 0) (sym n0) ∙ get_or-append-add words room 0 0 in
    let head : get_or new c.start 0 ≡ get_or room (chunk_of 0 w).start 0 = ap (λ k. get_or new k 0) (shifted_start n w) ∙ get_or-append-add words room (chunk_of 0 w).start 0 in
    let chunk : IsChunk new n c = record { is = ap (chunk_of n) (sym first); twice = ap leads head ∙ free.twice ∙ ap leads (sym first) } in
    let end : n + c.size ≡ length new = ap (λ k. n + k) (shifted_size n w ∙ free.size) ∙ sym (length-append words room) in
    let kept = row-kept words new 0 n cs t (λ d m.
    let s = stands words 0 n cs d (cuts-in_order words 0 n cs t) m in
    keeps-same words new d (get_or_append_left words room 0 d.at (omega (arith, s.lies.lead, s.lies.room, s.lies.before))) (get_or_append_left words room 0 d.start (omega (arith, s.lies.room, s.lies.before)))) in
    let row : Cuts new 0 (length new) (cs ++ c ∷ []) = Cuts-append new 0 n (length new) cs (c ∷ []) kept (chunk, end) in
    let nothing : read_cell to new c ≡ Empty = read-free to new c (ap class_of head ∙ free.free) in
    record {
      row = row;
      chunks = chunks-are new (cs ++ c ∷ []) row;
      starts = map-append (λ (x : Chunk). x.start) cs (c ∷ []);
      behind = omega (arith, l1, at);
      cell = λ s.
          cell-front to new cs (c ∷ []) s (cell-one to new c s nothing)
          ∙ cell-same to words new cs s (λ d m e.
          let k = stands words 0 n cs d (cuts-in_order words 0 n cs t) m in
          let here : cell_in to words cs s ≡ read_cell to words d = ap (cell_in to words cs) (sym e) ∙ cell-at to words 0 n cs d (cuts-in_order words 0 n cs t) m in
          read-longer to words room d (omega (arith, k.lies.room, k.lies.before)) (omega (arith, k.lies.slots, k.lies.before))
          (λ is. subst (λ x. target_of x < n) here (named s (ap is_moved here ∙ is))));
    }
