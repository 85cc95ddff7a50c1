-- What stands in the words after the two walks.
use Rattle.std.proofs.Common.{◌≡◌, ◌≢◌, ℕ, suc, zero, false, cond, ◌+◌, ◌-◌, ◌/◌, ◌%◌, ◌<◌, ◌≤◌, List, [], ◌∷◌, length, get_or, drop, refl, sym, ap, ◌∙◌, subst, inl, inr, arith, nat_eq, Some, None}
use Rattle.std.specs.Option.{unwrap_or}
use Rattle.std.specs.List.{Contains, All}
use Rattle.std.proofs.lemmas.Bool.{cases_eq, cases_lt, cases_Bool, ne_eqb, eq-eqb, lt-ltb, le-ltb}
use Rattle.std.proofs.lemmas.List.{length-take, length-drop, get_or-take, get_or-drop, ext_get_or}
use Rattle.std.proofs.lemmas.List.{append-nil}
use Rattle.std.proofs.lemmas.List.Elements.{Contains-get_or}
use Rattle.object_header.specs.Fields.{Fields, fields_of}
use Rattle.object_header.specs.Head.{class_of, count_of}
use Rattle.image_words.specs.declared.image.ImageWords.{ImageWords}
use Rattle.spur_graph.specs.Segments.{word_in}
use Rattle.object_header.specs.Chunks.{Chunk, leads, slots_told, Cuts, chunks, slots_of}
use Rattle.spur_graph.specs.Cells.{Body, Moved, There, Store, read_cell, cell_in, cell_from, body_from, start_named, pointer_count, first}
use Rattle.spur_graph.specs.Heaps.{HasNoUnusedBits, heap_to, row_store, IsClear}
use Rattle.heap_cells.specs.Settled.{settled_word, settled_root, settled_words, settled_cell, map_front, word_of, IsSettled}
use Rattle.heap_cells.specs.Rows.{starts_of}
use Rattle.heap_cells.specs.RowWrites.{KeepsChunk}
use Rattle.heap_cells.proofs.Members.{in_list}
use Rattle.heap_cells.proofs.Cutting.{Stands, stands, shape, cell-at, chunks-are, all-in_order}
use Rattle.heap_cells.proofs.ObjectWrites.{to_object}
use Rattle.heap_cells.proofs.Writing.{keeps-row, keeps-same, cells-mapped}
use Rattle.heap_cells.proofs.Fronts.{length-front, front-in, length-from, from-in}
use Rattle.image_settle.specs.Settles.{IsReady, IsCleared, IsTurned, HaveNoForwarder, unmarked, settled_slot, slot_in}
use Rattle.spur_graph.specs.FileStores.{file_store}
use Rattle.image_settle.proofs.Ready.{told}

-- ---- words of one object

front-out : (g : ℕ → ℕ) (n i : ℕ) (ws : List ℕ) → n ≤ i → get_or (map_front g n ws) i 0 ≡ get_or ws i 0
front-out g zero i ws l = refl
front-out g (suc n) i [] l = refl
front-out g (suc n) zero (w ∷ ws) l = absurd (omega arith)
front-out g (suc n) (suc i) (w ∷ ws) l = front-out g n i ws (omega arith)

length-settled : (h : Store) (s : ℕ) (b : Body) → length (settled_words h s b) ≡ length b.words
unfolding settled_words
length-settled h s b = elim (cases_Bool (nat_eq s (first h 4))) [
  | inl a ↦ rw a (length-from (settled_root h) 0 b.words)
  | inr a ↦ elim (cases_Bool (nat_eq s (first h 3))) [
    | inl d ↦ rw (a, d) refl
    | inr d ↦ rw (a, d) (length-front (settled_word h) (pointer_count b) b.words)
  ]
]

settled-at : (h : Store) (s : ℕ) (b : Body) (i : ℕ) → i < length b.words → get_or (settled_words h s b) i 0 ≡ settled_slot h s b i (get_or b.words i 0)
unfolding settled_words
settled-at h s b i l = elim (cases_Bool (nat_eq s (first h 4))) [
  | inl a ↦ let e : 0 + i ≡ i = omega arith in rw a (from-in (settled_root h) 0 i b.words l ∙ ap (λ k. settled_root h k (get_or b.words i 0)) e)
  | inr a ↦ elim (cases_Bool (nat_eq s (first h 3))) [
    | inl d ↦ rw (a, d) refl
    | inr d ↦ rw (a, d) (elim (cases_lt i (pointer_count b)) [
      | inl m ↦ rw (lt-ltb i (pointer_count b) m) (front-in (settled_word h) (pointer_count b) i b.words m l)
      | inr m ↦ rw (le-ltb i (pointer_count b) m) (front-out (settled_word h) (pointer_count b) i b.words m)
    ])
  ]
]

-- ---- cells

cell-made : (h : Store) (s : ℕ) (f : Fields) (t u : ℕ) (ws vs : List ℕ) → (f.class ≢ 0 → f.class ≡ 8 → u ≡ t) → (f.class ≢ 0 → f.class ≢ 8 → vs ≡ settled_words h s (body_from f ws))
    → cell_from (unmarked f) u vs ≡ settled_cell h s (cell_from f t ws)
cell-made h s f t u ws vs a b = elim (cases_eq f.class 0) [
  | inl e ↦ rw (eq-eqb f.class 0 e) refl
  | inr n ↦ elim (cases_eq f.class 8) [
    | inl e ↦ rw (ne_eqb f.class 0 n, eq-eqb f.class 8 e) (ap (λ k. Moved k) (a n e))
    | inr o ↦ rw (ne_eqb f.class 0 n, ne_eqb f.class 8 o) (ap (λ xs. There (body_from f xs)) (b n o))
  ]
]

-- the word of a start names it
heap_named : (t n : ℕ) → unwrap_or (heap_to (word_of t)) n ≡ t
heap_named t n =
    let a : word_of t % 8 ≡ 0 = omega arith in
    let b : word_of t / 8 ≡ t = omega arith in
    ap (λ k. unwrap_or (cond k (Some (word_of t / 8)) None) n) (eq-eqb (word_of t % 8) 0 a) ∙ b

-- fields without marks tell the same count
leads-same : (v w : ℕ) → fields_of v ≡ unmarked (fields_of w) → leads v ≡ leads w
leads-same v w e = ap (λ (f : Fields). nat_eq f.count 255) e

told-same : (v w : ℕ) → fields_of v ≡ unmarked (fields_of w) → leads w ≡ false → slots_told v ≡ slots_told w
told-same v w e l =
    let a : slots_told v ≡ count_of v = rw (leads-same v w e ∙ l) refl in
    let b : slots_told w ≡ count_of w = rw l refl in
    a ∙ ap (λ (f : Fields). f.count) e ∙ sym b

module _ (image : ImageWords) (old : List ℕ) (r : IsReady image old) (mid : List ℕ) (len : length mid ≡ length old)
    (cleared : (c : Chunk) → Contains (chunks old) c → (j : ℕ) → c.at ≤ j → j < c.at + c.size → IsCleared (file_store image.map.now old) old c j (get_or mid j 0)) where
  abbrev h : Store
  h = file_store image.map.now old

  abbrev cs : List Chunk
  cs = chunks old

  placed : (c : Chunk) → Contains cs c → Stands old 0 (length old) c
  placed c m = stands old 0 (length old) cs c (all-in_order old r.cut) (in_list cs c m)

  header : (c : Chunk) → Contains cs c → fields_of (get_or mid c.start 0) ≡ unmarked (fields_of (get_or old c.start 0))
  header c m = let l = (placed c m).lies in (cleared c m c.start l.lead (omega (arith, l.room))).header refl

  keeps : (c : Chunk) → Contains cs c → KeepsChunk old mid c
  keeps c m =
      let p = placed c m in
      let l = p.lies in
      let head = header c m in
      let sh = shape old c p.chunk in
      elim (cases_lt c.at c.start) [
        | inl a ↦ let e = (cleared c m c.at (omega arith) (omega (arith, l.room, l.lead))).before a in
            record { leads_first = ap leads e; slots = ap slots_told e; leads_start = leads-same (get_or mid c.start 0) (get_or old c.start 0) head }
        | inr a ↦
            let e : c.at ≡ c.start = omega (arith, l.lead) in
            let first_head : fields_of (get_or mid c.at 0) ≡ unmarked (fields_of (get_or old c.at 0)) = subst (λ n. fields_of (get_or mid n 0) ≡ unmarked (fields_of (get_or old n 0))) (sym e) head in
            let alone : leads (get_or old c.at 0) ≡ false = elim (cases_Bool (leads (get_or old c.start 0))) [
              | inl is ↦ let two : c.start ≡ c.at + 1 = rw is at sh.lead in absurd (omega (arith, two, e))
              | inr not ↦ ap (λ n. leads (get_or old n 0)) e ∙ not
            ] in
            record {
              leads_first = leads-same (get_or mid c.at 0) (get_or old c.at 0) first_head;
              slots = told-same (get_or mid c.at 0) (get_or old c.at 0) first_head alone;
              leads_start = leads-same (get_or mid c.start 0) (get_or old c.start 0) head;
            }
      ]

  row : Cuts mid 0 (length mid) cs
  row = subst (λ n. Cuts mid 0 n cs) (sym len) (keeps-row old mid 0 (length old) cs r.cut keeps)

  pub mid_chunks : chunks mid ≡ cs
  mid_chunks = chunks-are mid cs row

  pub mid_row : Cuts mid 0 (length mid) (chunks mid)
  mid_row = subst (Cuts mid 0 (length mid)) (sym mid_chunks) row

  pub mid_others : HaveNoForwarder old cs → HaveNoForwarder mid (chunks mid)
  mid_others none c m e =
      let k = subst (λ xs. Contains xs c) mid_chunks m in
      none c k (sym (ap (λ (f : Fields). f.class) (header c k)) ∙ e)

  module _ (new : List ℕ) (new_len : length new ≡ length mid)
      (turns : (c : Chunk) → Contains (chunks mid) c → (j : ℕ) → c.at ≤ j → j < c.at + c.size → IsTurned image.map.now mid c j (get_or new j 0)) where
    turned : (c : Chunk) → Contains cs c → (j : ℕ) → c.at ≤ j → j < c.at + c.size → IsTurned image.map.now mid c j (get_or new j 0)
    turned c m = turns c (subst (λ xs. Contains xs c) (sym mid_chunks) m)

    new_header : (c : Chunk) → Contains cs c → get_or new c.start 0 ≡ get_or mid c.start 0
    new_header c m = let l = (placed c m).lies in (turned c m c.start l.lead (omega (arith, l.room))).others (λ e. omega (arith, e))

    new_keeps : (c : Chunk) → Contains cs c → KeepsChunk mid new c
    new_keeps c m =
        let l = (placed c m).lies in
        keeps-same mid new c ((turned c m c.at (omega arith) (omega (arith, l.room, l.lead))).others (λ e. omega (arith, e, l.lead))) (new_header c m)

    new_row : Cuts new 0 (length new) cs
    new_row = subst (λ n. Cuts new 0 n cs) (sym new_len) (keeps-row mid new 0 (length mid) cs row new_keeps)

    pub settled_chunks : chunks new ≡ cs
    settled_chunks = chunks-are new cs new_row

    pub settled_row : Cuts new 0 (length new) (chunks new)
    settled_row = subst (Cuts new 0 (length new)) (sym settled_chunks) new_row

    final_header : (c : Chunk) → Contains cs c → fields_of (get_or new c.start 0) ≡ unmarked (fields_of (get_or old c.start 0))
    final_header c m = ap fields_of (new_header c m) ∙ header c m

    pub settled_clear : All (λ (c : Chunk). IsClear (get_or new c.start 0)) (chunks new)
    settled_clear k d l =
        let c = get_or (chunks new) k d in
        let m = subst (λ xs. Contains xs c) settled_chunks (Contains-get_or (chunks new) k d l) in
        let e = final_header c m in
        let p = (placed c m).lies in
        record {
          marked = ap (λ (f : Fields). f.marked) e;
          grey = ap (λ (f : Fields). f.grey) e;
          remembered = ap (λ (f : Fields). f.remembered) e;
          unused = subst HasNoUnusedBits (sym (new_header c m)) ((cleared c m c.start p.lead (omega (arith, p.room))).unused refl);
        }

    mid_class : (c : Chunk) → Contains cs c → class_of (get_or mid c.start 0) ≡ class_of (get_or old c.start 0)
    mid_class c m = ap (λ (f : Fields). f.class) (header c m)

    told_cell : (c : Chunk) → Contains cs c → h.cell c.start ≡ cell_from (fields_of (get_or old c.start 0)) (start_named (word_in image.map.now 0) old (get_or old (c.start + 1) 0)) (slots_of old c)
    told_cell c m = cell-at (word_in image.map.now 0) old 0 (length old) cs c (all-in_order old r.cut) (in_list cs c m) ∙ told (word_in image.map.now 0) old c

    -- a slot after the first walk
    mid_slot : (c : Chunk) → Contains cs c → (i : ℕ) → i < c.slots → get_or mid (c.start + 1 + i) 0 ≡ slot_in h c.start (h.cell c.start) i (get_or old (c.start + 1 + i) 0)
    mid_slot c m i l =
        let p = (placed c m).lies in
        let k : c.start + 1 + i - c.start - 1 ≡ i = omega arith in
        (cleared c m (c.start + 1 + i) (omega (arith, p.lead)) (omega (arith, p.slots))).slots (omega arith) (omega arith)
        ∙ ap (λ n. slot_in h c.start (h.cell c.start) n (get_or old (c.start + 1 + i) 0)) k

    target : (c : Chunk) → Contains cs c → class_of (get_or old c.start 0) ≢ 0 → class_of (get_or old c.start 0) ≡ 8
        → start_named heap_to new (get_or new (c.start + 1) 0) ≡ start_named (word_in image.map.now 0) old (get_or old (c.start + 1) 0)
    target c m n e =
        let p = (placed c m).lies in
        let w = get_or old (c.start + 1) 0 in
        let zero_more : c.start + 1 + 0 ≡ c.start + 1 = omega arith in
        let moved : h.cell c.start ≡ Moved (start_named (word_in image.map.now 0) old w) = told_cell c m ∙ made (fields_of (get_or old c.start 0)) (start_named (word_in image.map.now 0) old w) (slots_of old c) n e in
        let mid_word : get_or mid (c.start + 1) 0 ≡ w = elim (cases_lt 0 c.slots) [
          | inl l ↦ ap (λ k. get_or mid k 0) (sym zero_more) ∙ mid_slot c m 0 l ∙ ap (λ x. slot_in h c.start x 0 (get_or old (c.start + 1 + 0) 0)) moved ∙ ap (λ k. get_or old k 0) zero_more
          | inr l ↦ (cleared c m (c.start + 1) (omega (arith, p.lead)) (omega (arith, p.room))).behind (omega arith)
        ] in
        let new_word = (turned c m (c.start + 1) (omega (arith, p.lead)) (omega (arith, p.room))).target (mid_class c m ∙ e) refl in
        ap (start_named heap_to new) new_word ∙ heap_named (start_named (word_in image.map.now 0) mid (get_or mid (c.start + 1) 0)) (length new)
        ∙ ap (start_named (word_in image.map.now 0) mid) mid_word ∙ ap (unwrap_or (word_in image.map.now 0 w)) len
      where
        made : (f : Fields) (t : ℕ) (ws : List ℕ) → f.class ≢ 0 → f.class ≡ 8 → cell_from f t ws ≡ Moved t
        made f t ws a b = rw (ne_eqb f.class 0 a, eq-eqb f.class 8 b) refl

    slots_made : (c : Chunk) → Contains cs c → class_of (get_or old c.start 0) ≢ 0 → class_of (get_or old c.start 0) ≢ 8
        → slots_of new c ≡ settled_words h c.start (body_from (fields_of (get_or old c.start 0)) (slots_of old c))
    slots_made c m n o =
        let p = (placed c m).lies in
        let b = body_from (fields_of (get_or old c.start 0)) (slots_of old c) in
        let long_old : length (slots_of old c) ≡ c.slots = omega (arith, length-take c.slots (drop (c.start + 1) old), length-drop (c.start + 1) old, p.slots, p.before) in
        let long_new : length (slots_of new c) ≡ c.slots = omega (arith, length-take c.slots (drop (c.start + 1) new), length-drop (c.start + 1) new, p.slots, p.before, len, new_len) in
        let f : Fields = fields_of (get_or old c.start 0) in
        let there : h.cell c.start ≡ There b = told_cell c m ∙ to_object f (start_named (word_in image.map.now 0) old (get_or old (c.start + 1) 0)) (slots_of old c) (ne_eqb f.class 0 n) (ne_eqb f.class 8 o) in
        ext_get_or 0 _ _ (long_new ∙ sym long_old ∙ sym (length-settled h c.start b)) (λ i l.
        let low : i < c.slots = omega (arith, l, long_new) in
        let old_word : get_or (slots_of old c) i 0 ≡ get_or old (c.start + 1 + i) 0 = get_or-take c.slots (drop (c.start + 1) old) i 0 low ∙ get_or-drop (c.start + 1) old i 0 in
        get_or-take c.slots (drop (c.start + 1) new) i 0 low ∙ get_or-drop (c.start + 1) new i 0
        ∙ (turned c m (c.start + 1 + i) (omega (arith, p.lead)) (omega (arith, p.slots))).kept (λ e. o (sym (mid_class c m) ∙ e))
        ∙ mid_slot c m i low
        ∙ ap (λ x. slot_in h c.start x i (get_or old (c.start + 1 + i) 0)) there
        ∙ ap (settled_slot h c.start b i) (sym old_word)
        ∙ sym (settled-at h c.start b i (omega (arith, low, long_old))))

    read_made : (c : Chunk) → Contains cs c → read_cell heap_to new c ≡ settled_cell h c.start (read_cell (word_in image.map.now 0) old c)
    read_made c m =
        let f = fields_of (get_or old c.start 0) in
        told heap_to new c
        ∙ ap (λ g. cell_from g (start_named heap_to new (get_or new (c.start + 1) 0)) (slots_of new c)) (final_header c m)
        ∙ cell-made h c.start f (start_named (word_in image.map.now 0) old (get_or old (c.start + 1) 0)) (start_named heap_to new (get_or new (c.start + 1) 0)) (slots_of old c) (slots_of new c) (target c m) (slots_made c m)
        ∙ ap (settled_cell h c.start) (sym (told (word_in image.map.now 0) old c))

    pub settled : IsSettled h (row_store new)
    settled = record {
      more = [];
      starts = ap starts_of settled_chunks ∙ sym (append-nil (starts_of cs));
      free = λ k d l. absurd (omega arith);
      cells = λ s. ap (λ xs. cell_in heap_to new xs s) settled_chunks ∙ cells-mapped (word_in image.map.now 0) heap_to old new cs (settled_cell h) read_made (λ n. refl) s;
      names = omega (arith, len, new_len);
      behind = λ k d l. absurd (omega arith);
      to = refl;
    }
