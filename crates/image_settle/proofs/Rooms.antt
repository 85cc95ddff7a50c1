-- A free chunk behind settled words.
use Rattle.std.proofs.Common.{◌≡◌, ℕ, Bool, true, false, cond, ◌+◌, ◌-◌, ◌<◌, ◌≤◌, max, List, [], ◌∷◌, ◌++◌, length, get_or, take, drop, refl, sym, ap, ◌∙◌, subst, inl, inr, arith, nat_eq, ltb}
use Rattle.std.specs.List.{All}
use Rattle.std.proofs.lemmas.Bool.{cases_Bool, ne_eqb, eq-eqb, lt-ltb, le-ltb, false≢true}
use Rattle.std.proofs.lemmas.List.{length-take-le, length-drop, length-append, get_or-drop, get_or-take, get_or_append_left, take-append-drop, take-take, append_assoc, append-nil}
use Rattle.std.proofs.lemmas.List.Elements.{Contains-get_or, All-push, All-contains}
use Rattle.object_header.specs.Fields.{Fields, fields_of, free_fields}
use Rattle.object_header.specs.Head.{count_of, overflow_slots_of, class_of}
use Rattle.object_header.specs.Chunks.{Chunk, leads, slots_told, chunk_of, Cuts, chunks}
use Rattle.spur_graph.specs.Cells.{Cell, Empty, Moved, There, Store, cell_in, is_moved, is_start, target_of}
use Rattle.spur_graph.specs.Heaps.{HasNoUnusedBits, heap_to, row_store, IsClear}
use Rattle.heap_cells.specs.Settled.{IsSettled, settled_cell}
use Rattle.heap_cells.specs.Rows.{starts_of}
use Rattle.heap_cells.specs.RowWrites.{IsFreeChunk, Appends}
use Rattle.heap_cells.proofs.CellKinds.{there_starts, moved_is}
use Rattle.heap_cells.proofs.Members.{in_list}
use Rattle.heap_cells.proofs.Cutting.{stands, all-in_order}
use Rattle.heap_cells.proofs.Writing.{chunk_by}
use Rattle.heap_cells.proofs.Appending.{shifted_start, shifted_size, appended}
use Rattle.image_settle.specs.Rooms.{IsRoom, IsAlone, HasRoom, room_chunk, room_chunks}

-- ---- head words

abbrev record_chunk : ℕ → ℕ → ℕ → ℕ → Chunk
record_chunk at start size slots = record { at = at; start = start; size = size; slots = slots }

abbrev room_by : ℕ → ℕ → Bool → Chunk
room_by at room long = record_chunk at (cond long (at + 1) at) room (cond long (room - 2) (room - 1))

by_parts : (at start size slots start' size' slots' : ℕ) → start ≡ start' → size ≡ size' → slots ≡ slots' → record_chunk at start size slots ≡ record_chunk at start' size' slots'
by_parts at start size slots start' size' slots' a b c = λ i. record_chunk at (a i) (b i) (c i)

pub short_chunk : (at room w : ℕ) → 2 ≤ room → room ≤ 255 → count_of w ≡ room - 1 → chunk_of at w ≡ room_chunk at room
unfolding chunk_of
short_chunk at room w low high count =
    let l : leads w ≡ false = ne_eqb (count_of w) 255 (λ e. omega (arith, e, count)) in
    let s : slots_told w ≡ room - 1 = rw l count in
    ap (λ b. chunk_by at b (slots_told w)) l ∙ ap (chunk_by at false) s ∙ by_parts at at (1 + max 1 (room - 1)) (room - 1) at room (room - 1) refl (omega arith) refl
    ∙ sym (ap (room_by at room) (le-ltb 255 room high))

pub long_chunk : (at room v : ℕ) → 255 < room → count_of v ≡ 255 → overflow_slots_of v ≡ room - 2 → chunk_of at v ≡ room_chunk at room
unfolding chunk_of
long_chunk at room v high count slots =
    let l : leads v ≡ true = eq-eqb (count_of v) 255 count in
    let s : slots_told v ≡ room - 2 = rw l slots in
    ap (λ b. chunk_by at b (slots_told v)) l ∙ ap (chunk_by at true) s ∙ by_parts at (at + 1) (2 + max 1 (room - 2)) (room - 2) (at + 1) room (room - 2) refl (omega arith) refl
    ∙ sym (ap (room_by at room) (lt-ltb 255 room high))

free_is_clear : (w count : ℕ) → fields_of w ≡ free_fields count → HasNoUnusedBits w → IsClear w
free_is_clear w count e unused = record { marked = ap (λ (f : Fields). f.marked) e; grey = ap (λ (f : Fields). f.grey) e; remembered = ap (λ (f : Fields). f.remembered) e; unused = unused }

-- a short one has one head word
pub short_room : (words : List ℕ) (at room w : ℕ) → 2 ≤ room → room ≤ 255 → get_or words at 0 ≡ w → fields_of w ≡ free_fields (room - 1) → HasNoUnusedBits w → IsRoom words at room
short_room words at room w low high is f unused =
    let start : (room_chunk at room).start ≡ at = ap (λ b. cond b (at + 1) at) (le-ltb 255 room high) in
    let head : get_or words (room_chunk at room).start 0 ≡ w = ap (λ n. get_or words n 0) start ∙ is in
    record {
      chunk = short_chunk at room (get_or words at 0) low high (ap count_of is ∙ ap (λ (x : Fields). x.count) f);
      twice = ap (λ n. leads (get_or words n 0)) start;
      free = ap (λ n. (fields_of n).class) head ∙ ap (λ (x : Fields). x.class) f;
      clear = subst IsClear (sym head) (free_is_clear w (room - 1) f unused);
    }

-- a long one has two
pub long_room : (words : List ℕ) (at room v w : ℕ) → 255 < room → get_or words at 0 ≡ v → get_or words (at + 1) 0 ≡ w → count_of v ≡ 255 → overflow_slots_of v ≡ room - 2 → fields_of w ≡ free_fields 255
    → HasNoUnusedBits w → IsRoom words at room
long_room words at room v w high is next count slots f unused =
    let start : (room_chunk at room).start ≡ at + 1 = ap (λ b. cond b (at + 1) at) (lt-ltb 255 room high) in
    let head : get_or words (room_chunk at room).start 0 ≡ w = ap (λ n. get_or words n 0) start ∙ next in
    record {
      chunk = long_chunk at room (get_or words at 0) high (ap count_of is ∙ count) (ap overflow_slots_of is ∙ slots);
      twice = ap leads head ∙ eq-eqb (count_of w) 255 (ap (λ (x : Fields). x.count) f) ∙ sym (eq-eqb (count_of v) 255 count) ∙ ap leads (sym is);
      free = ap (λ n. (fields_of n).class) head ∙ ap (λ (x : Fields). x.class) f;
      clear = subst IsClear (sym head) (free_is_clear w 255 f unused);
    }

-- ---- the words behind

-- the room by itself
free_chunk : (words : List ℕ) (at room : ℕ) → 2 ≤ room → at + room ≡ length words → IsRoom words at room → IsFreeChunk (drop at words)
free_chunk words at room low end k =
    let at0 : at + 0 ≡ at = omega arith in
    let first : get_or (drop at words) 0 0 ≡ get_or words at 0 = get_or-drop at words 0 0 ∙ ap (λ n. get_or words n 0) at0 in
    let start : at + (chunk_of 0 (get_or (drop at words) 0 0)).start ≡ (room_chunk at room).start =
    ap (λ w. at + (chunk_of 0 w).start) first ∙ sym (shifted_start at (get_or words at 0)) ∙ ap (λ (c : Chunk). c.start) k.chunk in
    let head : get_or (drop at words) (chunk_of 0 (get_or (drop at words) 0 0)).start 0 ≡ get_or words (room_chunk at room).start 0 =
    get_or-drop at words (chunk_of 0 (get_or (drop at words) 0 0)).start 0 ∙ ap (λ n. get_or words n 0) start in
    record {
      size = ap (λ w. (chunk_of 0 w).size) first ∙ sym (shifted_size at (get_or words at 0)) ∙ ap (λ (c : Chunk). c.size) k.chunk ∙ omega (arith, length-drop at words);
      twice = ap leads head ∙ k.twice ∙ ap leads (sym first);
      free = ap class_of head ∙ k.free;
    }

not_moved : (h : Store) (s t : ℕ) (x : Cell) → settled_cell h s x ≡ Moved t → x ≡ Moved t
not_moved h s t Empty e = absurd cc
not_moved h s t (Moved u) e = e
not_moved h s t (There b) e = absurd cc

empty_stays : (h : Store) (s : ℕ) (x : Cell) → is_start x ≡ false → settled_cell h s x ≡ Empty
empty_stays h s Empty e = refl
empty_stays h s (Moved t) e = absurd (false≢true (sym e))
empty_stays h s (There b) e = absurd (false≢true (sym e))

module _ (h : Store) (words : List ℕ) (k : IsAlone h words) where
  abbrev cs : List Chunk
  cs = chunks words

  below_names : (s : ℕ) → is_start (h.cell s) ≡ true → s < h.names
  below_names s e = All-contains (λ s. s < h.names) h.starts s k.named.starts_below (k.named.inside s e)

  -- each forwarder names a place among the words
  named : (s : ℕ) → is_moved (cell_in heap_to words cs s) ≡ true → target_of (cell_in heap_to words cs s) < length words
  named s m =
      let t = target_of (cell_in heap_to words cs s) in
      let e : h.cell s ≡ Moved t = not_moved h s t (h.cell s) (sym (k.settled.cells s) ∙ moved_is (cell_in heap_to words cs s) m) in
      let b = below_names t (there_starts (h.cell t) (k.resolved s t e)) in
      let n = k.settled.names in
      omega arith

  nothing : (s : ℕ) → length words ≤ s → cell_in heap_to words cs s ≡ Empty
  nothing s l = k.settled.cells s ∙ empty_stays h s (h.cell s) (elim (cases_Bool (is_start (h.cell s))) [
    | inl e ↦ let n = k.settled.names in absurd (omega (arith, below_names s e))
    | inr e ↦ e
  ])

  module _ (room : List ℕ) (free : IsFreeChunk room) (clear : IsClear (get_or (words ++ room) (chunk_of (length words) (get_or room 0 0)).start 0)) where
    abbrev c : Chunk
    c = chunk_of (length words) (get_or room 0 0)

    abbrev new : List ℕ
    new = words ++ room

    law : Appends heap_to words room cs c
    law = appended heap_to words room cs k.cut free named

    cell : (s : ℕ) → (row_store new).cell s ≡ cell_in heap_to words cs s
    cell s = ap (λ xs. cell_in heap_to new xs s) law.chunks ∙ law.cell s

    pub room_settled : IsSettled h (row_store new)
    room_settled = record {
      more = k.settled.more ++ c.start ∷ [];
      starts = ap starts_of law.chunks ∙ law.starts ∙ ap (λ xs. xs ++ c.start ∷ []) k.settled.starts ∙ append_assoc h.starts k.settled.more (c.start ∷ []);
      free = All-push (λ s. (row_store new).cell s ≡ Empty) k.settled.more c.start (λ i d l. cell (get_or k.settled.more i d) ∙ k.settled.free i d l) (cell c.start ∙ nothing c.start law.behind);
      cells = λ s. cell s ∙ k.settled.cells s;
      names = let n = k.settled.names in omega (arith, length-append words room);
      behind = All-push (λ s. h.names ≤ s) k.settled.more c.start k.settled.behind (let n = k.settled.names in omega (arith, law.behind));
      to = refl;
    }

    pub room_cut : Cuts new 0 (length new) (chunks new)
    room_cut = subst (Cuts new 0 (length new)) (sym law.chunks) law.row

    pub room_listed : chunks new ≡ cs ++ c ∷ []
    room_listed = law.chunks

    pub room_clear : All (λ (d : Chunk). IsClear (get_or new d.start 0)) (chunks new)
    room_clear = subst (All (λ (d : Chunk). IsClear (get_or new d.start 0))) (sym law.chunks) (All-push (λ (d : Chunk). IsClear (get_or new d.start 0)) cs c
        (λ i d l.
        let x = get_or cs i d in
        let p = (stands words 0 (length words) cs x (all-in_order words k.cut) (in_list cs x (Contains-get_or cs i d l))).lies in
        subst IsClear (sym (get_or_append_left words room 0 x.start (omega (arith, p.room, p.before)))) (k.clear i d l))
        clear)

-- ---- both

pub no_room : (h : Store) (words : List ℕ) → IsAlone h words → HasRoom h words words 0
no_room h words k = record { settled = k.settled; cut = k.cut; chunks_are = sym (append-nil (chunks words)); clear = k.clear }

pub has_room : (h : Store) (old new : List ℕ) (at room : ℕ) → 2 ≤ room → at + room ≡ length new → take at new ≡ take at old → IsRoom new at room → IsAlone h (take at old) → HasRoom h (take at old) new room
has_room h old new at room low end same r k =
    let words = take at old in
    let whole : words ++ drop at new ≡ new = ap (λ xs. xs ++ drop at new) (sym same) ∙ take-append-drop at new in
    let long : length words ≡ at = ap length (sym same) ∙ length-take-le at new (omega arith) in
    let free = free_chunk new at room low end r in
    let at0 : at + 0 ≡ at = omega arith in
    let first : get_or (drop at new) 0 0 ≡ get_or new at 0 = get_or-drop at new 0 0 ∙ ap (λ n. get_or new n 0) at0 in
    let c : chunk_of (length words) (get_or (drop at new) 0 0) ≡ room_chunk at room = ap (λ n. chunk_of n (get_or (drop at new) 0 0)) long ∙ ap (chunk_of at) first ∙ r.chunk in
    let head : get_or (words ++ drop at new) (chunk_of (length words) (get_or (drop at new) 0 0)).start 0 ≡ get_or new (room_chunk at room).start 0 =
    ap (λ xs. get_or xs (chunk_of (length words) (get_or (drop at new) 0 0)).start 0) whole ∙ ap (λ (x : Chunk). get_or new x.start 0) c in
    let clear = subst IsClear (sym head) r.clear in
    let some : nat_eq room 0 ≡ false = ne_eqb room 0 (λ e. omega (arith, e)) in
    let here : room_chunk at room ∷ [] ≡ room_chunks (length words) room = ap (λ n. room_chunk n room ∷ []) (sym long) ∙ sym (ap (λ b. cond b [] (room_chunk (length words) room ∷ [])) some) in
    record {
      settled = subst (λ xs. IsSettled h (row_store xs)) whole (room_settled h words k (drop at new) free clear);
      cut = subst (λ xs. Cuts xs 0 (length xs) (chunks xs)) whole (room_cut h words k (drop at new) free clear);
      chunks_are = ap chunks (sym whole) ∙ room_listed h words k (drop at new) free clear ∙ ap (λ x. chunks words ++ x ∷ []) c ∙ ap (λ xs. chunks words ++ xs) here;
      clear = subst (λ xs. All (λ (d : Chunk). IsClear (get_or xs d.start 0)) (chunks xs)) whole (room_clear h words k (drop at new) free clear);
    }

-- ---- the same with words behind the room

pub no_room_among : (h : Store) (words : List ℕ) (at room : ℕ) → room ≡ 0 → IsAlone h (take at words) → HasRoom h (take at words) (take (at + room) words) room
no_room_among h words at room none k =
    let e : at ≡ at + room = omega (arith, none) in
    subst (λ n. HasRoom h (take at words) (take (at + room) words) n) (sym none) (subst (λ n. HasRoom h (take at words) (take n words) 0) e (no_room h (take at words) k))

room_start : (at room : ℕ) → 2 ≤ room → (at ≤ (room_chunk at room).start) × ((room_chunk at room).start < at + room)
room_start at room low = elim (cases_Bool (ltb 255 room)) [
  | inl on ↦ rw on (omega arith, omega arith)
  | inr off ↦ rw off (omega arith, omega arith)
]

pub has_room_among : (h : Store) (old new : List ℕ) (at room : ℕ) → 2 ≤ room → at + room ≤ length new → take at new ≡ take at old → IsRoom new at room → IsAlone h (take at old) → HasRoom h (take at old) (take (at + room) new) room
has_room_among h old new at room low within same r k =
    let front : List ℕ = take (at + room) new in
    let first : get_or front at 0 ≡ get_or new at 0 = get_or-take (at + room) new at 0 (omega arith) in
    let head : get_or front (room_chunk at room).start 0 ≡ get_or new (room_chunk at room).start 0 = get_or-take (at + room) new (room_chunk at room).start 0 (room_start at room low).1 in
    has_room h old front at room low (sym (length-take-le (at + room) new within)) (take-take at (at + room) new (omega arith) ∙ same) (record {
      chunk = ap (chunk_of at) first ∙ r.chunk;
      twice = ap leads head ∙ r.twice ∙ ap leads (sym first);
      free = ap (λ w. (fields_of w).class) head ∙ r.free;
      clear = subst IsClear (sym head) r.clear;
    }) k
