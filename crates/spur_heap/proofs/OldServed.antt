-- A fresh object in old space: the heap is whole, its tables agree with its words, and graph and room are those that the need leaves.
use Rattle.std.proofs.Common.{◌≡◌, ◌≢◌, ◌⊎◌, ℕ, Bool, true, false, cond, ◌+◌, ◌<◌, ◌≤◌, eqb, leb, ltb, List, [], ◌∷◌, ◌++◌, length, get_or, refl, sym, ap, ◌∙◌, subst, arith, inl, inr}
use Rattle.std.proofs.lemmas.Bool.{cases_Bool, cases_eq, eq-eqb, ne_eqb, lt-ltb, le-ltb, lt-leb}
use Rattle.std.specs.List.{filter}
use Rattle.object_header.specs.Chunks.{Chunk, Cuts}
use Rattle.spur_graph.specs.Cells.{Body, Cell, Empty, There, read_cell, cell_in, first}
use Rattle.spur_graph.specs.Room.{Old, is_long, fresh_words, fresh_spot, placed}
use Rattle.spur_graph.specs.Serve.{OldAlone}
use Rattle.spur_graph.specs.FreeSizes.{shortened}
use Rattle.spur_graph.specs.HeapRoom.{spot_in}
use Rattle.spur_graph.specs.Spaces.{old_row, eden_row, past_row, young_row}
use Rattle.spur_graph.specs.Ordinary.{passes, is_ordinary, ordinary_starts}
use Rattle.spur_graph.specs.Heaps.{View, IsWhole, store_of, chunks_of, heap_to, heap_room, is_over, names_over}
use Rattle.heap_cells.specs.Rows.{starts_of}
use Rattle.heap_cells.proofs.AddedRoom.{room-taken, count-taken}
use Rattle.heap_cells.proofs.Adding.{Adds}
use Rattle.heap_cells.proofs.Cutting.{stands, cuts-in_order}
use Rattle.heap_cells.proofs.Internals.{heap-named}
use Rattle.heap_cells.proofs.Members.{In, in_list}
use Rattle.heap_cells.proofs.Splitting.{rows_before, rows_after, split_cell, starts_apart}
use Rattle.heap_cells.proofs.Keeping.{keeps_added}
use Rattle.free_lists.specs.Rows.{free_runs}
use Rattle.free_lists.specs.Lists.{Lists}
use Rattle.free_lists.specs.declared.lists.FreeLists.{FreeLists}
use Rattle.spur_heap.specs.Fresh.{fresh_start, fresh_chunk, fresh_body, fill_word, IsFreshRun}
use Rattle.spur_heap.specs.Allocating.{CanMake, Makes, KeepsObjects}
use Rattle.spur_heap.proofs.FreshNodes.{fresh_is_formed, fresh_slots_good, fresh_names_none}
use Rattle.spur_heap.proofs.FreshRuns.{fresh_places, fresh_is_chunk, fresh_is_there}
use Rattle.spur_heap.proofs.Made.{fill_pointer, fill_good, object_made}
use Rattle.spur_heap.proofs.RunSizes.{told_free, served_old, least_serves}
use Rattle.spur_heap.proofs.Served.{IsServed, xs, ys, f, f_at, f_size, size, within, inside, rest, rest_is, words_same, object_words}
use Rattle.spur_heap.proofs.Filled.{IsFresh, IsFilled, fresh_run_is, splits, f_free, filled_lists, rest_empty, room_after, room_before, rest_sizes}
use Rattle.spur_heap.proofs.Filled as filling
use Rattle.spur_heap.proofs.Taken.{IsTaken, over_either, over_nothing, nothing, taken_cells, taken_adds, taken_whole}

-- nil stands in old space
nil_old : (v : View) → IsWhole v → first (store_of v) 0 < v.spaces.old_end
nil_old v whole = go (old_row v.words v.spaces) refl
  where
    go : (cs : List Chunk) → old_row v.words v.spaces ≡ cs → first (store_of v) 0 < v.spaces.old_end
    go [] e = let five = whole.rows.five in absurd (omega (arith, five, ap (λ (ds : List Chunk). length ds) e))
    go (d ∷ ds) e =
        let s = stands v.words 0 v.spaces.old_end (d ∷ ds) d (cuts-in_order v.words 0 v.spaces.old_end (d ∷ ds) (subst (λ cs. Cuts v.words 0 v.spaces.old_end cs) e whole.rows.old)) (inl refl) in
        let is : first (store_of v) 0 ≡ d.start = ap (λ cs. get_or (starts_of (cs ++ young_row v.words v.spaces)) 0 0) e in
        omega (arith, is, s.lies.room, s.lies.before)

fill_not_over : (v : View) → IsWhole v → (format : ℕ) → format < 6 → is_over v.spaces.old_end (fill_word v format) ≡ false
fill_not_over v whole format low =
    let nil : ℕ = first (store_of v) 0 in
    ap (is_over v.spaces.old_end) (fill_pointer v whole format low) ∙ ap (passes (λ t. leb v.spaces.old_end t)) (heap-named nil) ∙ lt-leb v.spaces.old_end nil (nil_old v whole)

-- a row of which the first chunk is an object and nothing stands in the others
pub cells_of : (words : List ℕ) (c : Chunk) (b : Body) (rest : List Chunk) → read_cell heap_to words c ≡ There b → ((d : Chunk) → In rest d → read_cell heap_to words d ≡ Empty)
    → (t : ℕ) → cell_in heap_to words (c ∷ rest) t ≡ cond (eqb t c.start) (There b) Empty
unfolding cell_in
cells_of words c b rest there empty t = elim (cases_eq c.start t) [
  | inl e ↦
      ap (λ x. cond x (read_cell heap_to words c) (cell_in heap_to words rest t)) (eq-eqb c.start t e) ∙ there
      ∙ sym (ap (λ x. cond x (There b) Empty) (eq-eqb t c.start (sym e)))
  | inr n ↦
      ap (λ x. cond x (read_cell heap_to words c) (cell_in heap_to words rest t)) (ne_eqb c.start t n) ∙ nothing rest empty
      ∙ sym (ap (λ x. cond x (There b) Empty) (ne_eqb t c.start (λ e. n (sym e))))
]
  where
    nothing : (ds : List Chunk) → ((d : Chunk) → In ds d → read_cell heap_to words d ≡ Empty) → cell_in heap_to words ds t ≡ Empty
    nothing [] none = refl
    nothing (d ∷ ds) none = elim (cases_Bool (eqb d.start t)) [
      | inl on ↦ ap (λ x. cond x (read_cell heap_to words d) (cell_in heap_to words ds t)) on ∙ none d (inl refl)
      | inr off ↦ ap (λ x. cond x (read_cell heap_to words d) (cell_in heap_to words ds t)) off ∙ nothing ds (λ e m. none e (inr m))
    ]

pub overflow_is : (at slots : ℕ) → ltb at (fresh_start at slots) ≡ is_long slots
overflow_is at slots = go (is_long slots)
  where
    go : (b : Bool) → ltb at (cond b (at + 1) at) ≡ b
    go true = lt-ltb at (at + 1) (omega arith)
    go false = le-ltb at at (omega arith)

-- ---- an object was written in the words that were taken

module _ {v : View} {free free' : FreeLists} {mid new : List ℕ} {at class format slots : ℕ} (k : IsServed v free free' mid new at (fresh_words slots)) (can : CanMake class format slots)
    (run : IsFreshRun new at class format slots (fill_word v format)) where
  abbrev pub s : ℕ
  s = fresh_start at slots

  abbrev pub b : Body
  b = fresh_body class format slots (fill_word v format)

  abbrev pub u : View
  u = record v { words = new }

  abbrev n : ℕ
  n = fresh_words slots

  abbrev c : Chunk
  c = fresh_chunk at slots

  low : (f k).at ≤ s
  low = let p = fresh_places at slots in let e = f_at k in omega (arith, p.low, e)

  high : s < (f k).at + (f k).size
  high = let p = fresh_places at slots in let e = f_at k in let g = f_size k in let w = within k in omega (arith, p.end, e, g, w)

  is_filled : IsFilled v.phase new at n (c ∷ [])
  is_filled = record {
    cut = (fresh_is_chunk new at class format slots (fill_word v format) run, refl);
    some = omega arith;
    each = λ d m. elim m [
      | inl e ↦ subst (IsFresh v.phase new) e (fresh_run_is v.phase new at class format slots (fill_word v format) can.no_free run)
      | inr none ↦ absurd none
    ];
  }

  is_taken : IsTaken v new (xs k) (ys k) (f k) (c ∷ rest k)
  is_taken = filling.is_taken k is_filled

  abbrev more : ℕ → Cell → Cell
  more t x = cond (eqb t s) (There b) x

  cells : (t : ℕ) → cell_in heap_to new (c ∷ rest k) t ≡ more t Empty
  cells = cells_of new c b (rest k) (fresh_is_there new at class format slots (fill_word v format) run (inside k) can.no_free can.no_forwarder) (rest_is k).empty

  apart : (t : ℕ) → (t < (f k).at) ⊎ ((f k).at + (f k).size ≤ t) → t ≢ s
  apart t out e = elim out [ inl l ↦ omega (arith, l, e, low) | inr l ↦ omega (arith, l, e, high) ]

  pub old_adds : Adds (store_of v) (store_of u) s b
  old_adds = taken_adds is_taken k.whole (store_of v) s b k.whole.sound refl refl (λ j l. refl) (nothing is_taken k.whole s low high)
      (taken_cells is_taken k.whole more (λ t x out. ap (λ y. cond y (There b) x) (ne_eqb t s (apart t out))) cells)
      (fresh_is_formed class format slots (fill_word v format) can) (fresh_slots_good class format slots (fill_word v format) can (store_of v) (fill_good v k.whole format))

  pub old_whole : IsWhole u
  old_whole = taken_whole is_taken k.whole (keeps_added old_adds) (λ t from to.
      ap (names_over v.spaces.old_end) (split_cell (splits k is_filled) t from to ∙ cells t)
      ∙ over_either v.spaces.old_end t s b Empty (fresh_names_none class format slots (fill_word v format) can v.spaces.old_end (fill_not_over v k.whole format)) (over_nothing v.spaces.old_end))

  pub old_lists : Lists new free' (free_runs new (old_row new v.spaces))
  old_lists = filled_lists k is_filled

  -- ---- the room, and the number of objects

  away : (d : Chunk) → In (xs k ++ (ys k ++ (eden_row v.words v.spaces ++ past_row v.words v.spaces))) d → d.start ≢ s
  away d m = starts_apart (splits k is_filled) s low high d m

  room_is : heap_room u ≡ placed (served_old v k.whole n (size k)).room s (fresh_spot Old slots)
  room_is =
      let spot : spot_in Old c ≡ fresh_spot Old slots = λ i. record { space = Old; words = n; overflow = overflow_is at slots i } in
      room_after k is_filled
      ∙ room-taken old_adds (xs k) (rest k) (ys k) (eden_row v.words v.spaces) (past_row v.words v.spaces) (f k) c refl (f_free k is_filled) (rest_empty k is_filled) away n v.spaces.old_end v.limits
      v.spaces.eden_used v.spaces.past_used (rest_sizes k is_filled)
      ∙ (λ i. placed (record (room_before k is_filled i) { free = shortened n (f_size k i) (room_before k is_filled i).free }) s (spot i))

  pub old_count : length (ordinary_starts (store_of u)) ≡ length (ordinary_starts (store_of v)) + 1
  unfolding ordinary_starts
  old_count =
      ap (λ cs. length (filter (is_ordinary (store_of u)) (starts_of cs))) (rows_after (splits k is_filled))
      ∙ count-taken old_adds (xs k) (rest k) (ys k) (eden_row v.words v.spaces) (past_row v.words v.spaces) (f k) c refl (f_free k is_filled) (rest_empty k is_filled) away
      ∙ ap (λ cs. length (filter (is_ordinary (store_of v)) (starts_of cs)) + 1) (sym (rows_before (splits k is_filled)))

  keeps_objects : KeepsObjects v u
  keeps_objects d j m kept from to =
      let there = in_list (chunks_of v) d m in
      words_same k j (object_words k d there (told_free v k.whole d there ∙ kept) j from to)

  pub old_made : Makes v u OldAlone class format slots s
  old_made = object_made v k.whole new v.spaces class format slots s can old_adds (k.long ∙ k.mid_long) OldAlone (served_old v k.whole n (size k)) (least_serves v k.whole n at (size k) k.takes.fitting) room_is (λ old. refl) keeps_objects
