-- Two fresh objects at the low end of a free chunk of old space: the heap is whole, its tables agree with its words, and graph and room are those that
-- the need of both leaves.
use Rattle.std.proofs.Common.{◌≡◌, ◌≢◌, ◌⊎◌, ℕ, cond, not, ◌+◌, ◌<◌, ◌≤◌, ◌^◌, eqb, List, [], ◌∷◌, ◌++◌, refl, sym, ap, ◌∙◌, subst, arith, inl, inr}
use Rattle.std.proofs.lemmas.Bool.{cases_eq, eq-eqb, ne_eqb}
use Rattle.object_header.specs.Chunks.{Chunk}
use Rattle.spur_graph.specs.Cells.{Body, Store, Cell, Empty, There, is_start, read_cell, cell_in}
use Rattle.spur_graph.specs.Room.{Old, fresh_words, fresh_spot, placed}
use Rattle.spur_graph.specs.FreeSizes.{shortened}
use Rattle.spur_graph.specs.HeapRoom.{spot_in}
use Rattle.spur_graph.specs.Spaces.{old_row, eden_row, past_row, young_row}
use Rattle.spur_graph.specs.Heaps.{View, IsWhole, store_of, chunks_of, heap_to, heap_room, names_over}
use Rattle.heap_cells.proofs.AddedGraph.{row-has_starts}
use Rattle.heap_cells.proofs.AddedTwice.{room-taken_twice}
use Rattle.heap_cells.proofs.Adding.{Adds, added-sound}
use Rattle.heap_cells.proofs.Keeping.{keeps_added, keeps_both, with_object, firsts_stay, object_adds, object_has_starts}
use Rattle.heap_cells.proofs.Members.{In, listed, in_left, in_right}
use Rattle.heap_cells.proofs.Splitting.{rows_after, split_cell, starts_apart}
use Rattle.free_lists.specs.Runs.{cover}
use Rattle.free_lists.specs.Rows.{free_runs}
use Rattle.free_lists.specs.Lists.{Lists}
use Rattle.free_lists.specs.declared.lists.FreeLists.{FreeLists}
use Rattle.spur_heap.specs.Fresh.{fresh_start, fresh_chunk}
use Rattle.spur_heap.specs.Outside.{IsOutside}
use Rattle.spur_heap.specs.Pairing.{MakesPair}
use Rattle.spur_heap.specs.Views.{IsOutsideFree}
use Rattle.spur_heap.specs.declared.allocation.TheConstants.{BLANK_CLASS, BLANK_FORMAT}
use Rattle.spur_heap.proofs.EdenServed.{old_has_to}
use Rattle.spur_heap.proofs.Filled.{IsFresh, IsFilled, fresh_run_is, splits, f_free, filled_lists, filled_order, rest_empty, room_after, room_before, rest_sizes}
use Rattle.spur_heap.proofs.Filled as filling
use Rattle.spur_heap.proofs.FreeRuns.{covered_by}
use Rattle.spur_heap.proofs.FreshRuns.{fresh_places, fresh_is_chunk, fresh_is_there}
use Rattle.spur_heap.proofs.OldServed.{cells_of, overflow_is}
use Rattle.spur_heap.proofs.Paired.{WritesPair, AddsPair, blank_body, can_blank, blank_formed, blank_slots_good, blank_names_none, first_stays, outside_chunk, pair_made}
use Rattle.spur_heap.proofs.RunSizes.{told_free, served_old, least_serves}
use Rattle.spur_heap.proofs.Served.{IsServed, among, xs, ys, f, f_at, f_size, size, within, inside, rest, rest_is, words_same}
use Rattle.spur_heap.proofs.Taken.{IsTaken, over_either, over_nothing, nothing, taken_cells, taken_adds, taken_whole}

-- a row of which the first two chunks are objects and nothing stands in the others
cells_of_two : (words : List ℕ) (c e : Chunk) (b d : Body) (rest : List Chunk) → c.start ≢ e.start → read_cell heap_to words c ≡ There b → read_cell heap_to words e ≡ There d
    → ((x : Chunk) → In rest x → read_cell heap_to words x ≡ Empty) → (t : ℕ) → cell_in heap_to words (c ∷ e ∷ rest) t ≡ cond (eqb t e.start) (There d) (cond (eqb t c.start) (There b) Empty)
unfolding cell_in
cells_of_two words c e b d rest apart there other empty t = elim (cases_eq c.start t) [
  | inl here ↦
      ap (λ x. cond x (read_cell heap_to words c) (cell_in heap_to words (e ∷ rest) t)) (eq-eqb c.start t here) ∙ there
      ∙ sym (ap (λ x. cond (eqb t e.start) (There d) (cond x (There b) Empty)) (eq-eqb t c.start (sym here)) ∙ ap (λ x. cond x (There d) (There b)) (ne_eqb t e.start (λ q. apart (here ∙ q))))
  | inr n ↦
      ap (λ x. cond x (read_cell heap_to words c) (cell_in heap_to words (e ∷ rest) t)) (ne_eqb c.start t n) ∙ cells_of words e d rest other empty t
      ∙ sym (ap (λ x. cond (eqb t e.start) (There d) (cond x (There b) Empty)) (ne_eqb t c.start (λ q. n (sym q))))
]

-- a word outside the free chunks is in none of their runs
uncovered : (v : View) → IsWhole v → (j : ℕ) → IsOutsideFree v j → cover (free_runs v.words (old_row v.words v.spaces)) j ≡ 0
uncovered v whole j out = elim (cases_eq (cover (free_runs v.words (old_row v.words v.spaces)) j) 0) [
  | inl none ↦ none
  | inr some ↦
      let h = covered_by v.words (old_row v.words v.spaces) j (omega (arith, some)) in
      let free = sym (told_free v whole h.chunk (in_left (old_row v.words v.spaces) (young_row v.words v.spaces) h.chunk h.inside)) ∙ h.free in
      elim (out h.chunk (listed (old_row v.words v.spaces) h.chunk h.inside) free) [
        | inl l ↦ let from = h.from in absurd (omega (arith, l, from))
        | inr l ↦ let to = h.to in absurd (omega (arith, l, to))
      ]
]

module _ {v : View} {free free' : FreeLists} {taken mid new : List ℕ} {at first second : ℕ} (k : IsServed v free free' taken new at (fresh_words first + fresh_words second))
    (few_first : first ≤ 2 ^ 27) (few_second : second ≤ 2 ^ 27) (w : WritesPair taken mid new at first second) where
  abbrev n : ℕ
  n = fresh_words first

  abbrev m : ℕ
  m = fresh_words second

  abbrev c : Chunk
  c = fresh_chunk at first

  abbrev e : Chunk
  e = fresh_chunk (at + n) second

  abbrev s : ℕ
  s = fresh_start at first

  abbrev t : ℕ
  t = fresh_start (at + n) second

  abbrev b : Body
  b = blank_body first

  abbrev d : Body
  d = blank_body second

  abbrev pub u : View
  u = record v { words = new }

  -- where the two stand in the chunk
  record Lie : Type 0 where
    low_s : (f k).at ≤ s
    low_t : s + 2 ≤ t
    high_s : s < (f k).at + (f k).size
    high_t : t < (f k).at + (f k).size
    room : n < (f k).size

  lie : Lie
  lie =
      let p = fresh_places at first in
      let q = fresh_places (at + n) second in
      let a = f_at k in
      let z = f_size k in
      let l = within k in
      record {
        low_s = omega (arith, p.low, a);
        low_t = omega (arith, p.end, q.low);
        high_s = omega (arith, p.end, a, z, l);
        high_t = omega (arith, q.end, a, z, l);
        room = omega (arith, q.some, z, l);
      }

  apart : s ≢ t
  apart same = let l = lie.low_t in omega (arith, l, same)

  is_filled : IsFilled v.phase new at (n + m) (c ∷ e ∷ [])
  is_filled = record {
    cut = (fresh_is_chunk new at BLANK_CLASS BLANK_FORMAT first 0 (first_stays w), (fresh_is_chunk new (at + n) BLANK_CLASS BLANK_FORMAT second 0 w.two, omega (arith)));
    some = omega arith;
    each = λ x own. elim own [
      | inl same ↦ subst (IsFresh v.phase new) same (fresh_run_is v.phase new at BLANK_CLASS BLANK_FORMAT first 0 (can_blank first few_first).no_free (first_stays w))
      | inr more ↦ elim more [
        | inl same ↦ subst (IsFresh v.phase new) same (fresh_run_is v.phase new (at + n) BLANK_CLASS BLANK_FORMAT second 0 (can_blank second few_second).no_free w.two)
        | inr none ↦ absurd none
      ]
    ];
  }

  is_taken : IsTaken v new (xs k) (ys k) (f k) (c ∷ e ∷ rest k)
  is_taken = filling.is_taken k is_filled

  abbrev more : ℕ → Cell → Cell
  more x cell = cond (eqb x t) (There d) (cond (eqb x s) (There b) cell)

  cells : (x : ℕ) → cell_in heap_to new (c ∷ e ∷ rest k) x ≡ more x Empty
  cells =
      let p = fresh_places (at + n) second in
      let all = inside k in
      cells_of_two new c e b d (rest k) apart
      (fresh_is_there new at BLANK_CLASS BLANK_FORMAT first 0 (first_stays w) (omega (arith, all)) (can_blank first few_first).no_free (can_blank first few_first).no_forwarder)
      (fresh_is_there new (at + n) BLANK_CLASS BLANK_FORMAT second 0 w.two (omega (arith, all)) (can_blank second few_second).no_free (can_blank second few_second).no_forwarder)
      (rest_is k).empty

  unchanged : (x : ℕ) (cell : Cell) → (x < (f k).at) ⊎ ((f k).at + (f k).size ≤ x) → more x cell ≡ cell
  unchanged x cell out =
      let l = lie in
      let not_s : x ≢ s = λ q. elim out [ inl o ↦ omega (arith, o, q, l.low_s) | inr o ↦ omega (arith, o, q, l.high_s) ] in
      let not_t : x ≢ t = λ q. elim out [ inl o ↦ omega (arith, o, q, l.low_s, l.low_t) | inr o ↦ omega (arith, o, q, l.high_t) ] in
      ap (λ y. cond y (There d) (cond (eqb x s) (There b) cell)) (ne_eqb x t not_t) ∙ ap (λ y. cond y (There b) cell) (ne_eqb x s not_s)

  -- ---- one object after the other

  abbrev middle : Store
  middle = with_object (store_of v) s b

  one : Adds (store_of v) middle s b
  one = object_adds (store_of v) s b k.whole.sound (nothing is_taken k.whole s lie.low_s lie.high_s) (blank_formed first few_first) (blank_slots_good first few_first (store_of v))

  two : Adds middle (store_of u) t d
  two =
      let low : (f k).at ≤ t = let l = lie in omega (arith, l.low_s, l.low_t) in
      let none : middle.cell t ≡ Empty = ap (λ x. cond x (There b) ((store_of v).cell t)) (ne_eqb t s (λ q. apart (sym q))) ∙ nothing is_taken k.whole t low lie.high_t in
      taken_adds is_taken k.whole middle t d (added-sound one) refl refl (firsts_stay (store_of v) s b k.whole.sound) none (taken_cells is_taken k.whole more unchanged cells)
      (blank_formed second few_second) (blank_slots_good second few_second middle)

  pub old_pair_adds : AddsPair v new v.spaces first second s t
  old_pair_adds = record {
    whole = k.whole;
    few_first = few_first;
    few_second = few_second;
    middle = middle;
    has = object_has_starts (store_of v) s b k.whole.sound (row-has_starts heap_to v.words (chunks_of v));
    one = one;
    two = two;
    long = k.long ∙ k.mid_long;
  }

  pub old_pair_whole : IsWhole u
  old_pair_whole = taken_whole is_taken k.whole (keeps_both (keeps_added one) (keeps_added two)) (λ x from to.
      ap (names_over v.spaces.old_end) (split_cell (splits k is_filled) x from to ∙ cells x)
      ∙ over_either v.spaces.old_end x t d (cond (eqb x s) (There b) Empty) (blank_names_none second few_second v.spaces.old_end)
      (over_either v.spaces.old_end x s b Empty (blank_names_none first few_first v.spaces.old_end) (over_nothing v.spaces.old_end)))

  pub old_pair_lists : Lists new free' (free_runs new (old_row new v.spaces))
  old_pair_lists = filled_lists k is_filled

  -- ---- the room

  room_is : heap_room u ≡ placed (placed (served_old v k.whole (n + m) (size k)).room s (fresh_spot Old first)) t (fresh_spot Old second)
  room_is =
      let spot_s : spot_in Old c ≡ fresh_spot Old first = λ i. record { space = Old; words = n; overflow = overflow_is at first i } in
      let spot_t : spot_in Old e ≡ fresh_spot Old second = λ i. record { space = Old; words = m; overflow = overflow_is (at + n) second i } in
      let l = lie in
      room_after k is_filled
      ∙ room-taken_twice one two (xs k) (rest k) (ys k) (eden_row v.words v.spaces) (past_row v.words v.spaces) (f k) c e refl refl (f_free k is_filled) (rest_empty k is_filled)
      (λ x own. starts_apart (splits k is_filled) s l.low_s l.high_s x own) (λ x own. starts_apart (splits k is_filled) t (omega (arith, l.low_s, l.low_t)) l.high_t x own)
      n m v.spaces.old_end v.limits v.spaces.eden_used v.spaces.past_used l.room (rest_sizes k is_filled)
      ∙ (λ i. placed (placed (record (room_before k is_filled i) { free = shortened (n + m) (f_size k i) (room_before k is_filled i).free }) s (spot_s i)) t (spot_t i))

  -- ---- the words outside

  outside : (j : ℕ) → IsOutsideFree v j → IsOutside u s j × IsOutside u t j
  outside j out =
      let there : In (old_row v.words v.spaces) (f k) = subst (λ cs. In cs (f k)) (sym (among k).is) (in_right (xs k) (f k ∷ ys k) (f k) (inl refl)) in
      let beside : (j < (f k).at) ⊎ ((f k).at + (f k).size ≤ j) = out (f k) (listed (old_row v.words v.spaces) (f k) there) (ap (λ x. not (is_start x)) (f_free k is_filled)) in
      let tail : List Chunk = ys k ++ young_row v.words v.spaces in
      let in_rows : (x : Chunk) → In (c ∷ e ∷ rest k) x → In (chunks_of u) x = λ x own.
      subst (λ cs. In cs x) (sym (rows_after (splits k is_filled))) (in_right (xs k) ((c ∷ e ∷ rest k) ++ tail) x (in_left (c ∷ e ∷ rest k) tail x own)) in
      let a = f_at k in
      let z = f_size k in
      let l = within k in (
        outside_chunk u (filled_order k is_filled) c (in_rows c (inl refl)) j (elim beside [ inl o ↦ inl (omega (arith, o, a)) | inr o ↦ inr (omega (arith, o, a, z, l)) ]),
        outside_chunk u (filled_order k is_filled) e (in_rows e (inr (inl refl))) j (elim beside [ inl o ↦ inl (omega (arith, o, a)) | inr o ↦ inr (omega (arith, o, a, z, l)) ]),
      )

  pub old_pair_makes : (heap_room v).eden_left < n + m → MakesPair v u first second s t
  old_pair_makes none_left = pair_made old_pair_adds (served_old v k.whole (n + m) (size k)) (old_has_to v (n + m) none_left ∙ least_serves v k.whole (n + m) at (size k) k.takes.fitting) room_is
      (λ j out _. words_same k j (uncovered v k.whole j out)) (λ j out _. outside j out)
