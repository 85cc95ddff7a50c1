-- The words that were taken of a free chunk become objects: the chunks in its place, the free lists, and the row that old space is then.
use Rattle.std.proofs.Common.{◌≡◌, ◌≢◌, ℕ, false, cond, ◌+◌, ◌-◌, ◌≤◌, eqb, ltb, List, [], ◌∷◌, ◌++◌, map, length, get_or, refl, sym, ap, ◌∙◌, subst, arith, inl, inr, append_assoc, length-append}
use Rattle.std.proofs.lemmas.Bool.{eqb-true, ne_eqb}
use Rattle.std.specs.List.Sorted.{IsPermutation}
use Rattle.std.proofs.lemmas.List.Sorted.{IsPermutation-append_left, IsPermutation-append_comm}
use Rattle.object_header.specs.Head.{class_of}
use Rattle.object_header.specs.Fields.{Fields}
use Rattle.object_header.specs.Chunks.{Chunk, Cuts, InOrder}
use Rattle.spur_graph.specs.Cells.{Store, Empty}
use Rattle.spur_graph.specs.Room.{Room}
use Rattle.spur_graph.specs.HeapRoom.{room_in}
use Rattle.spur_graph.specs.Spaces.{old_row, eden_row, past_row, young_row}
use Rattle.spur_graph.specs.Heaps.{View, Phase, HasBits, store_of, chunks_of, heap_to, heap_room, is_remembered}
use Rattle.heap_cells.proofs.Appending.{read-free}
use Rattle.heap_cells.proofs.Cutting.{cell-at, Cuts-append}
use Rattle.heap_cells.proofs.Members.{In, in_either, in_left, in_right}
use Rattle.heap_cells.proofs.Spaced.{rows-in_order}
use Rattle.heap_cells.proofs.Splitting.{Splits, old_more, eden_one, past_one, rows_before, rows_after, split_spaces, split_rows}
use Rattle.free_lists.specs.Rows.{free_runs}
use Rattle.free_lists.specs.Rows as lists
use Rattle.free_lists.specs.Lists.{Lists, rest_of}
use Rattle.free_lists.specs.declared.lists.FreeLists.{FreeLists}
use Rattle.free_lists.proofs.Given.{lists_permuted}
use Rattle.free_lists.proofs.Rebuilt.{free_runs-append}
use Rattle.spur_heap.specs.Fresh.{fresh_chunk, IsFreshRun}
use Rattle.spur_heap.proofs.Among.{runs-other, no_runs}
use Rattle.spur_heap.proofs.FreeRuns.{free_runs_same}
use Rattle.spur_heap.proofs.FreshRuns.{fresh_has_bits, fresh_is_forgotten}
use Rattle.spur_heap.proofs.Orders.{order}
use Rattle.spur_heap.proofs.Puts.{whole_sound}
use Rattle.spur_heap.proofs.Served.{IsServed, among, xs, ys, f, f_at, f_size, size, rest, rest_is, lists_new, stands_as}
use Rattle.spur_heap.proofs.Taken.{IsTaken}

-- the header at the start of a chunk is that of a fresh object
pub record IsFresh (phase : Phase) (words : List ℕ) (d : Chunk) : Type 0 where
  pub bits : HasBits phase (get_or words d.start 0)
  pub forgotten : is_remembered words d.start ≡ false
  pub object : lists.is_free (get_or words d.start 0) ≡ false

pub fresh_run_is : (phase : Phase) (words : List ℕ) (at class format slots fill : ℕ) → class ≢ 0 → IsFreshRun words at class format slots fill → IsFresh phase words (fresh_chunk at slots)
fresh_run_is phase words at class format slots fill some run = record {
  bits = fresh_has_bits words at class format slots fill run phase;
  forgotten = fresh_is_forgotten words at class format slots fill run;
  object = ap (λ (x : Fields). eqb x.class 0) run.header.fields ∙ ne_eqb class 0 some;
}

no_free : (phase : Phase) (words : List ℕ) (cs : List Chunk) → ((d : Chunk) → In cs d → IsFresh phase words d) → free_runs words cs ≡ []
no_free phase words [] each = no_runs words
no_free phase words (c ∷ cs) each = runs-other words c cs (each c (inl refl)).object ∙ no_free phase words cs (λ d m. each d (inr m))

-- the words that were taken are these objects
pub record IsFilled (phase : Phase) (new : List ℕ) (at n : ℕ) (cs : List Chunk) : Type 0 where
  pub cut : Cuts new at (at + n) cs
  pub some : 1 ≤ length cs
  pub each : (d : Chunk) → In cs d → IsFresh phase new d

module _ {v : View} {free free' : FreeLists} {mid new : List ℕ} {at n : ℕ} (k : IsServed v free free' mid new at n) {cs : List Chunk} (g : IsFilled v.phase new at n cs) where
  abbrev pub filled : View
  filled = record v { words = new }

  pub splits : Splits v.words new v.limits v.spaces (xs k) (ys k) (f k) (cs ++ rest k)
  splits = record {
    spaces = k.whole.spaces;
    rows = k.whole.rows;
    long = k.long ∙ k.mid_long;
    is = (among k).is;
    cut = subst (λ a. Cuts new a (a + (f k).size) (cs ++ rest k)) (sym (f_at k)) (subst (λ m. Cuts new at (at + m) (cs ++ rest k)) (sym (f_size k)) (Cuts-append new at (at + n) (at + size k) cs (rest k) g.cut (rest_is k).cut));
    some = let some = g.some in let long = length-append cs (rest k) in omega (arith, some, long);
    same = stands_as k;
  }

  pub f_free : (store_of v).cell (f k).start ≡ Empty
  f_free =
      let m : In (chunks_of v) (f k) = subst (λ ds. In ds (f k)) (sym (rows_before splits)) (in_right (xs k) (f k ∷ (ys k ++ young_row v.words v.spaces)) (f k) (inl refl)) in
      cell-at heap_to v.words 0 (length v.words) (chunks_of v) (f k) (order v (whole_sound v k.whole)) m
      ∙ read-free heap_to v.words (f k) (eqb-true (class_of (get_or v.words (f k).start 0)) 0 (among k).free)

  pub is_taken : IsTaken v new (xs k) (ys k) (f k) (cs ++ rest k)
  is_taken = record {
    splits = splits;
    free = f_free;
    bits = λ d m. elim (in_either cs (rest k) d m) [ inl a ↦ (g.each d a).bits | inr a ↦ (rest_is k).bits d a ];
    forgotten = λ d m. elim (in_either cs (rest k) d m) [ inl a ↦ (g.each d a).forgotten | inr a ↦ (rest_is k).forgotten d a ];
  }

  -- ---- the free lists

  runs_kept : (ds : List Chunk) → ((d : Chunk) → In ds d → In (xs k ++ (ys k ++ young_row v.words v.spaces)) d) → free_runs new ds ≡ free_runs v.words ds
  runs_kept ds there = free_runs_same v.words new ds (λ d m. ap (λ w. lists.is_free w) (stands_as k d (there d m)).header)

  pub filled_lists : Lists new free' (free_runs new (old_row new v.spaces))
  filled_lists =
      let X : List Chunk = xs k in
      let Y : List Chunk = ys k in
      let Z : List Chunk = rest k in
      let FX : List (ℕ × ℕ) = free_runs v.words X in
      let FY : List (ℕ × ℕ) = free_runs v.words Y in
      let R : List (ℕ × ℕ) = rest_of at (size k) n in
      let young : List Chunk = young_row v.words v.spaces in
      let behind : free_runs new ((cs ++ Z) ++ Y) ≡ R ++ FY =
      ap (free_runs new) (append_assoc cs Z Y) ∙ free_runs-append new cs (Z ++ Y) ∙ ap (λ rs. rs ++ free_runs new (Z ++ Y)) (no_free v.phase new cs g.each) ∙ free_runs-append new Z Y
      ∙ (λ i. (rest_is k).runs_are i ++ runs_kept Y (λ d m. in_right X (Y ++ young) d (in_left Y young d m)) i) in
      let runs_are : free_runs new (old_row new v.spaces) ≡ FX ++ (R ++ FY) =
      ap (free_runs new) (old_more splits) ∙ free_runs-append new X ((cs ++ Z) ++ Y) ∙ (λ i. runs_kept X (λ d m. in_left X (Y ++ young) d m) i ++ behind i) in
      let moved : IsPermutation ((FX ++ R) ++ FY) ((R ++ FX) ++ FY) = IsPermutation-append_left FY (FX ++ R) (R ++ FX) (IsPermutation-append_comm FX R) in
      let moved' : IsPermutation (FX ++ (R ++ FY)) (R ++ (FX ++ FY)) = simp append_assoc at moved in
      subst (λ rs. Lists new free' rs) (sym runs_are) (lists_permuted new free' (R ++ (FX ++ FY)) (FX ++ (R ++ FY)) moved' (lists_new k))

  -- ---- the row

  pub filled_order : InOrder new 0 (length new) (chunks_of filled)
  filled_order = rows-in_order new v.limits v.spaces (split_spaces splits) (split_rows splits)

  pub rest_empty : (d : Chunk) → In (rest k) d → (store_of filled).cell d.start ≡ Empty
  rest_empty d m =
      let tail : List Chunk = ys k ++ young_row v.words v.spaces in
      let there : In (chunks_of filled) d = subst (λ ds. In ds d) (sym (rows_after splits)) (in_right (xs k) ((cs ++ rest k) ++ tail) d (in_left (cs ++ rest k) tail d (in_right cs (rest k) d m))) in
      cell-at heap_to new 0 (length new) (chunks_of filled) d filled_order there ∙ (rest_is k).empty d m

  -- the room of a store of which old space is this row, and new space is as it was
  abbrev pub room_with : Store → List Chunk → Room
  room_with h row = room_in h row (eden_row v.words v.spaces) (past_row v.words v.spaces) v.spaces.old_end v.limits v.spaces.eden_used v.spaces.past_used

  pub room_after : heap_room filled ≡ room_with (store_of filled) (xs k ++ ((cs ++ rest k) ++ ys k))
  room_after = λ i. room_in (store_of filled) (old_more splits i) ((eden_one splits).0 i) ((past_one splits).0 i) v.spaces.old_end v.limits v.spaces.eden_used v.spaces.past_used

  pub room_before : room_with (store_of v) (xs k ++ f k ∷ ys k) ≡ heap_room v
  room_before = ap (room_with (store_of v)) (sym (among k).is)

  pub rest_sizes : map (λ (d : Chunk). d.size) (rest k) ≡ cond (ltb n (f k).size) (((f k).size - n) ∷ []) []
  rest_sizes = (rest_is k).sizes_are ∙ ap (λ m. cond (ltb n m) ((m - n) ∷ []) []) (sym (f_size k))
