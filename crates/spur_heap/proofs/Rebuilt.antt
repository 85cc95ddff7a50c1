-- The heads of the free chunks of old space are written anew, and nothing stands in new space: the same cells, and a whole heap of the same graph and room.
use Rattle.std.proofs.Common.{◌≡◌, ◌⊎◌, ℕ, true, false, cond, not, ◌&&◌, ◌+◌, ◌-◌, ◌%◌, ◌^◌, ◌<◌, ◌≤◌, eqb, nat_lt, List, [], ◌∷◌, ◌++◌, length, get_or, refl, sym, ap, ◌∙◌, subst, arith, inl, inr}
use Rattle.std.proofs.lemmas.Bool.{cases_Bool, cases_eq, eq-eqb, ne_eqb, eqb-true, ltb-false, not-true}
use Rattle.std.proofs.Math.Nat.{zero-div}
use Rattle.std.proofs.lemmas.List.{length-map}
use Rattle.std.specs.List.{Contains, filter}
use Rattle.object_header.specs.Field.{field_of, with_field}
use Rattle.object_header.specs.Fields.{fields_of}
use Rattle.object_header.specs.Head.{class_of}
use Rattle.object_header.specs.Chunks.{Chunk, Cuts, InOrder}
use Rattle.object_header.proofs.Fields.{SetsField-with_field}
use Rattle.spur_graph.specs.Cells.{Store, Empty, is_start, cell_in, read_cell, first}
use Rattle.spur_graph.specs.Ordinary.{is_internal, is_ordinary, ordinary_starts, is_good_reference, is_good_word}
use Rattle.spur_graph.specs.Spaces.{AreSpaces, old_row, eden_row, past_row, young_row}
use Rattle.spur_graph.specs.HeapRoom.{room_in}
use Rattle.spur_graph.specs.Heaps.{View, Phase, IsWhole, IsSound, HasBits, HasNoUnusedBits, AreRemembered, AreMourners, store_of, chunks_of, heap_to, heap_graph, heap_room, graph_in, names_over}
use Rattle.heap_cells.specs.Rows.{starts_of}
use Rattle.heap_cells.proofs.CellKinds.{there_starts, no_start_is_not_there}
use Rattle.heap_cells.proofs.Over.{over-starts}
use Rattle.heap_cells.proofs.Members.{In, in_list, listed}
use Rattle.heap_cells.proofs.Appending.{read-free}
use Rattle.heap_cells.proofs.Cutting.{first as first_lies, stands, shape, cell-none, cuts-in_order, row-is, start-in}
use Rattle.heap_cells.proofs.Spaced.{one-space, empty-row}
use Rattle.heap_cells.proofs.Writing.{read-agree}
use Rattle.heap_cells.proofs.UnusedBits.{zero_unused, set_unused}
use Rattle.heap_cells.proofs.OtherStarts.{with_starts, Restarts, restarted-internal, restarted-reference, restarted-good, restarted-sound, restarted-mourners, restarted-starts, restarted-graph}
use Rattle.heap_cells.proofs.Shifted.{AreFree, IsShifted, length-shifted, start-shifted, starts-shifted, shifted-room}
use Rattle.object_header.specs.Fields.{free_header}
use Rattle.free_lists.specs.Runs.{IsFree, cover}
use Rattle.free_lists.specs.Rows.{is_free, free_runs, rewritten, written, with_run}
use Rattle.free_lists.specs.Lists.{Lists}
use Rattle.free_lists.specs.declared.lists.FreeLists.{FreeLists}
use Rattle.free_lists.proofs.Written.{free_is_written}
use Rattle.spur_heap.proofs.FreeRuns.{free_told, covered_by, kept-outside}
use Rattle.spur_heap.proofs.Tables.{HasFreeLists}
use Rattle.spur_heap.proofs.Touched.{same_bit}
use Rattle.spur_heap.specs.Views.{IsOutsideFree}

-- a chunk of a row whose free chunks were written anew
abbrev pub rewritten_chunk : List ℕ → Chunk → Chunk
rewritten_chunk words c = cond (is_free (get_or words c.start 0)) (written c.at c.size) c

-- the run of a free chunk is listed
pub run_in : (words : List ℕ) (cs : List Chunk) (c : Chunk) → In cs c → is_free (get_or words c.start 0) ≡ true → In (free_runs words cs) (c.at, c.size)
unfolding free_runs
run_in words [] c m on = absurd m
run_in words (d ∷ cs) c m on = elim m [
  | inl e ↦ let there : is_free (get_or words d.start 0) ≡ true = ap (λ (x : Chunk). is_free (get_or words x.start 0)) e ∙ on in rw there (inl (ap (λ (x : Chunk). (x.at, x.size)) e))
  | inr n ↦ elim (cases_Bool (is_free (get_or words d.start 0))) [
    | inl free ↦ rw free (inr (run_in words cs c n on))
    | inr not ↦ rw not (run_in words cs c n on)
  ]
]

-- each chunk of the new row comes from one of the old
pub rewritten_in : (words : List ℕ) (cs : List Chunk) (d : Chunk) → In (rewritten words cs) d → (c : Chunk) × In cs c × (rewritten_chunk words c ≡ d)
unfolding rewritten
rewritten_in words [] d m = absurd m
rewritten_in words (c ∷ cs) d m = elim m [
  | inl e ↦ (c, inl refl, e)
  | inr n ↦ let r = rewritten_in words cs d n in (r.0, inr r.1, r.2)
]

pub in_rewritten : (words : List ℕ) (cs : List Chunk) (c : Chunk) → In cs c → In (rewritten words cs) (rewritten_chunk words c)
unfolding rewritten
in_rewritten words [] c m = absurd m
in_rewritten words (d ∷ cs) c m = elim m [
  | inl e ↦ inl (ap (rewritten_chunk words) e)
  | inr n ↦ inr (in_rewritten words cs c n)
]

-- nothing stands before a row
cell_before : (words : List ℕ) (at to : ℕ) (cs : List Chunk) → Cuts words at to cs → (s : ℕ) → s < at → cell_in heap_to words cs s ≡ Empty
cell_before words at to cs t s l = cell-none heap_to words cs s (λ c m e. let k = (stands words at to cs c (cuts-in_order words at to cs t) m).lies in omega (arith, k.after, k.lead, e, l))

is_free-class : (w : ℕ) → is_free w ≡ true → class_of w ≡ 0
is_free-class w on = eqb-true (class_of w) 0 on

-- a free chunk in front of a row changes no cell
skipped : (words : List ℕ) (at to : ℕ) (c : Chunk) (cs : List Chunk) → Cuts words at to (c ∷ cs) → is_free (get_or words c.start 0) ≡ true → (s : ℕ) → cell_in heap_to words (c ∷ cs) s ≡ cell_in heap_to words cs s
unfolding cell_in
skipped words at to c cs t free s = elim (cases_eq c.start s) [
  | inr n ↦ rw (ne_eqb c.start s n) refl
  | inl e ↦
      let l = (first_lies words at c t.0).0 in
      let none : cell_in heap_to words cs s ≡ Empty = cell_before words (at + c.size) to cs t.1 s (omega (arith, l.room, l.before, e)) in
      ap (λ b. cond b (read_cell heap_to words c) (cell_in heap_to words cs s)) (eq-eqb c.start s e) ∙ read-free heap_to words c (is_free-class (get_or words c.start 0) free) ∙ sym none
]

-- the words of the free chunks of a row are those of free chunks then, and those of the others are as before
pub record Rewrites (words new : List ℕ) (cs : List Chunk) : Type 0 where
  pub long : length new ≡ length words
  pub free : (c : Chunk) → In cs c → is_free (get_or words c.start 0) ≡ true → IsFree new c.at c.size
  pub same : (c : Chunk) → In cs c → is_free (get_or words c.start 0) ≡ false → (j : ℕ) → c.at ≤ j → j < c.at + c.size → get_or new j 0 ≡ get_or words j 0

module _ (words new : List ℕ) where
  abbrev again : Chunk → Chunk
  again = rewritten_chunk words

  again-free : (c : Chunk) → is_free (get_or words c.start 0) ≡ true → again c ≡ written c.at c.size
  again-free c on = ap (λ b. cond b (written c.at c.size) c) on

  again-same : (c : Chunk) → is_free (get_or words c.start 0) ≡ false → again c ≡ c
  again-same c off = ap (λ b. cond b (written c.at c.size) c) off

  -- the new header of a free chunk
  pub header_is : (cs : List Chunk) → Rewrites words new cs → (c : Chunk) → In cs c → is_free (get_or words c.start 0) ≡ true → get_or new (again c).start 0 ≡ free_header (cond (nat_lt 255 c.size) 255 (c.size - 1))
  header_is cs k c m on = ap (λ (d : Chunk). get_or new d.start 0) (again-free c on) ∙ (free_is_written new c.at c.size (k.free c m on)).header

  pub again_is_free : (cs : List Chunk) → Rewrites words new cs → (c : Chunk) → In cs c → is_free (get_or words c.start 0) ≡ true → is_free (get_or new (again c).start 0) ≡ true
  again_is_free cs k c m on = ap (λ (d : Chunk). is_free (get_or new d.start 0)) (again-free c on) ∙ ap (λ n. eqb n 0) (free_is_written new c.at c.size (k.free c m on)).class

  tail : (c : Chunk) (cs : List Chunk) → Rewrites words new (c ∷ cs) → Rewrites words new cs
  tail c cs k = record { long = k.long; free = λ d m. k.free d (inr m); same = λ d m. k.same d (inr m) }

  pub cells_rewritten : (at to : ℕ) (cs : List Chunk) → Cuts words at to cs → Cuts new at to (rewritten words cs) → Rewrites words new cs → (s : ℕ) → cell_in heap_to new (rewritten words cs) s ≡ cell_in heap_to words cs s
  unfolding rewritten cell_in
  cells_rewritten at to [] t t' k s = refl
  cells_rewritten at to (c ∷ cs) t t' k s =
      elim (cases_Bool (is_free (get_or words c.start 0))) [
        | inl on ↦
            let size : (again c).size ≡ c.size = ap (λ (d : Chunk). d.size) (again-free c on) in
            let rest : Cuts new (at + c.size) to (rewritten words cs) = subst (λ n. Cuts new (at + n) to (rewritten words cs)) size t'.1 in
            skipped new at to (again c) (rewritten words cs) t' (again_is_free (c ∷ cs) k c (inl refl) on) s
            ∙ cells_rewritten (at + c.size) to cs t.1 rest (tail c cs k) s
            ∙ sym (skipped words at to c cs t on s)
        | inr off ↦
            let same : again c ≡ c = again-same c off in
            let rest : Cuts new (at + c.size) to (rewritten words cs) = subst (λ (d : Chunk). Cuts new (at + d.size) to (rewritten words cs)) same t'.1 in
            let l = stands words at to (c ∷ cs) c (cuts-in_order words at to (c ∷ cs) t) (inl refl) in
            let size = (shape words c l.chunk).size in
            let read : read_cell heap_to new c ≡ read_cell heap_to words c = read-agree heap_to words new c k.long (λ j a b. k.same c (inl refl) off j (omega (arith, l.lies.lead, a)) (omega (arith, size, b))) in
            let more = cells_rewritten (at + c.size) to cs t.1 rest (tail c cs k) s in
            ap (λ (d : Chunk). cell_in heap_to new (d ∷ rewritten words cs) s) same ∙ (λ x. cond (eqb c.start s) (read x) (more x))
      ]

  pub runs_rewritten : (cs : List Chunk) → Rewrites words new cs → ((c : Chunk) → In cs c → is_free (get_or words c.start 0) ≡ false → get_or new c.start 0 ≡ get_or words c.start 0) → free_runs new (rewritten words cs) ≡ free_runs words cs
  unfolding rewritten free_runs
  runs_rewritten [] k headers = refl
  runs_rewritten (c ∷ cs) k headers =
      let more : free_runs new (rewritten words cs) ≡ free_runs words cs = runs_rewritten cs (tail c cs k) (λ d m. headers d (inr m)) in
      elim (cases_Bool (is_free (get_or words c.start 0))) [
        | inl on ↦
            let run : ((again c).at, (again c).size) ≡ (c.at, c.size) = ap (λ (d : Chunk). (d.at, d.size)) (again-free c on) in
            let free : is_free (get_or new (again c).start 0) ≡ is_free (get_or words c.start 0) = again_is_free (c ∷ cs) k c (inl refl) on ∙ sym on in
            λ x. with_run (free x) (run x) (more x)
        | inr off ↦
            let same : again c ≡ c = again-same c off in
            let free : is_free (get_or new (again c).start 0) ≡ is_free (get_or words c.start 0) = ap (λ (d : Chunk). is_free (get_or new d.start 0)) same ∙ ap is_free (headers c (inl refl) off) in
            λ x. with_run (free x) ((same x).at, (same x).size) (more x)
      ]

  -- chunk by chunk they are the same, or both free
  pub rewritten_shifted : (h : Store) (cs : List Chunk) → ((c : Chunk) → In cs c → is_free (get_or words c.start 0) ≡ true → AreFree h c (again c)) → IsShifted h cs (rewritten words cs)
  unfolding rewritten IsShifted
  rewritten_shifted h [] k = tt
  rewritten_shifted h (c ∷ cs) k = (
    elim (cases_Bool (is_free (get_or words c.start 0))) [ inl on ↦ inr (k c (inl refl) on) | inr off ↦ inl (again-same c off) ],
    rewritten_shifted h cs (λ d m. k d (inr m)),
  )

no_bit : (lo : ℕ) → field_of lo 1 0 ≡ 0
unfolding field_of
no_bit lo = ap (λ n. n % 2 ^ 1) (zero-div (2 ^ lo))

-- the header of a free chunk has no bit of a collection
pub record IsFreeHeader (w : ℕ) : Type 0 where
  pub bits : (phase : Phase) → HasBits phase w
  pub forgotten : (fields_of w).remembered ≡ 0

pub free_bits : (n : ℕ) → n < 2 ^ 8 → IsFreeHeader (free_header n)
unfolding free_header
free_bits n fits =
    let one : ℕ = with_field 56 8 0 n in
    let two : ℕ = with_field 24 5 one 9 in
    let a = SetsField-with_field 0 56 8 n fits in
    let b = SetsField-with_field one 24 5 9 (omega arith) in
    let c = SetsField-with_field two 0 22 0 (omega arith) in
    let unused : HasNoUnusedBits one = set_unused 56 8 0 n one (inl (omega arith)) (inl (omega arith)) fits refl zero_unused in
    let unused2 : HasNoUnusedBits two = set_unused 24 5 one 9 two (inl (omega arith)) (inr (omega arith)) (omega arith) refl unused in
    record {
      bits = λ phase. record {
        marked = λ w. c.others 55 1 (inr (omega arith)) ∙ b.others 55 1 (inr (omega arith)) ∙ a.others 55 1 (inl (omega arith)) ∙ no_bit 55;
        grey = c.others 31 1 (inr (omega arith)) ∙ b.others 31 1 (inr (omega arith)) ∙ a.others 31 1 (inl (omega arith)) ∙ no_bit 31;
        unused = set_unused 0 22 two 0 (with_field 0 22 two 0) (inr (omega arith)) (inr (omega arith)) (omega arith) refl unused2;
      };
      forgotten = c.others 29 1 (inr (omega arith)) ∙ b.others 29 1 (inr (omega arith)) ∙ a.others 29 1 (inl (omega arith)) ∙ no_bit 29;
    }

pub short_count : (size : ℕ) → cond (nat_lt 255 size) 255 (size - 1) < 2 ^ 8
short_count size = elim (cases_Bool (nat_lt 255 size)) [
  | inl on ↦ rw on (omega arith)
  | inr off ↦ let low = ltb-false 255 size off in rw off (omega (arith, low))
]

-- the words of a heap that has nothing in new space, with the heads of its free chunks written anew
pub record Rebuilds (v : View) (new : List ℕ) : Type 0 where
  pub whole : IsWhole v
  pub eden : v.spaces.eden_used ≡ 0
  pub past : v.spaces.past_used ≡ 0
  pub long : length new ≡ length v.words
  pub row : Cuts new 0 v.spaces.old_end (rewritten v.words (old_row v.words v.spaces))
  pub free : (x : ℕ × ℕ) → Contains (free_runs v.words (old_row v.words v.spaces)) x → IsFree new x.0 x.1
  pub others : (j : ℕ) → cover (free_runs v.words (old_row v.words v.spaces)) j ≡ 0 → get_or new j 0 ≡ get_or v.words j 0

module _ {v : View} {new : List ℕ} (k : Rebuilds v new) where
  abbrev pub rebuilt : View
  rebuilt = record v { words = new }

  abbrev before : List Chunk
  before = old_row v.words v.spaces

  abbrev after : List Chunk
  after = rewritten v.words before

  pub in_row : InOrder v.words 0 v.spaces.old_end before
  in_row = cuts-in_order v.words 0 v.spaces.old_end before k.whole.rows.old

  pub old_rebuilt : old_row new v.spaces ≡ after
  old_rebuilt = row-is new 0 v.spaces.old_end after k.row

  pub rows_before : chunks_of v ≡ before
  rows_before = one-space v.words v.spaces k.eden k.past

  rows_after : chunks_of rebuilt ≡ after
  rows_after = one-space new v.spaces k.eden k.past ∙ old_rebuilt

  -- a word of a chunk that is not free is that of no free chunk
  kept_words : (c : Chunk) → In before c → is_free (get_or v.words c.start 0) ≡ false → (j : ℕ) → c.at ≤ j → j < c.at + c.size → get_or new j 0 ≡ get_or v.words j 0
  kept_words c m off j from to = k.others j (kept-outside v.words v.spaces.old_end before in_row c m off j from to)

  pub rewrites : Rewrites v.words new before
  rewrites = record {
    long = k.long;
    free = λ c m on. k.free (c.at, c.size) (listed (free_runs v.words before) (c.at, c.size) (run_in v.words before c m on));
    same = kept_words;
  }

  pub cells_rebuilt : (s : ℕ) → (store_of rebuilt).cell s ≡ (store_of v).cell s
  cells_rebuilt s =
      ap (λ (cs : List Chunk). cell_in heap_to new cs s) rows_after ∙ cells_rewritten v.words new 0 v.spaces.old_end before k.whole.rows.old k.row rewrites s
      ∙ sym (ap (λ (cs : List Chunk). cell_in heap_to v.words cs s) rows_before)

  store-rebuilt : store_of rebuilt ≡ with_starts (store_of v) (starts_of after)
  store-rebuilt = λ i. record { names = k.long i; starts = starts_of (rows_after i); cell = λ t. cells_rebuilt t i; to = heap_to }

  -- ---- the starts

  told : (c : Chunk) → In before c → is_free (get_or v.words c.start 0) ≡ not (is_start ((store_of v).cell c.start))
  told c m = free_told heap_to v.words v.spaces.old_end before c in_row m ∙ sym (ap (λ (cs : List Chunk). not (is_start (cell_in heap_to v.words cs c.start))) rows_before)

  both_free : (c : Chunk) → In before c → is_free (get_or v.words c.start 0) ≡ true → AreFree (store_of v) c (rewritten_chunk v.words c)
  both_free c m on =
      let d : Chunk = rewritten_chunk v.words c in
      let header : is_free (get_or new d.start 0) ≡ true = again_is_free v.words new before rewrites c m on in
      let is : is_free (get_or new d.start 0) ≡ not (is_start ((store_of v).cell d.start)) =
      free_told heap_to new v.spaces.old_end after d (cuts-in_order new 0 v.spaces.old_end after k.row) (in_rewritten v.words before c m)
      ∙ sym (ap (λ (cs : List Chunk). not (is_start (cell_in heap_to new cs d.start))) rows_after) ∙ ap (λ x. not (is_start x)) (cells_rebuilt d.start) in
      record {
        one = not-true _ (sym (told c m) ∙ on);
        other = not-true _ (sym is ∙ header);
        size = ap (λ (x : Chunk). x.size) (again-free v.words new c on);
      }

  shifted : IsShifted (store_of v) before after
  shifted = rewritten_shifted v.words new (store_of v) before both_free

  starts_before : (store_of v).starts ≡ starts_of before
  starts_before = ap (λ (cs : List Chunk). starts_of cs) rows_before

  restarts : Restarts (store_of v) (starts_of after)
  restarts = record {
    five = let a = length-shifted (store_of v) before after shifted in let b = length-map after (λ (c : Chunk). c.start) in let five = k.whole.rows.five in omega (arith, a, b, five);
    firsts = λ j l.
        let same : get_or (store_of v).starts j 0 ≡ get_or (starts_of before) j 0 = ap (λ (ss : List ℕ). get_or ss j 0) starts_before in
        let on = there_starts ((store_of v).cell (get_or (store_of v).starts j 0)) (k.whole.sound.roots.objects j l) in
        start-shifted (store_of v) before after shifted j (ap (λ n. is_start ((store_of v).cell n)) (sym same) ∙ on) ∙ sym same;
  }

  ordinary_same : filter (is_ordinary (store_of v)) (starts_of after) ≡ filter (is_ordinary (store_of v)) (store_of v).starts
  ordinary_same =
      starts-shifted (store_of v) (is_ordinary (store_of v)) (λ s off. ap (λ a. a && not (is_internal (store_of v) s)) (no_start_is_not_there ((store_of v).cell s) off)) before after shifted
      ∙ ap (λ (ss : List ℕ). filter (is_ordinary (store_of v)) ss) (sym starts_before)

  -- ---- graph, room and tables

  pub rebuilt_graph : heap_graph rebuilt ≡ heap_graph v
  rebuilt_graph =
      (λ i. graph_in (store-rebuilt i) v.special v.handles v.mourners v.hash (k.long i))
      ∙ restarted-graph restarts ordinary_same v.special v.handles v.mourners v.hash (length v.words)

  no_eden : (words : List ℕ) → eden_row words v.spaces ≡ []
  no_eden words = empty-row words v.spaces.eden_at v.spaces.eden_used k.eden

  no_past : (words : List ℕ) → past_row words v.spaces ≡ []
  no_past words = empty-row words v.spaces.past_at v.spaces.past_used k.past

  pub rebuilt_room : heap_room rebuilt ≡ heap_room v
  rebuilt_room =
      (λ i. room_in (store-rebuilt i) (old_rebuilt i) (no_eden new i) (no_past new i) v.spaces.old_end v.limits (k.eden i) (k.past i))
      ∙ shifted-room restarts before after shifted v.spaces.old_end v.limits
      ∙ (λ i. room_in (store_of v) before (sym (no_eden v.words) i) (sym (no_past v.words) i) v.spaces.old_end v.limits (sym k.eden i) (sym k.past i))

  pub rebuilt_count : length (ordinary_starts (store_of rebuilt)) ≡ length (ordinary_starts (store_of v))
  rebuilt_count = ap (λ (h : Store). length (ordinary_starts h)) store-rebuilt ∙ ap (λ (ss : List ℕ). length ss) (restarted-starts restarts ordinary_same)

  kept_header : (c : Chunk) → In before c → is_free (get_or v.words c.start 0) ≡ false → get_or new c.start 0 ≡ get_or v.words c.start 0
  kept_header c m off = let l = (stands v.words 0 v.spaces.old_end before c in_row m).lies in kept_words c m off c.start l.lead (omega (arith, l.room))

  pub rebuilt_lists : (free : FreeLists) → Lists new free (free_runs v.words before) → HasFreeLists rebuilt free
  rebuilt_lists free l = subst (λ runs. Lists new free runs) (sym (ap (free_runs new) old_rebuilt ∙ runs_rewritten v.words new before rewrites kept_header)) l

  -- a word that is outside of the free chunks is as before
  pub rebuilt_others : (j : ℕ) → IsOutsideFree v j → get_or new j 0 ≡ get_or v.words j 0
  rebuilt_others j outside = k.others j (elim (cases_eq (cover (free_runs v.words before) j) 0) [
    | inl none ↦ none
    | inr some ↦
        let f = covered_by v.words before j (omega (arith, some)) in
        absurd (elim (outside f.chunk (listed before f.chunk f.inside) (sym (told f.chunk f.inside) ∙ f.free)) [ inl low ↦ omega (arith, low, f.from) | inr high ↦ omega (arith, high, f.to) ])
  ])

  -- ---- the heap is whole

  -- a chunk of the new rows
  record Comes (d : Chunk) : Type 0 where
    chunk : Chunk
    inside : In before chunk
    is : rewritten_chunk v.words chunk ≡ d

  comes : (d : Chunk) → Contains (chunks_of rebuilt) d → Comes d
  comes d m = let r = rewritten_in v.words before d (subst (λ (cs : List Chunk). In cs d) rows_after (in_list (chunks_of rebuilt) d m)) in record { chunk = r.0; inside = r.1; is = r.2 }

  was_in : (c : Chunk) → In before c → Contains (chunks_of v) c
  was_in c m = listed (chunks_of v) c (subst (λ (cs : List Chunk). In cs c) (sym rows_before) m)

  -- the header of a chunk of the new rows: that of a free chunk, or the one of before
  record Heads (d : Chunk) : Type 0 where
    chunk : Chunk
    was : Contains (chunks_of v) chunk
    header : IsFreeHeader (get_or new d.start 0) ⊎ ((d ≡ chunk) × (get_or new d.start 0 ≡ get_or v.words chunk.start 0))

  heads : (d : Chunk) → Contains (chunks_of rebuilt) d → Heads d
  heads d m =
      let c = comes d m in
      record {
        chunk = c.chunk;
        was = was_in c.chunk c.inside;
        header = elim (cases_Bool (is_free (get_or v.words c.chunk.start 0))) [
          | inl on ↦
              let n : ℕ = cond (nat_lt 255 c.chunk.size) 255 (c.chunk.size - 1) in
              let is : get_or new d.start 0 ≡ free_header n = ap (λ (x : Chunk). get_or new x.start 0) (sym c.is) ∙ header_is v.words new before rewrites c.chunk c.inside on in
              inl (subst (λ w. IsFreeHeader w) (sym is) (free_bits n (short_count c.chunk.size)))
          | inr off ↦
              let same : d ≡ c.chunk = sym c.is ∙ again-same v.words new c.chunk off in
              inr (same, ap (λ (x : Chunk). get_or new x.start 0) same ∙ kept_header c.chunk c.inside off)
        ];
      }

  -- the header of an object or forwarder is as before
  start_header : (s : ℕ) → is_start ((store_of v).cell s) ≡ true → get_or new s 0 ≡ get_or v.words s 0
  start_header s on =
      let c = start-in heap_to v.words (chunks_of v) s on in
      let m : In before c.0 = subst (λ (cs : List Chunk). In cs c.0) rows_before c.1 in
      let off : is_free (get_or v.words c.0.start 0) ≡ false = told c.0 m ∙ ap not (ap (λ n. is_start ((store_of v).cell n)) c.2 ∙ on) in
      subst (λ n. get_or new n 0 ≡ get_or v.words n 0) c.2 (kept_header c.0 m off)

  rebuilt_remembered : AreRemembered new v.spaces.old_end (chunks_of rebuilt) (store_of rebuilt)
  rebuilt_remembered = record {
    all = λ s low other over.
        let was : names_over v.spaces.old_end ((store_of v).cell s) ≡ true = ap (names_over v.spaces.old_end) (sym (cells_rebuilt s)) ∙ over in
        let third : first (store_of rebuilt) 3 ≡ first (store_of v) 3 = ap (λ (h : Store). first h 3) store-rebuilt ∙ restarts.firsts 3 (omega arith) in
        same_bit v.words new s (start_header s (over-starts v.spaces.old_end ((store_of v).cell s) was)) ∙ k.whole.remembered.all s low (λ e. other (e ∙ sym third)) was;
    only = λ d m on.
        let h = heads d m in
        elim h.header [
          | inl free ↦ absurd (let one = eqb-true (fields_of (get_or new d.start 0)).remembered 1 on in omega (arith, one, free.forgotten))
          | inr same ↦
              let was = k.whole.remembered.only h.chunk h.was (sym (ap (λ w. eqb (fields_of w).remembered 1) same.1) ∙ on) in
              let start : d.start ≡ h.chunk.start = ap (λ (x : Chunk). x.start) same.0 in
              (omega (arith, start, was.0), ap is_start (cells_rebuilt d.start) ∙ ap (λ n. is_start ((store_of v).cell n)) start ∙ was.1)
        ];
  }

  pub rebuilt_whole : IsWhole rebuilt
  rebuilt_whole = record {
    spaces = subst (λ n. AreSpaces n v.limits v.spaces) (sym k.long) k.whole.spaces;
    rows = record {
      old = subst (λ (cs : List Chunk). Cuts new 0 v.spaces.old_end cs) (sym old_rebuilt) k.row;
      eden = subst (λ (cs : List Chunk). Cuts new v.spaces.eden_at (v.spaces.eden_at + v.spaces.eden_used) cs) (sym (no_eden new)) (let none = k.eden in omega (arith, none));
      past = subst (λ (cs : List Chunk). Cuts new v.spaces.past_at (v.spaces.past_at + v.spaces.past_used) cs) (sym (no_past new)) (let none = k.past in omega (arith, none));
      five = let a = length-shifted (store_of v) before after shifted in let b = ap (λ (cs : List Chunk). length cs) old_rebuilt in let five = k.whole.rows.five in omega (arith, a, b, five);
    };
    sound = subst (λ (h : Store). IsSound h) (sym store-rebuilt) (restarted-sound restarts k.whole.sound);
    inner = λ s on. k.whole.inner s (sym (restarted-internal restarts s) ∙ sym (ap (λ (h : Store). is_internal h s) store-rebuilt) ∙ on);
    young = λ c m. absurd (none_young c (in_list (young_row new v.spaces) c m));
    bits = λ d m. let h = heads d m in elim h.header [ inl free ↦ free.bits v.phase | inr same ↦ subst (λ w. HasBits v.phase w) (sym same.1) (k.whole.bits h.chunk h.was) ];
    remembered = rebuilt_remembered;
    held = λ h w e. ap (λ (g : Store). is_good_word g w) store-rebuilt ∙ restarted-good restarts w ∙ k.whole.held h w e;
    special_there = ap (λ (g : Store). is_good_reference g v.special) store-rebuilt ∙ restarted-reference restarts v.special ∙ k.whole.special_there;
    mourners = subst (λ (h : Store). AreMourners h v.mourners) (sym store-rebuilt) (restarted-mourners restarts v.mourners k.whole.mourners);
    state_bits = k.whole.state_bits;
    header = k.whole.header;
    few = let few = k.whole.few in let long = k.long in omega (arith, few, long);
  }
    where
      none_young : (c : Chunk) → In (young_row new v.spaces) c → ⊥
      none_young c m = subst (λ (cs : List Chunk). In cs c) (λ i. no_eden new i ++ no_past new i) m
