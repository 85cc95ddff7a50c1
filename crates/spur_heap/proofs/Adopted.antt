-- The tables that are made of the words of a heap.
use Rattle.std.proofs.Common.{◌≡◌, ℕ, Bool, true, false, not, cond, ◌&&◌, ◌||◌, ◌+◌, eqb, List, [], ◌∷◌, length, get_or, refl, sym, ap, ◌∙◌, subst, arith, inl, inr}
use Rattle.std.proofs.lemmas.Bool.{false≢true, cases_Bool}
use Rattle.std.specs.List.{filter}
use Rattle.object_header.specs.Fields.{Fields, fields_of}
use Rattle.object_header.specs.Chunks.{Chunk, row, slots_of, starts_in}
use Rattle.heap_walk.specs.Starts.{has_start, covered}
use Rattle.heap_walk.specs.declared.starts.StartMap.{StartMap}
use Rattle.spur_graph.specs.Cells.{Store, is_start, is_there, cell_in, cell_from, read_cell, start_named}
use Rattle.spur_graph.specs.Ordinary.{is_internal, is_ordinary, ordinary_starts}
use Rattle.spur_graph.specs.Heaps.{View, store_of, chunks_of, heap_to}
use Rattle.heap_cells.specs.Rows.{starts_of}
use Rattle.heap_cells.proofs.Cutting.{cell-at, start-in, stands}
use Rattle.heap_cells.proofs.Internals.{internal-starts}
use Rattle.heap_cells.proofs.Members.{In}
use Rattle.heap_cells.proofs.Starts.{start-of-row}
use Rattle.heap_cells.proofs.WholeClosed.{sound_loadable}
use Rattle.free_lists.specs.Rows.{free_runs}
use Rattle.free_lists.specs.Lists.{Lists}
use Rattle.free_lists.specs.declared.lists.FreeLists.{FreeLists}
use Rattle.spur_heap.specs.declared.heap.HeapParts.{HeapParts}
use Rattle.spur_heap.specs.Counting.{is_object_header, count_new}
use Rattle.spur_heap.specs.Parts.{view_of, HasTables, HasRemembered, ArePartsOfHeap}
use Rattle.spur_heap.specs.Views.{Adopts}
use Rattle.spur_heap.specs.Words.{starts_at}
use Rattle.spur_heap.proofs.Noted.{table_same}
use Rattle.spur_heap.proofs.RunSizes.{told_free}
use Rattle.spur_heap.proofs.Tables.{SameNoted, noted_from, tables_kept}
use Rattle.spur_heap.proofs.Touched.{same_bit}
use Rattle.spur_heap.proofs.Rebuilt.{Rebuilds, rewrites, in_row, rows_before, cells_rebuilt, rebuilt_whole, rebuilt_graph, rebuilt_room, rebuilt_count, rebuilt_lists, rebuilt_others}

there_from : (f : Fields) (next : ℕ) (ws : List ℕ) → is_there (cell_from f next ws) ≡ (not (eqb f.class 0) && not (eqb f.class 8))
there_from f next ws = elim (cases_Bool (eqb f.class 0)) [
  | inl on ↦ rw on refl
  | inr off ↦ elim (cases_Bool (eqb f.class 8)) [ inl moved ↦ rw (off, moved) refl | inr not ↦ rw (off, not) refl ]
]

there-read : (words : List ℕ) (c : Chunk) → is_there (read_cell heap_to words c) ≡ is_object_header (get_or words c.start 0)
unfolding read_cell
there-read words c = there_from (fields_of (get_or words c.start 0)) (start_named heap_to words (get_or words (c.start + 1) 0)) (slots_of words c)

-- the objects that no map of internal ones has are the ordinary ones
counted_ordinary : (h : Store) (words : List ℕ) (map : StartMap) (cs : List Chunk) → ((c : Chunk) → In cs c → is_there (h.cell c.start) ≡ is_object_header (get_or words c.start 0)) → ((s : ℕ) → has_start map s ≡ is_internal h s)
    → count_new words map cs ≡ length (filter (is_ordinary h) (starts_of cs))
unfolding count_new
counted_ordinary h words map [] there internal = refl
counted_ordinary h words map (c ∷ cs) there internal =
    let more : count_new words map cs ≡ length (filter (is_ordinary h) (starts_of cs)) = counted_ordinary h words map cs (λ d m. there d (inr m)) internal in
    let test : (is_object_header (get_or words c.start 0) && not (has_start map c.start)) ≡ is_ordinary h c.start = λ x. sym (there c (inl refl)) x && not (internal c.start x) in
    ap (λ b. cond b 1 0 + count_new words map cs) test
    ∙ elim (cases_Bool (is_ordinary h c.start)) [ inl on ↦ rw on (omega (arith, more)) | inr off ↦ rw off (omega (arith, more)) ]

-- what the map has of the internal objects is in it anyway
or-implied : (a b : Bool) → (a ≡ true → b ≡ true) → (a || b) ≡ b
or-implied true b k = sym (k refl)
or-implied false b k = refl

-- the tables that were made: the map `one` has the internal objects, and `two` the starts
pub record Makes (p : HeapParts) (one two : StartMap) (n : ℕ) (free : FreeLists) (new : List ℕ) : Type 0 where
  pub rebuilds : Rebuilds (view_of p) new
  pub internal : (s : ℕ) → has_start one s ≡ is_internal (store_of (view_of p)) s
  pub starts : (s : ℕ) → has_start two s ≡ (has_start one s || starts_in p.region (row p.region 0 p.old_end) s)
  pub covers : covered two ≡ length p.region
  pub count : n ≡ count_new p.region one (row p.region 0 p.old_end)
  pub lists : Lists new free (free_runs p.region (row p.region 0 p.old_end))
  pub remembered : HasRemembered p
  pub tables : HasTables p

module _ {p : HeapParts} {one two : StartMap} {n : ℕ} {free : FreeLists} {new : List ℕ} (k : Makes p one two n free new) where
  abbrev v : View
  v = view_of p

  abbrev before : List Chunk
  before = row p.region 0 p.old_end

  abbrev pub made : HeapParts
  made = record p { starts = two; objects = n; free = free; region = new }

  started : (s : ℕ) → has_start two s ≡ is_start ((store_of v).cell s)
  started s =
      let start : starts_in p.region before s ≡ is_start ((store_of v).cell s) = start-of-row heap_to p.region before s ∙ sym (ap (λ (cs : List Chunk). is_start (cell_in heap_to p.region cs s)) (rows_before k.rebuilds)) in
      k.starts s ∙ (λ x. k.internal s x || start x)
      ∙ or-implied (is_internal (store_of v) s) (is_start ((store_of v).cell s)) (internal-starts (store_of v) (sound_loadable (store_of v) k.rebuilds.whole.sound) s)

  there_told : (c : Chunk) → In before c → is_there ((store_of v).cell c.start) ≡ is_object_header (get_or p.region c.start 0)
  there_told c m =
      ap (λ (cs : List Chunk). is_there (cell_in heap_to p.region cs c.start)) (rows_before k.rebuilds)
      ∙ ap is_there (cell-at heap_to p.region 0 p.old_end before c (in_row k.rebuilds) m) ∙ there-read p.region c

  counted : n ≡ length (ordinary_starts (store_of v))
  unfolding ordinary_starts
  counted =
      k.count ∙ counted_ordinary (store_of v) p.region one before there_told k.internal
      ∙ ap (λ (cs : List Chunk). length (filter (is_ordinary (store_of v)) (starts_of cs))) (sym (rows_before k.rebuilds))

  -- a start has its header as before
  header_kept : (t : ℕ) → starts_at v t ≡ true → get_or new t 0 ≡ get_or p.region t 0
  header_kept t on =
      let d = start-in heap_to p.region (chunks_of v) t on in
      let m : In before d.0 = subst (λ (cs : List Chunk). In cs d.0) (rows_before k.rebuilds) d.1 in
      let l = (stands p.region 0 p.old_end before d.0 (in_row k.rebuilds) m).lies in
      let kept = told_free v k.rebuilds.whole d.0 d.1 ∙ ap not (ap (starts_at v) d.2 ∙ on) in
      subst (λ x. get_or new x 0 ≡ get_or p.region x 0) d.2 ((rewrites k.rebuilds).same d.0 m kept d.0.start l.lead (omega (arith, l.room)))

  still_noted : SameNoted v (view_of made)
  still_noted = noted_from v (view_of made)
      (λ t on. (ap is_start (cells_rebuilt k.rebuilds t) ∙ on, same_bit p.region new t (header_kept t on)))
      (λ t none on. absurd (false≢true (sym none ∙ sym (ap is_start (cells_rebuilt k.rebuilds t)) ∙ on)))

  pub made_parts : ArePartsOfHeap made
  made_parts = record {
    whole = rebuilt_whole k.rebuilds;
    map = record {
      starts = λ s. started s ∙ sym (ap is_start (cells_rebuilt k.rebuilds s));
      covers = k.covers ∙ sym k.rebuilds.long;
    };
    free_chunks = record { lists = rebuilt_lists k.rebuilds free k.lists };
    objects = record { count = counted ∙ sym (rebuilt_count k.rebuilds) };
    remembered = record { table = table_same still_noted k.rebuilds.long k.remembered.table };
    tables = tables_kept p made k.tables k.rebuilds.long refl;
  }

  pub made_adopts : Adopts v (view_of made)
  made_adopts = record {
    rest = refl;
    long = k.rebuilds.long;
    others = rebuilt_others k.rebuilds;
    cells = cells_rebuilt k.rebuilds;
    graph = rebuilt_graph k.rebuilds;
    room = rebuilt_room k.rebuilds;
  }
