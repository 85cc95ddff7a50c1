-- The headers of a heap are written anew, and each tells the same: only bits that are no part of a chunk or an object change.
use Rattle.std.proofs.Common.{◌≡◌, ◌≢◌, ℕ, true, cond, ◌+◌, ◌<◌, ◌≤◌, List, length, get_or, set, take, map, refl, sym, ap, ◌∙◌, subst, arith, inl, inr, nat_eq}
use Rattle.std.proofs.lemmas.Bool.{false≢true, cases_eq, cases_lt}
use Rattle.std.proofs.lemmas.List.{length-set, drop-set-lt, get_or-set_same, get_or-set_other}
use Rattle.std.specs.List.{Contains}
use Rattle.std.specs.Option.{unwrap_or}
use Rattle.object_header.specs.Fields.{fields_of}
use Rattle.object_header.specs.Chunks.{Chunk, InOrder, slots_of, leads, slots_told}
use Rattle.spur_graph.specs.Cells.{Body, Store, Empty, Moved, There, cell_in, cell_from, read_cell, start_named, is_start}
use Rattle.spur_graph.specs.Ordinary.{ordinary_starts, is_internal, is_good_word, is_good_reference}
use Rattle.spur_graph.specs.Spaces.{AreSpaces, AreRows, old_row, young_row}
use Rattle.spur_graph.specs.HeapRoom.{room_in}
use Rattle.spur_graph.specs.Heaps.{View, IsWhole, IsSound, HasBits, AreRemembered, AreMourners, IsYoung, store_of, chunks_of, heap_to, heap_graph, heap_room, graph_in, is_remembered}
use Rattle.heap_cells.specs.RowWrites.{KeepsChunk}
use Rattle.heap_cells.proofs.Cutting.{stands, shape, start-in}
use Rattle.heap_cells.proofs.Members.{In, in_list, in_left}
use Rattle.heap_cells.proofs.ObjectWrites.{read-by, header-keeps}
use Rattle.heap_cells.proofs.Over.{over-starts}
use Rattle.heap_cells.proofs.Spaced.{SameRows, young-same, rows-same, rows-kept}
use Rattle.heap_cells.proofs.Starts.{in_order}
use Rattle.heap_cells.proofs.Writing.{read-agree, cell-same}
use Rattle.free_lists.specs.Runs.{cover}
use Rattle.free_lists.specs.Rows.{is_free, free_runs}
use Rattle.free_lists.specs.Lists.{Lists}
use Rattle.free_lists.proofs.Given.{keeps_lists}
use Rattle.spur_heap.specs.MarkBits.{IsNoHeaderOf}
use Rattle.spur_heap.proofs.FreeRuns.{free_runs_same, covered_by}
use Rattle.spur_heap.proofs.Orders.{order}
use Rattle.spur_heap.proofs.Puts.{whole_sound}
use Rattle.spur_heap.proofs.SameCell.{TellSame}
use Rattle.spur_heap.proofs.Tables.{SameTables, SameNoted, noted_from}

same_from : (old new next : ℕ) (ws : List ℕ) → TellSame old new → cell_from (fields_of new) next ws ≡ cell_from (fields_of old) next ws
same_from old new next ws same = λ x.
    let b : Body = record { class = same.class x; hash = same.hash x; format = same.format x; pinned = same.pinned x; readonly = same.readonly x; words = ws } in
    cond (nat_eq (same.class x) 0) Empty (cond (nat_eq (same.class x) 8) (Moved next) (There b))

-- each header tells what it told, and no other word is written
pub record SameHeads (v : View) (new : List ℕ) : Type 0 where
  pub whole : IsWhole v
  pub long : length new ≡ length v.words
  pub heads : (c : Chunk) → In (chunks_of v) c → TellSame (get_or v.words c.start 0) (get_or new c.start 0)
  pub others : (j : ℕ) → IsNoHeaderOf (chunks_of v) j → get_or new j 0 ≡ get_or v.words j 0

module _ {v : View} {new : List ℕ} (k : SameHeads v new) where
  -- the heap then
  abbrev after : View
  after = record v { words = new }

  row : InOrder v.words 0 (length v.words) (chunks_of v)
  row = order v (whole_sound v k.whole)

  -- the words of a chunk but its header
  behind : (c : Chunk) → In (chunks_of v) c → (j : ℕ) → c.at ≤ j → j < c.at + c.size → j ≢ c.start → get_or new j 0 ≡ get_or v.words j 0
  behind c m j from to n = k.others j (λ d in_d e.
      let md = in_list (chunks_of v) d in_d in
      let l = (stands v.words 0 (length v.words) (chunks_of v) d row md).lies in
      elim (cases_lt c.start d.start) [
        | inl low ↦ let a = in_order v.words 0 (length v.words) (chunks_of v) c d row m md low in omega (arith, a, l.lead, e, to)
        | inr ge ↦ elim (cases_eq c.start d.start) [
          | inl same ↦ n (e ∙ sym same)
          | inr other ↦ let a = in_order v.words 0 (length v.words) (chunks_of v) d c row md m (omega (arith, ge, other)) in omega (arith, a, l.room, e, from)
        ]
      ])

  module _ (c : Chunk) (m : In (chunks_of v) c) where
    -- the words with the new header of this chunk alone
    abbrev one : List ℕ
    one = set v.words c.start (get_or new c.start 0)

    low : c.start < length v.words
    low = let l = (stands v.words 0 (length v.words) (chunks_of v) c row m).lies in omega (arith, l.room, l.before)

    one_here : get_or one c.start 0 ≡ get_or new c.start 0
    one_here = get_or-set_same v.words c.start (get_or new c.start 0) 0 low

    one_same : (j : ℕ) → c.at ≤ j → j < c.at + c.size → get_or new j 0 ≡ get_or one j 0
    one_same j from to = elim (cases_eq j c.start) [
      | inl e ↦ ap (λ i. get_or new i 0) e ∙ sym one_here ∙ ap (λ i. get_or one i 0) (sym e)
      | inr n ↦ behind c m j from to n ∙ sym (get_or-set_other v.words c.start j (get_or new c.start 0) 0 n)
    ]

    keeps : KeepsChunk v.words new c
    keeps =
        let l = (stands v.words 0 (length v.words) (chunks_of v) c row m).lies in
        let kept = header-keeps heap_to v.words (length v.words) (chunks_of v) c row m (get_or new c.start 0) low (k.heads c m).count in
        let first = one_same c.at (omega arith) (omega (arith, l.lead, l.room)) in
        let start = one_same c.start l.lead (omega (arith, l.room)) in
        record { leads_first = ap leads first ∙ kept.leads_first; slots = ap slots_told first ∙ kept.slots; leads_start = ap leads start ∙ kept.leads_start }

    reads_same : read_cell heap_to new c ≡ read_cell heap_to v.words c
    reads_same =
        let s = stands v.words 0 (length v.words) (chunks_of v) c row m in
        let size = (shape v.words c s.chunk).size in
        let old : ℕ = get_or v.words c.start 0 in
        let head : ℕ = get_or new c.start 0 in
        let next : get_or one (c.start + 1) 0 ≡ get_or v.words (c.start + 1) 0 = get_or-set_other v.words c.start (c.start + 1) head 0 (λ e. omega (arith, e)) in
        let slots : slots_of one c ≡ slots_of v.words c = ap (take c.slots) (drop-set-lt (c.start + 1) v.words c.start head (omega arith)) in
        let long : length one ≡ length v.words = length-set v.words c.start head in
        read-agree heap_to one new c (k.long ∙ sym long) (λ j a b. one_same j (omega (arith, a, s.lies.lead)) (omega (arith, b, size)))
        ∙ read-by heap_to one c head (slots_of v.words c) one_here slots
        ∙ same_from old head (start_named heap_to one (get_or one (c.start + 1) 0)) (slots_of v.words c) (k.heads c m)
        ∙ (λ x. cell_from (fields_of old) (unwrap_or (heap_to (next x)) (long x)) (slots_of v.words c))
        ∙ sym (read-by heap_to v.words c old (slots_of v.words c) refl refl)

  both_rows : SameRows v.words new v.spaces × AreRows new v.spaces
  both_rows = rows-kept v.words new v.spaces k.whole.rows (λ c m. keeps c (in_list (chunks_of v) c m))

  same_chunks : chunks_of after ≡ chunks_of v
  same_chunks = rows-same v.words new v.spaces both_rows.0

  pub heads_store : store_of after ≡ store_of v
  heads_store =
      let cell : (t : ℕ) → cell_in heap_to new (chunks_of after) t ≡ cell_in heap_to v.words (chunks_of v) t =
      λ t. ap (λ cs. cell_in heap_to new cs t) same_chunks ∙ cell-same heap_to v.words new (chunks_of v) t (λ c m e. reads_same c m) in
      λ i. record { names = k.long i; starts = map (λ (c : Chunk). c.start) (same_chunks i); cell = λ t. cell t i; to = heap_to }

  pub heads_graph : heap_graph after ≡ heap_graph v
  heads_graph = λ i. graph_in (heads_store i) v.special v.handles v.mourners v.hash (k.long i)

  pub heads_room : heap_room after ≡ heap_room v
  heads_room = λ i. room_in (heads_store i) (both_rows.0.old i) (both_rows.0.eden i) (both_rows.0.past i) v.spaces.old_end v.limits v.spaces.eden_used v.spaces.past_used

  -- ---- the heap is whole

  pub before : (c : Chunk) → Contains (chunks_of after) c → Contains (chunks_of v) c
  before c m = subst (λ (cs : List Chunk). Contains cs c) same_chunks m

  module _ (remembered : (c : Chunk) → In (chunks_of v) c → (fields_of (get_or new c.start 0)).remembered ≡ (fields_of (get_or v.words c.start 0)).remembered)
      (bits : (c : Chunk) → Contains (chunks_of v) c → HasBits v.phase (get_or new c.start 0)) where
    same_bit : (c : Chunk) → In (chunks_of v) c → is_remembered new c.start ≡ is_remembered v.words c.start
    same_bit c m = ap (λ n. nat_eq n 1) (remembered c m)

    still_remembered : AreRemembered new v.spaces.old_end (chunks_of after) (store_of v)
    still_remembered = record {
      all = λ s l n over.
          let c = start-in heap_to v.words (chunks_of v) s (over-starts v.spaces.old_end ((store_of v).cell s) over) in
          ap (is_remembered new) (sym c.2) ∙ same_bit c.0 c.1 ∙ ap (is_remembered v.words) c.2 ∙ k.whole.remembered.all s l n over;
      only = λ c m on. let was = before c m in k.whole.remembered.only c was (sym (same_bit c (in_list (chunks_of v) c was)) ∙ on);
    }

    pub heads_whole : IsWhole after
    heads_whole =
        let Of : (Store → Type 0) → Type 0 = λ P. P (store_of v) → P (store_of after) in
        let at : (P : Store → Type 0) → Of P = λ P p. subst P (sym heads_store) p in
        record {
          spaces = subst (λ n. AreSpaces n v.limits v.spaces) (sym k.long) k.whole.spaces;
          rows = both_rows.1;
          sound = at (λ h. IsSound h) k.whole.sound;
          inner = at (λ h. (s : ℕ) → is_internal h s ≡ true → s < v.spaces.old_end) k.whole.inner;
          young = λ c m. at (λ h. IsYoung h c) (k.whole.young c (subst (λ (cs : List Chunk). Contains cs c) (young-same v.words new v.spaces both_rows.0) m));
          bits = λ c m. bits c (before c m);
          remembered = at (λ h. AreRemembered new v.spaces.old_end (chunks_of after) h) still_remembered;
          held = λ h w e. at (λ x. is_good_word x w ≡ true) (k.whole.held h w e);
          special_there = at (λ h. is_good_reference h v.special ≡ true) k.whole.special_there;
          mourners = at (λ h. AreMourners h v.mourners) k.whole.mourners;
          state_bits = k.whole.state_bits;
          header = k.whole.header;
          few = let few = k.whole.few in omega (arith, few, k.long);
        }

  -- ---- the remembered starts are the same, where each header has its remembered bit as before

  pub heads_noted : ((c : Chunk) → In (chunks_of v) c → (fields_of (get_or new c.start 0)).remembered ≡ (fields_of (get_or v.words c.start 0)).remembered) → SameNoted v after
  heads_noted bits = noted_from v after (λ t on.
      let d = start-in heap_to v.words (chunks_of v) t on in (
        ap (λ (h : Store). is_start (h.cell t)) heads_store ∙ on,
        ap (λ u. is_remembered new u) (sym d.2) ∙ ap (λ n. nat_eq n 1) (bits d.0 d.1) ∙ ap (λ u. is_remembered v.words u) d.2,
      )) (λ t off on. absurd (false≢true (sym off ∙ sym (ap (λ (h : Store). is_start (h.cell t)) heads_store) ∙ on)))

  -- ---- the tables are the same, where the headers of free chunks are

  module _ (free : (c : Chunk) → In (old_row v.words v.spaces) c → is_free (get_or v.words c.start 0) ≡ true → get_or new c.start 0 ≡ get_or v.words c.start 0) where
    among : (c : Chunk) → In (old_row v.words v.spaces) c → In (chunks_of v) c
    among c m = in_left (old_row v.words v.spaces) (young_row v.words v.spaces) c m

    same_runs : free_runs new (old_row new v.spaces) ≡ free_runs v.words (old_row v.words v.spaces)
    same_runs =
        ap (free_runs new) both_rows.0.old
        ∙ free_runs_same v.words new (old_row v.words v.spaces) (λ c m. ap (λ n. nat_eq n 0) (k.heads c (among c m)).class)

    same_word : (j : ℕ) → 1 ≤ cover (free_runs v.words (old_row v.words v.spaces)) j → get_or new j 0 ≡ get_or v.words j 0
    same_word j some =
        let h = covered_by v.words (old_row v.words v.spaces) j some in
        elim (cases_eq j h.chunk.start) [
          | inl e ↦ ap (λ i. get_or new i 0) e ∙ free h.chunk h.inside h.free ∙ ap (λ i. get_or v.words i 0) (sym e)
          | inr n ↦ behind h.chunk (among h.chunk h.inside) j h.from h.to n
        ]

    pub heads_tables : SameTables v after
    unfolding ordinary_starts
    heads_tables = record {
      long = k.long;
      starts = λ t. ap (λ (h : Store). is_start (h.cell t)) heads_store;
      lists = λ lists l. subst (λ runs. Lists new lists runs) (sym same_runs) (keeps_lists v.words new lists (free_runs v.words (old_row v.words v.spaces)) l k.long same_word);
      count = ap (λ (h : Store). length (ordinary_starts h)) heads_store;
    }
