-- A write inside one chunk: what it leaves of the invariant, and what each clause asks of it.
use Rattle.std.proofs.Common.{◌≡◌, ◌≢◌, ℕ, true, ◌⊎◌, ◌+◌, ◌<◌, ◌≤◌, List, map, length, get_or, sym, ap, Some, ◌∙◌, subst, arith, inl, inr, nat_eq}
use Rattle.std.proofs.lemmas.Bool.{cases_eq, cases_lt}
use Rattle.std.specs.List.{Contains}
use Rattle.std.specs.FinMap.{get}
use Rattle.object_header.specs.Fields.{fields_of}
use Rattle.object_header.specs.Chunks.{Chunk}
use Rattle.spur_graph.specs.Graph.{Handle}
use Rattle.spur_graph.specs.Cells.{Cell, Store, is_start, body_of, cell_in, first}
use Rattle.spur_graph.specs.Spaces.{AreSpaces, AreRows, old_row, eden_row, past_row, young_row}
use Rattle.spur_graph.specs.HeapRoom.{room_in}
use Rattle.spur_graph.specs.Ordinary.{body_at, is_internal, is_good_word, is_good_reference}
use Rattle.spur_graph.specs.Heaps.{View, IsWhole, IsSound, HasBits, AreRemembered, AreMourners, IsYoung, store_of, chunks_of, heap_to, heap_graph, heap_room, graph_in, is_remembered, names_over}
use Rattle.heap_cells.specs.RowWrites.{Rewrites}
use Rattle.heap_cells.proofs.Cutting.{start-in, stands as chunk-stands}
use Rattle.heap_cells.proofs.Members.{In, in_list}
use Rattle.heap_cells.proofs.Starts.{in_order}
use Rattle.heap_cells.proofs.Over.{over-starts}
use Rattle.heap_cells.proofs.Spaced.{SameRows, young-same, rows-same, rows-kept, young-in_order}
use Rattle.spur_heap.specs.Words.{AreSound}
use Rattle.spur_heap.proofs.Orders.{order}
use Rattle.spur_heap.proofs.OneCell.{with_cell, cell_here, cell_other}

-- only words of the chunk that starts at `s` are written, its head words tell the same chunk, and its cell is then `x`
pub record Touch (v : View) (new : List ℕ) (s : ℕ) (x : Cell) : Type 0 where
  pub sound : AreSound v
  pub long : length new ≡ length v.words
  pub rewrites : Rewrites heap_to v.words new (length v.words) (chunks_of v) s x
  pub chunk : Chunk
  pub inside : In (chunks_of v) chunk
  pub start : chunk.start ≡ s
  pub others : (j : ℕ) → (j < chunk.at) ⊎ (chunk.at + chunk.size ≤ j) → get_or new j 0 ≡ get_or v.words j 0

-- what the clauses on cells ask: nothing of the words
pub record Keeps (h new : Store) : Type 0 where
  pub sound : IsSound new
  pub internal : (t : ℕ) → is_internal new t ≡ true → is_internal h t ≡ true
  pub goods : (w : ℕ) → is_good_word h w ≡ true → is_good_word new w ≡ true
  pub references : (w : ℕ) → is_good_reference h w ≡ true → is_good_reference new w ≡ true
  pub mourners : (groups : List (List ℕ)) → AreMourners h groups → AreMourners new groups

-- what they ask of a heap: what it names from outside stays good
pub record Holds (v : View) (new : Store) : Type 0 where
  pub sound : IsSound new
  pub inner : (t : ℕ) → is_internal new t ≡ true → t < v.spaces.old_end
  pub held : (h : Handle) (w : ℕ) → get v.handles h ≡ Some w → is_good_word new w ≡ true
  pub special : is_good_reference new v.special ≡ true
  pub mourners : AreMourners new v.mourners

pub keeps_held : (v : View) (new : Store) → Keeps (store_of v) new → IsWhole v → Holds v new
keeps_held v new keeps whole = record {
  sound = keeps.sound;
  inner = λ t e. whole.inner t (keeps.internal t e);
  held = λ h w e. keeps.goods w (whole.held h w e);
  special = keeps.references v.special whole.special_there;
  mourners = keeps.mourners v.mourners whole.mourners;
}

-- what the clauses on headers and spaces ask: something of this chunk alone
pub record Fits (v : View) (new : List ℕ) (s : ℕ) (x : Cell) : Type 0 where
  pub bits : HasBits v.phase (get_or v.words s 0) → HasBits v.phase (get_or new s 0)
  pub all : s < v.spaces.old_end → s ≢ first (store_of v) 3 → names_over v.spaces.old_end x ≡ true → is_remembered new s ≡ true
  pub only : is_remembered new s ≡ true → (s < v.spaces.old_end) × (is_start x ≡ true)
  pub young : v.spaces.old_end ≤ s → (body_at (store_of v) s).pinned ≡ 0 → (is_start x ≡ true) × ((body_of x).pinned ≡ 0)

-- a header that is the same has the same remembered bit
pub same_bit : (words new : List ℕ) (t : ℕ) → get_or new t 0 ≡ get_or words t 0 → is_remembered new t ≡ is_remembered words t
same_bit words new t e = ap (λ w. nat_eq (fields_of w).remembered 1) e

module _ (v : View) (new : List ℕ) (s : ℕ) (x : Cell) (k : Touch v new s x) where
  -- the heap then
  abbrev pub touched : View
  touched = record v { words = new }

  pub same_rows : SameRows v.words new v.spaces × AreRows new v.spaces
  same_rows = rows-kept v.words new v.spaces k.sound.rows k.rewrites.kept

  pub same_chunks : chunks_of touched ≡ chunks_of v
  same_chunks = rows-same v.words new v.spaces same_rows.0

  pub touched_store : store_of touched ≡ with_cell (store_of v) s x
  touched_store =
      let cell : (t : ℕ) → cell_in heap_to new (chunks_of touched) t ≡ (with_cell (store_of v) s x).cell t = λ t. ap (λ cs. cell_in heap_to new cs t) same_chunks ∙ k.rewrites.cell t in
      λ i. record { names = k.long i; starts = map (λ (c : Chunk). c.start) (same_chunks i); cell = λ t. cell t i; to = heap_to }

  -- the words of every other chunk are as before
  pub other_words : (c : Chunk) → In (chunks_of v) c → c.start ≢ s → (j : ℕ) → c.at ≤ j → j < c.at + c.size → get_or new j 0 ≡ get_or v.words j 0
  other_words c m n j from to = elim (cases_lt c.start k.chunk.start) [
    | inl before ↦ let a = in_order v.words 0 (length v.words) (chunks_of v) c k.chunk (order v k.sound) m k.inside before in k.others j (inl (omega (arith, a, to)))
    | inr behind ↦
        let a = in_order v.words 0 (length v.words) (chunks_of v) k.chunk c (order v k.sound) k.inside m (let is = k.start in omega (arith, behind, n, is)) in
        k.others j (inr (omega (arith, a, from)))
  ]

  pub headers : (c : Chunk) → In (chunks_of v) c → c.start ≢ s → get_or new c.start 0 ≡ get_or v.words c.start 0
  headers c m n = let l = (chunk-stands v.words 0 (length v.words) (chunks_of v) c (order v k.sound) m).lies in other_words c m n c.start l.lead (omega (arith, l.room))

  before : (c : Chunk) → Contains (chunks_of touched) c → Contains (chunks_of v) c
  before c m = subst (λ (cs : List Chunk). Contains cs c) same_chunks m

  touched_sound : IsSound (with_cell (store_of v) s x) → AreSound touched
  touched_sound sound = record {
    spaces = subst (λ n. AreSpaces n v.limits v.spaces) (sym k.long) k.sound.spaces;
    rows = same_rows.1;
    sound = subst (λ (h : Store). IsSound h) (sym touched_store) sound;
    few = let few = k.sound.few in omega (arith, k.long, few);
  }

  -- the headers
  module _ (fits : Fits v new s x) where
    touched_bits : ((c : Chunk) → Contains (chunks_of v) c → HasBits v.phase (get_or v.words c.start 0)) → (c : Chunk) → Contains (chunks_of touched) c → HasBits v.phase (get_or new c.start 0)
    touched_bits bits c m =
        let was = bits c (before c m) in
        elim (cases_eq c.start s) [
          | inl e ↦ subst (λ t. HasBits v.phase (get_or new t 0)) (sym e) (fits.bits (subst (λ t. HasBits v.phase (get_or v.words t 0)) e was))
          | inr n ↦ subst (λ w. HasBits v.phase w) (sym (headers c (in_list (chunks_of v) c (before c m)) n)) was
        ]

    -- of the cells of the store then
    touched_remembered : AreRemembered v.words v.spaces.old_end (chunks_of v) (store_of v) → AreRemembered new v.spaces.old_end (chunks_of touched) (store_of touched)
    touched_remembered r = subst (λ (h : Store). AreRemembered new v.spaces.old_end (chunks_of touched) h) (sym touched_store) (record {
      all = λ t l other over. elim (cases_eq t s) [
        | inl e ↦
            ap (is_remembered new) e
            ∙ fits.all (omega (arith, l, e)) (λ q. other (e ∙ q)) (sym (ap (names_over v.spaces.old_end) (ap (λ u. (with_cell (store_of v) s x).cell u) e ∙ cell_here (store_of v) s x)) ∙ over)
        | inr n ↦
            let was : names_over v.spaces.old_end ((store_of v).cell t) ≡ true = sym (ap (names_over v.spaces.old_end) (cell_other (store_of v) s x t n)) ∙ over in
            let c = start-in heap_to v.words (chunks_of v) t (over-starts v.spaces.old_end ((store_of v).cell t) was) in
            let header : get_or new t 0 ≡ get_or v.words t 0 = subst (λ u. get_or new u 0 ≡ get_or v.words u 0) c.2 (headers c.0 c.1 (λ e. n (sym c.2 ∙ e))) in
            same_bit v.words new t header ∙ r.all t l other was
      ];
      only = λ c m on. elim (cases_eq c.start s) [
        | inl e ↦
            let q = fits.only (sym (ap (is_remembered new) e) ∙ on) in
            (omega (arith, q.0, e), ap is_start (ap (λ u. (with_cell (store_of v) s x).cell u) e ∙ cell_here (store_of v) s x) ∙ q.1)
        | inr n ↦
            let was = r.only c (before c m) (sym (same_bit v.words new c.start (headers c (in_list (chunks_of v) c (before c m)) n)) ∙ on) in
            (was.0, ap is_start (cell_other (store_of v) s x c.start n) ∙ was.1)
      ];
    })

    touched_young : ((c : Chunk) → Contains (young_row v.words v.spaces) c → IsYoung (store_of v) c) → (c : Chunk) → Contains (young_row new v.spaces) c → IsYoung (store_of touched) c
    touched_young young c m =
        let was : Contains (young_row v.words v.spaces) c = subst (λ (cs : List Chunk). Contains cs c) (young-same v.words new v.spaces same_rows.0) m in
        let y = young c was in
        subst (λ (h : Store). IsYoung h c) (sym touched_store) (elim (cases_eq c.start s) [
          | inl e ↦
              let order = young-in_order v.words v.limits v.spaces k.sound.spaces k.sound.rows in
              let l = chunk-stands v.words v.spaces.eden_at (length v.words) (young_row v.words v.spaces) c order (in_list (young_row v.words v.spaces) c was) in
              let behind = k.sound.spaces.eden_behind in
              let mobile : (body_at (store_of v) s).pinned ≡ 0 = sym (ap (λ t. (body_at (store_of v) t).pinned) e) ∙ y.mobile in
              let q = fits.young (omega (arith, l.lies.after, l.lies.lead, behind, e)) mobile in
              let here = ap (λ u. (with_cell (store_of v) s x).cell u) e ∙ cell_here (store_of v) s x in
              record { start = ap is_start here ∙ q.0; mobile = ap (λ y. (body_of y).pinned) here ∙ q.1; form = y.form }
          | inr n ↦ record { start = ap is_start (cell_other (store_of v) s x c.start n) ∙ y.start; mobile = ap (λ y. (body_of y).pinned) (cell_other (store_of v) s x c.start n) ∙ y.mobile; form = y.form }
        ])

    -- the heap is whole
    pub held_whole : Holds v (with_cell (store_of v) s x) → IsWhole v → IsWhole touched
    held_whole holds whole =
        let sound = touched_sound holds.sound in
        record {
          spaces = sound.spaces;
          rows = sound.rows;
          sound = sound.sound;
          inner = λ t e. holds.inner t (sym (ap (λ (h : Store). is_internal h t) touched_store) ∙ e);
          young = touched_young whole.young;
          bits = touched_bits whole.bits;
          remembered = touched_remembered whole.remembered;
          held = λ h w e. ap (λ (g : Store). is_good_word g w) touched_store ∙ holds.held h w e;
          special_there = ap (λ (g : Store). is_good_reference g v.special) touched_store ∙ holds.special;
          mourners = subst (λ (h : Store). AreMourners h v.mourners) (sym touched_store) holds.mourners;
          state_bits = whole.state_bits;
          header = whole.header;
          few = sound.few;
        }

    pub touched_whole : Keeps (store_of v) (with_cell (store_of v) s x) → IsWhole v → IsWhole touched
    touched_whole keeps whole = held_whole (keeps_held v (with_cell (store_of v) s x) keeps whole) whole

  pub touched_graph : heap_graph touched ≡ graph_in (with_cell (store_of v) s x) v.special v.handles v.mourners v.hash (length v.words)
  touched_graph = λ i. graph_in (touched_store i) v.special v.handles v.mourners v.hash (k.long i)

  pub touched_room : heap_room touched
      ≡ room_in (with_cell (store_of v) s x) (old_row v.words v.spaces) (eden_row v.words v.spaces) (past_row v.words v.spaces) v.spaces.old_end v.limits v.spaces.eden_used v.spaces.past_used
  touched_room = λ i. room_in (touched_store i) (same_rows.0.old i) (same_rows.0.eden i) (same_rows.0.past i) v.spaces.old_end v.limits v.spaces.eden_used v.spaces.past_used
