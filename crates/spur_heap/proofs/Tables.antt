-- The tables beside the words, where other words tell the same of each.
use Rattle.std.proofs.Common.{◌≡◌, ◌≢◌, ℕ, Bool, true, false, ◌≤◌, not, ◌&&◌, ◌||◌, eqb, List, length, get_or, vec_capacity, refl, sym, ap, ◌∙◌, subst, inl, inr}
use Rattle.std.proofs.lemmas.Bool.{false≢true, cases_eq, cases_Bool, eq-eqb, ne_eqb, and_right}
use Rattle.std.proofs.lemmas.List.Elements.{filter_agree}
use Rattle.object_header.specs.Chunks.{Chunk}
use Rattle.spur_graph.specs.Cells.{Cell, Store, is_start}
use Rattle.spur_graph.specs.Ordinary.{is_ordinary, ordinary_starts}
use Rattle.spur_graph.specs.Spaces.{old_row, young_row}
use Rattle.spur_graph.specs.Heaps.{View, IsWhole, store_of, chunks_of, heap_to, is_remembered}
use Rattle.heap_cells.proofs.Cutting.{start-in}
use Rattle.heap_cells.proofs.Members.{In, in_left}
use Rattle.remembered_set.specs.Starts.{Table}
use Rattle.free_lists.specs.Runs.{cover}
use Rattle.free_lists.specs.Rows.{free_runs, is_free}
use Rattle.free_lists.specs.Lists.{Lists}
use Rattle.free_lists.specs.declared.lists.FreeLists.{FreeLists}
use Rattle.free_lists.proofs.Given.{keeps_lists}
use Rattle.spur_heap.specs.declared.heap.HeapParts.{HeapParts}
use Rattle.spur_heap.specs.Parts.{view_of, is_noted, HasTables, ArePartsOfHeap}
use Rattle.spur_heap.specs.Remembering.{CanNote, noted}
use Rattle.spur_heap.specs.Tables.{HasPlaces, IsTableOf}
use Rattle.spur_heap.specs.Words.{starts_at}
use Rattle.spur_heap.proofs.OneCell.{with_cell, cell_here, cell_other}
use Rattle.spur_heap.proofs.Orders.{order}
use Rattle.spur_heap.proofs.Noted.{or_false, and_true, table_same, noted_table, noted_bit, can_note}
use Rattle.spur_heap.proofs.Touched.{Touch, touched, touched_store, same_rows, other_words, headers, same_bit}
use Rattle.spur_heap.proofs.FreeRuns.{free_told, free_runs_same, covered_by}

-- the words hold these free lists, which are those of old space
abbrev pub HasFreeLists : View → FreeLists → Type 0
HasFreeLists v free = Lists v.words free (free_runs v.words (old_row v.words v.spaces))

-- the tables of one heap are those of the other
pub record SameTables (v u : View) : Type 0 where
  pub long : length u.words ≡ length v.words
  pub starts : (t : ℕ) → starts_at u t ≡ starts_at v t
  pub lists : (free : FreeLists) → HasFreeLists v free → HasFreeLists u free
  pub count : length (ordinary_starts (store_of u)) ≡ length (ordinary_starts (store_of v))

pub tables-same : (v : View) → SameTables v v
tables-same v = record { long = refl; starts = λ t. refl; lists = λ free k. k; count = refl }

pub tables-trans : (v u w : View) → SameTables v u → SameTables u w → SameTables v w
tables-trans v u w a b = record {
  long = b.long ∙ a.long;
  starts = λ t. b.starts t ∙ a.starts t;
  lists = λ free k. b.lists free (a.lists free k);
  count = b.count ∙ a.count;
}

-- the remembered starts of the one heap are those of the other, and `s` where it is on
abbrev pub NotesToo : View → View → Bool → ℕ → Type 0
NotesToo v u on s = (t : ℕ) → is_noted u t ≡ (is_noted v t || (on && eqb t s))

abbrev pub SameNoted : View → View → Type 0
SameNoted v u = (t : ℕ) → is_noted u t ≡ is_noted v t

-- a write inside one chunk that is no free chunk before or after, and that leaves which objects are ordinary
module _ (v : View) (new : List ℕ) (s : ℕ) (x : Cell) (k : Touch v new s x) (was : is_start ((store_of v).cell s) ≡ true) (is : is_start x ≡ true) where
  start_kept : (t : ℕ) → is_start ((with_cell (store_of v) s x).cell t) ≡ starts_at v t
  start_kept t = elim (cases_eq t s) [
    | inl e ↦ ap (λ u. is_start ((with_cell (store_of v) s x).cell u)) e ∙ ap is_start (cell_here (store_of v) s x) ∙ is ∙ sym was ∙ sym (ap (starts_at v) e)
    | inr n ↦ ap is_start (cell_other (store_of v) s x t n)
  ]

  pub touched_starts : (t : ℕ) → starts_at (touched v new s x k) t ≡ starts_at v t
  touched_starts t = ap (λ (h : Store). is_start (h.cell t)) (touched_store v new s x k) ∙ start_kept t

  -- the free chunks are those of before
  same_free : (c : Chunk) → In (chunks_of v) c → is_free (get_or new c.start 0) ≡ is_free (get_or v.words c.start 0)
  same_free c m =
      free_told heap_to new (length v.words) (chunks_of v) c k.rewrites.row m ∙ ap not (ap is_start (k.rewrites.cell c.start) ∙ start_kept c.start)
      ∙ sym (free_told heap_to v.words (length v.words) (chunks_of v) c (order v k.sound) m)

  among : (c : Chunk) → In (old_row v.words v.spaces) c → In (chunks_of v) c
  among c m = in_left (old_row v.words v.spaces) (young_row v.words v.spaces) c m

  same_runs : free_runs new (old_row new v.spaces) ≡ free_runs v.words (old_row v.words v.spaces)
  same_runs = ap (free_runs new) (same_rows v new s x k).0.old ∙ free_runs_same v.words new (old_row v.words v.spaces) (λ c m. same_free c (among c m))

  -- no word of a free chunk is written
  apart : (c : Chunk) → In (chunks_of v) c → is_free (get_or v.words c.start 0) ≡ true → c.start ≢ s
  apart c m free e = false≢true (sym (free_told heap_to v.words (length v.words) (chunks_of v) c (order v k.sound) m ∙ ap not (ap (starts_at v) e ∙ was)) ∙ free)

  same_word : (j : ℕ) → 1 ≤ cover (free_runs v.words (old_row v.words v.spaces)) j → get_or new j 0 ≡ get_or v.words j 0
  same_word j some =
      let h = covered_by v.words (old_row v.words v.spaces) j some in
      let m = among h.chunk h.inside in
      other_words v new s x k h.chunk m (apart h.chunk m h.free) j h.from h.to

  pub touched_lists : (free : FreeLists) → HasFreeLists v free → HasFreeLists (touched v new s x k) free
  touched_lists free l = subst (λ runs. Lists new free runs) (sym same_runs) (keeps_lists v.words new free (free_runs v.words (old_row v.words v.spaces)) l k.long same_word)

  -- ---- the remembered starts

  own_start : (t : ℕ) → t ≡ s → starts_at v t ≡ true
  own_start t e = ap (starts_at v) e ∙ was

  other_bit : (t : ℕ) → t ≢ s → starts_at v t ≡ true → is_remembered new t ≡ is_remembered v.words t
  other_bit t n there =
      let c = start-in heap_to v.words (chunks_of v) t there in
      same_bit v.words new t (subst (λ u. get_or new u 0 ≡ get_or v.words u 0) c.2 (headers v new s x k c.0 c.1 (λ e. n (sym c.2 ∙ e))))

  other_noted : (t : ℕ) → t ≢ s → is_noted (touched v new s x k) t ≡ is_noted v t
  other_noted t n = ap (λ b. b && is_remembered new t) (touched_starts t) ∙ elim (cases_Bool (starts_at v t)) [
    | inl there ↦ ap (λ b. starts_at v t && b) (other_bit t n there)
    | inr none ↦ rw none refl
  ]

  pub touched_noted : (on : Bool) → is_remembered new s ≡ (is_remembered v.words s || on) → NotesToo v (touched v new s x k) on s
  touched_noted on bit t = elim (cases_eq t s) [
    | inl e ↦
        ap (λ b. b && is_remembered new t) (touched_starts t ∙ own_start t e) ∙ ap (is_remembered new) e ∙ bit ∙ ap (λ u. is_remembered v.words u || on) (sym e)
        ∙ (λ i. (sym (own_start t e) i && is_remembered v.words t) || sym (ap (λ b. on && b) (eq-eqb t s e) ∙ and_true on) i)
    | inr n ↦ other_noted t n ∙ sym (ap (λ b. is_noted v t || b) (ap (λ b. on && b) (ne_eqb t s n) ∙ and_right on false refl) ∙ or_false (is_noted v t))
  ]

  pub touched_same : is_remembered new s ≡ is_remembered v.words s → SameNoted v (touched v new s x k)
  touched_same bit t = touched_noted false (bit ∙ sym (or_false (is_remembered v.words s))) t ∙ or_false (is_noted v t)

  pub touched_tables : ((t : ℕ) → is_ordinary (with_cell (store_of v) s x) t ≡ is_ordinary (store_of v) t) → SameTables v (touched v new s x k)
  unfolding ordinary_starts
  touched_tables ordinary = record {
    long = k.long;
    starts = touched_starts;
    lists = touched_lists;
    count =
        ap (λ (h : Store). length (ordinary_starts h)) (touched_store v new s x k)
        ∙ ap (λ (ts : List ℕ). length ts) (filter_agree (is_ordinary (with_cell (store_of v) s x)) (is_ordinary (store_of v)) ordinary (store_of v).starts);
  }

-- where the starts of the one heap are starts of the other with the same bits, and no other start is remembered
pub noted_from : (v u : View) → ((t : ℕ) → starts_at v t ≡ true → (starts_at u t ≡ true) × (is_remembered u.words t ≡ is_remembered v.words t))
    → ((t : ℕ) → starts_at v t ≡ false → starts_at u t ≡ true → is_remembered u.words t ≡ false) → SameNoted v u
noted_from v u kept others t = elim (cases_Bool (starts_at v t)) [
  | inl on ↦ let k = kept t on in λ i. (k.0 ∙ sym on) i && k.1 i
  | inr off ↦ elim (cases_Bool (starts_at u t)) [
    | inl on ↦ (λ i. on i && others t off on i) ∙ sym (λ i. off i && is_remembered v.words t)
    | inr none ↦ (λ i. none i && is_remembered u.words t) ∙ sym (λ i. off i && is_remembered v.words t)
  ]
]

-- the tables that no word tells, where other parts have them
pub tables_kept : (p q : HeapParts) → HasTables p → length q.region ≡ length p.region
    → q ≡ record q { mourners = p.mourners; mourned = p.mourned; marks = p.marks; saved = p.saved; limits = p.limits } → HasTables q
tables_kept p q k long is = subst (λ (r : HeapParts). HasTables r) (sym is) (record {
  taken = k.taken;
  grouped = k.grouped;
  mourner_places = subst (λ n. HasPlaces n (vec_capacity p.mourners)) (sym long) k.mourner_places;
  mark_places = subst (λ n. HasPlaces n (vec_capacity p.marks)) (sym long) k.mark_places;
  saved = k.saved;
  some_saved = k.some_saved;
})

-- a start has a place in the table of remembered ones
pub can_note_at : (p : HeapParts) → ArePartsOfHeap p → (v : View) → view_of p ≡ v → (s : ℕ) → starts_at v s ≡ true → CanNote p s
can_note_at p k v same s there =
    can_note p (record { spaces = k.whole.spaces; rows = k.whole.rows; sound = k.whole.sound; few = k.whole.few }) k.remembered s (ap (λ (x : View). starts_at x s) same ∙ there)

-- the parts of a heap with other words and another table of remembered starts, which are whole and whose other tables are the same
pub parts_with : (p : HeapParts) → ArePartsOfHeap p → (v u : View) → view_of p ≡ v → (new : List ℕ) (table : Table) → view_of (record p { region = new }) ≡ u → IsWhole u → SameTables v u → IsTableOf (is_noted u) (length p.region) table
    → ArePartsOfHeap (record p { region = new; remembered = table })
parts_with p k v u same new table seen whole tables noted =
    let long : length new ≡ length p.region = ap (λ (x : View). length x.words) seen ∙ tables.long ∙ ap (λ (x : View). length x.words) (sym same) in
    record {
      whole = subst (λ (x : View). IsWhole x) (sym seen) whole;
      map = record {
        starts = λ t. k.map.starts t ∙ ap (λ (x : View). starts_at x t) same ∙ sym (tables.starts t) ∙ ap (λ (x : View). starts_at x t) (sym seen);
        covers = k.map.covers ∙ sym long;
      };
      free_chunks = record {
        lists = subst (λ (x : View). HasFreeLists x p.free) (sym seen) (tables.lists p.free (subst (λ (x : View). HasFreeLists x p.free) same k.free_chunks.lists));
      };
      objects = record {
        count = k.objects.count ∙ ap (λ (x : View). length (ordinary_starts (store_of x))) same ∙ sym tables.count ∙ ap (λ (x : View). length (ordinary_starts (store_of x))) (sym seen);
      };
      remembered = record { table = table_same (λ t. ap (λ (x : View). is_noted x t) seen) long noted };
      tables = tables_kept p (record p { region = new; remembered = table }) k.tables long refl;
    }

-- the same where the remembered starts are the same, and so is their table
pub parts_same : (p : HeapParts) → ArePartsOfHeap p → (v u : View) → view_of p ≡ v → (new : List ℕ) → view_of (record p { region = new }) ≡ u → IsWhole u → SameTables v u → SameNoted v u → ArePartsOfHeap (record p { region = new })
parts_same p k v u same new seen whole tables noted =
    parts_with p k v u same new p.remembered seen whole tables (table_same (λ t. noted t ∙ ap (λ (x : View). is_noted x t) (sym same)) refl k.remembered.table)

-- the table where one start more is remembered, or may be
pub noting_table : (p : HeapParts) → ArePartsOfHeap p → (v u : View) → view_of p ≡ v → (on : View → Bool) (s : ℕ) → starts_at v s ≡ true → NotesToo v u (on v) s → IsTableOf (is_noted u) (length p.region) (noted (view_of p) (on (view_of p)) s p.remembered)
noting_table p k v u same on s there notes =
    table_same (λ t. notes t ∙ ap (λ (x : View). is_noted x t || (on x && eqb t s)) (sym same)) refl
    (noted_table (view_of p) (is_noted (view_of p)) (length p.region) p.remembered k.remembered.table s (on (view_of p)) (sym (noted_bit (view_of p) s (ap (λ (x : View). starts_at x s) same ∙ there))))

pub parts_noting : (p : HeapParts) → ArePartsOfHeap p → (v u : View) → view_of p ≡ v → (new : List ℕ) → view_of (record p { region = new }) ≡ u → IsWhole u → SameTables v u
    → (on : View → Bool) (s : ℕ) → starts_at v s ≡ true → NotesToo v u (on v) s → ArePartsOfHeap (record p { region = new; remembered = noted (view_of p) (on (view_of p)) s p.remembered })
parts_noting p k v u same new seen whole tables on s there notes =
    parts_with p k v u same new (noted (view_of p) (on (view_of p)) s p.remembered) seen whole tables (noting_table p k v u same on s there notes)
