-- The words of a free chunk of old space become other chunks, of fresh objects and perhaps a free one: the heap is whole as before.
use Rattle.std.proofs.Common.{◌≡◌, ◌⊎◌, ℕ, true, false, cond, eqb, ◌+◌, ◌<◌, ◌≤◌, List, [], ◌∷◌, ◌++◌, length, get_or, refl, sym, ap, ◌∙◌, subst, arith, inl, inr, length-append}
use Rattle.std.proofs.lemmas.Bool.{false≢true, cases_Bool, cases_eq, cases_lt}
use Rattle.std.proofs.lemmas.List.{length-map}
use Rattle.std.specs.List.{Contains}
use Rattle.object_header.specs.Chunks.{Chunk}
use Rattle.spur_graph.specs.Cells.{Body, Store, Cell, Empty, There, body_of, is_start, is_there, is_formed, pointer_count, cell_in, first}
use Rattle.spur_graph.specs.Spaces.{young_row}
use Rattle.spur_graph.specs.Ordinary.{is_good_word}
use Rattle.spur_graph.specs.Heaps.{View, IsWhole, IsSound, HasBits, store_of, chunks_of, heap_to, is_remembered, names_over}
use Rattle.heap_cells.specs.Rows.{starts_of}
use Rattle.heap_cells.proofs.Adding.{Adds}
use Rattle.heap_cells.proofs.Cutting.{start-in}
use Rattle.heap_cells.proofs.Keeping.{Keeps}
use Rattle.heap_cells.proofs.Members.{In, in_list, listed, in_right, start-front}
use Rattle.heap_cells.proofs.Over.{over-starts}
use Rattle.heap_cells.proofs.Splitting.{Splits, rows_before, rows_after, split_spaces, split_rows, split_young, split_cell, split_before, split_other, split_in, split_was, starts_apart, same_header, was_in}
use Rattle.spur_heap.specs.Words.{starts_at}
use Rattle.spur_heap.proofs.Touched.{same_bit}

-- the start of the chunk in the middle
start-mid : (xs ys : List Chunk) (f : Chunk) → get_or (starts_of (xs ++ f ∷ ys)) (length xs) 0 ≡ f.start
start-mid [] ys f = refl
start-mid (x ∷ xs) ys f = start-mid xs ys f

-- what stands where an object may stand names nothing behind `end` where neither of the two does
pub over_either : (end : ℕ) (t s : ℕ) (b : Body) (c : Cell) → names_over end (There b) ≡ false → names_over end c ≡ false → names_over end (cond (eqb t s) (There b) c) ≡ false
over_either end t s b c here there = elim (cases_Bool (eqb t s)) [
  | inl on ↦ ap (λ x. names_over end (cond x (There b) c)) on ∙ here
  | inr off ↦ ap (λ x. names_over end (cond x (There b) c)) off ∙ there
]

pub over_nothing : (end : ℕ) → names_over end Empty ≡ false
unfolding names_over
over_nothing end = refl

-- the words of a free chunk are other chunks, which are not remembered
pub record IsTaken (v : View) (new : List ℕ) (xs ys : List Chunk) (f : Chunk) (ms : List Chunk) : Type 0 where
  pub splits : Splits v.words new v.limits v.spaces xs ys f ms
  pub free : (store_of v).cell f.start ≡ Empty
  pub bits : (d : Chunk) → In ms d → HasBits v.phase (get_or new d.start 0)
  pub forgotten : (d : Chunk) → In ms d → is_remembered new d.start ≡ false

module _ {v : View} {new : List ℕ} {xs ys : List Chunk} {f : Chunk} {ms : List Chunk} (k : IsTaken v new xs ys f ms) (whole : IsWhole v) where
  abbrev pub taken : View
  taken = record v { words = new }

  abbrev rest : List Chunk
  rest = ys ++ young_row v.words v.spaces

  -- the first five chunks are objects, so that the free one comes later
  five_before : 5 ≤ length xs
  five_before = elim (cases_lt (length xs) 5) [
    | inr past ↦ past
    | inl early ↦
        let at : first (store_of v) (length xs) ≡ f.start = ap (λ cs. get_or (starts_of cs) (length xs) 0) (rows_before k.splits) ∙ start-mid xs rest f in
        absurd (false≢true (sym (ap is_there (ap (store_of v).cell at ∙ k.free)) ∙ whole.sound.roots.objects (length xs) early))
  ]

  firsts : (j : ℕ) → j < 5 → first (store_of taken) j ≡ first (store_of v) j
  firsts j l =
      ap (λ cs. get_or (starts_of cs) j 0) (rows_after k.splits) ∙ start-front xs (ms ++ rest) j (omega (arith, l, five_before))
      ∙ sym (start-front xs (f ∷ rest) j (omega (arith, l, five_before))) ∙ ap (λ cs. get_or (starts_of cs) j 0) (sym (rows_before k.splits))

  five : 5 ≤ length (starts_of (chunks_of taken))
  five =
      let long : length (starts_of (chunks_of taken)) ≡ length (xs ++ (ms ++ rest)) = length-map (chunks_of taken) (λ (d : Chunk). d.start) ∙ ap (λ (cs : List Chunk). length cs) (rows_after k.splits) in
      omega (arith, long, length-append xs (ms ++ rest), five_before)

  -- nothing stood in the chunk
  pub nothing : (t : ℕ) → f.at ≤ t → t < f.at + f.size → (store_of v).cell t ≡ Empty
  nothing t low high = elim (cases_eq t f.start) [
    | inl e ↦ ap (store_of v).cell e ∙ k.free
    | inr n ↦ split_before k.splits t low high n
  ]

  place_of : (t : ℕ) → ((f.at ≤ t) × (t < f.at + f.size)) ⊎ ((t < f.at) ⊎ (f.at + f.size ≤ t))
  place_of t = elim (cases_lt t f.at) [
    | inl before ↦ inr (inl before)
    | inr low ↦ elim (cases_lt t (f.at + f.size)) [ inl high ↦ inl (low, high) | inr past ↦ inr (inr past) ]
  ]

  -- each cell is another one where the new chunks say so
  pub taken_cells : (more : ℕ → Cell → Cell) → ((t : ℕ) (c : Cell) → (t < f.at) ⊎ (f.at + f.size ≤ t) → more t c ≡ c) → ((t : ℕ) → cell_in heap_to new ms t ≡ more t Empty)
      → (t : ℕ) → (store_of taken).cell t ≡ more t ((store_of v).cell t)
  taken_cells more out cells t = elim (place_of t) [
    | inl inside ↦ split_cell k.splits t inside.0 inside.1 ∙ cells t ∙ ap (more t) (sym (nothing t inside.0 inside.1))
    | inr outside ↦ split_other k.splits t outside ∙ sym (out t ((store_of v).cell t) outside)
  ]

  -- an object is added to a store that has the names and the first chunks of the one before
  pub taken_adds : (h : Store) (s : ℕ) (b : Body) → IsSound h → h.names ≡ length v.words → h.to ≡ heap_to → ((j : ℕ) → j < 5 → first h j ≡ first (store_of v) j) → h.cell s ≡ Empty
      → ((t : ℕ) → (store_of taken).cell t ≡ cond (eqb t s) (There b) (h.cell t)) → is_formed b ≡ true → ((i : ℕ) → i < pointer_count b → is_good_word h (get_or b.words i 0) ≡ true)
      → Adds h (store_of taken) s b
  taken_adds h s b sound names to same empty cells formed slots = record {
    sound = sound;
    empty = empty;
    cells = cells;
    names = k.splits.long ∙ sym names;
    to = sym to;
    five = five;
    firsts = λ j l. firsts j l ∙ sym (same j l);
    formed = formed;
    slots = slots;
  }

  out_of_chunk : (d : Chunk) → In (xs ++ rest) d → (d.start < f.at) ⊎ (f.at + f.size ≤ d.start)
  out_of_chunk d m = elim (place_of d.start) [
    | inl inside ↦ absurd (starts_apart k.splits d.start inside.0 inside.1 d m refl)
    | inr outside ↦ outside
  ]

  elsewhere : (d : Chunk) → In (xs ++ rest) d → (store_of taken).cell d.start ≡ (store_of v).cell d.start
  elsewhere d m = split_other k.splits d.start (out_of_chunk d m)

  -- a start of before has its header
  header : (t : ℕ) → starts_at v t ≡ true → get_or new t 0 ≡ get_or v.words t 0
  header t on =
      let d = start-in heap_to v.words (chunks_of v) t on in
      elim (split_was k.splits d.0 d.1) [
        | inl e ↦ absurd (false≢true (sym (ap is_start (ap (store_of v).cell (sym (ap (λ (x : Chunk). x.start) e ∙ d.2)) ∙ k.free)) ∙ on))
        | inr m ↦ subst (λ u. get_or new u 0 ≡ get_or v.words u 0) d.2 (same_header k.splits d.0 m)
      ]

  -- where the objects keep the rest of the store, and name nothing in new space, the heap is whole
  pub taken_whole : Keeps (store_of v) (store_of taken) → ((t : ℕ) → f.at ≤ t → t < f.at + f.size → names_over v.spaces.old_end ((store_of taken).cell t) ≡ false) → IsWhole taken
  taken_whole keeps old_slots = record {
    spaces = split_spaces k.splits;
    rows = split_rows k.splits;
    sound = keeps.sound;
    inner = λ t e. whole.inner t (sym (keeps.internal t) ∙ e);
    young = λ d m.
        let was : Contains (young_row v.words v.spaces) d = subst (λ (cs : List Chunk). Contains cs d) (split_young k.splits) m in
        let y = whole.young d was in
        let same = elsewhere d (in_right xs rest d (in_right ys (young_row v.words v.spaces) d (in_list (young_row v.words v.spaces) d was))) in
        record { start = ap is_start same ∙ y.start; mobile = ap (λ x. (body_of x).pinned) same ∙ y.mobile; form = y.form };
    bits = λ d m. elim (split_in k.splits d (in_list (chunks_of taken) d m)) [
      | inl a ↦ k.bits d a
      | inr a ↦ subst (λ w. HasBits v.phase w) (sym (same_header k.splits d a)) (whole.bits d (listed (chunks_of v) d (was_in k.splits d a)))
    ];
    remembered = record {
      all = λ t l n over. elim (place_of t) [
        | inl inside ↦ absurd (false≢true (sym (old_slots t inside.0 inside.1) ∙ over))
        | inr outside ↦
            let was : names_over v.spaces.old_end ((store_of v).cell t) ≡ true = sym (ap (names_over v.spaces.old_end) (split_other k.splits t outside)) ∙ over in
            same_bit v.words new t (header t (over-starts v.spaces.old_end ((store_of v).cell t) was)) ∙ whole.remembered.all t l (λ e. n (e ∙ sym (firsts 3 (omega arith)))) was
      ];
      only = λ d m on. elim (split_in k.splits d (in_list (chunks_of taken) d m)) [
        | inl a ↦ absurd (false≢true (sym (k.forgotten d a) ∙ on))
        | inr a ↦
            let r = whole.remembered.only d (listed (chunks_of v) d (was_in k.splits d a)) (sym (same_bit v.words new d.start (same_header k.splits d a)) ∙ on) in
            (r.0, ap is_start (elsewhere d a) ∙ r.1)
      ];
    };
    held = λ h w e. keeps.goods w (whole.held h w e);
    special_there = keeps.references v.special whole.special_there;
    mourners = keeps.mourners v.mourners whole.mourners;
    state_bits = whole.state_bits;
    header = whole.header;
    few = let few = whole.few in let long = k.splits.long in omega (arith, few, long);
  }
