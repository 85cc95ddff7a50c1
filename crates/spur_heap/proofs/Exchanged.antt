-- Two ordinary objects of equal words have changed contents, and each keeps its hash: the heap is whole as before.
use Rattle.std.proofs.Common.{◌≡◌, ◌≢◌, ◌⊎◌, ℕ, true, ◌+◌, ◌<◌, ◌≤◌, List, map, length, get_or, refl, sym, ap, ◌∙◌, subst, arith, inl, inr}
use Rattle.std.proofs.lemmas.Bool.{cases_eq, cases_lt}
use Rattle.std.specs.List.{Contains}
use Rattle.object_header.specs.Chunks.{Chunk}
use Rattle.spur_graph.specs.Cells.{Body, There, Store, is_start, body_of, cell_in, read_cell, final}
use Rattle.spur_graph.specs.Spaces.{old_row, young_row}
use Rattle.spur_graph.specs.Heaps.{View, IsWhole, HasBits, store_of, chunks_of, heap_to, is_remembered, names_over, waiting_in}
use Rattle.heap_cells.proofs.CellKinds.{there_is}
use Rattle.heap_cells.proofs.Cutting.{start-in, stands}
use Rattle.heap_cells.proofs.Members.{In, listed, in_right}
use Rattle.heap_cells.proofs.Over.{over-starts}
use Rattle.heap_cells.proofs.Recounted.{recounted, KeepsPlace, keeps-place, recounted-same, cell-recounted, cell-read}
use Rattle.heap_cells.proofs.References.{ordinary_there}
use Rattle.heap_cells.proofs.Splitting.{words_kept}
use Rattle.heap_cells.proofs.Starts.{in_order}
use Rattle.heap_cells.proofs.Writing.{one-chunk}
use Rattle.spur_heap.specs.Words.{AreSound, is_object, body_in}
use Rattle.spur_heap.specs.Views.{IsOrdinary}
use Rattle.spur_heap.proofs.Orders.{order}
use Rattle.spur_heap.proofs.Puts.{whole_sound}
use Rattle.spur_heap.proofs.Written.{slot_good}
use Rattle.spur_heap.proofs.Touched.{Holds, same_bit}
use Rattle.spur_heap.proofs.InPlace.{changed, cell-here, cell-other, start-same, final-same}
use Rattle.spur_heap.proofs.Swap.{internal-same, ordinary-same, reference-same, good-same, mourners_kept}
use Rattle.spur_heap.proofs.Changing.{Change, swap_of, sound_changed}
use Rattle.spur_heap.proofs.Rearranged.{Rearranges, Suits, places_order, arranged, arranged_whole}
use Rattle.spur_heap.proofs.OtherHash.{with_hash, formed_hash, count_hash, over_hash}
use Rattle.spur_heap.proofs.ExchangedPlace.{Gets, keeps_place, read_then}

-- what else is asked of the header of the chunk `c`, whose place has what stood in the chunk `d`
pub record Marks (v : View) (new : List ℕ) (c d : Chunk) : Type 0 where
  pub bits : HasBits v.phase (get_or new c.start 0)
  pub all : c.start < v.spaces.old_end → names_over v.spaces.old_end ((store_of v).cell d.start) ≡ true → is_remembered new c.start ≡ true
  pub only : is_remembered new c.start ≡ true → c.start < v.spaces.old_end
  pub mobile : (body_in v d.start).pinned ≡ 0
  pub awake : Contains (map (final (store_of v)) (waiting_in v.mourners)) c.start → ⊥

-- the chunks of two ordinary objects have each other's words, and no other word is written
pub record Exchanges (v : View) (new : List ℕ) (c d : Chunk) : Type 0 where
  pub whole : IsWhole v
  pub long : length new ≡ length v.words
  pub in_first : In (chunks_of v) c
  pub in_second : In (chunks_of v) d
  pub first : IsOrdinary v c.start
  pub second : IsOrdinary v d.start
  pub apart : c.start ≢ d.start
  pub others : (j : ℕ) → (j < c.at) ⊎ (c.at + c.size ≤ j) → (j < d.at) ⊎ (d.at + d.size ≤ j) → get_or new j 0 ≡ get_or v.words j 0
  pub gets_first : Gets v new c d
  pub gets_second : Gets v new d c
  pub marks_first : Marks v new c d
  pub marks_second : Marks v new d c

module _ {v : View} {new : List ℕ} {c d : Chunk} (k : Exchanges v new c d) where
  sound : AreSound v
  sound = whole_sound v k.whole

  abbrev old : Store
  old = store_of v

  object_c : is_object v c.start ≡ true
  object_c = ordinary_there old c.start k.first

  object_d : is_object v d.start ≡ true
  object_d = ordinary_there old d.start k.second

  -- ---- the store: one object after the other

  abbrev pub first_then : Body
  first_then = with_hash (body_in v d.start) (body_in v c.start).hash

  abbrev pub second_then : Body
  second_then = with_hash (body_in v c.start) (body_in v d.start).hash

  abbrev pub between : Store
  between = changed old c.start first_then

  abbrev pub behind : Store
  behind = changed between d.start second_then

  pub change_first : Change old c.start (body_in v c.start) first_then
  change_first = record {
    sound = k.whole.sound;
    there = there_is (old.cell c.start) object_c;
    ordinary = k.first;
    hash = inl refl;
    formed = formed_hash (body_in v d.start) (body_in v c.start).hash ∙ k.whole.sound.formed d.start object_d;
    slots = λ i l. slot_good v sound d.start k.second i (let e = count_hash (body_in v d.start) (body_in v c.start).hash in omega (arith, l, e));
  }

  other_way : d.start ≢ c.start
  other_way e = k.apart (sym e)

  pub change_second : Change between d.start (body_in v d.start) second_then
  change_second = record {
    sound = sound_changed change_first;
    there = cell-other (swap_of change_first).place d.start other_way ∙ there_is (old.cell d.start) object_d;
    ordinary = ordinary-same (swap_of change_first) d.start ∙ k.second;
    hash = inl refl;
    formed = formed_hash (body_in v c.start) (body_in v d.start).hash ∙ k.whole.sound.formed c.start object_c;
    slots = λ i l. good-same (swap_of change_first) (get_or (body_in v c.start).words i 0)
        ∙ slot_good v sound c.start k.first i (let e = count_hash (body_in v c.start) (body_in v d.start).hash in omega (arith, l, e));
  }

  cell_first : behind.cell c.start ≡ There first_then
  cell_first = cell-other (swap_of change_second).place c.start k.apart ∙ cell-here (swap_of change_first).place

  cell_second : behind.cell d.start ≡ There second_then
  cell_second = cell-here (swap_of change_second).place

  cell_third : (t : ℕ) → t ≢ c.start → t ≢ d.start → behind.cell t ≡ old.cell t
  cell_third t p q = cell-other (swap_of change_second).place t q ∙ cell-other (swap_of change_first).place t p

  -- ---- the words of every other chunk

  pub other_words : (e : Chunk) → In (chunks_of v) e → e.start ≢ c.start → e.start ≢ d.start → (j : ℕ) → e.at ≤ j → j < e.at + e.size → get_or new j 0 ≡ get_or v.words j 0
  other_words e m p q j from to = k.others j (beside c k.in_first p) (beside d k.in_second q)
    where
      beside : (f : Chunk) → In (chunks_of v) f → e.start ≢ f.start → (j < f.at) ⊎ (f.at + f.size ≤ j)
      beside f n o = elim (cases_lt e.start f.start) [
        | inl before ↦ let a = in_order v.words 0 (length v.words) (chunks_of v) e f (order v sound) m n before in inl (omega (arith, a, to))
        | inr after ↦ let a = in_order v.words 0 (length v.words) (chunks_of v) f e (order v sound) n m (omega (arith, after, o)) in inr (omega (arith, a, from))
      ]

  header_third : (e : Chunk) → In (chunks_of v) e → e.start ≢ c.start → e.start ≢ d.start → get_or new e.start 0 ≡ get_or v.words e.start 0
  header_third e m p q = let l = (stands v.words 0 (length v.words) (chunks_of v) e (order v sound) m).lies in other_words e m p q e.start l.lead (omega (arith, l.room))

  -- what holds of the two and of every other chunk holds of all
  each : (P : Chunk → Type 0) → P c → P d → ((e : Chunk) → In (chunks_of v) e → e.start ≢ c.start → e.start ≢ d.start → P e) → (e : Chunk) → In (chunks_of v) e → P e
  each P one two more e m = elim (cases_eq e.start c.start) [
    | inl is ↦ subst P (one-chunk v.words 0 (length v.words) (chunks_of v) c e (order v sound) k.in_first m (sym is)) one
    | inr p ↦ elim (cases_eq e.start d.start) [
      | inl is ↦ subst P (one-chunk v.words 0 (length v.words) (chunks_of v) d e (order v sound) k.in_second m (sym is)) two
      | inr q ↦ more e m p q
    ]
  ]

  places : (e : Chunk) → In (chunks_of v) e → KeepsPlace v.words new e
  places = each (KeepsPlace v.words new)
      (keeps_place v new c d sound k.in_first k.in_second k.gets_first)
      (keeps_place v new d c sound k.in_second k.in_first k.gets_second)
      (λ e m p q. let l = (stands v.words 0 (length v.words) (chunks_of v) e (order v sound) m).lies in keeps-place v.words new e (other_words e m p q e.at (omega arith) (omega (arith, l.lead, l.room))) (header_third e m p q))

  -- ---- the cells

  read_third : (e : Chunk) → In (chunks_of v) e → e.start ≢ c.start → e.start ≢ d.start → read_cell heap_to new (recounted new e) ≡ read_cell heap_to v.words e
  read_third e m p q =
      let s = stands v.words 0 (length v.words) (chunks_of v) e (order v sound) m in
      ap (read_cell heap_to new) (recounted-same v.words new e s.chunk (other_words e m p q e.at (omega arith) (let l = s.lies.lead in let r = s.lies.room in omega (arith, l, r))))
      ∙ (words_kept v.words new e k.long s.chunk (other_words e m p q)).cell

  cells : (t : ℕ) → cell_in heap_to new (map (recounted new) (chunks_of v)) t ≡ behind.cell t
  cells t =
      let now = places_order v new sound k.long places in
      elim (cases_eq t c.start) [
        | inl is ↦
            ap (cell_in heap_to new (map (recounted new) (chunks_of v))) is ∙ cell-read heap_to v.words new (length new) (chunks_of v) c now k.in_first
            ∙ read_then v new c d sound k.in_first k.in_second k.gets_first object_c object_d k.long ∙ sym (ap behind.cell is ∙ cell_first)
        | inr p ↦ elim (cases_eq t d.start) [
          | inl is ↦
              ap (cell_in heap_to new (map (recounted new) (chunks_of v))) is ∙ cell-read heap_to v.words new (length new) (chunks_of v) d now k.in_second
              ∙ read_then v new d c sound k.in_second k.in_first k.gets_second object_d object_c k.long ∙ sym (ap behind.cell is ∙ cell_second)
          | inr q ↦ cell-recounted heap_to v.words new (chunks_of v) t (λ e m is. read_third e m (λ s. p (sym is ∙ s)) (λ s. q (sym is ∙ s))) ∙ sym (cell_third t p q)
        ]
      ]

  pub rearranges : Rearranges v new behind.cell
  rearranges = record { sound = sound; long = k.long; places = places; cells = cells }

  -- ---- the clauses of the invariant

  pub starts_then : (t : ℕ) → is_start (behind.cell t) ≡ is_start (old.cell t)
  starts_then t = start-same (swap_of change_second).place t ∙ start-same (swap_of change_first).place t

  over_then : (e : Chunk) (n : ℕ) → is_object v e.start ≡ true → names_over v.spaces.old_end (There (with_hash (body_in v e.start) n)) ≡ names_over v.spaces.old_end (old.cell e.start)
  over_then e n object = over_hash v.spaces.old_end (body_in v e.start) n ∙ ap (names_over v.spaces.old_end) (sym (there_is (old.cell e.start) object))

  pub bit_third : (e : Chunk) → In (chunks_of v) e → e.start ≢ c.start → e.start ≢ d.start → is_remembered new e.start ≡ is_remembered v.words e.start
  bit_third e m p q = same_bit v.words new e.start (header_third e m p q)

  suits : Suits v new behind.cell
  suits = record {
    bits = each (λ e. HasBits v.phase (get_or new e.start 0)) k.marks_first.bits k.marks_second.bits
        (λ e m p q. subst (λ w. HasBits v.phase w) (sym (header_third e m p q)) (k.whole.bits e (listed (chunks_of v) e m)));
    all = λ t low other over. elim (cases_eq t c.start) [
      | inl is ↦ ap (is_remembered new) is ∙ k.marks_first.all (omega (arith, low, is))
          (sym (over_then d (body_in v c.start).hash object_d) ∙ sym (ap (names_over v.spaces.old_end) (ap behind.cell is ∙ cell_first)) ∙ over)
      | inr p ↦ elim (cases_eq t d.start) [
        | inl is ↦ ap (is_remembered new) is ∙ k.marks_second.all (omega (arith, low, is))
            (sym (over_then c (body_in v d.start).hash object_c) ∙ sym (ap (names_over v.spaces.old_end) (ap behind.cell is ∙ cell_second)) ∙ over)
        | inr q ↦
            let was : names_over v.spaces.old_end (old.cell t) ≡ true = sym (ap (names_over v.spaces.old_end) (cell_third t p q)) ∙ over in
            let e = start-in heap_to v.words (chunks_of v) t (over-starts v.spaces.old_end (old.cell t) was) in
            ap (is_remembered new) (sym e.2) ∙ bit_third e.0 e.1 (λ s. p (sym e.2 ∙ s)) (λ s. q (sym e.2 ∙ s)) ∙ ap (is_remembered v.words) e.2 ∙ k.whole.remembered.all t low other was
      ]
    ];
    only = each (λ e. is_remembered new e.start ≡ true → (e.start < v.spaces.old_end) × (is_start (behind.cell e.start) ≡ true))
        (λ on. (k.marks_first.only on, ap is_start cell_first))
        (λ on. (k.marks_second.only on, ap is_start cell_second))
        (λ e m p q on.
        let was = k.whole.remembered.only e (listed (chunks_of v) e m) (sym (bit_third e m p q) ∙ on) in
        (was.0, starts_then e.start ∙ was.1));
    young = λ e m. each (λ f. is_start (old.cell f.start) ≡ true → (body_in v f.start).pinned ≡ 0 → (is_start (behind.cell f.start) ≡ true) × ((body_of (behind.cell f.start)).pinned ≡ 0))
        (λ start mobile. (ap is_start cell_first, ap (λ x. (body_of x).pinned) cell_first ∙ k.marks_first.mobile))
        (λ start mobile. (ap is_start cell_second, ap (λ x. (body_of x).pinned) cell_second ∙ k.marks_second.mobile))
        (λ f n p q start mobile. (starts_then f.start ∙ start, ap (λ x. (body_of x).pinned) (cell_third f.start p q) ∙ mobile))
        e (in_right (old_row v.words v.spaces) (young_row v.words v.spaces) e m)
        (k.whole.young e (listed (young_row v.words v.spaces) e m)).start (k.whole.young e (listed (young_row v.words v.spaces) e m)).mobile;
  }

  awake_second : Contains (map (final between) (waiting_in v.mourners)) d.start → ⊥
  awake_second m =
      let same : map (final between) (waiting_in v.mourners) ≡ map (final old) (waiting_in v.mourners) = λ x. map (λ t. final-same (swap_of change_first).place t x) (waiting_in v.mourners) in
      k.marks_second.awake (subst (λ (xs : List ℕ). Contains xs d.start) same m)

  holds : Holds v behind
  holds = record {
    sound = sound_changed change_second;
    inner = λ t e. k.whole.inner t (sym (internal-same (swap_of change_second) t ∙ internal-same (swap_of change_first) t) ∙ e);
    held = λ h w e. good-same (swap_of change_second) w ∙ good-same (swap_of change_first) w ∙ k.whole.held h w e;
    special = reference-same (swap_of change_second) v.special ∙ reference-same (swap_of change_first) v.special ∙ k.whole.special_there;
    mourners = mourners_kept (swap_of change_second) v.mourners (λ m. absurd (awake_second m))
        (mourners_kept (swap_of change_first) v.mourners (λ m. absurd (k.marks_first.awake m)) k.whole.mourners);
  }

  pub exchanged_whole : IsWhole (arranged rearranges)
  exchanged_whole = arranged_whole rearranges suits holds k.whole
