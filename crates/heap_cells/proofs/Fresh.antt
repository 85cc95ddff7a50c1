-- A heap in whose old space settled words stand, and nothing in its new space.
use Rattle.std.proofs.Common.{◌≡◌, ◌≢◌, ℕ, true, false, cond, not, ◌&&◌, ◌+◌, ◌-◌, ◌/◌, ◌%◌, ◌==◌, ◌<◌, ◌≤◌, eqb, ltb, nat_le, List, [], ◌∷◌, ◌++◌, map, length, get_or, refl, sym, ap, ◌∙◌, subst, arith, inl, inr, Some, None, Option}
use Rattle.std.proofs.lemmas.Bool.{cases_Bool, cases_eq, eq-eqb, ne_eqb, lt-leb}
use Rattle.std.proofs.lemmas.List.{append-nil, length-append}
use Rattle.std.proofs.lemmas.List.Folds.{list_any_at}
use Rattle.std.specs.Option.{unwrap_or}
use Rattle.std.specs.List.{AllByRecursion, filter, list_any, sum_by, count_by, range_with_len}
use Rattle.std.specs.FinMap.{from_entries}
use Rattle.std.specs.FinSet as sets
use Rattle.spur_graph.specs.declared.limits.Limits.{Limits}
use Rattle.spur_graph.specs.Room.{Old}
use Rattle.spur_graph.specs.Value.{is_immediate_word}
use Rattle.object_header.specs.Chunks.{Chunk, Cuts, chunks}
use Rattle.spur_graph.specs.Cells.{Cell, Empty, Moved, There, Store, cell_in, read_cell, first, final, lead, is_start, is_there, is_moved, target_of, pointer_count}
use Rattle.spur_graph.specs.Ordinary.{page_places, passes, body_at, is_ordinary, is_good_reference, is_nil_slot}
use Rattle.spur_graph.specs.CellRoom.{room_of, free_sizes, ordinary_chunks, internal_chunks}
use Rattle.spur_graph.specs.FreeSizes.{ascending}
use Rattle.spur_graph.specs.HeapRoom.{room_in, is_reached, spots_of}
use Rattle.spur_graph.specs.Heaps.{heap_to, heap_store, row_store, own_name, is_over, names_over}
use Rattle.heap_cells.specs.Settled.{IsLoadable, IsNamed, IsSettled, settled_word, settled_root, settled_words, settled_cell, word_of}
use Rattle.heap_cells.proofs.Below.{any_below-none, passed}
use Rattle.heap_cells.proofs.Bodies.{with_words, pointer_count-same, pointers_fit}
use Rattle.heap_cells.proofs.Both.{Both, moved-same, target-same, target_starts, first-five, like, words-roots, words-other, immediate_stays}
use Rattle.heap_cells.proofs.CellKinds.{there_starts}
use Rattle.heap_cells.proofs.Chains.{final-there}
use Rattle.heap_cells.proofs.Cutting.{stands, cell-at, all-in_order}
use Rattle.heap_cells.proofs.Fronts.{front-in, from-in}
use Rattle.heap_cells.proofs.Internals.{heap-named}
use Rattle.heap_cells.proofs.Kept.{all_kept}
use Rattle.heap_cells.proofs.Members.{In, filter_in, listed}
use Rattle.heap_cells.proofs.References.{ordinary_there, immediate_tag, settled-good, settled-bad}
use Rattle.heap_cells.proofs.Writing.{cell-same}
use Rattle.heap_cells.proofs.Appending.{read-longer}

-- ---- no reference to a place behind

over-none : (end w : ℕ) → w % 8 ≢ 0 → is_over end w ≡ false
over-none end w n = ap (λ b. passes (λ t. nat_le end t) (cond b (Some (w / 8)) None)) (ne_eqb (w % 8) 0 n)

over-word : (end t : ℕ) → t < end → is_over end (word_of t) ≡ false
over-word end t l = ap (passes (λ u. nat_le end u)) (heap-named t) ∙ lt-leb end t l

module _ {old new : Store} (k : Both old new) (end : ℕ) (fits : old.names ≤ end) where
  pub below : (s : ℕ) → is_start (old.cell s) ≡ true → s < end
  below s e =
      let m = k.named.inside s e in
      let l : s < old.names = subst (λ u. u < old.names) m.2 (k.named.starts_below m.0 s m.1) in
      omega (arith, l, fits)

  first_below : (j : ℕ) → j < 5 → first old j < end
  first_below j l = below (first old j) (there_starts (old.cell (first old j)) (k.loadable.objects j l))

  over-settled : (w : ℕ) → is_over end (settled_word old w) ≡ false
  over-settled w = elim (cases_Bool (is_immediate_word w)) [
    | inl on ↦ ap (is_over end) (immediate_stays old w on) ∙ over-none end w (immediate_tag w on)
    | inr off ↦ elim (cases_Bool (is_good_reference old w)) [
      | inl good ↦
          let p = passed (is_ordinary old) (lead old w) good in
          ap (is_over end) (settled-good k w p.one p.is good) ∙ over-word end p.one (below p.one (there_starts (old.cell p.one) (ordinary_there old p.one p.holds)))
      | inr bad ↦ ap (is_over end) (settled-bad k w off bad) ∙ over-word end (first old 0) (first_below 0 (omega arith))
    ]
  ]

  named_below : (o : Option ℕ) (w : ℕ) → old.to w ≡ o → unwrap_or o (first old 0) < end
  named_below None w e = first_below 0 (omega arith)
  named_below (Some s) w e = let l : s < old.names = k.named.below w s e in omega (arith, l, fits)

  over-root : (i w : ℕ) → is_over end (settled_root old i w) ≡ false
  over-root i w = elim (cases_Bool (ltb i page_places)) [
    | inl on ↦ ap (λ b. is_over end (cond b (word_of (unwrap_or (old.to w) (first old 0))) (word_of (first old 0)))) on ∙ over-word end (unwrap_or (old.to w) (first old 0)) (named_below (old.to w) w refl)
    | inr off ↦ ap (λ b. is_over end (cond b (word_of (unwrap_or (old.to w) (first old 0))) (word_of (first old 0)))) off ∙ over-word end (first old 0) (first_below 0 (omega arith))
  ]

  over-slot : (s : ℕ) → is_there (old.cell s) ≡ true → s ≢ first old 3 → (i : ℕ) → i < pointer_count (body_at old s) → is_over end (get_or (settled_words old s (body_at old s)) i 0) ≡ false
  over-slot s there n i l =
      let inside : i < length (body_at old s).words = let f = pointers_fit (body_at old s) (k.loadable.formed s there) in omega (arith, f, l) in
      elim (cases_eq s (first old 4)) [
        | inl four ↦
            ap (λ ws. is_over end (get_or ws i 0)) (words-roots old s (body_at old s) four)
            ∙ ap (is_over end) (from-in (settled_root old) 0 i (body_at old s).words inside) ∙ over-root (0 + i) (get_or (body_at old s).words i 0)
        | inr other ↦
            ap (λ ws. is_over end (get_or ws i 0)) (words-other old s (body_at old s) other n)
            ∙ ap (is_over end) (front-in (settled_word old) (pointer_count (body_at old s)) i (body_at old s).words l inside)
            ∙ over-settled (get_or (body_at old s).words i 0)
      ]

  over-cell : (s : ℕ) → s ≢ first old 3 → (x : Cell) → old.cell s ≡ x → names_over end (settled_cell old s x) ≡ false
  unfolding names_over
  over-cell s n Empty e = refl
  over-cell s n (Moved t) e =
      let on : is_moved (old.cell s) ≡ true = ap is_moved e in
      let l : t < end = subst (λ u. u < end) (ap target_of e) (below (target_of (old.cell s)) (target_starts k s on)) in
      lt-leb end t l
  over-cell s n (There b) e =
      let there : is_there (old.cell s) ≡ true = ap is_there e in
      let body : body_at old s ≡ b = ap (λ c. body_at (record old { cell = λ u. c }) s) e in
      let count : pointer_count (with_words b (settled_words old s b)) ≡ pointer_count (body_at old s) =
      ap (λ c. pointer_count (with_words c (settled_words old s c))) (sym body) ∙ pointer_count-same (body_at old s) (settled_words old s (body_at old s)) (like k s there) in
      any_below-none (λ i. is_over end (get_or (settled_words old s b) i 0)) (pointer_count (with_words b (settled_words old s b))) (λ i l.
      ap (λ c. is_over end (get_or (settled_words old s c) i 0)) (sym body) ∙ over-slot s there n i (omega (arith, l, count)))

  -- settled words name nothing behind them
  pub none-over : (s : ℕ) → s ≢ first new 3 → names_over end (new.cell s) ≡ false
  none-over s n = ap (names_over end) (k.settled.cells s) ∙ over-cell s (λ e. n (e ∙ sym (first-five k 3 (omega arith)))) (old.cell s) refl

-- ---- words behind

module _ (h : Store) (words rest : List ℕ) (n : IsNamed h) (l : IsLoadable h) (s : IsSettled h (row_store words)) (cut : Cuts words 0 (length words) (chunks words)) where
  both : Both h (row_store words)
  both = record { named = n; loadable = l; settled = s }

  target_low : (t : ℕ) → is_moved (cell_in heap_to words (chunks words) t) ≡ true → target_of (cell_in heap_to words (chunks words) t) < length words
  target_low t on =
      let was : is_moved (h.cell t) ≡ true = sym (moved-same both t) ∙ on in
      let b : target_of (h.cell t) < length words = below both (length words) s.names (target_of (h.cell t)) (target_starts both t was) in
      omega (arith, target-same both t, b)

  pub longer-cell : (t : ℕ) → cell_in heap_to (words ++ rest) (chunks words) t ≡ cell_in heap_to words (chunks words) t
  longer-cell t = cell-same heap_to words (words ++ rest) (chunks words) t (λ d m e.
      let k = stands words 0 (length words) (chunks words) d (all-in_order words cut) m in
      let here : cell_in heap_to words (chunks words) t ≡ read_cell heap_to words d =
      ap (cell_in heap_to words (chunks words)) (sym e) ∙ cell-at heap_to words 0 (length words) (chunks words) d (all-in_order words cut) m in
      read-longer heap_to words rest d (omega (arith, k.lies.room, k.lies.before)) (omega (arith, k.lies.slots, k.lies.before))
      (λ is. subst (λ x. target_of x < length words) here (target_low t (ap is_moved here ∙ is))))

  -- the words are settled also with others behind
  pub longer-settled : IsSettled h (heap_store (words ++ rest) (chunks words))
  longer-settled = record {
    more = s.more;
    starts = s.starts;
    free = λ j d m. longer-cell (get_or s.more j d) ∙ s.free j d m;
    cells = λ t. longer-cell t ∙ s.cells t;
    names = let a : h.names ≤ length words = s.names in omega (arith, a, length-append words rest);
    behind = s.behind;
    to = refl;
  }

-- ---- the room

-- where all stands in old space, the room is that of one row
pub room-fresh : (h : Store) (cs : List Chunk) (words : ℕ) (limits : Limits) → ((c : Chunk) → In cs c → is_ordinary h c.start ≡ true → is_there (h.cell c.start) ≡ true)
    → room_in h cs [] [] words limits 0 0 ≡ room_of own_name h cs words limits (free_sizes h cs)
unfolding room_in room_of is_reached
room-fresh h cs words limits there =
    let reached : (c : Chunk) → In (ordinary_chunks h cs) c → list_any (λ (d : Chunk). is_start (h.cell d.start) && eqb (final h d.start) c.start) cs ≡ true = λ c m.
    let f = filter_in (λ (d : Chunk). is_ordinary h d.start) cs c m in
    let object = there c f.0 f.1 in
    let start : is_start (h.cell c.start) ≡ true = there_starts (h.cell c.start) object in
    let ends : eqb (final h c.start) c.start ≡ true = eq-eqb (final h c.start) c.start (final-there h c.start object) in
    let at = listed cs c f.0 in
    list_any_at (λ (d : Chunk). is_start (h.cell d.start) && eqb (final h d.start) c.start) cs at.0 c at.1 (ap (λ (d : Chunk). is_start (h.cell d.start) && eqb (final h d.start) c.start) at.2 ∙ (λ x. start x && ends x)) in
    let names : filter (λ (c : Chunk). list_any (λ (d : Chunk). is_start (h.cell d.start) && eqb (final h d.start) c.start) cs) (ordinary_chunks h cs) ≡ ordinary_chunks h cs =
    all_kept (λ (c : Chunk). list_any (λ (d : Chunk). is_start (h.cell d.start) && eqb (final h d.start) c.start) cs) (ordinary_chunks h cs) (by_members (ordinary_chunks h cs) (λ c m. reached c m)) in
    let kept_all : filter (λ (c : Chunk). list_any (λ (d : Chunk). is_start (h.cell d.start) && eqb (final h d.start) c.start) cs) (ordinary_chunks h (cs ++ ([] ++ []))) ≡ ordinary_chunks h cs =
    ap (λ (ds : List Chunk). filter (λ (c : Chunk). list_any (λ (d : Chunk). is_start (h.cell d.start) && eqb (final h d.start) c.start) cs) (ordinary_chunks h ds)) (append-nil cs) ∙ names in
    let left : limits.eden - 0 ≡ limits.eden = omega arith in
    let spots : spots_of Old h cs ++ ([] ++ []) ≡ spots_of Old h cs = append-nil (spots_of Old h cs) in
    (λ x. record {
      old_words = words;
      eden_words = limits.eden;
      survivor_words = limits.survivor;
      spots = from_entries (spots x);
      old_names = sets.from_list (map (λ (c : Chunk). c.start) (kept_all x));
      free = ascending (free_sizes h cs);
      eden_left = left x;
      past_used = 0;
      internal_words = sum_by (λ (c : Chunk). c.size) (internal_chunks h cs);
      internal_pinned = count_by (λ (c : Chunk). (body_at h c.start).pinned == 1) (internal_chunks h cs);
      pages = sets.from_list (filter (λ i. not (is_nil_slot h i)) (range_with_len 0 page_places));
    })
  where
    by_members : {P : Chunk → Type 0} (xs : List Chunk) → ((x : Chunk) → In xs x → P x) → AllByRecursion P xs
    by_members [] f = tt
    by_members (x ∷ xs) f = (f x (inl refl), by_members xs (λ y m. f y (inr m)))
