-- Before anything is copied, what is remembered is to do, and nothing else.
use Rattle.std.proofs.Common.{◌≡◌, ◌≢◌, ℕ, Bool, true, false, ◌&&◌, ◌/◌, ◌%◌, ◌<◌, ◌≤◌, cond, eqb, leb, List, [], ◌∷◌, ◌++◌, map, length, get_or, refl, sym, ap, ◌∙◌, subst, inl, inr, arith, Some, None}
use Rattle.std.proofs.lemmas.Bool.{false≢true, cases_Bool, cases_lt, eq-eqb, eqb-true, le-leb, and_parts, or_left, or_right, or_cases, false_from_ne_true}
use Rattle.std.proofs.lemmas.List.{length-map, length-take, get_or-take, get_or_default}
use Rattle.std.specs.List.{All, filter, list_any}
use Rattle.std.specs.Ordering.{nat_cmp, eq_by_cmp}
use Rattle.std.specs.Cmp.{nat_cmp_total}
use Rattle.std.specs.FinSet.{contains-from_list}
use Rattle.object_header.specs.Chunks.{Chunk, InOrder}
use Rattle.spur_graph.specs.Live.{AtGiven}
use Rattle.spur_graph.specs.Cells.{Body, Moved, There, Store, is_start, is_there, final, first, pointers, pointer_count}
use Rattle.spur_graph.specs.Ordinary.{body_at, passes, is_ordinary}
use Rattle.spur_graph.specs.CellGraph.{node_of}
use Rattle.spur_graph.specs.CellRoom.{ordinary_chunks}
use Rattle.spur_graph.specs.HeapRoom.{is_reached, old_names_of, room_in}
use Rattle.spur_graph.specs.Spaces.{old_row, eden_row, past_row, young_row}
use Rattle.spur_graph.specs.Heaps.{View, IsWhole, heap_to, is_over, names_over, is_remembered, chunks_of, store_of, heap_graph}
use Rattle.heap_cells.specs.Rows.{starts_of}
use Rattle.heap_cells.proofs.Below.{any_below-has}
use Rattle.heap_cells.proofs.CellKinds.{there_starts}
use Rattle.heap_cells.proofs.Chains.{final-there}
use Rattle.heap_cells.proofs.Cutting.{stands, cuts-in_order, start-in}
use Rattle.heap_cells.proofs.Members.{In, in_either, in_filter, filter_in, in_list, chunk_of_start, start-front}
use Rattle.heap_cells.proofs.References.{ordinary_there}
use Rattle.heap_cells.proofs.Spaced.{young-in_order, rows-in_order}
use Rattle.heap_cells.proofs.Starts.{start-read}
use Rattle.heap_laws.specs.Placing.{outside_of}
use Rattle.heap_laws.proofs.Tables.{any_in, in_any}
use Rattle.heap_laws.proofs.Wholes.{whole_is_ready}
use Rattle.scavenge_laws.specs.Copying.{StandOutside, IsClear, IsHeapStore, Copying, AreOld}
use Rattle.scavenge_laws.specs.Entering.{is_old_name, IsNewSpace, LeadToOldNames}
use Rattle.scavenge_laws.proofs.Outer.{leads_there, young-ordinary}
use Rattle.scavenge_laws.proofs.Places.{place-here}

module _ (v : View) (whole : IsWhole v) where
  abbrev h : Store
  h = store_of v

  order : InOrder v.words 0 (length v.words) (chunks_of v)
  order = rows-in_order v.words v.limits v.spaces whole.spaces whole.rows

  -- the chunk of a start, and the side on which it stands
  old-below : (c : Chunk) → In (old_row v.words v.spaces) c → c.start < v.spaces.old_end
  old-below c m = let s = (stands v.words 0 v.spaces.old_end (old_row v.words v.spaces) c (cuts-in_order v.words 0 v.spaces.old_end (old_row v.words v.spaces) whole.rows.old) m).lies in (let a = s.room in let b = s.before in omega (arith, a, b))

  young-above : (c : Chunk) → In (young_row v.words v.spaces) c → v.spaces.old_end ≤ c.start
  young-above c m =
      let s = (stands v.words v.spaces.eden_at (length v.words) (young_row v.words v.spaces) c (young-in_order v.words v.limits v.spaces whole.spaces whole.rows) m).lies in
      let behind = whole.spaces.eden_behind in
      let a = s.after in
      let b = s.lead in
      omega (arith, behind, a, b)

  -- the chunk of a start of old space
  old-chunk : (s : ℕ) → s < v.spaces.old_end → is_start (h.cell s) ≡ true → (c : Chunk) × In (old_row v.words v.spaces) c × (c.start ≡ s)
  old-chunk s l e =
      let c = start-in heap_to v.words (chunks_of v) s e in
      elim (in_either (old_row v.words v.spaces) (young_row v.words v.spaces) c.0 c.1) [
        | inl m ↦ (c.0, m, c.2)
        | inr m ↦ absurd (let above = young-above c.0 m in let same = c.2 in omega (arith, above, same, l))
      ]

  -- ---- the old names

  abbrev all : List Chunk
  all = old_row v.words v.spaces ++ (eden_row v.words v.spaces ++ past_row v.words v.spaces)

  names-are : (a : ℕ) → is_old_name v a ≡ list_any (eq_by_cmp nat_cmp a) (map (λ (c : Chunk). c.start) (filter (λ (c : Chunk). is_reached h (old_row v.words v.spaces) c.start) (ordinary_chunks h all)))
  unfolding room_in
  names-are a = contains-from_list nat_cmp_total (old_names_of h (old_row v.words v.spaces) all) a

  -- an ordinary object that old space reaches
  reached_name : (a : ℕ) → is_ordinary h a ≡ true → is_reached h (old_row v.words v.spaces) a ≡ true → is_old_name v a ≡ true
  reached_name a on reached =
      let c = start-in heap_to v.words (chunks_of v) a (there_starts (h.cell a) (ordinary_there h a on)) in
      let ordinary : is_ordinary h c.0.start ≡ true = ap (is_ordinary h) c.2 ∙ on in
      names-are a ∙ in_any (λ (d : Chunk). d.start) a (filter (λ (d : Chunk). is_reached h (old_row v.words v.spaces) d.start) (ordinary_chunks h all)) c.0
      (in_filter (λ (d : Chunk). is_reached h (old_row v.words v.spaces) d.start) (ordinary_chunks h all) c.0 (in_filter (λ (d : Chunk). is_ordinary h d.start) all c.0 c.1 ordinary) (ap (is_reached h (old_row v.words v.spaces)) c.2 ∙ reached)) c.2

  reaches : (s a : ℕ) → s < v.spaces.old_end → is_start (h.cell s) ≡ true → final h s ≡ a → is_reached h (old_row v.words v.spaces) a ≡ true
  unfolding is_reached
  reaches s a l e is =
      let c = old-chunk s l e in
      any-has (λ (d : Chunk). is_start (h.cell d.start) && eqb (final h d.start) a) (old_row v.words v.spaces) c.0 c.1 (λ x. (ap (λ t. is_start (h.cell t)) c.2 ∙ e) x && eq-eqb (final h c.0.start) a (ap (final h) c.2 ∙ is) x)
    where
      any-has : (f : Chunk → Bool) (cs : List Chunk) (c : Chunk) → In cs c → f c ≡ true → list_any f cs ≡ true
      any-has f [] c m e = absurd m
      any-has f (d ∷ cs) c m e = elim m [
        | inl same ↦ or_left (f d) (list_any f cs) (ap f same ∙ e)
        | inr more ↦ or_right (f d) (list_any f cs) (any-has f cs c more e)
      ]

  pub lead_to_old_names : LeadToOldNames v
  lead_to_old_names s l e on = reached_name (final h s) on (reaches s (final h s) l e refl)

  -- an old name, and what of old space leads to it
  record Reached (a : ℕ) : Type 0 where
    ordinary : is_ordinary h a ≡ true
    from : ℕ
    low : from < v.spaces.old_end
    start : is_start (h.cell from) ≡ true
    leads : final h from ≡ a

  name-reached : (a : ℕ) → is_old_name v a ≡ true → Reached a
  unfolding is_reached
  name-reached a e =
      let c = any_in (λ (d : Chunk). d.start) a (filter (λ (d : Chunk). is_reached h (old_row v.words v.spaces) d.start) (ordinary_chunks h all)) (sym (names-are a) ∙ e) in
      let k = filter_in (λ (d : Chunk). is_reached h (old_row v.words v.spaces) d.start) (ordinary_chunks h all) c.0 c.1 in
      let m = filter_in (λ (d : Chunk). is_ordinary h d.start) all c.0 k.0 in
      let f = any-found (λ (d : Chunk). is_start (h.cell d.start) && eqb (final h d.start) c.0.start) (old_row v.words v.spaces) k.1 in
      let parts = and_parts (is_start (h.cell f.0.start)) (eqb (final h f.0.start) c.0.start) f.2 in
      record {
        ordinary = ap (is_ordinary h) (sym c.2) ∙ m.1;
        from = f.0.start;
        low = old-below f.0 f.1;
        start = parts.0;
        leads = eqb-true (final h f.0.start) c.0.start parts.1 ∙ c.2;
      }
    where
      any-found : (f : Chunk → Bool) (cs : List Chunk) → list_any f cs ≡ true → (c : Chunk) × In cs c × (f c ≡ true)
      any-found f [] e = absurd (false≢true e)
      any-found f (d ∷ cs) e = elim (or_cases (f d) (list_any f cs) e) [
        | inl on ↦ (d, inl refl, on)
        | inr more ↦ let r = any-found f cs more in (r.0, inr r.1, r.2)
      ]

  -- ---- the beginning

  heap : IsHeapStore (store_of v)
  heap = record {
    store = (whole_is_ready v whole).0;
    to = λ w. refl;
    below = λ s e. let b = (start-read heap_to v.words (length v.words) (chunks_of v) s order e).below in omega (arith, b);
  }

  module _ {young : ℕ → Bool} (split : IsNewSpace young v) where
    -- a start outside stands in old space
    low : (s : ℕ) → is_start (h.cell s) ≡ true → young s ≡ false → s < v.spaces.old_end
    low s e out = elim (cases_lt s v.spaces.old_end) [
      | inl l ↦ l
      | inr l ↦ absurd (false≢true (sym out ∙ split.new s e l))
    ]

    -- what is not remembered names nothing behind old space
    not-over : (s : ℕ) → s < v.spaces.old_end → s ≢ first h 3 → is_remembered v.words s ≡ false → names_over v.spaces.old_end (h.cell s) ≡ false
    not-over s l n off = false_from_ne_true _ (λ on. false≢true (sym off ∙ whole.remembered.all s l n on))

    clear-word : (w : ℕ) → is_over v.spaces.old_end w ≡ false → IsClear young w
    clear-word w off z = elim (cases_lt (w / 8) v.spaces.old_end) [
      | inl l ↦ split.old (w / 8) l
      | inr l ↦ absurd (false≢true (sym off ∙ (ap (passes (λ t. leb v.spaces.old_end t)) (ap (λ b. cond b (Some (w / 8)) None) (eq-eqb (w % 8) 0 z)) ∙ le-leb v.spaces.old_end (w / 8) l)))
    ]

    clear-body : (b : Body) → names_over v.spaces.old_end (There b) ≡ false → All (IsClear young) (pointers b)
    unfolding names_over
    clear-body b off i d l =
        let m = length-take (pointer_count b) b.words in
        let low : i < pointer_count b = omega (arith, l, m) in
        let inside : i < length b.words = omega (arith, l, m) in
        let word : get_or (pointers b) i d ≡ get_or b.words i 0 = get_or-take (pointer_count b) b.words i d low ∙ get_or_default b.words i d 0 inside in
        let clear : is_over v.spaces.old_end (get_or b.words i 0) ≡ false = false_from_ne_true _ (λ on. false≢true (sym off ∙ any_below-has (λ j. is_over v.spaces.old_end (get_or b.words j 0)) (pointer_count b) i low on)) in
        subst (IsClear young) (sym word) (clear-word (get_or b.words i 0) clear)

    moved-low : (t : ℕ) → names_over v.spaces.old_end (Moved t) ≡ false → young t ≡ false
    unfolding names_over
    moved-low t off = elim (cases_lt t v.spaces.old_end) [
      | inl l ↦ split.old t l
      | inr l ↦ absurd (false≢true (sym off ∙ le-leb v.spaces.old_end t l))
    ]

    lists-apart : (s t : ℕ) → h.cell s ≡ Moved t → s ≢ first h 3
    lists-apart s t e n = false≢true (sym (ap is_there e) ∙ ap (λ u. is_there (h.cell u)) n ∙ whole.sound.roots.objects 3 (omega arith))

    first-low : (j : ℕ) → j < 3 → first h j < v.spaces.old_end
    first-low j l =
        let five = whole.rows.five in
        let inside : j < length (old_row v.words v.spaces) = omega (arith, l, five) in
        let among : j < length (starts_of (old_row v.words v.spaces)) = omega (arith, inside, length-map (old_row v.words v.spaces) (λ (c : Chunk). c.start)) in
        let s : ℕ = get_or (starts_of (old_row v.words v.spaces)) j 0 in
        let front : first h j ≡ get_or (starts_of (old_row v.words v.spaces)) j 0 = start-front (old_row v.words v.spaces) (young_row v.words v.spaces) j inside in
        let c = chunk_of_start (old_row v.words v.spaces) (get_or (starts_of (old_row v.words v.spaces)) j 0) (in_list (starts_of (old_row v.words v.spaces)) (get_or (starts_of (old_row v.words v.spaces)) j 0) (j, among, get_or_default (starts_of (old_row v.words v.spaces)) j (get_or (starts_of (old_row v.words v.spaces)) j 0) 0 among)) in
        subst (λ t. t < v.spaces.old_end) (c.2 ∙ sym front) (old-below c.0 c.1)

    outside : StandOutside young (store_of v)
    outside = record { inner = λ s on. split.old s (whole.inner s on); firsts = λ j l. split.old (first h j) (first-low j l) }

    pub begins : (held : ℕ → Type 0) → Copying young (heap_graph v) (is_old_name v) (store_of v) (outside_of v) (λ s. is_remembered v.words s ≡ true) held (λ s. s) (λ s. s)
    begins held = record {
      heap = heap;
      outer = outside;
      good = (whole_is_ready v whole).2;
      places = record { left = λ s. refl; right = λ a. refl };
      same = refl;
      sound = λ s out on. AtGiven s (subst (λ t. is_old_name v t ≡ true) (final-there h s (ordinary_there h s on))
          (lead_to_old_names s (low s (there_starts _ (ordinary_there h s on)) out) (there_starts _ (ordinary_there h s on)) (ap (is_ordinary h) (final-there h s (ordinary_there h s on)) ∙ on)));
      led = λ s out e inner. AtGiven (final h s) (lead_to_old_names s (low s e out) e (young-ordinary outside (final h s) inner (leads_there h heap s e)));
      moved = λ s t out e. elim (cases_Bool (is_remembered v.words s)) [
        | inl on ↦ inl on
        | inr off ↦ inr (moved-low t (ap (names_over v.spaces.old_end) (sym e) ∙ not-over s (low s (ap is_start e) out) (lists-apart s t e) off))
      ];
      scanned = λ s b out n e. elim (cases_Bool (is_remembered v.words s)) [
        | inl on ↦ inl on
        | inr off ↦ inr (inl (clear-body b (ap (names_over v.spaces.old_end) (sym e) ∙ not-over s (low s (ap is_start e) out) n off)))
      ];
    }

    pub begins-old : AreOld young (heap_graph v) (is_old_name v) (store_of v) (λ s. s)
    begins-old = record {
      names = λ a is. let r = name-reached a is in (node_of (λ s. s) h (body_at h a), place-here heap (record { left = λ s. refl; right = λ s. refl }) a r.ordinary);
      starts = λ a is. let r = name-reached a is in (r.from, split.old r.from r.low, r.start, r.leads);
    }
