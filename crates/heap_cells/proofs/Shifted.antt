-- A row whose free chunks may start at other words: what is told of its objects and of the sizes of its free chunks is the same.
use Rattle.std.proofs.Common.{◌≡◌, ◌⊎◌, ℕ, suc, zero, Bool, true, false, cond, not, ◌&&◌, ◌||◌, ◌==◌, ◌-◌, eqb, List, [], ◌∷◌, ◌++◌, map, length, get_or, refl, sym, ap, ◌∙◌, inl, inr}
use Rattle.std.proofs.lemmas.Bool.{false≢true, cases_Bool}
use Rattle.std.proofs.lemmas.List.{append-nil}
use Rattle.std.specs.List.{filter, sum_by, count_by, list_any, range_with_len}
use Rattle.std.specs.FinMap.{from_entries}
use Rattle.std.specs.FinSet as sets
use Rattle.object_header.specs.Chunks.{Chunk}
use Rattle.spur_graph.specs.declared.limits.Limits.{Limits}
use Rattle.spur_graph.specs.Room.{Old}
use Rattle.spur_graph.specs.Cells.{Store, is_start, final}
use Rattle.spur_graph.specs.Ordinary.{is_ordinary, is_internal, body_at, page_places}
use Rattle.spur_graph.specs.FreeSizes.{ascending}
use Rattle.spur_graph.specs.CellRoom.{is_free, free_sizes}
use Rattle.spur_graph.specs.HeapRoom.{room_in, is_reached, spot_in}
use Rattle.heap_cells.specs.Rows.{starts_of}
use Rattle.heap_cells.proofs.CellKinds.{no_start_is_not_there}
use Rattle.heap_cells.proofs.OtherStarts.{with_starts, Restarts, restarted-final, restarted-nil_slot, restarted-internal, restarted-ordinary}

-- two chunks of as many words, at whose starts nothing stands
pub record AreFree (h : Store) (c d : Chunk) : Type 0 where
  pub one : is_start (h.cell c.start) ≡ false
  pub other : is_start (h.cell d.start) ≡ false
  pub size : d.size ≡ c.size

-- chunk by chunk they are the same, or both free
unfoldable pub IsShifted : Store → List Chunk → List Chunk → Type 0
IsShifted h [] [] = Unit {0}
IsShifted h [] (d ∷ ds) = ⊥
IsShifted h (c ∷ cs) [] = ⊥
IsShifted h (c ∷ cs) (d ∷ ds) = ((d ≡ c) ⊎ AreFree h c d) × IsShifted h cs ds

module _ (h : Store) where
  pub length-shifted : (cs ds : List Chunk) → IsShifted h cs ds → length ds ≡ length cs
  unfolding IsShifted
  length-shifted [] [] k = refl
  length-shifted [] (d ∷ ds) k = absurd k
  length-shifted (c ∷ cs) [] k = absurd k
  length-shifted (c ∷ cs) (d ∷ ds) k = ap suc (length-shifted cs ds k.1)

  -- a start at which something stands
  pub start-shifted : (cs ds : List Chunk) → IsShifted h cs ds → (j : ℕ) → is_start (h.cell (get_or (starts_of cs) j 0)) ≡ true → get_or (starts_of ds) j 0 ≡ get_or (starts_of cs) j 0
  unfolding IsShifted
  start-shifted [] [] k j on = refl
  start-shifted [] (d ∷ ds) k j on = absurd k
  start-shifted (c ∷ cs) [] k j on = absurd k
  start-shifted (c ∷ cs) (d ∷ ds) k zero on = elim k.0 [ inl e ↦ ap (λ (x : Chunk). x.start) e | inr f ↦ absurd (false≢true (sym f.one ∙ on)) ]
  start-shifted (c ∷ cs) (d ∷ ds) k (suc j) on = start-shifted cs ds k.1 j on

  -- what a test that fails where nothing stands keeps
  module _ (test : ℕ → Bool) (fails : (s : ℕ) → is_start (h.cell s) ≡ false → test s ≡ false) where
    pub filter-shifted : (cs ds : List Chunk) → IsShifted h cs ds → filter (λ (c : Chunk). test c.start) ds ≡ filter (λ (c : Chunk). test c.start) cs
    unfolding IsShifted
    filter-shifted [] [] k = refl
    filter-shifted [] (d ∷ ds) k = absurd k
    filter-shifted (c ∷ cs) [] k = absurd k
    filter-shifted (c ∷ cs) (d ∷ ds) k = elim k.0 [
      | inl e ↦ λ x. let b : Chunk = e x in cond (test b.start) (b ∷ filter-shifted cs ds k.1 x) (filter-shifted cs ds k.1 x)
      | inr f ↦ rw (fails d.start f.other, fails c.start f.one) (filter-shifted cs ds k.1)
    ]

    pub starts-shifted : (cs ds : List Chunk) → IsShifted h cs ds → filter test (starts_of ds) ≡ filter test (starts_of cs)
    unfolding IsShifted
    starts-shifted [] [] k = refl
    starts-shifted [] (d ∷ ds) k = absurd k
    starts-shifted (c ∷ cs) [] k = absurd k
    starts-shifted (c ∷ cs) (d ∷ ds) k = elim k.0 [
      | inl e ↦ λ x. let b : Chunk = e x in cond (test b.start) (b.start ∷ starts-shifted cs ds k.1 x) (starts-shifted cs ds k.1 x)
      | inr f ↦ rw (fails d.start f.other, fails c.start f.one) (starts-shifted cs ds k.1)
    ]

    pub any-shifted : (cs ds : List Chunk) → IsShifted h cs ds → list_any (λ (c : Chunk). test c.start) ds ≡ list_any (λ (c : Chunk). test c.start) cs
    unfolding IsShifted
    any-shifted [] [] k = refl
    any-shifted [] (d ∷ ds) k = absurd k
    any-shifted (c ∷ cs) [] k = absurd k
    any-shifted (c ∷ cs) (d ∷ ds) k = elim k.0 [
      | inl e ↦ λ x. let b : Chunk = e x in test b.start || any-shifted cs ds k.1 x
      | inr f ↦ rw (fails d.start f.other, fails c.start f.one) (any-shifted cs ds k.1)
    ]

  pub sizes-shifted : (cs ds : List Chunk) → IsShifted h cs ds → free_sizes h ds ≡ free_sizes h cs
  unfolding IsShifted
  sizes-shifted [] [] k = refl
  sizes-shifted [] (d ∷ ds) k = absurd k
  sizes-shifted (c ∷ cs) [] k = absurd k
  sizes-shifted (c ∷ cs) (d ∷ ds) k = elim k.0 [
    | inl e ↦ ap (λ (b : Chunk). map (λ (a : Chunk). a.size) (filter (is_free h) (b ∷ ds))) e ∙ elim (cases_Bool (is_free h c)) [
      | inl on ↦ rw on (ap (λ sizes. c.size ∷ sizes) (sizes-shifted cs ds k.1))
      | inr off ↦ rw off (sizes-shifted cs ds k.1)
    ]
    | inr f ↦ rw (f.other, f.one) (λ x. f.size x ∷ sizes-shifted cs ds k.1 x)
  ]

-- ---- the room of old space alone

module _ {h : Store} {ts : List ℕ} (k : Restarts h ts) (cs ds : List Chunk) (shifted : IsShifted h cs ds) where
  unstarted : (s : ℕ) → is_start (h.cell s) ≡ false → (b : Bool) → (is_start (h.cell s) && b) ≡ false
  unstarted s off b = ap (λ a. a && b) off

  ordinary-fails : (s : ℕ) → is_start (h.cell s) ≡ false → is_ordinary h s ≡ false
  ordinary-fails s off = ap (λ a. a && not (is_internal h s)) (no_start_is_not_there (h.cell s) off)

  ordinary_chunks-same : filter (λ (c : Chunk). is_ordinary (with_starts h ts) c.start) ds ≡ filter (λ (c : Chunk). is_ordinary h c.start) cs
  ordinary_chunks-same = (λ x. filter (λ (c : Chunk). restarted-ordinary k c.start x) ds) ∙ filter-shifted h (is_ordinary h) ordinary-fails cs ds shifted

  internal_chunks-same : filter (λ (c : Chunk). is_start (h.cell c.start) && is_internal (with_starts h ts) c.start) ds ≡ filter (λ (c : Chunk). is_start (h.cell c.start) && is_internal h c.start) cs
  internal_chunks-same =
      (λ x. filter (λ (c : Chunk). is_start (h.cell c.start) && restarted-internal k c.start x) ds)
      ∙ filter-shifted h (λ s. is_start (h.cell s) && is_internal h s) (λ s off. unstarted s off (is_internal h s)) cs ds shifted

  reached-same : (t : ℕ) → is_reached (with_starts h ts) ds t ≡ is_reached h cs t
  unfolding is_reached
  reached-same t =
      (λ x. list_any (λ (c : Chunk). is_start (h.cell c.start) && eqb (restarted-final k c.start x) t) ds)
      ∙ any-shifted h (λ s. is_start (h.cell s) && eqb (final h s) t) (λ s off. unstarted s off (eqb (final h s) t)) cs ds shifted

  pub shifted-room : (words : ℕ) (limits : Limits) → room_in (with_starts h ts) ds [] [] words limits 0 0 ≡ room_in h cs [] [] words limits 0 0
  unfolding room_in
  shifted-room words limits =
      let all : filter (λ (c : Chunk). is_ordinary (with_starts h ts) c.start) (ds ++ []) ≡ filter (λ (c : Chunk). is_ordinary h c.start) (cs ++ []) =
      (λ x. filter (λ (c : Chunk). is_ordinary (with_starts h ts) c.start) (append-nil ds x)) ∙ ordinary_chunks-same ∙ (λ x. filter (λ (c : Chunk). is_ordinary h c.start) (sym (append-nil cs) x)) in
      λ x. record {
        old_words = words;
        eden_words = limits.eden;
        survivor_words = limits.survivor;
        spots = from_entries (map (λ (c : Chunk). (c.start, spot_in Old c)) (ordinary_chunks-same x) ++ []);
        old_names = sets.from_list (map (λ (c : Chunk). c.start) (filter (λ (c : Chunk). reached-same c.start x) (all x)));
        free = ascending (sizes-shifted h cs ds shifted x);
        eden_left = limits.eden - 0;
        past_used = 0;
        internal_words = sum_by (λ (c : Chunk). c.size) (internal_chunks-same x);
        internal_pinned = count_by (λ (c : Chunk). (body_at h c.start).pinned == 1) (internal_chunks-same x);
        pages = sets.from_list (filter (λ i. not (restarted-nil_slot k i x)) (range_with_len 0 page_places));
      }
