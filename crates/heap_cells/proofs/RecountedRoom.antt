-- The room does not depend on how many slots the chunks of a row have, only on their places.
use Rattle.std.proofs.Common.{◌≡◌, ℕ, Bool, cond, not, ◌&&◌, ◌||◌, ◌==◌, ◌+◌, ◌-◌, eqb, List, [], ◌∷◌, ◌++◌, map, refl, sym, ap, ◌∙◌, inl, inr}
use Rattle.std.proofs.lemmas.Bool.{cases_Bool}
use Rattle.std.proofs.lemmas.List.{map-append}
use Rattle.std.proofs.lemmas.List.Sums.{sum_by-cons}
use Rattle.std.specs.List.{filter, list_any, sum_by, count_by, range_with_len}
use Rattle.std.specs.FinMap.{from_entries}
use Rattle.std.specs.FinSet as sets
use Rattle.object_header.specs.Chunks.{Chunk}
use Rattle.spur_graph.specs.declared.limits.Limits.{Limits}
use Rattle.spur_graph.specs.Cells.{Store, is_start, final}
use Rattle.spur_graph.specs.Ordinary.{is_nil_slot, body_at, page_places, is_ordinary, is_internal}
use Rattle.spur_graph.specs.CellRoom.{is_free, internal_chunks, ordinary_chunks, free_sizes}
use Rattle.spur_graph.specs.FreeSizes.{ascending}
use Rattle.spur_graph.specs.Room.{Space, Old, Eden, Past}
use Rattle.spur_graph.specs.HeapRoom.{room_in, is_reached, spot_in, spots_of, old_names_of}
use Rattle.heap_cells.proofs.Recounted.{recounted}

module _ (new : List ℕ) where
  abbrev again : List Chunk → List Chunk
  again = map (recounted new)

  -- what is asked of starts alone
  filter-again : (test : ℕ → Bool) (cs : List Chunk) → filter (λ (c : Chunk). test c.start) (again cs) ≡ again (filter (λ (c : Chunk). test c.start) cs)
  filter-again test [] = refl
  filter-again test (c ∷ cs) = elim (cases_Bool (test c.start)) [
    | inl on ↦ rw on (ap (λ ds. recounted new c ∷ ds) (filter-again test cs))
    | inr off ↦ rw off (filter-again test cs)
  ]

  any-again : (test : ℕ → Bool) (cs : List Chunk) → list_any (λ (c : Chunk). test c.start) (again cs) ≡ list_any (λ (c : Chunk). test c.start) cs
  any-again test [] = refl
  any-again test (c ∷ cs) = ap (λ b. test c.start || b) (any-again test cs)

  count-again : (test : ℕ → Bool) (cs : List Chunk) → count_by (λ (c : Chunk). test c.start) (again cs) ≡ count_by (λ (c : Chunk). test c.start) cs
  count-again test [] = refl
  count-again test (c ∷ cs) =
      sum_by-cons (λ (d : Chunk). cond (test d.start) 1 0) (recounted new c) (again cs) ∙ ap (λ n. cond (test c.start) 1 0 + n) (count-again test cs)
      ∙ sym (sum_by-cons (λ (d : Chunk). cond (test d.start) 1 0) c cs)

  sum-again : (cs : List Chunk) → sum_by (λ (c : Chunk). c.size) (again cs) ≡ sum_by (λ (c : Chunk). c.size) cs
  sum-again [] = refl
  sum-again (c ∷ cs) = sum_by-cons (λ (d : Chunk). d.size) (recounted new c) (again cs) ∙ ap (λ n. c.size + n) (sum-again cs) ∙ sym (sum_by-cons (λ (d : Chunk). d.size) c cs)

  -- what is read of places alone
  map-again : {X : Type 0} (f : ℕ → ℕ → ℕ → X) (cs : List Chunk) → map (λ (c : Chunk). f c.at c.start c.size) (again cs) ≡ map (λ (c : Chunk). f c.at c.start c.size) cs
  map-again f [] = refl
  map-again f (c ∷ cs) = ap (λ xs. f c.at c.start c.size ∷ xs) (map-again f cs)

  module _ (h : Store) where
    ordinary-again : (cs : List Chunk) → ordinary_chunks h (again cs) ≡ again (ordinary_chunks h cs)
    ordinary-again cs = filter-again (is_ordinary h) cs

    spots-again : (space : Space) (cs : List Chunk) → spots_of space h (again cs) ≡ spots_of space h cs
    spots-again space cs =
        ap (map (λ (c : Chunk). (c.start, spot_in space c))) (ordinary-again cs)
        ∙ map-again (λ at start size. (start, spot_in space (record { at = at; start = start; size = size; slots = 0 }))) (ordinary_chunks h cs)

    reached-again : (cs : List Chunk) (t : ℕ) → is_reached h (again cs) t ≡ is_reached h cs t
    unfolding is_reached
    reached-again cs t = any-again (λ s. is_start (h.cell s) && eqb (final h s) t) cs

    names-again : (cs all : List Chunk) → old_names_of h (again cs) (again all) ≡ old_names_of h cs all
    names-again cs all =
        (λ x. map (λ (c : Chunk). c.start) (filter (λ (c : Chunk). reached-again cs c.start x) (ordinary-again all x)))
        ∙ ap (map (λ (c : Chunk). c.start)) (filter-again (λ s. is_reached h cs s) (ordinary_chunks h all))
        ∙ map-again (λ at start size. start) (filter (λ (c : Chunk). is_reached h cs c.start) (ordinary_chunks h all))

    free-again : (cs : List Chunk) → free_sizes h (again cs) ≡ free_sizes h cs
    free-again cs =
        ap (map (λ (c : Chunk). c.size)) (filter-again (λ s. not (is_start (h.cell s))) cs)
        ∙ map-again (λ at start size. size) (filter (is_free h) cs)

    internal-again : (cs : List Chunk) → internal_chunks h (again cs) ≡ again (internal_chunks h cs)
    internal-again cs = filter-again (λ s. is_start (h.cell s) && is_internal h s) cs

    pub room-recounted : (front eden past : List Chunk) (words : ℕ) (limits : Limits) (eden_used past_used : ℕ)
        → room_in h (again front) (again eden) (again past) words limits eden_used past_used ≡ room_in h front eden past words limits eden_used past_used
    unfolding room_in
    room-recounted front eden past words limits eden_used past_used =
        let all : again front ++ (again eden ++ again past) ≡ again (front ++ (eden ++ past)) =
        ap (λ cs. again front ++ cs) (sym (map-append (recounted new) eden past)) ∙ sym (map-append (recounted new) front (eden ++ past)) in
        let names = ap (old_names_of h (again front)) all ∙ names-again front (front ++ (eden ++ past)) in
        λ x. record {
          old_words = words;
          eden_words = limits.eden;
          survivor_words = limits.survivor;
          spots = from_entries (spots-again Old front x ++ (spots-again Eden eden x ++ spots-again Past past x));
          old_names = sets.from_list (names x);
          free = ascending (free-again front x);
          eden_left = limits.eden - eden_used;
          past_used = past_used;
          internal_words = (ap (sum_by (λ (c : Chunk). c.size)) (internal-again front) ∙ sum-again (internal_chunks h front)) x;
          internal_pinned = (ap (count_by (λ (c : Chunk). (body_at h c.start).pinned == 1)) (internal-again front) ∙ count-again (λ s. (body_at h s).pinned == 1) (internal_chunks h front)) x;
          pages = sets.from_list (filter (λ i. not (is_nil_slot h i)) (range_with_len 0 page_places));
        }
