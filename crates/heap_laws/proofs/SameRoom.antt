-- The room of settled words is that of the words, with the chunks behind as free ones.
use Rattle.std.proofs.Common.{◌≡◌, ℕ, suc, Bool, true, false, not, ◌&&◌, eqb, List, [], ◌∷◌, ◌++◌, map, get_or, refl, sym, ap, ◌∙◌, subst, arith}
use mathlib.Core.Path.{fun_ext}
use Rattle.std.proofs.lemmas.Bool.{and_left}
use Rattle.std.proofs.lemmas.List.{append-nil, append_cancel_left, map-append}
use Rattle.std.proofs.lemmas.List.Elements.{filter-append, filter_agree, filter_passes, recursion_from_All}
use Rattle.std.proofs.lemmas.Iterator.Adapters.{option_map_id}
use Rattle.std.specs.List.{All, AllByRecursion, Contains, filter, sum_by, count_by}
use Rattle.std.specs.Ordering.{nat_cmp}
use Rattle.std.specs.FinMap.{get, from_entries}
use Rattle.std.specs.FinSet.{contains}
use Rattle.std.specs.FinSet as sets
use Rattle.spur_graph.specs.declared.limits.Limits.{Limits}
use Rattle.spur_graph.specs.Room.{Spot}
use Rattle.spur_graph.specs.Step.{SameRoom}
use Rattle.object_header.specs.Chunks.{Chunk}
use Rattle.spur_graph.specs.Cells.{Cell, Empty, Moved, There, Store, is_there, is_start, body_of}
use Rattle.spur_graph.specs.Ordinary.{body_at, is_ordinary, is_internal}
use Rattle.spur_graph.specs.FreeSizes.{ascending}
use Rattle.spur_graph.specs.CellRoom.{is_free, free_sizes, ordinary_chunks, internal_chunks, spot_of, room_of}
use Rattle.spur_graph.specs.Heaps.{own_name}
use Rattle.heap_cells.specs.Settled.{settled_cell}
use Rattle.heap_laws.specs.Settling.{HaveChunks, SettledIsSameRoom}
use Rattle.heap_cells.proofs.Kept.{all_kept, none_kept}
use Rattle.heap_cells.proofs.Both.{Both, there-same, start-same}
use Rattle.heap_cells.proofs.Internals.{internal_there}
use Rattle.heap_cells.proofs.Finding.{get-renamed, contains-renamed}
use Rattle.heap_cells.proofs.CellKinds.{there_starts}
use Rattle.heap_cells.proofs.References.{ordinary_there}
use Rattle.heap_laws.proofs.Places.{internal-placed}
use Rattle.heap_laws.proofs.Loads.{loadable-placed}
use Rattle.heap_laws.proofs.Tables.{both}
use Rattle.heap_laws.proofs.Loaded.{loaded_placed}
use Rattle.heap_laws.proofs.Rooms.{pages-placed}
use Rattle.graph_laws.proofs.Values.{one_to_one}

settled_pinned : (h : Store) (s : ℕ) (c : Cell) → (body_of (settled_cell h s c)).pinned ≡ (body_of c).pinned
settled_pinned h s Empty = refl
settled_pinned h s (Moved t) = refl
settled_pinned h s (There b) = refl

empties : (new : Store) (fs : List Chunk) → All (λ s. new.cell s ≡ Empty) (map (λ (c : Chunk). c.start) fs) → AllByRecursion (λ (c : Chunk). new.cell c.start ≡ Empty) fs
empties new [] all = tt
empties new (f ∷ fs) all = (all 0 0 (omega arith), empties new fs (λ j d l. all (suc j) d (omega (arith, l))))

module _ {old new : Store} (k : Both old new) where
  -- the internal objects are the same, and so are the ordinary ones
  internal-same : (s : ℕ) → is_internal new s ≡ is_internal old s
  internal-same s =
      let at : is_there (old.cell s) ≡ true → is_internal new s ≡ is_internal old s = internal-placed (loaded_placed k) s in
      both (is_internal new s) (is_internal old s)
      (λ on. sym (at (sym (there-same k s) ∙ internal_there new (loadable-placed (loaded_placed k)) s on)) ∙ on)
      (λ on. at (internal_there old k.loadable s on) ∙ on)

  ordinary-same : (s : ℕ) → is_ordinary new s ≡ is_ordinary old s
  ordinary-same s = λ x. there-same k s x && not (internal-same s x)

module _ {old new : Store} (k : Both old new) (cs fs : List Chunk) (chunks : HaveChunks old new cs fs) where
  free_empty : AllByRecursion (λ (c : Chunk). new.cell c.start ≡ Empty) fs
  free_empty =
      let starts : old.starts ++ k.settled.more ≡ old.starts ++ map (λ (c : Chunk). c.start) fs =
      sym k.settled.starts ∙ chunks.after ∙ map-append (λ (c : Chunk). c.start) cs fs ∙ ap (λ ss. ss ++ map (λ (c : Chunk). c.start) fs) (sym chunks.before) in
      let same : k.settled.more ≡ map (λ (c : Chunk). c.start) fs = append_cancel_left old.starts k.settled.more (map (λ (c : Chunk). c.start) fs) starts in
      empties new fs (subst (λ ss. All (λ s. new.cell s ≡ Empty) ss) same k.settled.free)

  -- a test that no free chunk passes
  kept-same : (f g : Chunk → Bool) → ((c : Chunk) → f c ≡ g c) → ((c : Chunk) → new.cell c.start ≡ Empty → f c ≡ false) → filter f (cs ++ fs) ≡ filter g cs
  kept-same f g same none =
      filter-append f cs fs ∙ ap (λ ds. filter f cs ++ ds) (none_kept f fs (weaker fs free_empty)) ∙ append-nil (filter f cs) ∙ filter_agree f g same cs
    where
      weaker : (ds : List Chunk) → AllByRecursion (λ (c : Chunk). new.cell c.start ≡ Empty) ds → AllByRecursion (λ (c : Chunk). f c ≡ false) ds
      weaker [] all = tt
      weaker (d ∷ ds) all = (none d all.0, weaker ds all.1)

  ordinary_chunks-same : ordinary_chunks new (cs ++ fs) ≡ ordinary_chunks old cs
  ordinary_chunks-same = kept-same (λ (c : Chunk). is_ordinary new c.start) (λ (c : Chunk). is_ordinary old c.start) (λ (c : Chunk). ordinary-same k c.start)
      (λ (c : Chunk) e. and_left _ (not (is_internal new c.start)) (ap is_there e))

  internal_chunks-same : internal_chunks new (cs ++ fs) ≡ internal_chunks old cs
  internal_chunks-same = kept-same (λ (c : Chunk). is_start (new.cell c.start) && is_internal new c.start) (λ (c : Chunk). is_start (old.cell c.start) && is_internal old c.start)
      (λ (c : Chunk) i. start-same k c.start i && internal-same k c.start i)
      (λ (c : Chunk) e. and_left _ (is_internal new c.start) (ap is_start e))

  free-same : free_sizes new (cs ++ fs) ≡ free_sizes old cs ++ map (λ (c : Chunk). c.size) fs
  free-same =
      ap (map (λ (c : Chunk). c.size)) (filter-append (is_free new) cs fs)
      ∙ (λ i. map (λ (c : Chunk). c.size) (filter_agree (is_free new) (is_free old) (λ (c : Chunk) j. not (start-same k c.start j)) cs i ++ all_kept (is_free new) fs (weaker fs free_empty) i))
      ∙ map-append (λ (c : Chunk). c.size) (filter (is_free old) cs) fs
    where
      weaker : (ds : List Chunk) → AllByRecursion (λ (c : Chunk). new.cell c.start ≡ Empty) ds → AllByRecursion (λ (c : Chunk). is_free new c ≡ true) ds
      weaker [] all = tt
      weaker (d ∷ ds) all = (ap (λ c. not (is_start c)) all.0, weaker ds all.1)

  words-same : sum_by (λ (c : Chunk). c.size) (internal_chunks new (cs ++ fs)) ≡ sum_by (λ (c : Chunk). c.size) (internal_chunks old cs)
  words-same = ap (sum_by (λ (c : Chunk). c.size)) internal_chunks-same

  pinned-same : count_by (λ (c : Chunk). eqb (body_at new c.start).pinned 1) (internal_chunks new (cs ++ fs)) ≡ count_by (λ (c : Chunk). eqb (body_at old c.start).pinned 1) (internal_chunks old cs)
  pinned-same =
      let test : ◌≡◌ {A = Chunk → Bool} (λ (c : Chunk). eqb (body_at new c.start).pinned 1) (λ (c : Chunk). eqb (body_at old c.start).pinned 1) =
      fun_ext (λ (c : Chunk). ap (λ n. eqb n 1) (ap (λ d. (body_of d).pinned) (k.settled.cells c.start) ∙ settled_pinned old c.start (old.cell c.start))) in
      λ i. count_by (test i) (internal_chunks-same i)

  module _ (name p back : ℕ → ℕ) (left : (a : ℕ) → back (p a) ≡ a) (named : (s : ℕ) → Contains old.starts s → p (name s) ≡ s) where
    chunks_named : AllByRecursion (λ (c : Chunk). p (name c.start) ≡ c.start) (ordinary_chunks old cs)
    chunks_named = recursion_from_All (λ (c : Chunk). p (name c.start) ≡ c.start) (ordinary_chunks old cs)
        (λ j (d : Chunk) l. let s : ℕ = (get_or (ordinary_chunks old cs) j d).start in named s (k.named.inside s (there_starts (old.cell s) (ordinary_there old s (filter_passes (λ (c : Chunk). is_ordinary old c.start) cs j d l)))))

    with_spots : (ds : List Chunk) → AllByRecursion (λ (c : Chunk). p (name c.start) ≡ c.start) ds → AllByRecursion (λ (c : Chunk). (p (name c.start) ≡ c.start) × (spot_of c ≡ spot_of c)) ds
    with_spots [] all = tt
    with_spots (d ∷ ds) all = ((all.0, refl), with_spots ds all.1)

    spots-same : (a : ℕ) → get (from_entries {R = nat_cmp} (map (λ (c : Chunk). (c.start, spot_of c)) (ordinary_chunks new (cs ++ fs)))) (p a) ≡ get (from_entries {R = nat_cmp} (map (λ (c : Chunk). (name c.start, spot_of c)) (ordinary_chunks old cs))) a
    spots-same a =
        ap (λ ds. get (from_entries {R = nat_cmp} (map (λ (c : Chunk). (c.start, spot_of c)) ds)) (p a)) ordinary_chunks-same
        ∙ get-renamed p (one_to_one p back left) (λ (x : Spot). x) (λ (c : Chunk). name c.start) (λ (c : Chunk). c.start) spot_of spot_of a (ordinary_chunks old cs) (with_spots (ordinary_chunks old cs) chunks_named)
        ∙ option_map_id (get (from_entries {R = nat_cmp} (map (λ (c : Chunk). (name c.start, spot_of c)) (ordinary_chunks old cs))) a)

    old_names-same : (a : ℕ) → contains (sets.from_list {R = nat_cmp} (map (λ (c : Chunk). c.start) (ordinary_chunks new (cs ++ fs)))) (p a) ≡ contains (sets.from_list {R = nat_cmp} (map (λ (c : Chunk). name c.start) (ordinary_chunks old cs))) a
    old_names-same a =
        ap (λ ds. contains (sets.from_list {R = nat_cmp} (map (λ (c : Chunk). c.start) ds)) (p a)) ordinary_chunks-same
        ∙ contains-renamed p (one_to_one p back left) (λ (c : Chunk). name c.start) (λ (c : Chunk). c.start) a (ordinary_chunks old cs) chunks_named

    room-same : (words : ℕ) (limits : Limits) → SameRoom (room_of name old cs words limits (free_sizes old cs ++ map (λ (c : Chunk). c.size) fs)) (room_of own_name new (cs ++ fs) words limits (free_sizes new (cs ++ fs))) p
    unfolding room_of
    room-same words limits = record {
      spots = spots-same;
      old_names = old_names-same;
      rest = λ i. record (room_of own_name new (cs ++ fs) words limits (free_sizes new (cs ++ fs))) {
        free = ascending (free-same i);
        internal_words = words-same i;
        internal_pinned = pinned-same i;
        pages = sets.from_list (pages-placed (loaded_placed k) i);
      };
    }

pub settled_is_same_room : SettledIsSameRoom
settled_is_same_room old new name p back cs fs words limits n l s chunks left named = let k : Both old new = record { named = n; loadable = l; settled = s } in room-same k cs fs chunks name p back left named words limits
