-- The room of a heap tells of the names that have nodes, and of no other.
use Rattle.std.proofs.Common.{◌≡◌, ◌≢◌, ℕ, Bool, true, false, cond, ◌||◌, List, [], ◌∷◌, ◌++◌, map, refl, sym, ap, ◌∙◌, Some, None}
use Rattle.std.proofs.lemmas.Bool.{false_from_ne_true}
use Rattle.std.proofs.lemmas.Option.{none-some}
use Rattle.std.specs.List.{filter, list_any}
use Rattle.std.specs.Ordering.{nat_cmp, eq_by_cmp}
use Rattle.std.specs.Cmp.{nat_cmp_total}
use Rattle.std.specs.FinMap.{get, find, get-from_entries}
use Rattle.std.specs.FinSet.{contains, contains-from_list}
use Rattle.object_header.specs.Chunks.{Chunk}
use Rattle.spur_graph.specs.Room.{Space, Old, Eden, Past}
use Rattle.spur_graph.specs.Cells.{Store}
use Rattle.spur_graph.specs.Ordinary.{is_ordinary}
use Rattle.spur_graph.specs.CellRoom.{ordinary_chunks}
use Rattle.spur_graph.specs.Spaces.{old_row, eden_row, past_row}
use Rattle.spur_graph.specs.HeapRoom.{spot_in, spots_of, is_reached, room_in}
use Rattle.spur_graph.specs.Heaps.{View, heap_graph, heap_room}
use Rattle.heap_cells.proofs.Finding.{key_same}
use Rattle.spur_heap.specs.Views.{store}
use Rattle.spur_heap.proofs.NodesAt.{get_there}

-- what is behind entries that have no such key
find_behind : {X : Type 0} (a : ℕ) (xs ys : List (ℕ × X)) → find nat_cmp a xs ≡ None → find nat_cmp a (xs ++ ys) ≡ find nat_cmp a ys
find_behind a [] ys none = refl
find_behind a (x ∷ xs) ys none = by (eq_by_cmp nat_cmp a x.0) none (λ e. find_behind a xs ys e)
  where
    by : (b : Bool) → cond b (Some x.1) (find nat_cmp a xs) ≡ None → (find nat_cmp a xs ≡ None → find nat_cmp a (xs ++ ys) ≡ find nat_cmp a ys)
        → cond b (Some x.1) (find nat_cmp a (xs ++ ys)) ≡ find nat_cmp a ys
    by true e rest = absurd (none-some x.1 (sym e))
    by false e rest = rest e

module _ (h : Store) (a : ℕ) (none : (s : ℕ) → is_ordinary h s ≡ true → a ≢ s) where
  no_spot : (space : Space) (cs : List Chunk) → find nat_cmp a (spots_of space h cs) ≡ None
  no_spot space [] = refl
  no_spot space (c ∷ cs) = by (is_ordinary h c.start) refl (no_spot space cs)
    where
      by : (b : Bool) → is_ordinary h c.start ≡ b → find nat_cmp a (spots_of space h cs) ≡ None
          → find nat_cmp a (map (λ (d : Chunk). (d.start, spot_in space d)) (cond b (c ∷ filter (λ (d : Chunk). is_ordinary h d.start) cs) (filter (λ (d : Chunk). is_ordinary h d.start) cs))) ≡ None
      by true on rest =
          ap (λ b. cond b (Some (spot_in space c)) (find nat_cmp a (spots_of space h cs))) (false_from_ne_true _ (λ t. none c.start on (key_same a c.start t)))
          ∙ rest
      by false off rest = rest

  -- the start of an ordinary chunk is another
  other_name : (c : Chunk) (names : List ℕ) → is_ordinary h c.start ≡ true → list_any (eq_by_cmp nat_cmp a) names ≡ false → list_any (eq_by_cmp nat_cmp a) (c.start ∷ names) ≡ false
  other_name c names on rest = ap (λ b. b || list_any (eq_by_cmp nat_cmp a) names) (false_from_ne_true _ (λ t. none c.start on (key_same a c.start t))) ∙ rest

  reached_name : (old : List Chunk) (c : Chunk) (cs : List Chunk) (b : Bool) → is_ordinary h c.start ≡ true
      → list_any (eq_by_cmp nat_cmp a) (map (λ (d : Chunk). d.start) (filter (λ (d : Chunk). is_reached h old d.start) (ordinary_chunks h cs))) ≡ false
      → list_any (eq_by_cmp nat_cmp a) (map (λ (d : Chunk). d.start) (cond b (c ∷ filter (λ (d : Chunk). is_reached h old d.start) (ordinary_chunks h cs)) (filter (λ (d : Chunk). is_reached h old d.start) (ordinary_chunks h cs)))) ≡ false
  reached_name old c cs true on rest = other_name c (map (λ (d : Chunk). d.start) (filter (λ (d : Chunk). is_reached h old d.start) (ordinary_chunks h cs))) on rest
  reached_name old c cs false on rest = rest

  no_old_name : (old cs : List Chunk) → list_any (eq_by_cmp nat_cmp a) (map (λ (c : Chunk). c.start) (filter (λ (c : Chunk). is_reached h old c.start) (ordinary_chunks h cs))) ≡ false
  no_old_name old [] = refl
  no_old_name old (c ∷ cs) = by (is_ordinary h c.start) refl (no_old_name old cs)
    where
      by : (b : Bool) → is_ordinary h c.start ≡ b
          → list_any (eq_by_cmp nat_cmp a) (map (λ (d : Chunk). d.start) (filter (λ (d : Chunk). is_reached h old d.start) (ordinary_chunks h cs))) ≡ false
          → list_any (eq_by_cmp nat_cmp a) (map (λ (d : Chunk). d.start) (filter (λ (d : Chunk). is_reached h old d.start) (cond b (c ∷ ordinary_chunks h cs) (ordinary_chunks h cs)))) ≡ false
      by true on rest = reached_name old c cs (is_reached h old c.start) on rest
      by false off rest = rest

module _ (v : View) (a : ℕ) (none : get (heap_graph v).nodes a ≡ None) where
  apart : (s : ℕ) → is_ordinary (store v) s ≡ true → a ≢ s
  apart s there e = none-some _ (sym none ∙ ap (get (heap_graph v).nodes) e ∙ get_there v s there)

  pub no_spot_without : get (heap_room v).spots a ≡ None
  unfolding room_in
  no_spot_without =
      let h : Store = store v in
      let old = old_row v.words v.spaces in
      let eden = eden_row v.words v.spaces in
      let past = past_row v.words v.spaces in
      get-from_entries nat_cmp_total (spots_of Old h old ++ (spots_of Eden h eden ++ spots_of Past h past)) a
      ∙ find_behind a (spots_of Old h old) (spots_of Eden h eden ++ spots_of Past h past) (no_spot h a apart Old old)
      ∙ find_behind a (spots_of Eden h eden) (spots_of Past h past) (no_spot h a apart Eden eden)
      ∙ no_spot h a apart Past past

  pub no_old_name_without : contains (heap_room v).old_names a ≡ false
  unfolding room_in
  no_old_name_without =
      contains-from_list nat_cmp_total _ a ∙ no_old_name (store v) a apart (old_row v.words v.spaces) (old_row v.words v.spaces ++ (eden_row v.words v.spaces ++ past_row v.words v.spaces))
