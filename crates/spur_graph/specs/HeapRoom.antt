-- The room of a heap of three spaces.
use Rattle.std.specs.Prelude.{ℕ, ◌-◌, List, ◌++◌, map, Bool, not, ◌==◌, ◌&&◌, nat_eq, nat_lt}
use Rattle.std.specs.List.{filter, sum_by, count_by, list_any, range_with_len}
use Rattle.std.specs.FinMap.{from_entries}
use Rattle.std.specs.FinSet as sets
use Rattle.spur_graph.specs.declared.limits.Limits.{Limits}
use Rattle.spur_graph.specs.Room.{Room, Space, Spot, Old, Eden, Past}
use Rattle.object_header.specs.Chunks.{Chunk}
use Rattle.spur_graph.specs.Cells.{Store, is_start, final}
use Rattle.spur_graph.specs.Ordinary.{is_nil_slot, body_at, page_places}
use Rattle.spur_graph.specs.FreeSizes.{ascending}
use Rattle.spur_graph.specs.CellRoom.{free_sizes, ordinary_chunks, internal_chunks}

-- where an object stands, with its words
abbrev pub spot_in : Space → Chunk → Spot
spot_in space c = record { space = space; words = c.size; overflow = nat_lt c.at c.start }

-- the spots of the ordinary objects of a row, by their starts
abbrev pub spots_of : Space → Store → List Chunk → List (ℕ × Spot)
spots_of space h cs = map (λ (c : Chunk). (c.start, spot_in space c)) (ordinary_chunks h cs)

-- an object or a forwarder of this row leads to the start
unfoldable pub is_reached : Store → List Chunk → ℕ → Bool
is_reached h cs s = list_any (λ (c : Chunk). is_start (h.cell c.start) && nat_eq (final h c.start) s) cs

-- the starts of the ordinary objects that old space has or reaches
abbrev pub old_names_of : Store → List Chunk → List Chunk → List ℕ
old_names_of h old all = map (λ (c : Chunk). c.start) (filter (λ (c : Chunk). is_reached h old c.start) (ordinary_chunks h all))

-- the room of a store of these three rows: so many words of old space, and so many that are used of eden and of past space. Internal objects stand in
-- old space
unfoldable pub room_in : Store → List Chunk → List Chunk → List Chunk → ℕ → Limits → ℕ → ℕ → Room
room_in h old eden past words limits eden_used past_used = record {
  old_words = words;
  eden_words = limits.eden;
  survivor_words = limits.survivor;
  spots = from_entries (spots_of Old h old ++ (spots_of Eden h eden ++ spots_of Past h past));
  old_names = sets.from_list (old_names_of h old (old ++ (eden ++ past)));
  free = ascending (free_sizes h old);
  eden_left = limits.eden - eden_used;
  past_used = past_used;
  internal_words = sum_by (λ (c : Chunk). c.size) (internal_chunks h old);
  internal_pinned = count_by (λ (c : Chunk). (body_at h c.start).pinned == 1) (internal_chunks h old);
  pages = sets.from_list (filter (λ i. not (is_nil_slot h i)) (range_with_len 0 page_places));
}
