-- The room of a store that has one space, old space, and nothing else.
use Rattle.std.specs.Prelude.{ℕ, List, [], ◌∷◌, map, Bool, not, if◌then◌else◌, ◌==◌, ◌&&◌, nat_eq, nat_le, nat_lt}
use Rattle.std.specs.List.{filter, sum_by, count_by, range_with_len}
use Rattle.std.specs.FinMap.{from_entries}
use Rattle.std.specs.FinSet as sets
use Rattle.spur_graph.specs.declared.limits.Limits.{Limits}
use Rattle.spur_graph.specs.Room.{Room, Spot, Old}
use Rattle.spur_graph.specs.FreeSizes.{ascending}
use Rattle.object_header.specs.Chunks.{Chunk}
use Rattle.spur_graph.specs.Cells.{Store, is_start}
use Rattle.spur_graph.specs.Ordinary.{is_ordinary, is_internal, is_nil_slot, body_at, page_places}

-- the room as sizes of free chunks: no words are no chunk
abbrev pub room_sizes : ℕ → List ℕ
room_sizes room = if nat_eq room 0 then [] else room ∷ []

-- neither an object nor a forwarder
abbrev pub is_free : Store → Chunk → Bool
is_free h c = not (is_start (h.cell c.start))

-- the sizes of the free chunks, in order of place
abbrev pub free_sizes : Store → List Chunk → List ℕ
free_sizes h cs = map (λ (c : Chunk). c.size) (filter (is_free h) cs)

abbrev pub ordinary_chunks : Store → List Chunk → List Chunk
ordinary_chunks h cs = filter (λ (c : Chunk). is_ordinary h c.start) cs

abbrev pub internal_chunks : Store → List Chunk → List Chunk
internal_chunks h cs = filter (λ (c : Chunk). is_start (h.cell c.start) && is_internal h c.start) cs

-- where an object stands: in old space, with its words
abbrev pub spot_of : Chunk → Spot
spot_of c = record { space = Old; words = c.size; overflow = nat_lt c.at c.start }

-- the room of a store of these chunks, with so many words of old space in all, eden and survivor spaces of these limits, which are empty, and these sizes
-- of free chunks
unfoldable pub room_of : (ℕ → ℕ) → Store → List Chunk → ℕ → Limits → List ℕ → Room
room_of name h cs words limits free = record {
  old_words = words;
  eden_words = limits.eden;
  survivor_words = limits.survivor;
  spots = from_entries (map (λ (c : Chunk). (name c.start, spot_of c)) (ordinary_chunks h cs));
  old_names = sets.from_list (map (λ (c : Chunk). name c.start) (ordinary_chunks h cs));
  free = ascending free;
  eden_left = limits.eden;
  past_used = 0;
  internal_words = sum_by (λ (c : Chunk). c.size) (internal_chunks h cs);
  internal_pinned = count_by (λ (c : Chunk). (body_at h c.start).pinned == 1) (internal_chunks h cs);
  pages = sets.from_list (filter (λ i. not (is_nil_slot h i)) (range_with_len 0 page_places));
}
