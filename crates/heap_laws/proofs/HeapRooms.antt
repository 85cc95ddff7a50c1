-- The spots of a heap of three spaces under moved places.
use Rattle.std.proofs.Common.{◌≡◌, ℕ, suc, cond, List, [], ◌∷◌, ◌++◌, map, refl, sym, ap, ◌∙◌, arith, inl, inr}
use Rattle.std.proofs.lemmas.Bool.{cases_Bool}
use Rattle.std.proofs.lemmas.List.{map-append}
use Rattle.std.proofs.lemmas.List.Elements.{filter-append}
use Rattle.std.specs.List.{All}
use Rattle.std.specs.Ordering.{nat_cmp}
use Rattle.std.specs.FinMap.{get, from_entries}
use Rattle.spur_graph.specs.Room.{Space, Spot, Old, Eden, Past}
use Rattle.object_header.specs.Chunks.{Chunk}
use Rattle.spur_graph.specs.Cells.{Store}
use Rattle.spur_graph.specs.Ordinary.{is_ordinary}
use Rattle.spur_graph.specs.CellRoom.{ordinary_chunks}
use Rattle.spur_graph.specs.HeapRoom.{spot_in, spots_of}
use Rattle.spur_graph.specs.Heaps.{own_name}
use Rattle.heap_laws.specs.Placing.{HeapHasSpots, ZonedSpots}
use Rattle.heap_laws.proofs.Rooms.{spots-placed}

abbrev zoned : (ℕ → Space) → Chunk → ℕ × Spot
zoned zone c = (c.start, spot_in (zone c.start) c)

-- the chunks of a row stand in one space
row_zoned : (h : Store) (zone : ℕ → Space) (space : Space) (cs : List Chunk) → All (λ (c : Chunk). zone c.start ≡ space) cs → map (zoned zone) (ordinary_chunks h cs) ≡ spots_of space h cs
row_zoned h zone space [] all = refl
row_zoned h zone space (c ∷ cs) all =
    let rest = row_zoned h zone space cs (λ j d l. all (suc j) d (omega (arith, l))) in
    let here : zone c.start ≡ space = all 0 c (omega arith) in
    elim (cases_Bool (is_ordinary h c.start)) [
      | inl on ↦ ap (λ b. map (zoned zone) (cond b (c ∷ ordinary_chunks h cs) (ordinary_chunks h cs))) on
          ∙ (λ i. (c.start, spot_in (here i) c) ∷ rest i)
          ∙ ap (λ b. map (λ (d : Chunk). (d.start, spot_in space d)) (cond b (c ∷ ordinary_chunks h cs) (ordinary_chunks h cs))) (sym on)
      | inr off ↦ ap (λ b. map (zoned zone) (cond b (c ∷ ordinary_chunks h cs) (ordinary_chunks h cs))) off
          ∙ rest
          ∙ ap (λ b. map (λ (d : Chunk). (d.start, spot_in space d)) (cond b (c ∷ ordinary_chunks h cs) (ordinary_chunks h cs))) (sym off)
    ]

joined : (h : Store) (f : Chunk → ℕ × Spot) (xs ys : List Chunk) → map f (ordinary_chunks h (xs ++ ys)) ≡ map f (ordinary_chunks h xs) ++ map f (ordinary_chunks h ys)
joined h f xs ys = ap (map f) (filter-append (λ (c : Chunk). is_ordinary h c.start) xs ys) ∙ map-append f (ordinary_chunks h xs) (ordinary_chunks h ys)

pub zoned_spots : ZonedSpots
zoned_spots h zone os es ps z =
    joined h (zoned zone) os (es ++ ps) ∙ ap (λ rest. map (zoned zone) (ordinary_chunks h os) ++ rest) (joined h (zoned zone) es ps)
    ∙ (λ i. row_zoned h zone Old os z.old i ++ (row_zoned h zone Eden es z.eden i ++ row_zoned h zone Past ps z.past i))

pub heap_has_spots : HeapHasSpots
heap_has_spots p keep old new place back zone zone' os es ps os' es' ps' a k r q z z' =
    ap (λ es. get (from_entries {R = nat_cmp} es) (place a)) (sym (zoned_spots new zone' os' es' ps' z'))
    ∙ spots-placed p keep old new own_name own_name place back k (λ s t x y e. e) r (λ (c : Chunk). spot_in (zone c.start) c) (λ (c : Chunk). spot_in (zone' c.start) c) (os ++ (es ++ ps)) (os' ++ (es' ++ ps')) q a
