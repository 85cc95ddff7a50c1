-- The room of a compacted heap.
use Rattle.std.proofs.Common.{◌≡◌, ℕ, Bool, true, false, cond, ◌&&◌, ◌≤◌, eqb, List, [], ◌∷◌, ◌++◌, map, length, refl, sym, ap, ◌∙◌, subst, arith, inl, inr}
use Rattle.std.proofs.lemmas.Bool.{cases_Bool, and_left, and_right, ne_eqb, eq-eqb}
use Rattle.std.proofs.lemmas.List.{append-nil}
use Rattle.std.proofs.lemmas.List.Elements.{filter-append}
use Rattle.std.specs.List.{filter}
use Rattle.std.specs.Ordering.{nat_cmp}
use Rattle.std.specs.FinSet.{contains}
use Rattle.std.specs.FinSet as sets
use Rattle.object_header.specs.Chunks.{Chunk}
use Rattle.spur_graph.specs.Cells.{Store, is_start, is_there, final}
use Rattle.spur_graph.specs.Ordinary.{is_ordinary}
use Rattle.spur_graph.specs.CellRoom.{ordinary_chunks}
use Rattle.spur_graph.specs.HeapRoom.{is_reached, old_names_of, room_in}
use Rattle.spur_graph.specs.Step.{SameRoom}
use Rattle.spur_graph.specs.Spaces.{old_row, eden_row, past_row, young_row}
use Rattle.spur_graph.specs.Heaps.{IsWhole, View, own_name, store_of, chunks_of, heap_room}
use Rattle.heap_cells.proofs.AddedRoom.{any-has, any-none}
use Rattle.heap_cells.proofs.CellKinds.{there_starts}
use Rattle.heap_cells.proofs.Chains.{final-there}
use Rattle.heap_cells.proofs.Cutting.{stands}
use Rattle.heap_cells.proofs.Members.{In, filter_in}
use Rattle.heap_cells.proofs.References.{ordinary_there}
use Rattle.heap_cells.proofs.Spaced.{young-in_order}
use Rattle.heap_cells.proofs.Tables.{filter_none}
use Rattle.heap_laws.specs.Placed.{ArePaired}
use Rattle.heap_laws.proofs.HeapRooms.{heap_has_spots}
use Rattle.heap_laws.proofs.Rooms.{apart_rise, names-placed, internal_words-placed, internal_pinned-placed, pages-placed}
use Rattle.compaction_laws.specs.Compacting.{IsTight, Compacts}
use Rattle.compaction_laws.specs.Outcomes.{CompactedHasRoom, HasRoomBehind, IsSweptHeap}
use Rattle.compaction_laws.proofs.Spaces.{spaces', old'-below}
use Rattle.compaction_laws.proofs.After.{new, new-is, rows-are, spaces-are, old-is}
use Rattle.compaction_laws.proofs.Moves.{lives}
use Rattle.compaction_laws.proofs.Shapes.{start-there}
use Rattle.compaction_laws.proofs.Zones.{keep, zone, zones, zones', all-placed, old-placed}
use Rattle.compaction_laws.proofs.RoomParts.{spot, placed}
use Rattle.compaction_laws.proofs.Figures.{room, collected}

filter-all : {A : Type 0} (test : A → Bool) (xs : List A) → ((x : A) → In xs x → test x ≡ true) → filter test xs ≡ xs
filter-all test [] on = refl
filter-all test (x ∷ xs) on = ap (λ b. cond b (x ∷ filter test xs) (filter test xs)) (on x (inl refl)) ∙ ap (λ ys. x ∷ ys) (filter-all test xs (λ y m. on y (inr m)))

module _ {p : ℕ → ℕ} {v v' : View} (k : IsWhole v) (t : IsTight v) (c : Compacts p v v') where
  abbrev old : Store
  old = store_of v

  abbrev after : Store
  after = store_of (new k t c)

  abbrev os : List Chunk
  os = old_row v.words v.spaces

  abbrev es : List Chunk
  es = eden_row v.words v.spaces

  abbrev ps : List Chunk
  ps = past_row v.words v.spaces

  abbrev os' : List Chunk
  os' = old_row v'.words (spaces' k t c)

  abbrev young' : List Chunk
  young' = young_row v'.words (spaces' k t c)

  -- ---- under the names afterwards

  -- old space reaches what stands in it, and nothing else
  reached : (d : Chunk) → In os' d → is_there (after.cell d.start) ≡ true → is_reached after os' d.start ≡ true
  unfolding is_reached
  reached d m there = any-has (λ (x : Chunk). is_start (after.cell x.start) && eqb (final after x.start) d.start) os' d m
      (λ i. there_starts (after.cell d.start) there i && (ap (λ s. eqb s d.start) (final-there after d.start there) ∙ eq-eqb d.start d.start refl) i)

  not-reached : (s : ℕ) → v.spaces.old_end ≤ s → is_reached after os' s ≡ false
  unfolding is_reached
  not-reached s high = any-none (λ (x : Chunk). is_start (after.cell x.start) && eqb (final after x.start) s) os' (λ x m. elim (cases_Bool (is_start (after.cell x.start))) [
    | inr off ↦ and_left (is_start (after.cell x.start)) (eqb (final after x.start) s) off
    | inl on ↦
        let low = old'-below k t c x (subst (λ cs. In cs x) (old-is k t c) m) in
        and_right (is_start (after.cell x.start)) (eqb (final after x.start) s) (ap (λ u. eqb u s) (final-there after x.start (start-there k t c x.start on)) ∙ ne_eqb x.start s (λ e. omega (arith, low, high, e)))
  ])

  old-names-after : old_names_of after os' (chunks_of (new k t c)) ≡ map (λ (d : Chunk). d.start) (ordinary_chunks after os')
  old-names-after =
      let r : Chunk → Bool = λ d. is_reached after os' d.start in
      let o : Chunk → Bool = λ d. is_ordinary after d.start in
      ap (λ ds. map (λ (d : Chunk). d.start) (filter r ds)) (filter-append o os' young')
      ∙ ap (map (λ (d : Chunk). d.start)) (filter-append r (filter o os') (filter o young')
      ∙ (λ i. filter-all r (filter o os') (λ d m. let f = filter_in o os' d m in reached d f.0 (ordinary_there after d.start f.1)) i
      ++ filter_none r (filter o young') (λ d m. not-reached d.start (above d (filter_in o young' d m).0)) i)
      ∙ append-nil (filter o os'))
    where
      above : (d : Chunk) → In young' d → v.spaces.old_end ≤ d.start
      above d m =
          let l = (stands v'.words v.spaces.eden_at (length v'.words) young' d (young-in_order v'.words v.limits (spaces' k t c) (spaces-are k t c) (rows-are k t c)) m).lies in
          let a = l.after in let b = l.lead in let e = k.spaces.eden_behind in
          omega (arith, a, b, e)

  module _ (m : IsSweptHeap p v (new k t c)) where
    paired : ArePaired p (keep k t c) old own_name own_name m.place m.back
    paired = record { left = m.graph.left; right = m.graph.right; named = λ s on o. m.named s (sym (lives k t c s) ∙ on) o }

    figures : SameRoom (room k t c) (heap_room (new k t c)) m.place
    unfolding room_in
    figures = record {
      spots = λ a. heap_has_spots p (keep k t c) old after m.place m.back (zone k t c) (zone k t c) os es ps os' (eden_row v'.words (spaces' k t c)) (past_row v'.words (spaces' k t c)) a (placed k t c) paired (all-placed k t c) (zones k t c) (zones' k t c);
      old_names = λ a.
          ap (λ ns. contains (sets.from_list {R = nat_cmp} ns) (m.place a)) old-names-after
          ∙ names-placed p (keep k t c) old after own_name own_name m.place m.back (placed k t c) (λ s u x y e. e) paired (spot k t c) (spot k t c) os os' (old-placed k t c) a;
      rest = λ i. record (heap_room (new k t c)) {
        internal_words = internal_words-placed (placed k t c) (spot k t c) (spot k t c) os os' (old-placed k t c) (apart_rise os (old-placed k t c).rise) (apart_rise os' (old-placed k t c).rise_new) i;
        internal_pinned = internal_pinned-placed (placed k t c) (spot k t c) (spot k t c) os os' (old-placed k t c) (apart_rise os (old-placed k t c).rise) (apart_rise os' (old-placed k t c).rise_new) i;
        pages = sets.from_list (pages-placed (placed k t c) i);
      };
    }

    behind : HasRoomBehind v (new k t c) m.place
    behind = record { room = room k t c; collected = collected k t c; figures = figures }

pub compacted_has_room : CompactedHasRoom
compacted_has_room p v v' k t c = subst (λ x. (m : IsSweptHeap p v x) → HasRoomBehind v x m.place) (sym (new-is k t c)) (behind k t c)
