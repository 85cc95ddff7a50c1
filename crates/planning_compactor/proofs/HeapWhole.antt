-- A heap that was compacted, with its tables: it is one again.
use Rattle.std.proofs.Common.{◌≡◌, ◌≢◌, ℕ, Bool, true, false, ◌||◌, ◌+◌, ◌-◌, ◌/◌, ◌<◌, ◌≤◌, eqb, List, [], ◌++◌, map, length, drop, refl, sym, ap, ◌∙◌, subst, inl, inr, arith}
use Rattle.std.specs.Prelude.{vec_capacity}
use Rattle.std.proofs.lemmas.Bool.{cases_eq, eq-eqb, ne_eqb, or_right}
use Rattle.std.specs.List.{filter}
use Rattle.object_header.specs.Chunks.{Chunk}
use Rattle.heap_walk.specs.Starts.{has_start, covered}
use Rattle.heap_walk.specs.declared.starts.StartMap.{StartMap}
use Rattle.free_lists.specs.Rows.{free_runs}
use Rattle.free_lists.specs.Lists.{Lists}
use Rattle.free_lists.specs.declared.lists.FreeLists.{FreeLists}
use Rattle.spur_graph.specs.Cells.{first}
use Rattle.spur_graph.specs.Ordinary.{ordinary_starts}
use Rattle.spur_graph.specs.Spaces.{old_row}
use Rattle.spur_graph.specs.Heaps.{View, IsWhole, is_marked, store_of}
use Rattle.heap_cells.specs.Settled.{word_of}
use Rattle.heap_cells.proofs.Cutting.{row-is}
use Rattle.heap_laws.specs.Compaction.{with_lists}
use Rattle.heap_laws.specs.Instances.{IsReaddressedOutside}
use Rattle.heap_laws.specs.Placing.{outside_of}
use Rattle.handle_table.specs.Handles.{held}
use Rattle.remembered_set.specs.Starts.{Table}
use Rattle.spur_heap.specs.Tables.{Parted, groups_of, parted, HasPlaces}
use Rattle.spur_heap.specs.Parts.{view_of, ArePartsOfHeap, HasMap, HasRemembered, HasTables}
use Rattle.spur_heap.specs.declared.heap.HeapParts.{HeapParts}
use Rattle.compaction_laws.specs.Compacting.{Compacts, IsFull, IsTight, is_mapped}
use Rattle.compaction_laws.proofs.Counts.{count-left}
use Rattle.compaction_laws.proofs.Fronts.{front}
use Rattle.compaction_laws.proofs.Wholes.{compacted_is_whole, compacted_starts}
use Rattle.planning_compactor.specs.declared.parts.YoungEnds.{YoungEnds}
use Rattle.planning_compactor.specs.Compacted.{AreCompacted}
use Rattle.planning_compactor.specs.Ranges.{CompactsRanges, ranges_in}
use Rattle.planning_compactor.proofs.FreeRows.{IsRelisted, runs-same, same-row}
use Rattle.planning_compactor.proofs.HeapCompacts.{cut-new, few-new, full-new, lists-new, moved-new}
use Rattle.planning_compactor.proofs.HeapMoved.{HasMoved, firsts-stay, rest}
use Rattle.planning_compactor.proofs.HeapPlanned.{eden-row, go-old, go-row, past-row}
use Rattle.planning_compactor.proofs.HeapReady.{eden-end}
use Rattle.planning_compactor.proofs.HeapRoots.{left-parted, outside-moved}

module _ {a : HeapParts} (k : ArePartsOfHeap a) (t : IsTight (view_of a)) {swept : StartMap} {count : ℕ} (swept-is : has_start swept ≡ is_mapped (view_of a)) {d : HeapParts} {ends : YoungEnds}
    (c : CompactsRanges (record a { starts = swept; objects = count }) d (ranges_in (view_of a)) ends)
  where
    abbrev v : View
    v = view_of a

    pub moved : HasMoved v c.goes (has_start d.starts) d.region
    moved = record { cut = c.cut; laid = c.laid; compacted = subst (λ has. AreCompacted c.goes has (has_start d.starts) a.region d.region (ranges_in v)) swept-is c.compacted }

    abbrev pub row : List Chunk
    row = front k.whole ++ rest k.whole t moved

    -- the lists were made anew, and the map has the free lists object again
    pub record IsRebuilt (region : List ℕ) (free : FreeLists) (starts : StartMap) : Type 0 where
      pub relisted : IsRelisted d.region region a.old_end row
      pub lists : Lists region free (free_runs d.region row)
      pub here : has_start starts (first (store_of v) 3) ≡ true
      pub others : (s : ℕ) → s ≢ first (store_of v) 3 → has_start starts s ≡ has_start d.starts s
      pub covers : covered starts ≡ length a.region
      pub count_is : count ≡ length (filter (is_marked a.region) (ordinary_starts (store_of v)))

    module _ {region : List ℕ} {free : FreeLists} {starts : StartMap} (r : IsRebuilt region free starts) where
      abbrev pub after : HeapParts
      after = record a {
        region = region;
        starts = starts;
        objects = count;
        handles = d.handles;
        special = d.special;
        mourners = d.mourners;
        saved = d.saved;
        eden_used = ends.eden - a.eden_at;
        past_used = ends.past_space - a.past_at;
        free = free;
        forwarders = false;
      }

      abbrev v' : View
      v' = view_of after

      same-mourned : d.mourned ≡ a.mourned
      same-mourned = ap (λ (p : HeapParts). p.mourned) c.rest

      outside : IsReaddressedOutside c.goes word_of (outside_of v) (outside_of v')
      outside = subst (λ n. IsReaddressedOutside c.goes word_of (outside_of v) (record { special = d.special; held = held d.handles; groups = groups_of n d.mourners.items })) same-mourned (outside-moved c)

      -- ---- new space

      eden-last : ends.eden ≡ a.eden_at + (ends.eden - a.eden_at)
      eden-last = let l = c.order.0 in omega (arith, l)

      past-last : ends.past_space ≡ a.past_at + (ends.past_space - a.past_at)
      past-last = let l = c.order.1 in omega (arith, l)

      eden-full : IsFull (has_start d.starts) region a.eden_at (a.eden_at + a.eden_used) (a.eden_at + (ends.eden - a.eden_at))
      eden-full = subst (IsFull (has_start d.starts) region a.eden_at (a.eden_at + a.eden_used)) eden-last
          (full-new k.whole t moved r.relisted a.eden_at (a.eden_at + a.eden_used) ends.eden k.whole.spaces.eden_behind c.eden)

      past-full : IsFull (has_start d.starts) region a.past_at (a.past_at + a.past_used) (a.past_at + (ends.past_space - a.past_at))
      past-full = subst (IsFull (has_start d.starts) region a.past_at (a.past_at + a.past_used)) past-last
          (full-new k.whole t moved r.relisted a.past_at (a.past_at + a.past_used) ends.past_space (let b = k.whole.spaces.eden_behind in let e = eden-end k.whole t in omega (arith, b, e)) c.past_space)

      pub compacts : Compacts c.goes v v'
      compacts = record {
        starts = has_start d.starts;
        moved = moved-new k.whole t moved r.relisted;
        firsts = firsts-stay k.whole t moved;
        pinned = moved.compacted.pinned;
        lists = lists-new k.whole t moved r.relisted;
        planned_old = go-old k.whole t c.goes (firsts-stay k.whole t moved) moved.compacted.pinned moved.compacted.old_space;
        planned_eden = go-row k.whole t (eden-row k.whole t) c.goes moved.compacted.pinned moved.compacted.eden;
        planned_past = go-row k.whole t (past-row k.whole t) c.goes moved.compacted.pinned moved.compacted.past_space;
        stay_old = λ s on. moved.compacted.in_old_space s;
        stay_eden = λ s on. moved.compacted.in_eden s;
        stay_past = λ s on. moved.compacted.in_past_space s;
        old = cut-new k.whole t moved r.relisted;
        few = few-new k.whole t moved r.relisted c.few;
        eden = eden-full;
        past = past-full;
        spaces = refl;
        outside = outside;
        rest = refl;
      }

      -- ---- the map

      long : length region ≡ length a.region
      long = r.relisted.long ∙ moved.compacted.moved.same_words

      start-is : (s : ℕ) → has_start starts s ≡ with_lists (has_start d.starts) (store_of v) s
      start-is s = elim (cases_eq s (first (store_of v) 3)) [
        | inl e ↦ ap (has_start starts) e ∙ r.here ∙ sym (or_right (has_start d.starts s) (eqb s (first (store_of v) 3)) (eq-eqb s (first (store_of v) 3) e))
        | inr n ↦ r.others s n ∙ sym (ap (λ b. has_start d.starts s || b) (ne_eqb s (first (store_of v) 3) n) ∙ or_none (has_start d.starts s))
      ]
        where
          or_none : (b : Bool) → (b || false) ≡ b
          or_none true = refl
          or_none false = refl

      pub map-after : HasMap after
      unfolding compacts
      map-after = record { starts = λ s. start-is s ∙ sym (compacted_starts c.goes v v' k.whole t compacts s); covers = r.covers ∙ sym long }

      -- ---- the tables

      grouped : (parted (drop a.mourned d.mourners.items)).front ≡ []
      grouped =
          ap (λ n. (parted (drop n d.mourners.items)).front) (sym same-mourned) ∙ ap (λ (x : Parted). x.front) (left-parted c)
          ∙ ap (map c.goes) k.tables.grouped

      tables-after : HasTables after
      tables-after =
          let long-mourners = c.mourners in
          let taken = k.tables.taken in
          record {
            taken = omega (arith, taken, long-mourners);
            grouped = grouped;
            mourner_places = subst (λ n. length region / 2 ≤ n) (sym c.places) (subst (λ n. n / 2 ≤ vec_capacity a.mourners) (sym long) k.tables.mourner_places);
            mark_places = subst (λ n. n / 2 ≤ vec_capacity a.marks) (sym long) k.tables.mark_places;
            saved = c.saved ∙ k.tables.saved;
            some_saved = k.tables.some_saved;
          }

      row-after : old_row region v'.spaces ≡ row
      row-after = row-is region 0 a.old_end row (same-row r.relisted)

      pub whole-after : IsWhole v'
      whole-after = compacted_is_whole c.goes v v' k.whole t compacts

      pub places-after : HasPlaces (length region) a.remembered.capacity
      places-after = subst (λ n. HasPlaces n a.remembered.capacity) (sym long) k.remembered.table.places

      -- once the table of remembered starts is made anew
      pub parts-after : (table : Table) → HasRemembered (record after { remembered = table }) → ArePartsOfHeap (record after { remembered = table })
      parts-after table remembered = record {
        whole = whole-after;
        map = record { starts = map-after.starts; covers = map-after.covers };
        free_chunks = record { lists = subst (Lists region free) (sym (ap (free_runs region) row-after ∙ runs-same r.relisted)) r.lists };
        objects = record { count = r.count_is ∙ sym (count-left k.whole t compacts) };
        remembered = remembered;
        tables = record {
          taken = tables-after.taken;
          grouped = tables-after.grouped;
          mourner_places = tables-after.mourner_places;
          mark_places = tables-after.mark_places;
          saved = tables-after.saved;
          some_saved = tables-after.some_saved;
        };
      }
