-- A heap that was swept, compacted, and given its lists of free chunks again.
use Rattle.std.proofs.Common.{◌≡◌, ◌≢◌, ◌<◌, ℕ, true, false, ◌-◌, List, length, get_or, sym, ap, ◌∙◌, subst, Some}
use mathlib.Core.Path.{fun_ext}
use Rattle.std.specs.FinMap.{get}
use Rattle.std.specs.List.{filter}
use Rattle.object_header.specs.Chunks.{Chunk, Cuts}
use Rattle.heap_walk.specs.Starts.{has_start, covered}
use Rattle.heap_walk.specs.declared.starts.StartMap.{StartMap}
use Rattle.free_lists.specs.Rows.{free_runs, rewritten}
use Rattle.free_lists.specs.Lists.{IsOutside, Lists}
use Rattle.free_lists.specs.declared.lists.FreeLists.{FreeLists}
use Rattle.spur_graph.specs.Graph.{Handle}
use Rattle.spur_graph.specs.Cells.{first}
use Rattle.spur_graph.specs.Ordinary.{ordinary_starts}
use Rattle.spur_graph.specs.Heaps.{IsWhole, is_marked, store_of}
use Rattle.handle_table.specs.Handles.{held}
use Rattle.spur_heap.specs.Parts.{view_of, ArePartsOfHeap, HasMap, HasRemembered}
use Rattle.remembered_set.specs.Starts.{Table}
use Rattle.spur_heap.specs.Tables.{HasPlaces}
use Rattle.spur_heap.specs.declared.heap.HeapParts.{HeapParts}
use Rattle.compaction_laws.specs.Compacting.{Compacts, IsTight, is_mapped}
use Rattle.planning_compactor.specs.declared.parts.Parts.{Parts}
use Rattle.planning_compactor.specs.declared.parts.YoungEnds.{YoungEnds}
use Rattle.planning_compactor.specs.Ranges.{CanCompact, CompactsRanges, ranges_in, roots_in}
use Rattle.planning_compactor.proofs.HeapMoved.{free-gap, row-now}
use Rattle.planning_compactor.proofs.HeapRanges.{can-compact}
use Rattle.planning_compactor.proofs.HeapRoots.{AreHeld}
use Rattle.planning_compactor.proofs.HeapWhole.{IsRebuilt, after, compacts, moved, whole-after, map-after, places-after, parts-after, row}

-- the map of `q` has the starts of marked objects alone, and they are counted; else it is as `p`
pub record IsSweptOf (p q : HeapParts) : Type 0 where
  pub starts : (s : ℕ) → has_start q.starts s ≡ is_mapped (view_of p) s
  pub covers : covered q.starts ≡ covered p.starts
  pub count : q.objects ≡ length (filter (is_marked p.region) (ordinary_starts (store_of (view_of p))))
  pub rest : q ≡ record p { starts = q.starts; objects = q.objects }

-- each word of a table of handles is that of a handle
abbrev pub HoldsEach : HeapParts → Type 0
HoldsEach q = (i : ℕ) → i < length q.handles.words → (h : Handle) × (get (held q.handles) h ≡ Some (get_or q.handles.words i 0))

module _ {p q : HeapParts} (k : ArePartsOfHeap p) (t : IsTight (view_of p)) (s : IsSweptOf p q) where
  pub same-map : has_start q.starts ≡ is_mapped (view_of p)
  same-map = fun_ext s.starts

  pub can-swept : (ranges : Parts) → ranges ≡ ranges_in (view_of p) → HoldsEach q → CanCompact (has_start q.starts) q.region (roots_in q) ranges
  can-swept ranges are each =
      subst (CanCompact (has_start q.starts) q.region (roots_in q)) (sym are)
      (subst (λ (x : HeapParts). CanCompact (has_start q.starts) x.region (roots_in x) (ranges_in (view_of p))) (sym s.rest)
      (can-compact k t q.starts same-map (subst HoldsEach s.rest each)))

  module _ {d : HeapParts} {ends : YoungEnds} (ranges : Parts) (are : ranges ≡ ranges_in (view_of p)) (c : CompactsRanges q d ranges ends) where
    pub compacted : CompactsRanges (record p { starts = q.starts; objects = q.objects }) d (ranges_in (view_of p)) ends
    compacted = subst (λ (x : HeapParts). CompactsRanges x d (ranges_in (view_of p)) ends) s.rest (subst (λ x. CompactsRanges q d x ends) are c)

    same-end : d.old_end ≡ p.old_end
    same-end = ap (λ (x : HeapParts). x.old_end) compacted.rest

    abbrev pub chunks : List Chunk
    chunks = row k t same-map compacted

    pub cut : Cuts d.region 0 d.old_end chunks
    cut = subst (λ n. Cuts d.region 0 n chunks) (sym same-end) (row-now k.whole t (moved k t same-map compacted))

    -- what a rebuilding of the lists does, and the map with the free lists object again
    pub record AreRelisted (region : List ℕ) (free : FreeLists) (starts : StartMap) : Type 0 where
      pub lists : Lists region free (free_runs d.region chunks)
      pub cuts : Cuts region 0 d.old_end (rewritten d.region chunks)
      pub long : length region ≡ length d.region
      pub others : (j : ℕ) → IsOutside (free_runs d.region chunks) j → get_or region j 0 ≡ get_or d.region j 0
      pub here : has_start starts (first (store_of (view_of p)) 3) ≡ true
      pub else : (x : ℕ) → x ≢ first (store_of (view_of p)) 3 → has_start starts x ≡ has_start d.starts x
      pub covers : covered starts ≡ covered d.starts

    module _ {region : List ℕ} {free : FreeLists} {starts : StartMap} (r : AreRelisted region free starts) where
      rebuilt : IsRebuilt k t same-map compacted region free starts
      rebuilt = record {
        relisted = record {
          row = row-now k.whole t (moved k t same-map compacted);
          filled = free-gap k.whole t (moved k t same-map compacted);
          long = r.long;
          cut = subst (λ n. Cuts region 0 n (rewritten d.region chunks)) same-end r.cuts;
          free = r.lists.chunks;
          others = r.others;
        };
        lists = r.lists;
        here = r.here;
        others = r.else;
        covers = r.covers ∙ c.covers ∙ s.covers ∙ k.map.covers;
        count_is = s.count;
      }

      abbrev pub again : HeapParts → HeapParts
      again x = record x { region = region; starts = starts; free = free; eden_used = ends.eden - x.eden_at; past_used = ends.past_space - x.past_at; forwarders = false }

      is-again : again d ≡ after k t same-map compacted rebuilt
      is-again = ap again compacted.rest

      pub whole-again : IsWhole (view_of (again d))
      whole-again = subst (λ (x : HeapParts). IsWhole (view_of x)) (sym is-again) (whole-after k t same-map compacted rebuilt)

      pub map-again : HasMap (again d)
      map-again = subst (λ (x : HeapParts). HasMap x) (sym is-again) (map-after k t same-map compacted rebuilt)

      pub places-again : HasPlaces (length (again d).region) (again d).remembered.capacity
      places-again = subst (λ (x : HeapParts). HasPlaces (length x.region) x.remembered.capacity) (sym is-again) (places-after k t same-map compacted rebuilt)

      -- once the table of remembered starts is made anew
      pub parts-again : (table : Table) → HasRemembered (record (again d) { remembered = table }) → ArePartsOfHeap (record (again d) { remembered = table })
      parts-again table remembered =
          let same : ◌≡◌ {A = HeapParts} (record (again d) { remembered = table }) (record (after k t same-map compacted rebuilt) { remembered = table }) =
          ap (λ (x : HeapParts). let y : HeapParts = record x { remembered = table } in y) is-again in
          subst (λ (x : HeapParts). ArePartsOfHeap x) (sym same) (parts-after k t same-map compacted rebuilt table (subst (λ (x : HeapParts). HasRemembered x) same remembered))

      pub compacts-again : (goes : ℕ → ℕ) × Compacts goes (view_of p) (view_of (again d))
      compacts-again = (compacted.goes, subst (λ (x : HeapParts). Compacts compacted.goes (view_of p) (view_of x)) (sym is-again) (compacts k t same-map compacted rebuilt))
