-- The parts of a heap once two objects are made side by side: they stand for a heap, which is the one before with both.
use Rattle.std.proofs.Common.{◌≡◌, ℕ, false, ◌+◌, ◌<◌, ◌≤◌, ◌^◌, List, length, get_or, refl, sym, ap, ◌∙◌, subst}
use Rattle.spur_graph.specs.Room.{fresh_words}
use Rattle.spur_graph.specs.Spaces.{old_row}
use Rattle.spur_graph.specs.Heaps.{View, heap_room, is_remembered}
use Rattle.free_lists.specs.Rows.{free_runs}
use Rattle.free_lists.specs.Lists.{IsOutside, Takes}
use Rattle.free_lists.specs.declared.lists.FreeLists.{FreeLists}
use Rattle.spur_heap.specs.declared.heap.HeapParts.{HeapParts}
use Rattle.spur_heap.specs.Parts.{view_of, ArePartsOfHeap}
use Rattle.spur_heap.specs.Fresh.{fresh_start}
use Rattle.spur_heap.specs.Pairing.{MakesPair, PutsPair}
use Rattle.spur_heap.specs.declared.allocation.TheConstants.{BLANK_CLASS, BLANK_FORMAT}
use Rattle.spur_heap.proofs.EdenPaired.{IsGrownPair, eden_pair_whole, eden_pair_adds, eden_pair_lists, eden_pair_makes, eden_pair_noted}
use Rattle.spur_heap.proofs.FreshRuns.{fresh_is_forgotten}
use Rattle.spur_heap.proofs.Needs.{eden_fits}
use Rattle.spur_heap.proofs.OldPaired.{old_pair_whole, old_pair_adds, old_pair_lists, old_pair_makes}
use Rattle.spur_heap.proofs.Noted.{table_same}
use Rattle.spur_heap.proofs.NotedMade.{pair_noted, served_starts}
use Rattle.spur_heap.proofs.Paired.{WritesPair, AddsPair, first_stays, outside_both, pair_count, pair_starts}
use Rattle.spur_heap.proofs.Served.{IsServed}
use Rattle.spur_heap.proofs.Tables.{tables_kept}

-- what holds of the starts of two runs, one behind the other, holds of the places that are told
at_places : (at first second s t : ℕ) → s ≡ fresh_start at first → t ≡ fresh_start (at + fresh_words first) second → (P : ℕ → ℕ → Type 0) → P (fresh_start at first) (fresh_start (at + fresh_words first) second) → P s t
at_places at first second s t is_first is_second P x = subst (λ b. P s b) (sym is_second) (subst (λ a. P a (fresh_start (at + fresh_words first) second)) (sym is_first) x)

module _ (old new : HeapParts) (at first second s t : ℕ) (k : PutsPair old new at first second s t) where
  pub puts_writes : WritesPair old.region k.middle.region new.region at first second
  puts_writes = record {
    one = k.one.run;
    outside_one = k.one.others;
    long_one = k.one.long;
    two = k.two.run;
    outside_two = k.two.others;
    long_two = k.two.long;
  }

  -- region, map and number of objects alone are others
  pub puts_rest : new ≡ record old { region = new.region; starts = new.starts; objects = old.objects + 1 + 1 }
  puts_rest = k.two.rest ∙ (λ i. record (k.one.rest i) { region = new.region; starts = new.starts; objects = (k.one.rest i).objects + 1 })

module _ (p : HeapParts) (k : ArePartsOfHeap p) (first second : ℕ) (few_first : first ≤ 2 ^ 27) (few_second : second ≤ 2 ^ 27) where
  abbrev v : View
  v = view_of p

  abbrev runs : List (ℕ × ℕ)
  runs = free_runs p.region (old_row v.words v.spaces)

  abbrev need : ℕ
  need = fresh_words first + fresh_words second

  -- ---- in old space

  module _ (taken : List ℕ) (free' : FreeLists) (at : ℕ) (takes : Takes taken free' runs need at) (long : length taken ≡ length p.region)
      (others : (j : ℕ) → IsOutside runs j → get_or taken j 0 ≡ get_or p.region j 0) (q : HeapParts) (s t : ℕ) (puts : PutsPair (record p { region = taken; free = free' }) q at first second s t) where
    abbrev before : HeapParts
    before = record p { region = taken; free = free' }

    writes : WritesPair taken puts.middle.region q.region at first second
    writes = puts_writes before q at first second s t puts

    served : IsServed v p.free free' taken q.region at need
    served = record {
      whole = k.whole;
      lists = k.free_chunks.lists;
      takes = takes;
      others = others;
      mid_long = long;
      outside = outside_both writes;
      long = puts.two.long ∙ puts.one.long;
    }

    adds : AddsPair v q.region v.spaces first second s t
    adds = at_places at first second s t puts.one.place puts.two.place (λ a b. AddsPair v q.region v.spaces first second a b) (old_pair_adds served few_first few_second writes)

    first_forgotten : is_remembered q.region s ≡ false
    first_forgotten = ap (is_remembered q.region) puts.one.place ∙ fresh_is_forgotten q.region at BLANK_CLASS BLANK_FORMAT first 0 (first_stays writes)

    second_forgotten : is_remembered q.region t ≡ false
    second_forgotten = ap (is_remembered q.region) puts.two.place ∙ fresh_is_forgotten q.region (at + fresh_words first) BLANK_CLASS BLANK_FORMAT second 0 writes.two

    abbrev after : HeapParts
    after = record before { region = q.region; starts = q.starts; objects = p.objects + 1 + 1 }

    old_after : ArePartsOfHeap after
    old_after = record {
      whole = old_pair_whole served few_first few_second writes;
      map = record {
        starts = pair_starts adds p.starts puts.middle.starts q.starts k.map.starts puts.one.here puts.one.elsewhere puts.two.here puts.two.elsewhere;
        covers = puts.two.covers ∙ puts.one.covers ∙ k.map.covers ∙ sym (puts.two.long ∙ puts.one.long ∙ long);
      };
      free_chunks = record { lists = old_pair_lists served few_first few_second writes };
      objects = record { count = ap (λ m. m + 1 + 1) k.objects.count ∙ sym (pair_count adds (old_pair_whole served few_first few_second writes)) };
      remembered = record { table = table_same (pair_noted adds (served_starts served) first_forgotten second_forgotten) (puts.two.long ∙ puts.one.long ∙ long) k.remembered.table };
      tables = tables_kept p after k.tables (puts.two.long ∙ puts.one.long ∙ long) refl;
    }

    pub old_pair_parts : ArePartsOfHeap q
    old_pair_parts = subst (λ (x : HeapParts). ArePartsOfHeap x) (sym (puts_rest before q at first second s t puts)) old_after

    pub old_pair_made : (heap_room v).eden_left < need → MakesPair v (view_of q) first second s t
    old_pair_made none_left = subst (λ (x : HeapParts). MakesPair v (view_of x) first second s t) (sym (puts_rest before q at first second s t puts))
        (at_places at first second s t puts.one.place puts.two.place (λ a b. MakesPair v (view_of after) first second a b) (old_pair_makes served few_first few_second writes none_left))

  -- ---- in eden

  module _ (left : need ≤ (heap_room v).eden_left)
      (q : HeapParts) (s t : ℕ) (puts : PutsPair (record p { eden_used = p.eden_used + need }) q (p.eden_at + p.eden_used) first second s t) where
    abbrev grown : HeapParts
    grown = record p { eden_used = p.eden_used + need }

    grew : IsGrownPair v puts.middle.region q.region first second
    grew = record {
      whole = k.whole;
      few_first = few_first;
      few_second = few_second;
      fits = eden_fits p k need left;
      writes = puts_writes grown q (p.eden_at + p.eden_used) first second s t puts;
    }

    abbrev then : HeapParts
    then = record grown { region = q.region; starts = q.starts; objects = p.objects + 1 + 1 }

    eden_adds : AddsPair v q.region (view_of then).spaces first second s t
    eden_adds = at_places (p.eden_at + p.eden_used) first second s t puts.one.place puts.two.place (λ a b. AddsPair v q.region (view_of then).spaces first second a b) (eden_pair_adds grew)

    eden_after : ArePartsOfHeap then
    eden_after = record {
      whole = eden_pair_whole grew;
      map = record {
        starts = pair_starts eden_adds p.starts puts.middle.starts q.starts k.map.starts puts.one.here puts.one.elsewhere puts.two.here puts.two.elsewhere;
        covers = puts.two.covers ∙ puts.one.covers ∙ k.map.covers ∙ sym (puts.two.long ∙ puts.one.long);
      };
      free_chunks = record { lists = eden_pair_lists grew p.free k.free_chunks.lists };
      objects = record { count = ap (λ m. m + 1 + 1) k.objects.count ∙ sym (pair_count eden_adds (eden_pair_whole grew)) };
      remembered = record { table = table_same (eden_pair_noted grew) (puts.two.long ∙ puts.one.long) k.remembered.table };
      tables = tables_kept p then k.tables (puts.two.long ∙ puts.one.long) refl;
    }

    pub eden_pair_parts : ArePartsOfHeap q
    eden_pair_parts = subst (λ (x : HeapParts). ArePartsOfHeap x) (sym (puts_rest grown q (p.eden_at + p.eden_used) first second s t puts)) eden_after

    pub eden_pair_made : MakesPair v (view_of q) first second s t
    eden_pair_made = subst (λ (x : HeapParts). MakesPair v (view_of x) first second s t) (sym (puts_rest grown q (p.eden_at + p.eden_used) first second s t puts))
        (at_places (p.eden_at + p.eden_used) first second s t puts.one.place puts.two.place (λ a b. MakesPair v (view_of then) first second a b) (eden_pair_makes grew))
