-- The parts of a heap once an object is made: they stand for a heap, which is the one before with the object.
use Rattle.std.proofs.Common.{◌≡◌, ℕ, ◌+◌, ◌<◌, ◌≤◌, ◌^◌, List, length, get_or, refl, sym, ap, ◌∙◌, subst, arith, Some, None, Option, MatchOption}
use Rattle.heap_walk.specs.Starts.{has_start}
use Rattle.spur_graph.specs.Room.{fresh_words}
use Rattle.spur_graph.specs.Serve.{Anywhere, OldAlone, serve}
use Rattle.spur_graph.specs.Spaces.{old_row}
use Rattle.spur_graph.specs.Heaps.{View, heap_room}
use Rattle.free_lists.specs.Rows.{free_runs}
use Rattle.free_lists.specs.Lists.{IsOutside, Takes}
use Rattle.free_lists.specs.declared.lists.FreeLists.{FreeLists}
use Rattle.spur_heap.specs.declared.heap.HeapParts.{HeapParts}
use Rattle.spur_heap.specs.Parts.{view_of, ArePartsOfHeap}
use Rattle.spur_heap.specs.Fresh.{fill_word, PutsObject, IsFreshRun}
use Rattle.spur_heap.specs.Allocating.{CanMake, Makes}
use Rattle.spur_heap.proofs.EdenServed.{IsGrown, eden_whole, eden_adds, eden_lists, eden_count, eden_made, made_anywhere, old_has_to}
use Rattle.spur_heap.proofs.FewObjects.{half_ordinary}
use Rattle.spur_heap.proofs.FreshRuns.{fresh_is_forgotten}
use Rattle.spur_heap.proofs.Noted.{table_same}
use Rattle.spur_heap.proofs.NotedMade.{made_noted, eden_noted, served_starts}
use Rattle.spur_heap.proofs.Made.{starts_made}
use Rattle.spur_heap.proofs.OldServed.{old_whole, old_adds, old_lists, old_count, old_made}
use Rattle.spur_heap.proofs.Needs.{eden_fits}
use Rattle.spur_heap.proofs.Puts.{whole_sound}
use Rattle.spur_heap.proofs.Served.{IsServed}
use Rattle.spur_heap.proofs.Tables.{tables_kept}

pub few_objects : (p : HeapParts) → ArePartsOfHeap p → p.objects < 2 ^ 27
few_objects p k =
    let half = half_ordinary (view_of p) (whole_sound (view_of p) k.whole) in
    let few = k.whole.few in
    let count = k.objects.count in
    omega (arith, half, few, count)

module _ (p : HeapParts) (k : ArePartsOfHeap p) (class format slots : ℕ) (can : CanMake class format slots) where
  abbrev v : View
  v = view_of p

  abbrev runs : List (ℕ × ℕ)
  runs = free_runs p.region (old_row v.words v.spaces)

  -- ---- in old space

  module _ (mid : List ℕ) (free' : FreeLists) (at : ℕ) (takes : Takes mid free' runs (fresh_words slots) at) (long : length mid ≡ length p.region)
      (others : (j : ℕ) → IsOutside runs j → get_or mid j 0 ≡ get_or p.region j 0) (word : ℕ) (word_is : word ≡ fill_word v format) (q : HeapParts) (s : ℕ)
      (puts : PutsObject (record p { region = mid; free = free' }) q at class format slots word s) where
    served : IsServed v p.free free' mid q.region at (fresh_words slots)
    served = record {
      whole = k.whole;
      lists = k.free_chunks.lists;
      takes = takes;
      others = others;
      mid_long = long;
      outside = puts.others;
      long = puts.long;
    }

    run : IsFreshRun q.region at class format slots (fill_word v format)
    run = subst (λ w. IsFreshRun q.region at class format slots w) word_is puts.run

    abbrev after : HeapParts
    after = record p { region = q.region; free = free'; starts = q.starts; objects = p.objects + 1 }

    old_after : ArePartsOfHeap after
    old_after = record {
      whole = old_whole served can run;
      map = record {
        starts = starts_made (old_adds served can run) p.starts q.starts k.map.starts
            (ap (has_start q.starts) (sym puts.place) ∙ puts.here) (λ t n. puts.elsewhere t (λ e. n (e ∙ puts.place)));
        covers = puts.covers ∙ k.map.covers ∙ sym (puts.long ∙ long);
      };
      free_chunks = record { lists = old_lists served can run };
      objects = record { count = ap (λ m. m + 1) k.objects.count ∙ sym (old_count served can run) };
      remembered = record {
        table = table_same (made_noted v (view_of after) (old_adds served can run) (served_starts served) (fresh_is_forgotten q.region at class format slots (fill_word v format) run)) (puts.long ∙ long) k.remembered.table;
      };
      tables = tables_kept p after k.tables (puts.long ∙ long) refl;
    }

    pub old_parts : ArePartsOfHeap q
    old_parts = subst (λ (x : HeapParts). ArePartsOfHeap x) (sym puts.rest) old_after

    pub old_makes : Makes v (view_of q) OldAlone class format slots s
    old_makes = subst (λ (x : HeapParts). Makes v (view_of x) OldAlone class format slots s) (sym puts.rest) (subst (λ t. Makes v (view_of after) OldAlone class format slots t) (sym puts.place) (old_made served can run))

  -- ---- in eden

  module _ (left : fresh_words slots ≤ (heap_room v).eden_left)
      (word : ℕ) (word_is : word ≡ fill_word v format) (q : HeapParts) (s : ℕ)
      (puts : PutsObject (record p { eden_used = p.eden_used + fresh_words slots }) q (p.eden_at + p.eden_used) class format slots word s) where
    grew : IsGrown v q.region class format slots
    grew = record {
      whole = k.whole;
      can = can;
      fits = eden_fits p k (fresh_words slots) left;
      run = subst (λ w. IsFreshRun q.region (p.eden_at + p.eden_used) class format slots w) word_is puts.run;
      outside = puts.others;
      long = puts.long;
    }

    abbrev then : HeapParts
    then = record p { region = q.region; eden_used = p.eden_used + fresh_words slots; starts = q.starts; objects = p.objects + 1 }

    eden_after : ArePartsOfHeap then
    eden_after = record {
      whole = eden_whole grew;
      map = record {
        starts = starts_made (eden_adds grew) p.starts q.starts k.map.starts
            (ap (has_start q.starts) (sym puts.place) ∙ puts.here) (λ t n. puts.elsewhere t (λ e. n (e ∙ puts.place)));
        covers = puts.covers ∙ k.map.covers ∙ sym puts.long;
      };
      free_chunks = record { lists = eden_lists grew p.free k.free_chunks.lists };
      objects = record { count = ap (λ m. m + 1) k.objects.count ∙ sym (eden_count grew) };
      remembered = record { table = table_same (eden_noted grew) puts.long k.remembered.table };
      tables = tables_kept p then k.tables puts.long refl;
    }

    pub eden_parts : ArePartsOfHeap q
    eden_parts = subst (λ (x : HeapParts). ArePartsOfHeap x) (sym puts.rest) eden_after

    pub eden_makes : Makes v (view_of q) Anywhere class format slots s
    eden_makes = subst (λ (x : HeapParts). Makes v (view_of x) Anywhere class format slots s) (sym puts.rest) (subst (λ t. Makes v (view_of then) Anywhere class format slots t) (sym puts.place) (eden_made grew))

-- nothing was taken
pub untaken : (p : HeapParts) (words : List ℕ) (free : FreeLists) → words ≡ p.region → free ≡ p.free → record p { region = words; free = free } ≡ p
untaken p words free a b = λ i. record p { region = a i; free = b i }

-- where eden has too few words left, what old space makes is what is made anywhere
pub anywhere_told : (v u : View) (class format slots : ℕ) → (heap_room v).eden_left < fresh_words slots → (r : Option ℕ)
    → MatchOption r (serve OldAlone (heap_room v) (fresh_words slots) ≡ None) (Makes v u OldAlone class format slots)
    → MatchOption r (serve Anywhere (heap_room v) (fresh_words slots) ≡ None) (Makes v u Anywhere class format slots)
anywhere_told v u class format slots l None none = old_has_to v (fresh_words slots) l ∙ none
anywhere_told v u class format slots l (Some s) k = made_anywhere v u class format slots s l k
