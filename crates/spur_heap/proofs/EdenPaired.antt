-- Two fresh objects behind the used eden: the heap is whole, its tables agree with its words, and graph and room are those that the need of both leaves.
use Rattle.std.proofs.Common.{◌≡◌, ℕ, ◌+◌, ◌-◌, ◌≤◌, ◌^◌, List, sym, ap, ◌∙◌, subst, arith, inl, inr}
use Rattle.spur_graph.specs.Room.{Eden, fresh_words, fresh_spot, placed}
use Rattle.spur_graph.specs.Spaces.{old_row}
use Rattle.spur_graph.specs.Heaps.{View, IsWhole, store_of, chunks_of, heap_to, heap_room}
use Rattle.heap_cells.proofs.AddedGraph.{row-has_starts}
use Rattle.heap_cells.proofs.Growing.{grown, new_in, still_in}
use Rattle.heap_cells.proofs.Members.{In}
use Rattle.free_lists.specs.Rows.{free_runs}
use Rattle.free_lists.specs.Lists.{Lists}
use Rattle.free_lists.specs.declared.lists.FreeLists.{FreeLists}
use Rattle.spur_heap.specs.Fresh.{fresh_start, fresh_chunk, IsFreshRun, SameOutside}
use Rattle.spur_heap.specs.Outside.{IsOutside, IsOutsideEden}
use Rattle.spur_heap.specs.Pairing.{MakesPair}
use Rattle.spur_heap.specs.declared.allocation.TheConstants.{BLANK_CLASS, BLANK_FORMAT}
use Rattle.spur_heap.proofs.EdenServed.{IsGrown, served_eden, eden_serves, grows, eden_whole, eden_adds, eden_lists, room_is}
use Rattle.spur_heap.proofs.Figures.{eden_room}
use Rattle.spur_heap.proofs.NotedMade.{eden_noted}
use Rattle.spur_heap.proofs.Orders.{order}
use Rattle.spur_heap.proofs.Paired.{WritesPair, AddsPair, can_blank, outside_both, outside_chunk, pair_made}
use Rattle.spur_heap.proofs.Puts.{whole_sound}
use Rattle.spur_heap.proofs.Tables.{SameNoted}

pub record IsGrownPair (v : View) (mid new : List ℕ) (first second : ℕ) : Type 0 where
  pub whole : IsWhole v
  pub few_first : first ≤ 2 ^ 27
  pub few_second : second ≤ 2 ^ 27
  pub fits : v.spaces.eden_used + (fresh_words first + fresh_words second) ≤ v.limits.eden
  pub writes : WritesPair v.words mid new (v.spaces.eden_at + v.spaces.eden_used) first second

module _ {v : View} {mid new : List ℕ} {first second : ℕ} (k : IsGrownPair v mid new first second) where
  abbrev n : ℕ
  n = fresh_words first

  abbrev m : ℕ
  m = fresh_words second

  abbrev at : ℕ
  at = v.spaces.eden_at + v.spaces.eden_used

  -- the used eden ends behind the first object
  same_place : at + n ≡ v.spaces.eden_at + (v.spaces.eden_used + n)
  same_place = omega (arith)

  one : IsGrown v mid BLANK_CLASS BLANK_FORMAT first
  one = record {
    whole = k.whole;
    can = can_blank first k.few_first;
    fits = let fits = k.fits in omega (arith, fits);
    run = k.writes.one;
    outside = k.writes.outside_one;
    long = k.writes.long_one;
  }

  abbrev middle : View
  middle = record v { words = mid; spaces = grown v.spaces n }

  two : IsGrown middle new BLANK_CLASS BLANK_FORMAT second
  two = record {
    whole = eden_whole one;
    can = can_blank second k.few_second;
    fits = let fits = k.fits in omega (arith, fits);
    run = subst (λ a. IsFreshRun new a BLANK_CLASS BLANK_FORMAT second 0) same_place k.writes.two;
    outside = subst (λ a. SameOutside mid new a m) same_place k.writes.outside_two;
    long = k.writes.long_two;
  }

  abbrev s : ℕ
  s = fresh_start at first

  abbrev t : ℕ
  t = fresh_start (v.spaces.eden_at + (v.spaces.eden_used + n)) second

  -- two steps of the used eden
  abbrev then : View
  then = record v { words = new; spaces = grown (grown v.spaces n) m }

  adds : AddsPair v new (grown (grown v.spaces n) m) first second s t
  adds = record {
    whole = k.whole;
    few_first = k.few_first;
    few_second = k.few_second;
    middle = store_of middle;
    has = row-has_starts heap_to mid (chunks_of middle);
    one = eden_adds one;
    two = eden_adds two;
    long = k.writes.long_two ∙ k.writes.long_one;
  }

  left : n + m ≤ (heap_room v).eden_left
  left = let e = eden_room v k.whole in let fits = k.fits in omega (arith, e, fits)

  room_after : heap_room then ≡ placed (placed (served_eden v (n + m)).room s (fresh_spot Eden first)) t (fresh_spot Eden second)
  room_after =
      let less : (heap_room v).eden_left - n - m ≡ (heap_room v).eden_left - (n + m) = omega (arith) in
      room_is two ∙ (λ i. placed (record (room_is one i) { eden_left = (room_is one i).eden_left - m }) t (fresh_spot Eden second))
      ∙ ap (λ l. placed (placed (record (heap_room v) { eden_left = l }) s (fresh_spot Eden first)) t (fresh_spot Eden second)) less

  inside : (j : ℕ) → IsOutsideEden v then j → IsOutside then s j × IsOutside then t j
  inside j out =
      let rows = order then (whole_sound then (eden_whole two)) in
      let first_in : In (chunks_of then) (fresh_chunk at first) = still_in (grows two) (fresh_chunk at first) (new_in (grows one)) in (
        outside_chunk then rows (fresh_chunk at first) first_in j (elim out [ inl l ↦ inl l | inr l ↦ inr (omega (arith, l)) ]),
        outside_chunk then rows (fresh_chunk (v.spaces.eden_at + (v.spaces.eden_used + n)) second) (new_in (grows two)) j (elim out [ inl l ↦ inl (omega (arith, l)) | inr l ↦ inr (omega (arith, l)) ]),
      )

  makes : MakesPair v then first second s t
  makes = pair_made adds (served_eden v (n + m)) (eden_serves v (n + m) left) room_after
      (λ j _ out. outside_both k.writes j (elim out [ inl l ↦ inl l | inr l ↦ inr (omega (arith, l)) ])) (λ j _ out. inside j out)

  -- ---- as one step

  same_use : v.spaces.eden_used + n + m ≡ v.spaces.eden_used + (n + m)
  same_use = omega (arith)

  abbrev pub u : View
  u = record v { words = new; spaces = grown v.spaces (n + m) }

  -- the same view where the used eden has grown by so many words
  abbrev with_used : ℕ → View
  with_used used = record v { words = new; spaces = record v.spaces { eden_used = used } }

  pub eden_pair_whole : IsWhole u
  eden_pair_whole = subst (λ used. IsWhole (with_used used)) same_use (eden_whole two)

  pub eden_pair_makes : MakesPair v u first second (fresh_start at first) (fresh_start (at + n) second)
  eden_pair_makes = subst (λ a. MakesPair v u first second s (fresh_start a second)) (sym same_place) (subst (λ used. MakesPair v (with_used used) first second s t) same_use makes)

  pub eden_pair_adds : AddsPair v new u.spaces first second (fresh_start at first) (fresh_start (at + n) second)
  eden_pair_adds = subst (λ a. AddsPair v new u.spaces first second s (fresh_start a second)) (sym same_place) (subst (λ used. AddsPair v new (with_used used).spaces first second s t) same_use adds)

  pub eden_pair_lists : (free : FreeLists) → Lists v.words free (free_runs v.words (old_row v.words v.spaces)) → Lists new free (free_runs new (old_row new u.spaces))
  eden_pair_lists free l = eden_lists two free (eden_lists one free l)

  pub eden_pair_noted : SameNoted v u
  eden_pair_noted = subst (λ used. SameNoted v (with_used used)) same_use (λ x. eden_noted two x ∙ eden_noted one x)
