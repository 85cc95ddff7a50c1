-- A fresh object behind the used eden: the heap is whole, its tables agree with its words, and graph and room are those that the need leaves.
use Rattle.std.proofs.Common.{◌≡◌, ◌≢◌, ℕ, cond, ◌+◌, ◌-◌, ◌<◌, ◌≤◌, List, ◌++◌, length, refl, sym, ap, ◌∙◌, subst, arith, inl, Some}
use Rattle.std.proofs.lemmas.Bool.{false≢true, le-leb, lt-leb}
use Rattle.std.specs.List.{filter}
use Rattle.object_header.specs.Chunks.{Chunk}
use Rattle.spur_graph.specs.Cells.{Body}
use Rattle.spur_graph.specs.Room.{Eden, fresh_words, fresh_spot, placed}
use Rattle.spur_graph.specs.Serve.{Anywhere, OldAlone, Served, serve, serve_old}
use Rattle.spur_graph.specs.HeapRoom.{spot_in, room_in}
use Rattle.spur_graph.specs.Spaces.{old_row, eden_row, past_row, young_row}
use Rattle.spur_graph.specs.Ordinary.{is_ordinary, ordinary_starts}
use Rattle.spur_graph.specs.Heaps.{View, IsWhole, store_of, chunks_of, heap_room}
use Rattle.heap_cells.specs.Rows.{starts_of}
use Rattle.heap_cells.proofs.AddedRoom.{room-grown, count-grown}
use Rattle.heap_cells.proofs.Adding.{Adds}
use Rattle.heap_cells.proofs.Cutting.{stands, cuts-in_order}
use Rattle.heap_cells.proofs.Growing.{Grows, grown, old_same, past_same, eden_more, rows_more, rows_before, same_header, same_words}
use Rattle.heap_cells.proofs.Members.{In, in_list, in_left}
use Rattle.free_lists.specs.Rows.{free_runs}
use Rattle.free_lists.specs.Rows as lists
use Rattle.free_lists.specs.Lists.{Lists}
use Rattle.free_lists.specs.declared.lists.FreeLists.{FreeLists}
use Rattle.free_lists.proofs.Given.{keeps_lists}
use Rattle.spur_heap.specs.Fresh.{fresh_start, fresh_chunk, fresh_body, fill_word, IsFreshRun, SameOutside}
use Rattle.spur_heap.specs.Allocating.{CanMake, Makes, KeepsObjects}
use Rattle.spur_heap.proofs.Figures.{eden_room}
use Rattle.spur_heap.proofs.FreeRuns.{covered_by, free_runs_same}
use Rattle.spur_heap.proofs.FreshNodes.{fresh_is_formed, fresh_slots_good}
use Rattle.spur_heap.proofs.FreshRuns.{fresh_is_chunk, fresh_is_there, fresh_has_bits, fresh_is_forgotten}
use Rattle.spur_heap.proofs.Grown.{IsMade, made, made_whole, apart}
use Rattle.spur_heap.proofs.Grown as growing
use Rattle.spur_heap.proofs.Made.{fill_good, object_made}
use Rattle.spur_heap.proofs.OldServed.{overflow_is}

-- what eden has left serves, or old space has to
module _ (v : View) (n : ℕ) where
  abbrev pub served_eden : Served
  served_eden = record { space = Eden; room = record (heap_room v) { eden_left = (heap_room v).eden_left - n } }

  pub eden_serves : n ≤ (heap_room v).eden_left → serve Anywhere (heap_room v) n ≡ Some served_eden
  unfolding serve
  eden_serves l = ap (λ b. cond b (Some served_eden) (serve_old (heap_room v) n)) (le-leb n (heap_room v).eden_left l)

  pub old_has_to : (heap_room v).eden_left < n → serve Anywhere (heap_room v) n ≡ serve OldAlone (heap_room v) n
  unfolding serve
  old_has_to l = ap (λ b. cond b (Some served_eden) (serve_old (heap_room v) n)) (lt-leb n (heap_room v).eden_left l)

pub made_anywhere : (v u : View) (class format slots s : ℕ) → (heap_room v).eden_left < fresh_words slots → Makes v u OldAlone class format slots s → Makes v u Anywhere class format slots s
made_anywhere v u class format slots s l k = record {
  served = k.served;
  serves = old_has_to v (fresh_words slots) l ∙ k.serves;
  fresh = k.fresh;
  graph = k.graph;
  room = k.room;
  there = k.there;
  node = k.node;
  values = k.values;
  goods = k.goods;
  ordinary = k.ordinary;
  rest = k.rest;
  spaces = k.spaces;
  objects = k.objects;
}

-- ---- an object was written behind the used eden

pub record IsGrown (v : View) (new : List ℕ) (class format slots : ℕ) : Type 0 where
  pub whole : IsWhole v
  pub can : CanMake class format slots
  pub fits : v.spaces.eden_used + fresh_words slots ≤ v.limits.eden
  pub run : IsFreshRun new (v.spaces.eden_at + v.spaces.eden_used) class format slots (fill_word v format)
  pub outside : SameOutside v.words new (v.spaces.eden_at + v.spaces.eden_used) (fresh_words slots)
  pub long : length new ≡ length v.words

module _ {v : View} {new : List ℕ} {class format slots : ℕ} (k : IsGrown v new class format slots) where
  abbrev pub at : ℕ
  at = v.spaces.eden_at + v.spaces.eden_used

  abbrev pub s : ℕ
  s = fresh_start at slots

  abbrev pub c : Chunk
  c = fresh_chunk at slots

  abbrev pub b : Body
  b = fresh_body class format slots (fill_word v format)

  abbrev pub u : View
  u = record v { words = new; spaces = grown v.spaces (fresh_words slots) }

  abbrev O : List Chunk
  O = old_row v.words v.spaces

  abbrev E : List Chunk
  E = eden_row v.words v.spaces

  abbrev P : List Chunk
  P = past_row v.words v.spaces

  pub inside : at + fresh_words slots ≤ length new
  inside =
      let x = k.whole.spaces.first_behind in
      let y = k.whole.spaces.second_behind in
      let z = k.whole.spaces.last in
      omega (arith, k.fits, k.long, x, y, z)

  pub grows : Grows v.words new v.limits v.spaces c
  grows = record {
    spaces = k.whole.spaces;
    rows = k.whole.rows;
    long = k.long;
    fits = k.fits;
    chunk = fresh_is_chunk new at class format slots (fill_word v format) k.run;
    same = k.outside;
  }

  is_made : IsMade v new c b
  is_made = record {
    grows = grows;
    there = fresh_is_there new at class format slots (fill_word v format) k.run inside k.can.no_free k.can.no_forwarder;
    formed = fresh_is_formed class format slots (fill_word v format) k.can;
    slots = fresh_slots_good class format slots (fill_word v format) k.can (store_of v) (fill_good v k.whole format);
    bits = fresh_has_bits new at class format slots (fill_word v format) k.run v.phase;
    forgotten = fresh_is_forgotten new at class format slots (fill_word v format) k.run;
    mobile = refl;
    form = (refl, overflow_is at slots);
  }

  pub eden_whole : IsWhole u
  eden_whole = made_whole v new c b is_made k.whole

  pub eden_adds : Adds (store_of v) (store_of u) s b
  eden_adds = growing.adds v new c b is_made k.whole

  away : (d : Chunk) → In (O ++ (E ++ P)) d → d.start ≢ s
  away d m = apart v new c b is_made k.whole d m

  pub room_is : heap_room u ≡ placed (served_eden v (fresh_words slots)).room s (fresh_spot Eden slots)
  room_is =
      let spot : spot_in Eden c ≡ fresh_spot Eden slots = λ i. record { space = Eden; words = fresh_words slots; overflow = overflow_is at slots i } in
      (λ i. room_in (store_of u) (old_same grows i) (eden_more grows i) (past_same grows i) v.spaces.old_end v.limits (v.spaces.eden_used + fresh_words slots) v.spaces.past_used)
      ∙ room-grown eden_adds O E P c refl away v.spaces.old_end v.limits v.spaces.eden_used v.spaces.past_used
      ∙ ap (placed (served_eden v (fresh_words slots)).room s) spot

  pub eden_count : length (ordinary_starts (store_of u)) ≡ length (ordinary_starts (store_of v)) + 1
  unfolding ordinary_starts
  eden_count =
      ap (λ cs. length (filter (is_ordinary (store_of u)) (starts_of cs))) (rows_more grows)
      ∙ count-grown eden_adds O E P c refl away
      ∙ ap (λ cs. length (filter (is_ordinary (store_of v)) (starts_of cs)) + 1) (sym (rows_before grows))

  -- eden has no word of a free chunk
  pub eden_lists : (free : FreeLists) → Lists v.words free (free_runs v.words O) → Lists new free (free_runs new (old_row new (grown v.spaces (fresh_words slots))))
  eden_lists free l =
      let runs_are : free_runs new (old_row new (grown v.spaces (fresh_words slots))) ≡ free_runs v.words O =
      ap (free_runs new) (old_same grows) ∙ free_runs_same v.words new O (λ d m. ap (λ w. lists.is_free w) (same_header grows d (in_left O (young_row v.words v.spaces) d m))) in
      subst (λ rs. Lists new free rs) (sym runs_are) (keeps_lists v.words new free (free_runs v.words O) l k.long (λ j some.
      let h = covered_by v.words O j some in
      let p = stands v.words 0 v.spaces.old_end O h.chunk (cuts-in_order v.words 0 v.spaces.old_end O k.whole.rows.old) h.inside in
      let e = k.whole.spaces.eden_behind in
      k.outside j (inl (omega (arith, h.to, p.lies.before, e)))))

  keeps_objects : KeepsObjects v u
  keeps_objects d j m kept from to = same_words grows d (in_list (chunks_of v) d m) j from to

  pub eden_made : Makes v u Anywhere class format slots s
  eden_made =
      let left : fresh_words slots ≤ (heap_room v).eden_left = let e = eden_room v k.whole in omega (arith, e, k.fits) in
      object_made v k.whole new (grown v.spaces (fresh_words slots)) class format slots s k.can eden_adds k.long Anywhere (served_eden v (fresh_words slots)) (eden_serves v (fresh_words slots) left) room_is (λ old. absurd (false≢true old)) keeps_objects
