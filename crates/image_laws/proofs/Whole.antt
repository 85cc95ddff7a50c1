-- Settled words stand for the bytes.
use Rattle.std.proofs.Common.{◌≡◌, ℕ, ◌+◌, ◌*◌, ◌%◌, ◌^◌, ◌≤◌, List, [], ◌++◌, length, map, get_or, true, refl, sym, ap, ◌∙◌, subst, arith, inl, nat_eq, length-append, Some, None}
use Rattle.std.proofs.lemmas.Bool.{false≢true, eqb-true}
use Rattle.std.proofs.lemmas.List.{length-map, get_or_append_left}
use Rattle.object_header.specs.Fields.{fields_of}
use Rattle.std.specs.List.{Contains}
use Rattle.std.specs.FinMap.{FinMap, get, empty, get-empty}
use Rattle.spur_graph.specs.declared.limits.Limits.{Limits}
use Rattle.spur_graph.specs.ImageFile.{special_word, last_hash}
use Rattle.spur_graph.specs.Segments.{Segment, segments, all_words}
use Rattle.spur_graph.specs.Graph.{Handle, handle_cmp}
use Rattle.spur_graph.specs.Names.{Iso}
use Rattle.spur_graph.specs.Step.{SameRoom}
use Rattle.object_header.specs.Chunks.{Chunk, Cuts, chunks}
use Rattle.spur_graph.specs.Spaces.{Spaces, old_row, young_row, rows, fresh_spaces}
use Rattle.spur_graph.specs.HeapRoom.{room_in}
use Rattle.spur_graph.specs.Cells.{Store}
use Rattle.spur_graph.specs.Ordinary.{is_good_reference}
use Rattle.spur_graph.specs.CellGraph.{graph_of}
use Rattle.spur_graph.specs.CellRoom.{room_of, free_sizes}
use Rattle.spur_graph.specs.ImageCauses.{image_store, most_words}
use Rattle.spur_graph.specs.Heaps.{View, IsClear, IsSound, IsWhole, Stands, heap_store, store_of, chunks_of, graph_in, heap_graph, heap_room, heap_value, own_name}
use Rattle.spur_graph.specs.LoadedGraph.{file_name, past_name, loaded_graph, loaded_room}
use Rattle.heap_cells.specs.Settled.{IsSettled, settled_word}
use Rattle.heap_cells.specs.Rows.{starts_of}
use Rattle.heap_cells.specs.RowWrites.{KeepsChunk}
use Rattle.heap_segments.proofs.Rising.{has_its_address, in_order}
use Rattle.heap_laws.specs.Settling.{AreNames, SameGraph, HaveChunks}
use Rattle.heap_cells.proofs.Both.{Both, start-same}
use Rattle.heap_cells.proofs.Cutting.{stands, row-is, all-in_order}
use Rattle.heap_cells.proofs.Fresh.{below, none-over, longer-settled, room-fresh}
use Rattle.heap_cells.proofs.Internals.{internal-starts}
use Rattle.heap_cells.proofs.Members.{In, in_list}
use Rattle.heap_cells.proofs.References.{ordinary_there}
use Rattle.heap_cells.proofs.Spaced.{empty-row, one-space}
use Rattle.heap_cells.proofs.WholeClosed.{sound_loadable}
use Rattle.heap_cells.proofs.Writing.{row-kept, keeps-same}
use Rattle.heap_cells.proofs.HandleValues.{handle_values-empty}
use Rattle.heap_laws.proofs.Settled.{settled_is_sound, settled_is_good, settled_is_same_graph}
use Rattle.heap_laws.proofs.SameRoom.{settled_is_same_room}
use Rattle.image_laws.specs.Resolved.{IsSame}
use Rattle.image_laws.specs.Whole.{IsLoaded, LoadedIsWhole, IsFile, IsHeapOf, HeapStands, StandsInOrder}
use Rattle.image_laws.proofs.Resolved.{resolved_is_same}
use Rattle.image_laws.proofs.Named.{file_has_names}

none_bound : (h : Handle) (word : ℕ) → get (empty {X = ℕ} {R = handle_cmp}) h ≡ Some word → ⊥
none_bound h word e = let k : None ≡ Some word = sym (get-empty handle_cmp h) ∙ e in let f : ⊥ = cc in f

-- the words of old space tell the same chunks with others behind
module _ (h : Store) (special : ℕ) (front : List ℕ) (v : View) (l : IsLoaded h special front v) where
  abbrev words : List ℕ
  words = front ++ l.rest

  abbrev places : Spaces
  places = fresh_spaces (length front) v.limits

  keeps : (c : Chunk) → In (chunks front) c → KeepsChunk front words c
  keeps c m =
      let s = stands front 0 (length front) (chunks front) c (all-in_order front l.cut) m in
      keeps-same front words c (get_or_append_left front l.rest 0 c.at (omega (arith, s.lies.lead, s.lies.room, s.lies.before))) (get_or_append_left front l.rest 0 c.start (omega (arith, s.lies.room, s.lies.before)))

  front_cut : Cuts words 0 (length front) (chunks front)
  front_cut = row-kept front words 0 (length front) (chunks front) l.cut keeps

  row_is : old_row words places ≡ chunks front
  row_is = row-is words 0 (length front) (chunks front) front_cut

  rows_are : rows words places ≡ chunks front
  rows_are = one-space words places refl refl ∙ row_is

  abbrev new : Store
  new = heap_store words (rows words places)

  settled_here : IsSettled h new
  settled_here = subst (λ cs. IsSettled h (heap_store words cs)) (sym rows_are) (longer-settled h front l.rest l.named l.loadable l.settled l.cut)

  both : Both h new
  both = record { named = l.named; loadable = l.loadable; settled = settled_here }

  sound : IsSound new
  sound = settled_is_sound h new l.named l.loadable settled_here

  fits : h.names ≤ length front
  fits = l.settled.names

  clear_here : (c : Chunk) → Contains (rows words places) c → IsClear (get_or words c.start 0)
  clear_here c m =
      let k = subst (λ (cs : List Chunk). Contains cs c) rows_are m in
      let s = stands front 0 (length front) (chunks front) c (all-in_order front l.cut) (in_list (chunks front) c k) in
      let was : IsClear (get_or front c.start 0) = subst (λ (d : Chunk). IsClear (get_or front d.start 0)) k.2 (l.clear k.0 c k.1) in
      subst (λ w. IsClear w) (sym (get_or_append_left front l.rest 0 c.start (omega (arith, s.lies.room, s.lies.before)))) was

  no_young : (c : Chunk) → Contains (young_row words places) c → ⊥
  no_young c m =
      let none : young_row words places ≡ [] = λ x. empty-row words places.eden_at 0 refl x ++ empty-row words places.past_at 0 refl x in
      let k = subst (λ (cs : List Chunk). Contains cs c) none m in
      omega (arith, k.1)

  abbrev view : View
  view = record v { words = words; spaces = places; mourners = [] }

  long : length words ≡ length front + (v.limits.eden + 2 * v.limits.survivor)
  long = length-append front l.rest ∙ ap (λ n. length front + n) l.behind

  same_view : v ≡ view
  same_view = λ x. record v { words = l.words_are x; spaces = l.spaces_are x; mourners = l.none_mourn x }

  view_whole : IsWhole view
  view_whole = record {
    spaces = record {
      eden_behind = omega arith;
      first_behind = refl;
      second_behind = refl;
      last = omega (arith, long);
      past_is = inl refl;
      eden_fits = omega arith;
      past_fits = omega arith;
    };
    rows = record {
      old = subst (λ cs. Cuts words 0 (length front) cs) (sym row_is) front_cut;
      eden = subst (λ cs. Cuts words places.eden_at (places.eden_at + 0) cs) (sym (empty-row words places.eden_at 0 refl)) (omega arith);
      past = subst (λ cs. Cuts words places.past_at (places.past_at + 0) cs) (sym (empty-row words places.past_at 0 refl)) (omega arith);
      five =
          let five : 5 ≤ length (starts_of (rows words places)) = sound.roots.five in
          let same : rows words places ≡ old_row words places = one-space words places refl refl in
          let long : length (starts_of (rows words places)) ≡ length (old_row words places) = length-map (rows words places) (λ (c : Chunk). c.start) ∙ ap (λ (cs : List Chunk). length cs) same in
          omega (arith, five, long);
    };
    sound = sound;
    inner = λ s e. below both (length front) fits s (sym (start-same both s) ∙ internal-starts new (sound_loadable new sound) s e);
    young = λ c m. absurd (no_young c m);
    bits = λ c m. let k = clear_here c m in record { marked = λ _. k.marked; grey = k.grey; unused = k.unused };
    remembered = record {
      all = λ s low n over. absurd (false≢true (sym (none-over both (length front) fits s n) ∙ over));
      only = λ c m on. let k = clear_here c m in absurd (zero_is_not_one (fields_of (get_or words c.start 0)).remembered k.remembered on);
    };
    held = λ k word e. absurd (none_bound k word (subst (λ (m : FinMap handle_cmp ℕ). get m k ≡ Some word) l.none_held e));
    special_there = ap (is_good_reference new) l.special_word ∙ settled_is_good h new special l.named l.loadable settled_here l.special_there;
    mourners = record { some = λ i d m. absurd (omega arith); fired = λ i d m. absurd (omega arith); apart = λ i j d m n. absurd (omega (arith, m, n)) };
    state_bits = l.state_bits;
    header = l.header;
    few = subst (λ ws. length ws ≤ most_words) l.words_are l.few;
  }
    where
      zero_is_not_one : (n : ℕ) → n ≡ 0 → nat_eq n 1 ≡ true → ⊥
      zero_is_not_one n z e = let one = eqb-true n 1 e in omega (arith, z, one)

  whole : IsWhole v
  whole = subst (λ (u : View). IsWhole u) (sym same_view) view_whole

  -- the headers of its chunks are clear
  pub clear_seen : (c : Chunk) → Contains (chunks_of v) c → IsClear (get_or v.words c.start 0)
  clear_seen = subst (λ (u : View). (c : Chunk) → Contains (chunks_of u) c → IsClear (get_or u.words c.start 0)) (sym same_view) clear_here

  -- the graph of a view without handles and mourners
  view_graph : (special' hash : ℕ) → v.special ≡ special' → v.hash ≡ hash → heap_graph v ≡ graph_of own_name (store_of v) special' empty hash (length v.words)
  view_graph special' hash is state =
      (λ i. graph_in (store_of v) (is i) (l.none_held i) (l.none_mourn i) (state i) (length v.words))
      ∙ ap (λ m. graph_of own_name (store_of v) special' m hash (length v.words)) (handle_values-empty (heap_value v))

  settled_seen : IsSettled h (store_of v)
  settled_seen = subst (λ (u : View). IsSettled h (store_of u)) (sym same_view) settled_here

  chunks_seen : chunks_of v ≡ chunks front
  chunks_seen = ap (λ (u : View). chunks_of u) same_view ∙ rows_are

  room_seen : heap_room v ≡ room_of own_name (store_of v) (chunks front) (length front) v.limits (free_sizes (store_of v) (chunks front))
  room_seen = subst (λ (u : View). heap_room u ≡ room_of own_name (store_of u) (chunks front) (length front) v.limits (free_sizes (store_of u) (chunks front))) (sym same_view)
      ((λ x. room_in new (row_is x) (empty-row words places.eden_at 0 refl x) (empty-row words places.past_at 0 refl x) (length front) v.limits 0 0)
      ∙ room-fresh new (chunks front) (length front) v.limits (λ c m e. ordinary_there new c.start e))

pub loaded_is_whole : LoadedIsWhole
loaded_is_whole = whole

module _ (bytes : List ℕ) (limits : Limits) (mid : Store) (room : List Chunk) (front : List ℕ) (v : View) (f : IsFile bytes (segments bytes) (all_words bytes)) (k : IsHeapOf bytes limits (segments bytes) (all_words bytes) mid room front v) where
  abbrev l : IsLoaded mid (special_word bytes) front v
  l = k.loaded

  now : IsSettled mid (store_of v)
  now = settled_seen mid (special_word bytes) front v l

  same : IsSame (image_store bytes) mid
  same = resolved_is_same (image_store bytes) mid k.resolved f.ends

  names : AreNames mid (file_name bytes)
  names = subst (λ ss. (s t : ℕ) → Contains ss s → Contains ss t → file_name bytes s ≡ file_name bytes t → s ≡ t) (sym same.cells.starts) (file_has_names (segments bytes) (all_words bytes) f.rising f.of f.cut)

  graphs : SameGraph mid (store_of v) (file_name bytes) (special_word bytes) (last_hash bytes % 2 ^ 32) (past_name bytes) (length v.words)
  graphs = settled_is_same_graph mid (store_of v) (file_name bytes) (special_word bytes) (last_hash bytes % 2 ^ 32) (past_name bytes) (length v.words) k.loaded.named k.loaded.loadable now names k.loaded.special_there

  graph : Iso (loaded_graph bytes) (heap_graph v) graphs.p graphs.back
  graph =
      subst (λ g. Iso g (heap_graph v) graphs.p graphs.back) (same.graphs.graph (file_name bytes) (special_word bytes) empty (last_hash bytes % 2 ^ 32) (past_name bytes))
      (subst (λ g. Iso (graph_of (file_name bytes) mid (special_word bytes) empty (last_hash bytes % 2 ^ 32) (past_name bytes)) g graphs.p graphs.back) (sym (view_graph mid (special_word bytes) front v l (settled_word mid (special_word bytes)) (last_hash bytes % 2 ^ 32) k.loaded.special_word k.state)) graphs.iso)

  have : HaveChunks mid (store_of v) (chunks (all_words bytes)) room
  have = record { before = same.cells.starts; after = ap (map (λ (c : Chunk). c.start)) (chunks_seen mid (special_word bytes) front v l ∙ k.row) }

  old_room : room_of (file_name bytes) mid (chunks (all_words bytes)) (length front) v.limits (free_sizes mid (chunks (all_words bytes)) ++ map (λ (c : Chunk). c.size) room) ≡ loaded_room bytes limits
  old_room =
      same.graphs.room (file_name bytes) (chunks (all_words bytes)) (length front) v.limits (free_sizes mid (chunks (all_words bytes)) ++ map (λ (c : Chunk). c.size) room)
      ∙ (λ i. room_of (file_name bytes) (image_store bytes) (chunks (all_words bytes)) (k.long i) (k.within i) (same.graphs.free (chunks (all_words bytes)) i ++ k.sizes i))

  new_room : room_of own_name (store_of v) (chunks (all_words bytes) ++ room) (length front) v.limits (free_sizes (store_of v) (chunks (all_words bytes) ++ room)) ≡ heap_room v
  new_room = ap (λ cs. room_of own_name (store_of v) cs (length front) v.limits (free_sizes (store_of v) cs)) (sym k.row) ∙ sym (room_seen mid (special_word bytes) front v l)

  figures : SameRoom (loaded_room bytes limits) (heap_room v) graphs.p
  figures =
      subst (λ r. SameRoom r (heap_room v) graphs.p) old_room
      (subst (λ r. SameRoom (room_of (file_name bytes) mid (chunks (all_words bytes)) (length front) v.limits (free_sizes mid (chunks (all_words bytes)) ++ map (λ (c : Chunk). c.size) room)) r graphs.p) new_room
      (settled_is_same_room mid (store_of v) (file_name bytes) graphs.p graphs.back (chunks (all_words bytes)) room (length front) v.limits k.loaded.named k.loaded.loadable now have graphs.iso.left graphs.names))

  all_stands : Stands v (loaded_graph bytes) (loaded_room bytes limits)
  all_stands = record {
    whole = loaded_is_whole mid (special_word bytes) front v k.loaded;
    place = graphs.p;
    back = graphs.back;
    graph = graph;
    figures = figures;
  }

  all_in_order : StandsInOrder bytes limits v
  unfolding all_stands
  all_in_order = record {
    stands = all_stands;
    placed = λ a s is there.
        let named = (has_its_address (segments bytes) a s f.rising is).1 in
        ap graphs.p (sym named) ∙ graphs.names s (subst (λ ss. Contains ss s) (sym same.cells.starts) there);
    rising = in_order (segments bytes) f.rising;
  }

pub heap_in_order : (bytes : List ℕ) (limits : Limits) (segs : List Segment) (words : List ℕ) (mid : Store) (room : List Chunk) (front : List ℕ) (v : View) → IsFile bytes segs words → IsHeapOf bytes limits segs words mid room front v
    → StandsInOrder bytes limits v
heap_in_order bytes limits segs words mid room front v f k =
    let es : segs ≡ segments bytes = f.segments_are in
    let ew : words ≡ all_words bytes = f.words_are in
    let f' : IsFile bytes (segments bytes) (all_words bytes) = subst (λ ws. IsFile bytes (segments bytes) ws) ew (subst (λ ss. IsFile bytes ss words) es f) in
    let k' : IsHeapOf bytes limits (segments bytes) (all_words bytes) mid room front v = subst (λ ws. IsHeapOf bytes limits (segments bytes) ws mid room front v) ew (subst (λ ss. IsHeapOf bytes limits ss words mid room front v) es k) in
    all_in_order bytes limits mid room front v f' k'

pub heap_stands : HeapStands
heap_stands bytes limits segs words mid room front v f k = (heap_in_order bytes limits segs words mid room front v f k).stands
