-- A heap with another table of mourners, and a mourner more.
use Rattle.std.proofs.Common.{ℕ, ◌≡◌, ◌≢◌, ◌/◌, ◌<◌, Bool, true, false, eqb, List, [], ◌∷◌, ◌++◌, map, length, sym, ap, ◌∙◌, subst, arith}
use Rattle.std.proofs.lemmas.Bool.{false≢true, eq-eqb}
use Rattle.std.proofs.lemmas.List.{length-map, length_push, map_push}
use Rattle.std.proofs.lemmas.List.Elements.{All-push, All-map}
use Rattle.std.proofs.lemmas.List.Folds.{list_any_at}
use Rattle.std.proofs.lemmas.List.Quantifiers.{all_pairs_push}
use Rattle.std.specs.List.{All, list_any}
use Rattle.spur_graph.specs.Graph.{Graph, AreApart}
use Rattle.spur_graph.specs.Cells.{final}
use Rattle.spur_graph.specs.Ordinary.{is_ordinary}
use Rattle.spur_graph.specs.Refusals.{waits}
use Rattle.spur_graph.specs.Heaps.{View, IsWhole, HasFired, AreMourners, store_of, heap_graph, heap_room, waiting_in, mourners_of}
use Rattle.heap_cells.proofs.Chains.{final-there}
use Rattle.heap_cells.proofs.References.{ordinary_there}
use Rattle.spur_heap.specs.declared.heap.HeapParts.{HeapParts}
use Rattle.spur_heap.specs.Tables.{Parted, begins, start_in, parted}
use Rattle.spur_heap.specs.Mourning.{ChangesTable, added, left}
use Rattle.spur_heap.specs.Parts.{view_of, ArePartsOfHeap}
use Rattle.spur_heap.specs.Words.{body_in}
use Rattle.spur_heap.specs.Views.{IsOrdinary, node_in}
use Rattle.spur_heap.proofs.FewMourners.{few_apart}
use Rattle.spur_heap.proofs.Groups.{waiting_are, groups_some, parted_added, added_named}
use Rattle.spur_heap.proofs.Mourned.{waiting_left, ends}
use Rattle.spur_heap.proofs.Puts.{whole_sound, fields_are}

-- ---- another table

-- the parts of a heap with another table, whose mourners are good
pub table_changed : (p q : HeapParts) → ArePartsOfHeap p → ChangesTable p q → (parted (left q)).front ≡ [] → AreMourners (store_of (view_of p)) (view_of q).mourners → ArePartsOfHeap q
table_changed p q k c front m = subst (λ (r : HeapParts). ArePartsOfHeap r) (sym c.rest) (record {
  whole = record {
    spaces = k.whole.spaces;
    rows = k.whole.rows;
    sound = k.whole.sound;
    inner = k.whole.inner;
    young = k.whole.young;
    bits = k.whole.bits;
    remembered = k.whole.remembered;
    held = k.whole.held;
    special_there = k.whole.special_there;
    mourners = m;
    state_bits = k.whole.state_bits;
    header = k.whole.header;
    few = k.whole.few;
  };
  map = record { starts = k.map.starts; covers = k.map.covers };
  free_chunks = record { lists = k.free_chunks.lists };
  objects = record { count = k.objects.count };
  remembered = record { table = k.remembered.table };
  tables = record {
    taken = c.taken;
    grouped = front;
    mourner_places = let places = k.tables.mourner_places in let same = c.places in omega (arith, places, same);
    mark_places = k.tables.mark_places;
    saved = k.tables.saved;
    some_saved = k.tables.some_saved;
  };
})

-- ---- one mourner more

-- an object that can join the mourners
pub record CanJoin (v : View) (start : ℕ) (first : Bool) : Type 0 where
  pub there : IsOrdinary v start
  pub format : (node_in v start).format ≡ 1
  pub absent : waits (heap_graph v) start ≡ false
  pub some : first ≡ false → v.mourners ≢ []

module _ (v : View) (whole : IsWhole v) (start : ℕ) (first : Bool) (can : CanJoin v start first) where
  stays : final (store_of v) start ≡ start
  stays = final-there (store_of v) start (ordinary_there (store_of v) start can.there)

  fired : HasFired (store_of v) start
  fired = record {
    ordinary = ap (is_ordinary (store_of v)) stays ∙ can.there;
    format = ap (λ t. (body_in v t).format) stays ∙ sym (fields_are v whole start can.there).format ∙ can.format;
  }

  -- where the mourners lead then
  apart : AreApart (map (final (store_of v)) (waiting_in v.mourners) ++ final (store_of v) start ∷ [])
  apart = all_pairs_push (λ a b. a ≢ b) (map (final (store_of v)) (waiting_in v.mourners)) (final (store_of v) start) whole.mourners.apart (λ k d l same.
      false≢true (sym can.absent ∙ ap (λ (ts : List ℕ). list_any (eqb start) ts) (ends v) ∙ list_any_at (eqb start) (map (final (store_of v)) (waiting_in v.mourners)) k d l (eq-eqb start _ (sym (same ∙ stays)))))

  -- mourners that are those before and this one
  joined_mourners : (groups : List (List ℕ)) → All (λ (group : List ℕ). group ≢ []) groups → waiting_in groups ≡ waiting_in v.mourners ++ start ∷ [] → AreMourners (store_of v) groups
  joined_mourners groups some are = record {
    some = some;
    fired = subst (λ (ss : List ℕ). All (HasFired (store_of v)) ss) (sym are) (All-push (HasFired (store_of v)) (waiting_in v.mourners) start whole.mourners.fired fired);
    apart = subst (λ (ss : List ℕ). AreApart ss) (sym (ap (map (final (store_of v))) are ∙ map_push (final (store_of v)) (waiting_in v.mourners) start)) apart;
  }

  -- there are fewer mourners than objects that the words can hold
  pub room_left : length (waiting_in v.mourners) < length v.words / 2
  room_left =
      let ss : List ℕ = map (final (store_of v)) (waiting_in v.mourners) in
      let ordinary : All (λ s. is_ordinary (store_of v) s ≡ true) ss = All-map (λ s. is_ordinary (store_of v) s ≡ true) (final (store_of v)) (waiting_in v.mourners) (λ i d l. (whole.mourners.fired i d l).ordinary) in
      let few = few_apart v (whole_sound v whole) (ss ++ final (store_of v) start ∷ []) apart (All-push (λ s. is_ordinary (store_of v) s ≡ true) ss (final (store_of v) start) ordinary fired.ordinary) in
      let one = length_push ss (final (store_of v) start) in
      let same = length-map (waiting_in v.mourners) (final (store_of v)) in
      omega (arith, few, one, same)

-- an entry more, behind those that are left
pub record Joins (p q : HeapParts) (start : ℕ) (first : Bool) : Type 0 where
  pub heap : ArePartsOfHeap p
  pub can : CanJoin (view_of p) start first
  pub changes : ChangesTable p q
  pub entry : ℕ
  pub starts : start_in entry ≡ start
  pub begins : begins entry ≡ first
  pub is : left q ≡ left p ++ entry ∷ []

module _ {p q : HeapParts} {start : ℕ} {first : Bool} (k : Joins p q start first) where
  joined_parted : parted (left q) ≡ record { front = []; groups = added (view_of p).mourners start first }
  joined_parted =
      ap parted k.is ∙ parted_added (left p) k.entry first k.begins k.can.some
      ∙ (λ x. let r : Parted = record { front = k.heap.tables.grouped x; groups = added (parted (left p)).groups (k.starts x) first } in r)

  front : (parted (left q)).front ≡ []
  front = ap (λ (r : Parted). r.front) joined_parted

  waiting_joined : waiting_in (view_of q).mourners ≡ waiting_in (view_of p).mourners ++ start ∷ []
  waiting_joined =
      waiting_are (left q) front ∙ ap (map start_in) k.is ∙ map_push start_in (left p) k.entry
      ∙ (λ x. sym (waiting_left p k.heap) x ++ k.starts x ∷ [])

  pub joined_parts : ArePartsOfHeap q
  joined_parts = table_changed p q k.heap k.changes front (joined_mourners (view_of p) k.heap.whole start first k.can (view_of q).mourners (groups_some (left q)) waiting_joined)

  pub joined_seen : view_of q ≡ record (view_of p) { mourners = added (view_of p).mourners start first }
  joined_seen = ap view_of k.changes.rest ∙ ap (λ (r : Parted). let u : View = record (view_of p) { mourners = r.groups } in u) joined_parted

  pub joined_graph : heap_graph (view_of q) ≡ record (heap_graph (view_of p)) { mourners = added (heap_graph (view_of p)).mourners start first }
  joined_graph =
      let h = store_of (view_of p) in
      let named : mourners_of h (added (view_of p).mourners start first) ≡ added (mourners_of h (view_of p).mourners) start first =
      added_named (final h) (view_of p).mourners start first ∙ ap (λ a. added (mourners_of h (view_of p).mourners) a first) (stays (view_of p) k.heap.whole start first k.can) in
      ap heap_graph joined_seen ∙ ap (λ ms. let g : Graph = record (heap_graph (view_of p)) { mourners = ms } in g) named

  pub joined_room : heap_room (view_of q) ≡ heap_room (view_of p)
  joined_room = ap heap_room joined_seen
