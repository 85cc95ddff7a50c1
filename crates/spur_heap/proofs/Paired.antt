-- A heap with two fresh objects more, one added after the other: its graph, its values, and the tables beside its words.
use Rattle.std.proofs.Common.{◌≡◌, ◌≢◌, ◌⊎◌, ℕ, true, false, cond, ◌&&◌, ◌+◌, ◌<◌, ◌≤◌, ◌^◌, not, List, length, get_or, refl, sym, ap, ◌∙◌, subst, arith, inl, inr, Some, None}
use Rattle.std.proofs.lemmas.Bool.{false_from_ne_true}
use Rattle.std.proofs.lemmas.List.{length-replicate}
use Rattle.std.specs.Option.{is_some}
use Rattle.std.specs.Ordering.{nat_cmp, eq_by_cmp}
use Rattle.std.specs.Cmp.{nat_cmp_total}
use Rattle.std.specs.FinMap.{FinMap, get, insert, len, len-insert, get-insert}
use Rattle.heap_walk.specs.Starts.{has_start}
use Rattle.heap_walk.specs.declared.starts.StartMap.{StartMap}
use Rattle.object_header.specs.Chunks.{Chunk, InOrder}
use Rattle.spur_graph.specs.Graph.{Graph, with_node}
use Rattle.spur_graph.specs.Node.{Node}
use Rattle.spur_graph.specs.Room.{placed, fresh_spot, fresh_words}
use Rattle.spur_graph.specs.Serve.{Anywhere, Served, serve}
use Rattle.spur_graph.specs.Spaces.{Spaces}
use Rattle.spur_graph.specs.Cells.{Body, Store, Empty, There, body_of, is_start, is_there, pointer_count, is_formed}
use Rattle.spur_graph.specs.CellGraph.{node_of, nodes_of}
use Rattle.spur_graph.specs.Ordinary.{body_at, is_internal, is_good_word, is_ordinary, ordinary_starts}
use Rattle.spur_graph.specs.Heaps.{View, IsWhole, store_of, chunks_of, heap_to, own_name, heap_graph, heap_room, graph_in, names_over}
use Rattle.heap_cells.proofs.Adding.{Adds, added-here, added-other, added-ordinary, apart_there, ordinary-kept, good-kept, reference-kept}
use Rattle.heap_cells.proofs.AddedGraph.{HasStarts, row-has_starts, read-kept, graph-added, node_fresh}
use Rattle.heap_cells.proofs.AddedTwice.{starts_differ}
use Rattle.heap_cells.proofs.Cutting.{stands}
use Rattle.heap_cells.proofs.Finding.{key_same}
use Rattle.heap_cells.proofs.Members.{In, in_list}
use Rattle.heap_cells.proofs.References.{ordinary_there}
use Rattle.heap_cells.proofs.Tables.{get-failing}
use Rattle.spur_heap.specs.Allocating.{CanMake}
use Rattle.spur_heap.specs.Fresh.{fresh_body, IsFreshRun, SameOutside}
use Rattle.spur_heap.specs.Outside.{IsOutside, IsOutsideEden}
use Rattle.spur_heap.specs.Pairing.{MakesPair, blank_node}
use Rattle.spur_heap.specs.Views.{IsOutsideFree}
use Rattle.spur_heap.specs.declared.allocation.TheConstants.{BLANK_CLASS, BLANK_FORMAT}
use Rattle.spur_heap.proofs.Among.{same_place}
use Rattle.spur_heap.proofs.Figures.{node_count}
use Rattle.spur_heap.proofs.FreshNodes.{fresh_is_formed, fresh_slots_good, fresh_names_none, fresh_node_is}
use Rattle.spur_heap.proofs.FreshRuns.{fresh_run_kept}
use Rattle.spur_heap.proofs.Made.{starts_made}

-- ---- an object to be filled

abbrev pub blank_body : ℕ → Body
blank_body slots = fresh_body BLANK_CLASS BLANK_FORMAT slots 0

pub can_blank : (slots : ℕ) → slots ≤ 2 ^ 27 → CanMake BLANK_CLASS BLANK_FORMAT slots
can_blank slots few = record {
  index = omega arith;
  no_free = λ e. omega (arith, e);
  no_bridge = λ e. omega (arith, e);
  no_forwarder = λ e. omega (arith, e);
  formed = inr (omega arith, omega arith);
  room = λ _. refl;
  few = omega (arith, few);
}

module _ (slots : ℕ) (few : slots ≤ 2 ^ 27) where
  pub blank_formed : is_formed (blank_body slots) ≡ true
  blank_formed = fresh_is_formed BLANK_CLASS BLANK_FORMAT slots 0 (can_blank slots few)

  pub blank_slots_good : (h : Store) (i : ℕ) → i < pointer_count (blank_body slots) → is_good_word h (get_or (blank_body slots).words i 0) ≡ true
  blank_slots_good h = fresh_slots_good BLANK_CLASS BLANK_FORMAT slots 0 (can_blank slots few) h (λ low. absurd (omega (arith, low)))

  pub blank_names_none : (end : ℕ) → names_over end (There (blank_body slots)) ≡ false
  blank_names_none end = fresh_names_none BLANK_CLASS BLANK_FORMAT slots 0 (can_blank slots few) end (λ low. absurd (omega (arith, low)))

  blank_node_is : (g : Graph) (h : Store) → node_of own_name h (blank_body slots) ≡ blank_node g slots
  blank_node_is g h = fresh_node_is BLANK_CLASS BLANK_FORMAT slots 0 (can_blank slots few) h g.nil (λ low. absurd (omega (arith, low))) (λ high. refl)

-- ---- the words of both

-- an object to be filled is written at the run from `at` on, and another one behind it
pub record WritesPair (words mid new : List ℕ) (at first second : ℕ) : Type 0 where
  pub one : IsFreshRun mid at BLANK_CLASS BLANK_FORMAT first 0
  pub outside_one : SameOutside words mid at (fresh_words first)
  pub long_one : length mid ≡ length words
  pub two : IsFreshRun new (at + fresh_words first) BLANK_CLASS BLANK_FORMAT second 0
  pub outside_two : SameOutside mid new (at + fresh_words first) (fresh_words second)
  pub long_two : length new ≡ length mid

module _ {words mid new : List ℕ} {at first second : ℕ} (k : WritesPair words mid new at first second) where
  pub first_stays : IsFreshRun new at BLANK_CLASS BLANK_FORMAT first 0
  first_stays = fresh_run_kept mid new at BLANK_CLASS BLANK_FORMAT first 0 k.one (λ j low high. k.outside_two j (inl high))

  pub outside_both : SameOutside words new at (fresh_words first + fresh_words second)
  outside_both j out = elim out [
    | inl l ↦ k.outside_two j (inl (omega (arith, l))) ∙ k.outside_one j (inl l)
    | inr l ↦ k.outside_two j (inr (omega (arith, l))) ∙ k.outside_one j (inr (omega (arith, l)))
  ]

-- a word outside the chunk of a start is outside what starts there
pub outside_chunk : (v : View) → InOrder v.words 0 (length v.words) (chunks_of v) → (c : Chunk) → In (chunks_of v) c → (j : ℕ) → (j < c.at) ⊎ (c.at + c.size ≤ j) → IsOutside v c.start j
outside_chunk v rows c m j out d there start =
    let own = (stands v.words 0 (length v.words) (chunks_of v) c rows m).lies in
    let other = (stands v.words 0 (length v.words) (chunks_of v) d rows (in_list (chunks_of v) d there)).lies in
    let same : c ≡ d = same_place v.words 0 (length v.words) (chunks_of v) c d c.start rows m (in_list (chunks_of v) d there) own.lead (omega (arith, own.room)) (omega (arith, other.lead, start)) (omega (arith, other.room, start)) in
    subst (λ (x : Chunk). (j < x.at) ⊎ (x.at + x.size ≤ j)) same out

-- ---- both are there

pub record AddsPair (v : View) (new : List ℕ) (sp : Spaces) (first second s t : ℕ) : Type 0 where
  pub whole : IsWhole v
  pub few_first : first ≤ 2 ^ 27
  pub few_second : second ≤ 2 ^ 27
  pub middle : Store
  pub has : HasStarts middle
  pub one : Adds (store_of v) middle s (blank_body first)
  pub two : Adds middle (store_of (record v { words = new; spaces = sp })) t (blank_body second)
  pub long : length new ≡ length v.words

module _ {v : View} {new : List ℕ} {sp : Spaces} {first second s t : ℕ} (k : AddsPair v new sp first second s t) where
  abbrev u : View
  u = record v { words = new; spaces = sp }

  abbrev node_s : Node
  node_s = blank_node (heap_graph v) first

  abbrev node_t : Node
  node_t = blank_node (heap_graph v) second

  apart : s ≢ t
  apart = starts_differ k.one k.two

  has_old : HasStarts (store_of v)
  has_old = row-has_starts heap_to v.words (chunks_of v)

  has_new : HasStarts (store_of u)
  has_new = row-has_starts heap_to new (chunks_of u)

  graph_is : heap_graph u ≡ with_node (with_node (heap_graph v) s node_s) t node_t
  graph_is =
      ap (graph_in (store_of u) v.special v.handles v.mourners v.hash) k.long
      ∙ graph-added k.two k.has has_new v.special v.handles v.mourners v.hash (length v.words) (reference-kept k.one v.special k.whole.special_there) (λ h w e. good-kept k.one w (k.whole.held h w e))
      ∙ (λ i. with_node (graph-added k.one has_old k.has v.special v.handles v.mourners v.hash (length v.words) k.whole.special_there (λ h w e. k.whole.held h w e) i) t (blank_node_is second k.few_second (heap_graph v) (store_of u) i))
      ∙ ap (λ n. with_node (with_node (heap_graph v) s n) t node_t) (blank_node_is first k.few_first (heap_graph v) k.middle)

  fresh_second : get (heap_graph v).nodes t ≡ None
  unfolding nodes_of ordinary_starts
  fresh_second =
      let empty : (store_of v).cell t ≡ Empty = sym (added-other k.one t (λ e. apart (sym e))) ∙ k.two.empty in
      get-failing (is_ordinary (store_of v)) (λ x. node_of own_name (store_of v) (body_at (store_of v) x)) (store_of v).starts t (ap (λ c. is_there c && not (is_internal (store_of v) t)) empty)

  first_there : is_ordinary (store_of u) s ≡ true
  first_there = ordinary-kept k.two s (added-ordinary k.one)

  first_body : body_at (store_of u) s ≡ blank_body first
  first_body = ap body_of (added-other k.two s apart) ∙ ap body_of (added-here k.one)

  second_body : body_at (store_of u) t ≡ blank_body second
  second_body = ap body_of (added-here k.two)

  body_kept : (x : ℕ) → is_ordinary (store_of v) x ≡ true → body_at (store_of u) x ≡ body_at (store_of v) x
  body_kept x on =
      let there = ordinary_there (store_of v) x on in
      let still = ordinary_there k.middle x (ordinary-kept k.one x on) in
      ap body_of (added-other k.two x (apart_there k.two x still)) ∙ ap body_of (added-other k.one x (apart_there k.one x there))

  pub pair_made : (served : Served) → serve Anywhere (heap_room v) (fresh_words first + fresh_words second) ≡ Some served
      → heap_room u ≡ placed (placed served.room s (fresh_spot served.space first)) t (fresh_spot served.space second)
      → ((j : ℕ) → IsOutsideFree v j → IsOutsideEden v u j → get_or new j 0 ≡ get_or v.words j 0)
      → ((j : ℕ) → IsOutsideFree v j → IsOutsideEden v u j → IsOutside u s j × IsOutside u t j) → MakesPair v u first second s t
  pair_made served serves room others inside = record {
    served = served;
    serves = serves;
    apart = apart;
    fresh_first = node_fresh k.one has_old k.has;
    fresh_second = fresh_second;
    graph = graph_is;
    room = room;
    there_first = first_there;
    there_second = added-ordinary k.two;
    node_first = ap (node_of own_name (store_of u)) first_body ∙ blank_node_is first k.few_first (heap_graph v) (store_of u);
    node_second = ap (node_of own_name (store_of u)) second_body ∙ blank_node_is second k.few_second (heap_graph v) (store_of u);
    slots_first = ap (λ (b : Body). length b.words) first_body ∙ length-replicate first 0;
    slots_second = ap (λ (b : Body). length b.words) second_body ∙ length-replicate second 0;
    values = λ w good. read-kept k.two w (good-kept k.one w good) ∙ read-kept k.one w good;
    goods = λ w good. good-kept k.two w (good-kept k.one w good);
    ordinary = λ x on. ordinary-kept k.two x (ordinary-kept k.one x on);
    bodies = body_kept;
    rest = refl;
    others = others;
    inside = inside;
  }

  -- two ordinary objects more
  pub pair_count : IsWhole u → length (ordinary_starts (store_of u)) ≡ length (ordinary_starts (store_of v)) + 1 + 1
  pair_count whole =
      let nodes : FinMap nat_cmp Node = (heap_graph v).nodes in
      let off : eq_by_cmp nat_cmp t s ≡ false = false_from_ne_true _ (λ on. apart (sym (key_same t s on))) in
      let free : get (insert nodes s node_s) t ≡ None = get-insert nat_cmp_total nodes s node_s t ∙ ap (λ b. cond b (Some node_s) (get nodes t)) off ∙ fresh_second in
      let more : len (insert nodes s node_s) ≡ len nodes + 1 = len-insert nat_cmp_total nodes s node_s ∙ ap (λ o. cond (is_some o) (len nodes) (len nodes + 1)) (node_fresh k.one has_old k.has) in
      sym (node_count u whole) ∙ ap (λ (g : Graph). len g.nodes) graph_is
      ∙ len-insert nat_cmp_total (insert nodes s node_s) t node_t ∙ ap (λ o. cond (is_some o) (len (insert nodes s node_s)) (len (insert nodes s node_s) + 1)) free
      ∙ ap (λ n. n + 1) (more ∙ ap (λ n. n + 1) (node_count v k.whole))

  -- two starts more are in the map
  pub pair_starts : (map mid then : StartMap) → ((x : ℕ) → has_start map x ≡ is_start ((store_of v).cell x)) → has_start mid s ≡ true → ((x : ℕ) → x ≢ s → has_start mid x ≡ has_start map x)
      → has_start then t ≡ true → ((x : ℕ) → x ≢ t → has_start then x ≡ has_start mid x) → (x : ℕ) → has_start then x ≡ is_start ((store_of u).cell x)
  pair_starts map mid then was here others there rest = starts_made k.two mid then (starts_made k.one map mid was here others) there rest
