-- A heap with a fresh object more: its graph, its values, and the tables beside its words.
use Rattle.std.proofs.Common.{◌≡◌, ◌≢◌, ℕ, true, cond, ◌<◌, ◌≤◌, List, length, refl, sym, ap, ◌∙◌, arith, inl, inr, Some}
use Rattle.std.proofs.lemmas.Bool.{cases_eq, lt-ltb, le-ltb}
use Rattle.heap_walk.specs.Starts.{has_start}
use Rattle.heap_walk.specs.declared.starts.StartMap.{StartMap}
use Rattle.spur_graph.specs.declared.answer.Value.TheVariants.{Ref}
use Rattle.spur_graph.specs.Graph.{with_node}
use Rattle.spur_graph.specs.Node.{Node}
use Rattle.spur_graph.specs.Room.{placed, fresh_spot, fresh_words, is_old}
use Rattle.spur_graph.specs.Serve.{Source, Served, serve}
use Rattle.spur_graph.specs.Instances.{fresh_node}
use Rattle.spur_graph.specs.Spaces.{Spaces}
use Rattle.spur_graph.specs.Cells.{Body, Store, body_of, first, is_start}
use Rattle.spur_graph.specs.CellGraph.{node_of}
use Rattle.spur_graph.specs.Ordinary.{is_good_word}
use Rattle.spur_graph.specs.Heaps.{View, IsWhole, store_of, chunks_of, heap_to, own_name, heap_graph, heap_room, heap_value, graph_in}
use Rattle.heap_cells.specs.Settled.{word_of}
use Rattle.heap_cells.proofs.Adding.{Adds, added-here, added-other, added-ordinary, ordinary-kept, good-kept}
use Rattle.heap_cells.proofs.AddedGraph.{HasStarts, row-has_starts, read-kept, graph-added, node_fresh}
use Rattle.spur_heap.specs.Fresh.{fresh_body, fill_word}
use Rattle.spur_heap.specs.Allocating.{CanMake, Makes, KeepsObjects}
use Rattle.spur_heap.proofs.FreshNodes.{fresh_node_is}
use Rattle.spur_heap.proofs.Following.{own_value}
use Rattle.spur_heap.proofs.Pages.{outer_good, outer_ordinary}
use Rattle.spur_heap.proofs.Puts.{whole_sound}

-- ---- the word of the slots

module _ (v : View) (whole : IsWhole v) (format : ℕ) where
  pub fill_pointer : format < 6 → fill_word v format ≡ word_of (first (store_of v) 0)
  fill_pointer low = ap (λ b. cond b (word_of (first (store_of v) 0)) 0) (lt-ltb format 6 low)

  pub fill_raw : 9 ≤ format → fill_word v format ≡ 0
  fill_raw high = ap (λ b. cond b (word_of (first (store_of v) 0)) 0) (le-ltb format 6 (omega (arith, high)))

  pub fill_good : format < 6 → is_good_word (store_of v) (fill_word v format) ≡ true
  fill_good low = ap (is_good_word (store_of v)) (fill_pointer low) ∙ outer_good v (whole_sound v whole) 0 (omega arith)

  fill_value : format < 6 → heap_value v (fill_word v format) ≡ Ref (first (store_of v) 0)
  fill_value low = ap (heap_value v) (fill_pointer low) ∙ own_value v (first (store_of v) 0) (outer_ordinary v (whole_sound v whole) 0 (omega arith))

-- ---- the object is there

module _ (v : View) (whole : IsWhole v) (new : List ℕ) (sp : Spaces) (class format slots s : ℕ) (can : CanMake class format slots)
    (adds : Adds (store_of v) (store_of (record v { words = new; spaces = sp })) s (fresh_body class format slots (fill_word v format))) (long : length new ≡ length v.words) where
  abbrev u : View
  u = record v { words = new; spaces = sp }

  abbrev b : Body
  b = fresh_body class format slots (fill_word v format)

  abbrev node : Node
  node = fresh_node (heap_graph v).nil class format slots

  has_old : HasStarts (store_of v)
  has_old = row-has_starts heap_to v.words (chunks_of v)

  has_new : HasStarts (store_of u)
  has_new = row-has_starts heap_to u.words (chunks_of u)

  node_is : node_of own_name (store_of u) b ≡ node
  node_is = fresh_node_is class format slots (fill_word v format) can (store_of u) (first (store_of v) 0)
      (λ low. read-kept adds (fill_word v format) (fill_good v whole format low) ∙ fill_value v whole format low) (fill_raw v whole format)

  graph_is : heap_graph u ≡ with_node (heap_graph v) s node
  graph_is =
      ap (graph_in (store_of u) v.special v.handles v.mourners v.hash) long
      ∙ graph-added adds has_old has_new v.special v.handles v.mourners v.hash (length v.words) whole.special_there (λ h w e. whole.held h w e)
      ∙ ap (with_node (heap_graph v) s) node_is

  pub object_made : (source : Source) (served : Served) → serve source (heap_room v) (fresh_words slots) ≡ Some served → heap_room u ≡ placed served.room s (fresh_spot served.space slots)
      → (is_old served.space ≡ true → sp ≡ v.spaces) → KeepsObjects v u → Makes v u source class format slots s
  object_made source served serves room spaces objects = record {
    served = served;
    serves = serves;
    fresh = node_fresh adds has_old has_new;
    graph = graph_is;
    room = room;
    there = added-ordinary adds;
    node = ap (λ c. node_of own_name (store_of u) (body_of c)) (added-here adds) ∙ node_is;
    values = λ w good. read-kept adds w good;
    goods = λ w good. good-kept adds w good;
    ordinary = λ t on. ordinary-kept adds t on;
    rest = refl;
    spaces = spaces;
    objects = objects;
  }

-- one start more is in the map
pub starts_made : {old new : Store} {s : ℕ} {b : Body} → Adds old new s b → (map then : StartMap) → ((t : ℕ) → has_start map t ≡ is_start (old.cell t)) → has_start then s ≡ true
    → ((t : ℕ) → t ≢ s → has_start then t ≡ has_start map t) → (t : ℕ) → has_start then t ≡ is_start (new.cell t)
starts_made {new = new} {s = s} adds map then was here others t = elim (cases_eq t s) [
  | inl e ↦ ap (has_start then) e ∙ here ∙ sym (ap (λ n. is_start (new.cell n)) e ∙ ap is_start (added-here adds))
  | inr n ↦ others t n ∙ was t ∙ sym (ap is_start (added-other adds t n))
]
