-- The graph of a compacted heap.
use Rattle.std.proofs.Common.{◌≡◌, ℕ, Bool, true, ◌&&◌, length, sym, ap, ◌∙◌, subst}
use Rattle.std.specs.Option.{option_map}
use Rattle.std.specs.FinMap.{get, retain_keys, get-retain_keys, nat_cmp-IsAntisymmetric}
use Rattle.spur_graph.specs.Names.{rename_node}
use Rattle.spur_graph.specs.Cells.{Store}
use Rattle.spur_graph.specs.Ordinary.{is_ordinary}
use Rattle.spur_graph.specs.CellGraph.{nodes_of}
use Rattle.spur_graph.specs.Heaps.{IsWhole, View, is_marked, store_of, own_name}
use Rattle.heap_cells.proofs.References.{ordinary_there}
use Rattle.heap_laws.specs.Compaction.{with_lists}
use Rattle.heap_laws.specs.Instances.{live_objects}
use Rattle.heap_laws.specs.Placed.{kept_nodes}
use Rattle.heap_laws.proofs.Graphs.{kept_by_name}
use Rattle.compaction_laws.specs.Compacting.{IsTight, Compacts, is_mapped}
use Rattle.compaction_laws.specs.Outcomes.{CompactedIsSwept, IsSweptHeap}
use Rattle.compaction_laws.proofs.After.{new, new-is}
use Rattle.compaction_laws.proofs.Moves.{lives, moves_heap}

module _ {p : ℕ → ℕ} {v v' : View} (k : IsWhole v) (t : IsTight v) (c : Compacts p v v') where
  abbrev old : Store
  old = store_of v

  abbrev keep : ℕ → Bool
  keep = live_objects (with_lists (is_mapped v) old) old

  -- an ordinary object is kept where it is marked
  pub keeps-marked : (s : ℕ) → is_ordinary old s ≡ true → keep s ≡ is_marked v.words s
  keeps-marked s on = lives k t c s ∙ ap (λ b. b && is_marked v.words s) (ordinary_there old s on)

  marked-nodes : (a : ℕ) → get (kept_nodes own_name keep old) a ≡ get (retain_keys (nodes_of own_name old) (is_marked v.words)) a
  marked-nodes a =
      kept_by_name keep (is_marked v.words) old own_name a (λ s u m n e. e) keeps-marked
      ∙ sym (get-retain_keys (nodes_of own_name old) (is_marked v.words) a (λ x e. ap (is_marked v.words) (sym (nat_cmp-IsAntisymmetric a x e))))

  swept : IsSweptHeap p v (new k t c)
  swept =
      let m = moves_heap k t c in
      let g = m.graph v.hash (length v.words) (length v'.words) in
      record {
        place = m.place;
        back = m.back;
        graph = record {
          left = g.left;
          right = g.right;
          nodes = λ a. g.nodes a ∙ ap (option_map (rename_node m.place)) (marked-nodes a);
          nil = g.nil;
          no = g.no;
          yes = g.yes;
          special = g.special;
          classes = g.classes;
          handles = g.handles;
          mourners = g.mourners;
          hash_state = g.hash_state;
        };
        named = λ s on o. m.named s (lives k t c s ∙ on) o;
      }

pub compacted_is_swept : CompactedIsSwept
compacted_is_swept p v v' k t c = subst (IsSweptHeap p v) (sym (new-is k t c)) (swept k t c)
