-- The graph that a store stands for, where each start has a name.
use Rattle.std.specs.Prelude.{ℕ, [], map, Bool, not, if◌then◌else◌, ◌==◌, ◌&&◌}
use Rattle.std.specs.Option.{unwrap_or}
use Rattle.std.specs.List.{filter, range_with_len}
use Rattle.std.specs.Ordering.{nat_cmp}
use Rattle.std.specs.FinMap.{FinMap, from_entries}
use Rattle.spur_graph.specs.declared.answer.Value.{Value}
use Rattle.spur_graph.specs.declared.answer.Value.TheVariants.{Ref}
use Rattle.spur_graph.specs.Value.{value_of}
use Rattle.spur_graph.specs.Node.{Node}
use Rattle.spur_graph.specs.Graph.{Graph, handle_cmp}
use Rattle.spur_graph.specs.Cells.{Body, Store, first, lead, pointers, units}
use Rattle.spur_graph.specs.Ordinary.{is_at, body_at, ordinary_starts, is_good_reference, has_page, entry, class_limit}

-- the value of a word that names a start: the object to which it leads, nil where that is no ordinary object
abbrev pub reference : (ℕ → ℕ) → Store → ℕ → Value
reference name h word = if is_good_reference h word then Ref (name (unwrap_or (lead h word) (first h 0))) else Ref (name (first h 0))

-- the value of a word; one that is no good value reads as nil
unfoldable pub read : (ℕ → ℕ) → Store → ℕ → Value
read name h word = unwrap_or (value_of (reference name h) word) (Ref (name (first h 0)))

-- the node of an object
unfoldable pub node_of : (ℕ → ℕ) → Store → Body → Node
node_of name h b = record {
  class = b.class;
  hash = b.hash;
  format = b.format;
  pointers = map (read name h) (pointers b);
  units = units b;
  pinned = b.pinned == 1;
  readonly = b.readonly == 1;
}

-- the nodes of the ordinary objects
unfoldable pub nodes_of : (ℕ → ℕ) → Store → FinMap nat_cmp Node
nodes_of name h = from_entries (map (λ s. (name s, node_of name h (body_at h s))) (ordinary_starts h))

-- index `i` has a class: its entry does not lead to nil
abbrev pub has_class : Store → ℕ → Bool
has_class h i = has_page h i && not (is_at (first h 0) (lead h (entry h i)))

-- the class table
unfoldable pub classes_of : (ℕ → ℕ) → Store → FinMap nat_cmp Value
classes_of name h = from_entries (map (λ i. (i, read name h (entry h i))) (filter (has_class h) (range_with_len 0 class_limit)))

-- the graph of a store whose special objects word, handles, hash state and next fresh name are these, without mourners
abbrev pub graph_of : (ℕ → ℕ) → Store → ℕ → FinMap handle_cmp Value → ℕ → ℕ → Graph
graph_of name h special handles hash next = record {
  nodes = nodes_of name h;
  nil = name (first h 0);
  no = name (first h 1);
  yes = name (first h 2);
  special = read name h special;
  classes = classes_of name h;
  handles = handles;
  mourners = [];
  hash_state = hash;
  next = next;
}
