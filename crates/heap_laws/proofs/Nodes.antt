-- The node of an object under moved places.
use Rattle.std.proofs.Common.{◌≡◌, ℕ, Bool, true, List, map, take, ap, ◌∙◌}
use Rattle.spur_graph.specs.Names.{rename, rename_node}
use Rattle.spur_graph.specs.Cells.{Body, Store, pointer_count, units}
use Rattle.spur_graph.specs.Ordinary.{body_at, is_ordinary}
use Rattle.spur_graph.specs.CellGraph.{read, node_of}
use Rattle.heap_cells.proofs.Bodies.{with_words, pointer_count-same, units-same, pointers_fit}
use Rattle.heap_cells.proofs.References.{ordinary_apart}
use Rattle.heap_laws.specs.Placed.{CanPlace}
use Rattle.heap_laws.proofs.Places.{like-placed}
use Rattle.heap_laws.proofs.Words.{reads-placed}

module _ {p : ℕ → ℕ} {keep : ℕ → Bool} {old new : Store} (k : CanPlace p keep old new) (name name' pp : ℕ → ℕ) (named : (s : ℕ) → keep s ≡ true → is_ordinary old s ≡ true → pp (name s) ≡ name' (p s)) where
  pub node-placed : (s : ℕ) → keep s ≡ true → is_ordinary old s ≡ true → node_of name' new (body_at new (p s)) ≡ rename_node pp (node_of name old (body_at old s))
  unfolding node_of
  node-placed s e o =
      let b : Body = body_at old s in
      let m = k.placed.objects s e in
      let ws : List ℕ = (body_at new (p s)).words in
      let n = ordinary_apart old s o in
      let like = like-placed k s e in
      let count : pointer_count (with_words b ws) ≡ pointer_count b = pointer_count-same b ws like in
      let values : map (read name' new) (take (pointer_count (with_words b ws)) ws) ≡ map (rename pp) (map (read name old) (take (pointer_count b) b.words)) =
      ap (λ i. map (read name' new) (take i ws)) count
      ∙ reads-placed k name name' pp named (pointer_count b) b.words ws (pointers_fit b (k.loadable.formed s (k.placed.some s e))) m.long (m.slots n.1 n.0) in
      let rest : units (with_words b ws) ≡ units b = units-same b ws like (m.units n.1 n.0) in
      let whole : node_of name' new (with_words b ws) ≡ rename_node pp (node_of name old b) = λ i. record (rename_node pp (node_of name old b)) { pointers = values i; units = rest i } in
      ap (node_of name' new) m.head ∙ whole
