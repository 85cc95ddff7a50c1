-- The graph of a store in which one object has another body: its node is another, and every word reads as before.
use Rattle.std.proofs.Common.{◌≡◌, ◌≢◌, ℕ, Bool, true, false, not, arith, ◌&&◌, cond, get_or, List, [], ◌∷◌, map, refl, sym, ap, ◌∙◌}
use Rattle.std.proofs.lemmas.Bool.{and_parts}
use Rattle.std.proofs.lemmas.List.Elements.{filter_agree, filter_passes, recursion_from_All}
use Rattle.std.specs.Option.{unwrap_or}
use Rattle.std.specs.List.{AllByRecursion, filter, range_with_len}
use Rattle.std.specs.Ordering.{nat_cmp}
use Rattle.std.specs.FinMap.{from_entries}
use Rattle.spur_graph.specs.declared.answer.Value.{Value}
use Rattle.spur_graph.specs.declared.answer.Value.TheVariants.{Ref}
use Rattle.spur_graph.specs.Value.{value_of}
use Rattle.spur_graph.specs.Cells.{Body, Store, first, lead, pointers}
use Rattle.spur_graph.specs.Ordinary.{class_limit, is_at, body_at, has_page, entry}
use Rattle.spur_graph.specs.CellGraph.{reference, read, node_of, nodes_of, has_class, classes_of}
use Rattle.spur_graph.specs.Heaps.{handle_values}
use Rattle.heap_cells.proofs.References.{ordinary_there}
use Rattle.heap_laws.specs.Placed.{Outside, graph_under}
use Rattle.scavenge_laws.proofs.Putting.{object-here, object-else}
use Rattle.scavenge_laws.proofs.Rebodied.{Rebodies, rebodied-final, rebodied-lead, rebodied-reference, rebodied-page, rebodied-entry}

module _ {a : ℕ} {b : Body} {old new : Store} (k : Rebodies a b old new) (q : ℕ → ℕ) where
  nil-same : first new 0 ≡ first old 0
  nil-same = (k.put).keeps.firsts 0 (omega arith)

  reference-same : (w : ℕ) → reference q new w ≡ reference q old w
  reference-same w = λ i. cond (rebodied-reference k w i) (Ref (q (unwrap_or (rebodied-lead k w i) (nil-same i)))) (Ref (q (nil-same i)))

  pub read-same : (w : ℕ) → read q new w ≡ read q old w
  unfolding read
  read-same w = λ i. unwrap_or (value_of (λ u. reference-same u i) w) (Ref (q (nil-same i)))

  -- a body has the node that it had
  pub node-same : (c : Body) → node_of q new c ≡ node_of q old c
  unfolding node_of
  node-same c = λ i. record (node_of q old c) { pointers = map (λ w. read-same w i) (pointers c) }

  pub node-else : (s : ℕ) → s ≢ a → node_of q new (body_at new s) ≡ node_of q old (body_at old s)
  node-else s n = ap (node_of q new) (object-else k.put (ordinary_there old a k.ordinary) s n) ∙ node-same (body_at old s)

  pub node-put : node_of q new (body_at new a) ≡ node_of q old b
  node-put = ap (node_of q new) (object-here k.put (ordinary_there old a k.ordinary)) ∙ node-same b

  -- ---- the class table

  has_class-same : (i : ℕ) → has_class new i ≡ has_class old i
  has_class-same i = by (has_page old i) refl
    where
      by : (t : Bool) → has_page old i ≡ t → has_class new i ≡ has_class old i
      by true on = λ x. rebodied-page k i x && not (is_at (nil-same x) ((ap (lead new) (rebodied-entry k i on) ∙ rebodied-lead k (entry old i)) x))
      by false off = ap (λ t. t && not (is_at (first new 0) (lead new (entry new i)))) (rebodied-page k i ∙ off) ∙ sym (ap (λ t. t && not (is_at (first old 0) (lead old (entry old i)))) off)

  values-same : (is : List ℕ) → AllByRecursion (λ i. read q new (entry new i) ≡ read q old (entry old i)) is → map {B = ℕ × Value} (λ i. (i, read q new (entry new i))) is ≡ map {B = ℕ × Value} (λ i. (i, read q old (entry old i))) is
  values-same [] all = refl
  values-same (i ∷ is) all = λ x. entry_of (all.0 x) ∷ values-same is all.1 x
    where
      entry_of : Value → ℕ × Value
      entry_of v = (i, v)

  pub classes-same : classes_of q new ≡ classes_of q old
  unfolding classes_of
  classes-same = by class_limit
    where
      one : (i : ℕ) → has_class old i ≡ true → read q new (entry new i) ≡ read q old (entry old i)
      one i on = ap (read q new) (rebodied-entry k i (and_parts (has_page old i) _ on).0) ∙ read-same (entry old i)

      by : (n : ℕ) → from_entries {R = nat_cmp} (map (λ i. (i, read q new (entry new i))) (filter (has_class new) (range_with_len 0 n))) ≡ from_entries {R = nat_cmp} (map (λ i. (i, read q old (entry old i))) (filter (has_class old) (range_with_len 0 n)))
      by n =
          ap (λ is. from_entries {R = nat_cmp} (map (λ i. (i, read q new (entry new i))) is)) (filter_agree (has_class new) (has_class old) has_class-same (range_with_len 0 n))
          ∙ ap (from_entries {R = nat_cmp}) (values-same (filter (has_class old) (range_with_len 0 n))
          (recursion_from_All (λ i. read q new (entry new i) ≡ read q old (entry old i)) (filter (has_class old) (range_with_len 0 n)) (λ m d l. one (get_or (filter (has_class old) (range_with_len 0 n)) m d) (filter_passes (has_class old) (range_with_len 0 n) m d l))))

  -- ---- the graph, but for its nodes

  pub graph-rebodied : (o : Outside) (hash next : ℕ) → graph_under q new o.special o.held o.groups hash next ≡ record (graph_under q old o.special o.held o.groups hash next) { nodes = nodes_of q new }
  graph-rebodied o hash next =
      let f = (k.put).keeps.firsts in
      let one = f 1 (omega arith) in
      let two = f 2 (omega arith) in
      λ x. record {
        nodes = nodes_of q new;
        nil = q (nil-same x);
        no = q (one x);
        yes = q (two x);
        special = read-same o.special x;
        classes = classes-same x;
        handles = handle_values (λ w. read-same w x) o.held;
        mourners = map (map (λ s. q (rebodied-final k s x))) o.groups;
        hash_state = hash;
        next = next;
      }
