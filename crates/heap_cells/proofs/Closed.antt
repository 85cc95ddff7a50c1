-- The graph of a loadable store is closed.
use Rattle.std.proofs.Common.{◌≡◌, ◌≢◌, ℕ, suc, true, false, not, ◌&&◌, ◌||◌, ◌<◌, ◌≤◌, eqb, ltb, List, [], ◌∷◌, map, get_or, refl, sym, ap, ◌∙◌, subst, arith, inl, inr, Some, None}
use Rattle.std.proofs.lemmas.Bool.{false≢true, cases_Bool, ltb-true, and_parts, or_cases, not-true, not-false}
use Rattle.std.proofs.lemmas.List.Elements.{All-map, All-from_recursion}
use Rattle.std.specs.List.{All, filter, range_with_len}
use Rattle.std.specs.Ordering.{nat_cmp}
use Rattle.std.specs.FinMap.{FinMap, get, from_entries}
use Rattle.spur_graph.specs.declared.answer.Value.{Value}
use Rattle.spur_graph.specs.declared.answer.Value.TheVariants.{Ref}
use Rattle.spur_graph.specs.Value.{IsValue, is_immediate_word}
use Rattle.spur_graph.specs.Names.{rename}
use Rattle.spur_graph.specs.Node.{Node, IsNode}
use Rattle.spur_graph.specs.Graph.{Graph, handle_cmp, HasNode, IsEntered, IsClosed}
use Rattle.spur_graph.specs.Cells.{Store, first, final, lead, is_start, pointers}
use Rattle.spur_graph.specs.Ordinary.{class_limit, is_at, passes, body_at, is_ordinary, ordinary_starts, has_page, entry, has_entry, is_no_index, is_entered}
use Rattle.spur_graph.specs.CellGraph.{read, node_of, nodes_of, has_class, classes_of, graph_of}
use Rattle.heap_cells.specs.Closing.{IsHeld, CanClose, LoadableIsClosed}
use Rattle.heap_cells.proofs.Below.{passed, at-named, mapped_there}
use Rattle.heap_cells.proofs.CellKinds.{there_starts}
use Rattle.heap_cells.proofs.References.{ordinary_there}
use Rattle.heap_cells.proofs.Members.{In, in_list, in_filter, filter_in, in_range}
use Rattle.heap_cells.proofs.Finding.{get-member, get-at}
use Rattle.heap_cells.proofs.Values.{IsFixed, fixed, read-fixed, read-reference, reference-good}
use Rattle.heap_cells.proofs.Noding.{a_node, named_start, read_value}

-- a name of an ordinary object
record IsNameOf (name : ℕ → ℕ) (h : Store) (a : ℕ) : Type 0 where
  start : ℕ
  ordinary : is_ordinary h start ≡ true
  is : name start ≡ a

same_ref : {a b : ℕ} → Ref a ≡ Ref b → a ≡ b
same_ref {a} {b} e = cc

-- an immediate names nothing
not_named : (w a : ℕ) (v : IsFixed w) → v.value ≡ Ref a → ⊥
not_named w a v e =
    let up : suc a ≡ a = same_ref (ap (rename suc) (sym e) ∙ v.same suc ∙ e) in
    omega (arith, up)

-- an entered class, by its parts
record IsClassAt (h : Store) (s : ℕ) : Type 0 where
  ordinary : is_ordinary h s ≡ true
  number : is_no_index (body_at h s).hash ≡ false
  page : has_page h (body_at h s).hash ≡ true
  leads : lead h (entry h (body_at h s).hash) ≡ Some s

class_at : (h : Store) (s : ℕ) → is_entered h s ≡ true → IsClassAt h s
unfolding is_entered
class_at h s e =
    let parts = and_parts (is_ordinary h s && not (is_no_index (body_at h s).hash)) (has_entry h (body_at h s).hash s) e in
    let front = and_parts (is_ordinary h s) (not (is_no_index (body_at h s).hash)) parts.0 in
    let table = and_parts (has_page h (body_at h s).hash) (is_at s (lead h (entry h (body_at h s).hash))) parts.1 in
    record {
      ordinary = front.0;
      number = not-true (is_no_index (body_at h s).hash) front.1;
      page = table.0;
      leads = at-named s (lead h (entry h (body_at h s).hash)) table.1;
    }

-- 0 is no hash of a class
some_hash : (hash : ℕ) → is_no_index hash ≡ false → hash ≡ 0 → ⊥
some_hash hash e z = let zeroth : is_no_index hash ≡ true = ap is_no_index z in false≢true (sym e ∙ zeroth)

module _ (name : ℕ → ℕ) (h : Store) (special : ℕ) (handles : FinMap handle_cmp Value) (hash next : ℕ) (c : CanClose name h special handles hash next) where
  -- ---- the nodes

  outer_ordinary : (k : ℕ) → k < 3 → is_ordinary h (first h k) ≡ true
  outer_ordinary k l = λ i. c.loadable.objects k (omega (arith, l)) i && not (c.outer k l i)

  nil_ordinary : is_ordinary h (first h 0) ≡ true
  nil_ordinary = outer_ordinary 0 (omega arith)

  starts : (s : ℕ) → is_ordinary h s ≡ true → is_start (h.cell s) ≡ true
  starts s e = there_starts (h.cell s) (ordinary_there h s e)

  listed : (s : ℕ) → is_ordinary h s ≡ true → In (ordinary_starts h) s
  unfolding ordinary_starts
  listed s e = in_filter (is_ordinary h) h.starts s (in_list h.starts s (c.inside s (starts s e))) e

  ordinary_of : (s : ℕ) → In (ordinary_starts h) s → is_ordinary h s ≡ true
  unfolding ordinary_starts
  ordinary_of s k = (filter_in (is_ordinary h) h.starts s k).1

  pub node_here : (s : ℕ) → is_ordinary h s ≡ true → get (nodes_of name h) (name s) ≡ Some (node_of name h (body_at h s))
  unfolding nodes_of
  node_here s e = get-at name (λ t. node_of name h (body_at h t)) s (ordinary_starts h)
      (λ t k same. ap (λ u. node_of name h (body_at h u)) (sym (c.once s t (c.inside s (starts s e)) (c.inside t (starts t (ordinary_of t k))) same)))
      (listed s e)

  -- what has a node is ordinary
  record IsFound (a : ℕ) (n : Node) : Type 0 where
    start : ℕ
    ordinary : is_ordinary h start ≡ true
    named : name start ≡ a
    is : node_of name h (body_at h start) ≡ n

  get_there : (a : ℕ) (n : Node) → get (nodes_of name h) a ≡ Some n → IsFound a n
  unfolding nodes_of
  get_there a n e =
      let m = get-member name (λ t. node_of name h (body_at h t)) a (ordinary_starts h) n e in
      record { start = m.0; ordinary = ordinary_of m.0 m.1; named = m.2; is = m.3 }

  abbrev g : Graph
  g = graph_of name h special handles hash next

  -- ---- values

  read_lead : (w s : ℕ) → lead h w ≡ Some s → is_ordinary h s ≡ true → read name h w ≡ Ref (name s)
  read_lead w s is e =
      let to = mapped_there (final h) (h.to w) s is in
      read-reference name h w (c.aligned w to.0 to.1) ∙ reference-good name h w s (ap (passes (is_ordinary h)) is ∙ e) is

  name_of : (w a : ℕ) → read name h w ≡ Ref a → IsNameOf name h a
  name_of w a e = elim (cases_Bool (is_immediate_word w)) [
    | inl on ↦ absurd (let v = fixed w on in not_named w a v (sym (read-fixed name h w v) ∙ e))
    | inr off ↦ let r = named_start name h w nil_ordinary off in record { start = r.0; ordinary = r.1; is = same_ref (sym r.2 ∙ e) }
  ]

  has_node : (v : Value) → ((a : ℕ) → v ≡ Ref a → IsNameOf name h a) → HasNode g v
  has_node v named a e =
      let k = named a e in
      (node_of name h (body_at h k.start), ap (get (nodes_of name h)) (sym k.is) ∙ node_here k.start k.ordinary)

  read_has_node : (w : ℕ) → HasNode g (read name h w)
  read_has_node w = has_node (read name h w) (name_of w)

  start_has_node : (s : ℕ) → is_ordinary h s ≡ true → HasNode g (Ref (name s))
  start_has_node s ordinary = has_node (Ref (name s)) (λ a e. record { start = s; ordinary = ordinary; is = same_ref e })

  pointers_have_nodes : (ws : List ℕ) → All (HasNode g) (map (read name h) ws)
  pointers_have_nodes ws = All-map (HasNode g) (read name h) ws (λ k d l. read_has_node (get_or ws k d))

  all_nodes : (a : ℕ) (n : Node) → get g.nodes a ≡ Some n → IsNode n × All (HasNode g) n.pointers
  unfolding node_of
  all_nodes a n e =
      let f = get_there a n e in
      let there = ordinary_there h f.start f.ordinary in
      subst (λ m. IsNode m × All (HasNode g) m.pointers) f.is (a_node name h (body_at h f.start) nil_ordinary (c.loadable.formed f.start there) (c.widths f.start there), pointers_have_nodes (pointers (body_at h f.start)))

  fresh : (a : ℕ) → next ≤ a → get g.nodes a ≡ None
  fresh a l = elim (get g.nodes a) as (λ o. get g.nodes a ≡ o → o ≡ None) [
    | None ↦ λ e. refl
    | Some n ↦ λ e.
        let f = get_there a n e in
        let low : name f.start < next = c.fresh f.start (starts f.start f.ordinary) in
        absurd (omega (arith, f.named, low, l))
  ] refl

  -- ---- the class table

  class_here : (i : ℕ) → has_class h i ≡ true → get g.classes i ≡ Some (read name h (entry h i))
  unfolding classes_of
  class_here i e = here class_limit (ltb-true i class_limit (and_parts (ltb i class_limit) _ (and_parts (has_page h i) _ e).0).0)
    where
      here : (n : ℕ) → i < n → get (from_entries {R = nat_cmp} (map (λ j. (j, read name h (entry h j))) (filter (has_class h) (range_with_len 0 n)))) i ≡ Some (read name h (entry h i))
      here n l = get-at (λ j. j) (λ j. read name h (entry h j)) i (filter (has_class h) (range_with_len 0 n)) (λ j k same. ap (λ m. read name h (entry h m)) (sym same))
          (in_filter (has_class h) (range_with_len 0 n) i (in_range 0 n i (omega arith) (omega (arith, l))) e)

  class_found : (i : ℕ) (v : Value) → get g.classes i ≡ Some v → (has_class h i ≡ true) × (read name h (entry h i) ≡ v)
  unfolding classes_of
  class_found i v = found class_limit
    where
      found : (n : ℕ) → get (from_entries {R = nat_cmp} (map (λ j. (j, read name h (entry h j))) (filter (has_class h) (range_with_len 0 n)))) i ≡ Some v → (has_class h i ≡ true) × (read name h (entry h i) ≡ v)
      found n e =
          let m = get-member (λ j. j) (λ j. read name h (entry h j)) i (filter (has_class h) (range_with_len 0 n)) v e in
          let k = (filter_in (has_class h) (range_with_len 0 n) m.0 m.1).1 in
          (sym (ap (has_class h) m.2) ∙ k, sym (ap (λ j. read name h (entry h j)) m.2) ∙ m.3)

  -- an entry that does not lead to nil leads to an entered class
  class_of_entry : (i : ℕ) → has_class h i ≡ true → (s : ℕ) × (lead h (entry h i) ≡ Some s) × (eqb s (first h 0) ≡ false) × IsClassAt h s
  class_of_entry i e =
      let parts = and_parts (has_page h i) (not (is_at (first h 0) (lead h (entry h i)))) e in
      let test = λ (s : ℕ). eqb s (first h 0) || (not (eqb i 0) && is_entered h s) in
      let on : passes test (lead h (entry h i)) ≡ true = not-false _ (sym (ap (λ b. b && not (passes test (lead h (entry h i)))) parts.0) ∙ c.loadable.entries i) in
      let p = passed test (lead h (entry h i)) on in
      let other : eqb p.one (first h 0) ≡ false = sym (ap (is_at (first h 0)) p.is) ∙ not-true (is_at (first h 0) (lead h (entry h i))) parts.1 in
      let class : is_entered h p.one ≡ true = elim (or_cases (eqb p.one (first h 0)) (not (eqb i 0) && is_entered h p.one) p.holds) [
        | inl nil ↦ absurd (false≢true (sym other ∙ nil))
        | inr more ↦ (and_parts (not (eqb i 0)) (is_entered h p.one) more).1
      ] in
      (p.one, p.is, other, class_at h p.one class)

  entered_here : (s : ℕ) → eqb s (first h 0) ≡ false → IsClassAt h s → IsEntered g (name s)
  unfolding node_of
  entered_here s other k =
      let i : ℕ = (body_at h s).hash in
      let has : has_class h i ≡ true = λ x. k.page x && not ((ap (is_at (first h 0)) k.leads ∙ other) x) in
      record {
        class = node_of name h (body_at h s);
        there = node_here s k.ordinary;
        hashed = some_hash i k.number;
        entry = class_here i has ∙ ap (λ v. Some v) (read_lead (entry h i) s k.leads k.ordinary);
      }

  entered : (i : ℕ) (v : Value) → get g.classes i ≡ Some v → (a : ℕ) × (v ≡ Ref a) × IsEntered g a
  entered i v e =
      let f = class_found i v e in
      let k = class_of_entry i f.0 in
      (name k.0, sym f.1 ∙ read_lead (entry h i) k.0 k.1 k.3.ordinary, entered_here k.0 k.2 k.3)

  -- ---- what names it from outside

  special_there : ((a : ℕ) × (g.special ≡ Ref a)) × HasNode g g.special
  special_there =
      let p = passed (is_ordinary h) (lead h special) c.special_there in
      ((name p.one, read_lead special p.one p.is p.holds), read_has_node special)

  value_held : (v : Value) → IsHeld name h v → IsValue v × HasNode g v
  value_held v k = subst (λ u. IsValue u × HasNode g u) (sym k.is) (read_value name h k.word nil_ordinary k.bits, read_has_node k.word)

  closed : IsClosed g
  closed = record {
    all_nodes = all_nodes;
    names = All-from_recursion (λ a. HasNode g (Ref a)) (g.nil ∷ g.no ∷ g.yes ∷ []) (
      start_has_node (first h 0) nil_ordinary,
      (start_has_node (first h 1) (outer_ordinary 1 (omega arith)), (start_has_node (first h 2) (outer_ordinary 2 (omega arith)), tt)),
    );
    special_there = special_there;
    entered = entered;
    held_values = λ k v e. value_held v (c.held k v e);
    groups = All-from_recursion (λ (group : List ℕ). group ≢ []) [] tt;
    fired = All-from_recursion (λ a. (n : Node) × (get g.nodes a ≡ Some n) × (n.format ≡ 1)) [] tt;
    apart = λ i j d l m. absurd (omega (arith, m));
    state_bits = c.state_bits;
    fresh = fresh;
  }

pub loadable_is_closed : LoadableIsClosed
loadable_is_closed = closed
