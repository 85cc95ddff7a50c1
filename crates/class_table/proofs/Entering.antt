-- A class that is entered: its refusals in their order, the entry that may be made, and the graph with it.
use Rattle.std.proofs.Common.{◌≡◌, ◌≢◌, ◌<◌, ◌≤◌, ◌/◌, ◌||◌, eqb, ℕ, true, false, not, cond, [], ◌∷◌, refl, ap, sym, ◌∙◌, Option, Some, None, arith}
use Rattle.std.proofs.lemmas.Bool.{false≢true, ne_eqb, eqb-false, lt-leb, le-leb, or_parts}
use Rattle.std.specs.Option.{is_none, unwrap_or}
use Rattle.std.specs.Cmp.{nat_cmp_total}
use Rattle.std.specs.FinMap.{get, insert, get-insert}
use Rattle.std.specs.FinSet.{contains}
use Rattle.spur_graph.specs.declared.answer.Value.{Value}
use Rattle.spur_graph.specs.declared.answer.Value.TheVariants.{Ref}
use Rattle.spur_graph.specs.declared.answer.Refusal.{Refusal}
use Rattle.spur_graph.specs.declared.answer.Refusal.TheVariants as r
use Rattle.spur_graph.specs.Value.{is_immediate, name_of}
use Rattle.spur_graph.specs.Node.{Node}
use Rattle.spur_graph.specs.Graph.{Graph, node, node_at, blank, with_node}
use Rattle.spur_graph.specs.Room.{Room}
use Rattle.spur_graph.specs.Refusals.{Row, first, test, is_special, has_hash, no_index, no_page}
use Rattle.spur_graph.specs.Hashes.{free_index, first_entered, entered}
use Rattle.spur_graph.specs.Ordinary.{class_limit, page_entries, is_no_index}
use Rattle.spur_graph.specs.Heaps.{View, heap_graph, heap_room}
use Rattle.heap_cells.proofs.Finding.{same_key}
use Rattle.spur_heap.specs.Views.{IsOrdinary, node_in}
use Rattle.spur_heap.specs.Entering.{CanEnter}
use Rattle.spur_heap.proofs.NodesAt.{node_there, node_named}
use Rattle.class_table.specs.Rows.{enter_row}
use Rattle.class_table.specs.Paging.{HasPlace}

pub none_of : {X : Type 0} (o : Option X) → is_none o ≡ true → o ≡ None
none_of None none = refl
none_of (Some x) none = absurd (false≢true none)

-- a refusal that is none is passed over
skip : (o : Option Refusal) (row : Row) → o ≡ None → first (o ∷ row) ≡ first row
skip o row none = ap (λ p. first (p ∷ row)) none

stop : (o : Option Refusal) (row : Row) (why : Refusal) → o ≡ Some why → first (o ∷ row) ≡ Some why
stop o row why is = ap (λ p. first (p ∷ row)) is

module _ (v : View) (s : ℕ) (x : Value) (there : IsOrdinary v s) (named : x ≡ Ref s) (object : test (is_immediate x) r.Immediate ≡ None) (other : is_special (heap_graph v) s ≡ false) where
  past_special : first (enter_row (heap_graph v) (heap_room v) x) ≡ first (has_hash (node_at (heap_graph v) x) ∷ no_index (heap_graph v) ∷ no_page (heap_room v) (free_index (heap_graph v)) ∷ [])
  past_special =
      let g : Graph = heap_graph v in
      let rest : Row = has_hash (node_at g x) ∷ no_index g ∷ no_page (heap_room v) (free_index g) ∷ [] in
      skip (test (is_immediate x) r.Immediate) (test (is_special g (name_of x)) r.Special ∷ rest) object
      ∙ skip (test (is_special g (name_of x)) r.Special) rest (ap (λ b. test b r.Special) (ap (λ y. is_special g (name_of y)) named ∙ other))

  pub refused_hashed : (node_in v s).hash ≢ 0 → first (enter_row (heap_graph v) (heap_room v) x) ≡ Some r.Hashed
  refused_hashed some =
      let g : Graph = heap_graph v in
      past_special ∙ stop (has_hash (node_at g x)) (no_index g ∷ no_page (heap_room v) (free_index g) ∷ []) r.Hashed
      (ap (λ (n : Node). has_hash n) (node_named v s x there named) ∙ ap (λ b. test (not b) r.Hashed) (ne_eqb (node_in v s).hash 0 some))

  module _ (none : (node_in v s).hash ≡ 0) where
    past_hash : first (enter_row (heap_graph v) (heap_room v) x) ≡ first (no_index (heap_graph v) ∷ no_page (heap_room v) (free_index (heap_graph v)) ∷ [])
    past_hash =
        let g : Graph = heap_graph v in
        past_special ∙ skip (has_hash (node_at g x)) (no_index g ∷ no_page (heap_room v) (free_index g) ∷ [])
        (ap (λ (n : Node). has_hash n) (node_named v s x there named) ∙ ap (λ h. test (not (eqb h 0)) r.Hashed) none)

    pub refused_table : free_index (heap_graph v) ≡ class_limit → first (enter_row (heap_graph v) (heap_room v) x) ≡ Some r.Table
    refused_table full =
        let g : Graph = heap_graph v in
        past_hash ∙ stop (no_index g) (no_page (heap_room v) (free_index g) ∷ []) r.Table (ap (λ b. test b r.Table) (le-leb class_limit (free_index g) (omega (arith, full))))

    module _ (index : ℕ) (is : index ≡ free_index (heap_graph v)) (below : index < class_limit) where
      past_table : first (enter_row (heap_graph v) (heap_room v) x) ≡ first (no_page (heap_room v) index ∷ [])
      past_table =
          let g : Graph = heap_graph v in
          past_hash ∙ skip (no_index g) (no_page (heap_room v) (free_index g) ∷ []) (ap (λ b. test b r.Table) (lt-leb class_limit (free_index g) (omega (arith, below, is))))
          ∙ ap (λ i. first (no_page (heap_room v) i ∷ [])) (sym is)

      pub refused_full : (o : Option Refusal) → no_page (heap_room v) index ≡ o → first (enter_row (heap_graph v) (heap_room v) x) ≡ first (o ∷ [])
      refused_full o page = past_table ∙ ap (λ p. first (p ∷ [])) page

-- a name has the node that it was given
node_given : (g : Graph) (s : ℕ) (n : Node) → node (with_node g s n) s ≡ n
node_given g s n = ap (λ o. unwrap_or o blank) (get-insert nat_cmp_total g.nodes s n s ∙ ap (λ b. cond b (Some n) (get g.nodes s)) (same_key s s refl))

-- Spur's own indices are below the first at which a class is entered
high_known : (i : ℕ) → first_entered ≤ i → is_no_index i ≡ false
high_known i high = λ k. ne_eqb i 0 (λ e. omega (arith, high, e)) k || ne_eqb i 3 (λ e. omega (arith, high, e)) k || ne_eqb i 8 (λ e. omega (arith, high, e)) k

-- an object that was given an index as its hash can be entered there
pub can_enter : (old placed given : View) (s index : ℕ) (n : Node) → HasPlace old placed index → IsOrdinary given s → is_special (heap_graph old) s ≡ false → first_entered ≤ index → index < class_limit
    → get (heap_graph old).classes index ≡ None → heap_graph given ≡ with_node (heap_graph placed) s (record n { hash = index }) → heap_room given ≡ heap_room placed → CanEnter given index s
can_enter old placed given s index n place there outer high below free graph room =
    let g : Graph = heap_graph old in
    let own = or_parts (eqb s g.nil || eqb s g.no) (eqb s g.yes) outer in
    let nil = or_parts (eqb s g.nil) (eqb s g.no) own.0 in
    let other : s ≢ g.nil = eqb-false s g.nil nil.0 in
    let roots : (heap_graph given).nil ≡ g.nil = ap (λ (h : Graph). h.nil) graph ∙ ap (λ (h : Graph). h.nil) place.graph in
    let m : Node = record n { hash = index } in
    record {
      there = there;
      other = λ e. other (e ∙ roots);
      below = below;
      known = high_known index high;
      hash = ap (λ (k : Node). k.hash) (sym (node_there given s there) ∙ ap (λ h. node h s) graph ∙ node_given (heap_graph placed) s m);
      page = ap (λ (q : Room). contains q.pages (index / page_entries)) room ∙ place.page;
      unentered = ap (λ (h : Graph). get h.classes index) graph ∙ ap (λ (h : Graph). get h.classes index) place.graph ∙ free;
    }

-- the graph with the entry
pub graph_entered : (old placed given new : View) (s index : ℕ) (x : Value) → x ≡ Ref s → index ≡ free_index (heap_graph old) → IsOrdinary old s → HasPlace old placed index
    → heap_graph given ≡ with_node (heap_graph placed) s (record (node_in placed s) { hash = index })
    → heap_graph new ≡ record (heap_graph given) { classes = insert (heap_graph given).classes index (Ref s) } → heap_graph new ≡ entered (heap_graph old) (name_of x) (free_index (heap_graph old))
graph_entered old placed given new s index x named is there place graph entry =
    let g : Graph = heap_graph old in
    let name : s ≡ name_of x = sym (ap name_of named) in
    let at : node_in placed s ≡ node g s = place.nodes s there ∙ sym (node_there old s there) in
    entry
    ∙ ap (λ (h : Graph). let new : Graph = record h { classes = insert h.classes index (Ref s) } in new) (graph ∙ (λ i. with_node (place.graph i) s (record (at i) { hash = index })))
    ∙ (λ i. entered g (name i) (is i))
