-- A heap whose marked objects make a closed graph, and in which nothing that is marked names a forwarder, is tight.
use Rattle.std.proofs.Common.{◌≡◌, ◌≢◌, ℕ, suc, zero, Bool, true, false, cond, not, ◌&&◌, ◌/◌, ◌%◌, ◌<◌, List, length, get_or, refl, sym, ap, ◌∙◌, subst, arith, inl, inr, Some, None}
use Rattle.std.proofs.lemmas.Bool.{cases_Bool, eq-eqb, and_parts}
use Rattle.std.proofs.lemmas.List.{get_or-map, get_or_default, length-map}
use Rattle.std.proofs.lemmas.Option.{none-some}
use Rattle.std.specs.Prelude.{nat_lt, IfSome}
use Rattle.std.specs.Option.{option_map}
use Rattle.std.specs.FinMap.{get}
use Rattle.std.specs.List.{Contains}
use Rattle.spur_graph.specs.declared.answer.Value.TheVariants.{Ref}
use Rattle.spur_graph.specs.Node.{Node}
use Rattle.spur_graph.specs.Graph.{Graph, Handle, HasNode, IsClosed, waiting}
use Rattle.spur_graph.specs.Cells.{Store, final, first, is_moved, is_there, lead, pointer_count}
use Rattle.spur_graph.specs.Ordinary.{body_at, class_limit, entry, has_page, is_at, is_good_reference, is_internal, is_nil_slot, is_ordinary, page_entries, passes}
use Rattle.spur_graph.specs.CellGraph.{read}
use Rattle.spur_graph.specs.Heaps.{IsWhole, View, heap_graph, heap_to, heap_value, is_marked, marked_graph, own_name, store_of, waiting_in}
use Rattle.graph_laws.proofs.Named.{ref_is}
use Rattle.graph_laws.proofs.Sweeping.{get-live}
use Rattle.heap_cells.proofs.Below.{at-named}
use Rattle.heap_cells.proofs.Chains.{final-end}
use Rattle.heap_cells.proofs.Entries.{place_below}
use Rattle.heap_cells.proofs.HandleValues.{get-handle_values}
use Rattle.heap_cells.proofs.References.{not_immediate, ordinary_there}
use Rattle.heap_cells.proofs.Values.{read-reference, reference-good}
use Rattle.heap_laws.proofs.Slots.{internal-entry, slot-good}
use Rattle.compaction_laws.specs.Compacting.{IsTight, NamesMarked, is_marked_object}
use Rattle.spur_heap.specs.Entering.{HasPage}
use Rattle.spur_heap.specs.Following.{IsFollowed, is_forwarder}
use Rattle.spur_heap.specs.MarkBits.{marks}
use Rattle.spur_heap.specs.Views.{node_in}
use Rattle.spur_heap.specs.Words.{AreSound}
use Rattle.spur_heap.proofs.ClassTable.{page_listed}
use Rattle.spur_heap.proofs.ClassValues.{leading_value}
use Rattle.spur_heap.proofs.Entered.{classes_at}
use Rattle.spur_heap.proofs.Hops.{reference_named}
use Rattle.spur_heap.proofs.Leads.{good_reference}
use Rattle.spur_heap.proofs.Mourned.{ends}
use Rattle.spur_heap.proofs.Nodes.{node_pointer, node_pointers}
use Rattle.spur_heap.proofs.NodesAt.{get_there}
use Rattle.spur_heap.proofs.Puts.{whole_sound}
use Rattle.marker.specs.Finished.{IsMarkedThrough}

module _ (v : View) (whole : IsWhole v) (closed : IsClosed (marked_graph v)) (through : IsMarkedThrough v) where
  abbrev h : Store
  h = store_of v

  abbrev g : Graph
  g = marked_graph v

  sound : AreSound v
  sound = whole_sound v whole

  -- what is named in the graph is marked
  name_marked : (a : ℕ) → HasNode g (Ref a) → is_marked v.words a ≡ true
  name_marked a has = let n = has a refl in by (is_marked v.words a) n.0 (sym (get-live (heap_graph v) (is_marked v.words) a) ∙ n.1)
    where
      by : (b : Bool) (n : Node) → cond b (get (heap_graph v).nodes a) None ≡ Some n → b ≡ true
      by true n e = refl
      by false n e = absurd (none-some n e)

  -- a followed word that reads as a name of the graph names a marked object
  reference_marked : (w : ℕ) → is_good_reference h w ≡ true → HasNode g (heap_value v w) → IsFollowed v w → NamesMarked v w
  reference_marked w good has followed z =
      let n = reference_named v sound w good in
      let named : heap_to w ≡ Some (w / 8) = ap (λ b. cond b (Some (w / 8)) None) (eq-eqb (w % 8) 0 z) in
      let still : is_moved (h.cell (w / 8)) ≡ false = sym (ap (passes (is_forwarder v)) named) ∙ followed in
      let end : final h (w / 8) ≡ w / 8 = final-end h (w / 8) still in
      let there : is_ordinary h (w / 8) ≡ true = sym (ap (is_ordinary h) end) ∙ n.ordinary in
      let value : heap_value v w ≡ Ref (w / 8) = read-reference own_name h w z ∙ reference-good own_name h w (final h (w / 8)) good n.leads ∙ ap (λ a. Ref a) end in
      let on = name_marked (w / 8) (subst (HasNode g) value has) in
      λ x. ordinary_there h (w / 8) there x && on x

  -- ---- slots

  pointer_has_node : (s i : ℕ) → is_marked_object v s ≡ true → is_internal h s ≡ false → i < pointer_count (body_at h s) → HasNode g (heap_value v (get_or (body_at h s).words i 0))
  pointer_has_node s i on outer l =
      let both = and_parts (is_there (h.cell s)) (is_marked v.words s) on in
      let there : is_ordinary h s ≡ true = λ x. both.0 x && not (outer x) in
      let formed = whole.sound.formed s both.0 in
      let node : get g.nodes s ≡ Some (node_in v s) = get-live (heap_graph v) (is_marked v.words) s ∙ ap (λ b. cond b (get (heap_graph v).nodes s) None) both.1 ∙ get_there v s there in
      let inside : i < length (node_in v s).pointers = let long = node_pointers h (body_at h s) formed in omega (arith, l, long) in
      subst (HasNode g) (node_pointer h (body_at h s) formed i (Ref 0) l) ((closed.all_nodes s (node_in v s) node).1 i (Ref 0) inside)

  entry_has_node : (index : ℕ) → index < class_limit → has_page h index ≡ true → HasNode g (heap_value v (entry h index))
  entry_has_node index low page = elim (cases_Bool (is_at (first h 0) (lead h (entry h index)))) [
    | inl nil ↦
        let value = leading_value v whole index low (first h 0) page (at-named (first h 0) (lead h (entry h index)) nil) in
        subst (HasNode g) (sym value) (closed.names 0 0 (omega arith))
    | inr other ↦
        let value : get g.classes index ≡ Some (heap_value v (entry h index)) = classes_at h index ∙ ap (λ b. cond b (Some (read own_name h (entry h index))) None) (λ x. page x && not (other x)) in
        let e = closed.entered index (heap_value v (entry h index)) value in
        subst (HasNode g) (sym e.1) (λ a is. (e.2.class, ap (get g.nodes) (sym (ref_is e.0 a is)) ∙ e.2.there))
  ]

  slot_marked : (s i : ℕ) → is_marked_object v s ≡ true → s ≢ first h 3 → s ≢ first h 4 → i < pointer_count (body_at h s) → NamesMarked v (get_or (body_at h s).words i 0)
  slot_marked s i on three four l z =
      let w : ℕ = get_or (body_at h s).words i 0 in
      let there = (and_parts (is_there (h.cell s)) (is_marked v.words s) on).0 in
      let good = slot-good h whole.sound s i there three four l (not_immediate w z) in
      elim (cases_Bool (is_internal h s)) [
        | inl on_page ↦
            let e = internal-entry h whole.sound s i on_page three four l in
            let paged : HasPage v e.index = page_listed v sound e.index (e.index / page_entries) (place_below e.index e.below) ∙ (and_parts (nat_lt e.index class_limit) (not (is_nil_slot h (e.index / page_entries))) e.page).1 in
            reference_marked w good (subst (λ u. HasNode g (heap_value v u)) e.word (entry_has_node e.index e.below e.page)) (subst (IsFollowed v) e.word (through.followed.entries e.index e.below paged)) z
        | inr outer ↦
            let ordinary : is_ordinary h s ≡ true = λ x. there x && not (outer x) in
            let marked : marks v s ≡ true = λ x. ordinary x && (and_parts (is_there (h.cell s)) (is_marked v.words s) on).1 x in
            let inside : i < length (node_in v s).pointers = let long = node_pointers h (body_at h s) (whole.sound.formed s there) in omega (arith, l, long) in
            reference_marked w good (pointer_has_node s i on outer l) (through.followed.slots s marked i inside) z
      ]

  -- ---- roots

  waiting_marked : (s : ℕ) → Contains (waiting_in v.mourners) s → is_marked_object v s ≡ true
  waiting_marked s (k, l, is) =
      let ws : List ℕ = waiting_in v.mourners in
      let at : get_or ws k 0 ≡ s = get_or_default ws k 0 s l ∙ is in
      let still : is_moved (h.cell s) ≡ false = ap (λ t. is_moved (h.cell t)) (sym at) ∙ through.followed.mourners k l in
      let end : final h s ≡ s = final-end h s still in
      let long : length (waiting g) ≡ length ws = ap length (ends v) ∙ length-map ws (final h) in
      let name : get_or (waiting g) k 0 ≡ s = ap (λ ts. get_or ts k 0) (ends v) ∙ get_or-map (final h) ws k s 0 l ∙ ap (final h) is ∙ end in
      let fired = closed.fired k 0 (omega (arith, l, long)) in
      let on = name_marked s (λ a e. (fired.0, ap (get g.nodes) (sym (ref_is s a e) ∙ sym name) ∙ fired.1)) in
      let there : is_ordinary h s ≡ true = sym (ap (is_ordinary h) end) ∙ ap (λ t. is_ordinary h (final h t)) (sym at) ∙ (whole.mourners.fired k 0 l).ordinary in
      λ x. ordinary_there h s there x && on x

  first_marked : (k : ℕ) → k < 3 → is_marked v.words (first h k) ≡ true
  first_marked zero l = name_marked (first h 0) (closed.names 0 0 (omega arith))
  first_marked (suc zero) l = name_marked (first h 1) (closed.names 1 0 (omega arith))
  first_marked (suc (suc zero)) l = name_marked (first h 2) (closed.names 2 0 (omega arith))
  first_marked (suc (suc (suc k))) l = absurd (omega (arith, l))

  held_marked : (handle : Handle) (word : ℕ) → get v.handles handle ≡ Some word → NamesMarked v word
  held_marked handle word at z =
      let good = good_reference v word (whole.held handle word at) (not_immediate word z) in
      let value : get g.handles handle ≡ Some (heap_value v word) = get-handle_values (heap_value v) v.handles handle ∙ ap (option_map (heap_value v)) at in
      let followed : IsFollowed v word = subst (λ o. IfSome o (IsFollowed v)) at (through.followed.held handle) in
      reference_marked word good (closed.held_values handle (heap_value v word) value).1 followed z

  pub tight : IsTight v
  tight = record {
    internal = through.inner;
    firsts = first_marked;
    forwarders = through.bare;
    slots = slot_marked;
    special = reference_marked v.special whole.special_there closed.special_there.1 through.followed.special;
    held = held_marked;
    waiting = waiting_marked;
  }
