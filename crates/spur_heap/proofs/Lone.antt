-- An object that nothing names, since the graph is closed without it, and that can become a page of the class table.
use Rattle.std.proofs.Common.{◌≡◌, ◌≢◌, ℕ, true, not, cond, ◌&&◌, ◌%◌, ◌<◌, eqb, List, length, get_or, replicate, refl, sym, ap, ◌∙◌, subst, arith, inl, inr, Some, None}
use Rattle.std.proofs.lemmas.Bool.{false≢true, cases_eq, eq-eqb, ne_eqb, ltb-true, and_parts, not-false, false_from_ne_true}
use Rattle.std.proofs.lemmas.List.{length-replicate, get_or-replicate}
use Rattle.std.specs.Option.{option_map}
use Rattle.std.specs.FinMap.{get, get-remove}
use Rattle.std.specs.Cmp.{nat_cmp_total}
use Rattle.object_header.specs.Formats.{pointer_slots_of}
use Rattle.object_header.specs.Head.{literals_of}
use Rattle.spur_graph.specs.declared.answer.Value.{Value}
use Rattle.spur_graph.specs.declared.answer.Value.TheVariants.{Ref}
use Rattle.spur_graph.specs.Value.{name_of, is_immediate}
use Rattle.spur_graph.specs.Graph.{Graph, Handle, HasNode}
use Rattle.spur_graph.specs.Node.{Node}
use Rattle.spur_graph.specs.Cells.{Body, Store, is_there, pointer_count, first, lead}
use Rattle.spur_graph.specs.Ordinary.{page_entries, class_limit, is_at, passes, body_at, is_ordinary, is_good_reference, has_page, entry}
use Rattle.spur_graph.specs.CellGraph.{read, has_class}
use Rattle.spur_graph.specs.Heaps.{View, IsWhole, store_of, heap_graph, heap_value, own_name}
use Rattle.heap_cells.specs.Settled.{word_of}
use Rattle.heap_cells.proofs.Below.{any_below-none, passed}
use Rattle.heap_cells.proofs.CellKinds.{there_is}
use Rattle.heap_cells.proofs.Finding.{key_same, same_key}
use Rattle.heap_cells.proofs.HandleValues.{get-handle_values}
use Rattle.heap_cells.proofs.Internals.{heap-named}
use Rattle.heap_cells.proofs.References.{ordinary_apart}
use Rattle.heap_cells.proofs.Values.{read-reference, reference-good}
use Rattle.spur_heap.specs.Views.{IsOrdinary, IsGood, node_in}
use Rattle.spur_heap.specs.Words.{body_in}
use Rattle.spur_heap.specs.Entering.{CanTurn, without_node}
use Rattle.spur_heap.proofs.ClassTable.{page_listed}
use Rattle.spur_heap.proofs.ClassValues.{class_found}
use Rattle.spur_heap.proofs.Following.{good_reference}
use Rattle.spur_heap.proofs.Leads.{aligned_by, tagged_value}
use Rattle.spur_heap.proofs.Nodes.{node_pointer}
use Rattle.spur_heap.proofs.NodesAt.{get_there}
use Rattle.spur_heap.proofs.Paged.{Pages}
use Rattle.spur_heap.proofs.Puts.{whole_sound, object, fields_are, pointers_count}
use Rattle.spur_heap.proofs.SlotCounts.{formed}
use Rattle.spur_heap.proofs.Written.{slot_good}

-- a word that leads to an ordinary object has its name as value
pub led_value : (v : View) (w s : ℕ) → IsOrdinary v s → lead (store_of v) w ≡ Some s → heap_value v w ≡ Ref s
led_value v w s on is =
    let good : is_good_reference (store_of v) w ≡ true = ap (passes (is_ordinary (store_of v))) is ∙ on in
    read-reference own_name (store_of v) w (aligned_by v w s is) ∙ reference-good own_name (store_of v) w s good is

-- a good word whose value is a name leads to it
pub lead_valued : (v : View) → IsWhole v → (w s : ℕ) → IsGood v w → heap_value v w ≡ Ref s → lead (store_of v) w ≡ Some s
lead_valued v whole w s good is = elim (cases_eq (w % 8) 0) [
  | inr tag ↦ absurd (false≢true (sym (ap is_immediate is) ∙ tagged_value v w good tag))
  | inl z ↦
      let reference = good_reference v (whole_sound v whole) w good z in
      let p = passed (is_ordinary (store_of v)) (lead (store_of v) w) reference in
      let value : heap_value v w ≡ Ref p.one = led_value v w p.one p.holds p.is in
      let same : p.one ≡ s = ap name_of (sym value ∙ is) in
      p.is ∙ ap (λ t. Some t) same
]

module _ {v : View} {place start : ℕ} (whole : IsWhole v) (can : CanTurn v place start) where
  abbrev h : Store
  h = store_of v

  abbrev g : Graph
  g = without_node (heap_graph v) start

  -- the node is gone, and no other
  gone : get g.nodes start ≡ None
  gone = get-remove nat_cmp_total (heap_graph v).nodes start start ∙ ap (λ b. cond b None (get (heap_graph v).nodes start)) (same_key start start refl)

  others : (t : ℕ) → t ≢ start → get g.nodes t ≡ get (heap_graph v).nodes t
  others t n = get-remove nat_cmp_total (heap_graph v).nodes start t ∙ ap (λ b. cond b None (get (heap_graph v).nodes t)) (false_from_ne_true _ (λ on. n (key_same t start on)))

  -- a value of the graph is another
  unnamed_value : (x : Value) → HasNode g x → x ≢ Ref start
  unnamed_value x has e = let n = has start e in let none = gone in absurd (let both : Some n.0 ≡ None = sym n.1 ∙ none in cc)

  unled : (w : ℕ) → HasNode g (heap_value v w) → lead h w ≢ Some start
  unled w has is = unnamed_value (heap_value v w) has (led_value v w start can.there is)

  -- ---- it is none of the first five

  nil_apart : first h 0 ≢ start
  nil_apart e = unnamed_value (Ref (first h 0)) (can.lone.names 0 (first h 0) (omega arith)) (ap (λ t. Ref t) e)

  apart : (j : ℕ) → j < 5 → first h j ≢ start
  apart j l e = elim (cases_eq j 0) [
    | inl a ↦ nil_apart (ap (first h) (sym a) ∙ e)
    | inr m0 ↦ elim (cases_eq j 1) [
      | inl a ↦ unnamed_value (Ref (first h 1)) (can.lone.names 1 (first h 0) (omega arith)) (ap (λ t. Ref t) (ap (first h) (sym a) ∙ e))
      | inr m1 ↦ elim (cases_eq j 2) [
        | inl a ↦ unnamed_value (Ref (first h 2)) (can.lone.names 2 (first h 0) (omega arith)) (ap (λ t. Ref t) (ap (first h) (sym a) ∙ e))
        | inr m2 ↦ elim (cases_eq j 3) [
          | inl a ↦ (ordinary_apart h start can.there).1 (sym e ∙ ap (first h) a)
          | inr m3 ↦ (ordinary_apart h start can.there).0 (sym e ∙ ap (first h) (let four : j ≡ 4 = omega (arith, l, m0, m1, m2, m3) in four))
        ]
      ]
    ]
  ]

  -- ---- its slots

  abbrev b : Body
  b = body_in v start

  there : is_there (h.cell start) ≡ true
  there = object v whole start can.there

  format_is : b.format ≡ 2
  format_is = sym (fields_are v whole start can.there).format ∙ ap (λ (n : Node). n.format) can.node

  pub pinned_is : b.pinned ≢ 1
  pinned_is e = false≢true (sym (ap (λ (n : Node). n.pinned) can.node) ∙ (fields_are v whole start can.there).pinned ∙ eq-eqb b.pinned 1 e)

  pointers_are : (node_in v start).pointers ≡ replicate page_entries (Ref (first h 0))
  pointers_are = ap (λ (n : Node). n.pointers) can.node

  count_is : pointer_count b ≡ page_entries
  count_is = sym (pointers_count v whole start can.there) ∙ ap (λ (vs : List Value). length vs) pointers_are ∙ length-replicate page_entries (Ref (first h 0))

  all_pointers : pointer_count b ≡ length b.words
  unfolding pointer_count
  all_pointers = ap (λ f. pointer_slots_of f (length b.words) (literals_of (get_or b.words 0 0))) format_is

  long : length b.words ≡ page_entries
  long = sym all_pointers ∙ count_is

  slot_leads : (j : ℕ) → j < page_entries → lead h (get_or b.words j 0) ≡ Some (first h 0)
  slot_leads j l =
      let low : j < pointer_count b = omega (arith, l, count_is) in
      let value : heap_value v (get_or b.words j 0) ≡ Ref (first h 0) =
      sym (node_pointer h b (formed v (whole_sound v whole) start there) j (Ref 0) low) ∙ ap (λ (vs : List Value). get_or vs j (Ref 0)) pointers_are ∙ get_or-replicate page_entries j (Ref (first h 0)) (Ref 0) l in
      lead_valued v whole (get_or b.words j 0) (first h 0) (slot_good v (whole_sound v whole) start can.there j low) value

  -- ---- no slot, entry, handle or mourner names it

  unnamed : (t j : ℕ) → is_ordinary h t ≡ true → j < pointer_count (body_at h t) → lead h (get_or (body_at h t).words j 0) ≢ Some start
  unnamed t j on low is = elim (cases_eq t start) [
    | inl e ↦
        let at : j < page_entries = let same : pointer_count (body_at h t) ≡ pointer_count b = ap (λ u. pointer_count (body_at h u)) e in omega (arith, low, same, count_is) in
        let nil : lead h (get_or (body_at h t).words j 0) ≡ Some (first h 0) = ap (λ u. lead h (get_or (body_at h u).words j 0)) e ∙ slot_leads j at in
        nil_apart (let both : Some (first h 0) ≡ Some start = sym nil ∙ is in cc)
    | inr n ↦
        let values = (can.lone.all_nodes t (node_in v t) (others t n ∙ get_there v t on)).1 in
        let there_t = object v whole t on in
        let count = pointers_count v whole t on in
        let has = values j (Ref 0) (omega (arith, low, count)) in
        let value : get_or (node_in v t).pointers j (Ref 0) ≡ heap_value v (get_or (body_at h t).words j 0) = node_pointer h (body_in v t) (formed v (whole_sound v whole) t there_t) j (Ref 0) low in
        unled (get_or (body_at h t).words j 0) (subst (HasNode g) value has) is
  ]

  unentered : (j : ℕ) → has_page h j ≡ true → lead h (entry h j) ≢ Some start
  unentered j on is =
      let low : j < class_limit = ltb-true j class_limit (and_parts _ _ on).0 in
      let has : has_class h j ≡ true = (λ x. on x && not (is_at (first h 0) (is x))) ∙ ap not (ne_eqb start (first h 0) (λ e. nil_apart (sym e))) in
      let found : get g.classes j ≡ Some (Ref start) =
      class_found v whole j low ∙ ap (λ c. cond c (Some (heap_value v (entry h j))) None) has ∙ ap (λ x. Some x) (led_value v (entry h j) start can.there is) in
      let class = can.lone.entered j (Ref start) found in
      let same : class.0 ≡ start = ap name_of (sym class.1) in
      let none : get g.nodes class.0 ≡ None = ap (get g.nodes) same ∙ gone in
      absurd (let both : Some class.2.class ≡ None = sym class.2.there ∙ none in cc)

  pub unheld : (k : Handle) (w : ℕ) → get v.handles k ≡ Some w → lead h w ≢ Some start
  unheld k w e = unled w (can.lone.held_values k (heap_value v w) (get-handle_values (read own_name h) v.handles k ∙ ap (option_map (read own_name h)) e)).1

  pub unspecial : lead h v.special ≢ Some start
  unspecial = unled v.special can.lone.special_there.1

  pub unmourned : (t : ℕ) → (body_at h t).format ≡ 1 → t ≢ start
  unmourned t one e = let same : (body_at h t).format ≡ 2 = ap (λ u. (body_at h u).format) e ∙ format_is in omega (arith, one, same)

  -- ---- it can become a page

  pub lone_page : Pages h place (word_of start) start (body_at h (first h 4))
  lone_page = record {
    sound = whole.sound;
    place = can.below;
    nil = not-false _ (sym (page_listed v (whole_sound v whole) 0 place can.below) ∙ can.absent);
    there = there_is (h.cell (first h 4)) (whole.sound.roots.objects 4 (omega arith));
    named = heap-named start;
    ordinary = can.there;
    later = any_below-none (λ j. eqb (first h j) start) 5 (λ j l. ne_eqb (first h j) start (apart j l));
    body = (λ x. eqb (format_is x) 2 && eqb (long x) page_entries);
    unnamed = unnamed;
    unentered = unentered;
    entries = slot_leads;
  }
