-- The graph of a store with an object more: one node more, and else the same.
use Rattle.std.proofs.Common.{◌≡◌, ℕ, suc, true, cond, not, ◌&&◌, ◌==◌, ◌%◌, ◌<◌, List, [], ◌∷◌, map, length, get_or, refl, sym, ap, ◌∙◌, subst, arith, inl, inr, Some, None, Option}
use Rattle.std.proofs.lemmas.Bool.{cases_Bool, cases_eq, lt-ltb, not-false, and_parts, or_cases, or_right}
use Rattle.std.proofs.lemmas.List.{length-take-le, get_or-take}
use Rattle.std.proofs.lemmas.List.Elements.{filter_agree}
use Rattle.std.specs.Option.{unwrap_or, option_map}
use Rattle.std.specs.List.{filter, range_with_len}
use Rattle.std.specs.Ordering.{nat_cmp}
use Rattle.std.specs.FinMap.{FinMap, get, insert, from_entries, same_map}
use Rattle.object_header.specs.Chunks.{Chunk}
use Rattle.spur_graph.specs.declared.answer.Value.TheVariants.{Ref}
use Rattle.spur_graph.specs.Value.{is_immediate_word}
use Rattle.spur_graph.specs.Graph.{Handle, handle_cmp, with_node}
use Rattle.spur_graph.specs.Handles.{handles_total}
use Rattle.spur_graph.specs.Cells.{Body, Store, is_start, is_there, body_of, pointer_count, pointers, units, first, lead, store_in}
use Rattle.spur_graph.specs.Ordinary.{class_limit, is_at, passes, body_at, is_internal, is_ordinary, is_good_reference, is_good_word, has_page, entry, ordinary_starts}
use Rattle.spur_graph.specs.CellGraph.{reference, read, node_of, nodes_of, has_class, classes_of}
use Rattle.spur_graph.specs.Heaps.{own_name, handle_values, graph_in, mourners_of}
use Rattle.spur_graph.proofs.HandleMaps.{exact_handles}
use Rattle.heap_cells.specs.Rows.{starts_of}
use Rattle.heap_cells.proofs.Adding.{Adds, added-here, added-other, added-final, added-ordinary, ordinary-other, reference-kept, apart_there, lead-same, has_page-same, entry-same, entry_lead-same}
use Rattle.heap_cells.proofs.Bodies.{pointers_fit}
use Rattle.heap_cells.proofs.CellKinds.{there_starts}
use Rattle.heap_cells.proofs.Cutting.{start-in}
use Rattle.heap_cells.proofs.Entries.{entry_passes}
use Rattle.heap_cells.proofs.HandleValues.{get-handle_values}
use Rattle.heap_cells.proofs.Members.{In, filter_in, start_of_chunk}
use Rattle.heap_cells.proofs.References.{ordinary_there}
use Rattle.heap_cells.proofs.Tables.{map_members, passing_more, get-failing}
use Rattle.heap_cells.proofs.Values.{fixed, read-fixed, read-reference, read-none}

-- whatever starts is among the starts
abbrev pub HasStarts : Store → Type 0
HasStarts h = (t : ℕ) → is_start (h.cell t) ≡ true → In h.starts t

pub row-has_starts : (to : ℕ → Option ℕ) (words : List ℕ) (cs : List Chunk) → HasStarts (store_in to words cs)
row-has_starts to words cs t on = let c = start-in to words cs t on in subst (λ u. In (starts_of cs) u) c.2 (start_of_chunk cs c.0 c.1)

-- functions that agree on the words of a list
map_words : {X : Type 0} (f g : ℕ → X) (ws : List ℕ) → ((i : ℕ) → i < length ws → f (get_or ws i 0) ≡ g (get_or ws i 0)) → map f ws ≡ map g ws
map_words f g [] e = refl
map_words f g (w ∷ ws) e = λ x. e 0 (omega arith) x ∷ map_words f g ws (λ i l. e (suc i) (omega (arith, l))) x

ordinary_starts_in : (h : Store) → HasStarts h → (t : ℕ) → is_ordinary h t ≡ true → In h.starts t
ordinary_starts_in h has t on = has t (there_starts (h.cell t) (ordinary_there h t on))

module _ {old new : Store} {s : ℕ} {b : Body} (k : Adds old new s b) where
  -- a good word has its value
  pub read-kept : (w : ℕ) → is_good_word old w ≡ true → read own_name new w ≡ read own_name old w
  read-kept w good = elim (or_cases (is_immediate_word w) (is_good_reference old w) good) [
    | inl immediate ↦ read-fixed own_name new w (fixed w immediate) ∙ sym (read-fixed own_name old w (fixed w immediate))
    | inr named ↦ elim (cases_eq (w % 8) 0) [
      | inl aligned ↦ read-reference own_name new w aligned ∙ reference-same w named ∙ sym (read-reference own_name old w aligned)
      | inr tagged ↦ elim (cases_Bool (is_immediate_word w)) [
        | inl immediate ↦ read-fixed own_name new w (fixed w immediate) ∙ sym (read-fixed own_name old w (fixed w immediate))
        | inr off ↦ read-none own_name new w tagged off ∙ ap (λ t. Ref t) (k.firsts 0 (omega arith)) ∙ sym (read-none own_name old w tagged off)
      ]
    ]
  ]
    where
      reference-same : (w : ℕ) → is_good_reference old w ≡ true → reference own_name new w ≡ reference own_name old w
      reference-same w named =
          let nil = k.firsts 0 (omega arith) in
          ap (λ c. cond c (Ref (unwrap_or (lead new w) (first new 0))) (Ref (first new 0))) (reference-kept k w named)
          ∙ (λ x. Ref (unwrap_or (lead-same k w x) (nil x)))
          ∙ sym (ap (λ c. cond c (Ref (unwrap_or (lead old w) (first old 0))) (Ref (first old 0))) named)

  -- the word of a pointer slot of an ordinary object is good
  slot_good : (t i : ℕ) → is_ordinary old t ≡ true → i < pointer_count (body_at old t) → is_good_word old (get_or (body_at old t).words i 0) ≡ true
  slot_good t i on low = not-false _ (sym (λ x. on x && lt-ltb i (pointer_count (body_at old t)) low x && not (is_good_word old (get_or (body_at old t).words i 0))) ∙ k.sound.slots t i)

  -- and so has each object its node
  pub node-kept : (t : ℕ) → is_ordinary old t ≡ true → node_of own_name new (body_at new t) ≡ node_of own_name old (body_at old t)
  unfolding node_of
  node-kept t on =
      let there = ordinary_there old t on in
      let c : Body = body_at old t in
      let body : body_at new t ≡ c = ap body_of (added-other k t (apart_there k t there)) in
      let fits = pointers_fit c (k.sound.formed t there) in
      let long : length (pointers c) ≡ pointer_count c = length-take-le (pointer_count c) c.words fits in
      let values : map (read own_name new) (pointers c) ≡ map (read own_name old) (pointers c) = map_words (read own_name new) (read own_name old) (pointers c) (λ i l.
      let low : i < pointer_count c = omega (arith, l, long) in
      let is : get_or (pointers c) i 0 ≡ get_or c.words i 0 = get_or-take (pointer_count c) c.words i 0 low in
      ap (read own_name new) is ∙ read-kept (get_or c.words i 0) (slot_good t i on low) ∙ ap (read own_name old) (sym is)) in
      ap (node_of own_name new) body ∙ (λ x. record { class = c.class; hash = c.hash; format = c.format; pointers = values x; units = units c; pinned = c.pinned == 1; readonly = c.readonly == 1 })

  nil_ordinary : is_ordinary old (first old 0) ≡ true
  nil_ordinary = let there = k.sound.roots.objects 0 (omega arith) in let outer = k.sound.roots.outer 0 (omega arith) in λ x. there x && not (outer x)

  handles-kept : (held : FinMap handle_cmp ℕ) → ((h : Handle) (w : ℕ) → get held h ≡ Some w → is_good_word old w ≡ true)
      → handle_values (read own_name new) held ≡ handle_values (read own_name old) held
  handles-kept held good = same_map handles_total exact_handles (handle_values (read own_name new) held) (handle_values (read own_name old) held) (λ h.
      get-handle_values (read own_name new) held h ∙ one h (get held h) refl ∙ sym (get-handle_values (read own_name old) held h))
    where
      one : (h : Handle) (o : Option ℕ) → get held h ≡ o → option_map (read own_name new) o ≡ option_map (read own_name old) o
      one h None e = refl
      one h (Some w) e = ap (λ v. Some v) (read-kept w (good h w e))

  module _ (has_old : HasStarts old) (has_new : HasStarts new) where
    nodes-added : nodes_of own_name new ≡ insert (nodes_of own_name old) s (node_of own_name new b)
    unfolding nodes_of ordinary_starts
    nodes-added = passing_more (is_ordinary old) (is_ordinary new) (λ t. node_of own_name old (body_at old t)) (λ t. node_of own_name new (body_at new t)) old.starts new.starts s (node_of own_name new b)
        (ordinary_starts_in old has_old) (ordinary_starts_in new has_new) (added-ordinary k) (ap (λ c. node_of own_name new (body_of c)) (added-here k)) (ordinary-other k) (λ t n on. node-kept t on)

    classes-kept : classes_of own_name new ≡ classes_of own_name old
    unfolding classes_of
    classes-kept = among class_limit
      where
        class-same : (j : ℕ) → has_class new j ≡ has_class old j
        class-same j = elim (cases_Bool (has_page old j)) [
          | inl on ↦ let nil = k.firsts 0 (omega arith) in λ x. has_page-same k j x && not (is_at (nil x) (entry_lead-same k j on x))
          | inr off ↦ ap (λ c. c && not (is_at (first new 0) (lead new (entry new j)))) (has_page-same k j ∙ off) ∙ sym (ap (λ c. c && not (is_at (first old 0) (lead old (entry old j)))) off)
        ]

        value-same : (j : ℕ) → has_class old j ≡ true → read own_name new (entry new j) ≡ read own_name old (entry old j)
        value-same j on =
            let page = (and_parts (has_page old j) _ on).0 in
            let p = entry_passes old j nil_ordinary page (k.sound.roots.entries j) in
            let good : is_good_word old (entry old j) ≡ true = or_right (is_immediate_word (entry old j)) (is_good_reference old (entry old j)) (ap (passes (is_ordinary old)) p.is ∙ p.holds) in
            ap (read own_name new) (entry-same k j page) ∙ read-kept (entry old j) good

        among : (n : ℕ) → from_entries {R = nat_cmp} (map (λ j. (j, read own_name new (entry new j))) (filter (has_class new) (range_with_len 0 n))) ≡ from_entries {R = nat_cmp} (map (λ j. (j, read own_name old (entry old j))) (filter (has_class old) (range_with_len 0 n)))
        among n =
            ap (λ js. from_entries {R = nat_cmp} (map (λ j. (j, read own_name new (entry new j))) js)) (filter_agree (has_class new) (has_class old) class-same (range_with_len 0 n))
            ∙ ap (λ es. from_entries {R = nat_cmp} es) (map_members (λ j. (j, read own_name new (entry new j))) (λ j. (j, read own_name old (entry old j))) (filter (has_class old) (range_with_len 0 n))
            (λ j m x. (j, value-same j (filter_in (has_class old) (range_with_len 0 n) j m).1 x)))

    -- the graph has the object as one node more
    pub graph-added : (special : ℕ) (held : FinMap handle_cmp ℕ) (groups : List (List ℕ)) (hash next : ℕ) → is_good_reference old special ≡ true
        → ((h : Handle) (w : ℕ) → get held h ≡ Some w → is_good_word old w ≡ true)
        → graph_in new special held groups hash next ≡ with_node (graph_in old special held groups hash next) s (node_of own_name new b)
    graph-added special held groups hash next special_good held_good =
        let roots : read own_name new special ≡ read own_name old special = read-kept special (or_right (is_immediate_word special) (is_good_reference old special) special_good) in
        let nil = k.firsts 0 (omega arith) in
        let no = k.firsts 1 (omega arith) in
        let yes' = k.firsts 2 (omega arith) in
        let ends : mourners_of new groups ≡ mourners_of old groups = λ x. map (map (λ t. added-final k t x)) groups in
        λ x. record (graph_in old special held groups hash next) {
          nodes = nodes-added x;
          nil = nil x;
          no = no x;
          yes = yes' x;
          special = roots x;
          classes = classes-kept x;
          handles = handles-kept held held_good x;
          mourners = ends x;
        }

    -- and nothing had its name
    pub node_fresh : get (nodes_of own_name old) s ≡ None
    unfolding nodes_of ordinary_starts
    node_fresh = get-failing (is_ordinary old) (λ t. node_of own_name old (body_at old t)) old.starts s (ap (λ c. is_there c && not (is_internal old s)) k.empty)
