-- The graph and the room of a heap in which an object that nothing names became a page of the class table.
use Rattle.std.proofs.Common.{◌≡◌, ◌≢◌, ℕ, true, false, not, cond, ◌&&◌, ◌||◌, ◌==◌, ◌+◌, ◌<◌, eqb, List, [], ◌∷◌, ◌++◌, map, length, refl, sym, ap, ◌∙◌, subst, arith, inl, inr, Some, None, Option}
use Rattle.std.proofs.lemmas.Bool.{cases_Bool, cases_eq, cases_lt, ne_eqb, and_parts, and_right, not-true, false_from_ne_true}
use Rattle.std.proofs.lemmas.List.{append-nil}
use Rattle.std.proofs.lemmas.List.Sums.{sum_by-cons}
use Rattle.std.specs.Option.{option_map, is_some}
use Rattle.std.specs.List.{filter, list_any, sum_by, count_by, range_with_len}
use Rattle.std.specs.Ordering.{nat_cmp, eq_by_cmp}
use Rattle.std.specs.Cmp.{nat_cmp_total}
use Rattle.std.specs.FinMap.{FinMap, get, insert, remove, len, from_entries, find, get-from_entries, get-insert, get-remove, len-insert, same_map, nat_cmp-IsAntisymmetric}
use Rattle.std.specs.FinSet as sets
use Rattle.object_header.specs.Chunks.{Chunk}
use Rattle.spur_graph.specs.declared.answer.Value.TheVariants.{Ref}
use Rattle.spur_graph.specs.Graph.{Graph, Handle}
use Rattle.spur_graph.specs.Handles.{handles_total}
use Rattle.spur_graph.specs.Node.{Node}
use Rattle.spur_graph.specs.Room.{Space, Spot, Old, Eden, Past, with_page, page_words}
use Rattle.spur_graph.specs.FreeSizes.{ascending}
use Rattle.spur_graph.specs.Cells.{Store, There, body_of, is_start, first, lead}
use Rattle.spur_graph.specs.Spaces.{old_row, eden_row, past_row}
use Rattle.spur_graph.specs.Ordinary.{page_places, body_at, is_ordinary, is_internal, is_good_word, is_nil_slot, ordinary_starts}
use Rattle.spur_graph.specs.CellGraph.{read}
use Rattle.spur_graph.specs.CellRoom.{internal_chunks}
use Rattle.spur_graph.specs.HeapRoom.{spots_of, is_reached, old_names_of, room_in}
use Rattle.spur_graph.specs.Heaps.{View, IsWhole, store_of, own_name, handle_values, heap_graph, heap_room, heap_value}
use Rattle.spur_graph.proofs.HandleMaps.{exact_handles}
use Rattle.heap_cells.specs.Rows.{starts_of}
use Rattle.heap_cells.specs.Settled.{word_of}
use Rattle.heap_cells.proofs.CellKinds.{there_starts}
use Rattle.heap_cells.proofs.Cutting.{cuts-in_order}
use Rattle.heap_cells.proofs.Finding.{key_same, same_key}
use Rattle.heap_cells.proofs.HandleValues.{get-handle_values}
use Rattle.heap_cells.proofs.Members.{In, start_of_chunk}
use Rattle.heap_cells.proofs.References.{ordinary_there}
use Rattle.heap_cells.proofs.Tables.{filter_members}
use Rattle.spur_heap.specs.Views.{IsOrdinary, IsGood, node_in}
use Rattle.spur_heap.specs.Entering.{CanTurn, TurnsIntoPage, without_node, without_spot}
use Rattle.spur_heap.proofs.InPlace.{kept, start-same, final-same}
use Rattle.spur_heap.proofs.ClassTable.{key_kept, key_past}
use Rattle.spur_heap.proofs.Figures.{AreOnce, starts_once, node_count}
use Rattle.spur_heap.proofs.Lone.{lone_page, led_value, unheld, unspecial, pinned_is}
use Rattle.spur_heap.proofs.NodesAt.{get_there}
use Rattle.spur_heap.proofs.Paged.{Pages, paged, alike, ordinary-other, ordinary-here, internal-other, internal-here, good-other, nil-here, nil-other}
use Rattle.spur_heap.proofs.PagedGraph.{paged-read, paged-nodes, paged-classes, paged-mourners}
use Rattle.spur_heap.proofs.Touched.{touched_graph, touched_room}
use Rattle.spur_heap.proofs.Turned.{turned, new_roots, turned_touch, turned_store, turned_whole, its_chunk}

-- a name that has a node is put back where it was taken
pub put_back : {X : Type 0} (m : FinMap nat_cmp X) (s : ℕ) (x : X) → get m s ≡ Some x → m ≡ insert (remove m s) s x
put_back m s x is = same_map nat_cmp_total nat_cmp-IsAntisymmetric m (insert (remove m s) s x) (λ q. at q ∙ sym (get-insert nat_cmp_total (remove m s) s x q ∙ ap (cond (eq_by_cmp nat_cmp q s) (Some x)) (get-remove nat_cmp_total m s q)))
  where
    at : (q : ℕ) → get m q ≡ cond (eq_by_cmp nat_cmp q s) (Some x) (cond (eq_by_cmp nat_cmp q s) None (get m q))
    at q = elim (cases_Bool (eq_by_cmp nat_cmp q s)) [
      | inl on ↦ ap (get m) (key_same q s on) ∙ is ∙ sym (ap (λ b. cond b (Some x) (cond b None (get m q))) on)
      | inr off ↦ sym (ap (λ b. cond b (Some x) (cond b None (get m q))) off)
    ]

pub taken_none : {X : Type 0} (m : FinMap nat_cmp X) (s : ℕ) → get (remove m s) s ≡ None
taken_none m s = get-remove nat_cmp_total m s s ∙ ap (λ b. cond b None (get m s)) (same_key s s refl)

-- what was put is taken again
pub take_back : {X : Type 0} (m : FinMap nat_cmp X) (s : ℕ) (x : X) → get m s ≡ None → remove (insert m s x) s ≡ m
take_back m s x none = same_map nat_cmp_total nat_cmp-IsAntisymmetric (remove (insert m s x) s) m (λ q. get-remove nat_cmp_total (insert m s x) s q ∙ ap (cond (eq_by_cmp nat_cmp q s) None) (get-insert nat_cmp_total m s x q) ∙ at q)
  where
    at : (q : ℕ) → cond (eq_by_cmp nat_cmp q s) None (cond (eq_by_cmp nat_cmp q s) (Some x) (get m q)) ≡ get m q
    at q = elim (cases_Bool (eq_by_cmp nat_cmp q s)) [
      | inl on ↦ ap (λ b. cond b None (cond b (Some x) (get m q))) on ∙ sym (ap (get m) (key_same q s on) ∙ none)
      | inr off ↦ ap (λ b. cond b None (cond b (Some x) (get m q))) off
    ]

module _ {v : View} {place start : ℕ} (whole : IsWhole v) (can : CanTurn v place start) where
  abbrev h : Store
  h = store_of v

  abbrev u : View
  u = turned whole can

  abbrev k : Pages h place (word_of start) start (body_at h (first h 4))
  k = lone_page whole can

  abbrev new : Store
  new = paged k

  handles_kept : handle_values (read own_name new) v.handles ≡ handle_values (read own_name h) v.handles
  handles_kept = same_map handles_total exact_handles (handle_values (read own_name new) v.handles) (handle_values (read own_name h) v.handles) (λ a.
      get-handle_values (read own_name new) v.handles a ∙ one a (get v.handles a) refl ∙ sym (get-handle_values (read own_name h) v.handles a))
    where
      one : (a : Handle) (o : Option ℕ) → get v.handles a ≡ o → option_map (read own_name new) (get v.handles a) ≡ option_map (read own_name h) (get v.handles a)
      one a None e = ap (option_map (read own_name new)) e ∙ sym (ap (option_map (read own_name h)) e)
      one a (Some w) e = ap (option_map (read own_name new)) e ∙ ap (λ x. Some x) (paged-read k w (unheld whole can a w e)) ∙ sym (ap (option_map (read own_name h)) e)

  pub turned_graph : heap_graph u ≡ without_node (heap_graph v) start
  turned_graph =
      let nodes = paged-nodes k (remove (heap_graph v).nodes start) (node_in v start) (put_back (heap_graph v).nodes start (node_in v start) (get_there v start can.there)) (taken_none (heap_graph v).nodes start) in
      touched_graph v u.words (first h 4) (There (new_roots whole can)) (turned_touch whole can)
      ∙ (λ x. record (heap_graph v) {
        nodes = nodes x;
        special = paged-read k v.special (unspecial whole can) x;
        classes = paged-classes k x;
        handles = handles_kept x;
        mourners = paged-mourners k v.mourners x;
      })

  unled : (w : ℕ) → heap_value v w ≢ Ref start → lead h w ≢ Some start
  unled w n is = n (led_value v w start can.there is)

  pub turned_value : (w : ℕ) → heap_value v w ≢ Ref start → heap_value u w ≡ heap_value v w
  turned_value w n = ap (λ (g : Store). read own_name g w) (turned_store whole can) ∙ paged-read k w (unled w n)

  pub turned_good : (w : ℕ) → heap_value v w ≢ Ref start → IsGood v w → IsGood u w
  turned_good w n good = ap (λ (g : Store). is_good_word g w) (turned_store whole can) ∙ good-other k w (unled w n) ∙ good

  pub turned_ordinary : (t : ℕ) → t ≢ start → IsOrdinary v t → IsOrdinary u t
  turned_ordinary t n on = ap (λ (g : Store). is_ordinary g t) (turned_store whole can) ∙ ordinary-other k t n ∙ on

  -- there is one ordinary object fewer
  pub turned_count : length (ordinary_starts h) ≡ length (ordinary_starts (store_of u)) + 1
  turned_count =
      let m : FinMap nat_cmp Node = remove (heap_graph v).nodes start in
      let back = put_back (heap_graph v).nodes start (node_in v start) (get_there v start can.there) in
      sym (node_count v whole) ∙ ap (λ (ns : FinMap nat_cmp Node). len ns) back ∙ len-insert nat_cmp_total m start (node_in v start)
      ∙ ap (λ o. cond (is_some o) (len m) (len m + 1)) (taken_none (heap_graph v).nodes start)
      ∙ ap (λ (g : Graph). len g.nodes + 1) (sym turned_graph) ∙ ap (λ n. n + 1) (node_count u (turned_whole whole can))

  -- ---- the room

  spots_less : (space : Space) (tail tail' : List (ℕ × Spot)) (q : ℕ) → find nat_cmp q tail' ≡ cond (eq_by_cmp nat_cmp q start) None (find nat_cmp q tail)
      → (cs : List Chunk) → find nat_cmp q (spots_of space new cs ++ tail') ≡ cond (eq_by_cmp nat_cmp q start) None (find nat_cmp q (spots_of space h cs ++ tail))
  spots_less space tail tail' q base [] = base
  spots_less space tail tail' q base (c ∷ cs) =
      let more : find nat_cmp q (spots_of space new cs ++ tail') ≡ cond (eq_by_cmp nat_cmp q start) None (find nat_cmp q (spots_of space h cs ++ tail)) = spots_less space tail tail' q base cs in
      elim (cases_eq c.start start) [
        | inl e ↦
            let off : is_ordinary new c.start ≡ false = ap (is_ordinary new) e ∙ ordinary-here k in
            elim (cases_Bool (is_ordinary h c.start)) [
              | inr none ↦ rw (off, none) more
              | inl on ↦ elim (cases_Bool (eq_by_cmp nat_cmp q start)) [
                | inl same ↦ rw (off, on, same) (more ∙ ap (λ b. cond b None (find nat_cmp q (spots_of space h cs ++ tail))) same)
                | inr other ↦
                    let apart : eq_by_cmp nat_cmp q c.start ≡ false = ap (eq_by_cmp nat_cmp q) e ∙ other in
                    rw (off, on, other, apart) (more ∙ ap (λ b. cond b None (find nat_cmp q (spots_of space h cs ++ tail))) other)
              ]
            ]
        | inr n ↦ elim (cases_Bool (is_ordinary h c.start)) [
          | inr none ↦ rw (ordinary-other k c.start n ∙ none, none) more
          | inl on ↦ elim (cases_Bool (eq_by_cmp nat_cmp q c.start)) [
            | inr apart ↦ rw (ordinary-other k c.start n ∙ on, on, apart) more
            | inl same ↦
                let other : eq_by_cmp nat_cmp q start ≡ false = false_from_ne_true _ (λ at. n (sym (key_same q c.start same) ∙ key_same q start at)) in
                rw (ordinary-other k c.start n ∙ on, on, same, other) refl
          ]
        ]
      ]

  abbrev spots : Store → List Chunk → List Chunk → List Chunk → List (ℕ × Spot)
  spots x O E P = spots_of Old x O ++ (spots_of Eden x E ++ spots_of Past x P)

  nothing : (q : ℕ) → find {X = Spot} nat_cmp q [] ≡ cond (eq_by_cmp nat_cmp q start) None (find {X = Spot} nat_cmp q [])
  nothing q = elim (cases_Bool (eq_by_cmp nat_cmp q start)) [ inl on ↦ rw on refl | inr off ↦ rw off refl ]

  spots_are : (O E P : List Chunk) → from_entries {R = nat_cmp} (spots new O E P) ≡ remove (from_entries {R = nat_cmp} (spots h O E P)) start
  spots_are O E P = same_map nat_cmp_total nat_cmp-IsAntisymmetric (from_entries {R = nat_cmp} (spots new O E P)) (remove (from_entries {R = nat_cmp} (spots h O E P)) start) (λ q.
      get-from_entries nat_cmp_total (spots new O E P) q
      ∙ spots_less Old (spots_of Eden h E ++ spots_of Past h P) (spots_of Eden new E ++ spots_of Past new P) q (spots_less Eden (spots_of Past h P) (spots_of Past new P) q (past q) E) O
      ∙ sym (get-remove nat_cmp_total (from_entries {R = nat_cmp} (spots h O E P)) start q ∙ ap (cond (eq_by_cmp nat_cmp q start) None) (get-from_entries nat_cmp_total (spots h O E P) q)))
    where
      past : (q : ℕ) → find nat_cmp q (spots_of Past new P) ≡ cond (eq_by_cmp nat_cmp q start) None (find nat_cmp q (spots_of Past h P))
      past q = ap (find nat_cmp q) (sym (append-nil (spots_of Past new P))) ∙ spots_less Past [] [] q (nothing q) P ∙ ap (λ es. cond (eq_by_cmp nat_cmp q start) None (find nat_cmp q es)) (append-nil (spots_of Past h P))

  reached : (O : List Chunk) (t : ℕ) → is_reached new O t ≡ is_reached h O t
  unfolding is_reached
  reached O t = λ x. list_any (λ (c : Chunk). start-same (alike k).place c.start x && eqb (final-same (alike k).place c.start x) t) O

  names_less : (O : List Chunk) (q : ℕ) (cs : List Chunk)
      → list_any (eq_by_cmp nat_cmp q) (old_names_of new O cs) ≡ (not (eq_by_cmp nat_cmp q start) && list_any (eq_by_cmp nat_cmp q) (old_names_of h O cs))
  names_less O q [] = elim (cases_Bool (eq_by_cmp nat_cmp q start)) [ inl on ↦ rw on refl | inr off ↦ rw off refl ]
  names_less O q (c ∷ cs) =
      let more : list_any (eq_by_cmp nat_cmp q) (old_names_of new O cs) ≡ (not (eq_by_cmp nat_cmp q start) && list_any (eq_by_cmp nat_cmp q) (old_names_of h O cs)) = names_less O q cs in
      elim (cases_eq c.start start) [
        | inl e ↦
            let off : is_ordinary new c.start ≡ false = ap (is_ordinary new) e ∙ ordinary-here k in
            elim (cases_Bool (is_ordinary h c.start)) [
              | inr none ↦ rw (off, none) more
              | inl on ↦ elim (cases_Bool (is_reached h O c.start)) [
                | inr away ↦ rw (off, on, away) more
                | inl near ↦ elim (cases_Bool (eq_by_cmp nat_cmp q start)) [
                  | inl same ↦ rw (off, on, near, same) (more ∙ ap (λ b. not b && list_any (eq_by_cmp nat_cmp q) (old_names_of h O cs)) same)
                  | inr other ↦
                      let apart : eq_by_cmp nat_cmp q c.start ≡ false = ap (eq_by_cmp nat_cmp q) e ∙ other in
                      rw (off, on, near, other, apart) (more ∙ ap (λ b. not b && list_any (eq_by_cmp nat_cmp q) (old_names_of h O cs)) other)
                ]
              ]
            ]
        | inr n ↦ elim (cases_Bool (is_ordinary h c.start)) [
          | inr none ↦ rw (ordinary-other k c.start n ∙ none, none) more
          | inl on ↦ elim (cases_Bool (is_reached h O c.start)) [
            | inr away ↦ rw (ordinary-other k c.start n ∙ on, on, reached O c.start ∙ away, away) more
            | inl near ↦ elim (cases_Bool (eq_by_cmp nat_cmp q c.start)) [
              | inr apart ↦ rw (ordinary-other k c.start n ∙ on, on, reached O c.start ∙ near, near, apart) more
              | inl same ↦
                  let other : eq_by_cmp nat_cmp q start ≡ false = false_from_ne_true _ (λ at. n (sym (key_same q c.start same) ∙ key_same q start at)) in
                  rw (ordinary-other k c.start n ∙ on, on, reached O c.start ∙ near, near, same, other) refl
            ]
          ]
        ]
      ]

  names_are : (O all : List Chunk) → sets.from_list {R = nat_cmp} (old_names_of new O all) ≡ sets.remove (sets.from_list {R = nat_cmp} (old_names_of h O all)) start
  names_are O all = sets.same_set nat_cmp_total nat_cmp-IsAntisymmetric (sets.from_list {R = nat_cmp} (old_names_of new O all)) (sets.remove (sets.from_list {R = nat_cmp} (old_names_of h O all)) start) (λ q.
      sets.contains-from_list nat_cmp_total (old_names_of new O all) q ∙ names_less O q all
      ∙ sym (sets.contains-remove nat_cmp_total (sets.from_list {R = nat_cmp} (old_names_of h O all)) start q ∙ ap (λ b. not (eq_by_cmp nat_cmp q start) && b) (sets.contains-from_list nat_cmp_total (old_names_of h O all) q)))

  -- ---- internal objects

  inside-other : (d : Chunk) → d.start ≢ start → (is_start (new.cell d.start) && is_internal new d.start) ≡ (is_start (h.cell d.start) && is_internal h d.start)
  inside-other d n = λ x. start-same (alike k).place d.start x && internal-other k d.start n x

  abbrev its : Chunk
  its = (its_chunk whole can).chunk

  inside-here : (is_start (new.cell its.start) && is_internal new its.start) ≡ true
  inside-here =
      let is = (its_chunk whole can).start in
      let starts : is_start (new.cell start) ≡ true = start-same (alike k).place start ∙ there_starts (h.cell start) (ordinary_there h start can.there) in
      ap (λ t. is_start (new.cell t) && is_internal new t) is ∙ (λ x. starts x && internal-here k x)

  inside-was : (is_start (h.cell its.start) && is_internal h its.start) ≡ false
  inside-was = and_right _ _ (ap (is_internal h) (its_chunk whole can).start ∙ not-true _ (and_parts _ _ can.there).1)

  inside-same : (cs : List Chunk) → (In (starts_of cs) start → ⊥) → internal_chunks new cs ≡ internal_chunks h cs
  inside-same cs none = filter_members (λ (d : Chunk). is_start (new.cell d.start) && is_internal new d.start) (λ (d : Chunk). is_start (h.cell d.start) && is_internal h d.start) cs
      (λ d m. inside-other d (λ e. none (subst (In (starts_of cs)) e (start_of_chunk cs d m))))

  sum_more : (f : Chunk → ℕ) (cs : List Chunk) → In cs its → AreOnce (starts_of cs) → sum_by f (internal_chunks new cs) ≡ sum_by f (internal_chunks h cs) + f its
  sum_more f [] m once = absurd m
  sum_more f (d ∷ ds) m once = elim m [
    | inl e ↦
        let is = (its_chunk whole can).start in
        let same : d.start ≡ start = ap (λ (x : Chunk). x.start) e ∙ is in
        let on : (is_start (new.cell d.start) && is_internal new d.start) ≡ true = ap (λ (x : Chunk). is_start (new.cell x.start) && is_internal new x.start) e ∙ inside-here in
        let off : (is_start (h.cell d.start) && is_internal h d.start) ≡ false = ap (λ (x : Chunk). is_start (h.cell x.start) && is_internal h x.start) e ∙ inside-was in
        let rest : internal_chunks new ds ≡ internal_chunks h ds = inside-same ds (λ i. once.0 (subst (In (starts_of ds)) (sym same) i)) in
        let size : f d ≡ f its = ap f e in
        ap (λ b. sum_by f (cond b (d ∷ internal_chunks new ds) (internal_chunks new ds))) on ∙ sum_by-cons f d (internal_chunks new ds)
        ∙ (let a : sum_by f (internal_chunks new ds) ≡ sum_by f (internal_chunks h ds) = ap (sum_by f) rest in omega (arith, a, size))
        ∙ sym (ap (λ b. sum_by f (cond b (d ∷ internal_chunks h ds) (internal_chunks h ds)) + f its) off)
    | inr i ↦
        let apart : d.start ≢ start = λ e. once.0 (subst (In (starts_of ds)) ((its_chunk whole can).start ∙ sym e) (start_of_chunk ds its i)) in
        let more : sum_by f (internal_chunks new ds) ≡ sum_by f (internal_chunks h ds) + f its = sum_more f ds i once.1 in
        ap (λ b. sum_by f (cond b (d ∷ internal_chunks new ds) (internal_chunks new ds))) (inside-other d apart)
        ∙ elim (cases_Bool (is_start (h.cell d.start) && is_internal h d.start)) [
          | inl on ↦
              ap (λ b. sum_by f (cond b (d ∷ internal_chunks new ds) (internal_chunks new ds))) on ∙ sum_by-cons f d (internal_chunks new ds)
              ∙ (let c = sum_by-cons f d (internal_chunks h ds) in omega (arith, more, c))
              ∙ sym (ap (λ b. sum_by f (cond b (d ∷ internal_chunks h ds) (internal_chunks h ds)) + f its) on)
          | inr off ↦
              ap (λ b. sum_by f (cond b (d ∷ internal_chunks new ds) (internal_chunks new ds))) off ∙ more
              ∙ sym (ap (λ b. sum_by f (cond b (d ∷ internal_chunks h ds) (internal_chunks h ds)) + f its) off)
        ]
  ]

  once_old : AreOnce (starts_of (old_row v.words v.spaces))
  once_old = starts_once v.words 0 v.spaces.old_end (old_row v.words v.spaces) (cuts-in_order v.words 0 v.spaces.old_end (old_row v.words v.spaces) whole.rows.old)

  words_are : sum_by (λ (c : Chunk). c.size) (internal_chunks new (old_row v.words v.spaces)) ≡ sum_by (λ (c : Chunk). c.size) (internal_chunks h (old_row v.words v.spaces)) + page_words
  words_are =
      sum_more (λ (c : Chunk). c.size) (old_row v.words v.spaces) (its_chunk whole can).inside once_old
      ∙ ap (λ n. sum_by (λ (c : Chunk). c.size) (internal_chunks h (old_row v.words v.spaces)) + n) (ap (λ (s : Spot). s.words) (its_chunk whole can).is)

  pins_are : count_by (λ (c : Chunk). (body_at new c.start).pinned == 1) (internal_chunks new (old_row v.words v.spaces)) ≡ count_by (λ (c : Chunk). (body_at h c.start).pinned == 1) (internal_chunks h (old_row v.words v.spaces))
  pins_are =
      let f : Chunk → ℕ = λ c. cond ((body_at h c.start).pinned == 1) 1 0 in
      let none : f its ≡ 0 = ap (λ t. cond ((body_at h t).pinned == 1) 1 0) (its_chunk whole can).start ∙ ap (λ b. cond b 1 0) (ne_eqb (body_at h start).pinned 1 (pinned_is whole can)) in
      let more : sum_by f (internal_chunks new (old_row v.words v.spaces)) ≡ sum_by f (internal_chunks h (old_row v.words v.spaces)) + f its = sum_more f (old_row v.words v.spaces) (its_chunk whole can).inside once_old in
      (λ x. count_by (λ (c : Chunk). kept (alike k).place (λ y. (body_of y).pinned) refl c.start x == 1) (internal_chunks new (old_row v.words v.spaces)))
      ∙ (let same : sum_by f (internal_chunks new (old_row v.words v.spaces)) ≡ sum_by f (internal_chunks h (old_row v.words v.spaces)) = omega (arith, more, none) in same)

  -- ---- pages

  pages_are : sets.from_list {R = nat_cmp} (filter (λ i. not (is_nil_slot new i)) (range_with_len 0 page_places)) ≡ sets.insert (sets.from_list {R = nat_cmp} (filter (λ i. not (is_nil_slot h i)) (range_with_len 0 page_places))) place
  pages_are = among page_places can.below
    where
      among : (n : ℕ) → place < n → sets.from_list {R = nat_cmp} (filter (λ i. not (is_nil_slot new i)) (range_with_len 0 n)) ≡ sets.insert (sets.from_list {R = nat_cmp} (filter (λ i. not (is_nil_slot h i)) (range_with_len 0 n))) place
      among n l = sets.same_set nat_cmp_total nat_cmp-IsAntisymmetric (sets.from_list {R = nat_cmp} (filter (λ i. not (is_nil_slot new i)) (range_with_len 0 n))) (sets.insert (sets.from_list {R = nat_cmp} (filter (λ i. not (is_nil_slot h i)) (range_with_len 0 n))) place) (λ q.
          sets.contains-from_list nat_cmp_total (filter (λ i. not (is_nil_slot new i)) (range_with_len 0 n)) q ∙ at q
          ∙ sym (sets.contains-insert nat_cmp_total (sets.from_list {R = nat_cmp} (filter (λ i. not (is_nil_slot h i)) (range_with_len 0 n))) place q
          ∙ ap (λ b. eq_by_cmp nat_cmp q place || b) (sets.contains-from_list nat_cmp_total (filter (λ i. not (is_nil_slot h i)) (range_with_len 0 n)) q)))
        where
          at : (q : ℕ) → list_any (eq_by_cmp nat_cmp q) (filter (λ i. not (is_nil_slot new i)) (range_with_len 0 n)) ≡ (eq_by_cmp nat_cmp q place || list_any (eq_by_cmp nat_cmp q) (filter (λ i. not (is_nil_slot h i)) (range_with_len 0 n)))
          at q = elim (cases_eq q place) [
            | inl e ↦
                key_kept (λ i. not (is_nil_slot new i)) n q (omega (arith, e, l)) ∙ ap (λ i. not (is_nil_slot new i)) e ∙ ap not (nil-here k)
                ∙ sym (ap (λ b. b || list_any (eq_by_cmp nat_cmp q) (filter (λ i. not (is_nil_slot h i)) (range_with_len 0 n))) (same_key q place e))
            | inr m ↦ elim (cases_lt q n) [
              | inl low ↦ key_kept (λ i. not (is_nil_slot new i)) n q low ∙ ap not (nil-other k q m) ∙ sym (key_kept (λ i. not (is_nil_slot h i)) n q low)
              | inr far ↦ key_past (λ i. not (is_nil_slot new i)) n q far ∙ sym (key_past (λ i. not (is_nil_slot h i)) n q far)
            ] ∙ sym (ap (λ b. b || list_any (eq_by_cmp nat_cmp q) (filter (λ i. not (is_nil_slot h i)) (range_with_len 0 n))) (false_from_ne_true _ (λ on. m (key_same q place on))))
          ]

  pub turned_room : heap_room u ≡ with_page (without_spot (heap_room v) start) place
  unfolding room_in
  turned_room =
      let O : List Chunk = old_row v.words v.spaces in
      let E : List Chunk = eden_row v.words v.spaces in
      let P : List Chunk = past_row v.words v.spaces in
      touched_room v u.words (first h 4) (There (new_roots whole can)) (turned_touch whole can)
      ∙ (λ x. record (heap_room v) {
        spots = spots_are O E P x;
        old_names = names_are O (O ++ (E ++ P)) x;
        free = ascending (map (λ (c : Chunk). c.size) (filter (λ (c : Chunk). not (start-same (alike k).place c.start x)) O));
        internal_words = words_are x;
        internal_pinned = pins_are x;
        pages = pages_are x;
      })

  pub turns : TurnsIntoPage v u place start
  turns = record {
    graph = turned_graph;
    room = turned_room;
    values = turned_value;
    goods = turned_good;
    ordinary = turned_ordinary;
    rest = refl;
  }
