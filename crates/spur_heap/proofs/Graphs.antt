-- The graph and the room of a store and of the same with other words in one ordinary object.
use Rattle.std.proofs.Common.{◌≡◌, ◌≢◌, ℕ, Bool, true, cond, not, ◌&&◌, ◌==◌, ◌-◌, ◌+◌, eqb, List, [], ◌∷◌, ◌++◌, map, refl, sym, ap, ◌∙◌, inl, inr, Some}
use Rattle.std.proofs.lemmas.Bool.{cases_Bool, cases_eq, and_parts, false_from_ne_true}
use Rattle.std.proofs.lemmas.List.Elements.{filter_agree}
use Rattle.std.proofs.lemmas.List.Sums.{sum_by-cons}
use Rattle.std.specs.Option.{unwrap_or}
use Rattle.std.specs.List.{filter, range_with_len, sum_by, count_by, list_any}
use Rattle.std.specs.Ordering.{nat_cmp, eq_by_cmp}
use Rattle.std.specs.Cmp.{nat_cmp_total}
use Rattle.std.specs.FinMap.{FinMap, get, insert, from_entries, find, get-from_entries, get-insert, same_map, nat_cmp-IsAntisymmetric}
use Rattle.std.specs.FinSet as sets
use Rattle.spur_graph.specs.declared.answer.Value.TheVariants.{Ref}
use Rattle.spur_graph.specs.declared.limits.Limits.{Limits}
use Rattle.spur_graph.specs.Value.{value_of}
use Rattle.spur_graph.specs.Graph.{handle_cmp, with_node}
use Rattle.object_header.specs.Chunks.{Chunk}
use Rattle.spur_graph.specs.Cells.{Body, Store, body_of, first, pointers, units, is_start}
use Rattle.spur_graph.specs.Ordinary.{class_limit, page_places, body_at, is_internal, is_ordinary, ordinary_starts, has_page, entry}
use Rattle.spur_graph.specs.CellGraph.{read, node_of, nodes_of, has_class, classes_of}
use Rattle.spur_graph.specs.Room.{Space, Old, Eden, Past}
use Rattle.spur_graph.specs.FreeSizes.{ascending}
use Rattle.spur_graph.specs.CellRoom.{internal_chunks}
use Rattle.spur_graph.specs.HeapRoom.{room_in, is_reached, spot_in, spots_of}
use Rattle.spur_graph.specs.Heaps.{own_name, handle_values, graph_in, mourners_of}
use Rattle.heap_cells.proofs.Members.{In, in_filter}
use Rattle.heap_cells.proofs.Finding.{same_key, key_same}
use Rattle.spur_heap.proofs.InPlace.{changed, cell-here, cell-other, final-same, lead-same, start-same}
use Rattle.spur_heap.proofs.Swap.{Swap, reference-same, ordinary-same, internal-same, inner-pinned, nil_slot-same}
use Rattle.spur_heap.proofs.Changing.{Change, swap_of, entry-same, has_class-same}

-- ---- tables

module _ {X : Type 0} (f g : ℕ → X) (s : ℕ) (x : X) (is : g s ≡ x) (others : (t : ℕ) → t ≢ s → g t ≡ f t) where
  find_other : (k : ℕ) → k ≢ s → (ts : List ℕ) → find nat_cmp k (map (λ t. (t, g t)) ts) ≡ find nat_cmp k (map (λ t. (t, f t)) ts)
  find_other k n [] = refl
  find_other k n (t ∷ ts) = elim (cases_Bool (eq_by_cmp nat_cmp k t)) [
    | inl on ↦ let e : t ≢ s = λ e. n (key_same k t on ∙ e) in
        ap (λ b. cond b (Some (g t)) (find nat_cmp k (map (λ u. (u, g u)) ts))) on ∙ ap (λ y. Some y) (others t e) ∙ sym (ap (λ b. cond b (Some (f t)) (find nat_cmp k (map (λ u. (u, f u)) ts))) on)
    | inr off ↦ ap (λ b. cond b (Some (g t)) (find nat_cmp k (map (λ u. (u, g u)) ts))) off ∙ find_other k n ts ∙ sym (ap (λ b. cond b (Some (f t)) (find nat_cmp k (map (λ u. (u, f u)) ts))) off)
  ]

  find_own : (ts : List ℕ) → In ts s → find nat_cmp s (map (λ t. (t, g t)) ts) ≡ Some x
  find_own [] k = absurd k
  find_own (t ∷ ts) k = elim (cases_eq s t) [
    | inl e ↦ ap (λ b. cond b (Some (g t)) (find nat_cmp s (map (λ u. (u, g u)) ts))) (same_key s t e) ∙ ap (λ u. Some (g u)) (sym e) ∙ ap (λ y. Some y) is
    | inr n ↦ ap (λ b. cond b (Some (g t)) (find nat_cmp s (map (λ u. (u, g u)) ts))) (false_from_ne_true _ (λ on. n (key_same s t on)))
        ∙ elim k [ inl e ↦ absurd (n (sym e)) | inr m ↦ find_own ts m ]
  ]

  -- a table in which one value is another
  table_changed : (ts : List ℕ) → In ts s → from_entries {R = nat_cmp} (map (λ t. (t, g t)) ts) ≡ insert (from_entries {R = nat_cmp} (map (λ t. (t, f t)) ts)) s x
  table_changed ts m = same_map nat_cmp_total nat_cmp-IsAntisymmetric (from_entries {R = nat_cmp} (map (λ t. (t, g t)) ts)) (insert (from_entries {R = nat_cmp} (map (λ t. (t, f t)) ts)) s x) (λ k.
      get-from_entries nat_cmp_total (map (λ t. (t, g t)) ts) k ∙ at k
      ∙ sym (get-insert nat_cmp_total (from_entries {R = nat_cmp} (map (λ t. (t, f t)) ts)) s x k))
    where
      at : (k : ℕ) → find nat_cmp k (map (λ t. (t, g t)) ts) ≡ cond (eq_by_cmp nat_cmp k s) (Some x) (get (from_entries {R = nat_cmp} (map (λ t. (t, f t)) ts)) k)
      at k = elim (cases_eq k s) [
        | inl e ↦ ap (λ n. find nat_cmp n (map (λ t. (t, g t)) ts)) e ∙ find_own ts m ∙ sym (ap (λ b. cond b (Some x) (get (from_entries {R = nat_cmp} (map (λ t. (t, f t)) ts)) k)) (same_key k s e))
        | inr n ↦ find_other k n ts ∙ sym (get-from_entries nat_cmp_total (map (λ t. (t, f t)) ts) k)
            ∙ sym (ap (λ b. cond b (Some x) (get (from_entries {R = nat_cmp} (map (λ t. (t, f t)) ts)) k)) (false_from_ne_true _ (λ on. n (key_same k s on))))
      ]

-- functions that agree where a test holds
pub map_kept : {X : Type 0} (test : ℕ → Bool) (f g : ℕ → X) → ((j : ℕ) → test j ≡ true → g j ≡ f j) → (js : List ℕ) → map g (filter test js) ≡ map f (filter test js)
map_kept test f g e [] = refl
map_kept test f g e (j ∷ js) = elim (cases_Bool (test j)) [
  | inl on ↦ rw on (λ x. e j on x ∷ map_kept test f g e js x)
  | inr off ↦ rw off (map_kept test f g e js)
]

-- tests that agree where another holds
count_kept : (test f g : Chunk → Bool) → ((c : Chunk) → test c ≡ true → f c ≡ g c) → (cs : List Chunk) → count_by f (filter test cs) ≡ count_by g (filter test cs)
count_kept test f g e [] = refl
count_kept test f g e (c ∷ cs) = elim (cases_Bool (test c)) [
  | inl on ↦ rw on (sum_by-cons (λ d. cond (f d) 1 0) c (filter test cs) ∙ (λ x. cond (e c on x) 1 0 + count_kept test f g e cs x) ∙ sym (sum_by-cons (λ d. cond (g d) 1 0) c (filter test cs)))
  | inr off ↦ rw off (count_kept test f g e cs)
]

-- ---- the change

module _ {old : Store} {s : ℕ} {b : Body} {b' : Body} (k : Swap old s b b') where
  pub read-same : (w : ℕ) → read own_name (changed old s b') w ≡ read own_name old w
  unfolding read
  read-same w = λ x. unwrap_or (value_of (λ v. cond (reference-same k v x) (Ref (unwrap_or (lead-same k.place v x) (first old 0))) (Ref (first old 0))) w) (Ref (first old 0))

  pub node-same : (c : Body) → node_of own_name (changed old s b') c ≡ node_of own_name old c
  unfolding node_of
  node-same c = λ x. record { class = c.class; hash = c.hash; format = c.format; pointers = map (λ w. read-same w x) (pointers c); units = units c; pinned = c.pinned == 1; readonly = c.readonly == 1 }

  pub starts-same : ordinary_starts (changed old s b') ≡ ordinary_starts old
  unfolding ordinary_starts
  starts-same = filter_agree (is_ordinary (changed old s b')) (is_ordinary old) (ordinary-same k) old.starts

  pub mourners-same : (groups : List (List ℕ)) → mourners_of (changed old s b') groups ≡ mourners_of old groups
  mourners-same groups = λ x. map (map (λ t. final-same k.place t x)) groups

  reached-same : (cs : List Chunk) (t : ℕ) → is_reached (changed old s b') cs t ≡ is_reached old cs t
  unfolding is_reached
  reached-same cs t = λ x. list_any (λ (c : Chunk). start-same k.place c.start x && eqb (final-same k.place c.start x) t) cs

  pub room-same : (front eden past : List Chunk) (words : ℕ) (limits : Limits) (eden_used past_used : ℕ)
      → room_in (changed old s b') front eden past words limits eden_used past_used ≡ room_in old front eden past words limits eden_used past_used
  unfolding room_in
  room-same front eden past words limits eden_used past_used =
      let pins : count_by (λ (c : Chunk). (body_at (changed old s b') c.start).pinned == 1) (internal_chunks (changed old s b') front) ≡ count_by (λ (c : Chunk). (body_at old c.start).pinned == 1) (internal_chunks old front) =
      (λ x. count_by (λ (c : Chunk). (body_at (changed old s b') c.start).pinned == 1) (filter (λ (c : Chunk). start-same k.place c.start x && internal-same k c.start x) front))
      ∙ count_kept (λ (c : Chunk). is_start (old.cell c.start) && is_internal old c.start) (λ (c : Chunk). (body_at (changed old s b') c.start).pinned == 1) (λ (c : Chunk). (body_at old c.start).pinned == 1)
      (λ c e. ap (λ n. n == 1) (inner-pinned k c.start (and_parts (is_start (old.cell c.start)) (is_internal old c.start) e).1)) front in
      let ordinary : (cs : List Chunk) → filter (λ (c : Chunk). is_ordinary (changed old s b') c.start) cs ≡ filter (λ (c : Chunk). is_ordinary old c.start) cs =
      λ cs x. filter (λ (c : Chunk). ordinary-same k c.start x) cs in
      let spots : (space : Space) (cs : List Chunk) → spots_of space (changed old s b') cs ≡ spots_of space old cs =
      λ space cs x. map (λ (c : Chunk). (c.start, spot_in space c)) (ordinary cs x) in
      λ x. record {
        old_words = words;
        eden_words = limits.eden;
        survivor_words = limits.survivor;
        spots = from_entries (spots Old front x ++ (spots Eden eden x ++ spots Past past x));
        old_names = sets.from_list (map (λ (c : Chunk). c.start) (filter (λ (c : Chunk). reached-same front c.start x) (ordinary (front ++ (eden ++ past)) x)));
        free = ascending (map (λ (c : Chunk). c.size) (filter (λ (c : Chunk). not (start-same k.place c.start x)) front));
        eden_left = limits.eden - eden_used;
        past_used = past_used;
        internal_words = sum_by (λ (c : Chunk). c.size) (filter (λ (c : Chunk). start-same k.place c.start x && internal-same k c.start x) front);
        internal_pinned = pins x;
        pages = sets.from_list (filter (λ i. not (nil_slot-same k i x)) (range_with_len 0 page_places));
      }

-- ---- stores whose nodes and entries read the same

module _ (old new : Store) where
  pub nodes-alike : ordinary_starts new ≡ ordinary_starts old → ((t : ℕ) → node_of own_name new (body_at new t) ≡ node_of own_name old (body_at old t)) → nodes_of own_name new ≡ nodes_of own_name old
  unfolding nodes_of
  nodes-alike starts node = λ x. from_entries {R = nat_cmp} (map (λ t. (t, node t x)) (starts x))

  pub classes-alike : ((i : ℕ) → has_class new i ≡ has_class old i) → ((i : ℕ) → has_page old i ≡ true → read own_name new (entry new i) ≡ read own_name old (entry old i))
      → classes_of own_name new ≡ classes_of own_name old
  unfolding classes_of
  classes-alike class value = among class_limit
    where
      among : (n : ℕ) → from_entries {R = nat_cmp} (map (λ j. (j, read own_name new (entry new j))) (filter (has_class new) (range_with_len 0 n))) ≡ from_entries {R = nat_cmp} (map (λ j. (j, read own_name old (entry old j))) (filter (has_class old) (range_with_len 0 n)))
      among n =
          ap (λ js. from_entries {R = nat_cmp} (map (λ j. (j, read own_name new (entry new j))) js)) (filter_agree (has_class new) (has_class old) class (range_with_len 0 n))
          ∙ ap (λ es. from_entries {R = nat_cmp} es) (map_kept (has_class old) (λ j. (j, read own_name old (entry old j))) (λ j. (j, read own_name new (entry new j)))
          (λ j e x. (j, value j (and_parts (has_page old j) _ e).0 x)) (range_with_len 0 n))

-- ---- of an ordinary object

module _ {old : Store} {s : ℕ} {b : Body} {b' : Body} (k : Change old s b b') where
  nodes-changed : In old.starts s → nodes_of own_name (changed old s b') ≡ insert (nodes_of own_name old) s (node_of own_name old b')
  unfolding nodes_of ordinary_starts
  nodes-changed m =
      ap (λ ss. from_entries {R = nat_cmp} (map (λ t. (t, node_of own_name (changed old s b') (body_at (changed old s b') t))) ss)) (starts-same (swap_of k))
      ∙ table_changed (λ t. node_of own_name old (body_at old t)) (λ t. node_of own_name (changed old s b') (body_at (changed old s b') t)) s (node_of own_name old b')
      (node-same (swap_of k) (body_at (changed old s b') s) ∙ ap (λ c. node_of own_name old (body_of c)) (cell-here (swap_of k).place))
      (λ t n. node-same (swap_of k) (body_at (changed old s b') t) ∙ ap (λ c. node_of own_name old (body_of c)) (cell-other (swap_of k).place t n))
      (ordinary_starts old) (in_filter (is_ordinary old) old.starts s m k.ordinary)

  classes-same : classes_of own_name (changed old s b') ≡ classes_of own_name old
  classes-same = classes-alike old (changed old s b') (has_class-same k) (λ i page. read-same (swap_of k) (entry (changed old s b') i) ∙ ap (read own_name old) (entry-same k i page))

  pub graph-changed : In old.starts s → (special : ℕ) (held : FinMap handle_cmp ℕ) (groups : List (List ℕ)) (hash next : ℕ)
      → graph_in (changed old s b') special held groups hash next ≡ with_node (graph_in old special held groups hash next) s (node_of own_name old b')
  graph-changed m special held groups hash next =
      λ x. record (graph_in old special held groups hash next) { nodes = nodes-changed m x; special = read-same (swap_of k) special x; classes = classes-same x; handles = handle_values (λ w. read-same (swap_of k) w x) held; mourners = mourners-same (swap_of k) groups x }
