-- The graph of a store and of the same with a forwarder in the place of an ordinary object: whatever named the object names the other.
use Rattle.std.proofs.Common.{◌≡◌, ◌≢◌, ℕ, Bool, true, false, cond, ◌==◌, ◌%◌, List, [], ◌∷◌, map, refl, sym, ap, ◌∙◌, arith, inl, inr, Some, None, Option}
use Rattle.std.proofs.lemmas.Bool.{cases_Bool, cases_eq, and_parts, false_from_ne_true}
use Rattle.std.proofs.lemmas.List.Elements.{filter_agree}
use Rattle.std.specs.Option.{option_map}
use Rattle.std.specs.List.{filter, range_with_len}
use Rattle.std.specs.Ordering.{nat_cmp, eq_by_cmp}
use Rattle.std.specs.Cmp.{nat_cmp_total}
use Rattle.std.specs.FinMap.{FinMap, get, remove, from_entries, find, get-from_entries, get-remove, same_map, nat_cmp-IsAntisymmetric}
use Rattle.spur_graph.specs.declared.answer.Value.{Value}
use Rattle.spur_graph.specs.declared.answer.Value.TheVariants.{Ref}
use Rattle.spur_graph.specs.Become.{map_values, instead, redirect}
use Rattle.spur_graph.specs.Value.{is_immediate_word}
use Rattle.spur_graph.specs.Names.{rename, rename_node}
use Rattle.spur_graph.specs.Graph.{handle_cmp}
use Rattle.spur_graph.specs.Handles.{handles_total}
use Rattle.spur_graph.specs.Cells.{Body, Store, body_of, first, final, lead, pointers, units}
use Rattle.spur_graph.specs.Ordinary.{class_limit, body_at, is_ordinary, is_good_reference, ordinary_starts, has_page, entry}
use Rattle.spur_graph.specs.CellGraph.{read, node_of, nodes_of, has_class, classes_of}
use Rattle.spur_graph.specs.Heaps.{own_name, handle_values, graph_in, mourners_of}
use Rattle.spur_graph.proofs.HandleMaps.{find-mapped, exact_handles}
use Rattle.spur_graph.proofs.MappedValues.{get-map_values}
use Rattle.heap_cells.proofs.Below.{passed}
use Rattle.heap_cells.proofs.Finding.{same_key, key_same}
use Rattle.heap_cells.proofs.Members.{filter_in}
use Rattle.heap_cells.proofs.Tables.{map_members}
use Rattle.heap_cells.proofs.HandleValues.{get-handle_values}
use Rattle.heap_cells.proofs.Values.{fixed, read-fixed, read-reference, read-none, reference-good, reference-bad}
use Rattle.heap_cells.proofs.Retargeting.{instead-other}
use Rattle.heap_cells.proofs.Forwarding.{Forwards, with_forwarder, others_kept, final-forwarded, lead-forwarded, reference-same, ordinary-here, ordinary-other, entry-same}
use Rattle.heap_cells.proofs.ForwardedClasses.{has_class-same}

-- ---- tables whose values go through a function

-- a table of values that are functions of others
listed-mapped : {X Y : Type 0} (f : X → Y) (F : ℕ → X) (js : List ℕ) → map {B = ℕ × Y} (λ j. (j, f (F j))) js ≡ map {B = ℕ × Y} (λ e. (e.0, f e.1)) (map {B = ℕ × X} (λ j. (j, F j)) js)
listed-mapped f F [] = refl
listed-mapped f F (j ∷ js) = ap (λ es. (j, f (F j)) ∷ es) (listed-mapped f F js)

table-mapped : {X Y : Type 0} (f : X → Y) (F : ℕ → X) (js : List ℕ) → from_entries {R = nat_cmp} (map (λ j. (j, f (F j))) js) ≡ map_values f (from_entries {R = nat_cmp} (map (λ j. (j, F j)) js))
table-mapped f F js = same_map nat_cmp_total nat_cmp-IsAntisymmetric _ _ (λ q.
    get-from_entries nat_cmp_total (map (λ j. (j, f (F j))) js) q ∙ ap (find nat_cmp q) (listed-mapped f F js) ∙ find-mapped nat_cmp f q (map (λ j. (j, F j)) js)
    ∙ ap (option_map f) (sym (get-from_entries nat_cmp_total (map (λ j. (j, F j)) js) q)) ∙ sym (get-map_values nat_cmp_total f (from_entries {R = nat_cmp} (map (λ j. (j, F j)) js)) q))

-- a table in which one key is gone, and the others' values have gone through a function
module _ {X Y : Type 0} (new old : ℕ → Bool) (F : ℕ → X) (G : ℕ → Y) (f : X → Y) (a : ℕ) (gone : new a ≡ false) (tests : (t : ℕ) → t ≢ a → new t ≡ old t) (values : (t : ℕ) → t ≢ a → G t ≡ f (F t)) where
  find_none : (ts : List ℕ) → find nat_cmp a (map (λ t. (t, G t)) (filter new ts)) ≡ None
  find_none [] = refl
  find_none (t ∷ ts) = elim (cases_Bool (new t)) [
    | inr off ↦ rw off (find_none ts)
    | inl on ↦
        let n : eq_by_cmp nat_cmp a t ≡ false = false_from_ne_true _ (λ e. true_gone t on (key_same a t e)) in
        rw (on, n) (find_none ts)
  ]
    where
      true_gone : (t : ℕ) → new t ≡ true → a ≡ t → ⊥
      true_gone t on e = let q : new t ≡ false = ap new (sym e) ∙ gone in cc

  pick : (b : Bool) (x : X) (y : Y) (o : Option X) (u : Option Y) → y ≡ f x → u ≡ option_map f o → cond b (Some y) u ≡ option_map f (cond b (Some x) o)
  pick true x y o u e is = ap (λ z. Some z) e
  pick false x y o u e is = is

  find_kept : (q : ℕ) → q ≢ a → (ts : List ℕ) → find nat_cmp q (map (λ t. (t, G t)) (filter new ts)) ≡ option_map f (find nat_cmp q (map (λ t. (t, F t)) (filter old ts)))
  find_kept q n [] = refl
  find_kept q n (t ∷ ts) = elim (cases_eq t a) [
    | inl e ↦
        let off : new t ≡ false = ap new e ∙ gone in
        let far : eq_by_cmp nat_cmp q t ≡ false = false_from_ne_true _ (λ x. n (key_same q t x ∙ e)) in
        rw off (find_kept q n ts ∙ ap (option_map f) (elim (cases_Bool (old t)) [
          | inr without ↦ rw without refl
          | inl with ↦ rw (with, far) refl
        ]))
    | inr other ↦ elim (cases_Bool (old t)) [
      | inr off ↦ let o : new t ≡ false = tests t other ∙ off in rw (o, off) (find_kept q n ts)
      | inl on ↦ let o : new t ≡ true = tests t other ∙ on in rw (o, on) (pick (eq_by_cmp nat_cmp q t) (F t) (G t) (find nat_cmp q (map (λ u. (u, F u)) (filter old ts))) (find nat_cmp q (map (λ u. (u, G u)) (filter new ts))) (values t other) (find_kept q n ts))
    ]
  ]

  table_without : (ts : List ℕ) → from_entries {R = nat_cmp} (map (λ t. (t, G t)) (filter new ts)) ≡ map_values f (remove (from_entries {R = nat_cmp} (map (λ t. (t, F t)) (filter old ts))) a)
  table_without ts = same_map nat_cmp_total nat_cmp-IsAntisymmetric _ _ (λ q.
      let was : FinMap nat_cmp X = from_entries {R = nat_cmp} (map (λ t. (t, F t)) (filter old ts)) in
      let left = get-from_entries nat_cmp_total (map (λ t. (t, G t)) (filter new ts)) q in
      let right : get (map_values f (remove was a)) q ≡ option_map f (cond (eq_by_cmp nat_cmp q a) None (get was q)) = get-map_values nat_cmp_total f (remove was a) q ∙ ap (option_map f) (get-remove nat_cmp_total was a q) in
      left ∙ elim (cases_eq q a) [
        | inl e ↦ ap (λ r. find nat_cmp r (map (λ t. (t, G t)) (filter new ts))) e ∙ find_none ts ∙ sym (ap (λ b. option_map f (cond b None (get was q))) (same_key q a e))
        | inr n ↦ find_kept q n ts ∙ ap (option_map f) (sym (get-from_entries nat_cmp_total (map (λ t. (t, F t)) (filter old ts)) q))
            ∙ sym (ap (λ b. option_map f (cond b None (get was q))) (false_from_ne_true _ (λ x. n (key_same q a x))))
      ] ∙ sym right)

-- ---- the graph

module _ {old : Store} {a b : ℕ} (k : Forwards old a b) where
  abbrev new : Store
  new = with_forwarder old a b

  nil_stays : rename (instead a b) (Ref (first old 0)) ≡ Ref (first old 0)
  nil_stays = ap (λ t. Ref t) (instead-other a b (first old 0) (λ e. k.plain 0 (omega arith) (sym e)))

  pub read-forwarded : (w : ℕ) → read own_name (with_forwarder old a b) w ≡ rename (instead a b) (read own_name old w)
  read-forwarded w = elim (cases_Bool (is_immediate_word w)) [
    | inl on ↦ let v = fixed w on in read-fixed own_name new w v ∙ sym (v.same (instead a b)) ∙ ap (rename (instead a b)) (sym (read-fixed own_name old w v))
    | inr off ↦ elim (cases_eq (w % 8) 0) [
      | inr n ↦ read-none own_name new w n off ∙ sym nil_stays ∙ ap (rename (instead a b)) (sym (read-none own_name old w n off))
      | inl z ↦ read-reference own_name new w z ∙ elim (cases_Bool (is_good_reference old w)) [
        | inl good ↦
            let g = passed (is_ordinary old) (lead old w) good in
            reference-good own_name new w (instead a b g.one) (reference-same k w ∙ good) (lead-forwarded k w ∙ ap (option_map (instead a b)) g.is)
            ∙ ap (rename (instead a b)) (sym (reference-good own_name old w g.one good g.is))
        | inr bad ↦ reference-bad own_name new w (reference-same k w ∙ bad) ∙ sym nil_stays ∙ ap (rename (instead a b)) (sym (reference-bad own_name old w bad))
      ] ∙ ap (rename (instead a b)) (sym (read-reference own_name old w z))
    ]
  ]

  values-forwarded : (ws : List ℕ) → map (read own_name new) ws ≡ map (rename (instead a b)) (map (read own_name old) ws)
  values-forwarded [] = refl
  values-forwarded (w ∷ ws) = λ x. read-forwarded w x ∷ values-forwarded ws x

  pub node-forwarded : (c : Body) → node_of own_name (with_forwarder old a b) c ≡ rename_node (instead a b) (node_of own_name old c)
  unfolding node_of
  node-forwarded c = λ x. record { class = c.class; hash = c.hash; format = c.format; pointers = values-forwarded (pointers c) x; units = units c; pinned = c.pinned == 1; readonly = c.readonly == 1 }

  nodes-forwarded : nodes_of own_name new ≡ map_values (rename_node (instead a b)) (remove (nodes_of own_name old) a)
  unfolding nodes_of ordinary_starts
  nodes-forwarded = table_without (is_ordinary new) (is_ordinary old) (λ t. node_of own_name old (body_at old t)) (λ t. node_of own_name new (body_at new t)) (rename_node (instead a b)) a
      (ordinary-here k) (ordinary-other k) (λ t n. ap (λ c. node_of own_name new (body_of c)) (others_kept k t n) ∙ node-forwarded (body_at old t)) old.starts

  classes-forwarded : classes_of own_name new ≡ map_values (rename (instead a b)) (classes_of own_name old)
  unfolding classes_of
  classes-forwarded = among class_limit
    where
      among : (n : ℕ) → from_entries {R = nat_cmp} (map (λ j. (j, read own_name new (entry new j))) (filter (has_class new) (range_with_len 0 n))) ≡ map_values (rename (instead a b)) (from_entries {R = nat_cmp} (map (λ j. (j, read own_name old (entry old j))) (filter (has_class old) (range_with_len 0 n))))
      among n =
          ap (λ js. from_entries {R = nat_cmp} (map (λ j. (j, read own_name new (entry new j))) js)) (filter_agree (has_class new) (has_class old) (has_class-same k) (range_with_len 0 n))
          ∙ ap (λ es. from_entries {R = nat_cmp} es) (map_members {Y = ℕ × Value} (λ j. (j, read own_name new (entry new j))) (λ j. (j, rename (instead a b) (read own_name old (entry old j)))) (filter (has_class old) (range_with_len 0 n)) (λ j m.
          let page = (and_parts (has_page old j) _ (filter_in (has_class old) (range_with_len 0 n) j m).1).0 in
          let value : read own_name new (entry new j) ≡ rename (instead a b) (read own_name old (entry old j)) = ap (read own_name new) (entry-same k j page) ∙ read-forwarded (entry old j) in
          λ x. (j, value x)))
          ∙ table-mapped (rename (instead a b)) (λ j. read own_name old (entry old j)) (filter (has_class old) (range_with_len 0 n))

  handles-forwarded : (held : FinMap handle_cmp ℕ) → handle_values (read own_name new) held ≡ map_values (rename (instead a b)) (handle_values (read own_name old) held)
  handles-forwarded held = same_map handles_total exact_handles _ _ (λ h.
      get-handle_values (read own_name new) held h ∙ through (get held h) ∙ ap (option_map (rename (instead a b))) (sym (get-handle_values (read own_name old) held h))
      ∙ sym (get-map_values handles_total (rename (instead a b)) (handle_values (read own_name old) held) h))
    where
      through : (o : Option ℕ) → option_map (read own_name new) o ≡ option_map (rename (instead a b)) (option_map (read own_name old) o)
      through None = refl
      through (Some w) = ap (λ v. Some v) (read-forwarded w)

  starts-forwarded : (ss : List ℕ) → map (final new) ss ≡ map (instead a b) (map (final old) ss)
  starts-forwarded [] = refl
  starts-forwarded (s ∷ ss) = λ x. final-forwarded k s x ∷ starts-forwarded ss x

  mourners-forwarded : (groups : List (List ℕ)) → mourners_of new groups ≡ map (map (instead a b)) (mourners_of old groups)
  mourners-forwarded [] = refl
  mourners-forwarded (group ∷ groups) = λ x. starts-forwarded group x ∷ mourners-forwarded groups x

  pub graph-forwarded : (special : ℕ) (held : FinMap handle_cmp ℕ) (groups : List (List ℕ)) (hash next : ℕ)
      → graph_in (with_forwarder old a b) special held groups hash next ≡ redirect (graph_in old special held groups hash next) a b
  graph-forwarded special held groups hash next =
      λ x. record (graph_in old special held groups hash next) { nodes = nodes-forwarded x; special = read-forwarded special x; classes = classes-forwarded x; handles = handles-forwarded held x; mourners = mourners-forwarded groups x }
