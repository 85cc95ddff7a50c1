-- The graph of a store in which an object that nothing names became a page: the graph without its node.
use Rattle.std.proofs.Common.{◌≡◌, ◌≢◌, ℕ, suc, Bool, true, false, not, cond, ◌&&◌, ◌==◌, ◌/◌, ◌<◌, List, [], ◌∷◌, map, length, get_or, refl, sym, ap, ◌∙◌, arith, inl, inr, Some, None}
use Rattle.std.proofs.lemmas.Bool.{cases_Bool, cases_eq, eq-eqb, and_parts, and_left, and_right, false_from_ne_true}
use Rattle.std.proofs.lemmas.List.{get_or-take, length-take}
use Rattle.std.proofs.lemmas.List.Elements.{filter_agree}
use Rattle.std.specs.Option.{unwrap_or}
use Rattle.std.specs.List.{filter, range_with_len}
use Rattle.std.specs.Ordering.{nat_cmp, eq_by_cmp}
use Rattle.std.specs.Cmp.{nat_cmp_total}
use Rattle.std.specs.FinMap.{FinMap, get, insert, from_entries, find, get-from_entries, get-insert, same_map, nat_cmp-IsAntisymmetric}
use Rattle.spur_graph.specs.declared.answer.Value.TheVariants.{Ref}
use Rattle.spur_graph.specs.Value.{value_of}
use Rattle.spur_graph.specs.Node.{Node}
use Rattle.spur_graph.specs.Cells.{Body, Store, body_of, first, lead, pointer_count, pointers, units}
use Rattle.spur_graph.specs.Ordinary.{class_limit, page_entries, is_at, body_at, is_ordinary, is_good_reference, ordinary_starts, has_page, entry}
use Rattle.spur_graph.specs.CellGraph.{read, node_of, nodes_of, has_class, classes_of}
use Rattle.spur_graph.specs.Heaps.{own_name, mourners_of}
use Rattle.heap_cells.proofs.Finding.{key_same}
use Rattle.heap_cells.proofs.References.{ordinary_apart}
use Rattle.spur_heap.proofs.InPlace.{cell-other}
use Rattle.spur_heap.proofs.Graphs.{map_kept}
use Rattle.spur_heap.proofs.Paged.{Pages, paged, alike, paged-final, paged-lead, reference-other, ordinary-other, ordinary-here, nil_place, paged-has_page, lead-here, lead-other, entry-other}

-- functions that agree on the elements of a list
map_agree : {X : Type 0} (f g : ℕ → X) (ws : List ℕ) → ((j : ℕ) → j < length ws → f (get_or ws j 0) ≡ g (get_or ws j 0)) → map f ws ≡ map g ws
map_agree f g [] same = refl
map_agree f g (w ∷ ws) same = let head : f w ≡ g w = same 0 (omega arith) in let more : map f ws ≡ map g ws = map_agree f g ws (λ j l. same (suc j) (omega (arith, l))) in λ x. head x ∷ more x

-- tables over what two tests keep, which agree but at one key, that the first leaves out
module _ {X : Type 0} (p q : ℕ → Bool) (f g : ℕ → X) (s : ℕ) (out : p s ≡ false) (tests : (t : ℕ) → t ≢ s → p t ≡ q t) (values : (t : ℕ) → t ≢ s → q t ≡ true → f t ≡ g t) where
  find_without : (k : ℕ) → k ≢ s → (ts : List ℕ) → find nat_cmp k (map (λ t. (t, f t)) (filter p ts)) ≡ find nat_cmp k (map (λ t. (t, g t)) (filter q ts))
  find_without k n [] = refl
  find_without k n (t ∷ ts) =
      let more : find nat_cmp k (map (λ u. (u, f u)) (filter p ts)) ≡ find nat_cmp k (map (λ u. (u, g u)) (filter q ts)) = find_without k n ts in
      elim (cases_eq t s) [
        | inl e ↦
            let off : p t ≡ false = ap p e ∙ out in
            let apart : eq_by_cmp nat_cmp k t ≡ false = false_from_ne_true _ (λ on. n (key_same k t on ∙ e)) in
            elim (cases_Bool (q t)) [ inl on ↦ rw (off, on, apart) more | inr none ↦ rw (off, none) more ]
        | inr m ↦ elim (cases_Bool (q t)) [
          | inl on ↦ rw (tests t m ∙ on, on) (λ x. cond (eq_by_cmp nat_cmp k t) (Some (values t m on x)) (more x))
          | inr off ↦ rw (tests t m ∙ off, off) more
        ]
      ]

  find_gone : (ts : List ℕ) → find nat_cmp s (map (λ t. (t, f t)) (filter p ts)) ≡ None
  find_gone [] = refl
  find_gone (t ∷ ts) = elim (cases_Bool (p t)) [
    | inr off ↦ rw off (find_gone ts)
    | inl on ↦
        let apart : eq_by_cmp nat_cmp s t ≡ false = false_from_ne_true _ (λ same. let e = key_same s t same in let both : true ≡ false = sym on ∙ ap p (sym e) ∙ out in cc) in
        rw (on, apart) (find_gone ts)
  ]

module _ {old : Store} {i w s : ℕ} {r : Body} (k : Pages old i w s r) where
  abbrev new : Store
  new = paged k

  -- a word that does not lead to the page has the value of before
  pub paged-read : (v : ℕ) → lead old v ≢ Some s → read own_name new v ≡ read own_name old v
  unfolding read
  paged-read v n =
      let named : cond (is_good_reference new v) (Ref (unwrap_or (lead new v) (first old 0))) (Ref (first old 0)) ≡ cond (is_good_reference old v) (Ref (unwrap_or (lead old v) (first old 0))) (Ref (first old 0)) =
      λ x. cond (reference-other k v n x) (Ref (unwrap_or (paged-lead k v x) (first old 0))) (Ref (first old 0)) in
      λ x. unwrap_or (value_of (λ u. named x) v) (Ref (first old 0))

  node-kept : (t : ℕ) → is_ordinary old t ≡ true → t ≢ s → node_of own_name new (body_at new t) ≡ node_of own_name old (body_at old t)
  unfolding node_of
  node-kept t on n =
      let body : body_at new t ≡ body_at old t = ap body_of (cell-other (alike k).place t (ordinary_apart old t on).0) in
      let b : Body = body_at old t in
      let values : map (read own_name new) (pointers b) ≡ map (read own_name old) (pointers b) =
      map_agree (read own_name new) (read own_name old) (pointers b) (λ j l.
      let low : j < pointer_count b = omega (arith, l, length-take (pointer_count b) b.words) in
      let is : get_or (pointers b) j 0 ≡ get_or b.words j 0 = get_or-take (pointer_count b) b.words j 0 low in
      ap (read own_name new) is ∙ paged-read (get_or b.words j 0) (k.unnamed t j on low) ∙ sym (ap (read own_name old) is)) in
      ap (node_of own_name new) body
      ∙ (λ x. record { class = b.class; hash = b.hash; format = b.format; pointers = values x; units = units b; pinned = b.pinned == 1; readonly = b.readonly == 1 })

  -- the nodes are those without the page's
  pub paged-nodes : (m : FinMap nat_cmp Node) (n : Node) → nodes_of own_name old ≡ insert m s n → get m s ≡ None → nodes_of own_name new ≡ m
  unfolding nodes_of ordinary_starts
  paged-nodes m n is none = same_map nat_cmp_total nat_cmp-IsAntisymmetric (nodes_of own_name new) m (λ q.
      get-from_entries nat_cmp_total (map (λ t. (t, node_of own_name new (body_at new t))) (filter (is_ordinary new) old.starts)) q ∙ at q)
    where
      f : ℕ → Node
      f t = node_of own_name new (body_at new t)

      g : ℕ → Node
      g t = node_of own_name old (body_at old t)

      at : (q : ℕ) → find nat_cmp q (map (λ t. (t, f t)) (filter (is_ordinary new) old.starts)) ≡ get m q
      at q = elim (cases_eq q s) [
        | inl e ↦
            ap (λ x. find nat_cmp x (map (λ t. (t, f t)) (filter (is_ordinary new) old.starts))) e
            ∙ find_gone (is_ordinary new) (is_ordinary old) f g s (ordinary-here k) (ordinary-other k) (λ t far on. node-kept t on far) old.starts ∙ sym none ∙ sym (ap (get m) e)
        | inr far ↦
            find_without (is_ordinary new) (is_ordinary old) f g s (ordinary-here k) (ordinary-other k) (λ t far on. node-kept t on far) q far old.starts
            ∙ sym (get-from_entries nat_cmp_total (map (λ t. (t, g t)) (filter (is_ordinary old) old.starts)) q)
            ∙ ap (λ t. get t q) is ∙ get-insert nat_cmp_total m s n q
            ∙ ap (λ b. cond b (Some n) (get m q)) (false_from_ne_true _ (λ on. far (key_same q s on)))
      ]

  -- the class table is as before: no index of the page has a class
  has_class-same : (j : ℕ) → has_class new j ≡ has_class old j
  has_class-same j = elim (cases_eq (j / page_entries) i) [
    | inl e ↦
        and_right (has_page new j) _ (ap (λ o. not (is_at (first old 0) o)) (lead-here k j e) ∙ ap not (eq-eqb (first old 0) (first old 0) refl))
        ∙ sym (and_left (has_page old j) (not (is_at (first old 0) (lead old (entry old j)))) (nil_place k j e))
    | inr n ↦ elim (cases_Bool (has_page old j)) [
      | inl on ↦ λ x. paged-has_page k j n x && not (is_at (first old 0) (lead-other k j on x))
      | inr off ↦
          and_left (has_page new j) _ (paged-has_page k j n ∙ off) ∙ sym (and_left (has_page old j) (not (is_at (first old 0) (lead old (entry old j)))) off)
    ]
  ]

  pub paged-classes : classes_of own_name new ≡ classes_of own_name old
  unfolding classes_of
  paged-classes = among class_limit
    where
      among : (n : ℕ) → from_entries {R = nat_cmp} (map (λ j. (j, read own_name new (entry new j))) (filter (has_class new) (range_with_len 0 n))) ≡ from_entries {R = nat_cmp} (map (λ j. (j, read own_name old (entry old j))) (filter (has_class old) (range_with_len 0 n)))
      among n =
          ap (λ js. from_entries {R = nat_cmp} (map (λ j. (j, read own_name new (entry new j))) js)) (filter_agree (has_class new) (has_class old) has_class-same (range_with_len 0 n))
          ∙ ap (λ es. from_entries {R = nat_cmp} es) (map_kept (has_class old) (λ j. (j, read own_name old (entry old j))) (λ j. (j, read own_name new (entry new j)))
          (λ j e.
          let page = (and_parts (has_page old j) _ e).0 in
          let value : read own_name new (entry new j) ≡ read own_name old (entry old j) = ap (read own_name new) (entry-other k j page) ∙ paged-read (entry old j) (k.unentered j page) in
          λ x. (j, value x)) (range_with_len 0 n))

  pub paged-mourners : (groups : List (List ℕ)) → mourners_of new groups ≡ mourners_of old groups
  paged-mourners groups = λ x. map (map (λ t. paged-final k t x)) groups
