-- The same cells under another list of starts, of which the first five and the ordinary ones are the same: the store is sound as before and stands for the
-- same graph.
use Rattle.std.proofs.Common.{◌≡◌, ℕ, cond, not, ◌&&◌, ◌||◌, ◌==◌, ◌*◌, ◌/◌, ◌%◌, ◌<◌, ◌≤◌, eqb, ltb, List, map, length, get_or, refl, sym, ap, ◌∙◌, subst, arith}
use Rattle.std.specs.Option.{unwrap_or}
use Rattle.std.specs.List.{filter, range_with_len}
use Rattle.std.specs.Ordering.{nat_cmp}
use Rattle.std.specs.FinMap.{FinMap, from_entries}
use Rattle.std.proofs.lemmas.List.Elements.{filter_agree}
use Rattle.spur_graph.specs.declared.answer.Value.TheVariants.{Ref}
use Rattle.spur_graph.specs.Value.{is_immediate_word, value_of}
use Rattle.spur_graph.specs.Graph.{handle_cmp, AreApart}
use Rattle.spur_graph.specs.Cells.{Body, Store, is_moved, is_there, pointer_count, first, final, lead, any_below, pointers, units}
use Rattle.spur_graph.specs.Ordinary.{page_places, page_entries, class_limit, is_at, passes, body_at, root_slot, tells, is_nil_slot, is_first, is_page_body, is_page, is_internal, is_ordinary, ordinary_starts, is_good_reference, is_good_word, is_bad_forwarder, is_bad_page, is_bad_slot, has_page, entry, has_entry, is_no_index, is_entered, is_bad_entry}
use Rattle.spur_graph.specs.CellGraph.{read, node_of, nodes_of, has_class, classes_of}
use Rattle.spur_graph.specs.Heaps.{IsSound, HasRoots, HasFired, AreMourners, own_name, handle_values, graph_in, mourners_of, waiting_in}
use Rattle.heap_cells.proofs.Below.{any_below-same}

abbrev pub with_starts : Store → List ℕ → Store
with_starts h ts = record h { starts = ts }

pub record Restarts (h : Store) (ts : List ℕ) : Type 0 where
  pub five : 5 ≤ length ts
  pub firsts : (j : ℕ) → j < 5 → get_or ts j 0 ≡ first h j

module _ {h : Store} {ts : List ℕ} (k : Restarts h ts) where
  nil : get_or ts 0 0 ≡ first h 0
  nil = k.firsts 0 (omega arith)

  pub restarted-final : (s : ℕ) → final (with_starts h ts) s ≡ final h s
  unfolding final
  restarted-final s = refl

  lead-same : (w : ℕ) → lead (with_starts h ts) w ≡ lead h w
  unfolding final
  lead-same w = refl

  root-same : (i : ℕ) → root_slot (with_starts h ts) i ≡ root_slot h i
  root-same i = ap (λ s. get_or (body_at h s).words i 0) (k.firsts 4 (omega arith))

  tells-same : (i t : ℕ) → tells (with_starts h ts) i t ≡ tells h i t
  tells-same i t = ap (λ w. is_at t (h.to w)) (root-same i)

  pub restarted-nil_slot : (i : ℕ) → is_nil_slot (with_starts h ts) i ≡ is_nil_slot h i
  restarted-nil_slot i = λ x. is_at (nil x) (h.to (root-same i x))

  pub restarted-internal : (t : ℕ) → is_internal (with_starts h ts) t ≡ is_internal h t
  unfolding is_internal
  restarted-internal t =
      let three = k.firsts 3 (omega arith) in
      let four = k.firsts 4 (omega arith) in
      λ x. eqb t (three x) || eqb t (four x) || (not (eqb t (nil x)) && any_below (λ i. tells-same i t x) page_places)

  pub restarted-ordinary : (t : ℕ) → is_ordinary (with_starts h ts) t ≡ is_ordinary h t
  restarted-ordinary t = λ x. is_there (h.cell t) && not (restarted-internal t x)

  pub restarted-reference : (w : ℕ) → is_good_reference (with_starts h ts) w ≡ is_good_reference h w
  restarted-reference w = λ x. passes (λ t. restarted-ordinary t x) (lead-same w x)

  pub restarted-good : (w : ℕ) → is_good_word (with_starts h ts) w ≡ is_good_word h w
  restarted-good w = λ x. is_immediate_word w || restarted-reference w x

  -- ---- the store is sound as before

  is_first-same : (t : ℕ) → is_first (with_starts h ts) t ≡ is_first h t
  is_first-same t = any_below-same (λ j. eqb (get_or ts j 0) t) (λ j. eqb (first h j) t) 5 (λ j l. ap (λ u. eqb u t) (k.firsts j l))

  page-same : (i : ℕ) → is_page (with_starts h ts) i ≡ is_page h i
  unfolding is_page
  page-same i = λ x. passes (λ t. is_there (h.cell t) && is_page_body (body_at h t) && not (is_first-same t x) && not (any_below (λ j. tells-same j t x) i)) (h.to (root-same i x))

  bad_page-same : (i : ℕ) → is_bad_page (with_starts h ts) i ≡ is_bad_page h i
  bad_page-same i = λ x. not (restarted-nil_slot i x) && not (page-same i x)

  has_page-same : (i : ℕ) → has_page (with_starts h ts) i ≡ has_page h i
  has_page-same i = λ x. ltb i class_limit && not (restarted-nil_slot (i / page_entries) x)

  entry-same : (i : ℕ) → entry (with_starts h ts) i ≡ entry h i
  entry-same i = λ x. get_or (body_at h (unwrap_or (h.to (root-same (i / page_entries) x)) h.names)).words (i % page_entries) 0

  entry_lead-same : (i : ℕ) → lead (with_starts h ts) (entry (with_starts h ts) i) ≡ lead h (entry h i)
  entry_lead-same i = ap (lead (with_starts h ts)) (entry-same i) ∙ lead-same (entry h i)

  has_entry-same : (i t : ℕ) → has_entry (with_starts h ts) i t ≡ has_entry h i t
  has_entry-same i t = λ x. has_page-same i x && is_at t (entry_lead-same i x)

  entered-same : (t : ℕ) → is_entered (with_starts h ts) t ≡ is_entered h t
  unfolding is_entered
  entered-same t = λ x. restarted-ordinary t x && not (is_no_index (body_at h t).hash) && has_entry-same (body_at h t).hash t x

  bad_entry-same : (i : ℕ) → is_bad_entry (with_starts h ts) i ≡ is_bad_entry h i
  bad_entry-same i = λ x. has_page-same i x && not (passes (λ t. eqb t (nil x) || (not (eqb i 0) && entered-same t x)) (entry_lead-same i x))

  bad_forwarder-same : (t : ℕ) → is_bad_forwarder (with_starts h ts) t ≡ is_bad_forwarder h t
  bad_forwarder-same t = ap (λ u. is_moved (h.cell t) && not (is_there (h.cell u))) (restarted-final t)

  bad_slot-same : (t i : ℕ) → is_bad_slot (with_starts h ts) t i ≡ is_bad_slot h t i
  bad_slot-same t i = λ x. restarted-ordinary t x && ltb i (pointer_count (body_at h t)) && not (restarted-good (get_or (body_at h t).words i 0) x)

  restarted-roots : HasRoots h → HasRoots (with_starts h ts)
  restarted-roots r = record {
    five = k.five;
    objects = λ j l. ap (λ t. is_there (h.cell t)) (k.firsts j l) ∙ r.objects j l;
    outer = λ j l. restarted-internal (get_or ts j 0) ∙ ap (is_internal h) (k.firsts j (omega (arith, l))) ∙ r.outer j l;
    lists = let e : (body_at h (get_or ts 3 0)).format ≡ (body_at h (first h 3)).format = ap (λ t. (body_at h t).format) (k.firsts 3 (omega arith)) in let l = r.lists in omega (arith, e, l);
    roots = (ap (λ t. (body_at h t).format) (k.firsts 4 (omega arith)) ∙ r.roots.0, ap (λ t. length (body_at h t).words) (k.firsts 4 (omega arith)) ∙ r.roots.1);
    tops = λ i m l. let n = nil in root-same i ∙ r.tops i m l ∙ (let e : 8 * first h 0 ≡ 8 * get_or ts 0 0 = omega (arith, n) in e);
    pages = λ i l. bad_page-same i ∙ r.pages i l;
    entries = λ i. bad_entry-same i ∙ r.entries i;
  }

  pub restarted-sound : IsSound h → IsSound (with_starts h ts)
  restarted-sound s = record {
    formed = s.formed;
    targets = s.targets;
    ends = λ t. bad_forwarder-same t ∙ s.ends t;
    roots = restarted-roots s.roots;
    slots = λ t i. bad_slot-same t i ∙ s.slots t i;
  }

  fired_kept : (t : ℕ) → HasFired h t → HasFired (with_starts h ts) t
  fired_kept t f = record {
    ordinary = restarted-ordinary (final (with_starts h ts) t) ∙ ap (is_ordinary h) (restarted-final t) ∙ f.ordinary;
    format = ap (λ u. (body_at h u).format) (restarted-final t) ∙ f.format;
  }

  pub restarted-mourners : (groups : List (List ℕ)) → AreMourners h groups → AreMourners (with_starts h ts) groups
  restarted-mourners groups m = record {
    some = m.some;
    fired = λ i d l. fired_kept (get_or (waiting_in groups) i d) (m.fired i d l);
    apart = subst (λ (us : List ℕ). AreApart us) (λ x. map (λ t. sym (restarted-final t) x) (waiting_in groups)) m.apart;
  }

  -- ---- the same graph

  pub restarted-read : (w : ℕ) → read own_name (with_starts h ts) w ≡ read own_name h w
  unfolding read
  restarted-read w = λ x. unwrap_or (value_of (λ v. cond (restarted-reference v x) (Ref (unwrap_or (lead-same v x) (nil x))) (Ref (nil x))) w) (Ref (nil x))

  node-same : (c : Body) → node_of own_name (with_starts h ts) c ≡ node_of own_name h c
  unfolding node_of
  node-same c = λ x. record { class = c.class; hash = c.hash; format = c.format; pointers = map (λ w. restarted-read w x) (pointers c); units = units c; pinned = c.pinned == 1; readonly = c.readonly == 1 }

  has_class-same : (i : ℕ) → has_class (with_starts h ts) i ≡ has_class h i
  has_class-same i = λ x. has_page-same i x && not (is_at (nil x) (entry_lead-same i x))

  classes-same : classes_of own_name (with_starts h ts) ≡ classes_of own_name h
  unfolding classes_of
  classes-same = among class_limit
    where
      among : (n : ℕ) → from_entries {R = nat_cmp} (map (λ j. (j, read own_name (with_starts h ts) (entry (with_starts h ts) j))) (filter (has_class (with_starts h ts)) (range_with_len 0 n))) ≡ from_entries {R = nat_cmp} (map (λ j. (j, read own_name h (entry h j))) (filter (has_class h) (range_with_len 0 n)))
      among n =
          let value : (j : ℕ) → read own_name (with_starts h ts) (entry (with_starts h ts) j) ≡ read own_name h (entry h j) = λ j. restarted-read (entry (with_starts h ts) j) ∙ ap (read own_name h) (entry-same j) in
          λ x. from_entries {R = nat_cmp} (map (λ j. (j, value j x)) (filter (λ j. has_class-same j x) (range_with_len 0 n)))

  mourners-same : (groups : List (List ℕ)) → mourners_of (with_starts h ts) groups ≡ mourners_of h groups
  mourners-same groups = λ x. map (map (λ t. restarted-final t x)) groups

  -- where the ordinary starts are the same
  module _ (same : filter (is_ordinary h) ts ≡ filter (is_ordinary h) h.starts) where
    pub restarted-starts : ordinary_starts (with_starts h ts) ≡ ordinary_starts h
    unfolding ordinary_starts
    restarted-starts = filter_agree (is_ordinary (with_starts h ts)) (is_ordinary h) restarted-ordinary ts ∙ same

    nodes-same : nodes_of own_name (with_starts h ts) ≡ nodes_of own_name h
    unfolding nodes_of
    nodes-same =
        ap (λ ss. from_entries {R = nat_cmp} (map (λ t. (t, node_of own_name (with_starts h ts) (body_at h t))) ss)) restarted-starts
        ∙ (λ x. from_entries {R = nat_cmp} (map (λ t. (t, node-same (body_at h t) x)) (ordinary_starts h)))

    pub restarted-graph : (special : ℕ) (held : FinMap handle_cmp ℕ) (groups : List (List ℕ)) (hash next : ℕ)
        → graph_in (with_starts h ts) special held groups hash next ≡ graph_in h special held groups hash next
    restarted-graph special held groups hash next =
        let no = k.firsts 1 (omega arith) in
        let on = k.firsts 2 (omega arith) in
        λ x. record (graph_in h special held groups hash next) {
          nodes = nodes-same x;
          nil = nil x;
          no = no x;
          yes = on x;
          special = restarted-read special x;
          classes = classes-same x;
          handles = handle_values (λ w. restarted-read w x) held;
          mourners = mourners-same groups x;
        }
