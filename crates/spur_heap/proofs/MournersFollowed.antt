-- The starts of the mourners are followed in their table.
use Rattle.std.proofs.Common.{◌≡◌, ◌≢◌, ℕ, suc, cond, ◌+◌, ◌-◌, ◌<◌, List, [], ◌∷◌, map, length, get_or, refl, sym, ap, ◌∙◌, subst, arith, inl, inr}
use Rattle.std.proofs.lemmas.Bool.{cases_Bool}
use Rattle.std.proofs.lemmas.List.{length-map, length-drop, get_or-drop, get_or-map}
use Rattle.std.proofs.lemmas.List.Folds.{map_fixed}
use Rattle.std.proofs.lemmas.List.Elements.{All-map}
use Rattle.std.specs.List.{All}
use Rattle.spur_graph.specs.Graph.{Graph, AreApart}
use Rattle.spur_graph.specs.Cells.{Store, is_moved, final}
use Rattle.spur_graph.specs.Ordinary.{is_ordinary, body_at}
use Rattle.spur_graph.specs.Heaps.{View, HasFired, AreMourners, store_of, heap_graph, waiting_in, mourners_of}
use Rattle.heap_cells.proofs.CellKinds.{there_is_not_moved}
use Rattle.heap_cells.proofs.Chains.{final-there}
use Rattle.heap_cells.proofs.Members.{In, in_left, in_right, listed}
use Rattle.heap_cells.proofs.References.{ordinary_there}
use Rattle.heap_cells.proofs.WholeClosed.{waiting_renamed}
use Rattle.spur_heap.specs.declared.heap.HeapParts.{HeapParts}
use Rattle.spur_heap.specs.Tables.{Parted, begins, start_in, parted}
use Rattle.spur_heap.specs.Mourning.{left}
use Rattle.spur_heap.specs.Parts.{view_of, ArePartsOfHeap}
use Rattle.spur_heap.specs.Following.{Follows, FollowsEntries, IsFollowedMourner}
use Rattle.spur_heap.proofs.Groups.{groups_some}
use Rattle.spur_heap.proofs.Requeued.{table_changed}
use Rattle.spur_heap.proofs.RootsFollowed.{outside_follows}

-- ---- entries and their groups

-- entries with other starts make the same groups of those
parted_renamed : (f : ℕ → ℕ) (es fs : List ℕ) → length fs ≡ length es → ((i : ℕ) → i < length es → (start_in (get_or fs i 0) ≡ f (start_in (get_or es i 0))) × (begins (get_or fs i 0) ≡ begins (get_or es i 0)))
    → parted fs ≡ record { front = map f (parted es).front; groups = map (map f) (parted es).groups }
unfolding parted
parted_renamed f [] [] long each = refl
parted_renamed f [] (b ∷ fs) long each = absurd (omega (arith, long))
parted_renamed f (a ∷ es) [] long each = absurd (omega (arith, long))
parted_renamed f (a ∷ es) (b ∷ fs) long each =
    let one = each 0 (omega arith) in
    let rest : parted fs ≡ record { front = map f (parted es).front; groups = map (map f) (parted es).groups } = parted_renamed f es fs (omega (arith, long)) (λ i l. each (suc i) (omega (arith, l))) in
    (λ x. let p : Parted = cond (one.1 x) (record { front = []; groups = (one.0 x ∷ (rest x).front) ∷ (rest x).groups }) (record { front = one.0 x ∷ (rest x).front; groups = (rest x).groups }) in p)
    ∙ elim (cases_Bool (begins a)) [ inl on ↦ rw on refl | inr off ↦ rw off refl ]

-- ---- names that are their own

named_again : (f : ℕ → ℕ) (groups : List (List ℕ)) → ((s : ℕ) → In (waiting_in groups) s → f (f s) ≡ f s) → map (map f) (map (map f) groups) ≡ map (map f) groups
named_again f [] own = refl
named_again f (group ∷ groups) own =
    let rest = named_again f groups (λ s m. own s (in_right group (waiting_in groups) s m)) in
    let one = again group (λ s m. own s (in_left group (waiting_in groups) s m)) in
    λ x. one x ∷ rest x
  where
    again : (ss : List ℕ) → ((s : ℕ) → In ss s → f (f s) ≡ f s) → map f (map f ss) ≡ map f ss
    again [] own = refl
    again (s ∷ ss) own = let rest = again ss (λ t m. own t (inr m)) in λ x. own s (inl refl) x ∷ rest x

-- ---- a heap whose mourners are named by their objects

module _ (v : View) (m : AreMourners (store_of v) v.mourners) where
  abbrev h : Store
  h = store_of v

  abbrev pub groups_then : List (List ℕ)
  groups_then = mourners_of h v.mourners

  each_fired : (s : ℕ) → In (waiting_in v.mourners) s → HasFired h s
  each_fired s k = let c = listed (waiting_in v.mourners) s k in subst (HasFired h) c.2 (m.fired c.0 s c.1)

  own : (s : ℕ) → HasFired h s → final h (final h s) ≡ final h s
  own s f = final-there h (final h s) (ordinary_there h (final h s) f.ordinary)

  waiting_then : waiting_in groups_then ≡ map (final h) (waiting_in v.mourners)
  waiting_then = waiting_renamed (final h) v.mourners

  fired_own : (s : ℕ) → HasFired h s → HasFired h (final h s)
  fired_own s f = record { ordinary = ap (is_ordinary h) (own s f) ∙ f.ordinary; format = ap (λ t. (body_at h t).format) (own s f) ∙ f.format }

  ends_then : map (final h) (waiting_in groups_then) ≡ map (final h) (waiting_in v.mourners)
  ends_then = ap (map (final h)) waiting_then ∙ map_fixed (final h) (map (final h) (waiting_in v.mourners)) (All-map (λ s. final h s ≡ s) (final h) (waiting_in v.mourners) (λ i d l. own (get_or (waiting_in v.mourners) i d) (m.fired i d l)))

  pub mourners_then : All (λ (group : List ℕ). group ≢ []) groups_then → AreMourners h groups_then
  mourners_then some = record {
    some = some;
    fired = subst (λ (ss : List ℕ). All (HasFired h) ss) (sym waiting_then) (All-map (HasFired h) (final h) (waiting_in v.mourners) (λ i d l. fired_own (get_or (waiting_in v.mourners) i d) (m.fired i d l)));
    apart = subst (λ (ss : List ℕ). AreApart ss) (sym ends_then) m.apart;
  }

  pub mourner_followed : (k : ℕ) → IsFollowedMourner (record v { mourners = groups_then }) k
  mourner_followed k l =
      let long : length (waiting_in groups_then) ≡ length (waiting_in v.mourners) = ap length waiting_then ∙ length-map (waiting_in v.mourners) (final h) in
      let low : k < length (waiting_in v.mourners) = omega (arith, l, long) in
      let is : get_or (waiting_in groups_then) k 0 ≡ final h (get_or (waiting_in v.mourners) k 0) = ap (λ ss. get_or ss k 0) waiting_then ∙ get_or-map (final h) (waiting_in v.mourners) k 0 0 low in
      ap (λ s. is_moved (h.cell s)) is ∙ there_is_not_moved _ (ordinary_there h _ (m.fired k 0 low).ordinary)

  pub mourners_follow : Follows v (record v { mourners = groups_then })
  mourners_follow =
      let again : mourners_of h groups_then ≡ groups_then = named_again (final h) v.mourners (λ s k. own s (each_fired s k)) in
      outside_follows v v.special v.handles groups_then (λ x. let g : Graph = record (heap_graph v) { mourners = again x } in g) (λ q e. e) (λ e. e) (λ k e. mourner_followed k)

-- ---- the parts

module _ (p q : HeapParts) (k : ArePartsOfHeap p) (t : FollowsEntries (length p.mourners.items) p q) where
  abbrev f : ℕ → ℕ
  f = final (store_of (view_of p))

  renamed : parted (left q) ≡ record { front = map f (parted (left p)).front; groups = map (map f) (parted (left p)).groups }
  renamed =
      let was : length (left p) ≡ length p.mourners.items - p.mourned = length-drop p.mourned p.mourners.items in
      let is : length (left q) ≡ length q.mourners.items - q.mourned = length-drop q.mourned q.mourners.items in
      parted_renamed f (left p) (left q) (omega (arith, was, is, t.long, t.mourned)) (λ i l.
      let e = t.entries (p.mourned + i) (omega arith) (omega (arith, l, was)) in
      let old : get_or (left p) i 0 ≡ get_or p.mourners.items (p.mourned + i) 0 = get_or-drop p.mourned p.mourners.items i 0 in
      let new : get_or (left q) i 0 ≡ get_or q.mourners.items (p.mourned + i) 0 = get_or-drop q.mourned q.mourners.items i 0 ∙ ap (λ n. get_or q.mourners.items (n + i) 0) t.mourned in
      (ap start_in new ∙ e.starts ∙ ap (λ w. f (start_in w)) (sym old), ap begins new ∙ e.group ∙ ap begins (sym old)))

  pub seen : view_of q ≡ record (view_of p) { mourners = groups_then (view_of p) k.whole.mourners }
  seen = ap view_of t.changes.rest ∙ ap (λ (r : Parted). let u : View = record (view_of p) { mourners = r.groups } in u) renamed

  pub followed_parts : ArePartsOfHeap q
  followed_parts =
      table_changed p q k t.changes (ap (λ (r : Parted). r.front) renamed ∙ ap (map f) k.tables.grouped)
      (subst (λ (gs : List (List ℕ)). AreMourners (store_of (view_of p)) gs) (sym (ap (λ (r : Parted). r.groups) renamed))
      (mourners_then (view_of p) k.whole.mourners (subst (λ (gs : List (List ℕ)). All (λ (group : List ℕ). group ≢ []) gs) (ap (λ (r : Parted). r.groups) renamed) (groups_some (left q)))))
