-- What a command does to states that differ in names alone leaves them so.
use Rattle.std.proofs.Common.{◌≡◌, ◌≢◌, ◌≤◌, ℕ, Bool, true, false, cond, if◌then◌else◌, ◌||◌, ◌+◌, refl, sym, ap, ◌∙◌, subst, arith, Some, None}
use Rattle.std.proofs.lemmas.Option.{none-some}
use Rattle.std.specs.Option.{option_map}
use Rattle.std.specs.Ordering.{nat_cmp, eq_by_cmp}
use Rattle.std.specs.Cmp.{nat_cmp_total, unsigned_tied}
use Rattle.std.specs.FinMap.{get, insert, get-insert, get-remove}
use Rattle.std.specs.FinSet as sets
use Rattle.std.specs.FinSet.{contains, contains-insert}
use Rattle.spur_graph.specs.declared.answer.Value.{Value}
use Rattle.spur_graph.specs.declared.answer.Value.TheVariants.{Ref}
use Rattle.spur_graph.specs.Node.{Node}
use Rattle.spur_graph.specs.Graph.{Graph, handle_cmp, bind, unbind, with_node}
use Rattle.spur_graph.specs.Room.{Room, Spot, placed, is_old}
use Rattle.spur_graph.specs.Handles.{handles_total}
use Rattle.spur_graph.specs.Names.{Iso, rename, rename_node}
use Rattle.spur_graph.specs.Bytes.{Text}
use Rattle.spur_graph.specs.State.{State, with_graph, with_fresh, bound, dropped}
use Rattle.spur_graph.specs.Step.{SameRoom, Renamed}
use Rattle.spur_graph.proofs.HandleMaps.{chosen}
use Rattle.graph_laws.proofs.Values.{same_name, same_number}
use Rattle.graph_laws.proofs.Named.{IsNamed, get-there}
use Rattle.graph_laws.proofs.Fresh.{there, here, there-fresh, fresh-iso}

module _ {G H : Graph} {p back : ℕ → ℕ} (k : Iso G H p back) where
  same_bound : (m : ℕ) (h : Text) (v : Value) → Iso (bind G m h v) (bind H m h (rename p v)) p back
  same_bound m h v = record {
    left = k.left;
    right = k.right;
    nodes = k.nodes;
    nil = k.nil;
    no = k.no;
    yes = k.yes;
    special = k.special;
    classes = k.classes;
    handles = λ q.
        get-insert handles_total H.handles (m, h) (rename p v) q
        ∙ ap (cond (eq_by_cmp handle_cmp q (m, h)) (Some (rename p v))) (k.handles q)
        ∙ chosen (rename p) (eq_by_cmp handle_cmp q (m, h)) (Some v) (get G.handles q)
        ∙ ap (option_map (rename p)) (sym (get-insert handles_total G.handles (m, h) v q));
    mourners = k.mourners;
    hash_state = k.hash_state;
  }

  same_dropped : (m : ℕ) (h : Text) → Iso (unbind G m h) (unbind H m h) p back
  same_dropped m h = record {
    left = k.left;
    right = k.right;
    nodes = k.nodes;
    nil = k.nil;
    no = k.no;
    yes = k.yes;
    special = k.special;
    classes = k.classes;
    handles = λ q.
        get-remove handles_total H.handles (m, h) q
        ∙ ap (cond (eq_by_cmp handle_cmp q (m, h)) None) (k.handles q)
        ∙ chosen (rename p) (eq_by_cmp handle_cmp q (m, h)) None (get G.handles q)
        ∙ ap (option_map (rename p)) (sym (get-remove handles_total G.handles (m, h) q));
    mourners = k.mourners;
    hash_state = k.hash_state;
  }

  pub same_key : (a b : ℕ) → eq_by_cmp nat_cmp (p a) (p b) ≡ eq_by_cmp nat_cmp a b
  same_key a b = unsigned_tied (p a) (p b) ∙ same_name k a b ∙ sym (unsigned_tied a b)

  pub same_noded : (a : ℕ) (n : Node) → Iso (with_node G a n) (with_node H (p a) (rename_node p n)) p back
  same_noded a n = record {
    left = k.left;
    right = k.right;
    nodes = λ b.
        get-insert nat_cmp_total H.nodes (p a) (rename_node p n) (p b)
        ∙ (λ i. cond (same_key b a i) (Some (rename_node p n)) (k.nodes b i))
        ∙ chosen (rename_node p) (eq_by_cmp nat_cmp b a) (Some n) (get G.nodes b)
        ∙ ap (option_map (rename_node p)) (sym (get-insert nat_cmp_total G.nodes a n b));
    nil = k.nil;
    no = k.no;
    yes = k.yes;
    special = k.special;
    classes = k.classes;
    handles = k.handles;
    mourners = k.mourners;
    hash_state = k.hash_state;
  }

-- the hash state and the next name are no names
same_state : {G H : Graph} {p back : ℕ → ℕ} → Iso G H p back → (state : ℕ) → Iso (record G { hash_state = state }) (record H { hash_state = state }) p back
same_state k state = record {
  left = k.left;
  right = k.right;
  nodes = k.nodes;
  nil = k.nil;
  no = k.no;
  yes = k.yes;
  special = k.special;
  classes = k.classes;
  handles = k.handles;
  mourners = k.mourners;
  hash_state = refl;
}

same_next : {G H : Graph} {p back : ℕ → ℕ} → Iso G H p back → (m n : ℕ) → Iso (record G { next = m }) (record H { next = n }) p back
same_next k m n = record {
  left = k.left;
  right = k.right;
  nodes = k.nodes;
  nil = k.nil;
  no = k.no;
  yes = k.yes;
  special = k.special;
  classes = k.classes;
  handles = k.handles;
  mourners = k.mourners;
  hash_state = k.hash_state;
}

-- an entry more
same_entered : {G H : Graph} {p back : ℕ → ℕ} → Iso G H p back → (i a : ℕ)
    → Iso (record G { classes = insert G.classes i (Ref a) }) (record H { classes = insert H.classes i (Ref (p a)) }) p back
same_entered {G} {H} {p} k i a = record {
  left = k.left;
  right = k.right;
  nodes = k.nodes;
  nil = k.nil;
  no = k.no;
  yes = k.yes;
  special = k.special;
  classes = λ j.
      get-insert nat_cmp_total H.classes i (Ref (p a)) j
      ∙ ap (cond (eq_by_cmp nat_cmp j i) (Some (Ref (p a)))) (k.classes j)
      ∙ chosen (rename p) (eq_by_cmp nat_cmp j i) (Some (Ref a)) (get G.classes j)
      ∙ ap (option_map (rename p)) (sym (get-insert nat_cmp_total G.classes i (Ref a) j));
  handles = k.handles;
  mourners = k.mourners;
  hash_state = k.hash_state;
}

-- a fresh object stands in the same spot under both names
pub same_placed : {R S : Room} {p : ℕ → ℕ} (back : ℕ → ℕ) → ((b : ℕ) → back (p b) ≡ b) → SameRoom R S p → (a : ℕ) (spot : Spot) → SameRoom (placed R a spot) (placed S (p a) spot) p
same_placed {R} {S} {p} back left k a spot = record {
  spots = λ b.
      get-insert nat_cmp_total S.spots (p a) spot (p b)
      ∙ (λ i. cond (same_tie b i) (Some spot) (k.spots b i))
      ∙ sym (get-insert nat_cmp_total R.spots a spot b);
  old_names = λ b. by b (is_old spot.space);
  rest = λ i. record (k.rest i) { spots = insert S.spots (p a) spot; old_names = if is_old spot.space then sets.insert S.old_names (p a) else S.old_names };
}
  where
    same_tie : (b : ℕ) → eq_by_cmp nat_cmp (p b) (p a) ≡ eq_by_cmp nat_cmp b a
    same_tie b = unsigned_tied (p b) (p a) ∙ same_number p back left b a ∙ sym (unsigned_tied b a)

    by : (b : ℕ) (old : Bool) → contains (if old then sets.insert S.old_names (p a) else S.old_names) (p b) ≡ contains (if old then sets.insert R.old_names a else R.old_names) b
    by b true =
        contains-insert nat_cmp_total S.old_names (p a) (p b)
        ∙ (λ i. same_tie b i || k.old_names b i)
        ∙ sym (contains-insert nat_cmp_total R.old_names a b)
    by b false = k.old_names b

module _ {s t : State} (k : Renamed s t) where
  -- a handle is bound to a value and to the renamed one
  pub bound-renamed : (m : ℕ) (h : Text) (v w : Value) → w ≡ rename k.p v → Renamed (bound s m h v) (bound t m h w)
  bound-renamed m h v w e = subst (λ x. Renamed (bound s m h v) (bound t m h x)) (sym e) (record {
    p = k.p;
    back = k.back;
    graph = same_bound k.graph m h v;
    room = k.room;
    files = k.files;
    script = k.script;
    next = k.next;
  })

  pub dropped-renamed : (m : ℕ) (h : Text) → Renamed (dropped s m h) (dropped t m h)
  dropped-renamed m h = record {
    p = k.p;
    back = k.back;
    graph = same_dropped k.graph m h;
    room = k.room;
    files = k.files;
    script = k.script;
    next = k.next;
  }

  -- the node of a name and that of the renamed one are changed alike
  pub changed-renamed : (a b : ℕ) (m n N : Node) → b ≡ k.p a → get s.graph.nodes a ≡ Some m → N ≡ rename_node k.p n
      → Renamed (with_graph s (with_node s.graph a n)) (with_graph t (with_node t.graph b N))
  changed-renamed a b m n N e there alike = record {
    p = k.p;
    back = k.back;
    graph =
        subst (λ c. Iso (with_node s.graph a n) (with_node t.graph c N) k.p k.back) (sym e)
        (subst (λ x. Iso (with_node s.graph a n) (with_node t.graph (k.p a) x) k.p k.back) (sym alike) (same_noded k.graph a n));
    room = k.room;
    files = k.files;
    script = k.script;
    next = λ c above. get-there t.graph b N c (λ same. none-some (rename_node k.p m)
        (sym (k.next c above) ∙ ap (get t.graph.nodes) (same ∙ e) ∙ k.graph.nodes a ∙ ap (option_map (rename_node k.p)) there)) ∙ k.next c above;
  }

  pub state-renamed : (state : ℕ) → Renamed (with_graph s (record s.graph { hash_state = state })) (with_graph t (record t.graph { hash_state = state }))
  state-renamed state = record {
    p = k.p;
    back = k.back;
    graph = same_state k.graph state;
    room = k.room;
    files = k.files;
    script = k.script;
    next = k.next;
  }

  -- a name is entered, whose node changes alike, in rooms that differ in names alone
  pub entered-renamed : (i a b : ℕ) (m n N : Node) (R S : Room) → b ≡ k.p a → get s.graph.nodes a ≡ Some m → N ≡ rename_node k.p n → SameRoom R S k.p
      → Renamed (record s { graph = record (with_node s.graph a n) { classes = insert s.graph.classes i (Ref a) }; room = R })
      (record t { graph = record (with_node t.graph b N) { classes = insert t.graph.classes i (Ref b) }; room = S })
  entered-renamed i a b m n N R S e there alike room = record {
    p = k.p;
    back = k.back;
    graph =
        subst (λ c. Iso (record (with_node s.graph a n) { classes = insert s.graph.classes i (Ref a) }) (record (with_node t.graph c N) { classes = insert t.graph.classes i (Ref c) }) k.p k.back) (sym e)
        (subst (λ x. Iso (record (with_node s.graph a n) { classes = insert s.graph.classes i (Ref a) }) (record (with_node t.graph (k.p a) x) { classes = insert t.graph.classes i (Ref (k.p a)) }) k.p k.back) (sym alike)
        (same_entered (same_noded k.graph a n) i a));
    room = room;
    files = k.files;
    script = k.script;
    next = (changed-renamed a b m n N e there alike).next;
  }

  -- a handle bound to a fresh object on each side: under the next name on the one, and on the other under any that no node has
  module _ (named : IsNamed s) (w : ℕ) (free : get t.graph.nodes w ≡ None) where
    abbrev none : get s.graph.nodes s.graph.next ≡ None
    none = named.fresh s.graph.next (omega arith)

    abbrev pub q : ℕ → ℕ
    q = there k.graph s.graph.next w none free

    -- the nodes correspond, and they stand in one spot
    pub made-renamed : (m : ℕ) (h : Text) (n N : Node) (R S : Room) (spot : Spot) (next : ℕ) → N ≡ rename_node q n → SameRoom R S q
        → ((b : ℕ) → next ≤ b → (b ≢ w) × (t.graph.next ≤ b))
        → Renamed (bound (record s { graph = with_fresh s.graph n; room = placed R s.graph.next spot }) m h (Ref s.graph.next))
        (bound (record t { graph = record (with_node t.graph w N) { next = next }; room = placed S w spot }) m h (Ref w))
    made-renamed m h n N R S spot next alike room above =
        let iso = fresh-iso named k.graph w free in
        let at : q s.graph.next ≡ w = there-fresh k.graph s.graph.next w none free in
        record {
          p = q;
          back = here k.graph s.graph.next w none free;
          graph =
              subst (λ c. Iso (bind (with_fresh s.graph n) m h (Ref s.graph.next)) (bind (record (with_node t.graph c N) { next = next }) m h (Ref c)) q (here k.graph s.graph.next w none free)) at
              (subst (λ x. Iso (bind (with_fresh s.graph n) m h (Ref s.graph.next)) (bind (record (with_node t.graph (q s.graph.next) x) { next = next }) m h (Ref (q s.graph.next))) q (here k.graph s.graph.next w none free)) (sym alike)
              (same_bound (same_next (same_noded iso s.graph.next n) (s.graph.next + 1) next) m h (Ref s.graph.next)));
          room = subst (λ c. SameRoom (placed R s.graph.next spot) (placed S c spot) q) at (same_placed (here k.graph s.graph.next w none free) iso.left room s.graph.next spot);
          files = k.files;
          script = k.script;
          next = λ b l. get-there t.graph w N b (above b l).0 ∙ k.next b (above b l).1;
        }
