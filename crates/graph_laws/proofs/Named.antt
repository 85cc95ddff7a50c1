-- A state speaks only of names that have nodes, and goes on so.
use Rattle.std.proofs.Common.{◌≡◌, ◌≢◌, ◌⊎◌, ℕ, Bool, true, false, cond, if◌then◌else◌, ◌||◌, ◌<◌, ◌≤◌, List, length, get_or, replicate, set, refl, sym, ap, ◌∙◌, subst, inl, inr, arith, Some, None, Option}
use Rattle.std.proofs.lemmas.Bool.{cases_eq, cases_lt, ne_eqb, eq-eqb, true≢false}
use Rattle.std.proofs.lemmas.Option.{none-some, same_Some}
use Rattle.std.proofs.lemmas.List.{get_or-replicate, length-replicate, length-set, get_or-set_same, get_or-set_other}
use Rattle.std.proofs.Math.ListN.{get_or-eq_default}
use Rattle.std.specs.Ordering.{nat_cmp, eq_by_cmp}
use Rattle.std.specs.Cmp.{nat_cmp_total, unsigned_tied}
use Rattle.std.specs.Option.{unwrap_or}
use Rattle.std.specs.List.{All}
use Rattle.std.specs.FinMap.{get, insert, get-insert, get-remove}
use Rattle.std.specs.FinSet.{contains, contains-insert}
use Rattle.std.specs.FinSet as sets
use Rattle.spur_graph.specs.declared.answer.Value.{Value}
use Rattle.spur_graph.specs.declared.answer.Value.TheVariants.{Int, Char, Float, Ref}
use Rattle.spur_graph.specs.Value.{named_by, is_immediate}
use Rattle.spur_graph.specs.Node.{Node}
use Rattle.spur_graph.specs.Graph.{Graph, Handle, handle_cmp, with_node, held, waiting, HasNode}
use Rattle.spur_graph.specs.Handles.{handles_total}
use Rattle.spur_graph.specs.Bytes.{Text}
use Rattle.spur_graph.specs.Room.{Room, Spot, placed, is_old}
use Rattle.spur_graph.specs.State.{Files, State, value_at, name_at, with_graph, with_fresh, bound, dropped}
use Rattle.graph_laws.specs.FixedNames.{HasAllNames}

-- whatever a state speaks of has a node, and no name from the next one on has one
pub record IsNamed (s : State) : Type 0 where
  pub fresh : (a : ℕ) → s.graph.next ≤ a → get s.graph.nodes a ≡ None
  pub pointers : (a : ℕ) (n : Node) → get s.graph.nodes a ≡ Some n → All (HasNode s.graph) n.pointers
  pub nil : HasNode s.graph (Ref s.graph.nil)
  pub no : HasNode s.graph (Ref s.graph.no)
  pub yes : HasNode s.graph (Ref s.graph.yes)
  pub special : HasNode s.graph s.graph.special
  pub classes : (i : ℕ) (v : Value) → get s.graph.classes i ≡ Some v → HasNode s.graph v
  pub handles : (h : Handle) (v : Value) → get s.graph.handles h ≡ Some v → HasNode s.graph v
  pub mourners : All (λ a. HasNode s.graph (Ref a)) (waiting s.graph)
  pub spots : (a : ℕ) → get s.graph.nodes a ≡ None → get s.room.spots a ≡ None
  pub old_names : (a : ℕ) → get s.graph.nodes a ≡ None → contains s.room.old_names a ≡ false

-- an option that is chosen and is there is one of both
pub some_chosen : {X : Type 0} (b : Bool) (x y : Option X) (w : X) → cond b x y ≡ Some w → (x ≡ Some w) ⊎ (y ≡ Some w)
some_chosen true x y w e = inl e
some_chosen false x y w e = inr e

none_chosen : {X : Type 0} (b : Bool) (y : Option X) (w : X) → cond b None y ≡ Some w → y ≡ Some w
none_chosen true y w e = absurd (none-some w e)
none_chosen false y w e = e

pub ref_is : (a b : ℕ) → Ref a ≡ Ref b → a ≡ b
ref_is a b e = ap (λ v. unwrap_or (named_by v) 0) e

-- a name that has a node
pub has_name : (g : Graph) (a : ℕ) (n : Node) → get g.nodes a ≡ Some n → HasNode g (Ref a)
has_name g a n e b same = (n, ap (get g.nodes) (sym (ref_is a b same)) ∙ e)

-- an immediate names nothing
pub names_nothing : (g : Graph) (v : Value) → named_by v ≡ None → HasNode g v
names_nothing g v none b e = absurd (none-some b (sym none ∙ ap named_by e))

module _ {s : State} (k : IsNamed s) where
  pub value_at-named : (m : ℕ) (h : Text) → HasNode s.graph (value_at s.graph m h)
  value_at-named m h = by (held s.graph m h) refl
    where
      by : (o : Option Value) → held s.graph m h ≡ o → HasNode s.graph (unwrap_or o (Ref s.graph.nil))
      by None e = k.nil
      by (Some v) e = k.handles (m, h) v e

  -- the name of a handle, where it is no immediate
  pub name_at-named : (m : ℕ) (h : Text) → is_immediate (value_at s.graph m h) ≡ false → (n : Node) × (get s.graph.nodes (name_at s.graph m h) ≡ Some n)
  name_at-named m h bare = by (value_at s.graph m h) bare (value_at-named m h)
    where
      by : (v : Value) → is_immediate v ≡ false → HasNode s.graph v → (n : Node) × (get s.graph.nodes (unwrap_or (named_by v) 0) ≡ Some n)
      by (Int n) e has = absurd (true≢false e)
      by (Char c) e has = absurd (true≢false e)
      by (Float w) e has = absurd (true≢false e)
      by (Ref a) e has = has a refl

  -- a slot, and nil behind the last one
  pub slot-named : (xs : List Value) (i : ℕ) → All (HasNode s.graph) xs → HasNode s.graph (get_or xs i (Ref s.graph.nil))
  slot-named xs i all = elim (cases_lt i (length xs)) [
    | inl l ↦ all i (Ref s.graph.nil) l
    | inr past ↦ subst (HasNode s.graph) (sym (get_or-eq_default xs (Ref s.graph.nil) past)) k.nil
  ]

  pub node-named : (a : ℕ) (n : Node) → get s.graph.nodes a ≡ Some n → All (HasNode s.graph) n.pointers
  node-named a n e = k.pointers a n e

-- a slot is written
pub set-named : (g : Graph) (xs : List Value) (i : ℕ) (v : Value) → HasNode g v → All (HasNode g) xs → All (HasNode g) (set xs i v)
set-named g xs i v has all j d l =
    let within : j < length xs = subst (λ n. j < n) (length-set xs i v) l in
    elim (cases_eq j i) [
      | inl e ↦ subst (HasNode g) (sym (ap (λ x. get_or (set xs i v) x d) e ∙ get_or-set_same xs i v d (subst (λ x. x < length xs) e within))) has
      | inr n ↦ subst (HasNode g) (sym (get_or-set_other xs i j v d n)) (all j d within)
    ]

pub replicate-named : (g : Graph) (n : ℕ) (v : Value) → HasNode g v → All (HasNode g) (replicate n v)
replicate-named g n v has j d l = subst (HasNode g) (sym (get_or-replicate n j v d (subst (λ x. j < x) (length-replicate n v) l))) has

-- ---- a node more, or another

module _ (g : Graph) (a : ℕ) (n : Node) where
  pub get-here : get (insert g.nodes a n) a ≡ Some n
  get-here = get-insert nat_cmp_total g.nodes a n a ∙ ap (λ b. cond b (Some n) (get g.nodes a)) (unsigned_tied a a ∙ eq-eqb a a refl)

  pub get-there : (b : ℕ) → b ≢ a → get (insert g.nodes a n) b ≡ get g.nodes b
  get-there b d = get-insert nat_cmp_total g.nodes a n b ∙ ap (λ x. cond x (Some n) (get g.nodes b)) (unsigned_tied b a ∙ ne_eqb b a d)

  -- who has no node then had none before
  pub none-before : (b : ℕ) → get (insert g.nodes a n) b ≡ None → (b ≢ a) × (get g.nodes b ≡ None)
  none-before b none =
      let apart : b ≢ a = λ e. none-some n (sym none ∙ ap (get (insert g.nodes a n)) e ∙ get-here) in
      (apart, sym (get-there b apart) ∙ none)

  pub still-named : (v : Value) → HasNode g v → HasNode (with_node g a n) v
  still-named v has b e = elim (cases_eq b a) [
    | inl same ↦ (n, ap (get (insert g.nodes a n)) same ∙ get-here)
    | inr d ↦ let m = has b e in (m.0, get-there b d ∙ m.1)
  ]

  -- the pointers of all nodes name nodes, where those of the new one do
  pub pointers-named : ((b : ℕ) (m : Node) → get g.nodes b ≡ Some m → All (HasNode g) m.pointers) → All (HasNode (with_node g a n)) n.pointers
      → (b : ℕ) (m : Node) → get (insert g.nodes a n) b ≡ Some m → All (HasNode (with_node g a n)) m.pointers
  pointers-named all new b m e = elim (cases_eq b a) [
    | inl same ↦ subst (λ (x : Node). All (HasNode (with_node g a n)) x.pointers) (same_Some n m (sym get-here ∙ ap (get (insert g.nodes a n)) (sym same) ∙ e)) new
    | inr d ↦ λ i v l. still-named (get_or m.pointers i v) (all b m (sym (get-there b d) ∙ e) i v l)
  ]

module _ {s : State} (k : IsNamed s) where
  pub bound-named : (m : ℕ) (h : Text) (v : Value) → HasNode s.graph v → IsNamed (bound s m h v)
  bound-named m h v has = record {
    fresh = k.fresh;
    pointers = k.pointers;
    nil = k.nil;
    no = k.no;
    yes = k.yes;
    special = k.special;
    classes = k.classes;
    handles = λ q w e. elim (some_chosen (eq_by_cmp handle_cmp q (m, h)) (Some v) (get s.graph.handles q) w (sym (get-insert handles_total s.graph.handles (m, h) v q) ∙ e)) [
      | inl new ↦ subst (HasNode s.graph) (same_Some v w new) has
      | inr old ↦ k.handles q w old
    ];
    mourners = k.mourners;
    spots = k.spots;
    old_names = k.old_names;
  }

  pub dropped-named : (m : ℕ) (h : Text) → IsNamed (dropped s m h)
  dropped-named m h = record {
    fresh = k.fresh;
    pointers = k.pointers;
    nil = k.nil;
    no = k.no;
    yes = k.yes;
    special = k.special;
    classes = k.classes;
    handles = λ q w e. k.handles q w (none_chosen (eq_by_cmp handle_cmp q (m, h)) (get s.graph.handles q) w (sym (get-remove handles_total s.graph.handles (m, h) q) ∙ e));
    mourners = k.mourners;
    spots = k.spots;
    old_names = k.old_names;
  }

  -- a name that has a node has another
  pub changed-named : (a : ℕ) (m n : Node) → get s.graph.nodes a ≡ Some m → All (HasNode s.graph) n.pointers → IsNamed (with_graph s (with_node s.graph a n))
  changed-named a m n there all =
      let keep : (v : Value) → HasNode s.graph v → HasNode (with_node s.graph a n) v = still-named s.graph a n in
      record {
        fresh = λ b l. get-there s.graph a n b (λ e. none-some m (sym (k.fresh b l) ∙ ap (get s.graph.nodes) e ∙ there)) ∙ k.fresh b l;
        pointers = pointers-named s.graph a n k.pointers (λ i v l. keep (get_or n.pointers i v) (all i v l));
        nil = keep (Ref s.graph.nil) k.nil;
        no = keep (Ref s.graph.no) k.no;
        yes = keep (Ref s.graph.yes) k.yes;
        special = keep s.graph.special k.special;
        classes = λ i v e. keep v (k.classes i v e);
        handles = λ h v e. keep v (k.handles h v e);
        mourners = λ i d l. keep (Ref (get_or (waiting s.graph) i d)) (k.mourners i d l);
        spots = λ b none. k.spots b (none-before s.graph a n b none).1;
        old_names = λ b none. k.old_names b (none-before s.graph a n b none).1;
      }

-- the same room, but for what is free of it and which pages stand in it
pub record KeepsPlaces (old new : Room) : Type 0 where
  pub spots : new.spots ≡ old.spots
  pub old_names : new.old_names ≡ old.old_names

module _ {s : State} (k : IsNamed s) where
  -- a room that keeps the places of names
  pub room-named : (room : Room) → KeepsPlaces s.room room → IsNamed (record s { room = room })
  room-named room keep = record {
    fresh = k.fresh;
    pointers = k.pointers;
    nil = k.nil;
    no = k.no;
    yes = k.yes;
    special = k.special;
    classes = k.classes;
    handles = k.handles;
    mourners = k.mourners;
    spots = λ b none. ap (λ x. get x b) keep.spots ∙ k.spots b none;
    old_names = λ b none. ap (λ x. contains x b) keep.old_names ∙ k.old_names b none;
  }

  -- the hash state is no name
  pub state-named : (state : ℕ) → IsNamed (with_graph s (record s.graph { hash_state = state }))
  state-named state = record {
    fresh = k.fresh;
    pointers = k.pointers;
    nil = k.nil;
    no = k.no;
    yes = k.yes;
    special = k.special;
    classes = k.classes;
    handles = k.handles;
    mourners = k.mourners;
    spots = k.spots;
    old_names = k.old_names;
  }

  -- nor is a file
  pub files-named : (files : Files) → IsNamed (record s { files = files })
  files-named files = record {
    fresh = k.fresh;
    pointers = k.pointers;
    nil = k.nil;
    no = k.no;
    yes = k.yes;
    special = k.special;
    classes = k.classes;
    handles = k.handles;
    mourners = k.mourners;
    spots = k.spots;
    old_names = k.old_names;
  }

  -- an entry more
  pub entry-named : (i : ℕ) (v : Value) → HasNode s.graph v → IsNamed (with_graph s (record s.graph { classes = insert s.graph.classes i v }))
  entry-named i v has = record {
    fresh = k.fresh;
    pointers = k.pointers;
    nil = k.nil;
    no = k.no;
    yes = k.yes;
    special = k.special;
    classes = λ j w e. elim (some_chosen (eq_by_cmp nat_cmp j i) (Some v) (get s.graph.classes j) w (sym (get-insert nat_cmp_total s.graph.classes i v j) ∙ e)) [
      | inl new ↦ subst (HasNode s.graph) (same_Some v w new) has
      | inr old ↦ k.classes j w old
    ];
    handles = k.handles;
    mourners = k.mourners;
    spots = k.spots;
    old_names = k.old_names;
  }

  -- a fresh object, which stands somewhere
  pub fresh-named : (n : Node) (spot : Spot) → All (HasNode s.graph) n.pointers → IsNamed (record s { graph = with_fresh s.graph n; room = placed s.room s.graph.next spot })
  fresh-named n spot all =
      let keep : (v : Value) → HasNode s.graph v → HasNode (with_node s.graph s.graph.next n) v = still-named s.graph s.graph.next n in
      record {
        fresh = λ b l. get-there s.graph s.graph.next n b (λ e. omega (arith, l, e)) ∙ k.fresh b (omega (arith, l));
        pointers = pointers-named s.graph s.graph.next n k.pointers (λ i v l. keep (get_or n.pointers i v) (all i v l));
        nil = keep (Ref s.graph.nil) k.nil;
        no = keep (Ref s.graph.no) k.no;
        yes = keep (Ref s.graph.yes) k.yes;
        special = keep s.graph.special k.special;
        classes = λ i v e. keep v (k.classes i v e);
        handles = λ h v e. keep v (k.handles h v e);
        mourners = λ i d l. keep (Ref (get_or (waiting s.graph) i d)) (k.mourners i d l);
        spots = λ b none.
            let before = none-before s.graph s.graph.next n b none in
            get-insert nat_cmp_total s.room.spots s.graph.next spot b
            ∙ ap (λ x. cond x (Some spot) (get s.room.spots b)) (unsigned_tied b s.graph.next ∙ ne_eqb b s.graph.next before.0)
            ∙ k.spots b before.1;
        old_names = λ b none. by b (is_old spot.space) (none-before s.graph s.graph.next n b none);
      }
    where
      by : (b : ℕ) (old : Bool) → (b ≢ s.graph.next) × (get s.graph.nodes b ≡ None) → contains (if old then sets.insert s.room.old_names s.graph.next else s.room.old_names) b ≡ false
      by b true before =
          contains-insert nat_cmp_total s.room.old_names s.graph.next b
          ∙ ap (λ x. x || contains s.room.old_names b) (unsigned_tied b s.graph.next ∙ ne_eqb b s.graph.next before.0)
          ∙ k.old_names b before.1
      by b false before = k.old_names b before.1

-- a closed graph whose room knows its names
pub all_named : (s : State) → HasAllNames s → IsNamed s
all_named s k = record {
  fresh = k.closed.fresh;
  pointers = λ a n e. (k.closed.all_nodes a n e).1;
  nil = k.closed.names 0 0 (omega arith);
  no = k.closed.names 1 0 (omega arith);
  yes = k.closed.names 2 0 (omega arith);
  special = k.closed.special_there.1;
  classes = λ i v e.
      let a = k.closed.entered i v e in
      subst (HasNode s.graph) (sym a.1) (has_name s.graph a.0 (a.2).class (a.2).there);
  handles = λ h v e. (k.closed.held_values h v e).1;
  mourners = λ i d l. let f = k.closed.fired i d l in has_name s.graph (get_or (waiting s.graph) i d) f.0 f.1;
  spots = k.spots;
  old_names = k.old_names;
}
