-- What a closed graph has besides nodes of whatever is named, and that rounds keep it.
use Rattle.std.proofs.Common.{◌≡◌, ◌≢◌, ◌<◌, ◌^◌, ◌+◌, ◌*◌, ◌%◌, ℕ, Bool, true, false, ◌==◌, if◌then◌else◌, List, [], ◌∷◌, length, get_or, refl, sym, ap, ◌∙◌, subst, arith, Some}
use Rattle.std.proofs.lemmas.Bool.{false≢true, and_parts, eqb-true, eq-eqb}
use Rattle.std.proofs.lemmas.Option.{same_Some}
use Rattle.std.proofs.lemmas.List.Elements.{All-from_recursion, All-nil, All-append, All-push, All-contains, Contains-get_or}
use Rattle.std.proofs.lemmas.List.Folds.{Any-from_list_any, list_any-from_Any}
use Rattle.std.specs.Option.{option_map}
use Rattle.std.specs.List.{All, Contains, list_any}
use Rattle.std.specs.FinMap.{get}
use Rattle.object_header.specs.Formats.{unit_bytes_of, unused_of}
use Rattle.spur_graph.specs.declared.answer.Value.{Value}
use Rattle.spur_graph.specs.declared.answer.Value.TheVariants.{Ref}
use Rattle.spur_graph.specs.Value.{IsValue}
use Rattle.spur_graph.specs.Node.{Node, IsNode, IsUnit}
use Rattle.spur_graph.specs.Graph.{Graph, Handle, HasNode, IsEntered, AreApart, IsClosed, waiting}
use Rattle.spur_graph.specs.State.{State}
use Rattle.spur_graph.specs.Live.{is_keyed}
use Rattle.spur_graph.specs.Rounds.{mourning, fire, IsGroup, Rounds, Ended, Again}
use Rattle.graph_laws.proofs.Named.{IsNamed}
use Rattle.graph_laws.proofs.Redirected.{came_from}
use Rattle.graph_laws.proofs.Apart.{apart-append}
use Rattle.graph_laws.proofs.CollectedNames.{get-fired, waiting-fired}

-- the name has fired
abbrev pub HasFired : Graph → ℕ → Type 0
HasFired g a = (n : Node) × (get g.nodes a ≡ Some n) × (n.format ≡ 1)

-- what a closed graph has besides nodes of whatever is named
pub record HasForms (g : Graph) : Type 0 where
  pub nodes : (a : ℕ) (n : Node) → get g.nodes a ≡ Some n → IsNode n
  pub special : (a : ℕ) × (g.special ≡ Ref a)
  pub entered : (i : ℕ) (v : Value) → get g.classes i ≡ Some v → (a : ℕ) × (v ≡ Ref a) × IsEntered g a
  pub values : (h : Handle) (v : Value) → get g.handles h ≡ Some v → IsValue v
  pub groups : All (λ group. group ≢ []) g.mourners
  pub fired : All (HasFired g) (waiting g)
  pub apart : AreApart (waiting g)
  pub state_bits : g.hash_state < 2 ^ 32

pub forms_of : {g : Graph} → IsClosed g → HasForms g
forms_of k = record {
  nodes = λ a n e. (k.all_nodes a n e).0;
  special = k.special_there.0;
  entered = k.entered;
  values = λ h v e. (k.held_values h v e).0;
  groups = k.groups;
  fired = k.fired;
  apart = k.apart;
  state_bits = k.state_bits;
}

pub closed_by : {s : State} → IsNamed s → HasForms s.graph → IsClosed s.graph
closed_by {s} k f = record {
  all_nodes = λ a n e. (f.nodes a n e, k.pointers a n e);
  names = All-from_recursion (λ a. HasNode s.graph (Ref a)) (s.graph.nil ∷ s.graph.no ∷ s.graph.yes ∷ []) (k.nil, (k.no, (k.yes, tt)));
  special_there = (f.special, k.special);
  entered = f.entered;
  held_values = λ h v e. (f.values h v e, k.handles h v e);
  groups = f.groups;
  fired = f.fired;
  apart = f.apart;
  state_bits = f.state_bits;
  fresh = k.fresh;
}

-- ---- a group fires

-- an ephemeron is a node still when it has fired
fired-node : (n : Node) → is_keyed n ≡ true → IsNode n → IsNode (record n { format = 1 })
fired-node n keyed k =
    let five = eqb-true n.format 5 (and_parts (n.format == 5) _ keyed).0 in
    let none : n.units ≡ [] = k.no_units (omega (arith, five)) in
    record {
      class_index = k.class_index;
      hash_bits = k.hash_bits;
      known_format = (omega arith, refl);
      no_pointers = λ raw. absurd (false≢true raw);
      no_units = λ below. none;
      whole_words = ap (λ us. (length us + unused_of 1) * unit_bytes_of 1 % 8) none;
      literals = λ method. absurd (false≢true method);
      values = k.values;
      unit_range = subst (All (IsUnit 1)) (sym none) (All-nil (IsUnit 1));
    }

pub in_group : (group : List ℕ) (a : ℕ) → Contains group a → list_any (λ b. b == a) group ≡ true
in_group group a among = list_any-from_Any (λ b. b == a) group (among.0, a, among.1, among.2, eq-eqb a a refl)

pub from_group : (group : List ℕ) (a : ℕ) → list_any (λ b. b == a) group ≡ true → Contains group a
from_group group a is = let found = Any-from_list_any (λ b. b == a) group is in subst (Contains group) (eqb-true found.1 a found.4) (found.0, found.2, found.3)

mourning-hash : (group : List ℕ) (a : ℕ) (n : Node) → (mourning group a n).hash ≡ n.hash
mourning-hash group a n = by (list_any (λ b. b == a) group)
  where
    by : (b : Bool) → (if b then record n { format = 1 } else n).hash ≡ n.hash
    by true = refl
    by false = refl

mourning-format : (group : List ℕ) (a : ℕ) (n : Node) → n.format ≡ 1 → (mourning group a n).format ≡ 1
mourning-format group a n one = by (list_any (λ b. b == a) group)
  where
    by : (b : Bool) → (if b then record n { format = 1 } else n).format ≡ 1
    by true = refl
    by false = one

module _ {g : Graph} (k : HasForms g) (f : ℕ → Bool) (group : List ℕ) (is : IsGroup g f group) where
  mourning-node : (a : ℕ) (n : Node) → get g.nodes a ≡ Some n → IsNode (mourning group a n)
  mourning-node a n there = by (list_any (λ b. b == a) group) refl
    where
      by : (b : Bool) → list_any (λ b. b == a) group ≡ b → IsNode (if b then record n { format = 1 } else n)
      by true among =
          let fires = is.names.only a (from_group group a among) in
          fired-node n (subst (λ m. is_keyed m ≡ true) (same_Some fires.node n (sym fires.there ∙ there)) fires.ephemeron) (k.nodes a n there)
      by false among = k.nodes a n there

  still : (a : ℕ) (n : Node) → get g.nodes a ≡ Some n → get (fire g group).nodes a ≡ Some (mourning group a n)
  still a n there = get-fired g group a ∙ ap (option_map (mourning group a)) there

  group_fired : (a : ℕ) → Contains group a → HasFired (fire g group) a
  group_fired a among =
      let fires = is.names.only a among in
      (mourning group a fires.node, still a fires.node fires.there, ap (λ b. (if b then record fires.node { format = 1 } else fires.node).format) (in_group group a among))

  -- none of the group waited before
  none_waited : (a : ℕ) → HasFired g a → Contains group a → ⊥
  none_waited a fired among =
      let fires = is.names.only a among in
      let five = eqb-true fires.node.format 5 (and_parts (fires.node.format == 5) _ fires.ephemeron).0 in
      let one = ap (λ (n : Node). n.format) (same_Some fires.node fired.0 (sym fires.there ∙ fired.1)) ∙ fired.2 in
      omega (arith, five, one)

  fire-forms : HasForms (fire g group)
  fire-forms = record {
    nodes = λ a n e.
        let was = came_from (mourning group a) (get g.nodes a) n (sym (get-fired g group a) ∙ e) in
        subst IsNode was.2 (mourning-node a was.0 was.1);
    special = k.special;
    entered = λ i v e.
        let at = k.entered i v e in
        let class = (at.2).class in (
          at.0,
          at.1,
          record {
            class = mourning group at.0 class;
            there = still at.0 class (at.2).there;
            hashed = λ none. (at.2).hashed (sym (mourning-hash group at.0 class) ∙ none);
            entry = ap (get g.classes) (mourning-hash group at.0 class) ∙ (at.2).entry;
          },
        );
    values = k.values;
    groups = All-push (λ names. names ≢ []) g.mourners group k.groups is.some;
    fired = subst (All (HasFired (fire g group))) (sym (waiting-fired g group))
        (All-append (HasFired (fire g group)) (waiting g) group
        (λ i d l.
        let a = get_or (waiting g) i d in
        let was = k.fired i d l in
        (mourning group a was.0, still a was.0 was.1, mourning-format group a was.0 was.2))
        (λ i d l. group_fired (get_or group i d) (Contains-get_or group i d l)));
    apart = subst AreApart (sym (waiting-fired g group))
        (apart-append (waiting g) group k.apart is.names.apart (λ a waits among. none_waited a (All-contains (HasFired g) (waiting g) a k.fired waits) among));
    state_bits = k.state_bits;
  }

pub rounds-forms : (f : ℕ → Bool) (g : Graph) (count : ℕ) (last : Graph) → Rounds f g count last → HasForms g → HasForms last
rounds-forms f _ _ _ (Ended g ended) k = k
rounds-forms f _ _ last (Again g _ count group is rest) k = rounds-forms f (fire g group) count last rest (fire-forms k f group is)
