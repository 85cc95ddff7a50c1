-- A full collection, a scavenge and a mourning lead from a state that speaks only of names that have nodes, in a closed graph, to such a state.
use Rattle.std.proofs.Common.{◌≡◌, ◌≢◌, ℕ, Bool, true, false, not, nat_eq, if◌then◌else◌, List, [], ◌∷◌, length, refl, sym, ap, ◌∙◌, subst, inl, inr, arith, Some}
use Rattle.std.proofs.lemmas.Bool.{false≢true, cases_eq, ne_eqb, eq-eqb}
use Rattle.std.proofs.lemmas.Option.{same_Some}
use Rattle.std.proofs.lemmas.List.Elements.{All-cons, All-tail, All-filter, All-contains, All-contains_itself}
use Rattle.std.proofs.lemmas.List.Kept.{AllPairs-filter}
use Rattle.std.specs.Ordering.{eq_by_cmp, nat_cmp}
use Rattle.std.specs.List.{All, Contains, filter, flat_map}
use Rattle.std.specs.FinMap.{get, get-insert, get-empty}
use Rattle.std.specs.FinSet.{contains, contains-empty}
use Rattle.spur_graph.specs.declared.answer.Value.TheVariants.{Ref}
use Rattle.spur_graph.specs.Value.{IsValue}
use Rattle.spur_graph.specs.Bytes.{Text}
use Rattle.spur_graph.specs.Graph.{Graph, handle_cmp, AreApart, IsClosed, bind}
use Rattle.spur_graph.specs.Handles.{handles_total}
use Rattle.spur_graph.specs.Live.{none}
use Rattle.spur_graph.specs.Room.{Room, no_room}
use Rattle.spur_graph.specs.Rounds.{Collect}
use Rattle.spur_graph.specs.Collections.{without_first}
use Rattle.spur_graph.specs.State.{State}
use Rattle.graph_laws.specs.FixedNames.{HasAllNames}
use Rattle.graph_laws.specs.Collected.{CollectsKeepNames, ScavengesKeepNames, MournsKeepNames}
use Rattle.graph_laws.proofs.Named.{IsNamed, all_named, some_chosen}
use Rattle.graph_laws.proofs.CollectedNames.{TellsOf, collect-named, room-tells, scavenged-tells}
use Rattle.graph_laws.proofs.Mourning.{without_first-all, mourns-named}
use Rattle.graph_laws.proofs.Apart.{apart-append, apart-parts}
use Rattle.graph_laws.proofs.Forms.{HasForms, HasFired, forms_of, closed_by}
use Rattle.graph_laws.proofs.CollectedForms.{collect-forms}

-- what is known of all names by the nodes that they have, and the rest of a closed graph
all_names : {s : State} → IsNamed s → HasForms s.graph → HasAllNames s
all_names k f = record { closed = closed_by k f; spots = k.spots; old_names = k.old_names }

-- a collection does so with a room that tells of no name but those that have a node then
pub collect-keeps : (old : State) → HasAllNames old → (f : ℕ → Bool) (nilled fired : ℕ) (new : Graph) → Collect old.graph f nilled fired new → (room : Room) → TellsOf new room
    → HasAllNames (record old { graph = new; room = room })
collect-keeps old all f nilled fired new c room tells =
    all_names (collect-named (all_named old all) f nilled fired new c room tells) (collect-forms (forms_of all.closed) f nilled fired new c)

-- a room that tells of no name
tells_nothing : (g : Graph) → TellsOf g no_room
tells_nothing g = record { spots = λ a e. get-empty nat_cmp a; old_names = λ a e. contains-empty nat_cmp a }

-- and so it leaves a closed graph, whatever further roots it has
pub collect-closed : (g : Graph) → IsClosed g → (f : ℕ → Bool) (nilled fired : ℕ) (new : Graph) → Collect g f nilled fired new → IsClosed new
collect-closed g closed f nilled fired new c = (collect-keeps alone (record { closed = closed; spots = (tells_nothing g).spots; old_names = (tells_nothing g).old_names }) f nilled fired new c no_room (tells_nothing new)).closed
  where
    -- a state of which nothing is asked but its graph
    alone : State
    alone = record { graph = g; room = no_room; files = λ name. []; script = [] }

pub collects_keep : CollectsKeepNames
collects_keep old new answer all c =
    subst HasAllNames (sym c.rest) (collect-keeps old all none c.nilled c.fired new.graph c.collect new.room (room-tells old.room new.graph new.room c.room))

pub scavenges_keep : ScavengesKeepNames
scavenges_keep old new answer all c =
    subst HasAllNames (sym c.rest)
    (collect-keeps old all (contains old.room.old_names) c.nilled c.fired new.graph c.collect new.room (scavenged-tells old.room new.graph new.room c.room))

-- ---- mournings

some_there : (a : ℕ) (names : List ℕ) → a ∷ names ≢ []
some_there a names e = omega (arith, ap length e)

-- a group of others than the one that is taken has some
others_there : (a : ℕ) (group : List ℕ) → AreApart group → Contains group a → nat_eq (length group) 1 ≡ false → filter (λ b. not (nat_eq a b)) group ≢ []
others_there a [] apart among more = absurd (omega (arith, among.1))
others_there a (b ∷ []) apart among more = absurd (false≢true (sym more))
others_there a (b ∷ c ∷ group) apart among more = elim (cases_eq a b) [
  | inl same ↦
      let other : nat_eq a c ≡ false = ne_eqb a c (λ also. apart 0 1 0 (omega arith) (omega arith) (sym same ∙ also)) in
      subst (λ x. (if not x then b ∷ (if not (nat_eq a c) then c ∷ rest else rest) else (if not (nat_eq a c) then c ∷ rest else rest)) ≢ []) (sym (eq-eqb a b same))
      (subst (λ x. (if not x then c ∷ rest else rest) ≢ []) (sym other) (some_there c rest))
  | inr other ↦ subst (λ x. (if not x then b ∷ filter (λ d. not (nat_eq a d)) (c ∷ group) else filter (λ d. not (nat_eq a d)) (c ∷ group)) ≢ []) (sym (ne_eqb a b other))
      (some_there b (filter (λ d. not (nat_eq a d)) (c ∷ group)))
]
  where
    rest : List ℕ
    rest = filter (λ d. not (nat_eq a d)) group

module _ (a : ℕ) (group : List ℕ) (groups : List (List ℕ)) (waits : Contains group a) where
  abbrev names : List ℕ
  names = flat_map (λ (g : List ℕ). g) groups

  groups_there : AreApart (flat_map (λ (g : List ℕ). g) (group ∷ groups)) → All (λ g. g ≢ []) (group ∷ groups) → All (λ g. g ≢ []) (without_first a group groups)
  groups_there apart all = by (nat_eq (length group) 1) refl
    where
      by : (x : Bool) → nat_eq (length group) 1 ≡ x → All (λ g. g ≢ []) (if x then groups else filter (λ b. not (nat_eq a b)) group ∷ groups)
      by true one = All-tail (λ g. g ≢ []) group groups all
      by false more = All-cons (λ g. g ≢ []) (filter (λ b. not (nat_eq a b)) group) groups (others_there a group (apart-parts group names apart).0 waits more) (All-tail (λ g. g ≢ []) group groups all)

  others_apart : AreApart (flat_map (λ (g : List ℕ). g) (group ∷ groups)) → AreApart (flat_map (λ (g : List ℕ). g) (without_first a group groups))
  others_apart apart = by (nat_eq (length group) 1)
    where
      others : List ℕ
      others = filter (λ b. not (nat_eq a b)) group

      by : (x : Bool) → AreApart (flat_map (λ (g : List ℕ). g) (if x then groups else filter (λ b. not (nat_eq a b)) group ∷ groups))
      by true = (apart-parts group names apart).1
      by false =
          let parts = apart-parts group names apart in
          apart-append others names (AllPairs-filter (λ x y. x ≢ y) (λ b. not (nat_eq a b)) group parts.0) parts.1
          (λ x among also. parts.2 x (All-contains (Contains group) others x (All-filter (λ b. not (nat_eq a b)) (Contains group) group (All-contains_itself group)) among) also)

mourned-forms : {g : Graph} → HasForms g → (a : ℕ) (group : List ℕ) (groups : List (List ℕ)) → g.mourners ≡ group ∷ groups → Contains group a
    → (k : ℕ) (h : Text) → HasForms (bind (record g { mourners = without_first a group groups }) k h (Ref a))
mourned-forms {g} f a group groups are waits k h =
    let wait : (gs : List (List ℕ)) → List ℕ = λ gs. flat_map (λ (names : List ℕ). names) gs in
    let apart : AreApart (wait (group ∷ groups)) = subst (λ gs. AreApart (wait gs)) are f.apart in
    record {
      nodes = f.nodes;
      special = f.special;
      entered = λ i v e. let at = f.entered i v e in (at.0, at.1, record { class = (at.2).class; there = (at.2).there; hashed = (at.2).hashed; entry = (at.2).entry });
      values = λ q v e. elim (some_chosen (eq_by_cmp handle_cmp q (k, h)) (Some (Ref a)) (get g.handles q) v (sym (get-insert handles_total g.handles (k, h) (Ref a) q) ∙ e)) [
        | inl new ↦ subst IsValue (same_Some (Ref a) v new) tt
        | inr old ↦ f.values q v old
      ];
      groups = groups_there a group groups waits apart (subst (All (λ names. names ≢ [])) are f.groups);
      fired = without_first-all (HasFired g) a group groups (subst (λ gs. All (HasFired g) (wait gs)) are f.fired);
      apart = others_apart a group groups waits apart;
      state_bits = f.state_bits;
    }

pub mourns_keep : MournsKeepNames
mourns_keep old new k h answer all c =
    subst HasAllNames (sym c.becomes)
    (all_names (mourns-named (all_named old all) k h answer _ (record { group = c.group; groups = c.groups; are = c.are; name = c.name; waits = c.waits; done = c.done; becomes = refl }))
    (mourned-forms (forms_of all.closed) c.name c.group c.groups c.are c.waits k h))
