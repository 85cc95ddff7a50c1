-- Exchange, redirection and pins are the same under other names.
use Rattle.std.proofs.Common.{◌≡◌, ◌≢◌, ◌≤◌, ℕ, List, [], ◌∷◌, ◌++◌, Bool, true, false, cond, if◌then◌else◌, nat_eq, map, refl, ap, sym, ◌∙◌, subst, inl, inr, Option, Some, None}
use Rattle.std.proofs.lemmas.Bool.{cases_eq, eq-eqb, ne_eqb}
use Rattle.std.proofs.lemmas.List.{map-append}
use Rattle.std.proofs.lemmas.Option.{none-some}
use Rattle.std.specs.Option.{option_map}
use Rattle.std.specs.List.{flat_map}
use Rattle.std.specs.Ordering.{eq_by_cmp, nat_cmp}
use Rattle.std.specs.Cmp.{nat_cmp_total}
use Rattle.std.specs.FinMap.{get, remove, get-remove}
use Rattle.spur_graph.specs.declared.answer.Value.{Value}
use Rattle.spur_graph.specs.declared.answer.Value.TheVariants.{Int, Char, Float, Ref}
use Rattle.spur_graph.specs.Node.{Node}
use Rattle.spur_graph.specs.Graph.{Graph, node, with_node}
use Rattle.spur_graph.specs.Handles.{handles_total}
use Rattle.spur_graph.specs.Names.{Iso, rename, rename_node}
use Rattle.spur_graph.specs.Room.{Room}
use Rattle.spur_graph.specs.State.{State}
use Rattle.spur_graph.specs.Step.{SameRoom, Renamed}
use Rattle.spur_graph.specs.Become.{instead, exchange, exchanged, redirect, hand_hash, forwarded, room_redirected, room_forwarded}
use Rattle.spur_graph.proofs.HandleMaps.{chosen}
use Rattle.spur_graph.proofs.MappedValues.{get-map_values}
use Rattle.graph_laws.proofs.Values.{one_to_one, same_name, node-renamed}
use Rattle.graph_laws.proofs.Named.{get-there}
use Rattle.graph_laws.proofs.Changes.{same_noded, same_key}
use Rattle.graph_laws.proofs.BecomeRooms.{same_room_redirected}

-- the names of groups that go through a function
pub waiting-mapped : (f : ℕ → ℕ) (gs : List (List ℕ)) → flat_map (λ (g : List ℕ). g) (map (map f) gs) ≡ map f (flat_map (λ (g : List ℕ). g) gs)
waiting-mapped f [] = refl
waiting-mapped f (g ∷ gs) = ap (λ x. map f g ++ x) (waiting-mapped f gs) ∙ sym (map-append f g (flat_map (λ h. h) gs))

module _ {G H : Graph} {p back : ℕ → ℕ} (k : Iso G H p back) where
  -- the node of the one name with the hash of the other
  with_hash_of : (a b : ℕ) → record (node H (p a)) { hash = (node H (p b)).hash } ≡ rename_node p (record (node G a) { hash = (node G b).hash })
  with_hash_of a b = λ i. record (node-renamed k a i) { hash = (node-renamed k b i).hash }

  same_exchange : (a b : ℕ) → Iso (exchange G a b) (exchange H (p a) (p b)) p back
  same_exchange a b =
      let m : Node = record (node G b) { hash = (node G a).hash } in
      let n : Node = record (node G a) { hash = (node G b).hash } in
      let n' : Node = record (node H (p a)) { hash = (node H (p b)).hash } in
      subst (λ (x : Node). Iso (exchange G a b) (with_node (with_node H (p a) x) (p b) n') p back) (sym (with_hash_of b a))
      (subst (λ (x : Node). Iso (exchange G a b) (with_node (with_node H (p a) (rename_node p m)) (p b) x) p back) (sym (with_hash_of a b))
      (same_noded (same_noded k a m) b n))

  instead-renamed : (a b c : ℕ) → instead (p a) (p b) (p c) ≡ p (instead a b c)
  instead-renamed a b c = elim (cases_eq c a) [
    | inl e ↦ ap (λ t. cond t (p b) (p c)) (eq-eqb (p c) (p a) (ap p e)) ∙ sym (ap (λ t. p (cond t b c)) (eq-eqb c a e))
    | inr n ↦ ap (λ t. cond t (p b) (p c)) (ne_eqb (p c) (p a) (λ e. n (one_to_one p back k.left c a e))) ∙ sym (ap (λ t. p (cond t b c)) (ne_eqb c a n))
  ]

  value-renamed : (a b : ℕ) (v : Value) → rename (instead (p a) (p b)) (rename p v) ≡ rename p (rename (instead a b) v)
  value-renamed a b (Int n) = refl
  value-renamed a b (Char n) = refl
  value-renamed a b (Float n) = refl
  value-renamed a b (Ref c) = ap Ref (instead-renamed a b c)

  values-renamed : (a b : ℕ) (vs : List Value) → map (rename (instead (p a) (p b))) (map (rename p) vs) ≡ map (rename p) (map (rename (instead a b)) vs)
  values-renamed a b [] = refl
  values-renamed a b (v ∷ vs) = λ i. value-renamed a b v i ∷ values-renamed a b vs i

  names-renamed : (a b : ℕ) (cs : List ℕ) → map (instead (p a) (p b)) (map p cs) ≡ map p (map (instead a b) cs)
  names-renamed a b [] = refl
  names-renamed a b (c ∷ cs) = λ i. instead-renamed a b c i ∷ names-renamed a b cs i

  groups-renamed : (a b : ℕ) (gs : List (List ℕ)) → map (map (instead (p a) (p b))) (map (map p) gs) ≡ map (map p) (map (map (instead a b)) gs)
  groups-renamed a b [] = refl
  groups-renamed a b (g ∷ gs) = λ i. names-renamed a b g i ∷ groups-renamed a b gs i

  held-renamed : (a b : ℕ) (o : Option Value) → option_map (rename (instead (p a) (p b))) (option_map (rename p) o) ≡ option_map (rename p) (option_map (rename (instead a b)) o)
  held-renamed a b None = refl
  held-renamed a b (Some v) = ap (λ x. Some x) (value-renamed a b v)

  nodes-renamed : (a b : ℕ) (o : Option Node) → option_map (rename_node (instead (p a) (p b))) (option_map (rename_node p) o) ≡ option_map (rename_node p) (option_map (rename_node (instead a b)) o)
  nodes-renamed a b None = refl
  nodes-renamed a b (Some n) = ap (λ vs. Some (record n { pointers = vs })) (values-renamed a b n.pointers)

  same_redirect : (a b : ℕ) → Iso (redirect G a b) (redirect H (p a) (p b)) p back
  same_redirect a b = record {
    left = k.left;
    right = k.right;
    nodes = λ c.
        get-map_values nat_cmp_total (rename_node (instead (p a) (p b))) (remove H.nodes (p a)) (p c)
        ∙ ap (option_map (rename_node (instead (p a) (p b)))) (get-remove nat_cmp_total H.nodes (p a) (p c) ∙ (λ i. cond (same_key k c a i) None (k.nodes c i))
        ∙ chosen (rename_node p) (eq_by_cmp nat_cmp c a) None (get G.nodes c) ∙ ap (option_map (rename_node p)) (sym (get-remove nat_cmp_total G.nodes a c)))
        ∙ nodes-renamed a b (get (remove G.nodes a) c)
        ∙ ap (option_map (rename_node p)) (sym (get-map_values nat_cmp_total (rename_node (instead a b)) (remove G.nodes a) c));
    nil = k.nil;
    no = k.no;
    yes = k.yes;
    special = ap (rename (instead (p a) (p b))) k.special ∙ value-renamed a b G.special;
    classes = λ i.
        get-map_values nat_cmp_total (rename (instead (p a) (p b))) H.classes i ∙ ap (option_map (rename (instead (p a) (p b)))) (k.classes i) ∙ held-renamed a b (get G.classes i)
        ∙ ap (option_map (rename p)) (sym (get-map_values nat_cmp_total (rename (instead a b)) G.classes i));
    handles = λ h.
        get-map_values handles_total (rename (instead (p a) (p b))) H.handles h ∙ ap (option_map (rename (instead (p a) (p b)))) (k.handles h) ∙ held-renamed a b (get G.handles h)
        ∙ ap (option_map (rename p)) (sym (get-map_values handles_total (rename (instead a b)) G.handles h));
    mourners = ap (map (map (instead (p a) (p b)))) k.mourners ∙ groups-renamed a b G.mourners;
    hash_state = k.hash_state;
  }

  same_handed : (a b : ℕ) → Iso (hand_hash G a b) (hand_hash H (p a) (p b)) p back
  same_handed a b =
      let m : Node = record (node G b) { hash = (node G a).hash } in
      let n : Node = record (node H (p b)) { hash = (node H (p a)).hash } in
      let test : nat_eq (node H (p a)).hash 0 ≡ nat_eq (node G a).hash 0 = λ i. nat_eq (node-renamed k a i).hash 0 in
      subst (λ x. Iso (hand_hash G a b) (if x then H else with_node H (p b) n) p back) (sym test)
      (subst (λ (x : Node). Iso (hand_hash G a b) (if nat_eq (node G a).hash 0 then H else with_node H (p b) x) p back) (sym (with_hash_of b a)) (either (nat_eq (node G a).hash 0) m))
    where
      either : (x : Bool) (m : Node) → Iso (if x then G else with_node G b m) (if x then H else with_node H (p b) (rename_node p m)) p back
      either true m = k
      either false m = same_noded k b m

  same_handed_or_not : (a b : ℕ) (hash : Bool) → Iso (if hash then hand_hash G a b else G) (if hash then hand_hash H (p a) (p b) else H) p back
  same_handed_or_not a b true = same_handed a b
  same_handed_or_not a b false = k

  -- the names of all groups are renamed
  pub waiting-renamed : flat_map (λ (g : List ℕ). g) H.mourners ≡ map p (flat_map (λ (g : List ℕ). g) G.mourners)
  waiting-renamed = ap (flat_map (λ (g : List ℕ). g)) k.mourners ∙ waiting-mapped p G.mourners

-- ---- states

module _ {s t : State} (k : Renamed s t) where
  -- other graphs and rooms that differ in names alone
  with_both : (G H : Graph) (R S : Room) → Iso G H k.p k.back → SameRoom R S k.p → ((c : ℕ) → H.next ≤ c → get H.nodes c ≡ None)
      → Renamed (record s { graph = G; room = R }) (record t { graph = H; room = S })
  with_both G H R S graph room next = record {
    p = k.p;
    back = k.back;
    graph = graph;
    room = room;
    files = k.files;
    script = k.script;
    next = next;
  }

  -- a name from the next one on stands for no name that has a node
  apart_from : (a : ℕ) (m : Node) → get s.graph.nodes a ≡ Some m → (c : ℕ) → t.graph.next ≤ c → c ≢ k.p a
  apart_from a m there c above same = none-some (rename_node k.p m) (sym (k.next c above) ∙ ap (get t.graph.nodes) same ∙ k.graph.nodes a ∙ ap (option_map (rename_node k.p)) there)

  -- two names that have nodes are exchanged
  pub exchanged-renamed : (a b : ℕ) (m n : Node) → get s.graph.nodes a ≡ Some m → get s.graph.nodes b ≡ Some n → (R S : Room) → SameRoom R S k.p
      → Renamed (record s { graph = exchanged s.graph a b; room = R }) (record t { graph = exchanged t.graph (k.p a) (k.p b); room = S })
  exchanged-renamed a b m n first second R S room =
      subst (λ x. Renamed (record s { graph = exchanged s.graph a b; room = R }) (record t { graph = if x then t.graph else exchange t.graph (k.p a) (k.p b); room = S })) (sym (same_name k.graph a b)) (either (nat_eq a b))
    where
      either : (x : Bool) → Renamed (record s { graph = if x then s.graph else exchange s.graph a b; room = R }) (record t { graph = if x then t.graph else exchange t.graph (k.p a) (k.p b); room = S })
      either true = with_both s.graph t.graph R S k.graph room k.next
      either false = with_both (exchange s.graph a b) (exchange t.graph (k.p a) (k.p b)) R S (same_exchange k.graph a b) room (λ c above.
          let x : Node = record (node t.graph (k.p b)) { hash = (node t.graph (k.p a)).hash } in
          let y : Node = record (node t.graph (k.p a)) { hash = (node t.graph (k.p b)).hash } in
          get-there (with_node t.graph (k.p a) x) (k.p b) y c (apart_from b n second c above)
          ∙ get-there t.graph (k.p a) x c (apart_from a m first c above) ∙ k.next c above)

  none_either : {X : Type 0} (x : Bool) (o : Option X) → o ≡ None → cond x None o ≡ None
  none_either true o e = refl
  none_either false o e = e

  -- a name is forwarded to one that has a node
  pub forwarded-renamed : (a b : ℕ) (n : Node) (hash : Bool) → get s.graph.nodes b ≡ Some n
      → Renamed (record s { graph = forwarded s.graph a b hash; room = room_forwarded s.room a b }) (record t { graph = forwarded t.graph (k.p a) (k.p b) hash; room = room_forwarded t.room (k.p a) (k.p b) })
  forwarded-renamed a b n hash there =
      subst (λ x. Renamed (record s { graph = forwarded s.graph a b hash; room = room_forwarded s.room a b })
      (record t { graph = if x then t.graph else redirect (if hash then hand_hash t.graph (k.p a) (k.p b) else t.graph) (k.p a) (k.p b); room = if x then t.room else room_redirected t.room (k.p a) (k.p b) }))
      (sym (same_name k.graph a b)) (either (nat_eq a b))
    where
      -- the hash is no node
      above_handed : (x : Bool) (m : Node) (c : ℕ) → (if x then t.graph else with_node t.graph (k.p b) m).next ≤ c → get (if x then t.graph else with_node t.graph (k.p b) m).nodes c ≡ None
      above_handed true m c l = k.next c l
      above_handed false m c l = get-there t.graph (k.p b) m c (apart_from b n there c l) ∙ k.next c l

      above : (hash : Bool) (c : ℕ) → (if hash then hand_hash t.graph (k.p a) (k.p b) else t.graph).next ≤ c → get (if hash then hand_hash t.graph (k.p a) (k.p b) else t.graph).nodes c ≡ None
      above true c l = above_handed (nat_eq (node t.graph (k.p a)).hash 0) (record (node t.graph (k.p b)) { hash = (node t.graph (k.p a)).hash }) c l
      above false c l = k.next c l

      either : (x : Bool) → Renamed
          (record s { graph = if x then s.graph else redirect (if hash then hand_hash s.graph a b else s.graph) a b; room = if x then s.room else room_redirected s.room a b })
          (record t { graph = if x then t.graph else redirect (if hash then hand_hash t.graph (k.p a) (k.p b) else t.graph) (k.p a) (k.p b); room = if x then t.room else room_redirected t.room (k.p a) (k.p b) })
      either true = k
      either false =
          let from : Graph = if hash then hand_hash s.graph a b else s.graph in
          let to : Graph = if hash then hand_hash t.graph (k.p a) (k.p b) else t.graph in
          with_both (redirect from a b) (redirect to (k.p a) (k.p b)) (room_redirected s.room a b) (room_redirected t.room (k.p a) (k.p b))
          (same_redirect (same_handed_or_not k.graph a b hash) a b) (same_room_redirected k.back k.graph.left k.room a b) (λ c l.
          get-map_values nat_cmp_total (rename_node (instead (k.p a) (k.p b))) (remove to.nodes (k.p a)) c
          ∙ ap (option_map (rename_node (instead (k.p a) (k.p b)))) (get-remove nat_cmp_total to.nodes (k.p a) c ∙ none_either (eq_by_cmp nat_cmp c (k.p a)) (get to.nodes c) (above hash c l)))

  -- the node of a name is changed on both sides, in rooms that differ in names alone
  pub flagged-renamed : (a : ℕ) (m : Node) (f : Node → Node) → get s.graph.nodes a ≡ Some m → ((n : Node) → f (rename_node k.p n) ≡ rename_node k.p (f n)) → (R S : Room) → SameRoom R S k.p
      → Renamed (record s { graph = with_node s.graph a (f (node s.graph a)); room = R }) (record t { graph = with_node t.graph (k.p a) (f (node t.graph (k.p a))); room = S })
  flagged-renamed a m f there alike R S room =
      let new : f (node t.graph (k.p a)) ≡ rename_node k.p (f (node s.graph a)) = ap f (node-renamed k.graph a) ∙ alike (node s.graph a) in
      with_both (with_node s.graph a (f (node s.graph a))) (with_node t.graph (k.p a) (f (node t.graph (k.p a)))) R S
      (subst (λ (x : Node). Iso (with_node s.graph a (f (node s.graph a))) (with_node t.graph (k.p a) x) k.p k.back) (sym new) (same_noded k.graph a (f (node s.graph a))))
      room (λ c above. get-there t.graph (k.p a) (f (node t.graph (k.p a))) c (apart_from a m there c above) ∙ k.next c above)
