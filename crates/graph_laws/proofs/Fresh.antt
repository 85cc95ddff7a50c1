-- States that differ in names alone differ so when each has a fresh object: the fresh names stand for one another.
use Rattle.std.proofs.Common.{◌≡◌, ℕ, false, List, [], ◌∷◌, ◌++◌, map, refl, sym, ap, ◌∙◌, inl, inr, arith, Some, None, Option}
use Rattle.std.proofs.lemmas.Bool.{cases_eq}
use Rattle.std.proofs.lemmas.Option.{none-some}
use Rattle.std.proofs.lemmas.List.Elements.{recursion_from_All}
use Rattle.std.specs.Option.{option_map}
use Rattle.std.specs.List.{All, AllByRecursion, flat_map}
use Rattle.std.specs.FinMap.{get}
use Rattle.std.specs.FinSet.{contains}
use Rattle.spur_graph.specs.declared.answer.Value.{Value}
use Rattle.spur_graph.specs.declared.answer.Value.TheVariants.{Int, Char, Float, Ref}
use Rattle.spur_graph.specs.Node.{Node}
use Rattle.spur_graph.specs.Graph.{Graph, HasNode, waiting}
use Rattle.spur_graph.specs.Room.{Room}
use Rattle.spur_graph.specs.State.{State}
use Rattle.spur_graph.specs.Step.{SameRoom}
use Rattle.spur_graph.specs.Names.{Iso, rename, rename_node, swapped}
use Rattle.spur_graph.proofs.Swapping.{swapped-left, swapped-right, swapped-else, swapped-twice}
use Rattle.graph_laws.proofs.Values.{one_to_one}
use Rattle.graph_laws.proofs.Named.{IsNamed}

pub none_mapped : {X Y : Type 0} (f : X → Y) (o : Option X) → option_map f o ≡ None → o ≡ None
none_mapped f None e = refl
none_mapped f (Some x) e = absurd (none-some (f x) (sym e))

-- lists whose elements go alike go alike
map-alike : {X Y : Type 0} (f g : X → Y) (xs : List X) → AllByRecursion (λ x. f x ≡ g x) xs → map f xs ≡ map g xs
map-alike f g [] all = refl
map-alike f g (x ∷ xs) all = λ i. all.0 i ∷ map-alike f g xs all.1 i

both_parts : {X : Type 0} (P : X → Type 0) (xs ys : List X) → AllByRecursion P (xs ++ ys) → AllByRecursion P xs × AllByRecursion P ys
both_parts P [] ys all = (tt, all)
both_parts P (x ∷ xs) ys all = let r = both_parts P xs ys all.1 in ((all.0, r.0), r.1)

-- a name that has no node in G and one that has none in H may stand for one another
module _ {G H : Graph} {p back : ℕ → ℕ} (k : Iso G H p back) (a w : ℕ) (none : get G.nodes a ≡ None) (free : get H.nodes w ≡ None) where
  abbrev pub there : ℕ → ℕ
  there b = swapped (p a) w (p b)

  abbrev pub here : ℕ → ℕ
  here b = back (swapped (p a) w b)

  pub there-fresh : there a ≡ w
  there-fresh = swapped-left (p a) w (p a) refl

  -- names that have nodes stay
  stays : (b : ℕ) (n : Node) → get G.nodes b ≡ Some n → there b ≡ p b
  stays b n e = swapped-else (p a) w (p b)
      (λ same. none-some n (sym none ∙ ap (get G.nodes) (sym (one_to_one p back k.left b a same)) ∙ e))
      (λ same. none-some (rename_node p n) (sym free ∙ ap (get H.nodes) (sym same) ∙ k.nodes b ∙ ap (option_map (rename_node p)) e))

  -- a value that names a node stays
  pub value-stays : (v : Value) → HasNode G v → rename p v ≡ rename there v
  value-stays (Int n) has = refl
  value-stays (Char c) has = refl
  value-stays (Float x) has = refl
  value-stays (Ref b) has = let n = has b refl in ap Ref (sym (stays b n.0 n.1))

  values-stay : (vs : List Value) → AllByRecursion (HasNode G) vs → AllByRecursion (λ v. rename p v ≡ rename there v) vs
  values-stay [] all = tt
  values-stay (v ∷ vs) all = (value-stays v all.0, values-stay vs all.1)

  node-stays : (n : Node) → All (HasNode G) n.pointers → rename_node p n ≡ rename_node there n
  node-stays n all = ap (λ vs. record n { pointers = vs }) (map-alike (rename p) (rename there) n.pointers (values-stay n.pointers (recursion_from_All (HasNode G) n.pointers all)))

  option-stays : (o : Option Value) → ((v : Value) → o ≡ Some v → HasNode G v) → option_map (rename p) o ≡ option_map (rename there) o
  option-stays None has = refl
  option-stays (Some v) has = ap Some (value-stays v (has v refl))

  name-stays : (b : ℕ) → HasNode G (Ref b) → p b ≡ there b
  name-stays b has = let n = has b refl in sym (stays b n.0 n.1)

  names-stay : (names : List ℕ) → AllByRecursion (λ b. HasNode G (Ref b)) names → map p names ≡ map there names
  names-stay [] all = refl
  names-stay (b ∷ names) all = λ i. name-stays b all.0 i ∷ names-stay names all.1 i

  groups-stay : (groups : List (List ℕ)) → AllByRecursion (λ b. HasNode G (Ref b)) (flat_map (λ group. group) groups) → map (map p) groups ≡ map (map there) groups
  groups-stay [] all = refl
  groups-stay (group ∷ groups) all =
      let r = both_parts (λ b. HasNode G (Ref b)) group (flat_map (λ g. g) groups) all in
      λ i. names-stay group r.0 i ∷ groups-stay groups r.1 i

  nodes-there : (b : ℕ) → ((n : Node) → get G.nodes b ≡ Some n → All (HasNode G) n.pointers) → get H.nodes (there b) ≡ option_map (rename_node there) (get G.nodes b)
  nodes-there b pointers = by (get G.nodes b) refl
    where
      by : (o : Option Node) → get G.nodes b ≡ o → get H.nodes (there b) ≡ option_map (rename_node there) o
      by (Some n) e = ap (get H.nodes) (stays b n e) ∙ k.nodes b ∙ ap (option_map (rename_node p)) e ∙ ap Some (node-stays n (pointers n e))
      by None e = elim (cases_eq (p b) (p a)) [
        | inl same ↦ ap (get H.nodes) (swapped-left (p a) w (p b) same) ∙ free
        | inr other ↦ elim (cases_eq (p b) w) [
          | inl same ↦ ap (get H.nodes) (swapped-right (p a) w (p b) same) ∙ k.nodes a ∙ ap (option_map (rename_node p)) none
          | inr d ↦ ap (get H.nodes) (swapped-else (p a) w (p b) other d) ∙ k.nodes b ∙ ap (option_map (rename_node p)) e
        ]
      ]

-- a graph that speaks only of its nodes is the same under the names so changed
module _ {s : State} (named : IsNamed s) {H : Graph} {p back : ℕ → ℕ} (k : Iso s.graph H p back) (w : ℕ) (free : get H.nodes w ≡ None) where
  abbrev none : get s.graph.nodes s.graph.next ≡ None
  none = named.fresh s.graph.next (omega arith)

  pub fresh-iso : Iso s.graph H (there k s.graph.next w none free) (here k s.graph.next w none free)
  fresh-iso = record {
    left = λ b. ap back (swapped-twice (p s.graph.next) w (p b)) ∙ k.left b;
    right = λ b. ap (swapped (p s.graph.next) w) (k.right (swapped (p s.graph.next) w b)) ∙ swapped-twice (p s.graph.next) w b;
    nodes = λ b. nodes-there k s.graph.next w none free b (λ n e. named.pointers b n e);
    nil = k.nil ∙ name-stays k s.graph.next w none free s.graph.nil named.nil;
    no = k.no ∙ name-stays k s.graph.next w none free s.graph.no named.no;
    yes = k.yes ∙ name-stays k s.graph.next w none free s.graph.yes named.yes;
    special = k.special ∙ value-stays k s.graph.next w none free s.graph.special named.special;
    classes = λ i. k.classes i ∙ option-stays k s.graph.next w none free (get s.graph.classes i) (λ v e. named.classes i v e);
    handles = λ h. k.handles h ∙ option-stays k s.graph.next w none free (get s.graph.handles h) (λ v e. named.handles h v e);
    mourners = k.mourners ∙ groups-stay k s.graph.next w none free s.graph.mourners (recursion_from_All (λ b. HasNode s.graph (Ref b)) (waiting s.graph) named.mourners);
    hash_state = k.hash_state;
  }

  -- and so is a room that knows its names
  pub fresh-room : {room : Room} → SameRoom s.room room p → SameRoom s.room room (there k s.graph.next w none free)
  fresh-room {room} r = record {
    spots = λ b. by b (get s.graph.nodes b) refl;
    old_names = λ b. by_old b (get s.graph.nodes b) refl;
    rest = r.rest;
  }
    where
      -- the fresh name of H stands for one that has no node
      free_back : get s.graph.nodes (back w) ≡ None
      free_back = none_mapped (rename_node p) (get s.graph.nodes (back w)) (sym (k.nodes (back w)) ∙ ap (get H.nodes) (k.right w) ∙ free)

      no_spot : (b : ℕ) → get s.graph.nodes b ≡ None → get room.spots (there k s.graph.next w none free b) ≡ None
      no_spot b e = elim (cases_eq (p b) (p s.graph.next)) [
        | inl same ↦ ap (get room.spots) (swapped-left (p s.graph.next) w (p b) same ∙ sym (k.right w)) ∙ r.spots (back w) ∙ named.spots (back w) free_back
        | inr other ↦ elim (cases_eq (p b) w) [
          | inl same ↦ ap (get room.spots) (swapped-right (p s.graph.next) w (p b) same) ∙ r.spots s.graph.next ∙ named.spots s.graph.next none
          | inr d ↦ ap (get room.spots) (swapped-else (p s.graph.next) w (p b) other d) ∙ r.spots b ∙ named.spots b e
        ]
      ]

      no_name : (b : ℕ) → get s.graph.nodes b ≡ None → contains room.old_names (there k s.graph.next w none free b) ≡ false
      no_name b e = elim (cases_eq (p b) (p s.graph.next)) [
        | inl same ↦ ap (contains room.old_names) (swapped-left (p s.graph.next) w (p b) same ∙ sym (k.right w)) ∙ r.old_names (back w) ∙ named.old_names (back w) free_back
        | inr other ↦ elim (cases_eq (p b) w) [
          | inl same ↦ ap (contains room.old_names) (swapped-right (p s.graph.next) w (p b) same) ∙ r.old_names s.graph.next ∙ named.old_names s.graph.next none
          | inr d ↦ ap (contains room.old_names) (swapped-else (p s.graph.next) w (p b) other d) ∙ r.old_names b ∙ named.old_names b e
        ]
      ]

      by : (b : ℕ) (o : Option Node) → get s.graph.nodes b ≡ o → get room.spots (there k s.graph.next w none free b) ≡ get s.room.spots b
      by b (Some n) e = ap (get room.spots) (stays k s.graph.next w none free b n e) ∙ r.spots b
      by b None e = no_spot b e ∙ sym (named.spots b e)

      by_old : (b : ℕ) (o : Option Node) → get s.graph.nodes b ≡ o → contains room.old_names (there k s.graph.next w none free b) ≡ contains s.room.old_names b
      by_old b (Some n) e = ap (contains room.old_names) (stays k s.graph.next w none free b n e) ∙ r.old_names b
      by_old b None e = no_name b e ∙ sym (named.old_names b e)
