-- A state that speaks only of names that have nodes goes on so after a redirection.
use Rattle.std.proofs.Common.{◌≡◌, ◌≢◌, ◌⊎◌, ℕ, Bool, true, false, cond, not, ◌&&◌, ◌||◌, if◌then◌else◌, nat_eq, List, [], ◌∷◌, map, refl, sym, ap, ◌∙◌, subst, inl, inr, Some, None, Option}
use Rattle.std.proofs.lemmas.Bool.{cases_eq, ne_eqb, eq-eqb, or_parts, eqb-false}
use Rattle.std.proofs.lemmas.Option.{none-some, same_Some}
use Rattle.std.proofs.lemmas.List.Elements.{recursion_from_All, All-from_recursion}
use Rattle.std.specs.Ordering.{nat_cmp, eq_by_cmp}
use Rattle.std.specs.Cmp.{nat_cmp_total, unsigned_tied}
use Rattle.std.specs.Option.{option_map}
use Rattle.std.specs.List.{All, AllByRecursion}
use Rattle.std.specs.FinMap.{get, remove, get-remove}
use Rattle.std.specs.FinSet.{contains, contains-insert, contains-remove}
use Rattle.std.specs.FinSet as sets
use Rattle.spur_graph.specs.declared.answer.Value.{Value}
use Rattle.spur_graph.specs.declared.answer.Value.TheVariants.{Int, Char, Float, Ref}
use Rattle.spur_graph.specs.Node.{Node}
use Rattle.spur_graph.specs.Graph.{Graph, waiting, HasNode}
use Rattle.spur_graph.specs.Handles.{handles_total}
use Rattle.spur_graph.specs.Names.{rename, rename_node}
use Rattle.spur_graph.specs.State.{State}
use Rattle.spur_graph.specs.Refusals.{is_special}
use Rattle.spur_graph.specs.Become.{instead, redirect, room_redirected}
use Rattle.spur_graph.proofs.MappedValues.{get-map_values}
use Rattle.graph_laws.proofs.Named.{IsNamed, has_name, names_nothing}
use Rattle.graph_laws.proofs.Fresh.{none_mapped}
use Rattle.graph_laws.proofs.Becoming.{waiting-mapped}

-- what goes through a function to something was something
pub came_from : {X Y : Type 0} (f : X → Y) (o : Option X) (y : Y) → option_map f o ≡ Some y → (x : X) × (o ≡ Some x) × (f x ≡ y)
came_from f None y e = absurd (none-some y e)
came_from f (Some x) y e = (x, refl, same_Some (f x) y e)

-- no special name is forwarded
unlike : (g : Graph) (a : ℕ) → is_special g a ≡ false → (a ≢ g.nil) × (a ≢ g.no) × (a ≢ g.yes)
unlike g a e =
    let one = or_parts (nat_eq a g.nil || nat_eq a g.no) (nat_eq a g.yes) e in
    let two = or_parts (nat_eq a g.nil) (nat_eq a g.no) one.0 in
    (eqb-false a g.nil two.0, eqb-false a g.no two.1, eqb-false a g.yes one.1)

module _ (g : Graph) (a b : ℕ) (n : Node) (there : get g.nodes b ≡ Some n) (apart : b ≢ a) where
  -- the nodes then
  then_nodes : (c : ℕ) → get (redirect g a b).nodes c ≡ option_map (rename_node (instead a b)) (cond (eq_by_cmp nat_cmp c a) None (get g.nodes c))
  then_nodes c = get-map_values nat_cmp_total (rename_node (instead a b)) (remove g.nodes a) c ∙ ap (option_map (rename_node (instead a b))) (get-remove nat_cmp_total g.nodes a c)

  then_other : (c : ℕ) → c ≢ a → get (redirect g a b).nodes c ≡ option_map (rename_node (instead a b)) (get g.nodes c)
  then_other c d = then_nodes c ∙ ap (λ x. option_map (rename_node (instead a b)) (cond x None (get g.nodes c))) (unsigned_tied c a ∙ ne_eqb c a d)

  then_itself : (c : ℕ) → c ≡ a → get (redirect g a b).nodes c ≡ None
  then_itself c e = then_nodes c ∙ ap (λ x. option_map (rename_node (instead a b)) (cond x None (get g.nodes c))) (unsigned_tied c a ∙ eq-eqb c a e)

  -- a name that is not forwarded has its node still
  name_stays : (c : ℕ) (m : Node) → get g.nodes c ≡ Some m → c ≢ a → HasNode (redirect g a b) (Ref c)
  name_stays c m e d = has_name (redirect g a b) c (rename_node (instead a b) m) (then_other c d ∙ ap (option_map (rename_node (instead a b))) e)

  name_led : (c : ℕ) (m : Node) → get g.nodes c ≡ Some m → HasNode (redirect g a b) (Ref (instead a b c))
  name_led c m e = elim (cases_eq c a) [
    | inl same ↦ subst (λ x. HasNode (redirect g a b) (Ref x)) (sym (ap (λ x. if x then b else c) (eq-eqb c a same))) (name_stays b n there apart)
    | inr d ↦ subst (λ x. HasNode (redirect g a b) (Ref x)) (sym (ap (λ x. if x then b else c) (ne_eqb c a d))) (name_stays c m e d)
  ]

  value_led : (v : Value) → HasNode g v → HasNode (redirect g a b) (rename (instead a b) v)
  value_led (Int x) has = names_nothing (redirect g a b) (Int x) refl
  value_led (Char x) has = names_nothing (redirect g a b) (Char x) refl
  value_led (Float x) has = names_nothing (redirect g a b) (Float x) refl
  value_led (Ref c) has = let m = has c refl in name_led c m.0 m.1

  values_led : (vs : List Value) → AllByRecursion (HasNode g) vs → AllByRecursion (HasNode (redirect g a b)) (map (rename (instead a b)) vs)
  values_led [] all = tt
  values_led (v ∷ vs) all = (value_led v all.0, values_led vs all.1)

  names_led : (names : List ℕ) → AllByRecursion (λ c. HasNode g (Ref c)) names → AllByRecursion (λ c. HasNode (redirect g a b) (Ref c)) (map (instead a b) names)
  names_led [] all = tt
  names_led (c ∷ names) all = let m = all.0 c refl in (name_led c m.0 m.1, names_led names all.1)

-- a name that is none of nil, false and true is forwarded to one that has a node
pub redirected-named : {s : State} → IsNamed s → (a b : ℕ) (n : Node) → get s.graph.nodes b ≡ Some n → b ≢ a → is_special s.graph a ≡ false
    → IsNamed (record s { graph = redirect s.graph a b; room = room_redirected s.room a b })
redirected-named {s} k a b n there apart plain = record {
  fresh = λ c l. none_then c (k.fresh c l);
  pointers = λ c m e. elim (cases_eq c a) [
    | inl same ↦ absurd (none-some m (sym (then_itself s.graph a b n there apart c same) ∙ e))
    | inr d ↦ pointers_then c m (came_from (rename_node (instead a b)) (get s.graph.nodes c) m (sym (then_other s.graph a b n there apart c d) ∙ e))
  ];
  nil = let m = k.nil s.graph.nil refl in name_stays s.graph a b n there apart s.graph.nil m.0 m.1 (λ e. (unlike s.graph a plain).0 (sym e));
  no = let m = k.no s.graph.no refl in name_stays s.graph a b n there apart s.graph.no m.0 m.1 (λ e. (unlike s.graph a plain).1 (sym e));
  yes = let m = k.yes s.graph.yes refl in name_stays s.graph a b n there apart s.graph.yes m.0 m.1 (λ e. (unlike s.graph a plain).2 (sym e));
  special = value_led s.graph a b n there apart s.graph.special k.special;
  classes = λ i v e.
      let v0 = came_from (rename (instead a b)) (get s.graph.classes i) v (sym (get-map_values nat_cmp_total (rename (instead a b)) s.graph.classes i) ∙ e) in
      subst (HasNode (redirect s.graph a b)) v0.2 (value_led s.graph a b n there apart v0.0 (k.classes i v0.0 v0.1));
  handles = λ h v e.
      let v0 = came_from (rename (instead a b)) (get s.graph.handles h) v (sym (get-map_values handles_total (rename (instead a b)) s.graph.handles h) ∙ e) in
      subst (HasNode (redirect s.graph a b)) v0.2 (value_led s.graph a b n there apart v0.0 (k.handles h v0.0 v0.1));
  mourners = subst (All (λ c. HasNode (redirect s.graph a b) (Ref c))) (sym (waiting-mapped (instead a b) s.graph.mourners))
      (All-from_recursion (λ c. HasNode (redirect s.graph a b) (Ref c)) (map (instead a b) (waiting s.graph))
      (names_led s.graph a b n there apart (waiting s.graph) (recursion_from_All (λ c. HasNode s.graph (Ref c)) (waiting s.graph) k.mourners)));
  spots = λ c none. get-remove nat_cmp_total s.room.spots a c ∙ no_spot c (cases_eq c a) none;
  old_names = λ c none. contains-remove nat_cmp_total (if contains s.room.old_names a then sets.insert s.room.old_names b else s.room.old_names) a c ∙ no_name c (cases_eq c a) none;
}
  where
    none_then : (c : ℕ) → get s.graph.nodes c ≡ None → get (redirect s.graph a b).nodes c ≡ None
    none_then c e = elim (cases_eq c a) [
      | inl same ↦ then_itself s.graph a b n there apart c same
      | inr d ↦ then_other s.graph a b n there apart c d ∙ ap (option_map (rename_node (instead a b))) e
    ]

    pointers_then : (c : ℕ) (m : Node) → ((x : Node) × (get s.graph.nodes c ≡ Some x) × (rename_node (instead a b) x ≡ m)) → All (HasNode (redirect s.graph a b)) m.pointers
    pointers_then c m from = subst (λ (x : Node). All (HasNode (redirect s.graph a b)) x.pointers) from.2
        (All-from_recursion (HasNode (redirect s.graph a b)) (map (rename (instead a b)) (from.0).pointers)
        (values_led s.graph a b n there apart (from.0).pointers (recursion_from_All (HasNode s.graph) (from.0).pointers (k.pointers c from.0 from.1))))

    none_before : (c : ℕ) → c ≢ a → get (redirect s.graph a b).nodes c ≡ None → get s.graph.nodes c ≡ None
    none_before c d none = none_mapped (rename_node (instead a b)) (get s.graph.nodes c) (sym (then_other s.graph a b n there apart c d) ∙ none)

    tied : (c : ℕ) → c ≡ a → eq_by_cmp nat_cmp c a ≡ true
    tied c e = unsigned_tied c a ∙ eq-eqb c a e

    untied : (c x : ℕ) → c ≢ x → eq_by_cmp nat_cmp c x ≡ false
    untied c x d = unsigned_tied c x ∙ ne_eqb c x d

    no_spot : (c : ℕ) → (c ≡ a) ⊎ (c ≢ a) → get (redirect s.graph a b).nodes c ≡ None → cond (eq_by_cmp nat_cmp c a) None (get s.room.spots c) ≡ None
    no_spot c (inl e) none = ap (λ x. cond x None (get s.room.spots c)) (tied c e)
    no_spot c (inr d) none = ap (λ x. cond x None (get s.room.spots c)) (untied c a d) ∙ k.spots c (none_before c d none)

    -- who has no node is not the name that old space reaches instead
    not_joined : (c : ℕ) (x : Bool) → get s.graph.nodes c ≡ None → contains (if x then sets.insert s.room.old_names b else s.room.old_names) c ≡ false
    not_joined c true none =
        contains-insert nat_cmp_total s.room.old_names b c
        ∙ ap (λ x. x || contains s.room.old_names c) (untied c b (λ e. none-some n (sym none ∙ ap (get s.graph.nodes) e ∙ there)))
        ∙ k.old_names c none
    not_joined c false none = k.old_names c none

    no_name : (c : ℕ) → (c ≡ a) ⊎ (c ≢ a) → get (redirect s.graph a b).nodes c ≡ None
        → (not (eq_by_cmp nat_cmp c a) && contains (if contains s.room.old_names a then sets.insert s.room.old_names b else s.room.old_names) c) ≡ false
    no_name c (inl e) none = ap (λ x. not x && contains (if contains s.room.old_names a then sets.insert s.room.old_names b else s.room.old_names) c) (tied c e)
    no_name c (inr d) none =
        ap (λ x. not x && contains (if contains s.room.old_names a then sets.insert s.room.old_names b else s.room.old_names) c) (untied c a d)
        ∙ not_joined c (contains s.room.old_names a) (none_before c d none)
