-- Renamings that agree on the names that have nodes do the same to whatever a closed graph speaks of.
use Rattle.std.proofs.Common.{◌≡◌, ℕ, List, [], ◌∷◌, ◌++◌, map, get_or, refl, sym, ap, subst, Some, None, Option}
use Rattle.std.proofs.lemmas.List.Elements.{recursion_from_All}
use Rattle.std.specs.Option.{option_map}
use Rattle.std.specs.List.{All, AllByRecursion, flat_map}
use Rattle.std.specs.FinMap.{get}
use Rattle.spur_graph.specs.declared.answer.Value.{Value}
use Rattle.spur_graph.specs.declared.answer.Value.TheVariants.{Int, Char, Float, Ref}
use Rattle.spur_graph.specs.Node.{Node}
use Rattle.spur_graph.specs.Graph.{Graph, Handle, waiting, HasNode, IsClosed, IsEntered}
use Rattle.spur_graph.specs.Names.{rename, rename_node}
use Rattle.graph_laws.proofs.Named.{has_name}

module _ (g : Graph) (p q : ℕ → ℕ) (agree : (x : ℕ) (n : Node) → get g.nodes x ≡ Some n → p x ≡ q x) where
  pub value-agrees : (v : Value) → HasNode g v → rename p v ≡ rename q v
  value-agrees (Int n) has = refl
  value-agrees (Char n) has = refl
  value-agrees (Float n) has = refl
  value-agrees (Ref x) has = let r = has x refl in ap Ref (agree x r.0 r.1)

  values-agree : (vs : List Value) → AllByRecursion (HasNode g) vs → map (rename p) vs ≡ map (rename q) vs
  values-agree [] all = refl
  values-agree (v ∷ vs) all = λ i. value-agrees v all.0 i ∷ values-agree vs all.1 i

  pub node-agrees : (n : Node) → All (HasNode g) n.pointers → rename_node p n ≡ rename_node q n
  node-agrees n all = ap (λ vs. record n { pointers = vs }) (values-agree n.pointers (recursion_from_All (HasNode g) n.pointers all))

  maybe_value : (o : Option Value) → ((v : Value) → o ≡ Some v → HasNode g v) → option_map (rename p) o ≡ option_map (rename q) o
  maybe_value None has = refl
  maybe_value (Some v) has = ap Some (value-agrees v (has v refl))

  pub maybe_node : (o : Option Node) → ((n : Node) → o ≡ Some n → All (HasNode g) n.pointers) → option_map (rename_node p) o ≡ option_map (rename_node q) o
  maybe_node None has = refl
  maybe_node (Some n) has = ap Some (node-agrees n (has n refl))

  -- the front of a list of names, and what is left of it
  names-agree : (xs rest : List ℕ) → AllByRecursion (λ x. p x ≡ q x) (xs ++ rest) → (map p xs ≡ map q xs) × AllByRecursion (λ x. p x ≡ q x) rest
  names-agree [] rest all = (refl, all)
  names-agree (x ∷ xs) rest all = let r = names-agree xs rest all.1 in ((λ i. all.0 i ∷ r.0 i), r.1)

  groups-agree : (gs : List (List ℕ)) → AllByRecursion (λ x. p x ≡ q x) (flat_map (λ (group : List ℕ). group) gs) → map (map p) gs ≡ map (map q) gs
  groups-agree [] all = refl
  groups-agree (group ∷ gs) all = let r = names-agree group (flat_map (λ (h : List ℕ). h) gs) all in λ i. r.0 i ∷ groups-agree gs r.1 i

  -- ---- what a closed graph speaks of

  module _ (closed : IsClosed g) where
    pub special-agrees : rename p g.special ≡ rename q g.special
    special-agrees = value-agrees g.special closed.special_there.1

    pub classes-agree : (i : ℕ) → option_map (rename p) (get g.classes i) ≡ option_map (rename q) (get g.classes i)
    classes-agree i = maybe_value (get g.classes i) (λ v e. by v (closed.entered i v e))
      where
        by : (v : Value) → ((a : ℕ) × (v ≡ Ref a) × IsEntered g a) → HasNode g v
        by v a = subst (HasNode g) (sym a.1) (has_name g a.0 (a.2).class (a.2).there)

    pub handles-agree : (h : Handle) → option_map (rename p) (get g.handles h) ≡ option_map (rename q) (get g.handles h)
    handles-agree h = maybe_value (get g.handles h) (λ v e. (closed.held_values h v e).1)

    pub mourners-agree : map (map p) g.mourners ≡ map (map q) g.mourners
    mourners-agree = groups-agree g.mourners (recursion_from_All (λ x. p x ≡ q x) (waiting g) (λ i d l. let f = closed.fired i d l in agree (get_or (waiting g) i d) f.0 f.1))
