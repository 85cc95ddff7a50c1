-- A graph under its own names.
use Rattle.std.proofs.Common.{◌≡◌, ℕ, List, [], ◌∷◌, refl, Some, None, Option, ap, ◌∙◌}
use Rattle.std.specs.Prelude.{map}
use Rattle.std.specs.Option.{option_map}
use Rattle.std.specs.FinMap.{get}
use Rattle.spur_graph.specs.declared.answer.Value.{Value}
use Rattle.spur_graph.specs.declared.answer.Value.TheVariants.{Int, Char, Float, Ref}
use Rattle.spur_graph.specs.Node.{Node}
use Rattle.spur_graph.specs.Graph.{Graph}
use Rattle.spur_graph.specs.Names.{Iso, rename, rename_node}

same_value : (v : Value) → v ≡ rename (λ a. a) v
same_value (Int n) = refl
same_value (Char n) = refl
same_value (Float n) = refl
same_value (Ref n) = refl

same_values : (vs : List Value) → vs ≡ map (rename (λ a. a)) vs
same_values [] = refl
same_values (v ∷ vs) = ap (λ w. w ∷ vs) (same_value v) ∙ ap (λ ws. rename (λ a. a) v ∷ ws) (same_values vs)

same_node : (o : Option Node) → o ≡ option_map (rename_node (λ a. a)) o
same_node None = refl
same_node (Some n) = ap (λ vs. Some (record n { pointers = vs })) (same_values n.pointers)

same_option : (o : Option Value) → o ≡ option_map (rename (λ a. a)) o
same_option None = refl
same_option (Some v) = ap (λ w. Some w) (same_value v)

same_names : (group : List ℕ) → group ≡ map (λ a. a) group
same_names [] = refl
same_names (a ∷ group) = ap (λ g. a ∷ g) (same_names group)

same_groups : (groups : List (List ℕ)) → groups ≡ map (map (λ a. a)) groups
same_groups [] = refl
same_groups (g ∷ groups) = ap (λ h. h ∷ groups) (same_names g) ∙ ap (λ hs. map (λ a. a) g ∷ hs) (same_groups groups)

pub itself : (g : Graph) → Iso g g (λ a. a) (λ a. a)
itself g = record {
  left = λ a. refl;
  right = λ a. refl;
  nodes = λ a. same_node (get g.nodes a);
  nil = refl;
  no = refl;
  yes = refl;
  special = same_value g.special;
  classes = λ i. same_option (get g.classes i);
  handles = λ h. same_option (get g.handles h);
  mourners = same_groups g.mourners;
  hash_state = refl;
}
