-- Names the other way round: what differs in names alone from something else is differed from alike.
use Rattle.std.proofs.Common.{◌≡◌, ℕ, List, [], ◌∷◌, map, refl, sym, ap, ◌∙◌, Some, None, Option}
use Rattle.std.specs.Option.{option_map}
use Rattle.std.specs.FinMap.{get}
use Rattle.std.specs.FinSet.{contains}
use Rattle.spur_graph.specs.declared.answer.Value.{Value}
use Rattle.spur_graph.specs.declared.answer.Value.TheVariants.{Int, Char, Float, Ref}
use Rattle.spur_graph.specs.Node.{Node}
use Rattle.spur_graph.specs.Graph.{Graph}
use Rattle.spur_graph.specs.Names.{Iso, rename, rename_node}
use Rattle.spur_graph.specs.Room.{Room}
use Rattle.spur_graph.specs.Step.{SameRoom}

-- there and back
module _ {X Y : Type 0} (f : X → Y) (g : Y → X) (again : (x : X) → g (f x) ≡ x) where
  pub map-again : (xs : List X) → map g (map f xs) ≡ xs
  map-again [] = refl
  map-again (x ∷ xs) = λ i. again x i ∷ map-again xs i

  option-again : (o : Option X) → option_map g (option_map f o) ≡ o
  option-again None = refl
  option-again (Some x) = ap Some (again x)

module _ (p back : ℕ → ℕ) (left : (a : ℕ) → back (p a) ≡ a) where
  value-again : (v : Value) → rename back (rename p v) ≡ v
  value-again (Int n) = refl
  value-again (Char c) = refl
  value-again (Float w) = refl
  value-again (Ref a) = ap Ref (left a)

  node-again : (n : Node) → rename_node back (rename_node p n) ≡ n
  node-again n = ap (λ vs. record n { pointers = vs }) (map-again (rename p) (rename back) value-again n.pointers)

pub turned : {G H : Graph} {p back : ℕ → ℕ} → Iso G H p back → Iso H G back p
turned {G} {H} {p} {back} k =
    let again = value-again p back k.left in
    record {
      left = k.right;
      right = k.left;
      nodes = λ b. sym (
          ap (option_map (rename_node back)) (ap (get H.nodes) (sym (k.right b)) ∙ k.nodes (back b))
          ∙ option-again (rename_node p) (rename_node back) (node-again p back k.left) (get G.nodes (back b)));
      nil = sym (ap back k.nil ∙ k.left G.nil);
      no = sym (ap back k.no ∙ k.left G.no);
      yes = sym (ap back k.yes ∙ k.left G.yes);
      special = sym (ap (rename back) k.special ∙ again G.special);
      classes = λ i. sym (ap (option_map (rename back)) (k.classes i) ∙ option-again (rename p) (rename back) again (get G.classes i));
      handles = λ h. sym (ap (option_map (rename back)) (k.handles h) ∙ option-again (rename p) (rename back) again (get G.handles h));
      mourners = sym (ap (map (map back)) k.mourners ∙ map-again (map p) (map back) (map-again p back k.left) G.mourners);
      hash_state = sym k.hash_state;
    }

pub turned_room : {R S : Room} {p back : ℕ → ℕ} → ((b : ℕ) → p (back b) ≡ b) → SameRoom R S p → SameRoom S R back
turned_room {R} {S} {p} {back} right k = record {
  spots = λ b. sym (k.spots (back b)) ∙ ap (get S.spots) (right b);
  old_names = λ b. sym (k.old_names (back b)) ∙ ap (contains S.old_names) (right b);
  rest = sym (ap (λ (room : Room). record room { spots = R.spots; old_names = R.old_names }) k.rest);
}
