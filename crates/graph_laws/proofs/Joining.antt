-- States that differ in names alone from states that do: two renamings are one.
use Rattle.std.proofs.Common.{◌≡◌, ℕ, List, [], ◌∷◌, map, refl, ap, ◌∙◌, Some, None, Option}
use Rattle.std.specs.Option.{option_map}
use Rattle.std.specs.FinMap.{get}
use Rattle.spur_graph.specs.declared.answer.Value.{Value}
use Rattle.spur_graph.specs.declared.answer.Value.TheVariants.{Int, Char, Float, Ref}
use Rattle.spur_graph.specs.Node.{Node}
use Rattle.spur_graph.specs.Graph.{Graph}
use Rattle.spur_graph.specs.Names.{Iso, rename, rename_node}
use Rattle.spur_graph.specs.Room.{Room}
use Rattle.spur_graph.specs.State.{State}
use Rattle.spur_graph.specs.Step.{SameRoom, Renamed}

pub map-twice : {X Y Z : Type 0} (f : X → Y) (g : Y → Z) (h : X → Z) → ((x : X) → g (f x) ≡ h x) → (xs : List X) → map g (map f xs) ≡ map h xs
map-twice f g h same [] = refl
map-twice f g h same (x ∷ xs) = λ i. same x i ∷ map-twice f g h same xs i

pub option-twice : {X Y Z : Type 0} (f : X → Y) (g : Y → Z) (h : X → Z) → ((x : X) → g (f x) ≡ h x) → (o : Option X) → option_map g (option_map f o) ≡ option_map h o
option-twice f g h same None = refl
option-twice f g h same (Some x) = ap Some (same x)

module _ (p q : ℕ → ℕ) where
  pub rename-twice : (v : Value) → rename q (rename p v) ≡ rename (λ a. q (p a)) v
  rename-twice (Int n) = refl
  rename-twice (Char n) = refl
  rename-twice (Float w) = refl
  rename-twice (Ref a) = refl

  pub rename_node-twice : (n : Node) → rename_node q (rename_node p n) ≡ rename_node (λ a. q (p a)) n
  rename_node-twice n = ap (λ vs. record n { pointers = vs }) (map-twice (rename p) (rename q) (rename (λ a. q (p a))) rename-twice n.pointers)

pub joined_graphs : {F G H : Graph} {p pb q qb : ℕ → ℕ} → Iso F G p pb → Iso G H q qb → Iso F H (λ a. q (p a)) (λ a. pb (qb a))
joined_graphs {F = F} {G = G} {H = H} {p = p} {pb = pb} {q = q} {qb = qb} k l = record {
  left = λ a. ap pb (l.left (p a)) ∙ k.left a;
  right = λ a. ap q (k.right (qb a)) ∙ l.right a;
  nodes = λ a. l.nodes (p a) ∙ ap (option_map (rename_node q)) (k.nodes a) ∙ option-twice (rename_node p) (rename_node q) (rename_node (λ b. q (p b))) (rename_node-twice p q) (get F.nodes a);
  nil = l.nil ∙ ap q k.nil;
  no = l.no ∙ ap q k.no;
  yes = l.yes ∙ ap q k.yes;
  special = l.special ∙ ap (rename q) k.special ∙ rename-twice p q F.special;
  classes = λ i. l.classes i ∙ ap (option_map (rename q)) (k.classes i) ∙ option-twice (rename p) (rename q) (rename (λ b. q (p b))) (rename-twice p q) (get F.classes i);
  handles = λ h. l.handles h ∙ ap (option_map (rename q)) (k.handles h) ∙ option-twice (rename p) (rename q) (rename (λ b. q (p b))) (rename-twice p q) (get F.handles h);
  mourners = l.mourners ∙ ap (map (map q)) k.mourners ∙ map-twice (map p) (map q) (map (λ a. q (p a))) (map-twice p q (λ a. q (p a)) (λ a. refl)) F.mourners;
  hash_state = l.hash_state ∙ k.hash_state;
}

joined_rooms : {Q R S : Room} {p q : ℕ → ℕ} → SameRoom Q R p → SameRoom R S q → SameRoom Q S (λ a. q (p a))
joined_rooms {S = S} {p = p} k l = record {
  spots = λ a. l.spots (p a) ∙ k.spots a;
  old_names = λ a. l.old_names (p a) ∙ k.old_names a;
  rest = l.rest ∙ ap (λ (R : Room). record R { spots = S.spots; old_names = S.old_names }) k.rest;
}

-- two renamings are one
pub joined : {s t u : State} → Renamed s t → Renamed t u → Renamed s u
joined k l = record {
  p = λ a. l.p (k.p a);
  back = λ a. k.back (l.back a);
  graph = joined_graphs k.graph l.graph;
  room = joined_rooms k.room l.room;
  files = l.files ∙ k.files;
  script = l.script ∙ k.script;
  next = l.next;
}
