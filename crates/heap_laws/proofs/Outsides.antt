-- What names objects from outside, under moved places.
use Rattle.std.proofs.Common.{◌≡◌, ℕ, Bool, true, List, [], ◌∷◌, ◌++◌, map, refl, sym, ap, ◌∙◌, Some, None, Option}
use Rattle.std.specs.Option.{option_map}
use Rattle.std.specs.List.{AllByRecursion, flat_map}
use Rattle.std.proofs.lemmas.List.Elements.{recursion_from_All}
use Rattle.std.proofs.lemmas.Simd.{map-map}
use Rattle.std.specs.FinMap.{get}
use Rattle.spur_graph.specs.Names.{rename}
use Rattle.spur_graph.specs.Graph.{Handle}
use Rattle.spur_graph.specs.Cells.{Store, final}
use Rattle.spur_graph.specs.Ordinary.{is_ordinary}
use Rattle.spur_graph.specs.CellGraph.{read}
use Rattle.spur_graph.specs.Heaps.{handle_values, waiting_in}
use Rattle.heap_cells.proofs.HandleValues.{get-handle_values}
use Rattle.heap_laws.specs.Placed.{IsPlacedHandle, Outside, IsPlacedOutside, CanPlace}
use Rattle.heap_laws.proofs.Words.{read-placed}

-- two functions that agree on the members of groups
agree : (f g : ℕ → ℕ) (P : ℕ → Type 0) → ((s : ℕ) → P s → f s ≡ g s) → (ss rest : List ℕ) → AllByRecursion P (ss ++ rest) → (map f ss ≡ map g ss) × AllByRecursion P rest
agree f g P same [] rest all = (refl, all)
agree f g P same (s ∷ ss) rest all = let r = agree f g P same ss rest all.1 in (λ i. same s all.0 i ∷ r.0 i, r.1)

pub agree_groups : (f g : ℕ → ℕ) (P : ℕ → Type 0) → ((s : ℕ) → P s → f s ≡ g s) → (groups : List (List ℕ)) → AllByRecursion P (flat_map (λ group. group) groups) → map (map f) groups ≡ map (map g) groups
agree_groups f g P same [] all = refl
agree_groups f g P same (group ∷ groups) all = let r = agree f g P same group (flat_map (λ group. group) groups) all in λ i. r.0 i ∷ agree_groups f g P same groups r.1 i

pub twice_groups : (f g : ℕ → ℕ) (groups : List (List ℕ)) → map (map f) (map (map g) groups) ≡ map (map (λ s. f (g s))) groups
twice_groups f g [] = refl
twice_groups f g (group ∷ groups) = λ i. map-map f g group i ∷ twice_groups f g groups i

module _ {p : ℕ → ℕ} {keep : ℕ → Bool} {old new : Store} (k : CanPlace p keep old new) (name name' pp : ℕ → ℕ) (named : (s : ℕ) → keep s ≡ true → is_ordinary old s ≡ true → pp (name s) ≡ name' (p s)) where
  handle-placed : (o o' : Option ℕ) → IsPlacedHandle p keep old new o o' → option_map (read name' new) o' ≡ option_map (rename pp) (option_map (read name old) o)
  handle-placed None None m = refl
  handle-placed None (Some w') m = absurd m
  handle-placed (Some w) None m = absurd m
  handle-placed (Some w) (Some w') m = ap (λ v. Some v) (read-placed k name name' pp named w w' m)

  module _ (o o' : Outside) (r : IsPlacedOutside p keep old new o o') where
    pub handles-placed : (h : Handle) → get (handle_values (read name' new) o'.held) h ≡ option_map (rename pp) (get (handle_values (read name old) o.held) h)
    handles-placed h = get-handle_values (read name' new) o'.held h ∙ handle-placed (get o.held h) (get o'.held h) (r.held h) ∙ ap (option_map (rename pp)) (sym (get-handle_values (read name old) o.held h))

    pub mourners-placed : map (map (λ s. name' (final new s))) o'.groups ≡ map (map pp) (map (map (λ s. name (final old s))) o.groups)
    mourners-placed =
        sym (twice_groups name' (final new) o'.groups) ∙ ap (map (map name')) (r.groups ∙ twice_groups p (final old) o.groups) ∙ twice_groups name' (λ s. p (final old s)) o.groups
        ∙ agree_groups (λ s. name' (p (final old s))) (λ s. pp (name (final old s))) (λ s. (keep (final old s) ≡ true) × (is_ordinary old (final old s) ≡ true)) (λ s a. sym (named (final old s) a.0 a.1)) o.groups
        (recursion_from_All (λ s. (keep (final old s) ≡ true) × (is_ordinary old (final old s) ≡ true)) (waiting_in o.groups) r.waiting)
        ∙ sym (twice_groups pp (λ s. name (final old s)) o.groups)
