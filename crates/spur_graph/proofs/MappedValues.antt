-- Looking up in a map whose values have gone through a function.
use Rattle.std.proofs.Common.{◌≡◌, ℕ, false, cond, List, [], ◌∷◌, map, refl, sym, ap, ◌∙◌, inl, inr, Some, Option}
use Rattle.std.proofs.lemmas.Bool.{cases_eq, ne_eqb}
use Rattle.std.specs.Option.{option_map}
use Rattle.std.specs.declared.cmp.Ordering.{Ordering}
use Rattle.std.specs.Ordering.{nat_cmp, eq_by_cmp}
use Rattle.std.specs.Cmp.{IsTotalOrder, nat_cmp_total, unsigned_tied}
use Rattle.std.specs.FinMap.{FinMap, find, get, entries, get-from_entries, get-entries}
use Rattle.spur_graph.specs.Node.{Node}
use Rattle.spur_graph.specs.Become.{map_values}
use Rattle.spur_graph.specs.Rounds.{map_nodes}
use Rattle.spur_graph.proofs.HandleMaps.{chosen, find-mapped}

pub get-map_values : {K X Y : Type 0} {R : K → K → Ordering} (total : IsTotalOrder R) (f : X → Y) (m : FinMap R X) (q : K) → get (map_values {R = R} f m) q ≡ option_map f (get m q)
get-map_values {R} total f m q = get-from_entries total (map (λ e. (e.0, f e.1)) (entries m)) q ∙ find-mapped R f q (entries m) ∙ ap (option_map f) (sym (get-entries m q))

-- the same, where the function sees the name
at_name : (f : ℕ → Node → Node) (a b : ℕ) (n : Node) (rest : Option Node) → cond (eq_by_cmp nat_cmp a b) (Some (f b n)) rest ≡ cond (eq_by_cmp nat_cmp a b) (Some (f a n)) rest
at_name f a b n rest = elim (cases_eq a b) [
  | inl same ↦ ap (λ c. cond (eq_by_cmp nat_cmp a b) (Some (f c n)) rest) (sym same)
  | inr other ↦
      let off : eq_by_cmp nat_cmp a b ≡ false = unsigned_tied a b ∙ ne_eqb a b other in
      ap (λ x. cond x (Some (f b n)) rest) off ∙ sym (ap (λ x. cond x (Some (f a n)) rest) off)
]

find-named : (f : ℕ → Node → Node) (a : ℕ) (es : List (ℕ × Node)) → find nat_cmp a (map (λ e. (e.0, f e.0 e.1)) es) ≡ option_map (f a) (find nat_cmp a es)
find-named f a [] = refl
find-named f a (e ∷ es) =
    ap (cond (eq_by_cmp nat_cmp a e.0) (Some (f e.0 e.1))) (find-named f a es)
    ∙ at_name f a e.0 e.1 (option_map (f a) (find nat_cmp a es))
    ∙ chosen (f a) (eq_by_cmp nat_cmp a e.0) (Some e.1) (find nat_cmp a es)

pub get-map_nodes : (f : ℕ → Node → Node) (m : FinMap nat_cmp Node) (a : ℕ) → get (map_nodes f m) a ≡ option_map (f a) (get m a)
get-map_nodes f m a = get-from_entries nat_cmp_total (map (λ e. (e.0, f e.0 e.1)) (entries m)) a ∙ find-named f a (entries m) ∙ ap (option_map (f a)) (sym (get-entries m a))
