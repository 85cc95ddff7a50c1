-- Mourners are named as they were where each word has the value that it had.
use Rattle.std.proofs.Common.{◌≡◌, ◌/◌, ℕ, List, [], ◌∷◌, map, refl, sym, ap, ◌∙◌, subst, arith}
use Rattle.std.proofs.lemmas.List.Elements.{All-contains}
use Rattle.spur_graph.specs.declared.answer.Value.TheVariants.{Ref}
use Rattle.spur_graph.specs.Cells.{final}
use Rattle.spur_graph.specs.Heaps.{View, IsWhole, HasFired, heap_graph, heap_value, mourners_of, waiting_in}
use Rattle.heap_cells.specs.Settled.{word_of}
use Rattle.heap_cells.proofs.Members.{In, in_left, in_right, listed}
use Rattle.heap_cells.proofs.Tables.{map_members}
use Rattle.spur_heap.specs.Views.{store}
use Rattle.spur_heap.proofs.Following.{leads, own_value}
use Rattle.spur_heap.proofs.Mourned.{fired_good}
use Rattle.spur_heap.proofs.Puts.{whole_sound}
use Rattle.marker.proofs.Visiting.{same_ref}

-- the name of a mourner is that of its word
fired_value : (v : View) → IsWhole v → (s : ℕ) → HasFired (store v) s → heap_value v (word_of s) ≡ Ref (final (store v) s)
fired_value v whole s f =
    let place : word_of s / 8 ≡ s = omega arith in
    sym (leads v (whole_sound v whole) (word_of s) (fired_good v s f) (omega arith)).value ∙ ap (λ t. heap_value v (word_of (final (store v) t))) place ∙ own_value v (final (store v) s) f.ordinary

named_alike : (f g : ℕ → ℕ) (groups : List (List ℕ)) → ((s : ℕ) → In (waiting_in groups) s → f s ≡ g s) → map (map f) groups ≡ map (map g) groups
named_alike f g [] same = refl
named_alike f g (group ∷ groups) same =
    let rest = named_alike f g groups (λ s m. same s (in_right group (waiting_in groups) s m)) in
    let one = map_members f g group (λ s m. same s (in_left group (waiting_in groups) s m)) in
    λ y. one y ∷ rest y

pub mourners_kept : (a b : View) → IsWhole a → IsWhole b → ((w : ℕ) → heap_value b w ≡ heap_value a w) → b.mourners ≡ a.mourners → (heap_graph b).mourners ≡ (heap_graph a).mourners
mourners_kept a b whole whole' values table =
    ap (mourners_of (store b)) table
    ∙ named_alike (final (store b)) (final (store a)) a.mourners (λ s m.
    let was : HasFired (store a) s = All-contains (HasFired (store a)) (waiting_in a.mourners) s whole.mourners.fired (listed (waiting_in a.mourners) s m) in
    let now : HasFired (store b) s = All-contains (HasFired (store b)) (waiting_in b.mourners) s whole'.mourners.fired (listed (waiting_in b.mourners) s (members s m)) in
    same_ref (sym (fired_value b whole' s now) ∙ values (word_of s) ∙ fired_value a whole s was))
  where
    members : (s : ℕ) → In (waiting_in a.mourners) s → In (waiting_in b.mourners) s
    members s m = subst (λ (gs : List (List ℕ)). In (waiting_in gs) s) (sym table) m
