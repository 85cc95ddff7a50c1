-- A copy exchanges two names.
use Rattle.std.proofs.Common.{◌≡◌, ℕ, true, cond, sym, ap, ◌∙◌, inl, inr}
use Rattle.std.proofs.lemmas.Bool.{cases_eq, eq-eqb, ne_eqb}
use Rattle.spur_graph.specs.Ordinary.{is_ordinary}
use Rattle.spur_graph.specs.Heaps.{own_name}
use Rattle.heap_cells.proofs.CellKinds.{there_starts}
use Rattle.heap_cells.proofs.References.{ordinary_there}
use Rattle.heap_laws.specs.Placed.{ArePaired}
use Rattle.heap_laws.specs.Instances.{all_objects, moved_to}
use Rattle.spur_graph.specs.Names.{swapped}
use Rattle.spur_graph.proofs.Swapping.{swapped-left, swapped-else, swapped-twice}
use Rattle.heap_laws.specs.Placing.{CopiedIsSwapped}
use Rattle.heap_laws.proofs.Copied.{copied_placed, start_apart}
use Rattle.heap_laws.proofs.Graphs.{whole-graph, graph-placed}
use Rattle.heap_laws.proofs.Named.{outside-copied}

pub copied_is_swapped : CopiedIsSwapped
copied_is_swapped a c old new o hash next next' k good =
    let named : (s : ℕ) → all_objects old s ≡ true → is_ordinary old s ≡ true → swapped a c s ≡ moved_to a c s = λ s e f. elim (cases_eq s a) [
      | inl same ↦ swapped-left a c s same ∙ sym (ap (λ b. cond b c s) (eq-eqb s a same))
      | inr n ↦ swapped-else a c s n (start_apart k s (there_starts (old.cell s) e)) ∙ sym (ap (λ b. cond b c s) (ne_eqb s a n))
    ] in
    let are : ArePaired (moved_to a c) (all_objects old) old own_name own_name (swapped a c) (swapped a c) = record { left = swapped-twice a c; right = swapped-twice a c; named = named } in
    let iso = graph-placed (moved_to a c) (all_objects old) old new own_name own_name (swapped a c) (swapped a c) (copied_placed k) (λ s t x y e. e) are o o hash next next' (outside-copied k o good) in
    whole-graph (all_objects old) old own_name o hash next (λ t. ordinary_there old t) iso
