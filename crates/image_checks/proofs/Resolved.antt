-- What resolving forwarders leaves of the objects.
use Rattle.std.proofs.Common.{◌≡◌, ℕ, true, cond, ◌<◌, ◌≤◌, sym, ap, ◌∙◌, subst, arith, length, get_or}
use Rattle.spur_graph.specs.Cells.{Cell, Moved, Store, first, final, is_there, body_of}
use Rattle.spur_graph.specs.Ordinary.{roots_slots}
use Rattle.heap_cells.proofs.CellKinds.{there_is_not_moved}
use Rattle.image_checks.specs.Checks.{HasFive, IsResolved}

-- an object stays
pub object-kept : (old new : Store) → IsResolved old new → (s : ℕ) → is_there (old.cell s) ≡ true → new.cell s ≡ old.cell s
object-kept old new r s there = r.cells s ∙ ap (λ b. cond b (Moved (final old s)) (old.cell s)) (there_is_not_moved (old.cell s) there)

pub keeps-five : (old new : Store) → IsResolved old new → HasFive old → HasFive new
keeps-five old new r f =
    let same : (k : ℕ) → k < 5 → new.cell (first new k) ≡ old.cell (first old k) = λ k l. ap (λ xs. new.cell (get_or xs k 0)) r.starts ∙ object-kept old new r (first old k) (f.objects k l) in
    record {
      five = subst (λ xs. 5 ≤ length xs) (sym r.starts) f.five;
      objects = λ k l. ap is_there (same k l) ∙ f.objects k l;
      lists = subst (λ (c : Cell). (body_of c).format < 24) (sym (same 3 (omega arith))) f.lists;
      roots = subst (λ (c : Cell). ((body_of c).format ≡ 2) × (length (body_of c).words ≡ roots_slots)) (sym (same 4 (omega arith))) f.roots;
    }
