use Rattle.std.proofs.Common.{◌≡◌, ℕ, length}
use Rattle.handle_table.specs.Slots.{home_at, key_at, slot_at, HasGap}
use Rattle.handle_table.proofs.index.close_gap.Given as goal

abbrev pub invariant-shift : goal.invariant-shift
invariant-shift l = record {
  gapped : HasGap l.slots (length l.held) (home_at l.held) (slot_at l.held) l.gap l.at;
  size : length l.held ≡ length l.fn.held;
  keys : (n : ℕ) → key_at l.held n ≡ key_at l.fn.held n;
}
