use Rattle.std.proofs.Common.{◌≡◌, ◌≢◌, ℕ, ◌+◌, ◌<◌, ◌≤◌, ◌-◌, List, length, slice_index, slice_index_or, slice_set, ap, sym, ◌∙◌, subst, arith}
use Rattle.std.proofs.lemmas.List.{get_or_default, length-set}
use Rattle.handle_table.specs.declared.index.Held.{Held}
use Rattle.handle_table.specs.Slots.{home_of, home_at, key_at, slot_at, HasGap}
use Rattle.handle_table.proofs.Slots.{shifted, stayed}
use Rattle.handle_table.proofs.Held.{key_read, key_at-moved, slot_at-moved, slot_at-stays}
use Rattle.handle_table.proofs.index.close_gap.Goals as goal
use Rattle.handle_table.proofs.index.close_gap.Goals.{then-home-gap, else-home-gap}

pub shift-preserved : goal.shift-preserved
shift-preserved c =
    let slots : List ℕ = c.shift.slots in
    let held : List Held = c.shift.held in
    let at : ℕ = c.shift.at in
    let n : ℕ = slice_index slots at - 1 in
    let g : HasGap slots (length held) (home_at held) (slot_at held) c.shift.gap at = c.shift.invariant.gapped in
    let here : slice_index slots at ≢ 0 = c.if-index-eq0.false in
    let within : at < 196608 = c.shift-test.true in
    let named : (slice_index slots at ≤ length held) × (slot_at held n ≡ at) = g.paired.named at here in
    let home : c.home.result ≡ home_at held n = c.home.ensures.value ∙ ap home_of (key_read held n (slice_index_or held n c.index-held-n.result) (get_or_default held n _ _ (omega arith)) (omega arith)) in
    elim c.if-home-gap.branch [
      | then-home-gap w ↦
          let h : Held = slice_index_or held n w.index-held-n-then-home-gap.result in
          let is : h ≡ slice_index_or held n h = get_or_default held n w.index-held-n-then-home-gap.result h (omega arith) in
          let gap : ℕ = c.shift.gap in
          let to : List Held = slice_set held n (record h { slot = gap }) in
          let size : length to ≡ length held = length-set held n (record h { slot = gap }) in
          let keys : (m : ℕ) → key_at to m ≡ key_at held m = key_at-moved held n h gap is (omega arith) in
          let low : home_at held n ≤ gap = omega (arith, home, w.if-home-gap.true) in
          let next : HasGap (slice_set (slice_set slots gap (slice_index slots at)) at 0) (length held) (home_at to) (slot_at to) at (at + 1) =
          shifted slots (length held) (home_at held) (slot_at held) (home_at to) (slot_at to) gap at g within here low
          (slot_at-moved held n h gap is (omega arith)) (slot_at-stays held n h gap is (omega arith)) (λ m. ap home_of (keys m)) in
          let slots_is : c.if-home-gap.slots ≡ slice_set (slice_set slots gap (slice_index slots at)) at 0 = w.slots-is in
          let held_is : c.if-home-gap.held ≡ to = w.held-is in
          let gap_is : c.if-home-gap.gap ≡ at = w.gap-is in
          rw (slots_is, held_is, gap_is) (record {
            gapped = subst (λ (k : ℕ). HasGap (slice_set (slice_set slots gap (slice_index slots at)) at 0) k (home_at to) (slot_at to) at (at + 1)) (sym size) next;
            size = size ∙ c.shift.invariant.size;
            keys = λ m. keys m ∙ c.shift.invariant.keys m;
          })
      | else-home-gap w ↦
          let ahead : c.shift.gap < home_at held n = omega (arith, home, w.if-home-gap.false) in
          let slots_is : c.if-home-gap.slots ≡ slots = w.slots-is in
          let held_is : c.if-home-gap.held ≡ held = w.held-is in
          let gap_is : c.if-home-gap.gap ≡ c.shift.gap = w.gap-is in
          rw (slots_is, held_is, gap_is) (record {
            gapped = stayed slots (length held) (home_at held) (slot_at held) c.shift.gap at g within here ahead;
            size = c.shift.invariant.size;
            keys = c.shift.invariant.keys;
          })
    ]
