-- The gaps of a compacted old space: at most one more than pinned objects.
use Rattle.std.proofs.Common.{◌≡◌, ℕ, Bool, true, false, cond, not, ◌&&◌, ◌+◌, ◌≤◌, eqb, List, length, get_or, refl, sym, ap, ◌∙◌, subst, arith, inl, inr}
use Rattle.std.proofs.lemmas.Bool.{false≢true, cases_Bool, and_parts}
use Rattle.std.proofs.lemmas.List.Sums.{sum_by-append}
use Rattle.std.specs.List.{count_by}
use Rattle.object_header.specs.Fields.{fields_of}
use Rattle.object_header.specs.Head.{class_of}
use Rattle.object_header.specs.Chunks.{Chunk, slots_of}
use Rattle.spur_graph.specs.Cells.{Store, is_start, is_there, read_cell, start_named}
use Rattle.spur_graph.specs.CellRoom.{is_free}
use Rattle.spur_graph.specs.Spaces.{old_row, young_row}
use Rattle.spur_graph.specs.Heaps.{IsWhole, View, heap_to, store_of, chunks_of}
use Rattle.heap_cells.proofs.CellKinds.{there_starts, start_from}
use Rattle.heap_cells.proofs.Cutting.{cell-at}
use Rattle.heap_cells.proofs.Members.{In, in_left, in_right}
use Rattle.compaction_laws.specs.Compacting.{IsTight, Compacts, is_marked_object, is_pinned, free_count, pinned_count}
use Rattle.compaction_laws.proofs.Fronts.{front, front-number, first-marked}
use Rattle.compaction_laws.proofs.Spaces.{spaces', rest', old', marked-there}
use Rattle.compaction_laws.proofs.After.{new, order', old-is}
use Rattle.compaction_laws.proofs.Shapes.{there-at}
use Rattle.compaction_laws.proofs.Sums.{sum-zero, more-count}

not-not : (b : Bool) → not (not b) ≡ b
not-not true = refl
not-not false = refl

module _ {p : ℕ → ℕ} {v v' : View} (k : IsWhole v) (t : IsTight v) (c : Compacts p v v') where
  abbrev after : Store
  after = store_of (new k t c)

  abbrev os' : List Chunk
  os' = old_row v'.words (spaces' k t c)

  abbrev pub free : Chunk → Bool
  free d = eqb (class_of (get_or v'.words d.start 0)) 0

  -- a pinned object
  abbrev pub pin : Chunk → Bool
  pin d = not (free d) && is_pinned v'.words d.start

  pub free-is : (d : Chunk) → In (chunks_of (new k t c)) d → is_free after d ≡ free d
  unfolding read_cell
  free-is d m =
      ap (λ x. not (is_start x)) (cell-at heap_to v'.words 0 (length v'.words) (chunks_of (new k t c)) d (order' k t c) m)
      ∙ ap not (start_from (fields_of (get_or v'.words d.start 0)) (start_named heap_to v'.words (get_or v'.words (d.start + 1) 0)) (slots_of v'.words d))
      ∙ not-not (free d)

  pub not-free : (d : Chunk) → In (chunks_of (new k t c)) d → is_there (after.cell d.start) ≡ true → free d ≡ false
  not-free d m there = sym (free-is d m) ∙ ap not (there_starts (after.cell d.start) there)

  -- what starts in the map is no free chunk
  started : (d : Chunk) → In (chunks_of (new k t c)) d → c.starts d.start ≡ true → free d ≡ false
  started d m on =
      let b = c.moved.back d.start on in
      not-free d m (ap (λ s. is_there (after.cell s)) (sym b.2) ∙ there-at k t c b.0 (marked-there k t c b.0 b.1))

  in_rows : (d : Chunk) → In (old' k t c) d → In (chunks_of (new k t c)) d
  in_rows d m = in_left os' (young_row v'.words (spaces' k t c)) d (subst (λ cs. In cs d) (sym (old-is k t c)) m)

  pub few-gaps : count_by free os' ≤ count_by pin os' + 1
  few-gaps =
      let behind : (d : Chunk) → In (rest' k t c) d → In (chunks_of (new k t c)) d = λ d m. in_rows d (in_right (front k) (rest' k t c) d m) in
      let none = sum-zero (λ (d : Chunk). cond (free d) 1 0) (front k) (λ d m.
      let n = front-number k d m in
      let marked : is_marked_object v d.start ≡ true = ap (is_marked_object v) n.2 ∙ first-marked k t n.0 n.1 in
      let stay : p d.start ≡ d.start = ap p n.2 ∙ c.firsts n.0 n.1 ∙ sym n.2 in
      let there : is_there (after.cell d.start) ≡ true = ap (λ s. is_there (after.cell s)) (sym stay) ∙ there-at k t c d.start marked in
      ap {B = ℕ} (λ b. cond b 1 0) (not-free d (in_rows d (in_left (front k) (rest' k t c) d m)) there)) in
      let gaps : count_by free (rest' k t c) ≤ free_count c.starts (rest' k t c) = more-count free (λ (d : Chunk). not (c.starts d.start)) (rest' k t c) (λ d m on. elim (cases_Bool (c.starts d.start)) [
        | inl starts ↦ absurd (false≢true (sym (started d (behind d m) starts) ∙ on))
        | inr off ↦ ap not off
      ]) in
      let pins : pinned_count c.starts v'.words (rest' k t c) ≤ count_by pin (rest' k t c) = more-count (λ (d : Chunk). c.starts d.start && is_pinned v'.words d.start) pin (rest' k t c) (λ d m on.
      let both = and_parts (c.starts d.start) (is_pinned v'.words d.start) on in
      let some = started d (behind d m) both.0 in
      λ x. not (some x) && both.1 x) in
      let few = c.few in
      let free_all = ap (count_by free) (old-is k t c) ∙ sum_by-append (λ (d : Chunk). cond (free d) 1 0) (front k) (rest' k t c) in
      let pin_all = ap (count_by pin) (old-is k t c) ∙ sum_by-append (λ (d : Chunk). cond (pin d) 1 0) (front k) (rest' k t c) in
      omega (arith, none, gaps, pins, few, free_all, pin_all)
