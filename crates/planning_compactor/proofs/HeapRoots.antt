-- What names objects from outside of the words: before a compaction it names what moves, and afterwards it is under the new places.
use Rattle.std.proofs.Common.{◌≡◌, ℕ, suc, zero, Bool, true, false, cond, ◌+◌, ◌*◌, ◌/◌, ◌%◌, ◌<◌, List, [], ◌∷◌, map, length, drop, get_or, refl, sym, ap, ◌∙◌, subst, inl, inr, arith, Some, option_map}
use Rattle.std.proofs.lemmas.Bool.{cases_Bool, or_right}
use Rattle.std.proofs.lemmas.Grind.{same_number_lists}
use Rattle.std.proofs.lemmas.List.{length-map, get_or-map, get_or-drop}
use Rattle.std.proofs.lemmas.List.Elements.{Contains-get_or}
use Rattle.std.specs.FinMap.{get}
use Rattle.std.specs.List.{Contains}
use Rattle.handle_table.specs.Handles.{held}
use Rattle.handle_table.proofs.Bound.{get-bound_map}
use Rattle.spur_graph.specs.Graph.{Handle}
use Rattle.spur_graph.specs.Value.{is_immediate_word}
use Rattle.spur_graph.specs.Cells.{final}
use Rattle.spur_graph.specs.Ordinary.{is_good_reference, is_ordinary}
use Rattle.spur_graph.specs.Heaps.{View, store_of, waiting_in}
use Rattle.heap_cells.specs.Settled.{word_of}
use Rattle.heap_laws.specs.Instances.{IsReaddressedOutside, readdressed_by}
use Rattle.heap_laws.specs.Placing.{outside_of}
use Rattle.spur_heap.specs.Mourning.{left}
use Rattle.spur_heap.specs.Parts.{view_of, ArePartsOfHeap}
use Rattle.spur_heap.specs.Tables.{Parted, begins, start_in, parted}
use Rattle.spur_heap.specs.declared.heap.HeapParts.{HeapParts}
use Rattle.spur_heap.proofs.Mourned.{waiting_left}
use Rattle.compaction_laws.specs.Compacting.{IsTight, is_mapped}
use Rattle.compaction_laws.proofs.Ready.{can_move}
use Rattle.planning_compactor.specs.declared.parts.Parts.{Parts}
use Rattle.planning_compactor.specs.declared.parts.YoungEnds.{YoungEnds}
use Rattle.planning_compactor.specs.Roots.{AreRoots}
use Rattle.planning_compactor.specs.Ranges.{CompactsRanges, roots_in}

module _ (p : HeapParts) (k : ArePartsOfHeap p) (t : IsTight (view_of p)) where
  -- each word of the table is that of a handle
  abbrev pub AreHeld : Type 0
  AreHeld = (i : ℕ) → i < length p.handles.words → (h : Handle) × (get (held p.handles) h ≡ Some (get_or p.handles.words i 0))

  mourner-moves : (i : ℕ) → i < length (left p) → is_mapped (view_of p) (start_in (get_or (left p) i 0)) ≡ true
  mourner-moves i l =
      let ws : List ℕ = waiting_in (view_of p).mourners in
      let are = waiting_left p k in
      let long : length ws ≡ length (left p) = ap (λ (xs : List ℕ). length xs) are ∙ length-map (left p) start_in in
      let low : i < length ws = omega (arith, long, l) in
      let is : get_or ws i 0 ≡ start_in (get_or (left p) i 0) = ap (λ (xs : List ℕ). get_or xs i 0) are ∙ get_or-map start_in (left p) i 0 0 l in
      subst (λ s. is_mapped (view_of p) s ≡ true) is ((can_move k.whole t).waiting (get_or ws i 0) (Contains-get_or ws i 0 low))

  pub roots-ready : AreHeld → AreRoots (is_mapped (view_of p)) (roots_in p)
  roots-ready each = record {
    handles = λ i l z. let h = each i l in (can_move k.whole t).held h.0 (get_or p.handles.words i 0) h.1 z;
    special = (can_move k.whole t).special;
    mourners = mourner-moves;
  }

-- ---- mourners

-- entries whose starts have moved, and which begin groups as before
pub record IsMovedTable (f : ℕ → ℕ) (es es' : List ℕ) : Type 0 where
  pub long : length es' ≡ length es
  pub starts : (i : ℕ) → i < length es → start_in (get_or es' i 0) ≡ f (start_in (get_or es i 0))
  pub groups : (i : ℕ) → i < length es → begins (get_or es' i 0) ≡ begins (get_or es i 0)

moved-tail : {f : ℕ → ℕ} {e e' : ℕ} {es es' : List ℕ} → IsMovedTable f (e ∷ es) (e' ∷ es') → IsMovedTable f es es'
moved-tail m = record {
  long = (let l = m.long in omega (arith, l));
  starts = λ i l. m.starts (suc i) (omega (arith, l));
  groups = λ i l. m.groups (suc i) (omega (arith, l));
}

abbrev renamed : (ℕ → ℕ) → Parted → Parted
renamed f p = record { front = map f p.front; groups = map (map f) p.groups }

pub parted-moved : (f : ℕ → ℕ) (es es' : List ℕ) → IsMovedTable f es es' → parted es' ≡ renamed f (parted es)
unfolding parted
parted-moved f [] [] m = refl
parted-moved f [] (e ∷ es) m = absurd (let l = m.long in omega (arith, l))
parted-moved f (e ∷ es) [] m = absurd (let l = m.long in omega (arith, l))
parted-moved f (e ∷ es) (e' ∷ es') m =
    let rest = parted-moved f es es' (moved-tail m) in
    let start = m.starts 0 (omega arith) in
    let same = m.groups 0 (omega arith) in
    let begun : Parted → ℕ → Bool → Parted = λ p s b. cond b (record { front = []; groups = (s ∷ p.front) ∷ p.groups }) (record { front = s ∷ p.front; groups = p.groups }) in
    (λ i. begun (rest i) (start i) (same i))
    ∙ elim (cases_Bool (begins e)) [
      | inl on ↦ ap (begun (renamed f (parted es)) (f (start_in e))) on ∙ sym (ap (λ b. renamed f (begun (parted es) (start_in e) b)) on)
      | inr off ↦ ap (begun (renamed f (parted es)) (f (start_in e))) off ∙ sym (ap (λ b. renamed f (begun (parted es) (start_in e) b)) off)
    ]

-- ---- afterwards

module _ {p q : HeapParts} {parts : Parts} {ends : YoungEnds} (c : CompactsRanges p q parts ends) where
  words-mapped : q.handles.words ≡ map (readdressed_by c.goes) p.handles.words
  words-mapped = same_number_lists q.handles.words (map (readdressed_by c.goes) p.handles.words) (c.roots.same_handles ∙ sym (length-map p.handles.words (readdressed_by c.goes)))
      (λ i l. let same = c.roots.same_handles in let low : i < length p.handles.words = omega (arith, l, same) in
      c.roots.handles i low ∙ sym (get_or-map (readdressed_by c.goes) p.handles.words i 0 0 low))

  pub left-moved : IsMovedTable c.goes (left p) (left q)
  left-moved = record { long = c.roots.same_mourners; starts = c.roots.starts; groups = c.roots.groups }

  pub left-parted : parted (left q) ≡ renamed c.goes (parted (left p))
  left-parted = parted-moved c.goes (left p) (left q) left-moved

  pub outside-moved : IsReaddressedOutside c.goes word_of (outside_of (view_of p)) (outside_of (view_of q))
  outside-moved = record {
    special = c.roots.special;
    held = λ h.
        ap (λ b. get (held b) h) c.handles ∙ ap (λ ws. get (held (record p.handles { words = ws })) h) words-mapped
        ∙ get-bound_map (readdressed_by c.goes) p.handles.handles p.handles.words h;
    groups = ap (λ (t : Parted). t.groups) left-parted;
  }
