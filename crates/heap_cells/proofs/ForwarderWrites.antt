-- The header of an object becomes that of a forwarder, and the word behind it names where it leads.
use Rattle.std.proofs.Common.{◌≡◌, ◌⊎◌, ℕ, true, cond, ◌+◌, ◌<◌, ◌≤◌, List, length, get_or, set, refl, ap, ◌∙◌, subst, inl, inr, arith, Option, eqb}
use Rattle.std.proofs.lemmas.List.{length-set, get_or-set_other, get_or-set_same}
use Rattle.std.specs.Option.{unwrap_or}
use Rattle.object_header.specs.Fields.{fields_of}
use Rattle.object_header.specs.Head.{count_of, class_of}
use Rattle.object_header.specs.Chunks.{Chunk, InOrder, slots_of}
use Rattle.spur_graph.specs.Cells.{Empty, Moved, There, read_cell, cell_in, body_from, start_named, is_start}
use Rattle.heap_cells.specs.RowWrites.{KeepsChunk, Rewrites}
use Rattle.heap_cells.proofs.Members.{In, listed}
use Rattle.heap_cells.proofs.Cutting.{stands, start-in}
use Rattle.heap_cells.proofs.Writing.{keeps-same, one-rewritten}
use Rattle.heap_cells.proofs.ObjectWrites.{header-keeps, read-by}

-- the words then
abbrev pub forwarder_words : List ℕ → ℕ → ℕ → ℕ → List ℕ
forwarder_words words s w n = set (set words s w) (s + 1) n

module _ (to : ℕ → Option ℕ) (words : List ℕ) (end : ℕ) (cs : List Chunk) (c : Chunk) (t : InOrder words 0 end cs) (m : In cs c) where
  forwarder-at : (w n : ℕ) → end ≤ length words → count_of w ≡ count_of (get_or words c.start 0) → class_of w ≡ 8
      → Rewrites to words (forwarder_words words c.start w n) end cs c.start (Moved (start_named to words n))
  forwarder-at w n within count class =
      let s = stands words 0 end cs c t m in
      let low : c.start + 1 < length words = let r = s.lies.room in let e = s.lies.before in omega (arith, r, e, within) in
      let mid : List ℕ = set words c.start w in
      let new : List ℕ = forwarder_words words c.start w n in
      let mid_long : length mid ≡ length words = length-set words c.start w in
      let long : length new ≡ length words = length-set mid (c.start + 1) n ∙ mid_long in
      let header : get_or new c.start 0 ≡ w = get_or-set_other mid (c.start + 1) c.start n 0 (λ e. omega (arith, e)) ∙ get_or-set_same words c.start w 0 (omega (arith, low)) in
      let next : get_or new (c.start + 1) 0 ≡ n = get_or-set_same mid (c.start + 1) n 0 (omega (arith, low, mid_long)) in
      let first = header-keeps to words end cs c t m w (omega (arith, low)) count in
      let second : KeepsChunk mid new c = keeps-same mid new c (let l = s.lies.lead in get_or-set_other mid (c.start + 1) c.at n 0 (λ e. omega (arith, e, l))) (get_or-set_other mid (c.start + 1) c.start n 0 (λ e. omega (arith, e))) in
      let keeps : KeepsChunk words new c = record { leads_first = second.leads_first ∙ first.leads_first; slots = second.slots ∙ first.slots; leads_start = second.leads_start ∙ first.leads_start } in
      let target : start_named to new (get_or new (c.start + 1) 0) ≡ start_named to words n = ap (start_named to new) next ∙ (λ i. unwrap_or (to n) (long i)) in
      let read : read_cell to new c ≡ Moved (start_named to words n) =
      read-by to new c w (slots_of new c) header refl
      ∙ ap (λ k. cond (eqb k 0) Empty (cond (eqb k 8) (Moved (start_named to new (get_or new (c.start + 1) 0))) (There (body_from (fields_of w) (slots_of new c))))) class
      ∙ ap (λ u. Moved u) target in
      let outside : (j : ℕ) → (j < c.at) ⊎ (c.at + c.size ≤ j) → get_or new j 0 ≡ get_or words j 0 = λ j o.
      let l = s.lies.lead in let r = s.lies.room in
      elim o [
        | inl a ↦ get_or-set_other mid (c.start + 1) j n 0 (λ e. omega (arith, e, a, l)) ∙ get_or-set_other words c.start j w 0 (λ e. omega (arith, e, a, l))
        | inr a ↦ get_or-set_other mid (c.start + 1) j n 0 (λ e. omega (arith, e, a, r)) ∙ get_or-set_other words c.start j w 0 (λ e. omega (arith, e, a, r))
      ] in
      subst (Rewrites to words new end cs c.start) read (one-rewritten to words new end cs c t (listed cs c m) long outside keeps)

pub forwarder-written : (to : ℕ → Option ℕ) (words : List ℕ) (end : ℕ) (cs : List Chunk) (s w n : ℕ) → InOrder words 0 end cs → end ≤ length words → is_start (cell_in to words cs s) ≡ true
    → count_of w ≡ count_of (get_or words s 0) → class_of w ≡ 8 → Rewrites to words (forwarder_words words s w n) end cs s (Moved (start_named to words n))
forwarder-written to words end cs s w n t l is count class =
    let r = start-in to words cs s is in
    subst (λ k. count_of w ≡ count_of (get_or words k 0) → Rewrites to words (forwarder_words words k w n) end cs k (Moved (start_named to words n)))
    r.2 (λ q. forwarder-at to words end cs r.0 t r.1 w n l q class) count
