-- Where words are cut into chunks and no cause of refusal applies to what stands in them, the walk over them meets no chunk that is refused, and the first
-- five are what they have to be.
use Rattle.std.proofs.Common.{◌≡◌, ℕ, false, not, ◌&&◌, ◌||◌, eqb, ltb, ◌+◌, ◌<◌, length, get_or, List, sym, ap, ◌∙◌, inl, inr, arith, Option, Result, Ok}
use Rattle.std.proofs.lemmas.Bool.{cases_eq, false≢true, ne_eqb, eq-eqb, le-ltb, and_right}
use Rattle.std.proofs.lemmas.List.{length-map}
use Rattle.object_header.specs.Head.{class_of, format_of, is_unformed}
use Rattle.object_header.specs.declared.head.Head.{Head}
use Rattle.object_header.specs.declared.head.HeadError.{HeadError}
use Rattle.object_header.specs.Chunks.{Chunk, Cuts, chunks, slots_at}
use Rattle.spur_graph.specs.Cells.{Body, Store, store_in, first}
use Rattle.spur_graph.specs.Ordinary.{body_at, roots_slots}
use Rattle.spur_graph.specs.Places.{head_at, place, is_bad_root, IsBadRoot}
use Rattle.heap_cells.specs.Rows.{AllRead}
use Rattle.heap_cells.specs.Settled.{IsLoadable}
use Rattle.heap_cells.proofs.CellKinds.{there_starts, there_is_not_moved}
use Rattle.heap_cells.proofs.Cutting.{all-in_order}
use Rattle.heap_cells.proofs.Starts.{start-read}
use Rattle.heap_cells.proofs.HeadReads.{from-head}
use Rattle.heap_cells.proofs.ObjectReads.{object-slots}
use Rattle.heap_cells.proofs.Wholes.{place-is-start}
use Rattle.heap_cells.proofs.FormedHeads.{formed-read}

ok_same : (o : Result Head HeadError) (x y : Head) → o ≡ Ok x → o ≡ Ok y → x ≡ y
ok_same o x y e f = cc

module _ (to : ℕ → Option ℕ) (words : List ℕ) (cut : Cuts words 0 (length words) (chunks words)) (loads : IsLoadable (store_in to words (chunks words))) where
  abbrev g : Store
  g = store_in to words (chunks words)

  -- no chunk is refused
  pub loadable-read : AllRead words 0 (length words)
  loadable-read = formed-read to words 0 (length words) (chunks words) (omega arith) cut loads.formed

  -- what is read at the place of one of the first five chunks is that object
  head_stands : (k : ℕ) → k < 5 → (h : Head) → place words 0 (length words) k < length words → head_at words (length words) (place words 0 (length words) k) ≡ Ok h
      → place words 0 (length words) k + h.lead ≡ first g k → is_bad_root k h ≡ false
  head_stands k l h inside ok at =
      let s : ℕ = first g k in
      let there = loads.objects k l in
      let q = from-head words (length words) (place words 0 (length words) k) h (omega arith) inside ok in
      let o = all-in_order words cut in
      let x = start-read to words (length words) (chunks words) s o (there_starts (g.cell s) there) in
      let header : h.header ≡ get_or words s 0 = q.header ∙ ap (λ n. get_or words n 0) at in
      let slots : length (body_at g s).words ≡ h.slots = object-slots to words (chunks words) o s there ∙ ap (slots_at words) (sym at) ∙ q.told in
      let format : format_of h.header ≡ (body_at g s).format = ap format_of header ∙ sym (ap (λ (d : Body). d.format) (x.body there)) in
      let no_moved : eqb (class_of (get_or words s 0)) 8 ≡ false = sym x.moved ∙ there_is_not_moved (g.cell s) there in
      let formed : is_unformed (class_of h.header) ≡ false = ap (λ w. is_unformed (class_of w)) header ∙ (λ i. ne_eqb (class_of (get_or words s 0)) 0 x.not_free i || no_moved i) in
      let lists : (eqb k 3 && ltb 23 (format_of h.header)) ≡ false = elim (cases_eq k 3) [
        | inl e ↦
            let low = loads.lists in
            let same = ap (λ n. (body_at g (first g n)).format) e in
            and_right (eqb k 3) (ltb 23 (format_of h.header)) (le-ltb 23 (format_of h.header) (omega (arith, low, same, format)))
        | inr other ↦ ap (λ b. b && ltb 23 (format_of h.header)) (ne_eqb k 3 other)
      ] in
      let roots : (eqb k 4 && not (eqb (format_of h.header) 2 && eqb h.slots roots_slots)) ≡ false = elim (cases_eq k 4) [
        | inl e ↦
            let two : format_of h.header ≡ 2 = format ∙ ap (λ n. (body_at g (first g n)).format) e ∙ loads.roots.0 in
            let many : h.slots ≡ roots_slots = sym slots ∙ ap (λ n. length (body_at g (first g n)).words) e ∙ loads.roots.1 in
            and_right (eqb k 4) (not (eqb (format_of h.header) 2 && eqb h.slots roots_slots)) (λ i. not (eq-eqb (format_of h.header) 2 two i && eq-eqb h.slots roots_slots many i))
        | inr other ↦ ap (λ b. b && not (eqb (format_of h.header) 2 && eqb h.slots roots_slots)) (ne_eqb k 4 other)
      ] in
      λ i. formed i || lists i || roots i

  -- none of the first five is bad
  pub loadable-roots : (n : ℕ) → IsBadRoot words 0 (length words) n → ⊥
  loadable-roots n bad =
      let k : ℕ = bad.k in
      let five = loads.five in
      let count = length-map (chunks words) (λ (c : Chunk). c.start) in
      let low = bad.first in
      let p = place-is-start words k loadable-read (omega (arith, five, count, low)) in
      let fine = head_stands k bad.first p.head p.inside p.read (sym p.start) in
      elim bad.bad [
        | inl e ↦ let is = bad.is in let inside = p.inside in absurd (omega (arith, e, is, inside))
        | inr t ↦
            let read : head_at words (length words) (place words 0 (length words) k) ≡ Ok t.1.0 = ap (head_at words (length words)) (sym bad.is) ∙ t.1.1 in
            let one : p.head ≡ t.1.0 = ok_same (head_at words (length words) (place words 0 (length words) k)) p.head t.1.0 p.read read in
            false≢true (sym fine ∙ ap (is_bad_root k) one ∙ t.1.2)
      ]
