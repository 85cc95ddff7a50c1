use Rattle.std.proofs.Common.{◌≡◌, ◌<◌, ℕ, List, length, get_or, sym, ap, ◌∙◌, arith, inl, inr}
use Rattle.std.proofs.lemmas.Bool.{cases_eq}
use Rattle.spur_graph.specs.Cells.{final}
use Rattle.spur_graph.specs.Heaps.{store_of}
use Rattle.spur_heap.specs.Tables.{start_in}
use Rattle.spur_heap.specs.Parts.{view_of}
use Rattle.spur_heap.specs.Words.{starts_at}
use Rattle.spur_heap.proofs.Puts.{whole_sound}
use Rattle.spur_heap.proofs.Mourned.{fired_starts, left_fired, one_waits, none_waits}
use Rattle.spur_heap.proofs.mourners.mourns.Goals as goal

-- the entry that is read
entry_is : (c : goal.After-start_of) → c.start_of.result ≡ start_in (get_or c.args.parts.now.mourners.items c.entries.i 0)
entry_is c = c.start_of.ensures ∙ ap (λ (es : List ℕ). start_in (get_or es c.entries.i 0)) c.as_slice-entries.ensures.value

inside : (c : goal.After-start_of) → c.entries.i < length c.args.parts.now.mourners.items
inside c = let same = ap (λ (es : List ℕ). length es) c.as_slice-entries.ensures.value in let low = c.entries-test.true in omega (arith, low, same)

pub follow_start-requires-clause-there : goal.follow_start-requires-clause-there
follow_start-requires-clause-there c =
    let p = c.args.parts.now in
    let heap = c.requires.heap in
    ap (starts_at (view_of p)) (entry_is c) ∙ fired_starts (view_of p) (whole_sound (view_of p) heap.whole) _ (left_fired p heap c.entries.i c.entries.auto.i (inside c))

pub returns-then-follow_start-start : goal.returns-then-follow_start-start
returns-then-follow_start-start c =
    let p = c.args.parts.now in
    let start : c.start_of.result ≡ start_in (get_or p.mourners.items c.entries.i 0) = c.start_of.ensures ∙ ap (λ (es : List ℕ). start_in (get_or es c.entries.i 0)) c.as_slice-entries.ensures.value in
    let low : c.entries.i < length p.mourners.items = let same = ap (λ (es : List ℕ). length es) c.as_slice-entries.ensures.value in let inside = c.entries-test.true in omega (arith, inside, same) in
    sym (one_waits p c.requires.heap c.args.start c.entries.i c.entries.auto.i low (ap (final (store_of (view_of p))) (sym start) ∙ sym c.follow_start.ensures ∙ c.if-follow_start-start.true))

pub entries-preserved : goal.entries-preserved
entries-preserved c k from to = elim (cases_eq k c.entries.i) [
  | inr other ↦ c.entries.invariant k from (omega (arith, to, other))
  | inl same ↦
      let h = store_of (view_of c.args.parts.now) in
      λ is. c.if-follow_start-start.false (c.follow_start.ensures ∙ ap (final h) c.start_of.ensures ∙ ap (λ j. final h (start_in (get_or c.as_slice-entries.result.now j 0))) (sym same) ∙ is)
]

pub returns : goal.returns
returns c =
    let p = c.args.parts.now in
    let same = ap (λ (es : List ℕ). length es) c.as_slice-entries.ensures.value in
    sym (none_waits p c.requires.heap c.args.start (λ i from to is. c.entries.invariant i from (let stop = c.entries-test.false in omega (arith, to, stop, same))
    (ap (λ (es : List ℕ). final (store_of (view_of p)) (start_in (get_or es i 0))) c.as_slice-entries.ensures.value ∙ is)))
