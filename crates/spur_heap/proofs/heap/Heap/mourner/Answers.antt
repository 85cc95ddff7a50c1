use Rattle.std.proofs.Common.{◌≡◌, ◌+◌, ◌*◌, ◌<◌, List, ℕ, length, get_or, sym, ap, ◌∙◌, subst, arith}
use Rattle.spur_graph.specs.Heaps.{View, waiting_in}
use Rattle.spur_heap.specs.Tables.{start_in}
use Rattle.spur_heap.specs.Parts.{view_of}
use Rattle.spur_heap.specs.Views.{IsGood}
use Rattle.spur_heap.proofs.Mourned.{fired_good, left_inside, left_start}
use Rattle.spur_heap.proofs.heap.Heap.mourner.Goals as goal

seen_low : {u v : View} → (i : ℕ) → u ≡ v → i < length (waiting_in v.mourners) → i < length (waiting_in u.mourners)
seen_low i same low = subst (λ (w : View). i < length (waiting_in w.mourners)) (sym same) low

pub overflow_add-parts : goal.overflow_add-parts
overflow_add-parts c =
    let low = left_inside c.self.inside.parts c.self.invariant c.args.i (seen_low c.args.i c.self.view_is c.requires) in
    let same = ap (λ (es : List ℕ). length es) c.as_slice-entries.ensures.value in omega (arith, low, same)

pub offset_bounds-entries-parts : goal.offset_bounds-entries-parts
offset_bounds-entries-parts c =
    let low = left_inside c.self.inside.parts c.self.invariant c.args.i (seen_low c.args.i c.self.view_is c.requires) in
    let same = ap (λ (es : List ℕ). length es) c.as_slice-entries.ensures.value in omega (arith, low, same)

pub bounds-entries-parts : goal.bounds-entries-parts
bounds-entries-parts c =
    let low = left_inside c.self.inside.parts c.self.invariant c.args.i (seen_low c.args.i c.self.view_is c.requires) in
    let same = ap (λ (es : List ℕ). length es) c.as_slice-entries.ensures.value in omega (arith, low, same)

entry_is : (c : goal.After-start_of) → c.start_of.result ≡ start_in (get_or c.self.inside.parts.mourners.items (c.self.inside.parts.mourned + c.args.i) 0)
entry_is c = c.start_of.ensures ∙ ap (λ (es : List ℕ). start_in (get_or es (c.self.inside.parts.mourned + c.args.i) 0)) c.as_slice-entries.ensures.value

pub returns-clause-word : goal.returns-clause-word
returns-clause-word c =
    let p = c.self.inside.parts in
    ap (λ s. 8 * s) (entry_is c ∙ sym (left_start p c.self.invariant c.args.i (seen_low c.args.i c.self.view_is c.requires)) ∙ ap (λ (v : View). get_or (waiting_in v.mourners) c.args.i 0) c.self.view_is)

pub returns-clause-good : goal.returns-clause-good
returns-clause-good c =
    let p = c.self.inside.parts in
    let start = left_start p c.self.invariant c.args.i (seen_low c.args.i c.self.view_is c.requires) ∙ sym (entry_is c) in
    subst (λ (v : View). IsGood v (8 * c.start_of.result)) c.self.view_is
    (subst (λ s. IsGood (view_of p) (8 * s)) start (fired_good (view_of p) _ (c.self.invariant.whole.mourners.fired c.args.i 0 (seen_low c.args.i c.self.view_is c.requires))))
