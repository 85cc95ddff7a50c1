use Rattle.std.proofs.Common.{◌≡◌, ◌*◌, [], sym, ap, ◌∙◌, subst}
use Rattle.std.specs.Prelude.{IfNone}
use Rattle.spur_graph.specs.Heaps.{View, heap_graph, store_of}
use Rattle.heap_cells.specs.Settled.{settled_word}
use Rattle.spur_heap.specs.Mourning.{TakesMourner}
use Rattle.spur_heap.specs.Parts.{view_of}
use Rattle.spur_heap.specs.Words.{is_good}
use Rattle.spur_heap.proofs.Dequeued.{popped_parts, entry_good, takes, no_groups}
use Rattle.spur_heap.proofs.heap.Heap.take_mourner.Goals as goal

pub returns-in_err-entry-clause-none : goal.returns-in_err-entry-clause-none
returns-in_err-entry-clause-none c =
    let none = c.in_err-entry.ensures.none in
    subst (λ o. IfNone o ((heap_graph c.args.self.now).mourners ≡ [] × (view_of c.take_entry.new.parts ≡ c.args.self.now))) (sym c.from_residual.ensures)
    (sym (ap (λ (v : View). (heap_graph v).mourners) c.self.view_is) ∙ no_groups c.self.inside.parts none.0, ap view_of none.1 ∙ c.self.view_is)

pub follow_word-requires-clause-good : goal.follow_word-requires-clause-good
follow_word-requires-clause-good c = ap (λ s. is_good (view_of c.take_entry.new.parts) (8 * s)) c.start_of.ensures ∙ entry_good c.self.invariant c.in_ok-entry.ensures.entry

pub invariant_of-self-2 : goal.invariant_of-self-2
invariant_of-self-2 c = popped_parts c.self.invariant c.in_ok-entry.ensures.entry

pub returns-clause-taken : goal.returns-clause-taken
returns-clause-taken c =
    subst (λ (v : View). TakesMourner v (view_of c.take_entry.new.parts) c.follow_word.result) c.self.view_is
    (takes c.self.invariant c.in_ok-entry.ensures.entry c.follow_word.result (c.follow_word.ensures.followed ∙ ap (λ s. settled_word (store_of (view_of c.take_entry.new.parts)) (8 * s)) c.start_of.ensures) c.follow_word.ensures.good)
