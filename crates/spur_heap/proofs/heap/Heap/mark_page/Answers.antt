use Rattle.std.proofs.Common.{◌≡◌, ◌≢◌, ◌/◌, ℕ, eqb, sym, ap, ◌∙◌, subst, arith}
use Rattle.spur_graph.specs.Cells.{first}
use Rattle.spur_graph.specs.Ordinary.{root_slot}
use Rattle.spur_graph.specs.Heaps.{View, IsWhole, store_of}
use Rattle.heap_cells.specs.Settled.{word_of}
use Rattle.spur_heap.specs.MarkBits.{IsObject, is_page_of}
use Rattle.spur_heap.proofs.InternalMarks.{Place}
use Rattle.spur_heap.proofs.InternalMarked.{marks_one, marks_as, its, page_there, one_page_of}
use Rattle.spur_heap.proofs.heap.Heap.mark_page.Goals as goal

-- the start that a word names
start_named : (v : View) (place word : ℕ) (k : Place v place) → word ≡ root_slot (store_of v) place → word / 8 ≡ k.start
start_named v place word k is = let w = k.word in omega (arith, is, w)

pub set_mark-requires-clause-there : goal.set_mark-requires-clause-there
set_mark-requires-clause-there c =
    let v = c.args.self.now in
    let whole : IsWhole v = subst (λ (u : View). IsWhole u) c.self.view_is c.self.invariant.whole in
    let slot : c.root_word-word.result ≡ root_slot (store_of v) c.args.place = c.root_word-word.ensures ∙ ap (λ (u : View). root_slot (store_of u) c.args.place) c.self.view_is in
    let start = start_named v c.args.place c.root_word-word.result (its v whole c.args.place c.requires.within) slot in
    subst (λ s. IsObject v s) (sym start) (page_there v whole c.args.place c.requires.within)

pub returns-then-word-first_word : goal.returns-then-word-first_word
returns-then-word-first_word c =
    let v = c.args.self.now in
    let w = c.set_mark.new.self in
    let whole : IsWhole v = subst (λ (u : View). IsWhole u) c.self.view_is c.self.invariant.whole in
    let slot : c.root_word-word.result ≡ root_slot (store_of v) c.args.place = c.root_word-word.ensures ∙ ap (λ (u : View). root_slot (store_of u) c.args.place) c.self.view_is in
    let start = start_named v c.args.place c.root_word-word.result (its v whole c.args.place c.requires.within) slot in
    let nil : c.first_word.result ≡ word_of (first (store_of v) 0) = c.first_word.ensures.word ∙ ap (λ (u : View). word_of (first (store_of u) 0)) c.self.view_is in
    let other : root_slot (store_of v) c.args.place ≢ word_of (first (store_of v) 0) = λ e. c.if-word-first_word.true (slot ∙ e ∙ sym nil) in
    let one = marks_one v w (c.root_word-word.result / 8) c.set_mark.ensures.written c.set_mark.ensures.store c.set_mark.ensures.graph c.set_mark.ensures.room c.set_mark.ensures.here c.set_mark.ensures.others in
    marks_as (λ s. eqb s (c.root_word-word.result / 8)) (is_page_of (store_of v) c.args.place) v w one
    (λ s. one_page_of v whole c.args.place c.requires.within other s ∙ ap (eqb s) (sym start))
