use Rattle.std.proofs.Common.{◌≡◌, ◌+◌, ◌<◌, List, length, sym, ap, ◌∙◌, subst, set, MatchOption}
use Rattle.heap_walk.specs.declared.saved.Saved.{Saved}
use Rattle.planning_compactor.specs.Readdressed.{moved_word}
use Rattle.planning_compactor.specs.Entries.{start_of, virtual, IsElsewhere}
use Rattle.planning_compactor.proofs.Virtual.{virtual-set, virtual-set_else, virtual-entry, virtual-entry_else}
use Rattle.planning_compactor.proofs.slots.rewrite.Goals as goal

pub returns-in-Some-clause-here : goal.returns-in-Some-clause-here
returns-in-Some-clause-here c =
    let k : (c.in-Some.k < length c.args.table.now) × (start_of c.args.table.now c.in-Some.k + 1 ≡ c.args.at) =
    subst (λ o. MatchOption o (IsElsewhere c.args.table.now c.args.at) (λ k. (k < length c.args.table.now) × (start_of c.args.table.now k + 1 ≡ c.args.at))) c.in-Some.is c.requires.kept in
    let es : List Saved = set c.args.table.now c.in-Some.k (record { start = start_of c.args.table.now c.in-Some.k; first = c.moved_word-moved.result }) in
    ap (virtual es c.args.words.now) (sym k.1) ∙ virtual-entry c.args.table.now c.args.words.now c.in-Some.k c.moved_word-moved.result c.requires.table.rising k.0
    ∙ c.moved_word-moved.ensures ∙ ap (moved_word c.args.words.now c.args.low c.args.high) c.field-word.ensures

pub returns-in-Some-clause-others : goal.returns-in-Some-clause-others
returns-in-Some-clause-others c = λ j n.
    let k : (c.in-Some.k < length c.args.table.now) × (start_of c.args.table.now c.in-Some.k + 1 ≡ c.args.at) =
    subst (λ o. MatchOption o (IsElsewhere c.args.table.now c.args.at) (λ k. (k < length c.args.table.now) × (start_of c.args.table.now k + 1 ≡ c.args.at))) c.in-Some.is c.requires.kept in
    virtual-entry_else c.args.table.now c.args.words.now c.in-Some.k c.moved_word-moved.result j (λ e. n (sym e ∙ k.1))

pub returns-in-None-clause-here : goal.returns-in-None-clause-here
returns-in-None-clause-here c =
    let k : IsElsewhere c.args.table.now c.args.at =
    subst (λ o. MatchOption o (IsElsewhere c.args.table.now c.args.at) (λ k. (k < length c.args.table.now) × (start_of c.args.table.now k + 1 ≡ c.args.at))) c.in-None.is c.requires.kept in
    virtual-set c.args.table.now c.args.words.now c.args.at c.moved_word-moved.result k c.requires.inside
    ∙ c.moved_word-moved.ensures ∙ ap (moved_word c.args.words.now c.args.low c.args.high) c.field-word.ensures

pub returns-in-None-clause-others : goal.returns-in-None-clause-others
returns-in-None-clause-others c = λ j n. virtual-set_else c.args.table.now c.args.words.now c.args.at c.moved_word-moved.result j n
