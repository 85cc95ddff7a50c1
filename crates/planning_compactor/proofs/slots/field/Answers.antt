use Rattle.std.proofs.Common.{◌≡◌, ◌+◌, ◌<◌, length, sym, ap, ◌∙◌, subst, MatchOption}
use Rattle.planning_compactor.specs.Entries.{start_of, virtual, IsElsewhere}
use Rattle.planning_compactor.proofs.Virtual.{virtual-at, virtual-else}
use Rattle.planning_compactor.proofs.slots.field.Goals as goal

pub returns-in-Some : goal.returns-in-Some
returns-in-Some c =
    let k : (c.in-Some.k < length c.args.table.now) × (start_of c.args.table.now c.in-Some.k + 1 ≡ c.args.at) =
    subst (λ o. MatchOption o (IsElsewhere c.args.table.now c.args.at) (λ k. (k < length c.args.table.now) × (start_of c.args.table.now k + 1 ≡ c.args.at))) c.in-Some.is c.requires.kept in
    sym (virtual-at c.args.table.now c.args.words.now c.in-Some.k c.requires.table.rising k.0) ∙ ap (virtual c.args.table.now c.args.words.now) k.1

pub returns-in-None : goal.returns-in-None
returns-in-None c =
    let k : IsElsewhere c.args.table.now c.args.at =
    subst (λ o. MatchOption o (IsElsewhere c.args.table.now c.args.at) (λ k. (k < length c.args.table.now) × (start_of c.args.table.now k + 1 ≡ c.args.at))) c.in-None.is c.requires.kept in
    sym (virtual-else c.args.table.now c.args.words.now c.args.at k)
