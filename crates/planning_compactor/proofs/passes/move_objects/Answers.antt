use Rattle.std.proofs.Common.{◌≡◌, ◌≢◌, ℕ, true, length, ◌<◌, sym, ap, ◌∙◌, arith, inl, inr}
use Rattle.std.proofs.lemmas.Bool.{true≢false}
use Rattle.heap_walk.specs.Starts.{has_start}
use Rattle.planning_compactor.specs.Entries.{start_of}
use Rattle.planning_compactor.specs.Slid.{target_of}
use Rattle.planning_compactor.specs.Roots.{roots_of}
use Rattle.planning_compactor.proofs.Heads.{some-or}
use Rattle.planning_compactor.proofs.Moving.{can-readdress, table-second, readied, handles-inside, special-inside, mourners-inside, mourners-small, roots-moved}
use Rattle.planning_compactor.proofs.Landing.{can-slide, inside, loose-kept, all-moved}
use Rattle.planning_compactor.proofs.passes.move_objects.Goals as goal

pub readdress_roots-requires : goal.readdress_roots-requires
readdress_roots-requires c =
    let r = roots_of c.args.handles.now c.args.special.now c.args.mourners.now in
    record {
      handles = handles-inside c.requires.objects c.requires.moves c.swap.ensures r c.requires.roots;
      special = special-inside c.requires.objects c.requires.moves c.swap.ensures r c.requires.roots;
      mourners = λ i l e. mourners-inside c.requires.objects c.requires.moves c.swap.ensures r c.requires.roots i l;
      small = mourners-small c.requires.objects c.requires.moves c.swap.ensures r c.requires.roots c.requires.some c.requires.small;
    }

pub readdress-requires-clause-can : goal.readdress-requires-clause-can
readdress-requires-clause-can c = can-readdress c.requires.objects c.requires.moves c.swap.ensures c.requires.some

pub swap-requires-2 : goal.swap-requires-2
swap-requires-2 c = record { table = table-second c.requires.objects c.requires.moves c.swap.ensures c.requires.some c.readdress.ensures }

pub slide_all-requires : goal.slide_all-requires
slide_all-requires c =
    let r = readied c.requires.objects c.requires.moves c.swap.ensures c.requires.some c.readdress.ensures c.swap-2.ensures in
    can-slide c.requires.objects c.requires.laid c.requires.moves r

pub unset_starts-requires : goal.unset_starts-requires
unset_starts-requires c = λ k l.
    let r = readied c.requires.objects c.requires.moves c.swap.ensures c.requires.some c.readdress.ensures c.swap-2.ensures in
    let z = (inside c.requires.objects c.requires.laid c.requires.moves r k l).0 in
    omega (arith, z, c.requires.covers)

pub set_targets-requires : goal.set_targets-requires
set_targets-requires c = λ k l.
    let r = readied c.requires.objects c.requires.moves c.swap.ensures c.requires.some c.readdress.ensures c.swap-2.ensures in
    let z = (inside c.requires.objects c.requires.laid c.requires.moves r k l).1 in
    omega (arith, z, c.requires.covers, c.unset_starts.ensures.covers)

pub returns-clause-moved : goal.returns-clause-moved
returns-clause-moved c =
    let r = readied c.requires.objects c.requires.moves c.swap.ensures c.requires.some c.readdress.ensures c.swap-2.ensures in
    let es3 = c.swap-2.new.table in
    let has' = has_start c.set_targets.new.starts in
    let set' = c.set_targets.ensures in
    let unset' = c.unset_starts.ensures in
    all-moved c.requires.objects c.requires.laid c.requires.moves r c.slide_all.ensures set'.added
    (λ t g a.
    let old : has_start c.unset_starts.new.starts t ≡ true = sym (set'.others t a) ∙ g in
    let none : (k : ℕ) → k < length es3 → start_of es3 k ≢ t = λ k l e. true≢false (sym old ∙ ap (has_start c.unset_starts.new.starts) (sym e) ∙ unset'.removed k l) in
    (sym (unset'.others t none) ∙ old, none))
    (λ t g a. elim (some-or (length es3) (target_of es3) t) [
      | inl k ↦ ap has' (sym k.2) ∙ set'.added k.0 k.1
      | inr b ↦ set'.others t b ∙ unset'.others t a ∙ g
    ])

pub returns-clause-loose : goal.returns-clause-loose
returns-clause-loose c =
    let r = readied c.requires.objects c.requires.moves c.swap.ensures c.requires.some c.readdress.ensures c.swap-2.ensures in
    loose-kept c.requires.objects c.requires.laid c.requires.moves r c.slide_all.ensures

pub returns-clause-roots : goal.returns-clause-roots
returns-clause-roots c =
    roots-moved c.requires.objects c.requires.moves c.swap.ensures (roots_of c.args.handles.now c.args.special.now c.args.mourners.now) c.requires.roots c.requires.some c.readdress_roots.ensures
