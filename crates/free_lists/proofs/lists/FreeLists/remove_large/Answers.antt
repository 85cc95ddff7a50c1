use Rattle.std.proofs.Common.{arith, refl}
use Rattle.free_lists.proofs.Given.{tree_count, all_cover}
use Rattle.free_lists.proofs.Taken.{in_tree, large_taken}
use Rattle.free_lists.proofs.lists.FreeLists.remove_large.Goals as goal

pub remove-self-requires-clause-chunk : goal.remove-self-requires-clause-chunk
remove-self-requires-clause-chunk c = let h = c.requires.held in h.1.chunks (c.args.at, c.args.words) h.2

pub remove-self-requires-clause-held : goal.remove-self-requires-clause-held
remove-self-requires-clause-held c =
    let h = c.requires.held in
    let l = h.1 in
    (l.tree, l.held, l.ordered, in_tree c.args.region.now c.args.self.now h.0 l c.args.at c.args.words c.requires.large h.2, tree_count c.args.region.now c.args.self.now h.0 l)

pub returns-clause-out : goal.returns-clause-out
returns-clause-out c = λ runs l there.
    let in_t = in_tree c.args.region.now c.args.self.now runs l c.args.at c.args.words c.requires.large there in
    large_taken c.args.region.now c.remove-self.new.region c.args.self.now _ runs c.args.at c.args.words c.remove-self.result l c.remove-self.ensures.same_length
    (c.remove-self.ensures.others l.tree l.held l.ordered) (c.remove-self.ensures.removes l.tree l.held l.ordered in_t) refl refl refl refl

pub returns-clause-others : goal.returns-clause-others
returns-clause-others c = λ runs l k out. c.remove-self.ensures.others l.tree l.held l.ordered k (omega (arith, out, all_cover c.args.region.now c.args.self.now runs l k))
