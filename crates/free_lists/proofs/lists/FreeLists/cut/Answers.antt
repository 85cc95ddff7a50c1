use Rattle.std.proofs.Common.{arith, ◌∙◌}
use Rattle.free_lists.proofs.Taken.{rest_meets, rest_outside, rest_cut, whole_cut}
use Rattle.free_lists.proofs.lists.FreeLists.cut.Goals as goal

pub overflow_add-at : goal.overflow_add-at
overflow_add-at c =
    let h = c.requires.held in
    let chunk = h.1.chunks (c.args.at, c.args.words) h.2 in
    record { fits = omega (arith, chunk.inside, c.requires.small) }

pub give-requires-clause-held : goal.give-requires-clause-held
give-requires-clause-held c =
    let h = c.requires.held in
    let out = c.remove_chunk.ensures.out h.0 h.1 h.2 in
    (out.others, out.lists, rest_meets c.args.region.now _ c.args.self.now _ h.0 c.args.at c.args.words c.args.n h.1 out c.if-words-n.true)

pub returns-then-words-n-clause-cuts : goal.returns-then-words-n-clause-cuts
returns-then-words-n-clause-cuts c = λ runs l there.
    let out = c.remove_chunk.ensures.out runs l there in
    let meets = rest_meets c.args.region.now _ c.args.self.now _ runs c.args.at c.args.words c.args.n l out c.if-words-n.true in
    rest_cut c.args.region.now _ c.args.self.now _ runs c.args.at c.args.words c.args.n l out c.if-words-n.true c.give.new.region c.give.new.self (c.give.ensures.given out.others out.lists meets)

pub returns-then-words-n-clause-others : goal.returns-then-words-n-clause-others
returns-then-words-n-clause-others c = λ runs l there k outside.
    let out = c.remove_chunk.ensures.out runs l there in
    let meets = rest_meets c.args.region.now _ c.args.self.now _ runs c.args.at c.args.words c.args.n l out c.if-words-n.true in
    c.give.ensures.others out.others out.lists meets k (rest_outside c.args.region.now _ c.args.self.now _ runs c.args.at c.args.words c.args.n l out c.if-words-n.true k outside)
    ∙ c.remove_chunk.ensures.others runs l k outside

pub returns-else-words-n-clause-cuts : goal.returns-else-words-n-clause-cuts
returns-else-words-n-clause-cuts c = λ runs l there. whole_cut _ _ runs c.args.at c.args.words c.args.n (c.remove_chunk.ensures.out runs l there) c.if-words-n.false
