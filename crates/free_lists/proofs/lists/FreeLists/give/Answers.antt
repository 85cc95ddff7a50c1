use Rattle.std.proofs.Common.{◌∷◌, ◌∙◌}
use Rattle.free_lists.proofs.Given.{written_lists, written_other, outside_next}
use Rattle.free_lists.proofs.lists.FreeLists.give.Goals as goal

pub add_small-requires-clause-held : goal.add_small-requires-clause-held
add_small-requires-clause-held c =
    let h = c.requires.held in
    let w = c.write_free.ensures in
    (h.0, written_lists c.args.region.now c.write_free.new.region c.args.self.now h.0 c.args.at c.args.words w.same_length w.below w.above h.1 h.2, h.2)

pub add_large-requires-clause-held : goal.add_large-requires-clause-held
add_large-requires-clause-held c =
    let h = c.requires.held in
    let w = c.write_free.ensures in
    (h.0, written_lists c.args.region.now c.write_free.new.region c.args.self.now h.0 c.args.at c.args.words w.same_length w.below w.above h.1 h.2, h.2)

pub returns-then-words-lt-LARGE-clause-given : goal.returns-then-words-lt-LARGE-clause-given
returns-then-words-lt-LARGE-clause-given c = λ runs l meets.
    let w = c.write_free.ensures in
    c.add_small.ensures.added runs (written_lists c.args.region.now c.write_free.new.region c.args.self.now runs c.args.at c.args.words w.same_length w.below w.above l meets) meets

pub returns-then-words-lt-LARGE-clause-others : goal.returns-then-words-lt-LARGE-clause-others
returns-then-words-lt-LARGE-clause-others c = λ runs l meets k out.
    let w = c.write_free.ensures in
    c.add_small.ensures.others k (outside_next runs c.args.at c.args.words c.requires.big k out)
    ∙ written_other c.args.region.now c.write_free.new.region runs c.args.at c.args.words w.below w.above k out

pub returns-else-words-lt-LARGE-clause-given : goal.returns-else-words-lt-LARGE-clause-given
returns-else-words-lt-LARGE-clause-given c = λ runs l meets.
    let w = c.write_free.ensures in
    c.add_large.ensures.added runs (written_lists c.args.region.now c.write_free.new.region c.args.self.now runs c.args.at c.args.words w.same_length w.below w.above l meets) meets

pub returns-else-words-lt-LARGE-clause-others : goal.returns-else-words-lt-LARGE-clause-others
returns-else-words-lt-LARGE-clause-others c = λ runs l meets k out.
    let w = c.write_free.ensures in
    c.add_large.ensures.others runs (written_lists c.args.region.now c.write_free.new.region c.args.self.now runs c.args.at c.args.words w.same_length w.below w.above l meets) meets k out
    ∙ written_other c.args.region.now c.write_free.new.region runs c.args.at c.args.words w.below w.above k out

pub returns-then-words-lt-LARGE-clause-held : goal.returns-then-words-lt-LARGE-clause-held
returns-then-words-lt-LARGE-clause-held c =
    let h = c.requires.held in
    let w = c.write_free.ensures in (
      (c.args.at, c.args.words) ∷ h.0,
      c.add_small.ensures.added h.0 (written_lists c.args.region.now c.write_free.new.region c.args.self.now h.0 c.args.at c.args.words w.same_length w.below w.above h.1 h.2) h.2,
    )

pub returns-else-words-lt-LARGE-clause-held : goal.returns-else-words-lt-LARGE-clause-held
returns-else-words-lt-LARGE-clause-held c =
    let h = c.requires.held in
    let w = c.write_free.ensures in (
      (c.args.at, c.args.words) ∷ h.0,
      c.add_large.ensures.added h.0 (written_lists c.args.region.now c.write_free.new.region c.args.self.now h.0 c.args.at c.args.words w.same_length w.below w.above h.1 h.2) h.2,
    )
