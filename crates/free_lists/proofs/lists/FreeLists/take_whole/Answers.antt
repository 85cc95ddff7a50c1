use Rattle.free_lists.proofs.Sets.{out_any}
use Rattle.free_lists.proofs.lists.FreeLists.take_whole.Goals as goal

pub remove_chunk-requires-clause-held : goal.remove_chunk-requires-clause-held
remove_chunk-requires-clause-held c =
    let h = c.requires.held in
    (h.0, h.1, (c.in-Some.ensures.found h.0 h.1).there)

pub returns-in-None-clause-taken : goal.returns-in-None-clause-taken
returns-in-None-clause-taken c = c.in-None.ensures.found

pub returns-in-Some-clause-taken : goal.returns-in-Some-clause-taken
returns-in-Some-clause-taken c = λ runs l.
    let f = c.in-Some.ensures.found runs l in
    record { smallest = f; lists = out_any c.args.region.now c.remove_chunk.new.region c.args.self.now c.remove_chunk.new.self runs c.in-Some.at c.in-Some.words l (c.remove_chunk.ensures.out runs l f.there) }

pub returns-in-Some-clause-held : goal.returns-in-Some-clause-held
returns-in-Some-clause-held c =
    let h = c.requires.held in
    let out = c.remove_chunk.ensures.out h.0 h.1 (c.in-Some.ensures.found h.0 h.1).there in
    (out.others, out.lists)
