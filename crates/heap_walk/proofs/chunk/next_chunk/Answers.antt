use Rattle.std.proofs.Common.{rules, ◌≡◌, slice_range, Ok}
use Rattle.object_header.specs.Head.{head_of}
use Rattle.heap_walk.proofs.Chunks.{read_in_place}
use Rattle.heap_walk.proofs.chunk.next_chunk.Goals as goal

pub returns-clause-places : goal.returns-clause-places
returns-clause-places c =
    let ok : head_of (slice_range c.args.region.now c.args.at c.args.end) ≡ Ok c.in-Ok.head = search rules in
    read_in_place _ _ _ _ _ c.requires.within c.requires.before ok
