use Rattle.std.proofs.Common.{arith, ap, List, ℕ}
use Rattle.spur_graph.specs.ImageFile.{header_bytes}
use Rattle.spur_graph.specs.Segments.{Segment, word_count}
use Rattle.heap_segments.specs.declared.entry.Entry.{Entry}
use Rattle.heap_segments.proofs.Laid.{near, segment_of_entry, ends_within}
use Rattle.heap_segments.proofs.entry.place_of.Goals as goal

pub returns-clause-near : goal.returns-clause-near
returns-clause-near c =
    let es : List Entry = c.args.entries.now in
    let is = near es c.args.i c.requires.laid c.requires.some in
    let Words : Segment → ℕ = λ s. word_count s in
    omega (arith, is.place, is.some, is.low, ap Words (segment_of_entry es c.args.i c.requires.some))

pub returns-clause-within : goal.returns-clause-within
returns-clause-within c =
    let es : List Entry = c.args.entries.now in
    let Size : Segment → ℕ = λ s. s.size in
    omega (arith, ap Size (segment_of_entry es c.args.i c.requires.some), ends_within header_bytes 0 0 es c.args.i c.requires.laid.laid c.requires.some)
