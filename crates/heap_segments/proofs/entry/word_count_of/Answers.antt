use Rattle.std.proofs.Common.{arith, ap, List, ℕ}
use Rattle.spur_graph.specs.ImageFile.{header_bytes}
use Rattle.spur_graph.specs.Segments.{Segment}
use Rattle.heap_segments.specs.declared.entry.Entry.{Entry}
use Rattle.heap_segments.proofs.Laid.{begins, near, segment_of_entry}
use Rattle.heap_segments.proofs.entry.word_count_of.Goals as goal

pub words-requires : goal.words-requires
words-requires c = near c.args.entries.now c.args.i c.requires.laid c.requires.some

pub returns-clause-bytes : goal.returns-clause-bytes
returns-clause-bytes c =
    let es : List Entry = c.args.entries.now in
    let is = near es c.args.i c.requires.laid c.requires.some in
    let Size : Segment → ℕ = λ s. s.size in
    omega (arith, c.words.ensures, is.whole, is.some, ap Size (segment_of_entry es c.args.i c.requires.some))

pub returns-clause-low : goal.returns-clause-low
returns-clause-low c =
    let es : List Entry = c.args.entries.now in
    let is = near es c.args.i c.requires.laid c.requires.some in
    omega (arith, c.words.ensures, is.words, is.some, is.low, begins header_bytes 0 0 es c.args.i c.requires.laid.laid c.requires.some)
