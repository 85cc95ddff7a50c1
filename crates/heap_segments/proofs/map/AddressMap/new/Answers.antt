use Rattle.std.proofs.Common.{List, ap, ◌∙◌}
use Rattle.spur_graph.specs.ImageFile.{header_bytes}
use Rattle.heap_segments.specs.declared.entry.Entry.{Entry}
use Rattle.heap_segments.specs.Rising.{end_address, end_place}
use Rattle.heap_segments.specs.Entries.{segments_of}
use Rattle.heap_segments.proofs.Laid.{no_end, no_place}
use Rattle.heap_segments.proofs.map.AddressMap.new.Goals as goal

pub returns-in-Ok-clause-end : goal.returns-in-Ok-clause-end
returns-in-Ok-clause-end c = ap (λ (xs : List Entry). end_address 0 (segments_of xs)) c.in-Ok.ensures.items ∙ no_end 0

pub returns-in-Ok-clause-place : goal.returns-in-Ok-clause-place
returns-in-Ok-clause-place c = ap (λ (xs : List Entry). end_place header_bytes (segments_of xs)) c.in-Ok.ensures.items ∙ no_place header_bytes
