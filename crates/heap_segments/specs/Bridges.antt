-- What a bridge tells.
use Rattle.std.specs.Prelude.{ℕ, ◌+◌, ◌*◌, Result, Ok, Err, if◌then◌else◌, nat_eq}
use Rattle.spur_graph.specs.Segments.{gap_of}
use Rattle.heap_segments.specs.declared.bridge.Next.{Next}
use Rattle.heap_segments.specs.declared.bridge.Next.TheVariants.{Last, Segment}
use Rattle.heap_segments.specs.declared.bridge.SegmentFault.{SegmentFault}
use Rattle.heap_segments.specs.declared.bridge.SegmentFault.TheVariants.{End}

-- the segment that follows by the two words of the bridge at this address, where so many bytes of the heap are left
abbrev pub told : ℕ → ℕ → ℕ → ℕ → Result Next SegmentFault
told first second left end =
    if nat_eq second 0 then (if nat_eq left 0 then Ok Last else Err (End left)) else Ok (Segment (end + 8 * gap_of first) second)
