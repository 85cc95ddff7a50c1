use Rattle.std.proofs.Common.{◌↔◌, map, length}
use Rattle.std.specs.String.{string_bytes}
use Rattle.replay.specs.Options.{Tell, nothing}
use Rattle.replay.specs.declared.options.Told.{Told}
use Rattle.replay.proofs.options.told_by.Given as goal

-- all options tell what those behind tell with what was told so far
abbrev pub invariant-options : goal.invariant-options
invariant-options l = (all : Told) → Tell nothing (map string_bytes l.fn.options) all ↔ Tell l.told (map string_bytes l.rest) all

abbrev pub decreases-options : goal.decreases-options
decreases-options l = length l.rest
