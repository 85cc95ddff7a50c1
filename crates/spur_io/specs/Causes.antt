-- When a fault may be told.
use Rattle.std.specs.Prelude.{◌≡◌, ◌≤◌, ℕ, ◌+◌, ◌-◌, ◌^◌, min, Result, Ok, Err}
use Rattle.spur_io.specs.declared.files.FileFault.{FileFault}
use Rattle.spur_io.specs.declared.files.FileFault.TheVariants as file
use Rattle.spur_io.specs.declared.sink.SinkFault.{SinkFault}
use Rattle.spur_io.specs.declared.sink.SinkFault.TheVariants as sink

-- the count rose, or stands at the last value of a u64
abbrev pub Rose : ℕ → ℕ → Type 0
Rose before now = min (before + 1) (2 ^ 64 - 1) ≤ now

-- `Failed` only where the count rose; any other answer leaves it
abbrev pub FileCause : {T : Type 0} → ℕ → ℕ → Result T FileFault → Type 0
FileCause before now (Ok x) = now ≡ before
FileCause before now (Err file.Failed) = (before ≤ now) × Rose before now
FileCause before now (Err file.Memory) = now ≡ before

-- the same of a sink
abbrev pub SinkCause : {T : Type 0} → ℕ → ℕ → Result T SinkFault → Type 0
SinkCause before now (Ok x) = now ≡ before
SinkCause before now (Err sink.Failed) = (before ≤ now) × Rose before now
SinkCause before now (Err sink.Memory) = now ≡ before
