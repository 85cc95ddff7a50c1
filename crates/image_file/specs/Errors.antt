-- What the errors tell, and when each may come.
use Rattle.std.specs.Prelude.{◌≡◌, ◌≤◌, ◌<◌, ℕ, ◌%◌, List, length, Result, Ok, Err}
use Rattle.spur_io.specs.Causes.{Rose}
use Rattle.spur_io.specs.declared.files.FileFault.{FileFault}
use Rattle.spur_io.specs.declared.files.FileFault.TheVariants as file
use Rattle.spur_graph.specs.ImageFile.{base}
use Rattle.spur_graph.specs.Heaps.{IsCarried}
use Rattle.image_header.specs.declared.header.ImageHeader.{ImageHeader}
use Rattle.image_header.specs.declared.header.HeaderError.{HeaderError}
use Rattle.image_header.specs.declared.header.HeaderError.TheVariants as header
use Rattle.spur_graph.specs.declared.limits.Limits.{Limits}
use Rattle.spur_graph.specs.ImageCauses.{greatest_base, FirstCause, Short, Format, HeaderSize, Base, Large, Segment, End, Object, Roots, Forwarder, Class, Slot, Special}
use Rattle.image_file.specs.declared.error.LoadError.{LoadError}
use Rattle.image_file.specs.declared.error.LoadError.TheVariants as errors

-- a failed read is a read fault, and want of memory stays that
abbrev pub file_error : FileFault → LoadError
file_error file.Failed = errors.ReadFault
file_error file.Memory = errors.Memory

-- the fault of a header is told as it is
abbrev pub header_error : HeaderError → LoadError
header_error (header.Format n) = errors.Format n
header_error (header.HeaderSize n) = errors.HeaderSize n
header_error (header.Base n) = errors.Base n

-- the error is the store's, or want of memory
abbrev pub IsFault : LoadError → Type 0
IsFault errors.ReadFault = Unit {0}
IsFault errors.Memory = Unit {0}
IsFault other = ⊥

-- a refusal names the first cause
abbrev pub IsCauseOf : List ℕ → Limits → LoadError → Type 0
IsCauseOf bytes limits (errors.Short n) = FirstCause bytes limits (Short n)
IsCauseOf bytes limits (errors.Format n) = FirstCause bytes limits (Format n)
IsCauseOf bytes limits (errors.HeaderSize n) = FirstCause bytes limits (HeaderSize n)
IsCauseOf bytes limits (errors.Base n) = FirstCause bytes limits (Base n)
IsCauseOf bytes limits (errors.Large n) = FirstCause bytes limits (Large n)
IsCauseOf bytes limits (errors.Segment n) = FirstCause bytes limits (Segment n)
IsCauseOf bytes limits (errors.End n) = FirstCause bytes limits (End n)
IsCauseOf bytes limits (errors.Object n) = FirstCause bytes limits (Object n)
IsCauseOf bytes limits (errors.Roots n) = FirstCause bytes limits (Roots n)
IsCauseOf bytes limits (errors.Forwarder n) = FirstCause bytes limits (Forwarder n)
IsCauseOf bytes limits (errors.Class n) = FirstCause bytes limits (Class n)
IsCauseOf bytes limits (errors.Slot n) = FirstCause bytes limits (Slot n)
IsCauseOf bytes limits (errors.Special n) = FirstCause bytes limits (Special n)
IsCauseOf bytes limits errors.ReadFault = Unit {0}
IsCauseOf bytes limits errors.Memory = Unit {0}

-- a read fault comes only where the count of them rose, every other error only where it did not
abbrev pub ErrorCause : ℕ → ℕ → LoadError → Type 0
ErrorCause before now errors.ReadFault = (before ≤ now) × Rose before now
ErrorCause before now other = now ≡ before

-- the same of an answer, which comes only where no read failed
abbrev pub ReadCause : {T : Type 0} → ℕ → ℕ → Result T LoadError → Type 0
ReadCause before now (Ok x) = now ≡ before
ReadCause before now (Err error) = ErrorCause before now error

-- the file is shorter than this, and its length is told
abbrev pub IsShort : List ℕ → ℕ → LoadError → Type 0
IsShort bytes end (errors.Short n) = (n ≡ length bytes) × (length bytes < end)
IsShort bytes end errors.ReadFault = Unit {0}
IsShort bytes end errors.Memory = Unit {0}
IsShort bytes end other = ⊥

-- a header of the right format and size, whose heap begins where one can
pub record IsSoundHeader (h : ImageHeader) : Type 0 where
  pub carried : IsCarried h.carried
  pub base_is : h.base ≡ base h.carried
  pub aligned : h.base % 8 ≡ 0
  pub low : h.base ≤ greatest_base
