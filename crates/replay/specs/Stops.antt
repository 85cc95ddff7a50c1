-- What stops a run, and what is put in place of answers.
use Rattle.std.specs.Prelude.{◌≡◌, ℕ, List, Option, Result, Ok, Err}
use Rattle.spur_io.specs.declared.files.FileFault.TheVariants as file
use Rattle.spur_io.specs.declared.sink.SinkFault.{SinkFault}
use Rattle.spur_io.specs.declared.sink.SinkFault.TheVariants as sink
use Rattle.spur_io.specs.Store.{Puts}
use Rattle.spur_io.specs.Causes.{SinkCause}
use Rattle.spur_graph.specs.Bytes.{Text}
use Rattle.spur_graph.specs.ImageCauses.{Cause, cause_line, Short, Format, HeaderSize, Base, Large, Segment, End, Object, Roots, Forwarder, Class, Slot, Special}
use Rattle.image_file.specs.declared.error.LoadError.{LoadError}
use Rattle.image_file.specs.declared.error.LoadError.TheVariants as errors
use Rattle.replay.specs.declared.session.Fault.TheVariants as fault
use Rattle.replay.specs.declared.runs.Stop.{Stop}
use Rattle.replay.specs.declared.runs.Stop.TheVariants as stop
use Rattle.replay.specs.declared.runs.Status.{Status}
use Rattle.replay.specs.declared.runs.Status.TheVariants as status

-- the status of a run that was stopped
abbrev pub stop_status : Stop → Status
stop_status (stop.Script file.Failed) = status.ReadFault
stop_status (stop.Script file.Memory) = status.Memory
stop_status (stop.Line fault.Read) = status.ReadFault
stop_status (stop.Line fault.Write) = status.WriteFault
stop_status (stop.Line fault.Memory) = status.Memory
stop_status (stop.Put sink.Failed) = status.WriteFault
stop_status (stop.Put sink.Memory) = status.Memory
stop_status stop.TooLong = status.TooLong

-- the status of a run
abbrev pub status_of : Result (Unit {0}) Stop → Status
status_of (Ok x) = status.Done
status_of (Err s) = stop_status s

-- the status after the put of a line: as given, or by the fault
abbrev pub put_status : Status → Result (Unit {0}) SinkFault → Status
put_status whole (Ok x) = whole
put_status whole (Err sink.Failed) = status.WriteFault
put_status whole (Err sink.Memory) = status.Memory

-- a line was put, or a put of it was refused
pub record IsPut (line : Text) (before after : Option (List ℕ)) (faults faults_now : ℕ) (whole now : Status) : Type 0 where
  pub put : Result (Unit {0}) SinkFault
  pub status : now ≡ put_status whole put
  pub bytes : Puts line before after put
  pub cause : SinkCause faults faults_now put

-- nothing was put
pub record IsSilent (before after : Option (List ℕ)) (faults faults_now : ℕ) : Type 0 where
  pub bytes : after ≡ before
  pub cause : faults_now ≡ faults

-- the line of a cause is put
abbrev pub IsPutCause : Cause → Option (List ℕ) → Option (List ℕ) → ℕ → ℕ → Status → Type 0
IsPutCause cause before after faults faults_now now = IsPut (cause_line cause) before after faults faults_now status.Refused now

-- what is put for an image that is not loaded, and the status then
abbrev pub IsRefusing : LoadError → Option (List ℕ) → Option (List ℕ) → ℕ → ℕ → Status → Type 0
IsRefusing (errors.Short n) = IsPutCause (Short n)
IsRefusing (errors.Format n) = IsPutCause (Format n)
IsRefusing (errors.HeaderSize n) = IsPutCause (HeaderSize n)
IsRefusing (errors.Base n) = IsPutCause (Base n)
IsRefusing (errors.Large n) = IsPutCause (Large n)
IsRefusing (errors.Segment n) = IsPutCause (Segment n)
IsRefusing (errors.End n) = IsPutCause (End n)
IsRefusing (errors.Object n) = IsPutCause (Object n)
IsRefusing (errors.Roots n) = IsPutCause (Roots n)
IsRefusing (errors.Forwarder n) = IsPutCause (Forwarder n)
IsRefusing (errors.Class n) = IsPutCause (Class n)
IsRefusing (errors.Slot n) = IsPutCause (Slot n)
IsRefusing (errors.Special n) = IsPutCause (Special n)
IsRefusing errors.ReadFault = λ before after faults faults_now now. (now ≡ status.ReadFault) × IsSilent before after faults faults_now
IsRefusing errors.Memory = λ before after faults faults_now now. (now ≡ status.Memory) × IsSilent before after faults faults_now
