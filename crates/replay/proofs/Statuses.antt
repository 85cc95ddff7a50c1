-- What a run of the program leaves, by its status.
use Rattle.std.proofs.Common.{◌≡◌, ℕ, List, false, Option, Some, Ok, Err, Result, sym, subst}
use Rattle.spur_io.specs.declared.sink.SinkFault.{SinkFault}
use Rattle.spur_io.specs.declared.sink.SinkFault.TheVariants as sink
use Rattle.spur_io.specs.declared.files.FileFault.TheVariants as file
use Rattle.spur_graph.specs.declared.limits.Limits.{Limits}
use Rattle.spur_graph.specs.Bytes.{Text}
use Rattle.image_file.specs.declared.error.LoadError.{LoadError}
use Rattle.image_file.specs.declared.error.LoadError.TheVariants as errors
use Rattle.replay.specs.declared.session.Fault.TheVariants as fault
use Rattle.replay.specs.declared.runs.Stop.{Stop}
use Rattle.replay.specs.declared.runs.Stop.TheVariants as stop
use Rattle.replay.specs.declared.runs.Status.{Status}
use Rattle.replay.specs.declared.runs.Status.TheVariants as status
use Rattle.replay.specs.Sessions.{SessionView}
use Rattle.replay.specs.Runs.{IsReplay, IsLeft, Judges}
use Rattle.replay.specs.LineRuns.{EndsBy}
use Rattle.replay.specs.Stops.{IsRefusing, put_status, stop_status}

-- the status of an image that is not loaded: by the put of the line of its cause, or by a fault where there is no line
data RefusedWith (now : Status) : Type 0 where
  by_line : (put : Result (Unit {0}) SinkFault) → now ≡ put_status status.Refused put → RefusedWith now
  by_read : now ≡ status.ReadFault → RefusedWith now
  by_memory : now ≡ status.Memory → RefusedWith now

module _ (before after : Option (List ℕ)) (faults faults_now : ℕ) (now : Status) where
  refused_with : (error : LoadError) → IsRefusing error before after faults faults_now now → RefusedWith now
  refused_with (errors.Short n) put = by_line put.put put.status
  refused_with (errors.Format n) put = by_line put.put put.status
  refused_with (errors.HeaderSize n) put = by_line put.put put.status
  refused_with (errors.Base n) put = by_line put.put put.status
  refused_with (errors.Large n) put = by_line put.put put.status
  refused_with (errors.Segment n) put = by_line put.put put.status
  refused_with (errors.End n) put = by_line put.put put.status
  refused_with (errors.Object n) put = by_line put.put put.status
  refused_with (errors.Roots n) put = by_line put.put put.status
  refused_with (errors.Forwarder n) put = by_line put.put put.status
  refused_with (errors.Class n) put = by_line put.put put.status
  refused_with (errors.Slot n) put = by_line put.put put.status
  refused_with (errors.Special n) put = by_line put.put put.status
  refused_with errors.ReadFault put = by_read put.0
  refused_with errors.Memory put = by_memory put.0

-- words that are replayed are in a known form
module _ (words : List Text) (image script : Text) (limits : Limits) (is : IsReplay words image script limits) where
  judged_put : (put : Result (Unit {0}) SinkFault) → Judges words (put_status status.Refused put)
  judged_put (Ok x) = λ misused. misused image script limits is
  judged_put (Err sink.Failed) = tt
  judged_put (Err sink.Memory) = tt

  judged_with : (now : Status) → RefusedWith now → Judges words now
  judged_with now (by_line put ends) = subst (Judges words) (sym ends) (judged_put put)
  judged_with now (by_read ends) = subst (Judges words) (sym ends) (λ misused. misused image script limits is)
  judged_with now (by_memory ends) = subst (Judges words) (sym ends) tt

  pub judged_refusal : (error : LoadError) (before after : Option (List ℕ)) (faults faults_now : ℕ) (now : Status) → IsRefusing error before after faults faults_now now → Judges words now
  judged_refusal error before after faults faults_now now put = judged_with now (refused_with before after faults faults_now now error put)

  judged_stopped : (why : Stop) → Judges words (stop_status why)
  judged_stopped (stop.Script file.Failed) = λ misused. misused image script limits is
  judged_stopped (stop.Script file.Memory) = tt
  judged_stopped (stop.Line fault.Read) = λ misused. misused image script limits is
  judged_stopped (stop.Line fault.Write) = tt
  judged_stopped (stop.Line fault.Memory) = tt
  judged_stopped (stop.Put sink.Failed) = tt
  judged_stopped (stop.Put sink.Memory) = tt
  judged_stopped stop.TooLong = λ misused. misused image script limits is

  pub judged_stop : (why : Stop) (now : Status) → now ≡ stop_status why → Judges words now
  judged_stop why now ends = subst (Judges words) (sym ends) (judged_stopped why)

  -- a run that was stopped keeps a session
  left_stopped : (why : Stop) (session : SessionView) (kept : Option SessionView) → kept ≡ Some session → EndsBy false session.ended (Err why) → IsLeft words (stop_status why) kept
  left_stopped (stop.Script file.Failed) session kept held ended = λ misused. absurd (misused image script limits is)
  left_stopped (stop.Script file.Memory) session kept held ended = λ misused. absurd (misused image script limits is)
  left_stopped (stop.Line fault.Read) session kept held ended = λ misused. absurd (misused image script limits is)
  left_stopped (stop.Line fault.Write) session kept held ended = λ misused. absurd (misused image script limits is)
  left_stopped (stop.Line fault.Memory) session kept held ended = λ misused. absurd (misused image script limits is)
  left_stopped (stop.Put sink.Failed) session kept held ended = λ misused. absurd (misused image script limits is)
  left_stopped (stop.Put sink.Memory) session kept held ended = λ misused. absurd (misused image script limits is)
  left_stopped stop.TooLong session kept held ended = (session, held, ended)

  pub left_stop : (why : Stop) (now : Status) (session : SessionView) (kept : Option SessionView) → now ≡ stop_status why → kept ≡ Some session → EndsBy false session.ended (Err why) → IsLeft words now kept
  left_stop why now session kept ends held ended =
      let L : Status → Type 0 = λ st. IsLeft words st kept in
      subst L (sym ends) (left_stopped why session kept held ended)
