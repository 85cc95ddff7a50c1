-- What a run of the program put, by its status.
use Rattle.std.proofs.Common.{◌≡◌, ℕ, List, take, Bool, true, false, Option, Some, None, Ok, Err, Result, refl, sym, subst, ◌∙◌}
use Rattle.std.specs.Option.{IfSome}
use Rattle.spur_io.specs.Store.{Puts}
use Rattle.spur_io.specs.Causes.{SinkCause}
use Rattle.spur_io.specs.declared.sink.SinkFault.{SinkFault}
use Rattle.spur_io.specs.declared.sink.SinkFault.TheVariants as sink
use Rattle.spur_io.specs.declared.files.FileFault.TheVariants as file
use Rattle.spur_graph.specs.declared.limits.Limits.{Limits}
use Rattle.spur_graph.specs.Bytes.{Text}
use Rattle.spur_graph.specs.State.{State, Files}
use Rattle.spur_graph.specs.Step.{Renamed}
use Rattle.spur_graph.specs.Lines.{lines_of, ended_lines_of}
use Rattle.spur_graph.specs.ImageCauses.{Cause, Short, Format, HeaderSize, Base, Large, Segment, End, Object, Roots, Forwarder, Class, Slot, Special, FirstCause, IsAccepted, cause_line}
use Rattle.spur_graph.specs.ImageFile.{header_bytes}
use Rattle.spur_graph.specs.LoadedGraph.{loaded_graph, loaded_room}
use Rattle.spur_graph.specs.Heaps.{View, Stands, Whole}
use Rattle.image_file.specs.declared.error.LoadError.{LoadError}
use Rattle.image_file.specs.declared.error.LoadError.TheVariants as errors
use Rattle.image_file.specs.Errors.{IsCauseOf}
use Rattle.replay.specs.declared.session.Fault.TheVariants as fault
use Rattle.replay.specs.declared.runs.Stop.{Stop}
use Rattle.replay.specs.declared.runs.Stop.TheVariants as stop
use Rattle.replay.specs.declared.runs.Status.{Status}
use Rattle.replay.specs.declared.runs.Status.TheVariants as status
use Rattle.replay.specs.Sessions.{SessionView, IsStateOf, SameRun, WhereTold, graph_of, room_of, over}
use Rattle.replay.specs.Runs.{Around, IsReplay, IsMisused, IsKept, Outcome, done, usage, refused, unread_image, unread_script, too_long, cut_short, unsaved, no_memory, no_memory_to_save, no_memory_for_image, in_usage, in_refusal, in_answers, at_save, PutsAll, PutsPart, PutsToSave, first_state, usage_line, most_script_bytes}
use Rattle.replay.specs.Answered.{AnsweredPart, AnsweredAll, AnsweredToSave, ScriptRun}
use Rattle.replay.specs.LineRuns.{EndsBy, StopCause}
use Rattle.replay.specs.Stops.{IsPut, IsPutCause, IsRefusing, put_status, status_of}
use Rattle.replay.proofs.Graphs.{names_fresh}
use Rattle.replay.proofs.Told.{told_as, told_still}
use Rattle.replay.proofs.Scripts.{Ran}

-- a heap that stands for the graph and the room of an image is in a state that differs from the first in names alone
started : (files : Files) (image script : Text) (limits : Limits) (v : View) → Stands v (loaded_graph (files image)) (loaded_room (files image) limits) → Renamed (first_state files image script limits) (over v (first_state files image script limits))
unfolding graph_of room_of
started files image script limits v stands = record {
  p = stands.place;
  back = stands.back;
  graph = stands.graph;
  room = stands.figures;
  files = refl;
  script = refl;
  next = names_fresh v stands.whole;
}

module _ (words : List Text) (r : Around) (image script : Text) (limits : Limits) (kept : Option SessionView) where
  module _ (start : State) (session : SessionView) (good : IsAccepted (r.files image) limits) (named : Renamed (first_state r.files image script limits) start) where
    -- all answers were put
    abbrev puts_all : (lines : List Text) → AnsweredAll start session r.files_now lines r.before r.after → PutsAll r.files r.files_now image script limits lines r.before r.after
    puts_all lines all = record { accepted = good; answering = record { answers = all.answers; start = start; named = named; last = all.last; run = all.run }; same_files = all.at.same_files; put = all.put }

    -- a part of them was put
    abbrev puts_part : AnsweredPart start session r.files_now (lines_of (r.files script)) r.before r.after → PutsPart r.files r.files_now image script limits r.before r.after
    puts_part part = record {
      accepted = good;
      lines = part.done;
      others = part.others;
      first = part.first_lines;
      answering = record { answers = part.answers; start = start; named = named; last = part.last; run = part.run };
      same_files = part.at.same_files;
      put = part.put;
    }

    -- those of the lines before a save that met a fault were put
    abbrev puts_to_save : AnsweredToSave start session r.files_now (lines_of (r.files script)) r.before r.after → PutsToSave r.files r.files_now image script limits r.before r.after
    puts_to_save to = record {
      accepted = good;
      lines = to.done;
      line = to.line;
      others = to.others;
      first = to.first_lines;
      answering = record { answers = to.answers; start = start; named = named; last = to.last; run = to.run };
      stops = to.stops;
      put = to.put;
    }

    -- the outcome of a script, by what stopped it
    script_outcome : (did : Result (Unit {0}) Stop) (reads reads_now : ℕ) → IsReplay words image script limits → StopCause reads reads_now r.writes r.writes_now r.puts r.puts_now did → EndsBy false session.ended did
        → ((ended : Bool) (last : State) → session.ended ≡ ended → IsStateOf session last → IsKept kept (r.files image) limits ended last) → ScriptRun start session r.files_now (r.files script) r.before r.after did → Outcome words r kept (status_of did)
    script_outcome (Ok x) reads reads_now is cause ends stays run = done is run.0 (puts_all (lines_of (r.files script)) run.1) (stays false run.1.last ends run.1.at.state)
    script_outcome (Err (stop.Script file.Failed)) reads reads_now is cause ends stays run =
        unread_script is (record { size = run.0; whole = puts_all (ended_lines_of (take run.0 (r.files script))) run.1 }) (stays false run.1.last ends run.1.at.state)
    script_outcome (Err (stop.Script file.Memory)) reads reads_now is cause ends stays run = no_memory (in_answers is (puts_part run) (stays false run.last ends run.at.state))
    script_outcome (Err (stop.Line fault.Read)) reads reads_now is cause ends stays run = absurd cause
    script_outcome (Err (stop.Line fault.Write)) reads reads_now is cause ends stays run = unsaved cause.1.0.1 (at_save is (puts_to_save run) (stays true run.last ends run.is))
    script_outcome (Err (stop.Line fault.Memory)) reads reads_now is cause ends stays run = no_memory_to_save (at_save is (puts_to_save run) (stays true run.last ends run.is))
    script_outcome (Err (stop.Put sink.Failed)) reads reads_now is cause ends stays run = cut_short cause.1.1.1 (in_answers is (puts_part run) (stays false run.last ends run.at.state))
    script_outcome (Err (stop.Put sink.Memory)) reads reads_now is cause ends stays run = no_memory (in_answers is (puts_part run) (stays false run.last ends run.at.state))
    script_outcome (Err stop.TooLong) reads reads_now is cause ends stays run =
        too_long is run.0 (puts_all (ended_lines_of (take most_script_bytes (r.files script))) run.1) (stays false run.1.last ends run.1.at.state)

  module _ (none : kept ≡ None) (same : r.files_now ≡ r.files) where
    -- the line of a cause was put, or a part of it
    put_refusal : (cause : Cause) (put : Result (Unit {0}) SinkFault) → IsReplay words image script limits → FirstCause (r.files image) limits cause → Puts (cause_line cause) (Some r.before) r.after put → SinkCause r.puts r.puts_now put
        → Outcome words r kept (put_status status.Refused put)
    put_refusal cause (Ok x) is first bytes counts = refused cause is first bytes same none
    put_refusal cause (Err sink.Failed) is first bytes counts = cut_short counts.1 (in_refusal cause is first bytes same none)
    put_refusal cause (Err sink.Memory) is first bytes counts = no_memory (in_refusal cause is first bytes same none)

    cause_outcome : (cause : Cause) (now : Status) → IsReplay words image script limits → FirstCause (r.files image) limits cause → IsPutCause cause (Some r.before) r.after r.puts r.puts_now now → Outcome words r kept now
    cause_outcome cause now is first put = subst (λ (st : Status). Outcome words r kept st) (sym put.status) (put_refusal cause put.put is first put.bytes put.cause)

    refusal_outcome : (error : LoadError) (now : Status) → IsReplay words image script limits → IsCauseOf (r.files image) limits error → IsRefusing error (Some r.before) r.after r.puts r.puts_now now → Outcome words r kept now
    refusal_outcome (errors.Short n) now is cause put = cause_outcome (Short n) now is cause put
    refusal_outcome (errors.Format n) now is cause put = cause_outcome (Format n) now is cause put
    refusal_outcome (errors.HeaderSize n) now is cause put = cause_outcome (HeaderSize n) now is cause put
    refusal_outcome (errors.Base n) now is cause put = cause_outcome (Base n) now is cause put
    refusal_outcome (errors.Large n) now is cause put = cause_outcome (Large n) now is cause put
    refusal_outcome (errors.Segment n) now is cause put = cause_outcome (Segment n) now is cause put
    refusal_outcome (errors.End n) now is cause put = cause_outcome (End n) now is cause put
    refusal_outcome (errors.Object n) now is cause put = cause_outcome (Object n) now is cause put
    refusal_outcome (errors.Roots n) now is cause put = cause_outcome (Roots n) now is cause put
    refusal_outcome (errors.Forwarder n) now is cause put = cause_outcome (Forwarder n) now is cause put
    refusal_outcome (errors.Class n) now is cause put = cause_outcome (Class n) now is cause put
    refusal_outcome (errors.Slot n) now is cause put = cause_outcome (Slot n) now is cause put
    refusal_outcome (errors.Special n) now is cause put = cause_outcome (Special n) now is cause put
    refusal_outcome errors.ReadFault now is cause put = subst (λ (st : Status). Outcome words r kept st) (sym put.0) (unread_image is put.1.bytes same none)
    refusal_outcome errors.Memory now is cause put = subst (λ (st : Status). Outcome words r kept st) (sym put.0) (no_memory_for_image is put.1.bytes same none)

-- the usage line was put, or a part of it
put_usage : (words : List Text) (r : Around) (kept : Option SessionView) (put : Result (Unit {0}) SinkFault) → kept ≡ None → r.files_now ≡ r.files → IsMisused words → Puts usage_line (Some r.before) r.after put → SinkCause r.puts r.puts_now put
    → Outcome words r kept (put_status status.Usage put)
put_usage words r kept (Ok x) none same is bytes counts = usage is bytes same none
put_usage words r kept (Err sink.Failed) none same is bytes counts = cut_short counts.1 (in_usage is bytes same none)
put_usage words r kept (Err sink.Memory) none same is bytes counts = no_memory (in_usage is bytes same none)

-- the outcome over these files, where the sink tells its bytes
abbrev pub Came : List Text → Option (List ℕ) → Option (List ℕ) → ℕ → ℕ → ℕ → ℕ → Option SessionView → Status → Files → Files → Type 0
Came words so_far after writes writes_now puts puts_now kept now store store_now = IfSome so_far (λ before. Outcome words (record {
  files = store;
  files_now = store_now;
  before = before;
  after = after;
  writes = writes;
  writes_now = writes_now;
  puts = puts;
  puts_now = puts_now;
}) kept now)

-- what is told of an option is so of what it has
of_some : {X : Type 0} (o : Option X) (x : X) (P : X → Type 0) → o ≡ Some x → IfSome o P → P x
of_some o x P is told = subst (λ p. IfSome p P) is told

module _ (words : List Text) (image script : Text) (limits : Limits) (is : IsReplay words image script limits) where
  -- a session of the image
  module _ (s t : SessionView) (store : Files) (good : IsAccepted (store image) limits) (stands : Stands s.heap (loaded_graph (store image)) (loaded_room (store image) limits)) (header : s.heap.carried ≡ take header_bytes (store image))
      (runs : s.script ≡ script) (asked : s.heap.limits ≡ limits) (whole : s.heap.phase ≡ Whole) (keeps : SameRun s t) where
    ran : (did : Result (Unit {0}) Stop) (so_far after : Option (List ℕ)) (reads reads_now writes writes_now puts puts_now : ℕ) (kept : Option SessionView) (now : Status) (store_now : Files) → StopCause reads reads_now writes writes_now puts puts_now did → EndsBy false t.ended did
        → kept ≡ Some t → now ≡ status_of did → Ran so_far s t script after did store store_now → Came words so_far after writes writes_now puts puts_now kept now store store_now
    ran did None after reads reads_now writes writes_now puts puts_now kept now store_now cause ends held at run = tt
    ran did (Some before) after reads reads_now writes writes_now puts puts_now kept now store_now cause ends held at run =
        let r : Around = record { files = store; files_now = store_now; before = before; after = after; writes = writes; writes_now = writes_now; puts = puts; puts_now = puts_now } in
        let start : State = over s.heap (first_state store image script limits) in
        let stays : (ended : Bool) (last : State) → t.ended ≡ ended → IsStateOf t last → IsKept kept (store image) limits ended last = λ ended last ends here.
        record { session = t; is = held; ends = ends; state = here; carried = keeps.carried ∙ header; same_limits = keeps.limits ∙ asked; unmarked = keeps.phase ∙ whole } in
        subst (λ (st : Status). Outcome words r kept st) (sym at)
        (script_outcome words r image script limits kept start t good (started store image script limits s.heap stands) did reads reads_now is cause ends stays
        (run start (record { state = record { heap = refl; script = sym runs }; same_files = refl })))

  -- the outcome of a session of the image
  pub replayed : (told later told_now : Option Files) (so_far after : Option (List ℕ)) (s t : SessionView) (kept : Option SessionView) (did : Result (Unit {0}) Stop) (now : Status) (reads reads_now writes mid writes_now puts puts_now : ℕ)
      → later ≡ told → mid ≡ writes → IfSome told (λ store. IsAccepted (store image) limits × Stands s.heap (loaded_graph (store image)) (loaded_room (store image) limits)) → (s.script ≡ script) × (s.ended ≡ false)
      → s.heap.limits ≡ limits → s.heap.phase ≡ Whole → IfSome told (λ store. s.heap.carried ≡ take header_bytes (store image)) → SameRun s t → StopCause reads reads_now mid writes_now puts puts_now did → EndsBy false t.ended did
      → kept ≡ Some t → now ≡ status_of did → WhereTold later told_now (Ran so_far s t script after did) → WhereTold told told_now (Came words so_far after writes writes_now puts puts_now kept now)
  replayed told later told_now so_far after s t kept did now reads reads_now writes mid writes_now puts puts_now same still loaded begins asked whole header keeps cause ends held at run =
      told_as told told_now (Ran so_far s t script after did) (Came words so_far after writes writes_now puts puts_now kept now) (λ store store_now tells ran_so.
      let good = of_some told store (λ files. IsAccepted (files image) limits × Stands s.heap (loaded_graph (files image)) (loaded_room (files image) limits)) tells loaded in
      let first = of_some told store (λ files. s.heap.carried ≡ take header_bytes (files image)) tells header in
      ran s t store good.0 good.1 first begins.0 asked whole keeps did so_far after reads reads_now writes writes_now puts puts_now kept now store_now
      (subst (λ n. StopCause reads reads_now n writes_now puts puts_now did) still cause) ends held at ran_so)
      (subst (λ (o : Option Files). WhereTold o told_now (Ran so_far s t script after did)) same run)

  -- the outcome of an image that is not loaded
  refused_here : (so_far after : Option (List ℕ)) (kept : Option SessionView) (error : LoadError) (writes writes_now puts puts_now : ℕ) (now : Status) (store : Files) → kept ≡ None → IsCauseOf (store image) limits error
      → IsRefusing error so_far after puts puts_now now → Came words so_far after writes writes_now puts puts_now kept now store store
  refused_here None after kept error writes writes_now puts puts_now now store none cause put = tt
  refused_here (Some before) after kept error writes writes_now puts puts_now now store none cause put =
      refusal_outcome words (record { files = store; files_now = store; before = before; after = after; writes = writes; writes_now = writes_now; puts = puts; puts_now = puts_now }) image script limits kept none refl error now is cause put

  pub not_loaded : (told told_now : Option Files) (so_far after : Option (List ℕ)) (kept : Option SessionView) (error : LoadError) (writes writes_now puts puts_now : ℕ) (now : Status) → told_now ≡ told → kept ≡ None
      → IfSome told (λ store. IsCauseOf (store image) limits error) → IsRefusing error so_far after puts puts_now now → WhereTold told told_now (Came words so_far after writes writes_now puts puts_now kept now)
  not_loaded told told_now so_far after kept error writes writes_now puts puts_now now same none cause put =
      subst (λ (o : Option Files). WhereTold told o (Came words so_far after writes writes_now puts puts_now kept now)) (sym same)
      (told_still told (Came words so_far after writes writes_now puts puts_now kept now) (λ store tells.
      refused_here so_far after kept error writes writes_now puts puts_now now store none (of_some told store (λ files. IsCauseOf (files image) limits error) tells cause) put))

-- the outcome of words in no known form
misused_here : (so_far after : Option (List ℕ)) (words : List Text) (kept : Option SessionView) (writes writes_now puts puts_now : ℕ) (now : Status) (store : Files) → kept ≡ None → IsMisused words → IsPut usage_line so_far after puts puts_now status.Usage now
    → Came words so_far after writes writes_now puts puts_now kept now store store
misused_here None after words kept writes writes_now puts puts_now now store none is put = tt
misused_here (Some before) after words kept writes writes_now puts puts_now now store none is put =
    let r : Around = record { files = store; files_now = store; before = before; after = after; writes = writes; writes_now = writes_now; puts = puts; puts_now = puts_now } in
    subst (λ (st : Status). Outcome words r kept st) (sym put.status) (put_usage words r kept put.put none refl is put.bytes put.cause)

pub misused : (told : Option Files) (so_far after : Option (List ℕ)) (words : List Text) (kept : Option SessionView) (writes writes_now puts puts_now : ℕ) (now : Status) → kept ≡ None → IsMisused words → IsPut usage_line so_far after puts puts_now status.Usage now
    → WhereTold told told (Came words so_far after writes writes_now puts puts_now kept now)
misused told so_far after words kept writes writes_now puts puts_now now none is put =
    told_still told (Came words so_far after writes writes_now puts puts_now kept now) (λ store tells. misused_here so_far after words kept writes writes_now puts puts_now now store none is put)
