-- A script that is read from a store, and its answers.
use Rattle.std.proofs.Common.{◌≡◌, ℕ, ◌+◌, ◌<◌, ◌≤◌, List, [], ◌++◌, length, take, drop, Option, Some, None, Ok, Err, Result, refl, sym, subst, ap, ◌∙◌, length-drop, append-nil, arith}
use Rattle.std.specs.Option.{IfSome}
use Rattle.std.proofs.lemmas.List.{take_all, take-append-drop}
use Rattle.std.proofs.lemmas.List.{take-take}
use Rattle.std.proofs.Math.Seq.{take-add}
use Rattle.spur_io.specs.Store.{Gives}
use Rattle.spur_io.specs.declared.files.FileFault.{FileFault}
use Rattle.spur_io.specs.declared.files.FileFault.TheVariants as file
use Rattle.spur_graph.specs.Bytes.{Text}
use Rattle.spur_graph.specs.State.{State, Files}
use Rattle.spur_graph.specs.Lines.{lines_of, ended_lines_of}
use Rattle.spur_graph.specs.Step.{Run}
use Rattle.replay.specs.Sessions.{SessionView, IsAt}
use Rattle.replay.specs.Answered.{kept_of, AnsweredBy, AnsweredPart, AnsweredAll, AnsweredToSave, ScriptRun}
use Rattle.replay.specs.LineRuns.{PieceRun, EndRun}
use Rattle.replay.specs.Runs.{most_script_bytes}
use Rattle.replay.specs.declared.runs.Stop.{Stop}
use Rattle.replay.specs.declared.runs.Stop.TheVariants as stop
use Rattle.replay.proofs.ScriptLines.{all_open, none_ended}
use Rattle.replay.proofs.ScriptFile.{run_keeps}
use Rattle.replay.proofs.Endings.{part_of, save_of, whole_part, whole_ended}

-- the first `at` bytes of a file were read, and their lines answered
pub record IsReadTo (session : SessionView) (files : Files) (first : State) (text : Text) (at : ℕ) (kept before : List ℕ) (so_far : Option (List ℕ)) : Type 0 where
  pub within : at ≤ length text
  pub answered : AnsweredBy session files first (take at text) kept before so_far

-- the same from each state in which the session was over the first of these files
abbrev pub ReadTo : Option (List ℕ) → SessionView → SessionView → Text → ℕ → List ℕ → Option (List ℕ) → Files → Files → Type 0
ReadTo start old now script at kept so_far store store_now =
    IfSome start (λ before. (first : State) → IsAt old store first → IsReadTo now store_now first (store script) at kept before so_far)

-- no line is answered yet
pub none_read : (start : Option (List ℕ)) (session : SessionView) (script : Text) (kept : List ℕ) → kept ≡ [] → (store : Files) → ReadTo start session session script 0 kept start store store
none_read None session script kept empty store = tt
none_read (Some before) session script kept empty store = λ first here.
    let R : List Text → Type 0 = λ lines. Run first lines [] first in
    record {
      within = omega arith;
      answered = record {
        now = first;
        at = here;
        answered = record {
          keeps = empty ∙ sym (ap kept_of (all_open [] refl) ∙ take_all 1025 [] (omega arith));
          answers = [];
          run = subst R (sym (none_ended [] refl)) refl;
          put = ap (λ bytes. Some bytes) (sym (append-nil before));
        };
      };
    }

-- what was answered of a script from each state in which the session was over the first of these files
abbrev pub Ran : Option (List ℕ) → SessionView → SessionView → Text → Option (List ℕ) → Result (Unit {0}) Stop → Files → Files → Type 0
Ran start old last script after r store store_now = IfSome start (λ before. (first : State) → IsAt old store first → ScriptRun first last store_now (store script) before after r)

-- a whole script was read, and the lines answered that are ended in it
abbrev pub ReadAll : Option (List ℕ) → SessionView → SessionView → Text → List ℕ → Option (List ℕ) → Files → Files → Type 0
ReadAll start old now script kept so_far store store_now =
    IfSome start (λ before. (first : State) → IsAt old store first → (length (store script) ≤ most_script_bytes) × AnsweredBy now store_now first (store script) kept before so_far)

-- a piece of a text, behind what was read of it
front_more : (text into piece : Text) (at count taken : ℕ) → Gives text at into count → taken ≤ count → piece ≡ take taken into → take at text ++ piece ≡ take (at + taken) text
front_more text into piece at count taken gives le is =
    let here : piece ≡ take taken (drop at text) = is ∙ sym (take-take taken count into le) ∙ ap (take taken) gives.front ∙ take-take taken count (drop at text) le in
    ap (λ p. take at text ++ p) here ∙ sym (take-add at taken text)

-- the lines that are ended in a front are first lines
front_part : (first : State) (session : SessionView) (files : Files) (text front : Text) (n : ℕ) (before : List ℕ) (after : Option (List ℕ)) → front ≡ take n text → AnsweredPart first session files (ended_lines_of front) before after
    → AnsweredPart first session files (lines_of text) before after
front_part first session files text front n before after is part =
    let P : Text → Type 0 = λ t. AnsweredPart first session files (ended_lines_of t) before after in
    let Q : Text → Type 0 = λ t. AnsweredPart first session files (lines_of t) before after in
    subst Q (take-append-drop n text) (part_of first session files (take n text) (drop n text) before after (subst P is part))

front_save : (first : State) (session : SessionView) (files : Files) (text front : Text) (n : ℕ) (before : List ℕ) (after : Option (List ℕ)) → front ≡ take n text → AnsweredToSave first session files (ended_lines_of front) before after
    → AnsweredToSave first session files (lines_of text) before after
front_save first session files text front n before after is to =
    let P : Text → Type 0 = λ t. AnsweredToSave first session files (ended_lines_of t) before after in
    let Q : Text → Type 0 = λ t. AnsweredToSave first session files (lines_of t) before after in
    subst Q (take-append-drop n text) (save_of first session files (take n text) (drop n text) before after (subst P is to))

-- a session, and a script that it runs
module _ (old : SessionView) (script : Text) (runs : old.script ≡ script) where
  -- the script is as it was
  same_text : (now : SessionView) (store mid : Files) (first : State) (at : ℕ) (kept before : List ℕ) (so_far : Option (List ℕ)) → IsAt old store first → IsReadTo now mid first (store script) at kept before so_far → mid script ≡ store script
  same_text now store mid first at kept before so_far here read =
      let by = read.answered in
      let named : first.script ≡ script = here.state.script ∙ runs in
      let keeps = run_keeps first by.now (ended_lines_of (take at (store script))) by.answered.answers by.answered.run in
      sym (ap (λ (f : Files). f script) by.at.same_files) ∙ ap by.now.files (sym named) ∙ keeps.file ∙ ap first.files named ∙ ap (λ (f : Files). f script) here.same_files

  -- a piece more was read and answered
  pub piece_read : (start so_far after : Option (List ℕ)) (now next : SessionView) (into piece kept kept' : List ℕ) (at count taken : ℕ) → taken ≤ count → piece ≡ take taken into → (x : Unit {0}) → (store mid last : Files)
      → ReadTo start old now script at kept so_far store mid × Gives (mid script) at into count → PieceRun now mid next last kept kept' piece so_far after (Ok x) → ReadTo start old next script (at + taken) kept' after store last
  piece_read None so_far after now next into piece kept kept' at count taken le is x store mid last so answers = tt
  piece_read (Some before) so_far after now next into piece kept kept' at count taken le is x store mid last so answers = λ first here.
      let read : IsReadTo now mid first (store script) at kept before so_far = so.0 first here in
      let gives : Gives (store script) at into count = subst (λ (t : Text). Gives t at into count) (same_text now store mid first at kept before so_far here read) so.1 in
      let A : Text → Type 0 = λ text. AnsweredBy next last first text kept' before after in
      record {
        within = omega (arith, read.within, gives.within, length-drop at (store script));
        answered = subst A (front_more (store script) into piece at count taken gives le is) (answers first (take at (store script)) before read.answered);
      }

  -- a line of a piece stopped it
  pub ran_piece : (start so_far after : Option (List ℕ)) (now next : SessionView) (into piece kept kept' : List ℕ) (at count taken : ℕ) → taken ≤ count → piece ≡ take taken into → (why : Stop) → (store mid last : Files)
      → ReadTo start old now script at kept so_far store mid × Gives (mid script) at into count → PieceRun now mid next last kept kept' piece so_far after (Err why) → Ran start old next script after (Err why) store last
  ran_piece None so_far after now next into piece kept kept' at count taken le is why store mid last so stopped = tt
  ran_piece (Some before) so_far after now next into piece kept kept' at count taken le is why store mid last so stopped = λ first here.
      let read : IsReadTo now mid first (store script) at kept before so_far = so.0 first here in
      let gives : Gives (store script) at into count = subst (λ (t : Text). Gives t at into count) (same_text now store mid first at kept before so_far here read) so.1 in
      by why first read (front_more (store script) into piece at count taken gives le is) stopped
    where
      by : (why : Stop) (first : State) → IsReadTo now mid first (store script) at kept before so_far → take at (store script) ++ piece ≡ take (at + taken) (store script) → PieceRun now mid next last kept kept' piece so_far after (Err why)
          → ScriptRun first next last (store script) before after (Err why)
      by (stop.Put e) first read front stopped =
          front_part first next last (store script) (take at (store script) ++ piece) (at + taken) before after front (stopped first (take at (store script)) before read.answered)
      by (stop.Line f) first read front stopped =
          front_save first next last (store script) (take at (store script) ++ piece) (at + taken) before after front (stopped first (take at (store script)) before read.answered)
      by (stop.Script f) first read front stopped = absurd stopped
      by stop.TooLong first read front stopped = absurd stopped

  -- the byte past the limit was read
  pub ran_too_long : (start so_far after : Option (List ℕ)) (now next : SessionView) (into piece kept kept' : List ℕ) (at count taken : ℕ) → taken < count → at + taken ≡ most_script_bytes → piece ≡ take taken into → (x : Unit {0})
      → (store mid last : Files) → ReadTo start old now script at kept so_far store mid × Gives (mid script) at into count → PieceRun now mid next last kept kept' piece so_far after (Ok x)
      → Ran start old next script after (Err stop.TooLong) store last
  ran_too_long None so_far after now next into piece kept kept' at count taken less limit is x store mid last so answers = tt
  ran_too_long (Some before) so_far after now next into piece kept kept' at count taken less limit is x store mid last so answers = λ first here.
      let read : IsReadTo now mid first (store script) at kept before so_far = so.0 first here in
      let gives : Gives (store script) at into count = subst (λ (t : Text). Gives t at into count) (same_text now store mid first at kept before so_far here read) so.1 in
      let done : IsReadTo next last first (store script) (at + taken) kept' before after =
      piece_read (Some before) so_far after now next into piece kept kept' at count taken (omega (arith, less)) is x store mid last so answers first here in
      let A : ℕ → Type 0 = λ n. AnsweredAll first next last (ended_lines_of (take n (store script))) before after in
      (omega (arith, gives.within, length-drop at (store script), less, limit), subst A limit (whole_ended next last first (take (at + taken) (store script)) kept' before after done.answered))

  -- the whole file was read
  pub read_all : (start so_far : Option (List ℕ)) (now : SessionView) (into kept : List ℕ) (at count : ℕ) → count ≡ 0 → at ≤ most_script_bytes → (store mid : Files)
      → ReadTo start old now script at kept so_far store mid × Gives (mid script) at into count → ReadAll start old now script kept so_far store mid
  read_all None so_far now into kept at count none low store mid so = tt
  read_all (Some before) so_far now into kept at count none low store mid so = λ first here.
      let read : IsReadTo now mid first (store script) at kept before so_far = so.0 first here in
      let gives : Gives (store script) at into count = subst (λ (t : Text). Gives t at into count) (same_text now store mid first at kept before so_far here read) so.1 in
      let short : length (store script) ≤ at = omega (arith, length-drop at (store script), ap length (gives.end_only none)) in
      let A : Text → Type 0 = λ text. AnsweredBy now mid first text kept before so_far in
      (omega arith, subst A (take_all at (store script) short) read.answered)

-- what came of the line at the script's end is what came of the script
pub ran_end : (start so_far after : Option (List ℕ)) (old now next : SessionView) (script : Text) (kept : List ℕ) (did : Result (Unit {0}) Stop) (store mid last : Files) → ReadAll start old now script kept so_far store mid
    → EndRun now mid next last kept so_far after did → Ran start old next script after did store last
ran_end None so_far after old now next script kept did store mid last all ran = tt
ran_end (Some before) so_far after old now next script kept did store mid last all ran = λ first here. by did first (all first here) ran
  where
    by : (did : Result (Unit {0}) Stop) (first : State) → (length (store script) ≤ most_script_bytes) × AnsweredBy now mid first (store script) kept before so_far → EndRun now mid next last kept so_far after did
        → ScriptRun first next last (store script) before after did
    by (Ok x) first all ran = (all.0, ran first (store script) before all.1)
    by (Err (stop.Put e)) first all ran = ran first (store script) before all.1
    by (Err (stop.Line f)) first all ran = ran first (store script) before all.1
    by (Err (stop.Script f)) first all ran = absurd ran
    by (Err stop.TooLong) first all ran = absurd ran

-- a read was refused
pub ran_unread : (start so_far : Option (List ℕ)) (old now : SessionView) (script : Text) (kept : List ℕ) (at : ℕ) (e : FileFault) (store mid : Files) → ReadTo start old now script at kept so_far store mid
    → Ran start old now script so_far (Err (stop.Script e)) store mid
ran_unread None so_far old now script kept at e store mid so = tt
ran_unread (Some before) so_far old now script kept at file.Failed store mid so = λ first here.
    (at, whole_ended now mid first (take at (store script)) kept before so_far (so first here).answered)
ran_unread (Some before) so_far old now script kept at file.Memory store mid so = λ first here.
    front_part first now mid (store script) (take at (store script)) at before so_far refl (whole_part now mid first (take at (store script)) kept before so_far (so first here).answered)
