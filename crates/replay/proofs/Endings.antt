-- The answers to the line at a script's end, and to the lines of a front of a script.
use Rattle.std.proofs.Common.{◌≡◌, ℕ, ◌<◌, List, [], ◌∷◌, ◌++◌, length, Option, Some, Ok, Err, Result, sym, subst, ap, ◌∙◌, append_assoc, append-nil, arith, false}
use Rattle.std.specs.Prelude.{◌==◌}
use Rattle.std.proofs.lemmas.Bool.Decides.{nat_tests}
use Rattle.spur_io.specs.Store.{Puts}
use Rattle.spur_io.specs.declared.sink.SinkFault.{SinkFault}
use Rattle.spur_graph.specs.declared.answer.Answer.{Answer}
use Rattle.spur_graph.specs.Bytes.{Text}
use Rattle.spur_graph.specs.State.{State, Files}
use Rattle.spur_graph.specs.Step.{Run}
use Rattle.spur_graph.specs.Lines.{lines_of, ended_lines_of, open_line_of}
use Rattle.spur_graph.specs.Text.{answer_line}
use Rattle.replay.specs.Runs.{answers_text}
use Rattle.replay.specs.declared.runs.Stop.{Stop}
use Rattle.replay.specs.declared.runs.Stop.TheVariants as stop
use Rattle.replay.specs.Sessions.{SessionView}
use Rattle.replay.specs.Answered.{LineAnswered, Answered, AnsweredBy, AnsweredPart, AnsweredAll, AnsweredToSave}
use Rattle.replay.specs.LineRuns.{LineRun, EndRun}
use Rattle.replay.proofs.ScriptLines.{lines_parts, all_ended, one_open}
use Rattle.replay.proofs.Answering.{kept_stands, kept_none, kept_some, texts_more, run_more, one_cut, one_stopped}

-- at the script's end no line is open
pub ended_all : (session : SessionView) (files : Files) (first : State) (text : Text) (kept before : List ℕ) (so_far : Option (List ℕ)) → length kept ≡ 0 → AnsweredBy session files first text kept before so_far → AnsweredAll first session files (lines_of text) before so_far
ended_all session files first text kept before so_far none by =
    let so : Answered first by.now text kept before so_far = by.answered in
    let R : List Text → Type 0 = λ lines. Run first lines so.answers by.now in
    record { answers = so.answers; last = by.now; run = subst R (sym (all_ended text (kept_none kept (open_line_of text) so.keeps none))) so.run; at = by.at; put = so.put }

-- the open line at the script's end is answered
pub open_answered : (first now : State) (session : SessionView) (files : Files) (text : Text) (kept before : List ℕ) (so_far after : Option (List ℕ)) (x : Unit {0}) → 0 < length kept → Answered first now text kept before so_far
    → LineAnswered session files now (open_line_of text) so_far after (Ok x) → AnsweredAll first session files (lines_of text) before after
open_answered first now session files text kept before so_far after x some so this =
    let answer : Answer = this.answers.answer in
    let P : Option (List ℕ) → Type 0 = λ o. Puts (answer_line answer) o after (Ok x) in
    let put : after ≡ Some ((before ++ answers_text so.answers) ++ answer_line answer) = subst P so.put this.answers.put in
    let R : List Text → Type 0 = λ lines. Run first lines (so.answers ++ answer ∷ []) this.now in
    record {
      answers = so.answers ++ answer ∷ [];
      last = this.now;
      run = subst R (sym (one_open text (kept_some kept (open_line_of text) so.keeps some))) (run_more first now this.now (ended_lines_of text) (open_line_of text) so.answers answer so.run this.answers.step);
      at = this.at;
      put = put ∙ ap (λ bytes. Some bytes) (texts_more before so.answers answer);
    }

-- the same where its put was refused
pub open_cut : (first now : State) (session : SessionView) (files : Files) (text : Text) (kept before : List ℕ) (so_far after : Option (List ℕ)) (e : SinkFault) → 0 < length kept → Answered first now text kept before so_far
    → LineAnswered session files now (open_line_of text) so_far after (Err e) → AnsweredPart first session files (lines_of text) before after
open_cut first now session files text kept before so_far after e some so this =
    one_cut first now session files text (open_line_of text) (lines_of text) [] kept before so_far after e (one_open text (kept_some kept (open_line_of text) so.keeps some)) so this

-- the first lines of a front are first lines of the whole
pub part_of : (first : State) (session : SessionView) (files : Files) (front back : Text) (before : List ℕ) (after : Option (List ℕ)) → AnsweredPart first session files (ended_lines_of front) before after → AnsweredPart first session files (lines_of (front ++ back)) before after
part_of first session files front back before after part =
    record {
      done = part.done;
      others = part.others ++ lines_of (open_line_of front ++ back);
      first_lines = sym (append_assoc part.done part.others (lines_of (open_line_of front ++ back))) ∙ ap (λ ls. ls ++ lines_of (open_line_of front ++ back)) part.first_lines ∙ sym (lines_parts front back);
      answers = part.answers;
      last = part.last;
      run = part.run;
      at = part.at;
      put = part.put;
    }

-- the same up to a save that met a fault
pub save_of : (first : State) (session : SessionView) (files : Files) (front back : Text) (before : List ℕ) (after : Option (List ℕ)) → AnsweredToSave first session files (ended_lines_of front) before after
    → AnsweredToSave first session files (lines_of (front ++ back)) before after
save_of first session files front back before after to =
    record {
      done = to.done;
      line = to.line;
      others = to.others ++ lines_of (open_line_of front ++ back);
      first_lines = sym (append_assoc to.done (to.line ∷ to.others) (lines_of (open_line_of front ++ back))) ∙ ap (λ ls. ls ++ lines_of (open_line_of front ++ back)) to.first_lines ∙ sym (lines_parts front back);
      answers = to.answers;
      last = to.last;
      run = to.run;
      is = to.is;
      stops = to.stops;
      put = to.put;
    }

-- all answers are a part of them
pub whole_part : (session : SessionView) (files : Files) (first : State) (text : Text) (kept before : List ℕ) (so_far : Option (List ℕ)) → AnsweredBy session files first text kept before so_far → AnsweredPart first session files (ended_lines_of text) before so_far
whole_part session files first text kept before so_far by =
    let so : Answered first by.now text kept before so_far = by.answered in
    record {
      done = ended_lines_of text;
      others = [];
      first_lines = append-nil (ended_lines_of text);
      answers = so.answers;
      last = by.now;
      run = so.run;
      at = by.at;
      put = record {
        whole = so.answers;
        last = [];
        are = sym (append-nil so.answers);
        one = omega arith;
        size = 0;
        put = so.put ∙ ap (λ t. Some (before ++ t)) (sym (append-nil (answers_text so.answers)));
      };
    }

-- all answers to the lines that are ended
pub whole_ended : (session : SessionView) (files : Files) (first : State) (text : Text) (kept before : List ℕ) (so_far : Option (List ℕ)) → AnsweredBy session files first text kept before so_far → AnsweredAll first session files (ended_lines_of text) before so_far
whole_ended session files first text kept before so_far by = record { answers = by.answered.answers; last = by.now; run = by.answered.run; at = by.at; put = by.answered.put }

-- a length that is not 0
pub some_length : (n : ℕ) → (n == 0) ≡ false → 0 < n
some_length n is = grind (arith, nat_tests)

-- what came of the last line, of which these bytes are kept
module _ (now : SessionView) (store : Files) (last : SessionView) (store_now : Files) (kept : List ℕ) (so_far after : Option (List ℕ)) (some : 0 < length kept) where
  pub last_run : (did : Result (Unit {0}) Stop) → LineRun now store last store_now kept so_far after did → EndRun now store last store_now kept so_far after did
  last_run (Ok x) ran = λ first text before by.
      open_answered first by.now last store_now text kept before so_far after x some by.answered (ran by.now (open_line_of text) by.at (kept_stands kept (open_line_of text) by.answered.keeps))
  last_run (Err (stop.Put e)) ran = λ first text before by.
      open_cut first by.now last store_now text kept before so_far after e some by.answered (ran by.now (open_line_of text) by.at (kept_stands kept (open_line_of text) by.answered.keeps))
  last_run (Err (stop.Line f)) ran = λ first text before by.
      one_stopped first by.now last store_now text (open_line_of text) (lines_of text) [] kept before so_far after (one_open text (kept_some kept (open_line_of text) by.answered.keeps some)) by.answered
      (ran by.now (open_line_of text) by.at (kept_stands kept (open_line_of text) by.answered.keeps))
  last_run (Err (stop.Script f)) ran = absurd ran
  last_run (Err stop.TooLong) ran = absurd ran
