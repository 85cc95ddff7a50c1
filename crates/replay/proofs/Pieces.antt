-- The answers to the lines that are ended in a piece of a script.
use Rattle.std.proofs.Common.{◌≡◌, ℕ, List, [], ◌∷◌, ◌++◌, take, Option, Ok, Err, refl, sym, subst, ap, ◌∙◌, append_assoc, append-nil, false}
use Rattle.spur_io.specs.declared.sink.SinkFault.{SinkFault}
use Rattle.spur_graph.specs.Bytes.{Text}
use Rattle.spur_graph.specs.State.{State, Files}
use Rattle.spur_graph.specs.Step.{Run}
use Rattle.spur_graph.specs.Lines.{ended_lines_of, open_line_of, has_line_feed}
use Rattle.replay.specs.declared.runs.Stop.{Stop}
use Rattle.replay.specs.declared.runs.Stop.TheVariants as stop
use Rattle.replay.specs.Sessions.{SessionView}
use Rattle.replay.specs.Answered.{kept_of, LineAnswered, Answered, AnsweredBy, AnswersBehind, AnswersPiece, CutsPiece}
use Rattle.replay.specs.LineRuns.{BehindRun, PieceRun}
use Rattle.replay.proofs.ScriptLines.{open_more, ended_same, ended_more, ended_parts}
use Rattle.replay.proofs.Answering.{kept_more, one_answered, one_cut, one_stopped}

-- the lines of a piece were answered up to the rest of it
pub record Passed (old : SessionView) (store : Files) (now : SessionView) (store_now : Files) (was kept piece rest : List ℕ) (so_far after : Option (List ℕ)) : Type 0 where
  pub used : List ℕ
  pub is : piece ≡ used ++ rest
  pub goes : (first : State) (text : Text) (before : List ℕ) → AnsweredBy old store first text was before so_far → AnsweredBy now store_now first (text ++ used) kept before after

text_nil : (session : SessionView) (files : Files) (first : State) (text : Text) (kept before : List ℕ) (so_far : Option (List ℕ)) → AnsweredBy session files first text kept before so_far → AnsweredBy session files first (text ++ []) kept before so_far
text_nil session files first text kept before so_far so = let P : Text → Type 0 = λ t. AnsweredBy session files first t kept before so_far in subst P (sym (append-nil text)) so

-- no line of the piece yet
pub none_passed : (session : SessionView) (files : Files) (was piece : List ℕ) (so_far : Option (List ℕ)) → Passed session files session files was was piece piece so_far so_far
none_passed session files was piece so_far = record { used = []; is = refl; goes = λ first text before so. text_nil session files first text was before so_far so }

-- a line more of the piece, from the first of its files to the last
module _ (old : SessionView) (store : Files) (now : SessionView) (mid : Files) (next : SessionView) (last : Files) (was kept piece rest line behind : List ℕ) (start so_far after : Option (List ℕ)) (cut : rest ≡ line ++ 10 ∷ behind)
    (none : has_line_feed line ≡ false) (passed : Passed old store now mid was kept piece rest start so_far) where
  -- it was answered
  pub line_passed : (kept' : List ℕ) (x : Unit {0}) → kept' ≡ [] → AnswersBehind now mid next last kept line so_far after (Ok x) → Passed old store next last was kept' piece behind start after
  line_passed kept' x empty answers =
      record {
        used = passed.used ++ (line ++ 10 ∷ []);
        is = passed.is ∙ ap (λ r. passed.used ++ r) (cut ∙ sym (append_assoc line (10 ∷ []) behind)) ∙ sym (append_assoc passed.used (line ++ 10 ∷ []) behind);
        goes = λ first text before so.
            let front : Text = text ++ passed.used in
            let here : AnsweredBy now mid first front kept before so_far = passed.goes first text before so in
            let this : LineAnswered next last here.now (open_line_of front ++ line) so_far after (Ok x) = answers here.now (open_line_of front) here.at here.answered.keeps in
            let next_so : Answered first this.now (front ++ (line ++ 10 ∷ [])) [] before after = one_answered first here.now this.now front line kept before so_far after x none here.answered this.answers in
            let P : Text → List ℕ → Type 0 = λ t k. Answered first this.now t k before after in
            let there : P (text ++ (passed.used ++ (line ++ 10 ∷ []))) [] = subst (λ (t : Text). P t []) (append_assoc text passed.used (line ++ 10 ∷ [])) next_so in
            record { now = this.now; at = this.at; answered = subst (P (text ++ (passed.used ++ (line ++ 10 ∷ [])))) (sym empty) there };
      }

  -- the lines that are ended with the piece
  abbrev rest_of : Text → List Text
  rest_of front = ended_lines_of (open_line_of (front ++ (line ++ 10 ∷ [])) ++ behind)

  its_lines : (text : Text) → ended_lines_of (text ++ piece) ≡ ended_lines_of (text ++ passed.used) ++ ((open_line_of (text ++ passed.used) ++ line) ∷ rest_of (text ++ passed.used))
  its_lines text =
      let front : Text = text ++ passed.used in
      let whole : text ++ piece ≡ (front ++ (line ++ 10 ∷ [])) ++ behind =
      ap (λ p. text ++ p) (passed.is ∙ ap (λ r. passed.used ++ r) (cut ∙ sym (append_assoc line (10 ∷ []) behind))) ∙ sym (append_assoc text passed.used ((line ++ 10 ∷ []) ++ behind))
      ∙ sym (append_assoc front (line ++ 10 ∷ []) behind) in
      ap ended_lines_of whole ∙ ended_parts (front ++ (line ++ 10 ∷ [])) behind ∙ ap (λ ls. ls ++ rest_of front) (ended_more front line none)
      ∙ append_assoc (ended_lines_of front) ((open_line_of front ++ line) ∷ []) (rest_of front)

  -- its put was refused
  part_passed : (e : SinkFault) → AnswersBehind now mid next last kept line so_far after (Err e) → CutsPiece old store next last was piece start after
  part_passed e answers = λ first text before so.
      let front : Text = text ++ passed.used in
      let here : AnsweredBy now mid first front kept before so_far = passed.goes first text before so in
      one_cut first here.now next last front (open_line_of front ++ line) (ended_lines_of (text ++ piece)) (rest_of front) kept before so_far after e (its_lines text) here.answered
      (answers here.now (open_line_of front) here.at here.answered.keeps)

  -- what stopped it stops the piece
  pub piece_stopped : (kept' : List ℕ) (why : Stop) → BehindRun now mid next last kept line so_far after (Err why) → PieceRun old store next last was kept' piece start after (Err why)
  piece_stopped kept' (stop.Put e) ran = part_passed e ran
  piece_stopped kept' (stop.Line f) ran = λ first text before so.
      let front : Text = text ++ passed.used in
      let here : AnsweredBy now mid first front kept before so_far = passed.goes first text before so in
      one_stopped first here.now next last front (open_line_of front ++ line) (ended_lines_of (text ++ piece)) (rest_of front) kept before so_far after (its_lines text) here.answered
      (ran here.now (open_line_of front) here.at here.answered.keeps)
  piece_stopped kept' (stop.Script f) ran = absurd ran
  piece_stopped kept' stop.TooLong ran = absurd ran

-- the rest of the piece has no line feed
pub all_passed : (old : SessionView) (store : Files) (now : SessionView) (store_now : Files) (was kept kept' piece rest : List ℕ) (start so_far : Option (List ℕ)) → has_line_feed rest ≡ false → kept' ≡ take 1025 (kept ++ rest)
    → Passed old store now store_now was kept piece rest start so_far → AnswersPiece old store now store_now was kept' piece start so_far
all_passed old store now store_now was kept kept' piece rest start so_far none is passed = λ first text before so.
    let by : AnsweredBy now store_now first (text ++ passed.used) kept before so_far = passed.goes first text before so in
    let here : Answered first by.now (text ++ passed.used) kept before so_far = by.answered in
    let whole : text ++ piece ≡ (text ++ passed.used) ++ rest = ap (λ p. text ++ p) passed.is ∙ sym (append_assoc text passed.used rest) in
    let R : List Text → Type 0 = λ lines. Run first lines here.answers by.now in
    record {
      now = by.now;
      at = by.at;
      answered = record {
        keeps = is ∙ kept_more kept rest (open_line_of (text ++ passed.used)) here.keeps ∙ sym (ap kept_of (ap open_line_of whole ∙ open_more (text ++ passed.used) rest none));
        answers = here.answers;
        run = subst R (sym (ap ended_lines_of whole ∙ ended_same (text ++ passed.used) rest none)) here.run;
        put = here.put;
      };
    }
