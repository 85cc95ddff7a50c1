-- The answers to the lines of a script that is read piece by piece.
use Rattle.std.proofs.Common.{◌≡◌, ◌≢◌, inl, inr, ℕ, ◌<◌, ◌≤◌, List, [], ◌∷◌, ◌++◌, length, take, Option, Some, Ok, Err, Result, refl, sym, subst, ap, ◌∙◌, append_assoc, append-nil, length-take, IsSome, ◌↔◌, None, arith, false}
use Rattle.std.proofs.lemmas.Bool.{cases_lt, false≢true}
use Rattle.std.proofs.lemmas.List.{take_all, take-append-le}
use Rattle.std.proofs.lemmas.List.Concat.{flat_map-append}
use Rattle.spur_io.specs.Store.{Puts}
use Rattle.spur_io.specs.declared.sink.SinkFault.{SinkFault}
use Rattle.spur_graph.specs.declared.answer.Answer.{Answer}
use Rattle.spur_graph.specs.Bytes.{Text}
use Rattle.spur_graph.specs.State.{State, Files}
use Rattle.spur_graph.specs.Step.{Step, Run}
use Rattle.spur_graph.specs.Lines.{ended_lines_of, open_line_of, has_line_feed}
use Rattle.spur_graph.specs.Text.{answer_line}
use Rattle.replay.specs.Runs.{answers_text}
use Rattle.replay.specs.declared.runs.Stop.{Stop}
use Rattle.replay.specs.declared.runs.Stop.TheVariants as stop
use Rattle.replay.specs.Sessions.{SessionView, StandsFor, Advances, WhereTold}
use Rattle.replay.specs.Answered.{kept_of, AnswersLine, LineAnswered, Answered, AnsweredPart, AnsweredToSave, AnswersBytes}
use Rattle.replay.specs.LineRuns.{LineStopped, LineRun, BehindRun}
use Rattle.replay.proofs.ScriptLines.{ended_more, open_none}

-- one run after another
pub runs_join : (a m b : State) (ls ks : List Text) (xs ys : List Answer) → Run a ls xs m → Run m ks ys b → Run a (ls ++ ks) (xs ++ ys) b
runs_join a m b [] ks [] ys run next = let P : State → Type 0 = λ s. Run s ks ys b in subst P run next
runs_join a m b (l ∷ ls) ks (x ∷ xs) ys (mid, step, run) next = (mid, step, runs_join mid m b ls ks xs ys run next)
runs_join a m b [] ks (x ∷ xs) ys run next = absurd run
runs_join a m b (l ∷ ls) ks [] ys run next = absurd run

-- a line was answered, and the put of its answer accepted or refused
pub line_put : (told told_now : Option Files) (old new : SessionView) (bytes : List ℕ) (answer : Answer) (before after : Option (List ℕ)) (did : Result (Unit {0}) SinkFault) → IsSome told_now ↔ IsSome told → Advances old told bytes answer new told_now
    → Puts (answer_line answer) before after did → WhereTold told told_now (λ store store_now. AnswersBytes old store new store_now bytes before after did)
line_put None None old new bytes answer before after did tells advances put = tt
line_put None (Some store_now) old new bytes answer before after did tells advances put = absurd (false≢true (tells.0 refl))
line_put (Some store) None old new bytes answer before after did tells advances put = absurd (false≢true (tells.1 refl))
line_put (Some store) (Some store_now) old new bytes answer before after did tells advances put = λ s line at stands.
    let next = advances s line at.state at.same_files stands in
    record { now = next.now; at = record { state = next.is; same_files = next.files }; answers = record { answer = answer; step = next.step; put = put } }

-- what is kept of a line stands for it
pub kept_stands : (bytes : List ℕ) (line : Text) → bytes ≡ kept_of line → StandsFor bytes line
kept_stands bytes line is = elim (cases_lt 1024 (length line)) as (λ _. StandsFor bytes line) [
  | inl long ↦ inr (omega (arith, ap length is, length-take 1025 line), long)
  | inr short ↦ inl (is ∙ take_all 1025 line (omega arith))
]

-- what is kept goes on with further bytes
kept_on : (n : ℕ) (kept more line : List ℕ) → kept ≡ take n line → take n (kept ++ more) ≡ take n (line ++ more)
kept_on n kept more line is = elim (cases_lt n (length line)) as (λ _. take n (kept ++ more) ≡ take n (line ++ more)) [
  | inl long ↦
      let all : n ≤ length kept = omega (arith, ap length is, length-take n line) in
      take-append-le n kept more all ∙ take_all n kept (omega (arith, ap length is, length-take n line)) ∙ is ∙ sym (take-append-le n line more (omega arith))
  | inr short ↦ ap (λ l. take n (l ++ more)) (is ∙ take_all n line short)
]

pub kept_more : (kept more : List ℕ) (line : Text) → kept ≡ kept_of line → take 1025 (kept ++ more) ≡ kept_of (line ++ more)
kept_more kept more line is = kept_on 1025 kept more line is

-- nothing is kept of an empty line alone
pub kept_none : (kept : List ℕ) (line : Text) → kept ≡ kept_of line → length kept ≡ 0 → line ≡ []
kept_none kept [] is none = refl
kept_none kept (b ∷ line) is none = absurd (omega (arith, ap length is, length-take 1025 (b ∷ line)))

pub kept_some : (kept : List ℕ) (line : Text) → kept ≡ kept_of line → 0 < length kept → line ≢ []
kept_some kept line is some none = absurd (omega (arith, ap length is, length-take 1025 line, ap length none))

-- the text of an answer more
pub texts_more : (before : List ℕ) (xs : List Answer) (a : Answer) → (before ++ answers_text xs) ++ answer_line a ≡ before ++ answers_text (xs ++ a ∷ [])
texts_more before xs a =
    append_assoc before (answers_text xs) (answer_line a)
    ∙ ap (λ t. before ++ t) (ap (λ t. answers_text xs ++ t) (sym (append-nil (answer_line a))) ∙ sym (flat_map-append answer_line xs (a ∷ [])))

-- an answer more
pub run_more : (first now next : State) (lines : List Text) (line : Text) (xs : List Answer) (a : Answer) → Run first lines xs now → Step now line a next → Run first (lines ++ line ∷ []) (xs ++ a ∷ []) next
run_more first now next lines line xs a run step = runs_join first now next lines (line ∷ []) xs (a ∷ []) run (next, step, refl)

-- the open line is ended and answered
pub one_answered : (first now next : State) (text line : Text) (kept before : List ℕ) (so_far after : Option (List ℕ)) (x : Unit {0}) → has_line_feed line ≡ false → Answered first now text kept before so_far
    → AnswersLine now next (open_line_of text ++ line) so_far after (Ok x) → Answered first next (text ++ (line ++ 10 ∷ [])) [] before after
one_answered first now next text line kept before so_far after x none so this =
    let P : Option (List ℕ) → Type 0 = λ o. Puts (answer_line this.answer) o after (Ok x) in
    let put : after ≡ Some ((before ++ answers_text so.answers) ++ answer_line this.answer) = subst P so.put this.put in
    let R : List Text → Type 0 = λ lines. Run first lines (so.answers ++ this.answer ∷ []) next in
    record {
      keeps = sym (ap kept_of (open_none text line none) ∙ take_all 1025 [] (omega arith));
      answers = so.answers ++ this.answer ∷ [];
      run = subst R (sym (ended_more text line none)) (run_more first now next (ended_lines_of text) (open_line_of text ++ line) so.answers this.answer so.run this.step);
      put = put ∙ ap (λ bytes. Some bytes) (texts_more before so.answers this.answer);
    }

-- a put that is refused
pub one_cut : (first now : State) (session : SessionView) (files : Files) (text line : Text) (lines others : List Text) (kept before : List ℕ) (so_far after : Option (List ℕ)) (e : SinkFault) → lines ≡ ended_lines_of text ++ (line ∷ others)
    → Answered first now text kept before so_far → LineAnswered session files now line so_far after (Err e) → AnsweredPart first session files lines before after
one_cut first now session files text line lines others kept before so_far after e are so this =
    let P : Option (List ℕ) → Type 0 = λ o. Puts (answer_line this.answers.answer) o after (Err e) in
    let put : (k : ℕ) × (after ≡ Some ((before ++ answers_text so.answers) ++ take k (answer_line this.answers.answer))) = subst P so.put this.answers.put in
    record {
      done = ended_lines_of text ++ line ∷ [];
      others = others;
      first_lines = append_assoc (ended_lines_of text) (line ∷ []) others ∙ sym are;
      answers = so.answers ++ this.answers.answer ∷ [];
      last = this.now;
      run = run_more first now this.now (ended_lines_of text) line so.answers this.answers.answer so.run this.answers.step;
      at = this.at;
      put = record {
        whole = so.answers;
        last = this.answers.answer ∷ [];
        are = refl;
        one = omega arith;
        size = put.0;
        put = put.1 ∙ ap (λ bytes. Some bytes) (append_assoc before (answers_text so.answers) (take put.0 (answer_line this.answers.answer))
            ∙ ap (λ t. before ++ (answers_text so.answers ++ take put.0 t)) (sym (append-nil (answer_line this.answers.answer))));
      };
    }

-- a save that met a fault
pub one_stopped : (first now : State) (session : SessionView) (files : Files) (text line : Text) (lines others : List Text) (kept before : List ℕ) (so_far after : Option (List ℕ)) → lines ≡ ended_lines_of text ++ (line ∷ others)
    → Answered first now text kept before so_far → LineStopped session files now line so_far after → AnsweredToSave first session files lines before after
one_stopped first now session files text line lines others kept before so_far after are so this =
    record {
      done = ended_lines_of text;
      line = line;
      others = others;
      first_lines = sym are;
      answers = so.answers;
      last = now;
      run = so.run;
      is = this.is;
      stops = this.stops;
      put = this.put ∙ so.put;
    }

-- the open line with further bytes behind it is a line
module _ (old : SessionView) (store : Files) (new : SessionView) (store_now : Files) (kept line bytes : List ℕ) (before after : Option (List ℕ)) (stands : (text : Text) → kept ≡ kept_of text → StandsFor bytes (text ++ line)) where
  pub behind_run : (did : Result (Unit {0}) Stop) → LineRun old store new store_now bytes before after did → BehindRun old store new store_now kept line before after did
  behind_run (Ok x) ran = λ s text at keeps. ran s (text ++ line) at (stands text keeps)
  behind_run (Err (stop.Put e)) ran = λ s text at keeps. ran s (text ++ line) at (stands text keeps)
  behind_run (Err (stop.Line f)) ran = λ s text at keeps. ran s (text ++ line) at (stands text keeps)
  behind_run (Err (stop.Script f)) ran = ran
  behind_run (Err stop.TooLong) ran = ran
