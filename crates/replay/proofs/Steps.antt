-- Steps over a heap, under its own names.
use Rattle.std.proofs.Common.{◌≡◌, inl, inr, ◌≤◌, ◌<◌, ℕ, length, refl, sym, subst, ap, ◌∙◌, None, Some, Option, arith}
use Rattle.std.specs.Prelude.{Result, Ok, Err, IfOk, OnErr}
use Rattle.std.specs.Result.{IsErrAnd}
use Rattle.std.specs.FinMap.{get}
use Rattle.spur_graph.specs.declared.answer.Answer.{Answer}
use Rattle.spur_graph.specs.declared.answer.Answer.TheVariants as answers
use Rattle.spur_graph.specs.declared.answer.Refusal.{Refusal}
use Rattle.spur_graph.specs.declared.answer.Refusal.TheVariants as r
use Rattle.spur_graph.specs.Bytes.{Text}
use Rattle.spur_graph.specs.Graph.{Graph}
use Rattle.spur_graph.specs.Names.{Iso}
use Rattle.spur_graph.specs.Form.{Form}
use Rattle.spur_graph.specs.State.{State, Files}
use Rattle.spur_graph.specs.Refused.{refused}
use Rattle.spur_graph.specs.Does.{Does}
use Rattle.spur_graph.specs.Step.{longest_line, Reads, Renamed, Answers, Step, long, syntax, refusal, done}
use Rattle.spur_graph.specs.Heaps.{View, IsWhole}
use Rattle.replay.specs.declared.session.Fault.{Fault}
use Rattle.replay.specs.declared.halts.Halt.{Halt}
use Rattle.replay.specs.declared.halts.Halt.TheVariants as halt
use Rattle.replay.specs.Sessions.{SessionView, SameRun, AreSeen, AreTold, Advances, FaultCause, graph_of, over, StandsFor}
use Rattle.replay.specs.Commands.{AreAlike, IsOver, IsOn, Replies, Steps, Same, Keeps, FirstRefusal, Obeys, ObeysExactly, answered}
use Rattle.replay.proofs.Graphs.{names_fresh}

-- a state is itself under its own names
pub unrenamed : (s : State) → Iso s.graph s.graph (λ a. a) (λ a. a) → ((a : ℕ) → s.graph.next ≤ a → get s.graph.nodes a ≡ None) → Renamed s s
unrenamed s same fresh = record {
  p = λ a. a;
  back = λ a. a;
  graph = same;
  room = record { spots = λ a. refl; old_names = λ a. refl; rest = refl };
  files = refl;
  script = refl;
  next = fresh;
}

-- states that are one or differ in names alone differ in names at most
renamed : (s t : State) → AreAlike s t → Iso t.graph t.graph (λ a. a) (λ a. a) → ((a : ℕ) → t.graph.next ≤ a → get t.graph.nodes a ≡ None) → Renamed s t
renamed s t (inl one) same fresh = subst (λ (u : State). Renamed u t) (sym one) (unrenamed t same fresh)
renamed s t (inr names) same fresh = names

-- the state over a heap that is made of another
pub over_is : (v : View) (s : State) → IsOver v s (over v s)
over_is v s = record { heap = refl; same_files = refl; same_script = refl }

-- what is done under the same names
pub exactly : (old new : View) (k : ℕ) (form : Form) (result : Result Answer Refusal) → IfOk result (λ answer. ObeysExactly old k form answer new) → IfOk result (λ answer. Obeys old k form answer new)
exactly old new k form (Ok answer) does = λ s. (over new s, over new s, does s, inl refl, over_is new s)
exactly old new k form (Err why) does = tt

-- files that are seen are those that are told
pub seen_told : (told : Option Files) (line : Text) (files : Files) → AreSeen told line files → AreTold told files
seen_told None line files seen = tt
seen_told (Some store) line files seen = seen

-- a state over a heap with the files of another is over what a store tells of these
pub on_told : (v : View) (told : Option Files) (s t : State) → IsOver v s t → AreTold told s.files → IsOn v told s t
on_told v told s t is files = record { heap = is.heap; files = subst (AreTold told) (sym is.same_files) files; same_script = is.same_script }

-- a line that changes nothing
pub stays : (v : View) (script : Text) (told : Option Files) (bytes : Text) (answer : Answer) → ((s : State) (line : Text) → StandsFor bytes line → Answers (over v s) line answer (over v s)) → Replies v script told bytes answer v told
stays v script told bytes answer says = λ s line runs seen stands. (over v s, over v s, says s line stands, inl refl, on_told v told s (over v s) (over_is v s) (seen_told told line s.files seen))

too_long : (bytes line : Text) → longest_line < length bytes → StandsFor bytes line → longest_line < length line
too_long bytes line above stands = elim stands [ inl same ↦ omega (arith, above, ap length same) | inr both ↦ both.1 ]

pub same_line : (bytes line : Text) → length bytes ≤ longest_line → StandsFor bytes line → bytes ≡ line
same_line bytes line short stands = elim stands [ inl same ↦ same | inr both ↦ absurd (omega (arith, short, both.0)) ]

pub long_answer : (s : State) (bytes line : Text) → longest_line < length bytes → StandsFor bytes line → Answers s line (answers.Refused r.Long) s
long_answer s bytes line above stands = long (too_long bytes line above stands)

pub syntax_answer : (s : State) (bytes line : Text) → length bytes ≤ longest_line → StandsFor bytes line → ((k : ℕ) (form : Form) → Reads bytes k form → ⊥) → Answers s line (answers.Refused r.Syntax) s
syntax_answer s bytes line short stands none =
    let P : Text → Type 0 = λ text. Answers s text (answers.Refused r.Syntax) s in
    subst P (same_line bytes line short stands) (syntax short none)

pub refused_answer : (old new : State) (bytes line : Text) (k : ℕ) (form : Form) (why : Refusal) → length bytes ≤ longest_line → StandsFor bytes line → Reads bytes k form → refused old k form ≡ Some why → new ≡ old → Answers old line (answers.Refused why) new
refused_answer old new bytes line k form why short stands reads is same =
    let P : Text → Type 0 = λ text. Answers old text (answers.Refused why) new in
    subst P (same_line bytes line short stands) (refusal k form why short reads (inl is) same)

pub done_answer : (old new : State) (bytes line : Text) (k : ℕ) (form : Form) (answer : Answer) → length bytes ≤ longest_line → StandsFor bytes line → Reads bytes k form → (refused old k form ≡ None) × Does old k form answer new → Answers old line answer new
done_answer old new bytes line k form answer short stands reads does =
    let P : Text → Type 0 = λ text. Answers old text answer new in
    subst P (same_line bytes line short stands) (done k form short reads (does.0, λ why later. later) does.1)

-- the answers over a heap, by what a command is answered
module _ (old new : View) (script : Text) (told : Option Files) (bytes : Text) (k : ℕ) (form : Form) (short : length bytes ≤ longest_line) (reads : Reads bytes k form) where
  pub done_replies : (answer : Answer) → FirstRefusal old k form None → Obeys old k form answer new → Replies old script told bytes answer new told
  done_replies answer passes does = λ s line runs seen stands.
      let did = does s in
      (did.0, did.1, done_answer (over old s) did.0 bytes line k form answer short stands reads (passes s, did.2), did.3, on_told new told s did.1 did.4 (seen_told told line s.files seen))

  pub refused_replies : (why : Refusal) → FirstRefusal old k form (Some why) → Same old new → Replies old script told bytes (answers.Refused why) new told
  refused_replies why refuses same = λ s line runs seen stands.
      let stayed = refused_answer (over old s) (over new s) bytes line k form why short stands reads (refuses s) (λ i. record s { graph = same.0 i; room = same.1 i }) in
      (over new s, over new s, stayed, inl refl, on_told new told s (over new s) (over_is new s) (seen_told told line s.files seen))

-- ---- a refusal is an answer, and no fault

pub err_is : {T E : Type 0} (result : Result T E) (e : E) → IsErrAnd result (λ f. f ≡ e) → result ≡ Err e
err_is (Ok x) e is = absurd is
err_is (Err f) e is = ap Err is

module _ (result : Result Answer Halt) (why : Refusal) (is : result ≡ Err (halt.Refused why)) where
  pub its_answer : (P : Answer → Type 0) → P (answers.Refused why) → IfOk (answered result) P
  its_answer P holds = subst (λ (r : Result Answer Halt). IfOk (answered r) P) (sym is) holds

  pub no_fault : (P : Type 0) → OnErr (answered result) P
  no_fault P = subst (λ (r : Result Answer Halt). OnErr (answered r) P) (sym is) tt

  pub no_cause : (reads writes : ℕ) → FaultCause reads reads writes writes (answered result)
  no_cause reads writes = subst (λ (r : Result Answer Halt). FaultCause reads reads writes writes (answered r)) (sym is) (refl, refl)

-- replies are steps where names are free
pub replies_step : (old new : View) (script : Text) (told told_now : Option Files) (bytes : Text) (result : Result Answer Fault) → ((g : Graph) → Iso g g (λ a. a) (λ a. a)) → IsWhole new
    → IfOk result (λ answer. Replies old script told bytes answer new told_now) → IfOk result (λ answer. Steps old script told bytes answer new told_now)
replies_step old new script told told_now bytes (Ok answer) same_names whole replies = λ s line runs seen stands.
    let did = replies s line runs seen stands in
    let t : State = did.1 in
    let graph : graph_of new ≡ t.graph = sym (ap (λ (u : State). u.graph) did.4.heap) in
    let fresh = subst (λ (g : Graph). (a : ℕ) → g.next ≤ a → get g.nodes a ≡ None) graph (names_fresh new whole) in
    (t, record { exact = did.0; answers = did.2; names = renamed did.0 t did.3 (same_names t.graph) fresh }, did.4)
replies_step old new script told told_now bytes (Err fault) same_names whole replies = tt

-- the step of a line is one from each state in which the session is
pub steps_advance : (old new : SessionView) (told told_now : Option Files) (bytes : Text) (result : Result Answer Fault) → SameRun old new → IfOk result (λ answer. Steps old.heap old.script told bytes answer new.heap told_now)
    → IfOk result (λ answer. Advances old told bytes answer new told_now)
steps_advance old new told told_now bytes (Ok answer) run steps = λ s line is seen stands.
    let did = steps s line is.script seen stands in
    let P : State → Type 0 = λ u. Step u line answer did.0 in
    record {
      now = did.0;
      is = record { heap = did.2.heap; script = did.2.same_script ∙ is.script ∙ sym run.script };
      files = did.2.files;
      step = subst P (sym is.heap) did.1;
    }
steps_advance old new told told_now bytes (Err fault) run steps = tt

-- one run
pub same_run : (session : SessionView) → SameRun session session
same_run session = record { script = refl; carried = refl; limits = refl; phase = refl }

pub runs_on : {old now next : SessionView} → SameRun old now → SameRun now next → SameRun old next
runs_on one two = record { script = two.script ∙ one.script; carried = two.carried ∙ one.carried; limits = two.limits ∙ one.limits; phase = two.phase ∙ one.phase }

-- a step over the heap of a session is one of its run
pub stepped_run : {inner old new : SessionView} → inner ≡ old → Keeps inner.heap new.heap → new.script ≡ inner.script → SameRun old new
stepped_run {new} is keeps script =
    let P : SessionView → Type 0 = λ session. SameRun session new in
    subst P is (record { script = script; carried = keeps.carried; limits = keeps.limits; phase = keeps.phase })
