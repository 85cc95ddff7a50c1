-- The script stays as it is while its lines are answered: a save under its name is refused.
use Rattle.std.proofs.Common.{◌≡◌, ◌≢◌, ℕ, List, [], ◌∷◌, inl, inr, refl, sym, ap, subst, ◌∙◌, Bool, true, false, Option, Some, None}
use Rattle.std.specs.Prelude.{bytes_eq}
use Rattle.std.specs.Option.{IfSome, option_map}
use Rattle.std.proofs.lemmas.Slice.Eq.{bytes_eq-Decides}
use Rattle.spur_graph.specs.declared.answer.Answer.{Answer}
use Rattle.spur_graph.specs.declared.answer.Refusal.TheVariants as r
use Rattle.spur_graph.specs.Bytes.{Text}
use Rattle.spur_graph.specs.Form.{Form, New, NewOld, Enter, Become, Pin, Scavenge, Gc, Mourn, SegStore, SegLoad, Save}
use Rattle.spur_graph.specs.State.{State}
use Rattle.spur_graph.specs.Refusals.{first, test}
use Rattle.spur_graph.specs.Does.{Outcome, outcome, Is, Chooses, Does}
use Rattle.spur_graph.specs.Step.{Passes, Answers, long, syntax, refusal, done, Step, Run}

-- the script is the same, and its bytes are
pub record KeepsScript (s t : State) : Type 0 where
  pub script : t.script ≡ s.script
  pub file : t.files s.script ≡ s.files s.script

pub kept_on : {s t u : State} → KeepsScript s t → KeepsScript t u → KeepsScript s u
kept_on {s} {t} {u} one two = record {
  script = two.script ∙ one.script;
  file = ap u.files (sym one.script) ∙ two.file ∙ ap t.files one.script ∙ one.file;
}

kept_itself : (s : State) → KeepsScript s s
kept_itself s = record { script = refl; file = refl }

-- an outcome that touches no file
abbrev Rests : State → Option Outcome → Type 0
Rests s o = IfSome o (λ did. KeepsScript s did.1)

rests_mapped : {X : Type 0} (s : State) (f : X → Outcome) → ((x : X) → KeepsScript s (f x).1) → (o : Option X) → Rests s (option_map f o)
rests_mapped s f so None = tt
rests_mapped s f so (Some x) = so x

-- a command whose outcome is determined touches no file
rests : (s : State) (k : ℕ) (form : Form) → Rests s (outcome s k form)
rests s k (New h c n) = rests_mapped s _ (λ served. record { script = refl; file = refl }) _
rests s k (NewOld h c n) = rests_mapped s _ (λ served. record { script = refl; file = refl }) _
rests s k (Enter c) = rests_mapped s _ (λ room. record { script = refl; file = refl }) _
rests s k (Become a b) = rests_mapped s _ (λ room. record { script = refl; file = refl }) _
rests s k (Pin o) = rests_mapped s _ (λ room. record { script = refl; file = refl }) _
rests s k Scavenge = tt
rests s k Gc = tt
rests s k (Mourn h) = tt
rests s k (SegStore h o c name) = tt
rests s k (SegLoad h o name) = tt
rests s k (Save name) = tt
rests s k form = record { script = refl; file = refl }

determined : (s t : State) (answer : Answer) (o : Option Outcome) → Rests s o → Is o answer t → KeepsScript s t
determined s t answer None rest is = absurd is
determined s t answer (Some did) rest is = subst (λ (u : State). KeepsScript s u) (sym is.1) rest

-- a save that is not refused has another name
other_name : (b : Bool) (script name : Text) → bytes_eq name script ≡ b → first (test b r.Name ∷ []) ≡ None → script ≢ name
other_name true script name is passes same = cc
other_name false script name is passes same =
    let equal : bytes_eq name script ≡ true = (bytes_eq-Decides name script).1 (sym same) in
    cc

chosen : (s t : State) (k : ℕ) (form : Form) (answer : Answer) → Passes s k form → Chooses s k form answer t → KeepsScript s t
chosen s t k (Save name) answer passes saves = record {
  script = ap (λ (u : State). u.script) saves.rest;
  file = saves.others s.script (other_name (bytes_eq name s.script) s.script name refl passes.0);
}
chosen s t k Gc answer passes collects = record { script = ap (λ (u : State). u.script) collects.rest; file = ap (λ (u : State). u.files s.script) collects.rest }
chosen s t k (Mourn h) answer passes mourns = record { script = ap (λ (u : State). u.script) mourns.becomes; file = ap (λ (u : State). u.files s.script) mourns.becomes }
chosen s t k form answer passes chooses = absurd chooses

does_keep : (s t : State) (k : ℕ) (form : Form) (answer : Answer) → Passes s k form → Does s k form answer t → KeepsScript s t
does_keep s t k form answer passes (inl is) = determined s t answer (outcome s k form) (rests s k form) is
does_keep s t k form answer passes (inr chooses) = chosen s t k form answer passes chooses

answers_keep : (s t : State) (line : Text) (answer : Answer) → Answers s line answer t → KeepsScript s t
answers_keep s t line answer (long l) = kept_itself s
answers_keep s t line answer (syntax l none) = kept_itself s
answers_keep s t line answer (refusal k form why l reads refuses leaves) = subst (λ (u : State). KeepsScript s u) (sym leaves) (kept_itself s)
answers_keep s t line answer (done k form l reads passes does) = does_keep s t k form answer passes does

step_keeps : (s t : State) (line : Text) (answer : Answer) → Step s line answer t → KeepsScript s t
step_keeps s t line answer step = kept_on (answers_keep s step.exact line answer step.answers) (record { script = step.names.script; file = ap (λ files. files step.exact.script) step.names.files })

-- so a run keeps it
pub run_keeps : (s t : State) (lines : List Text) (answers : List Answer) → Run s lines answers t → KeepsScript s t
run_keeps s t [] [] run = subst (λ (u : State). KeepsScript s u) (sym run) (kept_itself s)
run_keeps s t (line ∷ lines) (answer ∷ answers) (mid, step, run) = kept_on (step_keeps s mid line answer step) (run_keeps mid t lines answers run)
run_keeps s t [] (answer ∷ answers) run = absurd run
run_keeps s t (line ∷ lines) [] run = absurd run
