-- A save: what it does to the files, and what a line is that asks for it.
use Rattle.std.proofs.Common.{◌≡◌, ◌≢◌, inl, inr, ℕ, ◌≤◌, length, refl, sym, ap, subst, ◌∙◌, IsSome, true, false, cond, Option, Some, None}
use Rattle.std.specs.Prelude.{◌⊎◌, [], ◌∷◌, bytes_eq, Result, Ok, Err, IfOk, OnErr}
use Rattle.std.proofs.lemmas.Slice.Eq.{bytes_eq-Decides}
use Rattle.spur_io.specs.Store.{Changes}
use Rattle.spur_graph.specs.declared.answer.Answer.{Answer}
use Rattle.spur_graph.specs.declared.answer.Answer.TheVariants as answers
use Rattle.spur_graph.specs.declared.answer.Refusal.{Refusal}
use Rattle.spur_graph.specs.Bytes.{Text}
use Rattle.spur_graph.specs.Form.{Save}
use Rattle.spur_graph.specs.State.{State, Files}
use Rattle.spur_graph.specs.Denotes.{Denotes, bare}
use Rattle.spur_graph.specs.Refusals.{first, is_script}
use Rattle.spur_graph.specs.Refused.{refused}
use Rattle.spur_graph.specs.Saves.{IsFrontOfSaved}
use Rattle.spur_graph.specs.Step.{longest_line, Reads}
use Rattle.spur_graph.specs.Heaps.{View}
use Rattle.image_save.specs.Saved.{saved_text, IsSaved, IsCutShort}
use Rattle.image_save.specs.Denotes.{bare_graph}
use Rattle.replay.specs.declared.halts.Halt.{Halt}
use Rattle.replay.specs.declared.halts.Halt.TheVariants as halt
use Rattle.replay.specs.Sessions.{AreTold, WhereTold, graph_of, over}
use Rattle.replay.specs.Commands.{Replies, HeapStops, SavesAs, CutsAs, answered, refusal_of}
use Rattle.replay.proofs.Told.{told_as}
use Rattle.replay.proofs.Steps.{over_is, on_told, seen_told, same_line, done_answer, refused_answer}

-- the text of a heap denotes its graph
denoted : (v : View) → Denotes (saved_text v) (bare_graph v) → Denotes (saved_text v) (bare (graph_of v))
unfolding graph_of
denoted v denotes = denotes

-- ---- what a save does to the files

-- the files with one more; another stays as it is
abbrev with_file : Files → Text → Text → Files
with_file files name text n = cond (bytes_eq n name) text (files n)

file_there : (files : Files) (name text : Text) → with_file files name text name ≡ text
file_there files name text = rw ((bytes_eq-Decides name name).1 refl) refl

others_there : (files : Files) (name text n : Text) → n ≢ name → with_file files name text n ≡ files n
others_there files name text n differs = elim (bytes_eq n name) as (λ b. bytes_eq n name ≡ b → cond b text (files n) ≡ files n) [
  | true ↦ λ is. absurd (differs ((bytes_eq-Decides n name).0 is))
  | false ↦ λ is. refl
] refl

-- whatever the store tells, the files may be these
pub saved_as : (v : View) (told told_now : Option Files) (name : Text) → Denotes (saved_text v) (bare_graph v) → Changes told told_now name (IsSaved v) → SavesAs v told name answers.Done told_now
saved_as v None None name denotes changes = λ s files.
    let now : Files = with_file s.files name (saved_text v) in (
      record (over v s) { files = now },
      record { done = refl; file = subst (λ t. Denotes t (bare (graph_of v))) (sym (file_there s.files name (saved_text v))) (denoted v denotes); others = λ n differs. others_there s.files name (saved_text v) n differs; rest = refl },
      record { heap = refl; files = tt; same_script = refl },
    )
saved_as v None (Some now) name denotes changes = absurd changes
saved_as v (Some store) None name denotes changes = absurd changes
saved_as v (Some store) (Some now) name denotes changes = λ s files. (
  record (over v s) { files = now },
  record { done = refl; file = subst (λ t. Denotes t (bare (graph_of v))) (sym changes.changed) (denoted v denotes); others = λ n differs. changes.others n differs ∙ sym (ap (λ f. f n) files); rest = refl },
  record { heap = refl; files = refl; same_script = refl },
)

-- a save that is cut short
cut_as : (v : View) (name old now : Text) → Denotes (saved_text v) (bare_graph v) → IsCutShort v old now → (now ≡ old) ⊎ IsFrontOfSaved (graph_of v) now
cut_as v name old now denotes (inl same) = inl same
cut_as v name old now denotes (inr (k, front)) = inr (record { text = saved_text v; denotes = denoted v denotes; size = k; front = front })

pub cuts_as : (v : View) (told told_now : Option Files) (name : Text) → Denotes (saved_text v) (bare_graph v) → Changes told told_now name (IsCutShort v) → WhereTold told told_now (CutsAs v name)
cuts_as v None None name denotes changes = tt
cuts_as v None (Some now) name denotes changes = changes
cuts_as v (Some store) None name denotes changes = changes
cuts_as v (Some store) (Some now) name denotes changes = λ s files. record {
  file = cut_as v name (s.files name) (now name) denotes (subst (λ (f : Files). IsCutShort v (f name) (now name)) (sym files) changes.changed);
  others = λ n differs. changes.others n differs ∙ sym (ap (λ f. f n) files);
}

-- what holds after a fault
pub on_fault : (why : Halt) {P : Type 0} → P → OnErr (answered (Err why)) P
on_fault (halt.Refused r) p = tt
on_fault (halt.Fault f) p = p

-- ---- a line that asks for it

-- in each state in which this script is run
row_is : (v : View) (script name : Text) (s : State) (k : ℕ) (why : Option Refusal) → s.script ≡ script → is_script script name ≡ why → refused (over v s) k (Save name) ≡ first (why ∷ [])
row_is v script name s k why runs is = ap (λ x. first (is_script x name ∷ [])) runs ∙ ap (λ o. first (o ∷ [])) is

module _ (v : View) (script : Text) (told told_now : Option Files) (bytes : Text) (k : ℕ) (name : Text) (short : length bytes ≤ longest_line) (reads : Reads bytes k (Save name)) where
  pub save_replies : (result : Result Answer Halt) → is_script script name ≡ refusal_of result → IfOk result (λ answer. SavesAs v told name answer told_now) → (IsSome (refusal_of result) → told_now ≡ told)
      → IfOk (answered result) (λ answer. Replies v script told bytes answer v told_now)
  save_replies (Ok answer) row does same = λ s line runs seen stands.
      let did = does s (seen_told told line s.files seen) in
      (did.0, did.0, done_answer (over v s) did.0 bytes line k (Save name) answer short stands reads (row_is v script name s k None runs row, inr did.1), inl refl, did.2)
  save_replies (Err (halt.Refused why)) row does same = λ s line runs seen stands. (
    over v s,
    over v s,
    refused_answer (over v s) (over v s) bytes line k (Save name) why short stands reads (row_is v script name s k (Some why) runs row) refl,
    inl refl,
    on_told v told_now s (over v s) (over_is v s) (subst (λ (t : Option Files). AreTold t s.files) (sym (same refl)) (seen_told told line s.files seen)),
  )
  save_replies (Err (halt.Fault f)) row does same = tt

  pub save_stops : (result : Result Answer Halt) → is_script script name ≡ refusal_of result → OnErr (answered result) (WhereTold told told_now (CutsAs v name)) → OnErr (answered result) (WhereTold told told_now (HeapStops v script bytes))
  save_stops (Ok answer) row cut = tt
  save_stops (Err (halt.Refused why)) row cut = tt
  save_stops (Err (halt.Fault f)) row cut = told_as told told_now (CutsAs v name) (HeapStops v script bytes) (λ store store_now told_so cuts s line runs files stands. record {
    k = k;
    name = name;
    short = subst (λ (t : Text). length t ≤ longest_line) (same_line bytes line short stands) short;
    reads = subst (λ (t : Text). Reads t k (Save name)) (same_line bytes line short stands) reads;
    passes = (row_is v script name s k None runs row, λ why later. later);
    cut = cuts s files;
  }) cut
