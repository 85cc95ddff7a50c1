-- What is done over a heap with a line and with a command.
use Rattle.std.specs.Prelude.{◌≡◌, ◌⊎◌, ℕ, true, false, Bool, List, [], ◌∷◌, Option, Some, None, Result, Ok, Err}
use Rattle.spur_graph.specs.declared.answer.Answer.{Answer}
use Rattle.spur_graph.specs.declared.answer.Answer.TheVariants as answers
use Rattle.spur_graph.specs.declared.answer.Refusal.{Refusal}
use Rattle.spur_graph.specs.declared.answer.Refusal.TheVariants as r
use Rattle.spur_graph.specs.Bytes.{Text}
use Rattle.spur_graph.specs.Graph.{Graph}
use Rattle.spur_graph.specs.Form.{Form, New, NewOld, ReadOnly, Writable, Save}
use Rattle.spur_graph.specs.State.{State, Files}
use Rattle.spur_graph.specs.Refusals.{Row, handles}
use Rattle.spur_graph.specs.Refused.{refused}
use Rattle.spur_graph.specs.Saves.{Saves, CutsSave}
use Rattle.spur_graph.specs.Does.{Does}
use Rattle.spur_graph.specs.Step.{Answers, Step, Renamed}
use Rattle.spur_graph.specs.Heaps.{View}
use Rattle.spur_heap.specs.declared.allocation.Space.{Space}
use Rattle.spur_heap.specs.declared.allocation.Space.TheVariants as spaces
use Rattle.immediates.specs.declared.word_kind.Range.{Range}
use Rattle.replay.specs.declared.session.Fault.{Fault}
use Rattle.replay.specs.declared.halts.Halt.{Halt}
use Rattle.replay.specs.declared.halts.Halt.TheVariants as halt
use Rattle.replay.specs.Sessions.{graph_of, room_of, over, AreSeen, AreTold, StandsFor, StopsAtSave}

-- a state over a heap, with the files and the script of another
pub record IsOver (v : View) (s t : State) : Type 0 where
  pub heap : t ≡ over v t
  pub same_files : t.files ≡ s.files
  pub same_script : t.script ≡ s.script

-- the states are one, or differ in names alone
abbrev pub AreAlike : State → State → Type 0
AreAlike s t = (s ≡ t) ⊎ Renamed s t

-- a state over a heap and over what a store tells, with the script of another
pub record IsOn (v : View) (told : Option Files) (s t : State) : Type 0 where
  pub heap : t ≡ over v t
  pub files : AreTold told t.files
  pub same_script : t.script ≡ s.script

-- in each state over a heap and over what a store tells, in which this script is run, a line that the bytes stand for has this answer, and leads to a state
-- over this heap and over what the store then tells, exactly or under other names
abbrev pub Replies : View → Text → Option Files → List ℕ → Answer → View → Option Files → Type 0
Replies old script told bytes answer new told_now =
    (s : State) (line : Text) → s.script ≡ script → AreSeen told line s.files → StandsFor bytes line → (exact t : State) × Answers (over old s) line answer exact × AreAlike exact t × IsOn new told_now s t

-- the same by a step of the machine
abbrev pub Steps : View → Text → Option Files → List ℕ → Answer → View → Option Files → Type 0
Steps old script told bytes answer new told_now =
    (s : State) (line : Text) → s.script ≡ script → AreSeen told line s.files → StandsFor bytes line → (t : State) × Step (over old s) line answer t × IsOn new told_now s t

-- in each state over a heap and over the first of these files, in which this script is run, any line that the bytes stand for is a save that met a fault
abbrev pub HeapStops : View → Text → List ℕ → Files → Files → Type 0
HeapStops v script bytes files files_now = (s : State) (line : Text) → s.script ≡ script → s.files ≡ files → StandsFor bytes line → StopsAtSave (over v s) line files_now

-- the graph and the room are as before
abbrev pub Same : View → View → Type 0
Same old new = (graph_of new ≡ graph_of old) × (room_of new ≡ room_of old)

-- the graph is this one, and the room as before
abbrev pub Becomes : View → View → Graph → Type 0
Becomes old new graph = (graph_of new ≡ graph) × (room_of new ≡ room_of old)

-- handles were rewritten to where they lead, and nothing else changed
pub record Settles (old new : View) : Type 0 where
  pub graph : graph_of new ≡ graph_of old
  pub rest : new ≡ record old { handles = new.handles }

-- the bytes of the image's header, the limits and the phase are as before
pub record Keeps (old new : View) : Type 0 where
  pub carried : new.carried ≡ old.carried
  pub limits : new.limits ≡ old.limits
  pub phase : new.phase ≡ old.phase

-- in each state over the heap this is the first of the command's row that refuses it, if any does
abbrev pub FirstRefusal : View → ℕ → Form → Option Refusal → Type 0
FirstRefusal v k form refusal = (s : State) → refused (over v s) k form ≡ refusal

-- in each state over the heap the command is answered so, and leads to that state over this heap, under the same names
abbrev pub ObeysExactly : View → ℕ → Form → Answer → View → Type 0
ObeysExactly old k form answer new = (s : State) → Does (over old s) k form answer (over new s)

-- in each state over the heap the command is answered so, and leads to a state over this heap, exactly or under other names
abbrev pub Obeys : View → ℕ → Form → Answer → View → Type 0
Obeys old k form answer new = (s : State) → (exact t : State) × Does (over old s) k form answer exact × AreAlike exact t × IsOver new s t

-- a value that has no word is out of range
abbrev pub no_word : Result ℕ Range → Option Refusal
no_word (Ok word) = None
no_word (Err e) = Some r.Range

-- the refusals of binding a handle to a value, in their order
abbrev pub value_row : Graph → ℕ → Text → Result ℕ Range → Row
value_row g k h value = handles g k h ∷ no_word value ∷ []

-- the command that makes an instance, in new space or old, or in old space alone
abbrev pub asked : Space → Text → Text → ℕ → Form
asked spaces.Any h c n = New h c n
asked spaces.Old h c n = NewOld h c n

-- the command that makes an object readonly, or writable
abbrev pub flag_asked : Bool → Text → Form
flag_asked true o = ReadOnly o
flag_asked false o = Writable o

-- the command saves the heap
abbrev pub saves : Form → Bool
saves (Save name) = true
saves form = false

-- ---- what halts a command

-- what a line is answered: a refusal is an answer too, and a fault is none
abbrev pub answered : Result Answer Halt → Result Answer Fault
answered (Ok answer) = Ok answer
answered (Err (halt.Refused why)) = Ok (answers.Refused why)
answered (Err (halt.Fault fault)) = Err fault

-- what refuses a command; a fault refuses none
abbrev pub refusal_of : {T : Type 0} → Result T Halt → Option Refusal
refusal_of (Ok x) = None
refusal_of (Err (halt.Refused why)) = Some why
refusal_of (Err (halt.Fault fault)) = None

-- in each state over the heap and over what a store tells, a save under this name has this answer, and leads to a state over what the store then tells
abbrev pub SavesAs : View → Option Files → Text → Answer → Option Files → Type 0
SavesAs v told name answer told_now = (s : State) → AreTold told s.files → (t : State) × Saves (over v s) name answer t × IsOn v told_now s t

-- in each state over the heap and over the first of these files a save under this name may be cut so that it leaves the second
abbrev pub CutsAs : View → Text → Files → Files → Type 0
CutsAs v name files files_now = (s : State) → s.files ≡ files → CutsSave (over v s) name files_now
