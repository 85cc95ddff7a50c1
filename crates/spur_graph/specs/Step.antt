-- A step of the machine, and a run.
use Rattle.std.specs.Prelude.{◌≡◌, ◌≤◌, ◌<◌, ◌⊎◌, ℕ, List, [], ◌∷◌, length, Some, None}
use Rattle.std.specs.FinMap.{get}
use Rattle.std.specs.FinSet.{contains}
use Rattle.spur_graph.specs.declared.answer.Answer.{Answer}
use Rattle.spur_graph.specs.declared.answer.Answer.TheVariants as answers
use Rattle.spur_graph.specs.declared.answer.Refusal.{Refusal}
use Rattle.spur_graph.specs.declared.answer.Refusal.TheVariants as r
use Rattle.spur_graph.specs.Bytes.{Text}
use Rattle.spur_graph.specs.Names.{Iso}
use Rattle.spur_graph.specs.Room.{Room}
use Rattle.spur_graph.specs.Form.{Form}
use Rattle.spur_graph.specs.Words.{words_of}
use Rattle.spur_graph.specs.Rows.{IsLine}
use Rattle.spur_graph.specs.State.{State}
use Rattle.spur_graph.specs.Does.{Does}
use Rattle.spur_graph.specs.Refused.{refused}

-- the greatest length of a line in bytes, without its line feed
abbrev pub longest_line : ℕ
longest_line = 1024

-- the line is this command of this mutator
abbrev pub Reads : Text → ℕ → Form → Type 0
Reads text k form = IsLine (words_of text) k form

-- what refuses a command while it is carried out, where none of its row did; no command that is served has such refusals
abbrev pub RefusesLater : State → ℕ → Form → Refusal → Type 0
RefusesLater s k form why = ⊥

-- this refuses the command: the first of its row, or one that comes later
abbrev pub Refuses : State → ℕ → Form → Refusal → Type 0
Refuses s k form why = (refused s k form ≡ Some why) ⊎ ((refused s k form ≡ None) × RefusesLater s k form why)

-- nothing refuses the command
abbrev pub Passes : State → ℕ → Form → Type 0
Passes s k form = (refused s k form ≡ None) × ((why : Refusal) → RefusesLater s k form why → ⊥)

-- a command that is refused for this reason may leave this state: the one before it
abbrev pub Leaves : State → ℕ → Form → Refusal → State → Type 0
Leaves old k form why new = new ≡ old

-- both rooms are one, under these names
pub record SameRoom (R S : Room) (p : ℕ → ℕ) : Type 0 where
  pub spots : (a : ℕ) → get S.spots (p a) ≡ get R.spots a
  pub old_names : (a : ℕ) → contains S.old_names (p a) ≡ contains R.old_names a
  pub rest : S ≡ record R { spots = S.spots; old_names = S.old_names }

-- the states differ in names alone, and the next name of the second is fresh
pub record Renamed (s t : State) : Type 0 where
  pub p : ℕ → ℕ
  pub back : ℕ → ℕ
  pub graph : Iso s.graph t.graph p back
  pub room : SameRoom s.room t.room p
  pub files : t.files ≡ s.files
  pub script : t.script ≡ s.script
  pub next : (a : ℕ) → t.graph.next ≤ a → get t.graph.nodes a ≡ None

-- the answer to a line and the state after it: too long, no line of the grammar, refused, or done
pub data Answers (old : State) (text : Text) : Answer → State → Type 0 where
  long : longest_line < length text → Answers old text (answers.Refused r.Long) old
  syntax : length text ≤ longest_line → ((k : ℕ) (form : Form) → Reads text k form → ⊥) → Answers old text (answers.Refused r.Syntax) old
  refusal : {new : State} (k : ℕ) (form : Form) (why : Refusal) → length text ≤ longest_line → Reads text k form → Refuses old k form why → Leaves old k form why new → Answers old text (answers.Refused why) new
  done : {new : State} {answer : Answer} (k : ℕ) (form : Form) → length text ≤ longest_line → Reads text k form → Passes old k form → Does old k form answer new → Answers old text answer new

-- a step answers a line, and names are free
pub record Step (old : State) (text : Text) (answer : Answer) (new : State) : Type 0 where
  pub exact : State
  pub answers : Answers old text answer exact
  pub names : Renamed exact new

-- one answer a line, one step after another
abbrev pub Run : State → List Text → List Answer → State → Type 0
Run old [] [] new = new ≡ old
Run old (line ∷ lines) (answer ∷ rest) new = (mid : State) × Step old line answer mid × Run mid lines rest new
Run old [] (answer ∷ rest) new = ⊥
Run old (line ∷ lines) [] new = ⊥
