-- What the readers of lines give.
use Rattle.std.specs.Prelude.{◌≡◌, ◌<◌, ◌≤◌, ℕ, List, [], length, Option, Some, None, Ok, Err, Result}
use Rattle.std.specs.Borrow.{Bor}
use Rattle.spur_graph.specs.Bytes.{Text}
use Rattle.spur_graph.specs.Words.{words_of}
use Rattle.spur_graph.specs.Form.{Form, view}
use Rattle.spur_graph.specs.Rows.{IsLine}
use Rattle.spur_graph.specs.Step.{longest_line}
use Rattle.spur_graph.specs.declared.command.Line.{Line}
use Rattle.script_text.specs.declared.line.Syntax.{Syntax}
use Rattle.script_text.specs.declared.line.Syntax.TheVariants as faults

-- the mutator and the command that the words of a line of at most 1,024 bytes are, or why there are none
abbrev pub ReadsLine : Result Line Syntax → Text → Type 0
ReadsLine (Ok read) line = (length line ≤ longest_line) × IsLine (words_of line) read.mutator (view read.command)
ReadsLine (Err faults.Long) line = longest_line < length line
ReadsLine (Err faults.Bad) line = (length line ≤ longest_line) × ((k : ℕ) (form : Form) → IsLine (words_of line) k form → ⊥)

-- what was read, as its view shows it, is what the grammar gives
abbrev pub Gives : {X Y : Type 0} → (X → Y) → Option X → Option Y → Type 0
Gives shown (Some x) given = given ≡ Some (shown x)
Gives shown None given = given ≡ None

-- the words behind the first one
abbrev pub words_after : Option (Bor Text) → List Text
words_after None = []
words_after (Some rest) = words_of rest.now
