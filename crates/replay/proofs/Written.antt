-- Which words a line writes, by what is known of the command that it is.
use Rattle.std.proofs.Common.{◌≡◌, ℕ, List, subst}
use Rattle.spur_graph.specs.Form.{Form}
use Rattle.spur_graph.specs.Step.{Reads}
use Rattle.spur_graph.specs.Words.{words_of}
use Rattle.spur_graph.specs.Heaps.{View}
use Rattle.script_text.proofs.Marks.{one_form, one_mutator}
use Rattle.replay.specs.Writes.{Writes, LineWrites}

-- a line is one command
pub line_written : (old new : View) (bytes : List ℕ) (k : ℕ) (form : Form) → Reads bytes k form → Writes old new k form → LineWrites old bytes new
line_written old new bytes k form reads written = λ j other also.
    let same : form ≡ other = one_form (words_of bytes) k j form other reads also in
    subst (λ n. Writes old new n other) (one_mutator (words_of bytes) k j form other reads also) (subst (λ f. Writes old new k f) same written)
