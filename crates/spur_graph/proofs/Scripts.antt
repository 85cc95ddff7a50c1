-- Lines, commands, refusals and answers, as their definitions compute.
use Rattle.std.proofs.Common.{◌≡◌, [], ◌∷◌, refl, Some, None}
use Rattle.std.specs.Prelude.{codes, pos, negsuc}
use Rattle.std.specs.Fmt.{digits}
use Rattle.std.specs.FinMap.{get}
use Rattle.spur_graph.specs.declared.answer.Value.TheVariants.{Int, Ref}
use Rattle.spur_graph.specs.declared.answer.Shown.TheVariants as shows
use Rattle.spur_graph.specs.declared.answer.Answer.TheVariants as answers
use Rattle.spur_graph.specs.declared.answer.Refusal.TheVariants as r
use Rattle.spur_graph.specs.Node.{Node}
use Rattle.spur_graph.specs.Graph.{held, blank}
use Rattle.spur_graph.specs.Words.{words_of, name_in, number_in}
use Rattle.spur_graph.specs.Form.{Special, Fetch, Kind, Scavenge}
use Rattle.spur_graph.specs.Rows.{IsCommand, row_special, row_fetch, row_kind}
use Rattle.spur_graph.specs.Lines.{lines_of, ended_lines_of, open_line_of}
use Rattle.spur_graph.specs.Text.{answer_line, answer_text, shown_text, refusal_text}
use Rattle.spur_graph.specs.State.{State}
use Rattle.spur_graph.specs.Refused.{refused}
use Rattle.spur_graph.specs.Does.{outcome, ok}
use Rattle.spur_graph.specs.State.{bound}

-- a script whose last line lacks its line feed
three_lines : lines_of (codes "special s\nfetch c s 3\nkind c") ≡ codes "special s" ∷ codes "fetch c s 3" ∷ codes "kind c" ∷ []
unfolding lines_of
three_lines = refl

two_ended : ended_lines_of (codes "special s\nfetch c s 3\nkind c") ≡ codes "special s" ∷ codes "fetch c s 3" ∷ []
unfolding ended_lines_of
two_ended = refl

one_open : open_line_of (codes "special s\nfetch c s 3\nkind c") ≡ codes "kind c"
unfolding open_line_of
one_open = refl

empty_line : lines_of (codes "\n") ≡ [] ∷ []
unfolding lines_of
empty_line = refl

special_line : IsCommand (words_of (codes "special s")) (Special (codes "s"))
unfolding words_of name_in
special_line = row_special {h_text = codes "s"} refl

fetch_line : IsCommand (words_of (codes "fetch c s 3")) (Fetch (codes "c") (codes "s") 3)
unfolding words_of name_in number_in
fetch_line = row_fetch {h_text = codes "c"} {o_text = codes "s"} {i_text = codes "3"} refl refl refl

kind_line : IsCommand (words_of (codes "kind c")) (Kind (codes "c"))
unfolding words_of name_in
kind_line = row_kind {o_text = codes "c"} refl

-- an array of two slots, held as `o`
abbrev pair : Node
pair = record blank { class = 51; format = 2; pointers = Int (pos 7) ∷ Ref 8 ∷ [] }

fetched : (s : State) → held s.graph 0 (codes "o") ≡ Some (Ref 80) → get s.graph.nodes 80 ≡ Some pair
    → outcome s 0 (Fetch (codes "o") (codes "o") 0) ≡ Some (ok (bound s 0 (codes "o") (Int (pos 7))))
fetched s is there = rw (is) (rw (there) refl)

passes : (s : State) → held s.graph 0 (codes "o") ≡ Some (Ref 80) → get s.graph.nodes 80 ≡ Some pair → refused s 0 (Fetch (codes "o") (codes "o") 1) ≡ None
passes s is there = rw (is) (rw (there) refl)

past_the_end : (s : State) → held s.graph 0 (codes "o") ≡ Some (Ref 80) → get s.graph.nodes 80 ≡ Some pair → refused s 0 (Fetch (codes "o") (codes "o") 2) ≡ Some r.Index
past_the_end s is there = rw (is) (rw (there) refl)

of_raw : (s : State) → held s.graph 0 (codes "o") ≡ Some (Ref 80) → get s.graph.nodes 80 ≡ Some (record pair { format = 9 }) → refused s 0 (Fetch (codes "o") (codes "o") 2) ≡ Some r.Raw
of_raw s is there = rw (is) (rw (there) refl)

of_number : (s : State) → held s.graph 0 (codes "o") ≡ Some (Int (pos 7)) → refused s 0 (Fetch (codes "o") (codes "o") 0) ≡ Some r.Immediate
of_number s is = rw (is) refl

not_held : (s : State) → held s.graph 0 (codes "q") ≡ None → refused s 0 (Kind (codes "q")) ≡ Some r.Unknown
not_held s is = rw (is) refl

not_served : (s : State) → refused s 0 Scavenge ≡ Some r.Unsupported
not_served s = refl

object_line : answer_line (answers.Shown (shows.Object 32 1)) ≡ codes "object 32 1\n"
unfolding answer_text shown_text digits
object_line = refl

least_line : answer_line (answers.Shown (shows.Int (negsuc 1152921504606846975))) ≡ codes "int -1152921504606846976\n"
unfolding answer_text shown_text digits
least_line = refl

refused_line : answer_line (answers.Refused r.Unsupported) ≡ codes "! unsupported\n"
unfolding answer_text refusal_text
refused_line = refl
