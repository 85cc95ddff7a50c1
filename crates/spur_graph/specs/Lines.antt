-- The lines of a script.
use Rattle.std.specs.Prelude.{ℕ, List, [], ◌∷◌, Bool, if◌then◌else◌, ◌==◌}
use Rattle.std.specs.List.{list_any}
use Rattle.spur_graph.specs.Bytes.{Text}
use Rattle.spur_graph.specs.Words.{onto_first}

-- each line is ended by a line feed but for the last, which may lack it
unfoldable pub lines_of : Text → List Text
lines_of [] = []
lines_of (b ∷ bytes) = if b == 10 then [] ∷ lines_of bytes else onto_first b (lines_of bytes)

-- a byte before the first line that is ended, if there is one
abbrev pub onto_ended : ℕ → List Text → List Text
onto_ended b [] = []
onto_ended b (line ∷ lines) = (b ∷ line) ∷ lines

-- the lines that are ended by a line feed
unfoldable pub ended_lines_of : Text → List Text
ended_lines_of [] = []
ended_lines_of (b ∷ bytes) = if b == 10 then [] ∷ ended_lines_of bytes else onto_ended b (ended_lines_of bytes)

-- a line feed stands in the text
abbrev pub has_line_feed : Text → Bool
has_line_feed bytes = list_any (λ b. b == 10) bytes

-- the bytes behind the last line feed, all of them where there is none
unfoldable pub open_line_of : Text → Text
open_line_of [] = []
open_line_of (b ∷ bytes) = if has_line_feed (b ∷ bytes) then open_line_of bytes else b ∷ bytes
