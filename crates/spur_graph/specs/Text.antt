-- The line that an answer is put as.
use Rattle.std.specs.Prelude.{ℕ, zero, suc, ◌+◌, ◌/◌, ◌%◌, [], ◌∷◌, ◌++◌, codes, true, false, if◌then◌else◌, nat_lt}
use Rattle.spur_graph.specs.Bytes.{Text}
use Rattle.std.specs.Fmt.{decimal, signed_decimal}
use Rattle.spur_graph.specs.declared.answer.Shown.{Shown}
use Rattle.spur_graph.specs.declared.answer.Shown.TheVariants as shows
use Rattle.spur_graph.specs.declared.answer.SegmentCause.{SegmentCause}
use Rattle.spur_graph.specs.declared.answer.SegmentCause.TheVariants as causes
use Rattle.spur_graph.specs.declared.answer.Refusal.{Refusal}
use Rattle.spur_graph.specs.declared.answer.Refusal.TheVariants as refusals
use Rattle.spur_graph.specs.declared.answer.Answer.{Answer}
use Rattle.spur_graph.specs.declared.answer.Answer.TheVariants as answers

-- a digit, `0` to `9` and `a` to `f`
abbrev pub glyph : ℕ → ℕ
glyph d = if nat_lt d 10 then 48 + d else 87 + d

-- the last `k` digits in base 16
unfoldable pub hex_text : ℕ → ℕ → Text
hex_text zero w = []
hex_text (suc k) w = hex_text k (w / 16) ++ glyph (w % 16) ∷ []

-- the text of what is shown, without a line feed
unfoldable pub shown_text : Shown → Text
shown_text (shows.Int n) = codes "int " ++ signed_decimal n
shown_text (shows.Char n) = codes "char " ++ decimal n
shown_text (shows.Float w) = codes "float " ++ hex_text 16 w
shown_text shows.Nil = codes "nil"
shown_text shows.No = codes "false"
shown_text shows.Yes = codes "true"
shown_text (shows.Object class format) = codes "object " ++ decimal class ++ codes " " ++ decimal format

-- the word of a cause
unfoldable pub cause_word : SegmentCause → Text
cause_word causes.Short = codes "short"
cause_word causes.Magic = codes "magic"
cause_word causes.Count = codes "count"
cause_word causes.Tail = codes "tail"
cause_word causes.Head = codes "head"
cause_word causes.Slot = codes "slot"

-- the words of a refusal, behind `! `
unfoldable pub refusal_text : Refusal → Text
refusal_text refusals.Long = codes "long"
refusal_text refusals.Syntax = codes "syntax"
refusal_text refusals.Unsupported = codes "unsupported"
refusal_text refusals.Unknown = codes "unknown"
refusal_text refusals.Handles = codes "handles"
refusal_text refusals.Immediate = codes "immediate"
refusal_text refusals.Special = codes "special"
refusal_text refusals.Pinned = codes "pinned"
refusal_text refusals.ReadOnly = codes "readonly"
refusal_text refusals.Mourning = codes "mourning"
refusal_text refusals.Classed = codes "classed"
refusal_text refusals.Index = codes "index"
refusal_text refusals.Raw = codes "raw"
refusal_text refusals.Range = codes "range"
refusal_text refusals.Size = codes "size"
refusal_text refusals.Class = codes "class"
refusal_text refusals.Hashed = codes "hashed"
refusal_text refusals.Inside = codes "inside"
refusal_text refusals.Outs = codes "outs"
refusal_text refusals.NoMourner = codes "none"
refusal_text refusals.Name = codes "name"
refusal_text refusals.Table = codes "table"
refusal_text (refusals.Full f) = codes "full " ++ decimal f.need ++ codes " " ++ decimal f.largest ++ codes " " ++ decimal f.eden
refusal_text (refusals.Segment cause at) = codes "segment " ++ cause_word cause ++ codes " " ++ decimal at

-- the text of an answer, without a line feed
unfoldable pub answer_text : Answer → Text
answer_text answers.Done = codes "ok"
answer_text (answers.Truth true) = codes "true"
answer_text (answers.Truth false) = codes "false"
answer_text (answers.Number n) = decimal n
answer_text (answers.Shown s) = shown_text s
answer_text (answers.Size pointers units) = decimal pointers ++ codes " " ++ decimal units
answer_text (answers.Counts nilled fired) = codes "nilled " ++ decimal nilled ++ codes " fired " ++ decimal fired
answer_text (answers.Stat s) = codes "stat nodes " ++ decimal s.nodes ++ codes " handles " ++ decimal s.handles ++ codes " mourners " ++ decimal s.mourners
    ++ codes " free " ++ decimal s.free ++ codes " largest " ++ decimal s.largest ++ codes " eden " ++ decimal s.eden ++ codes " past " ++ decimal s.past
answer_text (answers.Refused r) = codes "! " ++ refusal_text r

-- the line of an answer, with its line feed
abbrev pub answer_line : Answer → Text
answer_line answer = answer_text answer ++ 10 ∷ []
