-- Line feeds: none stands in the text of an answer, so each line of answers ends where an answer does.
use Rattle.std.proofs.Common.{◌≡◌, ℕ, zero, suc, ◌/◌, ◌%◌, ◌<◌, List, [], ◌∷◌, ◌++◌, true, false, cond, refl, ap, ◌∙◌, arith, append_assoc}
use Rattle.std.specs.Prelude.{◌==◌, ◌||◌, ℤ, pos, negsuc, codes, map}
use Rattle.std.specs.List.{flat_map}
use Rattle.std.specs.Fmt.{decimal, signed_decimal, digits, digits_onto, digit_glyph}
use Rattle.std.proofs.lemmas.List.Folds.{list_any-append}
use Rattle.spur_graph.specs.Bytes.{Text}
use Rattle.spur_graph.specs.declared.answer.Shown.{Shown}
use Rattle.spur_graph.specs.declared.answer.Shown.TheVariants as shows
use Rattle.spur_graph.specs.declared.answer.SegmentCause.{SegmentCause}
use Rattle.spur_graph.specs.declared.answer.SegmentCause.TheVariants as causes
use Rattle.spur_graph.specs.declared.answer.Refusal.{Refusal}
use Rattle.spur_graph.specs.declared.answer.Refusal.TheVariants as refusals
use Rattle.spur_graph.specs.declared.answer.Answer.{Answer}
use Rattle.spur_graph.specs.declared.answer.Answer.TheVariants as answers
use Rattle.spur_graph.specs.Words.{onto_first}
use Rattle.spur_graph.specs.Lines.{has_line_feed, lines_of}
use Rattle.spur_graph.specs.Text.{glyph, hex_text, shown_text, cause_word, refusal_text, answer_text, answer_line}

-- the text has no line feed
record IsClear (bytes : Text) : Type 0 where
  clear : has_line_feed bytes ≡ false

clear_append : (xs ys : Text) → IsClear xs → IsClear ys → IsClear (xs ++ ys)
clear_append xs ys front back = record { clear = list_any-append (λ b. b == 10) xs ys ∙ rw (front.clear, back.clear) refl }

clear_cons : (b : ℕ) (bs : Text) → 10 < b → IsClear bs → IsClear (b ∷ bs)
clear_cons b bs past rest = let other : (b == 10) ≡ false = grind arith in record { clear = rw (other, rest.clear) refl }

digit_past : (d : ℕ) → 10 < digit_glyph false d
digit_past d = grind arith

clear_onto : (k n : ℕ) (rest : Text) → IsClear rest → IsClear (digits_onto k 10 false n rest)
clear_onto zero n rest is = is
clear_onto (suc k) n rest is =
    let more : Text = digit_glyph false (n % 10) ∷ rest in
    let clear : IsClear more = clear_cons (digit_glyph false (n % 10)) rest (digit_past (n % 10)) is in
    elim (n / 10 == 0) as (λ v. IsClear (cond v more (digits_onto k 10 false (n / 10) more))) [
      | true ↦ clear
      | false ↦ clear_onto k (n / 10) more clear
    ]

clear_decimal : (n : ℕ) → IsClear (decimal n)
unfolding digits
clear_decimal n = clear_onto 64 n [] (record { clear = refl })

clear_signed : (z : ℤ) → IsClear (signed_decimal z)
clear_signed (pos n) = clear_decimal n
clear_signed (negsuc n) = clear_cons 45 (decimal (suc n)) (omega arith) (clear_decimal (suc n))

clear_hex : (k w : ℕ) → IsClear (hex_text k w)
unfolding hex_text
clear_hex zero w = record { clear = refl }
clear_hex (suc k) w =
    let past : 10 < glyph (w % 16) = grind arith in
    clear_append (hex_text k (w / 16)) (glyph (w % 16) ∷ []) (clear_hex k (w / 16)) (clear_cons (glyph (w % 16)) [] past (record { clear = refl }))

-- a number behind a label
clear_number : (label : Text) (n : ℕ) → has_line_feed label ≡ false → IsClear (label ++ decimal n)
clear_number label n is = clear_append label (decimal n) (record { clear = is }) (clear_decimal n)

-- a label and a number behind a text
clear_labelled : {front : Text} (label : Text) (n : ℕ) → has_line_feed label ≡ false → IsClear front → IsClear (front ++ label ++ decimal n)
clear_labelled {front} label n is before = clear_append (front ++ label) (decimal n) (clear_append front label before (record { clear = is })) (clear_decimal n)

clear_shown : (shown : Shown) → IsClear (shown_text shown)
unfolding shown_text
clear_shown (shows.Int n) = clear_append (codes "int ") (signed_decimal n) (record { clear = refl }) (clear_signed n)
clear_shown (shows.Char n) = clear_number (codes "char ") n refl
clear_shown (shows.Float w) = clear_append (codes "float ") (hex_text 16 w) (record { clear = refl }) (clear_hex 16 w)
clear_shown shows.Nil = record { clear = refl }
clear_shown shows.No = record { clear = refl }
clear_shown shows.Yes = record { clear = refl }
clear_shown (shows.Object class format) = clear_labelled (codes " ") format refl (clear_number (codes "object ") class refl)

clear_cause : (cause : SegmentCause) → IsClear (cause_word cause)
unfolding cause_word
clear_cause causes.Short = record { clear = refl }
clear_cause causes.Magic = record { clear = refl }
clear_cause causes.Count = record { clear = refl }
clear_cause causes.Tail = record { clear = refl }
clear_cause causes.Head = record { clear = refl }
clear_cause causes.Slot = record { clear = refl }

clear_refusal : (refusal : Refusal) → IsClear (refusal_text refusal)
unfolding refusal_text
clear_refusal refusals.Long = record { clear = refl }
clear_refusal refusals.Syntax = record { clear = refl }
clear_refusal refusals.Unsupported = record { clear = refl }
clear_refusal refusals.Unknown = record { clear = refl }
clear_refusal refusals.Handles = record { clear = refl }
clear_refusal refusals.Immediate = record { clear = refl }
clear_refusal refusals.Special = record { clear = refl }
clear_refusal refusals.Pinned = record { clear = refl }
clear_refusal refusals.ReadOnly = record { clear = refl }
clear_refusal refusals.Mourning = record { clear = refl }
clear_refusal refusals.Classed = record { clear = refl }
clear_refusal refusals.Index = record { clear = refl }
clear_refusal refusals.Raw = record { clear = refl }
clear_refusal refusals.Range = record { clear = refl }
clear_refusal refusals.Size = record { clear = refl }
clear_refusal refusals.Class = record { clear = refl }
clear_refusal refusals.Hashed = record { clear = refl }
clear_refusal refusals.Inside = record { clear = refl }
clear_refusal refusals.Outs = record { clear = refl }
clear_refusal refusals.NoMourner = record { clear = refl }
clear_refusal refusals.Name = record { clear = refl }
clear_refusal refusals.Table = record { clear = refl }
clear_refusal (refusals.Full f) = clear_labelled (codes " ") f.eden refl (clear_labelled (codes " ") f.largest refl (clear_number (codes "full ") f.need refl))
clear_refusal (refusals.Segment cause at) = clear_labelled (codes " ") at refl (clear_append (codes "segment ") (cause_word cause) (record { clear = refl }) (clear_cause cause))

clear_answer : (answer : Answer) → IsClear (answer_text answer)
unfolding answer_text
clear_answer answers.Done = record { clear = refl }
clear_answer (answers.Truth true) = record { clear = refl }
clear_answer (answers.Truth false) = record { clear = refl }
clear_answer (answers.Number n) = clear_decimal n
clear_answer (answers.Shown s) = clear_shown s
clear_answer (answers.Size pointers units) = clear_labelled (codes " ") units refl (clear_decimal pointers)
clear_answer (answers.Counts nilled fired) = clear_labelled (codes " fired ") fired refl (clear_number (codes "nilled ") nilled refl)
clear_answer (answers.Stat s) =
    clear_labelled (codes " past ") s.past refl (
    clear_labelled (codes " eden ") s.eden refl (
    clear_labelled (codes " largest ") s.largest refl (
    clear_labelled (codes " free ") s.free refl (
    clear_labelled (codes " mourners ") s.mourners refl (
    clear_labelled (codes " handles ") s.handles refl (
    clear_number (codes "stat nodes ") s.nodes refl))))))
clear_answer (answers.Refused r) = clear_append (codes "! ") (refusal_text r) (record { clear = refl }) (clear_refusal r)

pub no_feed : (answer : Answer) → has_line_feed (answer_text answer) ≡ false
no_feed answer = (clear_answer answer).clear

-- a line is what stands before the first line feed
line_first : (xs ys : Text) → has_line_feed xs ≡ false → lines_of (xs ++ 10 ∷ ys) ≡ xs ∷ lines_of ys
unfolding lines_of
line_first [] ys is = refl
line_first (x ∷ xs) ys is = elim (x == 10) as (λ v. (v || has_line_feed xs) ≡ false → cond v ([] ∷ lines_of (xs ++ 10 ∷ ys)) (onto_first x (lines_of (xs ++ 10 ∷ ys))) ≡ (x ∷ xs) ∷ lines_of ys) [
  | true ↦ λ is. cc
  | false ↦ λ is. ap (onto_first x) (line_first xs ys is)
] is

pub lines_apart : (answers : List Answer) → lines_of (flat_map answer_line answers) ≡ map answer_text answers
unfolding lines_of
lines_apart [] = refl
lines_apart (answer ∷ rest) =
    ap lines_of (append_assoc (answer_text answer) (10 ∷ []) (flat_map answer_line rest))
    ∙ line_first (answer_text answer) (flat_map answer_line rest) (no_feed answer)
    ∙ ap (λ lines. answer_text answer ∷ lines) (lines_apart rest)
