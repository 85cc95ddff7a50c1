-- The kinds of words, and the value that a word of each kind has.
use Rattle.std.specs.Prelude.{◌%◌, ◌/◌, ◌^◌, ◌==◌, ℕ, if◌then◌else◌, nat_lt, Option, Some, None}
use Rattle.spur_graph.specs.declared.answer.Value.{Value}
use Rattle.spur_graph.specs.declared.answer.Value.TheVariants as value
use Rattle.spur_graph.specs.Value.{int_of}
use Rattle.immediates.specs.declared.word_kind.Kind.{Kind}
use Rattle.immediates.specs.declared.word_kind.Kind.TheVariants.{Reference, Int, Char, Float, Bad}

-- the kind of a word by its low three bits: 000 is a reference, 001 a SmallInteger, 010 a Character where its code is below 2^30,
-- 100 a SmallFloat; every other word is bad
abbrev pub kind_of : ℕ → Kind
kind_of word =
    if word % 8 == 0 then Reference
    else if word % 8 == 1 then Int
    else if word % 8 == 2 then (if nat_lt (word / 8) (2 ^ 30) then Char else Bad)
    else if word % 8 == 4 then Float
    else Bad

-- the value that a word of a kind has, where `named` gives the values of references
abbrev pub value_by : Kind → (ℕ → Value) → ℕ → Option Value
value_by Reference named word = Some (named word)
value_by Int named word = Some (value.Int (int_of word))
value_by Char named word = Some (value.Char (word / 8))
value_by Float named word = Some (value.Float word)
value_by Bad named word = None
