-- The grammar of lines as a function: the command that the words are, if they are one. It goes by the number of words, as the reader does.
use Rattle.std.specs.Prelude.{ℕ, List, [], ◌∷◌, slice_index, if◌then◌else◌, ◌==◌, true, false, Option, Some, None, codes}
use Rattle.std.specs.Str.{bytes_eq}
use Rattle.spur_graph.specs.Bytes.{Text}
use Rattle.spur_graph.specs.Words.{name_in, file_in, number_in, hex_in, signed_in, mutator_in, ◌>>=◌}
use Rattle.spur_graph.specs.Form.{Form, Special, Nil, Yes, No, Int, Char, Float, Copy, Drop, Kind, Class, Size, Hash, Fetch, Store, Unit, SetUnit, Same, New, NewOld, Enter, Become, Forward, Pin, Unpin, ReadOnly, Writable, Scavenge, Gc, Mourn, SegStore, SegLoad, Save, Stat}

-- a command that stands alone
unfoldable pub of_no_argument : Text → Option Form
of_no_argument keyword =
    if bytes_eq keyword (codes "scavenge") then Some Scavenge else (
    if bytes_eq keyword (codes "gc") then Some Gc else (
    if bytes_eq keyword (codes "stat") then Some Stat else None))

-- a command of one handle
unfoldable pub of_handle : Text → Text → Option Form
of_handle keyword h =
    if bytes_eq keyword (codes "special") then Some (Special h) else (
    if bytes_eq keyword (codes "nil") then Some (Nil h) else (
    if bytes_eq keyword (codes "true") then Some (Yes h) else (
    if bytes_eq keyword (codes "false") then Some (No h) else (
    if bytes_eq keyword (codes "drop") then Some (Drop h) else (
    if bytes_eq keyword (codes "kind") then Some (Kind h) else (
    if bytes_eq keyword (codes "size") then Some (Size h) else (
    if bytes_eq keyword (codes "hash") then Some (Hash h) else (
    if bytes_eq keyword (codes "enter") then Some (Enter h) else (
    if bytes_eq keyword (codes "pin") then Some (Pin h) else (
    if bytes_eq keyword (codes "unpin") then Some (Unpin h) else (
    if bytes_eq keyword (codes "readonly") then Some (ReadOnly h) else (
    if bytes_eq keyword (codes "writable") then Some (Writable h) else (
    if bytes_eq keyword (codes "mourn") then Some (Mourn h) else None)))))))))))))

-- a command of one word
unfoldable pub of_one_argument : Text → Text → Option Form
of_one_argument keyword a =
    if bytes_eq keyword (codes "save") then (file_in a >>= λ name. Some (Save name)) else (
    name_in a >>= λ h. of_handle keyword h)

-- a command of two handles
unfoldable pub of_two_handles : Text → Text → Text → Option Form
of_two_handles keyword a b =
    if bytes_eq keyword (codes "copy") then Some (Copy a b) else (
    if bytes_eq keyword (codes "class") then Some (Class a b) else (
    if bytes_eq keyword (codes "same") then Some (Same a b) else (
    if bytes_eq keyword (codes "become") then Some (Become a b) else (
    if bytes_eq keyword (codes "forward") then Some (Forward a b false) else None))))

-- a command of two words
unfoldable pub of_two_arguments : Text → Text → Text → Option Form
of_two_arguments keyword a b = name_in a >>= λ h.
    if bytes_eq keyword (codes "int") then (signed_in b >>= λ n. Some (Int h n)) else (
    if bytes_eq keyword (codes "char") then (number_in b >>= λ n. Some (Char h n)) else (
    if bytes_eq keyword (codes "float") then (hex_in b >>= λ word. Some (Float h word)) else (
    if bytes_eq keyword (codes "unit") then (number_in b >>= λ i. Some (Unit h i)) else (
    name_in b >>= λ o. of_two_handles keyword h o))))

-- a command of two handles and a number
unfoldable pub of_two_handles_and_number : Text → Text → Text → ℕ → Option Form
of_two_handles_and_number keyword h o n =
    if bytes_eq keyword (codes "fetch") then Some (Fetch h o n) else (
    if bytes_eq keyword (codes "new") then Some (New h o n) else (
    if bytes_eq keyword (codes "newold") then Some (NewOld h o n) else None))

-- a command of two handles and a third word
unfoldable pub of_two_handles_and_word : Text → Text → Text → Text → Option Form
of_two_handles_and_word keyword h o c =
    if bytes_eq keyword (codes "segload") then (file_in c >>= λ name. Some (SegLoad h o name)) else (
    if bytes_eq keyword (codes "forward") then (if bytes_eq c (codes "hash") then Some (Forward h o true) else None) else (
    number_in c >>= λ n. of_two_handles_and_number keyword h o n))

-- a command of three words
unfoldable pub of_three_arguments : Text → Text → Text → Text → Option Form
of_three_arguments keyword a b c = name_in a >>= λ h.
    if bytes_eq keyword (codes "store") then (number_in b >>= λ i. name_in c >>= λ v. Some (Store h i v)) else (
    if bytes_eq keyword (codes "setunit") then (number_in b >>= λ i. number_in c >>= λ n. Some (SetUnit h i n)) else (
    name_in b >>= λ o. of_two_handles_and_word keyword h o c))

-- a command of four words
unfoldable pub of_four_arguments : Text → Text → Text → Text → Text → Option Form
of_four_arguments keyword a b c d =
    if bytes_eq keyword (codes "segstore") then (
    name_in a >>= λ h. name_in b >>= λ o. name_in c >>= λ k. file_in d >>= λ name. Some (SegStore h o k name)) else None

-- the command that the words are
abbrev pub command_of : List Text → Option Form
command_of [] = None
command_of (keyword ∷ []) = of_no_argument keyword
command_of (keyword ∷ a ∷ []) = of_one_argument keyword a
command_of (keyword ∷ a ∷ b ∷ []) = of_two_arguments keyword a b
command_of (keyword ∷ a ∷ b ∷ c ∷ []) = of_three_arguments keyword a b c
command_of (keyword ∷ a ∷ b ∷ c ∷ d ∷ []) = of_four_arguments keyword a b c d
command_of (keyword ∷ a ∷ b ∷ c ∷ d ∷ e ∷ words) = None

-- a mutator's command
abbrev pub of_mutator : ℕ → List Text → Option (ℕ × Form)
of_mutator k words = command_of words >>= λ form. Some (k, form)

-- the command that the words are, with its mutator: that of a mark `@`, else mutator 0
abbrev pub line_of : List Text → Option (ℕ × Form)
line_of [] = None
line_of (word ∷ words) = if slice_index word 0 == 64
    then (mutator_in word >>= λ k. of_mutator k words)
    else of_mutator 0 (word ∷ words)
