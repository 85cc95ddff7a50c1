-- The conditions of refusals.
use Rattle.std.specs.Prelude.{ℕ, ◌*◌, ◌/◌, ◌%◌, ◌^◌, ℤ, pos, negsuc, List, [], ◌∷◌, length, Bool, not, if◌then◌else◌, ◌==◌, ◌&&◌, ◌||◌, nat_eq, nat_le, nat_lt, Option, Some, None}
use Rattle.std.specs.Option.{is_none}
use Rattle.std.specs.Prelude.{bytes_eq}
use Rattle.std.specs.List.{list_any}
use Rattle.std.specs.FinMap.{entries, len}
use Rattle.std.specs.FinSet.{contains}
use Rattle.object_header.specs.Formats.{unit_bytes_of, is_method}
use Rattle.spur_graph.specs.declared.answer.Refusal.{Refusal}
use Rattle.spur_graph.specs.declared.answer.Refusal.TheVariants as r
use Rattle.spur_graph.specs.declared.answer.Value.TheVariants.{Ref}
use Rattle.spur_graph.specs.Value.{is_immediate, same_value}
use Rattle.spur_graph.specs.Node.{Node, is_raw}
use Rattle.spur_graph.specs.Graph.{Graph, held, waiting}
use Rattle.spur_graph.specs.Bytes.{Text}
use Rattle.spur_graph.specs.State.{value_at, name_at, node_of_handle}
use Rattle.spur_graph.specs.Room.{Room, page_words, is_old, spot_at}
use Rattle.spur_graph.specs.Serve.{Source, Anywhere, OldAlone, serve, full_of}
use Rattle.spur_graph.specs.Become.{needs_no_words, exchange_words}
use Rattle.spur_graph.specs.Instances.{has_instances, layout_in, is_size}
use Rattle.spur_graph.specs.Hashes.{free_index}
use Rattle.spur_graph.specs.Ordinary.{page_entries, class_limit}

-- a refusal where its condition holds
abbrev pub test : Bool → Refusal → Option Refusal
test b refusal = if b then Some refusal else None

-- the refusals of a command, in the order in which they are tried
abbrev pub Row : Type 0
Row = List (Option Refusal)

-- the first refusal of a row
abbrev pub first : Row → Option Refusal
first [] = None
first (None ∷ row) = first row
first (Some refusal ∷ row) = Some refusal

-- a handle that the command reads is not held
abbrev pub unknown : Graph → ℕ → List Text → Option Refusal
unknown g k names = test (list_any (λ h. is_none (held g k h)) names) r.Unknown

-- nothing mourns
abbrev pub no_mourner : Graph → Option Refusal
no_mourner g = test (length g.mourners == 0) r.NoMourner

-- how many handles all mutators hold together at most
abbrev pub most_handles : ℕ
most_handles = 65536

-- the handle to bind is not held, and no more can be
abbrev pub handles : Graph → ℕ → Text → Option Refusal
handles g k h = test (is_none (held g k h) && nat_le most_handles (len g.handles)) r.Handles

-- the command works on an object, and this is none
abbrev pub immediate : Graph → ℕ → List Text → Option Refusal
immediate g k names = test (list_any (λ h. is_immediate (value_at g k h)) names) r.Immediate

-- the format, 9 to 23, has units and no pointer slots
abbrev pub raw_read : Node → Option Refusal
raw_read n = test (is_raw n.format) r.Raw

-- the slot can't be written: the format has units and no pointer slots, or it is slot 0 of a method, which counts the literals
abbrev pub raw_write : Node → ℕ → Option Refusal
raw_write n i = test (is_raw n.format || (is_method n.format && (i == 0))) r.Raw

-- the format, below 9, has no units
abbrev pub raw_unit : Node → Option Refusal
raw_unit n = test (nat_lt n.format 9) r.Raw

-- past the last slot or unit
abbrev pub index_in : {X : Type 0} → List X → ℕ → Option Refusal
index_in xs i = test (nat_le (length xs) i) r.Index

-- an object that the command changes is readonly
abbrev pub readonly : Graph → ℕ → List Text → Option Refusal
readonly g k names = test (list_any (λ h. (node_of_handle g k h).readonly) names) r.ReadOnly

-- past the greatest value of a unit
abbrev pub unit_range : Node → ℕ → Option Refusal
unit_range n u = test (nat_le (2 ^ (8 * unit_bytes_of n.format)) u) r.Range

-- below -2^60 or past 2^60 - 1
abbrev pub is_great : ℤ → Bool
is_great (pos n) = nat_le (2 ^ 60) n
is_great (negsuc n) = nat_le (2 ^ 60) n

-- no SmallInteger has the number
abbrev pub int_range : ℤ → Option Refusal
int_range n = test (is_great n) r.Range

-- no Character has the code
abbrev pub char_range : ℕ → Option Refusal
char_range n = test (nat_le (2 ^ 30) n) r.Range

-- the word is not that of a SmallFloat
abbrev pub float_range : ℕ → Option Refusal
float_range word = test (not (word % 8 == 4)) r.Range

-- the object is nil, false or true
abbrev pub is_special : Graph → ℕ → Bool
is_special g a = nat_eq a g.nil || nat_eq a g.no || nat_eq a g.yes

-- an object that the command may not change so is nil, false or true
abbrev pub special : Graph → ℕ → List Text → Option Refusal
special g k names = test (list_any (λ h. is_special g (name_at g k h)) names) r.Special

-- an object that the command may not change so is pinned
abbrev pub pinned : Graph → ℕ → List Text → Option Refusal
pinned g k names = test (list_any (λ h. (node_of_handle g k h).pinned) names) r.Pinned

-- the object waits among the mourners
abbrev pub waits : Graph → ℕ → Bool
waits g a = list_any (nat_eq a) (waiting g)

abbrev pub mourning : Graph → ℕ → List Text → Option Refusal
mourning g k names = test (list_any (λ h. waits g (name_at g k h)) names) r.Mourning

-- the object stands in the class table: an entry names it
unfoldable pub is_classed : Graph → ℕ → Bool
is_classed g a = list_any (λ e. same_value e.1 (Ref a)) (entries g.classes)

abbrev pub classed : Graph → ℕ → List Text → Option Refusal
classed g k names = test (list_any (λ h. is_classed g (name_at g k h)) names) r.Classed

-- no entered class, or none whose slot 2 says what its instances are
abbrev pub no_class : Graph → ℕ → Option Refusal
no_class g a = test (not (has_instances g a)) r.Class

-- no instance of the class can have the size
abbrev pub no_size : Node → ℕ → Option Refusal
no_size c n = test (not (is_size (layout_in c) n)) r.Size

-- nothing serves a need of so many words
abbrev pub unserved : Source → Room → ℕ → Option Refusal
unserved source room n = test (is_none (serve source room n)) (r.Full (full_of source room n))

-- two objects can't be exchanged in place, and nothing serves the piece for both
abbrev pub no_piece : Room → ℕ → ℕ → Option Refusal
no_piece room a b = if needs_no_words room a b then None else unserved Anywhere room (exchange_words room a b)

-- an object of new space can't be pinned, since nothing serves its words in old space
abbrev pub no_old_words : Room → ℕ → Option Refusal
no_old_words room a = if is_old (spot_at room a).space then None else unserved OldAlone room (spot_at room a).words

-- an object that has a hash already can't be entered at another index
abbrev pub has_hash : Node → Option Refusal
has_hash c = test (not (nat_eq c.hash 0)) r.Hashed

-- each index of the class table has an entry
abbrev pub no_index : Graph → Option Refusal
no_index g = test (nat_le class_limit (free_index g)) r.Table

-- the index has no page, and nothing serves it one
abbrev pub no_page : Room → ℕ → Option Refusal
no_page room i = if contains room.pages (i / page_entries) then None else unserved OldAlone room page_words

-- the file of this name is the script that is run
abbrev pub is_script : Text → Text → Option Refusal
is_script script name = test (bytes_eq name script) r.Name
