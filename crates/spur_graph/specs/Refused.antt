-- The first refusal of each command.
use Rattle.std.specs.Prelude.{ℕ, List, [], ◌∷◌, if◌then◌else◌, Option, Some}
use Rattle.spur_graph.specs.declared.answer.Refusal.{Refusal}
use Rattle.spur_graph.specs.declared.answer.Refusal.TheVariants as r
use Rattle.spur_graph.specs.Graph.{Graph}
use Rattle.spur_graph.specs.Bytes.{Text}
use Rattle.spur_graph.specs.Form.{Form, Special, Nil, Yes, No, Int, Char, Float, Copy, Drop, Kind, Class, Size, Fetch, Store, Unit, SetUnit, Same, New, NewOld, Enter, Hash, Become, Forward, Pin, Unpin, ReadOnly, Writable, Gc, Mourn, Save, Stat}
use Rattle.spur_graph.specs.State.{State, name_at, node_of_handle, words_asked}
use Rattle.spur_graph.specs.Serve.{Source, Anywhere, OldAlone}
use Rattle.spur_graph.specs.Hashes.{free_index}
use Rattle.spur_graph.specs.Refusals.{Row, first, unknown, handles, immediate, raw_read, raw_write, raw_unit, index_in, readonly, unit_range, int_range, char_range, float_range, special, no_class, no_size, unserved, has_hash, no_index, no_page, pinned, mourning, classed, no_piece, no_old_words, no_mourner, is_script}

-- of a command that binds `h` and reads these handles
abbrev pub binds : Graph → ℕ → Text → List Text → Row → Row
binds g k h names row = unknown g k names ∷ handles g k h ∷ row

-- the refusals of making an instance of this size, in their order
abbrev pub instance_row : State → ℕ → Text → ℕ → Source → Row
instance_row s k c n source =
    immediate s.graph k (c ∷ []) ∷ no_class s.graph (name_at s.graph k c) ∷ no_size (node_of_handle s.graph k c) n
    ∷ unserved source s.room (words_asked s.graph k c n) ∷ []

-- each command's refusals in their order; a command that is not served is refused as such
abbrev pub row : State → ℕ → Form → Row
row s k (Special h) = binds s.graph k h [] []
row s k (Nil h) = binds s.graph k h [] []
row s k (Yes h) = binds s.graph k h [] []
row s k (No h) = binds s.graph k h [] []
row s k (Int h n) = binds s.graph k h [] (int_range n ∷ [])
row s k (Char h n) = binds s.graph k h [] (char_range n ∷ [])
row s k (Float h word) = binds s.graph k h [] (float_range word ∷ [])
row s k (Copy h o) = binds s.graph k h (o ∷ []) []
row s k (Drop h) = unknown s.graph k (h ∷ []) ∷ []
row s k (Fetch h o i) = binds s.graph k h (o ∷ []) (immediate s.graph k (o ∷ []) ∷ raw_read (node_of_handle s.graph k o) ∷ index_in (node_of_handle s.graph k o).pointers i ∷ [])
row s k (Kind o) = unknown s.graph k (o ∷ []) ∷ []
row s k (Class h o) = binds s.graph k h (o ∷ []) []
row s k (Size o) = unknown s.graph k (o ∷ []) ∷ immediate s.graph k (o ∷ []) ∷ []
row s k (Store o i v) =
    unknown s.graph k (o ∷ v ∷ []) ∷ immediate s.graph k (o ∷ []) ∷ raw_write (node_of_handle s.graph k o) i
    ∷ index_in (node_of_handle s.graph k o).pointers i ∷ readonly s.graph k (o ∷ []) ∷ []
row s k (Unit o i) =
    unknown s.graph k (o ∷ []) ∷ immediate s.graph k (o ∷ []) ∷ raw_unit (node_of_handle s.graph k o) ∷ index_in (node_of_handle s.graph k o).units i ∷ []
row s k (SetUnit o i n) =
    unknown s.graph k (o ∷ []) ∷ immediate s.graph k (o ∷ []) ∷ raw_unit (node_of_handle s.graph k o) ∷ index_in (node_of_handle s.graph k o).units i
    ∷ unit_range (node_of_handle s.graph k o) n ∷ readonly s.graph k (o ∷ []) ∷ []
row s k (Same a b) = unknown s.graph k (a ∷ b ∷ []) ∷ []
row s k (New h c n) = binds s.graph k h (c ∷ []) (instance_row s k c n Anywhere)
row s k (NewOld h c n) = binds s.graph k h (c ∷ []) (instance_row s k c n OldAlone)
row s k (Enter c) =
    unknown s.graph k (c ∷ []) ∷ immediate s.graph k (c ∷ []) ∷ special s.graph k (c ∷ []) ∷ has_hash (node_of_handle s.graph k c)
    ∷ no_index s.graph ∷ no_page s.room (free_index s.graph) ∷ []
row s k (Hash o) = unknown s.graph k (o ∷ []) ∷ immediate s.graph k (o ∷ []) ∷ []
row s k (Become a b) =
    unknown s.graph k (a ∷ b ∷ []) ∷ immediate s.graph k (a ∷ b ∷ []) ∷ special s.graph k (a ∷ b ∷ []) ∷ pinned s.graph k (a ∷ b ∷ [])
    ∷ readonly s.graph k (a ∷ b ∷ []) ∷ mourning s.graph k (a ∷ b ∷ []) ∷ no_piece s.room (name_at s.graph k a) (name_at s.graph k b) ∷ []
row s k (Forward a b hash) =
    unknown s.graph k (a ∷ b ∷ []) ∷ immediate s.graph k (a ∷ b ∷ []) ∷ special s.graph k (a ∷ (if hash then b ∷ [] else [])) ∷ pinned s.graph k (a ∷ [])
    ∷ readonly s.graph k (a ∷ []) ∷ mourning s.graph k (a ∷ []) ∷ classed s.graph k (a ∷ (if hash then b ∷ [] else [])) ∷ []
row s k (Pin o) = unknown s.graph k (o ∷ []) ∷ immediate s.graph k (o ∷ []) ∷ no_old_words s.room (name_at s.graph k o) ∷ []
row s k (Unpin o) = unknown s.graph k (o ∷ []) ∷ immediate s.graph k (o ∷ []) ∷ []
row s k (ReadOnly o) = unknown s.graph k (o ∷ []) ∷ immediate s.graph k (o ∷ []) ∷ []
row s k (Writable o) = unknown s.graph k (o ∷ []) ∷ immediate s.graph k (o ∷ []) ∷ []
row s k Gc = []
row s k (Mourn h) = binds s.graph k h [] (no_mourner s.graph ∷ [])
row s k (Save name) = is_script s.script name ∷ []
row s k Stat = []
row s k form = Some r.Unsupported ∷ []

-- the refusal of a command
abbrev pub refused : State → ℕ → Form → Option Refusal
refused s k form = first (row s k form)
