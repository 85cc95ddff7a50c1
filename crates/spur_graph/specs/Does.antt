-- What a command answers and how it changes the state, where nothing refuses it.
use Rattle.std.specs.Prelude.{◌≡◌, ◌⊎◌, ℕ, ◌/◌, if◌then◌else◌, length, slice_index, slice_index_or, slice_set, true, false, Option, Some, None}
use Rattle.std.specs.Option.{option_map}
use Rattle.std.specs.FinSet.{contains}
use Rattle.spur_graph.specs.declared.answer.Value.TheVariants.{Ref}
use Rattle.spur_graph.specs.declared.answer.Value.TheVariants as values
use Rattle.spur_graph.specs.declared.answer.Answer.{Answer}
use Rattle.spur_graph.specs.declared.answer.Answer.TheVariants as answers
use Rattle.spur_graph.specs.Bytes.{Text}
use Rattle.spur_graph.specs.Form.{Form, Special, Nil, Yes, No, Int, Char, Float, Copy, Drop, Kind, Class, Size, Fetch, Store, Unit, SetUnit, Same, New, NewOld, Enter, Hash, Become, Forward, Pin, Unpin, ReadOnly, Writable, Gc, Mourn, Save, Stat}
use Rattle.spur_graph.specs.Value.{same_value}
use Rattle.spur_graph.specs.State.{State, with_graph, bound, dropped, with_changed, made, value_at, name_at, node_of_handle, slots_asked, words_asked}
use Rattle.spur_graph.specs.Room.{Room, page_words, with_page}
use Rattle.spur_graph.specs.Serve.{Served, Anywhere, OldAlone, serve}
use Rattle.spur_graph.specs.Become.{exchanged, room_exchanged, forwarded, room_forwarded, pinned, room_pinned}
use Rattle.spur_graph.specs.Instances.{instance}
use Rattle.spur_graph.specs.Hashes.{hash_now, hashed, free_index, entered}
use Rattle.spur_graph.specs.Ordinary.{page_entries}
use Rattle.spur_graph.specs.Shows.{shown, stat_of}
use Rattle.spur_graph.specs.Classes.{class_value}
use Rattle.spur_graph.specs.Saves.{Saves}
use Rattle.spur_graph.specs.Collections.{Collects, Mourns}

-- an answer and the state after it
abbrev pub Outcome : Type 0
Outcome = Answer × State

-- `ok`
abbrev pub ok : State → Outcome
ok new = (answers.Done, new)

-- the state with a handle bound to a fresh instance of a class, whose words were served
abbrev pub new_instance : State → ℕ → Text → Text → ℕ → Served → State
new_instance s k h c n served = made s k h (instance s.graph (node_of_handle s.graph k c) n) (slots_asked s.graph k c n) served

-- the room once a class is entered at an index, if its page is there or is served
abbrev pub room_entered : Room → ℕ → Option Room
room_entered room i =
    if contains room.pages (i / page_entries) then Some room
    else option_map (λ served. with_page served.room (i / page_entries)) (serve OldAlone room page_words)

-- what a command answers and does where the state determines both; a command that chooses among several has no outcome here, nor has one that is not served
abbrev pub outcome : State → ℕ → Form → Option Outcome
outcome s k (Special h) = Some (ok (bound s k h s.graph.special))
outcome s k (Nil h) = Some (ok (bound s k h (Ref s.graph.nil)))
outcome s k (Yes h) = Some (ok (bound s k h (Ref s.graph.yes)))
outcome s k (No h) = Some (ok (bound s k h (Ref s.graph.no)))
outcome s k (Int h n) = Some (ok (bound s k h (values.Int n)))
outcome s k (Char h n) = Some (ok (bound s k h (values.Char n)))
outcome s k (Float h word) = Some (ok (bound s k h (values.Float word)))
outcome s k (Copy h o) = Some (ok (bound s k h (value_at s.graph k o)))
outcome s k (Drop h) = Some (ok (dropped s k h))
outcome s k (Fetch h o i) = Some (ok (bound s k h (slice_index_or (node_of_handle s.graph k o).pointers i (Ref s.graph.nil))))
outcome s k (Kind o) = Some (answers.Shown (shown s.graph (value_at s.graph k o)), s)
outcome s k (Class h o) = Some (ok (bound s k h (class_value s.graph (value_at s.graph k o))))
outcome s k (Size o) = Some (answers.Size (length (node_of_handle s.graph k o).pointers) (length (node_of_handle s.graph k o).units), s)
outcome s k (Store o i v) = Some (ok (with_changed s (name_at s.graph k o) (λ n. record n { pointers = slice_set n.pointers i (value_at s.graph k v) })))
outcome s k (Unit o i) = Some (answers.Number (slice_index (node_of_handle s.graph k o).units i), s)
outcome s k (SetUnit o i u) = Some (ok (with_changed s (name_at s.graph k o) (λ n. record n { units = slice_set n.units i u })))
outcome s k (Same a b) = Some (answers.Truth (same_value (value_at s.graph k a) (value_at s.graph k b)), s)
outcome s k (New h c n) = option_map (λ served. ok (new_instance s k h c n served)) (serve Anywhere s.room (words_asked s.graph k c n))
outcome s k (NewOld h c n) = option_map (λ served. ok (new_instance s k h c n served)) (serve OldAlone s.room (words_asked s.graph k c n))
outcome s k (Enter c) = option_map (λ room. (answers.Number (free_index s.graph), record s { graph = entered s.graph (name_at s.graph k c) (free_index s.graph); room = room })) (room_entered s.room (free_index s.graph))
outcome s k (Hash o) = Some (answers.Number (hash_now s.graph (name_at s.graph k o)), with_graph s (hashed s.graph (name_at s.graph k o)))
outcome s k (Become a b) =
    option_map (λ room. ok (record s { graph = exchanged s.graph (name_at s.graph k a) (name_at s.graph k b); room = room }))
    (room_exchanged s.room (name_at s.graph k a) (name_at s.graph k b))
outcome s k (Forward a b hash) =
    Some (ok (record s { graph = forwarded s.graph (name_at s.graph k a) (name_at s.graph k b) hash; room = room_forwarded s.room (name_at s.graph k a) (name_at s.graph k b) }))
outcome s k (Pin o) = option_map (λ room. ok (record s { graph = pinned s.graph (name_at s.graph k o); room = room })) (room_pinned s.room (name_at s.graph k o))
outcome s k (Unpin o) = Some (ok (with_changed s (name_at s.graph k o) (λ n. record n { pinned = false })))
outcome s k (ReadOnly o) = Some (ok (with_changed s (name_at s.graph k o) (λ n. record n { readonly = true })))
outcome s k (Writable o) = Some (ok (with_changed s (name_at s.graph k o) (λ n. record n { readonly = false })))
outcome s k Stat = Some (answers.Stat (stat_of s.graph s.room), s)
outcome s k form = None

-- a determined outcome is this one
abbrev pub Is : Option Outcome → Answer → State → Type 0
Is None answer new = ⊥
Is (Some o) answer new = (answer ≡ o.0) × (new ≡ o.1)

-- the answers and states among which a command chooses, where the state leaves it a choice: a save chooses among the texts that denote the graph, a full
-- collection among the orders of a group and the free chunks behind it, and `mourn` among the names of the earliest group
abbrev pub Chooses : State → ℕ → Form → Answer → State → Type 0
Chooses old k (Save name) answer new = Saves old name answer new
Chooses old k Gc answer new = Collects old answer new
Chooses old k (Mourn h) answer new = Mourns old k h answer new
Chooses old k form answer new = ⊥

-- what a command may answer, and the state that it may lead to: the one that is determined, or one of those among which it chooses
abbrev pub Does : State → ℕ → Form → Answer → State → Type 0
Does old k form answer new = Is (outcome old k form) answer new ⊎ Chooses old k form answer new
