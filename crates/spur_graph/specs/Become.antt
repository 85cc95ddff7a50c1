-- Exchange, redirection and pins: names that change places, a name that gives way to another, and the room of each.
use Rattle.std.specs.Prelude.{ℕ, ◌+◌, map, Bool, true, false, if◌then◌else◌, ◌&&◌, ◌||◌, nat_eq, Option, Some}
use Rattle.std.specs.Bool.{beq}
use Rattle.std.specs.Option.{option_map}
use Rattle.std.specs.declared.cmp.Ordering.{Ordering}
use Rattle.std.specs.FinMap.{FinMap, entries, from_entries, remove}
use Rattle.std.specs.FinSet.{contains}
use Rattle.std.specs.FinSet as sets
use Rattle.spur_graph.specs.Node.{Node}
use Rattle.spur_graph.specs.Graph.{Graph, node, with_node}
use Rattle.spur_graph.specs.Names.{rename, rename_node}
use Rattle.spur_graph.specs.Room.{Room, Space, Old, Spot, spot_at, slots_in, fresh_words, fresh_spot, placed, is_old}
use Rattle.spur_graph.specs.Serve.{Served, Anywhere, OldAlone, serve}

-- a function of each value of a map
abbrev pub map_values : {K X Y : Type 0} {R : K → K → Ordering} → (X → Y) → FinMap R X → FinMap R Y
map_values f m = from_entries (map (λ e. (e.0, f e.1)) (entries m))

-- ---- exchange

-- two names change nodes, and each keeps its hash
abbrev pub exchange : Graph → ℕ → ℕ → Graph
exchange g a b = with_node (with_node g a (record (node g b) { hash = (node g a).hash })) b (record (node g a) { hash = (node g b).hash })

-- the same, where a name is exchanged with itself without a change
abbrev pub exchanged : Graph → ℕ → ℕ → Graph
exchanged g a b = if nat_eq a b then g else exchange g a b

-- two objects have as many words, and both or neither have an overflow word: each can take the other's place
abbrev pub stays_in_place : Room → ℕ → ℕ → Bool
stays_in_place room a b =
    nat_eq (spot_at room a).words (spot_at room b).words && beq (spot_at room a).overflow (spot_at room b).overflow

-- no words are asked for
abbrev pub needs_no_words : Room → ℕ → ℕ → Bool
needs_no_words room a b = nat_eq a b || stays_in_place room a b

-- else one piece is asked for, of the words that both have when they are made anew
abbrev pub exchange_words : Room → ℕ → ℕ → ℕ
exchange_words room a b = fresh_words (slots_in (spot_at room a)) + fresh_words (slots_in (spot_at room b))

-- both then stand in the space of the piece, each with the other's size
abbrev pub crossed_over : Room → Space → ℕ → ℕ → Room → Room
crossed_over room space a b rest =
    placed (placed rest a (fresh_spot space (slots_in (spot_at room b)))) b (fresh_spot space (slots_in (spot_at room a)))

-- the room once two names were exchanged, if the words are served
abbrev pub room_exchanged : Room → ℕ → ℕ → Option Room
room_exchanged room a b =
    if needs_no_words room a b then Some room
    else option_map (λ served. crossed_over room served.space a b served.room) (serve Anywhere room (exchange_words room a b))

-- ---- redirection

-- the one name in place of the other
abbrev pub instead : ℕ → ℕ → ℕ → ℕ
instead a b c = if nat_eq c a then b else c

-- whatever names `a` names `b`, and `a` is no name any more
abbrev pub redirect : Graph → ℕ → ℕ → Graph
redirect g a b = record g {
  nodes = map_values (rename_node (instead a b)) (remove g.nodes a);
  special = rename (instead a b) g.special;
  classes = map_values (rename (instead a b)) g.classes;
  handles = map_values (rename (instead a b)) g.handles;
  mourners = map (map (instead a b)) g.mourners;
}

-- the hash of `a`, if it has one, is that of `b` too
abbrev pub hand_hash : Graph → ℕ → ℕ → Graph
hand_hash g a b = if nat_eq (node g a).hash 0 then g else with_node g b (record (node g b) { hash = (node g a).hash })

-- a name is forwarded to another, with its hash or without; to itself it is without a change
abbrev pub forwarded : Graph → ℕ → ℕ → Bool → Graph
forwarded g a b with_hash = if nat_eq a b then g else redirect (if with_hash then hand_hash g a b else g) a b

-- the room without the spot of `a`; where old space reached `a`, it reaches `b`
abbrev pub room_redirected : Room → ℕ → ℕ → Room
room_redirected room a b = record room {
  spots = remove room.spots a;
  old_names = sets.remove (if contains room.old_names a then sets.insert room.old_names b else room.old_names) a;
}

abbrev pub room_forwarded : Room → ℕ → ℕ → Room
room_forwarded room a b = if nat_eq a b then room else room_redirected room a b

-- ---- pins

abbrev pub pinned : Graph → ℕ → Graph
pinned g a = with_node g a (record (node g a) { pinned = true })

-- a pinned object stands in old space, and takes as many words there
abbrev pub room_pinned : Room → ℕ → Option Room
room_pinned room a =
    if is_old (spot_at room a).space then Some room
    else option_map (λ served. placed served.room a (record (spot_at room a) { space = Old })) (serve OldAlone room (spot_at room a).words)
