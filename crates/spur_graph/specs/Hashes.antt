-- Identity hashes, drawn where they are asked for, and the class index that a class is entered at.
use Rattle.std.specs.Prelude.{ℕ, ◌+◌, ◌-◌, ◌*◌, ◌/◌, ◌%◌, ◌^◌, if◌then◌else◌, nat_eq}
use Rattle.std.specs.Option.{unwrap_or, is_none}
use Rattle.std.specs.List.{find, range_with_len}
use Rattle.std.specs.FinMap.{get, insert}
use Rattle.spur_graph.specs.declared.answer.Value.TheVariants.{Ref}
use Rattle.spur_graph.specs.Graph.{Graph, node, with_node}
use Rattle.spur_graph.specs.Ordinary.{class_limit}

-- the state after a draw
abbrev pub next_state : ℕ → ℕ
next_state state = (1664525 * state + 1013904223) % 2 ^ 32

-- the hash that is drawn from a state: the high bits of the next one, and 1 where these are 0
abbrev pub drawn : ℕ → ℕ
drawn state = if nat_eq (next_state state / 1024) 0 then 1 else next_state state / 1024

-- the hash of a name, drawn if it has none
abbrev pub hash_now : Graph → ℕ → ℕ
hash_now g a = if nat_eq (node g a).hash 0 then drawn g.hash_state else (node g a).hash

-- the name has this hash
abbrev pub with_hash : Graph → ℕ → ℕ → Graph
with_hash g a hash = with_node g a (record (node g a) { hash = hash })

-- the graph once the hash of a name was asked for
abbrev pub hashed : Graph → ℕ → Graph
hashed g a = if nat_eq (node g a).hash 0 then record (with_hash g a (drawn g.hash_state)) { hash_state = next_state g.hash_state } else g

-- the first index at which a class is entered; those below are Spur's own
abbrev pub first_entered : ℕ
first_entered = 1024

-- the least index from there on that has no entry; where all have one, the least that is no class index
unfoldable pub free_index : Graph → ℕ
free_index g = unwrap_or (find (λ i. is_none (get g.classes i)) (range_with_len first_entered (class_limit - first_entered))) class_limit

-- the class table has the name at an index, which is its hash
abbrev pub entered : Graph → ℕ → ℕ → Graph
entered g a i = record (with_hash g a i) { classes = insert g.classes i (Ref a) }
