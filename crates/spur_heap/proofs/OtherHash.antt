-- A hash is no part of what else an object is.
use Rattle.std.proofs.Common.{◌≡◌, ℕ, refl}
use Rattle.spur_graph.specs.Cells.{Body, There, Store, is_formed, pointer_count, unit_count}
use Rattle.spur_graph.specs.CellGraph.{node_of}
use Rattle.spur_graph.specs.Heaps.{own_name, names_over}

abbrev pub with_hash : Body → ℕ → Body
with_hash b n = record b { hash = n }

pub formed_hash : (b : Body) (n : ℕ) → is_formed (with_hash b n) ≡ is_formed b
unfolding is_formed pointer_count
formed_hash b n = refl

pub count_hash : (b : Body) (n : ℕ) → pointer_count (with_hash b n) ≡ pointer_count b
unfolding pointer_count
count_hash b n = refl

pub over_hash : (end : ℕ) (b : Body) (n : ℕ) → names_over end (There (with_hash b n)) ≡ names_over end (There b)
unfolding names_over pointer_count
over_hash end b n = refl

pub node_hash : (h : Store) (b : Body) (n : ℕ) → node_of own_name h (with_hash b n) ≡ record (node_of own_name h b) { hash = n }
unfolding node_of pointer_count unit_count
node_hash h b n = refl
