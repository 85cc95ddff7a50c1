-- Names stand for one another: renaming, and graphs that differ in names alone.
use Rattle.std.specs.Prelude.{◌≡◌, ℕ, map, if◌then◌else◌, nat_eq}
use Rattle.std.specs.Option.{option_map}
use Rattle.std.specs.FinMap.{get}
use Rattle.spur_graph.specs.declared.answer.Value.{Value}
use Rattle.spur_graph.specs.declared.answer.Value.TheVariants.{Int, Char, Float, Ref}
use Rattle.spur_graph.specs.Node.{Node}
use Rattle.spur_graph.specs.Graph.{Graph, Handle}

-- a value under other names
abbrev pub rename : (ℕ → ℕ) → Value → Value
rename p (Int n) = Int n
rename p (Char c) = Char c
rename p (Float w) = Float w
rename p (Ref a) = Ref (p a)

-- a node whose values are under other names
abbrev pub rename_node : (ℕ → ℕ) → Node → Node
rename_node p n = record n { pointers = map (rename p) n.pointers }

-- `p` pairs all numbers one to one, `back` being its way back, and takes G to H; the next fresh name does not count
pub record Iso (G H : Graph) (p back : ℕ → ℕ) : Type 0 where
  pub left : (a : ℕ) → back (p a) ≡ a
  pub right : (a : ℕ) → p (back a) ≡ a
  pub nodes : (a : ℕ) → get H.nodes (p a) ≡ option_map (rename_node p) (get G.nodes a)
  pub nil : H.nil ≡ p G.nil
  pub no : H.no ≡ p G.no
  pub yes : H.yes ≡ p G.yes
  pub special : H.special ≡ rename p G.special
  pub classes : (i : ℕ) → get H.classes i ≡ option_map (rename p) (get G.classes i)
  pub handles : (h : Handle) → get H.handles h ≡ option_map (rename p) (get G.handles h)
  pub mourners : H.mourners ≡ map (map p) G.mourners
  pub hash_state : H.hash_state ≡ G.hash_state

-- the names `a` and `b` change places
abbrev pub swapped : ℕ → ℕ → ℕ → ℕ
swapped a b c = if nat_eq c a then b else if nat_eq c b then a else c
