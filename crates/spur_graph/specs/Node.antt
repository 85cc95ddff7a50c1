-- Nodes: what an object is, wherever it stands.
use Rattle.std.specs.Prelude.{◌≡◌, ◌<◌, ℕ, ◌+◌, ◌*◌, ◌%◌, ◌^◌, ℤ, List, [], ◌∷◌, length, Bool, true, nat_lt, nat_le, ◌&&◌, false}
use Rattle.std.specs.List.{All}
use Rattle.object_header.specs.Formats.{unit_bytes_of, unused_of, is_method}
use Rattle.object_header.specs.Head.{is_refused_format}
use Rattle.spur_graph.specs.declared.answer.Value.{Value}
use Rattle.spur_graph.specs.declared.answer.Value.TheVariants.{Int}
use Rattle.spur_graph.specs.Value.{IsValue, low_bits}

-- class index, identity hash (0 is unset), format, the values of the pointer slots, the units, and two flags
pub record Node : Type 0 where
  pub class : ℕ
  pub hash : ℕ
  pub format : ℕ
  pub pointers : List Value
  pub units : List ℕ
  pub pinned : Bool
  pub readonly : Bool

-- a format with units and no pointers
abbrev pub is_raw : ℕ → Bool
is_raw f = nat_le 9 f && nat_lt f 24

-- a unit fits the bytes that units of the format have
abbrev pub IsUnit : ℕ → ℕ → Type 0
IsUnit f u = u < 2 ^ (8 * unit_bytes_of f)

-- slot 0 of a method is a SmallInteger, the low 15 bits of which count the literals behind it
pub record HasLiterals (pointers : List Value) : Type 0 where
  pub number : ℤ
  pub rest : List Value
  pub first : pointers ≡ Int number ∷ rest
  pub count : length rest ≡ low_bits 15 number

-- the parts of a node are those that an object can have
pub record IsNode (n : Node) : Type 0 where
  pub class_index : n.class < 2 ^ 22
  pub hash_bits : n.hash < 2 ^ 22
  pub known_format : (n.format < 32) × (is_refused_format n.format ≡ false)
  pub no_pointers : is_raw n.format ≡ true → n.pointers ≡ []
  pub no_units : n.format < 9 → n.units ≡ []
  pub whole_words : (length n.units + unused_of n.format) * unit_bytes_of n.format % 8 ≡ 0
  pub literals : is_method n.format ≡ true → HasLiterals n.pointers
  pub values : All IsValue n.pointers
  pub unit_range : All (IsUnit n.format) n.units
