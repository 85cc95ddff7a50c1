-- Which names are live: strong values, derivations from the roots, and names that stand in one.
use Rattle.std.specs.Prelude.{◌≡◌, ◌⊎◌, ℕ, List, [], ◌∷◌, take, drop, length, slice_get, Bool, true, false, if◌then◌else◌, ◌==◌, ◌&&◌, nat_lt, Option, Some, None}
use Rattle.std.specs.List.{Contains}
use Rattle.std.specs.FinMap.{get}
use Rattle.spur_graph.specs.declared.answer.Value.{Value}
use Rattle.spur_graph.specs.declared.answer.Value.TheVariants.{Int, Char, Float, Ref}
use Rattle.spur_graph.specs.Value.{low_bits, is_immediate}
use Rattle.spur_graph.specs.Node.{Node}
use Rattle.spur_graph.specs.Graph.{Graph, Handle, node, waiting}

-- the low 16 bits of a SmallInteger, 0 where there is none
abbrev pub fixed_in : Option Value → ℕ
fixed_in None = 0
fixed_in (Some (Int n)) = low_bits 16 n
fixed_in (Some (Char c)) = 0
fixed_in (Some (Float w)) = 0
fixed_in (Some (Ref a)) = 0

-- the number of fixed slots that slot 2 of a class tells, 0 where there is no class
abbrev pub fixed_of : Graph → Option Value → ℕ
fixed_of g None = 0
fixed_of g (Some (Int n)) = 0
fixed_of g (Some (Char c)) = 0
fixed_of g (Some (Float w)) = 0
fixed_of g (Some (Ref c)) = fixed_in (slice_get (node g c).pointers 2)

-- an ephemeron with a key
abbrev pub is_keyed : Node → Bool
is_keyed n = (n.format == 5) && nat_lt 0 (length n.pointers)

-- how many of the first slots of a node are strong, where they are not conditional
abbrev pub strong_count : Graph → Node → ℕ
strong_count g n = if n.format == 4 then fixed_of g (get g.classes n.class) else length n.pointers

-- the strong values of a node
abbrev pub strong_values : Graph → Node → List Value
strong_values g n = if is_keyed n then [] else take (strong_count g n) n.pointers

-- the values of a node that are weak
abbrev pub weak_values : Graph → Node → List Value
weak_values g n = if n.format == 4 then drop (strong_count g n) n.pointers else []

-- the names that the roots name
pub data IsRoot (g : Graph) : ℕ → Type 0 where
  HandleNames : (h : Handle) (a : ℕ) → get g.handles h ≡ Some (Ref a) → IsRoot g a
  Mourns : (a : ℕ) → Contains (waiting g) a → IsRoot g a
  SpecialNames : (a : ℕ) → g.special ≡ Ref a → IsRoot g a
  EntryNames : (i a : ℕ) → get g.classes i ≡ Some (Ref a) → IsRoot g a
  IsNil : IsRoot g g.nil
  IsFalse : IsRoot g g.no
  IsTrue : IsRoot g g.yes

-- the key of an ephemeron is an immediate, or names one of these
abbrev pub HasKey : Node → (ℕ → Type 0) → Type 0
HasKey n among = (key : Value) × (slice_get n.pointers 0 ≡ Some key) × ((is_immediate key ≡ true) ⊎ ((a : ℕ) × (key ≡ Ref a) × among a))

-- why a name may stand next in a derivation: further roots are given by a test, and the values of silent names never count
pub data Follows (g : Graph) (further silent : ℕ → Bool) (earlier : List ℕ) : ℕ → Type 0 where
  Rooted : (a : ℕ) → IsRoot g a → Follows g further silent earlier a
  Given : (a : ℕ) → further a ≡ true → Follows g further silent earlier a
  Strong : (b a : ℕ) (n : Node) → Contains earlier b → silent b ≡ false → get g.nodes b ≡ Some n → Contains (strong_values g n) (Ref a) → Follows g further silent earlier a
  Keyed : (b a : ℕ) (n : Node) → Contains earlier b → silent b ≡ false → get g.nodes b ≡ Some n → is_keyed n ≡ true → HasKey n (Contains earlier) → Contains n.pointers (Ref a) → Follows g further silent earlier a

-- a derivation, its latest name first
abbrev pub IsDerivation : Graph → (ℕ → Bool) → (ℕ → Bool) → List ℕ → Type 0
IsDerivation g further silent [] = Unit {0}
IsDerivation g further silent (a ∷ earlier) = Follows g further silent earlier a × IsDerivation g further silent earlier

-- the name stands in a derivation
abbrev pub IsDerived : Graph → (ℕ → Bool) → (ℕ → Bool) → ℕ → Type 0
IsDerived g further silent a = (names : List ℕ) × IsDerivation g further silent names × Contains names a

abbrev pub none : ℕ → Bool
none a = false

-- live from the roots and further ones
abbrev pub Live : Graph → (ℕ → Bool) → ℕ → Type 0
Live g further a = IsDerived g further none a

-- live where the values of `r` never count
abbrev pub LiveBut : Graph → ℕ → ℕ → Type 0
LiveBut g r a = IsDerived g none (λ b. b == r) a

-- the same by rules, without lists
pub data Reached (g : Graph) (further silent : ℕ → Bool) : ℕ → Type 0 where
  AtRoot : (a : ℕ) → IsRoot g a → Reached g further silent a
  AtGiven : (a : ℕ) → further a ≡ true → Reached g further silent a
  ByStrong : (b a : ℕ) (n : Node) → Reached g further silent b → silent b ≡ false → get g.nodes b ≡ Some n → Contains (strong_values g n) (Ref a) → Reached g further silent a
  ByLoose : (b a : ℕ) (n : Node) (key : Value) → Reached g further silent b → silent b ≡ false → get g.nodes b ≡ Some n → is_keyed n ≡ true → slice_get n.pointers 0 ≡ Some key → is_immediate key ≡ true → Contains n.pointers (Ref a) → Reached g further silent a
  ByKey : (b c a : ℕ) (n : Node) → Reached g further silent b → silent b ≡ false → get g.nodes b ≡ Some n → is_keyed n ≡ true → slice_get n.pointers 0 ≡ Some (Ref c) → Reached g further silent c → Contains n.pointers (Ref a) → Reached g further silent a

-- both say the same
abbrev pub LiveByRules : Type 0
LiveByRules = (g : Graph) (further silent : ℕ → Bool) (a : ℕ) → (IsDerived g further silent a → Reached g further silent a) × (Reached g further silent a → IsDerived g further silent a)
