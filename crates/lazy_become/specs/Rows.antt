-- The refusals of exchange and forwarding, by the values that the calls work on.
use Rattle.std.specs.Prelude.{ℕ, ◌≡◌, ◌≢◌, List, [], ◌∷◌, ◌++◌, Bool, if◌then◌else◌, false}
use Rattle.std.specs.List.{list_any}
use Rattle.spur_graph.specs.declared.answer.Value.{Value}
use Rattle.spur_graph.specs.declared.answer.Refusal.TheVariants as r
use Rattle.spur_graph.specs.Value.{is_immediate, name_of}
use Rattle.spur_graph.specs.Graph.{Graph, node}
use Rattle.spur_graph.specs.Room.{Room}
use Rattle.spur_graph.specs.Become.{stays_in_place}
use Rattle.spur_graph.specs.Refusals.{Row, test, is_special, is_classed, waits, no_piece}
use Rattle.spur_graph.specs.Heaps.{View, heap_graph, heap_room}

-- either value is an immediate
abbrev pub immediates : Value → Value → Row
immediates v w = test (list_any is_immediate (v ∷ w ∷ [])) r.Immediate ∷ []

-- the refusals of exchanging two objects, in their order, but for want of words
abbrev pub held_row : Graph → ℕ → ℕ → Row
held_row g a b =
    test (list_any (is_special g) (a ∷ b ∷ [])) r.Special ∷ test (list_any (λ c. (node g c).pinned) (a ∷ b ∷ [])) r.Pinned
    ∷ test (list_any (λ c. (node g c).readonly) (a ∷ b ∷ [])) r.ReadOnly ∷ test (list_any (waits g) (a ∷ b ∷ [])) r.Mourning ∷ []

-- the refusals of exchange, in their order
abbrev pub exchange_row : Graph → Room → Value → Value → Row
exchange_row g room v w = immediates v w ++ (held_row g (name_of v) (name_of w) ++ (no_piece room (name_of v) (name_of w) ∷ []))

-- the other is asked too where its hash is changed
abbrev pub asked : ℕ → ℕ → Bool → List ℕ
asked a b with_hash = a ∷ (if with_hash then b ∷ [] else [])

-- the refusals of forwarding one object to another, in their order
abbrev pub standing_row : Graph → ℕ → ℕ → Bool → Row
standing_row g a b with_hash =
    test (list_any (is_special g) (asked a b with_hash)) r.Special ∷ test (list_any (λ c. (node g c).pinned) (a ∷ [])) r.Pinned
    ∷ test (list_any (λ c. (node g c).readonly) (a ∷ [])) r.ReadOnly ∷ test (list_any (waits g) (a ∷ [])) r.Mourning
    ∷ test (list_any (is_classed g) (asked a b with_hash)) r.Classed ∷ []

abbrev pub forward_row : Graph → Value → Value → Bool → Row
forward_row g v w with_hash = immediates v w ++ standing_row g (name_of v) (name_of w) with_hash

-- two objects that may be exchanged, and do not fit each other's places
pub record CanMoveOut (v : View) (a b : ℕ) : Type 0 where
  pub apart : a ≢ b
  pub unlike : stays_in_place (heap_room v) a b ≡ false
  pub plain : (is_special (heap_graph v) a ≡ false) × (is_special (heap_graph v) b ≡ false)
  pub mobile : ((node (heap_graph v) a).pinned ≡ false) × ((node (heap_graph v) b).pinned ≡ false)
  pub awake : (waits (heap_graph v) a ≡ false) × (waits (heap_graph v) b ≡ false)
