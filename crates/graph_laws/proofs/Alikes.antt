-- Outcomes that differ in names alone.
use Rattle.std.proofs.Common.{◌≡◌, ℕ, refl, sym, ap, subst, Some, None, Option}
use Rattle.std.specs.Option.{option_map}
use Rattle.spur_graph.specs.Room.{Room}
use Rattle.spur_graph.specs.Step.{SameRoom, Renamed}
use Rattle.spur_graph.specs.Does.{Outcome}
use Rattle.graph_laws.proofs.BecomeRooms.{RoomsAlike}

-- the outcomes answer alike and lead to states that differ in names alone, or there is none
abbrev pub Alike : Option Outcome → Option Outcome → Type 0
Alike None u = u ≡ None
Alike (Some a) None = ⊥
Alike (Some a) (Some b) = (b.0 ≡ a.0) × Renamed a.1 b.1

-- outcomes of what is served, or is there, on both sides
pub mapped-alike : {X : Type 0} (o u : Option X) (f g : X → Outcome) (w : X → X) → u ≡ option_map w o → ((x : X) → o ≡ Some x → Alike (Some (f x)) (Some (g (w x)))) → Alike (option_map f o) (option_map g u)
mapped-alike None u f g w e alike = ap (option_map g) e
mapped-alike (Some x) u f g w e alike = subst (λ z. Alike (Some (f x)) (option_map g z)) (sym e) (alike x refl)

-- outcomes by rooms that differ in names alone
pub rooms-alike : {p : ℕ → ℕ} (o u : Option Room) (f g : Room → Outcome) → RoomsAlike p o u → ((R S : Room) → SameRoom R S p → Alike (Some (f R)) (Some (g S))) → Alike (option_map f o) (option_map g u)
rooms-alike None u f g rooms alike = ap (option_map g) rooms
rooms-alike (Some R) None f g rooms alike = absurd rooms
rooms-alike (Some R) (Some S) f g rooms alike = alike R S rooms
