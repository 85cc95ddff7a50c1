-- Strong and weak values, computed: a weak array with one fixed slot, and ephemerons one behind the other.
use Rattle.std.proofs.Common.{◌≡◌, true, false, [], ◌∷◌, refl, ◌==◌, ◌||◌, Some, None}
use Rattle.std.specs.Prelude.{pos}
use Rattle.std.specs.FinMap.{get}
use Rattle.spur_graph.specs.declared.answer.Value.TheVariants.{Int, Ref}
use Rattle.spur_graph.specs.Node.{Node}
use Rattle.spur_graph.specs.Graph.{Graph, blank}
use Rattle.spur_graph.specs.Live.{strong_count, strong_values, weak_values, is_keyed}
use Rattle.spur_graph.specs.Rounds.{mourning, without_dead}

-- ---- a weak array, whose class says one fixed slot in slot 2

abbrev weak_class : Node
weak_class = record blank { class = 32; hash = 55; format = 1; pointers = Ref 0 ∷ Ref 0 ∷ Int (pos 262145) ∷ [] }

abbrev weak : Node
weak = record blank { class = 55; format = 4; pointers = Ref 7 ∷ Ref 8 ∷ [] }

module _ (g : Graph) (class : get g.classes 55 ≡ Some (Ref 5)) (there : get g.nodes 5 ≡ Some weak_class) where
  one_fixed : strong_count g weak ≡ 1
  one_fixed = rw class (rw there refl)

  first_strong : strong_values g weak ≡ Ref 7 ∷ []
  first_strong = rw class (rw there refl)

  second_weak : weak_values g weak ≡ Ref 8 ∷ []
  second_weak = rw class (rw there refl)

  -- where 8 is dead, the second slot becomes nil
  becomes_nil : (without_dead g (λ a. a == 6 || a == 7) weak).pointers ≡ Ref 7 ∷ Ref g.nil ∷ []
  becomes_nil = rw class (rw there refl)

-- a class index without an entry has no fixed slots
none_fixed : (g : Graph) → get g.classes 55 ≡ None → strong_values g weak ≡ []
none_fixed g class = rw class refl

-- ---- an ephemeron, which has no strong values until it has fired

abbrev ephemeron : Node
ephemeron = record blank { class = 56; format = 5; pointers = Ref 7 ∷ Ref 10 ∷ [] }

waits : (g : Graph) → strong_values g ephemeron ≡ []
waits g = refl

has_fired : (g : Graph) → strong_values g (mourning (9 ∷ []) 9 ephemeron) ≡ Ref 7 ∷ Ref 10 ∷ []
has_fired g = refl

-- one that is not of the group waits on, and one without slots never waits
other_waits : is_keyed (mourning (9 ∷ []) 10 ephemeron) ≡ true
other_waits = refl

never_waits : is_keyed (record blank { format = 5 }) ≡ false
never_waits = refl
