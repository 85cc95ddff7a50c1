-- The starts of the first five chunks.
use Rattle.std.specs.Prelude.{ℕ, ◌≡◌, Bool, ◌||◌, nat_eq}
use Rattle.spur_graph.specs.Cells.{Store, first}
use Rattle.image_words.specs.declared.image.Roots.{Roots}

-- one of them is this start
abbrev pub has_root : Roots → ℕ → Bool
has_root roots s = nat_eq roots.hidden_roots s || nat_eq roots.free_lists s || nat_eq roots.true_object s || nat_eq roots.false_object s || nat_eq roots.nil s

-- they are those of a store
pub record AreRoots (h : Store) (roots : Roots) : Type 0 where
  pub nil : roots.nil ≡ first h 0
  pub false_object : roots.false_object ≡ first h 1
  pub true_object : roots.true_object ≡ first h 2
  pub free_lists : roots.free_lists ≡ first h 3
  pub hidden_roots : roots.hidden_roots ≡ first h 4
