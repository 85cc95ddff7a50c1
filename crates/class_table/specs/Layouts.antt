-- What slot 2 of a class tells of its instances.
use Rattle.std.specs.Prelude.{ℕ, ◌≡◌, true, Some}
use Rattle.spur_graph.specs.Value.{int_of}
use Rattle.spur_graph.specs.Graph.{Graph, node}
use Rattle.spur_graph.specs.Instances.{has_entered, layout_of, is_layout}
use Rattle.class_table.specs.declared.layout.Layout.{Layout}

-- the class is entered, and slot 2 tells this layout of its instances
pub record HasLayout (g : Graph) (class : ℕ) (layout : Layout) : Type 0 where
  pub entered : has_entered g class ≡ true
  pub slot : layout_of (node g class) ≡ Some (int_of layout.0)
  pub formed : is_layout (int_of layout.0) ≡ true
