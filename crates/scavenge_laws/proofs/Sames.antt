-- Graphs that differ in no name are one.
use Rattle.std.proofs.Common.{◌≡◌, sym, ◌∙◌}
use Rattle.std.specs.Cmp.{nat_cmp_total}
use Rattle.std.specs.FinMap.{same_map, nat_cmp-IsAntisymmetric}
use Rattle.spur_graph.specs.Graph.{Graph}
use Rattle.spur_graph.specs.Handles.{handles_total}
use Rattle.spur_graph.specs.Names.{Iso}
use Rattle.spur_graph.proofs.HandleMaps.{exact_handles}
use Rattle.spur_graph.proofs.Renaming.{itself}

pub same_graph : (g h : Graph) → Iso g h (λ a. a) (λ a. a) → h.next ≡ g.next → h ≡ g
same_graph g h k next =
    let i = itself g in
    let nodes : h.nodes ≡ g.nodes = same_map nat_cmp_total nat_cmp-IsAntisymmetric h.nodes g.nodes (λ a. k.nodes a ∙ sym (i.nodes a)) in
    let classes : h.classes ≡ g.classes = same_map nat_cmp_total nat_cmp-IsAntisymmetric h.classes g.classes (λ a. k.classes a ∙ sym (i.classes a)) in
    let handles : h.handles ≡ g.handles = same_map handles_total exact_handles h.handles g.handles (λ a. k.handles a ∙ sym (i.handles a)) in
    let special : h.special ≡ g.special = k.special ∙ sym i.special in
    let mourners : h.mourners ≡ g.mourners = k.mourners ∙ sym i.mourners in
    λ x. record {
      nodes = nodes x;
      nil = k.nil x;
      no = k.no x;
      yes = k.yes x;
      special = special x;
      classes = classes x;
      handles = handles x;
      mourners = mourners x;
      hash_state = k.hash_state x;
      next = next x;
    }
