-- A text that denotes a graph denotes each graph that differs from it in names alone. Handles and mourners do not count.
use Rattle.std.proofs.Common.{◌≡◌, ℕ, refl, sym, subst, Option}
use Rattle.std.specs.FinMap.{get-empty}
use Rattle.std.specs.Option.{option_map}
use Rattle.spur_graph.specs.declared.answer.Value.{Value}
use Rattle.spur_graph.specs.Bytes.{Text}
use Rattle.spur_graph.specs.Graph.{Graph, handle_cmp}
use Rattle.spur_graph.specs.Names.{Iso, rename}
use Rattle.spur_graph.specs.Denotes.{Denotes, bare}
use Rattle.graph_laws.proofs.Joining.{joined_graphs}

pub bare-renamed : {G H : Graph} {p back : ℕ → ℕ} → Iso G H p back → Iso (bare G) (bare H) p back
bare-renamed {p = p} k = record {
  left = k.left;
  right = k.right;
  nodes = k.nodes;
  nil = k.nil;
  no = k.no;
  yes = k.yes;
  special = k.special;
  classes = k.classes;
  handles = λ q. subst (λ (o : Option Value). o ≡ option_map (rename p) o) (sym (get-empty handle_cmp q)) refl;
  mourners = refl;
  hash_state = k.hash_state;
}

pub denotes-renamed : {bytes : Text} {G H : Graph} {p back : ℕ → ℕ} → Iso G H p back → Denotes bytes (bare H) → Denotes bytes (bare G)
denotes-renamed {p = p} {back = back} k d = record {
  accepted = d.accepted;
  place = λ a. d.place (p a);
  back = λ a. back (d.back a);
  graph = joined_graphs (bare-renamed k) d.graph;
}
