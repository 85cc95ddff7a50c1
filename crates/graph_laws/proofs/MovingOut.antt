-- Two copies and two forwarders are an exchange, up to names.
use Rattle.std.proofs.Common.{◌≡◌, ◌≢◌, ℕ, cond, refl, ap, sym, ◌∙◌, subst, arith, Option, Some, None}
use Rattle.std.proofs.lemmas.Option.{none-some}
use Rattle.std.specs.Option.{option_map, unwrap_or}
use Rattle.std.specs.List.{All}
use Rattle.std.specs.Ordering.{eq_by_cmp, nat_cmp}
use Rattle.std.specs.Cmp.{nat_cmp_total}
use Rattle.std.specs.Prelude.{map}
use Rattle.std.specs.FinMap.{get, insert, remove, get-insert, get-remove}
use Rattle.spur_graph.specs.declared.answer.Value.TheVariants.{Ref}
use Rattle.spur_graph.specs.Node.{Node}
use Rattle.spur_graph.specs.Graph.{Graph, blank, node, with_node, HasNode}
use Rattle.spur_graph.specs.Handles.{handles_total}
use Rattle.spur_graph.specs.Names.{Iso, rename, rename_node}
use Rattle.spur_graph.specs.Become.{instead, exchange, redirect}
use Rattle.spur_graph.proofs.MappedValues.{get-map_values}
use Rattle.graph_laws.specs.OutOfPlace.{crossed, moved_out, CanMove, MovesOut, AreFour}
use Rattle.graph_laws.proofs.Joining.{map-twice, option-twice, rename-twice, rename_node-twice}
use Rattle.graph_laws.proofs.Agreeing.{node-agrees, maybe_node, special-agrees, classes-agree, handles-agree, mourners-agree}
use Rattle.graph_laws.proofs.CopyingOut.{tied, untied}
pub use Rattle.graph_laws.proofs.MovingRooms.{room_moves_out}
use Rattle.graph_laws.proofs.Crossing.{at_a, at_b, at_c, at_d, at_other, by_cases, crossed-twice, led}

module _ (g : Graph) (a b c d : ℕ) (k : CanMove g a b c d) where
  abbrev p : ℕ → ℕ
  p = crossed a b c d

  -- each name is replaced in its turn
  abbrev r : ℕ → ℕ
  r x = instead b d (instead a c x)

  -- what has a node is no fresh name
  no_first : (x : ℕ) (n : Node) → get g.nodes x ≡ Some n → x ≢ c
  no_first x n e same = none-some n (sym k.fresh_first ∙ ap (get g.nodes) (sym same) ∙ e)

  no_second : (x : ℕ) (n : Node) → get g.nodes x ≡ Some n → x ≢ d
  no_second x n e same = none-some n (sym k.fresh_second ∙ ap (get g.nodes) (sym same) ∙ e)

  four : AreFour a b c d
  four = record {
    apart = k.apart;
    fresh_apart = k.fresh_apart;
    first = (no_first a (k.first).node (k.first).there, no_second a (k.first).node (k.first).there);
    second = (no_first b (k.second).node (k.second).there, no_second b (k.second).node (k.second).there);
  }

  agree : (x : ℕ) (n : Node) → get g.nodes x ≡ Some n → r x ≡ p x
  agree x n e = led four x (no_first x n e) (no_second x n e)

  -- ---- nodes

  abbrev first_copy : Node
  first_copy = record (node g b) { hash = (node g a).hash }

  abbrev second_copy : Node
  second_copy = record (node g a) { hash = (node g b).hash }

  abbrev made : Graph
  made = with_node (with_node g c first_copy) d second_copy

  pointers_of : (x : ℕ) (n : Node) → get g.nodes x ≡ Some n → All (HasNode g) (node g x).pointers
  pointers_of x n e = subst (λ o. All (HasNode g) (unwrap_or o blank).pointers) (sym e) (k.closed.all_nodes x n e).1

  had : (q : ℕ) → get (exchange g a b).nodes q ≡ cond (eq_by_cmp nat_cmp q b) (Some second_copy) (cond (eq_by_cmp nat_cmp q a) (Some first_copy) (get g.nodes q))
  had q = get-insert nat_cmp_total (insert g.nodes a first_copy) b second_copy q ∙ ap (cond (eq_by_cmp nat_cmp q b) (Some second_copy)) (get-insert nat_cmp_total g.nodes a first_copy q)

  -- what stands at a name once the copies are made, and the first name is forwarded
  abbrev inner : ℕ → Option Node
  inner x = cond (eq_by_cmp nat_cmp x a) None (cond (eq_by_cmp nat_cmp x d) (Some second_copy) (cond (eq_by_cmp nat_cmp x c) (Some first_copy) (get g.nodes x)))

  got : (x : ℕ) → get (moved_out g a b c d).nodes x ≡ option_map (rename_node (instead b d)) (cond (eq_by_cmp nat_cmp x b) None (option_map (rename_node (instead a c)) (inner x)))
  got x =
      get-map_values nat_cmp_total (rename_node (instead b d)) (remove (redirect made a c).nodes b) x
      ∙ ap (option_map (rename_node (instead b d))) (get-remove nat_cmp_total (redirect made a c).nodes b x
      ∙ ap (cond (eq_by_cmp nat_cmp x b) None) (get-map_values nat_cmp_total (rename_node (instead a c)) (remove made.nodes a) x
      ∙ ap (option_map (rename_node (instead a c))) (get-remove nat_cmp_total made.nodes a x
      ∙ ap (cond (eq_by_cmp nat_cmp x a) None) (get-insert nat_cmp_total (insert g.nodes c first_copy) d second_copy x ∙ ap (cond (eq_by_cmp nat_cmp x d) (Some second_copy)) (get-insert nat_cmp_total g.nodes c first_copy x)))))

  -- a name that is not `b` and whose node is then this
  kept : (x : ℕ) (o : Option Node) → x ≢ b → inner x ≡ o → get (moved_out g a b c d).nodes x ≡ option_map (rename_node r) o
  kept x o n e =
      got x ∙ (λ i. option_map (rename_node (instead b d)) (cond (untied x b n i) None (option_map (rename_node (instead a c)) (e i))))
      ∙ option-twice (rename_node (instead a c)) (rename_node (instead b d)) (rename_node r) (rename_node-twice (instead a c) (instead b d)) o

  abbrev correspond : ℕ → Type 0
  correspond q = get (moved_out g a b c d).nodes (p q) ≡ option_map (rename_node p) (get (exchange g a b).nodes q)

  nodes_a : correspond a
  nodes_a =
      ap (get (moved_out g a b c d).nodes) (at_a four)
      ∙ kept c (Some first_copy) (λ e. four.second.0 (sym e))
      (λ i. cond (untied c a (λ e. four.first.0 (sym e)) i) None (cond (untied c d k.fresh_apart i) (Some second_copy) (cond (tied c c refl i) (Some first_copy) (get g.nodes c))))
      ∙ ap Some (node-agrees g r p agree first_copy (pointers_of b (k.second).node (k.second).there))
      ∙ sym (ap (option_map (rename_node p)) (had a ∙ (λ i. cond (untied a b k.apart i) (Some second_copy) (cond (tied a a refl i) (Some first_copy) (get g.nodes a)))))

  nodes_c : correspond c
  nodes_c =
      ap (get (moved_out g a b c d).nodes) (at_c four)
      ∙ kept a None k.apart (ap (λ t. cond t None (cond (eq_by_cmp nat_cmp a d) (Some second_copy) (cond (eq_by_cmp nat_cmp a c) (Some first_copy) (get g.nodes a)))) (tied a a refl))
      ∙ sym (ap (option_map (rename_node p)) (had c ∙ (λ i. cond (untied c b (λ e. four.second.0 (sym e)) i) (Some second_copy) (cond (untied c a (λ e. four.first.0 (sym e)) i) (Some first_copy) (k.fresh_first i)))))

  nodes_b : correspond b
  nodes_b =
      ap (get (moved_out g a b c d).nodes) (at_b four)
      ∙ kept d (Some second_copy) (λ e. four.second.1 (sym e))
      (λ i. cond (untied d a (λ e. four.first.1 (sym e)) i) None (cond (tied d d refl i) (Some second_copy) (cond (eq_by_cmp nat_cmp d c) (Some first_copy) (get g.nodes d))))
      ∙ ap Some (node-agrees g r p agree second_copy (pointers_of a (k.first).node (k.first).there))
      ∙ sym (ap (option_map (rename_node p)) (had b ∙ ap (λ t. cond t (Some second_copy) (cond (eq_by_cmp nat_cmp b a) (Some first_copy) (get g.nodes b))) (tied b b refl)))

  nodes_d : correspond d
  nodes_d =
      ap (get (moved_out g a b c d).nodes) (at_d four)
      ∙ got b ∙ ap (λ t. option_map (rename_node (instead b d)) (cond t None (option_map (rename_node (instead a c)) (inner b)))) (tied b b refl)
      ∙ sym (ap (option_map (rename_node p)) (had d ∙ (λ i. cond (untied d b (λ e. four.second.1 (sym e)) i) (Some second_copy) (cond (untied d a (λ e. four.first.1 (sym e)) i) (Some first_copy) (k.fresh_second i)))))

  nodes_other : (x : ℕ) → x ≢ a → x ≢ c → x ≢ b → x ≢ d → correspond x
  nodes_other x na nc nb nd =
      ap (get (moved_out g a b c d).nodes) (at_other four x na nc nb nd)
      ∙ kept x (get g.nodes x) nb (λ i. cond (untied x a na i) None (cond (untied x d nd i) (Some second_copy) (cond (untied x c nc i) (Some first_copy) (get g.nodes x))))
      ∙ maybe_node g r p agree (get g.nodes x) (λ n e. (k.closed.all_nodes x n e).1)
      ∙ sym (ap (option_map (rename_node p)) (had x ∙ (λ i. cond (untied x b nb i) (Some second_copy) (cond (untied x a na i) (Some first_copy) (get g.nodes x)))))

  -- ---- the rest

  stays : (x : ℕ) → HasNode g (Ref x) → a ≢ x → b ≢ x → x ≡ p x
  stays x has na nb = let n = has x refl in sym (at_other four x (λ e. na (sym e)) (no_first x n.0 n.1) (λ e. nb (sym e)) (no_second x n.0 n.1))

  moves : Iso (exchange g a b) (moved_out g a b c d) p p
  moves = record {
    left = crossed-twice four;
    right = crossed-twice four;
    nodes = by_cases four correspond nodes_a nodes_c nodes_b nodes_d nodes_other;
    nil = stays g.nil (k.closed.names 0 0 (omega arith)) (k.first).no_nil (k.second).no_nil;
    no = stays g.no (k.closed.names 1 0 (omega arith)) (k.first).no_false (k.second).no_false;
    yes = stays g.yes (k.closed.names 2 0 (omega arith)) (k.first).no_true (k.second).no_true;
    special = rename-twice (instead a c) (instead b d) g.special ∙ special-agrees g r p agree k.closed;
    classes = λ i.
        get-map_values nat_cmp_total (rename (instead b d)) (redirect made a c).classes i ∙ ap (option_map (rename (instead b d))) (get-map_values nat_cmp_total (rename (instead a c)) g.classes i)
        ∙ option-twice (rename (instead a c)) (rename (instead b d)) (rename r) (rename-twice (instead a c) (instead b d)) (get g.classes i) ∙ classes-agree g r p agree k.closed i;
    handles = λ h.
        get-map_values handles_total (rename (instead b d)) (redirect made a c).handles h ∙ ap (option_map (rename (instead b d))) (get-map_values handles_total (rename (instead a c)) g.handles h)
        ∙ option-twice (rename (instead a c)) (rename (instead b d)) (rename r) (rename-twice (instead a c) (instead b d)) (get g.handles h) ∙ handles-agree g r p agree k.closed h;
    mourners = map-twice (map (instead a c)) (map (instead b d)) (map r) (map-twice (instead a c) (instead b d) r (λ x. refl)) g.mourners ∙ mourners-agree g r p agree k.closed;
    hash_state = refl;
  }

pub moves_out : MovesOut
moves_out g a b c d k = moves g a b c d k
