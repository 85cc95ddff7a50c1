-- What is asked of a name once another name has a node, and once another name was forwarded.
use Rattle.std.proofs.Common.{◌≡◌, ◌≢◌, ℕ, Bool, true, false, cond, not, ◌&&◌, ◌||◌, nat_eq, List, [], ◌∷◌, map, refl, sym, ap, ◌∙◌, inl, inr, Some, None, Option}
use Rattle.std.proofs.lemmas.Bool.{cases_eq, eq-eqb, ne_eqb}
use Rattle.std.proofs.lemmas.Option.{none-some}
use Rattle.std.proofs.lemmas.List.Elements.{recursion_from_All}
use Rattle.std.specs.Option.{option_map, unwrap_or}
use Rattle.std.specs.Ordering.{eq_by_cmp, nat_cmp}
use Rattle.std.specs.Cmp.{nat_cmp_total}
use Rattle.std.specs.List.{list_any, AllByRecursion}
use Rattle.std.specs.FinMap.{get, insert, remove, get-insert, get-remove, same_map, nat_cmp-IsAntisymmetric}
use Rattle.spur_graph.specs.Node.{Node}
use Rattle.spur_graph.specs.Graph.{Graph, IsClosed, blank, node, with_node, waiting}
use Rattle.spur_graph.specs.Names.{rename_node}
use Rattle.spur_graph.specs.Instances.{has_entered, is_entry}
use Rattle.spur_graph.specs.Refusals.{waits}
use Rattle.spur_graph.specs.Become.{instead, redirect}
use Rattle.spur_graph.proofs.MappedValues.{get-map_values}
use Rattle.graph_laws.proofs.Named.{get-here, get-there}
use Rattle.graph_laws.proofs.Becoming.{waiting-mapped}
use Rattle.graph_laws.proofs.CopyingOut.{untied}

-- ---- a name has a node

module _ (g : Graph) (c : ℕ) (n : Node) where
  pub node_here : node (with_node g c n) c ≡ n
  node_here = ap (λ o. unwrap_or o blank) (get-here g c n)

  pub node_other : (q : ℕ) → q ≢ c → node (with_node g c n) q ≡ node g q
  node_other q d = ap (λ o. unwrap_or o blank) (get-there g c n q d)

  -- a name that is given no hash is no entered class
  pub unentered_here : n.hash ≡ 0 → has_entered (with_node g c n) c ≡ false
  unentered_here none =
      let hash = ap (λ (m : Node). m.hash) node_here ∙ none in
      ap (λ t. not t && is_entry c (get g.classes (node (with_node g c n) c).hash)) (eq-eqb (node (with_node g c n) c).hash 0 hash)

  pub entered_other : (q : ℕ) → q ≢ c → has_entered (with_node g c n) q ≡ has_entered g q
  entered_other q d = ap (λ (m : Node). not (nat_eq m.hash 0) && is_entry q (get g.classes m.hash)) (node_other q d)

-- a name beside two that have nodes
pub node_beside : (g : Graph) (c d : ℕ) (m n : Node) (q : ℕ) → q ≢ c → q ≢ d → node (with_node (with_node g c m) d n) q ≡ node g q
node_beside g c d m n q nc nd = node_other (with_node g c m) d n q nd ∙ node_other g c m q nc

-- two names that have nodes, and get others: the first nodes count no more
pub overwritten : (g : Graph) (c d : ℕ) (x y m n : Node) → with_node (with_node (with_node (with_node g c x) d y) c m) d n ≡ with_node (with_node g c m) d n
overwritten g c d x y m n =
    let old = insert (insert g.nodes c x) d y in
    let one : (q : ℕ) → get (insert (insert old c m) d n) q ≡ get (insert (insert g.nodes c m) d n) q = λ q.
    get-insert nat_cmp_total (insert old c m) d n q
    ∙ ap (cond (eq_by_cmp nat_cmp q d) (Some n)) (get-insert nat_cmp_total old c m q
    ∙ ap (cond (eq_by_cmp nat_cmp q c) (Some m)) (get-insert nat_cmp_total (insert g.nodes c x) d y q
    ∙ ap (cond (eq_by_cmp nat_cmp q d) (Some y)) (get-insert nat_cmp_total g.nodes c x q)))
    ∙ by (eq_by_cmp nat_cmp q d) (eq_by_cmp nat_cmp q c) (get g.nodes q)
    ∙ sym (get-insert nat_cmp_total (insert g.nodes c m) d n q ∙ ap (cond (eq_by_cmp nat_cmp q d) (Some n)) (get-insert nat_cmp_total g.nodes c m q)) in
    ap (λ nodes. record g { nodes = nodes }) (same_map nat_cmp_total nat_cmp-IsAntisymmetric (insert (insert old c m) d n) (insert (insert g.nodes c m) d n) one)
  where
    by : (at_d at_c : Bool) (o : Option Node) → cond at_d (Some n) (cond at_c (Some m) (cond at_d (Some y) (cond at_c (Some x) o))) ≡ cond at_d (Some n) (cond at_c (Some m) o)
    by true at_c o = refl
    by false true o = refl
    by false false o = refl

-- a name that has no node waits nowhere
pub fresh_awake : (g : Graph) → IsClosed g → (c : ℕ) → get g.nodes c ≡ None → waits g c ≡ false
fresh_awake g closed c fresh = none_of (waiting g) (recursion_from_All (λ a. (n : Node) × (get g.nodes a ≡ Some n) × (n.format ≡ 1)) (waiting g) closed.fired)
  where
    none_of : (names : List ℕ) → AllByRecursion (λ a. (n : Node) × (get g.nodes a ≡ Some n) × (n.format ≡ 1)) names → list_any (nat_eq c) names ≡ false
    none_of [] all = refl
    none_of (a ∷ names) all = λ i. ne_eqb c a (λ e. none-some all.0.0 (sym fresh ∙ ap (get g.nodes) e ∙ all.0.1)) i || none_of names all.1 i

-- ---- a name was forwarded

module _ (g : Graph) (a b : ℕ) where
  -- the hash of another name stays
  pub hash_led : (q : ℕ) → q ≢ a → (node (redirect g a b) q).hash ≡ (node g q).hash
  hash_led q d =
      ap (λ o. (unwrap_or o blank).hash) (get-map_values nat_cmp_total (rename_node (instead a b)) (remove g.nodes a) q
      ∙ ap (option_map (rename_node (instead a b))) (get-remove nat_cmp_total g.nodes a q ∙ ap (λ t. cond t None (get g.nodes q)) (untied q a d)))
      ∙ by (get g.nodes q)
    where
      by : (o : Option Node) → (unwrap_or (option_map (rename_node (instead a b)) o) blank).hash ≡ (unwrap_or o blank).hash
      by None = refl
      by (Some n) = refl

  -- a name that is neither of the two waits as it did
  pub waits_led : (q : ℕ) → q ≢ a → q ≢ b → waits (redirect g a b) q ≡ waits g q
  waits_led q da db = ap (list_any (nat_eq q)) (waiting-mapped (instead a b) g.mourners) ∙ each (waiting g)
    where
      one : (x : ℕ) → nat_eq q (instead a b x) ≡ nat_eq q x
      one x = elim (cases_eq x a) [
        | inl e ↦ ap (λ t. nat_eq q (cond t b x)) (eq-eqb x a e) ∙ ne_eqb q b db ∙ sym (ne_eqb q x (λ f. da (f ∙ e)))
        | inr n ↦ ap (λ t. nat_eq q (cond t b x)) (ne_eqb x a n)
      ]

      each : (names : List ℕ) → list_any (nat_eq q) (map (instead a b) names) ≡ list_any (nat_eq q) names
      each [] = refl
      each (x ∷ names) = λ i. one x i || each names i
