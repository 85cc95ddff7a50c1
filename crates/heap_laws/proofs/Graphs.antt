-- The graph under moved places is that of what is kept.
use Rattle.std.proofs.Common.{◌≡◌, ℕ, Bool, true, false, cond, not, ◌&&◌, ◌<◌, List, map, get_or, refl, sym, ap, ◌∙◌, subst, arith, inl, inr, Some, None, Option}
use Rattle.std.proofs.lemmas.Bool.{false≢true, cases_Bool, and_parts, cond-true, cond-false}
use Rattle.std.proofs.lemmas.List.Elements.{filter_agree, filter_passes, recursion_from_All}
use Rattle.std.specs.Option.{option_map}
use Rattle.std.specs.List.{filter, range_with_len}
use Rattle.std.specs.Ordering.{nat_cmp}
use Rattle.std.specs.FinMap.{FinMap, get, from_entries}
use Rattle.spur_graph.specs.Node.{Node}
use Rattle.spur_graph.specs.Graph.{Graph}
use Rattle.spur_graph.specs.Names.{Iso, rename, rename_node}
use Rattle.spur_graph.specs.Cells.{Store, first}
use Rattle.spur_graph.specs.Ordinary.{class_limit, body_at, is_ordinary, ordinary_starts, has_page, entry}
use Rattle.spur_graph.specs.CellGraph.{read, node_of, nodes_of, has_class, classes_of}
use Rattle.heap_cells.proofs.CellKinds.{there_starts}
use Rattle.heap_cells.proofs.Kept.{all_kept}
use Rattle.heap_cells.proofs.Finding.{get-renamed, get-member, get-at}
use Rattle.heap_cells.proofs.Members.{In, in_list, in_filter, filter_in}
use Rattle.heap_cells.proofs.References.{ordinary_there}
use Rattle.heap_laws.specs.Placed.{Outside, IsPlacedOutside, CanPlace, ArePaired, kept_nodes, kept_graph, graph_under}
use Rattle.spur_graph.specs.Heaps.{own_name}
use Rattle.heap_laws.specs.Placing.{PlacedIsSameGraph, AllAreKept, KeptByName, KeptUnderIso}
use Rattle.heap_laws.proofs.Places.{first-kept, first-placed, ordinary-placed}
use Rattle.heap_laws.proofs.Words.{read-placed}
use Rattle.heap_laws.proofs.Classes.{entry-placed, has_class-placed}
use Rattle.heap_laws.proofs.Nodes.{node-placed}
use Rattle.heap_laws.proofs.Tables.{get-placed}
use Rattle.heap_laws.proofs.Outsides.{handles-placed, mourners-placed}
use Rattle.graph_laws.proofs.Values.{one_to_one}

module _ (p : ℕ → ℕ) (keep : ℕ → Bool) (old new : Store) (name name' pp back : ℕ → ℕ) (k : CanPlace p keep old new)
    (apart : (s t : ℕ) → keep s ≡ true → keep t ≡ true → name s ≡ name t → s ≡ t) (r : ArePaired p keep old name name' pp back) where
  kept_in : (s : ℕ) → In (filter keep (ordinary_starts old)) s → (keep s ≡ true) × (is_ordinary old s ≡ true)
  unfolding ordinary_starts
  kept_in s m = let f = filter_in keep (ordinary_starts old) s m in (f.1, (filter_in (is_ordinary old) old.starts s f.0).1)

  in_kept : (s : ℕ) → keep s ≡ true → is_ordinary old s ≡ true → In (filter keep (ordinary_starts old)) s
  unfolding ordinary_starts
  in_kept s e o = in_filter keep (ordinary_starts old) s (in_filter (is_ordinary old) old.starts s (in_list old.starts s (k.reads.inside s (there_starts (old.cell s) (k.placed.some s e)))) o) e

  in_new : (s : ℕ) → keep s ≡ true → is_ordinary old s ≡ true → In (ordinary_starts new) (p s)
  unfolding ordinary_starts
  in_new s e o = in_filter (is_ordinary new) new.starts (p s) (in_list new.starts (p s) (k.reads_new.inside (p s) (there_starts (new.cell (p s)) (k.placed.objects s e).there))) (ordinary-placed k s e ∙ o)

  -- an ordinary object of `new` is one that is kept
  record Comes (t : ℕ) : Type 0 where
    from : ℕ
    kept : keep from ≡ true
    ordinary : is_ordinary old from ≡ true
    is : p from ≡ t

  comes : (t : ℕ) → In (ordinary_starts new) t → Comes t
  unfolding ordinary_starts
  comes t m =
      let o = (filter_in (is_ordinary new) new.starts t m).1 in
      let b = k.placed.back t (ordinary_there new t o) in
      record { from = b.0; kept = b.1; ordinary = sym (ordinary-placed k b.0 b.1) ∙ ap (is_ordinary new) b.2 ∙ o; is = b.2 }

  named_once : (t u : ℕ) → In (ordinary_starts new) t → In (ordinary_starts new) u → name' t ≡ name' u → t ≡ u
  named_once t u m n e =
      let c = comes t m in
      let d = comes u n in
      let same : pp (name c.from) ≡ pp (name d.from) = r.named c.from c.kept c.ordinary ∙ ap name' c.is ∙ e ∙ sym (ap name' d.is) ∙ sym (r.named d.from d.kept d.ordinary) in
      sym c.is ∙ ap p (apart c.from d.from c.kept d.kept (one_to_one pp back r.left (name c.from) (name d.from) same)) ∙ d.is

  nodes-placed : (a : ℕ) → get (nodes_of name' new) (pp a) ≡ option_map (rename_node pp) (get (kept_nodes name keep old) a)
  unfolding nodes_of kept_nodes
  nodes-placed a = get-placed pp (one_to_one pp back r.left) (rename_node pp) name name' (λ s. node_of name old (body_at old s)) (λ t. node_of name' new (body_at new t)) (filter keep (ordinary_starts old)) (ordinary_starts new)
      (λ s m. let e = kept_in s m in (p s, in_new s e.0 e.1, r.named s e.0 e.1, node-placed k name name' pp r.named s e.0 e.1))
      (λ t m. let c = comes t m in (c.from, in_kept c.from c.kept c.ordinary, r.named c.from c.kept c.ordinary ∙ ap name' c.is))
      (λ s t m n e. ap (λ u. node_of name old (body_at old u)) (sym (apart s t (kept_in s m).0 (kept_in t n).0 e)))
      (λ t u m n e. ap (λ v. node_of name' new (body_at new v)) (sym (named_once t u m n e)))
      a

  classes-placed : (i : ℕ) → get (classes_of name' new) i ≡ option_map (rename pp) (get (classes_of name old) i)
  unfolding classes_of
  classes-placed i = classes class_limit i
    where
      classes : (n i : ℕ) → get (from_entries {R = nat_cmp} (map (λ j. (j, read name' new (entry new j))) (filter (has_class new) (range_with_len 0 n)))) i
          ≡ option_map (rename pp) (get (from_entries {R = nat_cmp} (map (λ j. (j, read name old (entry old j))) (filter (has_class old) (range_with_len 0 n)))) i)
      classes n i =
          let all = recursion_from_All (λ j. (j ≡ j) × (read name' new (entry new j) ≡ rename pp (read name old (entry old j)))) (filter (has_class old) (range_with_len 0 n))
          (λ m d l. let e : has_class old (get_or (filter (has_class old) (range_with_len 0 n)) m d) ≡ true = filter_passes (has_class old) (range_with_len 0 n) m d l in
          let j : ℕ = get_or (filter (has_class old) (range_with_len 0 n)) m d in
          (refl, read-placed k name name' pp r.named (entry old j) (entry new j) (entry-placed k j (and_parts (has_page old j) _ e).0))) in
          ap (λ js. get (from_entries {R = nat_cmp} (map (λ j. (j, read name' new (entry new j))) js)) i) (filter_agree (has_class new) (has_class old) (has_class-placed k) (range_with_len 0 n))
          ∙ get-renamed (λ j. j) (λ a b e. e) (rename pp) (λ j. j) (λ j. j) (λ j. read name old (entry old j)) (λ j. read name' new (entry new j)) i (filter (has_class old) (range_with_len 0 n)) all

  first-named : (j : ℕ) → j < 3 → name' (first new j) ≡ pp (name (first old j))
  first-named j l =
      let m : j < 5 = omega (arith, l) in
      let ordinary : is_ordinary old (first old j) ≡ true = λ x. k.loadable.objects j m x && not (k.outer j l x) in
      ap name' (first-placed k j m) ∙ sym (r.named (first old j) (first-kept k j m) ordinary)

  pub graph-placed : (o o' : Outside) (hash next next' : ℕ) → IsPlacedOutside p keep old new o o'
      → Iso (kept_graph name keep old o.special o.held o.groups hash next) (graph_under name' new o'.special o'.held o'.groups hash next') pp back
  graph-placed o o' hash next next' out = record {
    left = r.left;
    right = r.right;
    nodes = nodes-placed;
    nil = first-named 0 (omega arith);
    no = first-named 1 (omega arith);
    yes = first-named 2 (omega arith);
    special = read-placed k name name' pp r.named o.special o'.special out.special;
    classes = classes-placed;
    handles = handles-placed k name name' pp r.named o o' out;
    mourners = mourners-placed k name name' pp r.named o o' out;
    hash_state = refl;
  }

pub placed_is_same_graph : PlacedIsSameGraph
placed_is_same_graph p keep old new name name' place back o o' hash next next' k apart r out = graph-placed p keep old new name name' place back k apart r o o' hash next next' out

pub all_are_kept : AllAreKept
unfolding kept_nodes nodes_of ordinary_starts
all_are_kept keep h name all =
    let kept : filter keep (filter (is_ordinary h) h.starts) ≡ filter (is_ordinary h) h.starts = all_kept keep (filter (is_ordinary h) h.starts)
    (recursion_from_All (λ s. keep s ≡ true) (filter (is_ordinary h) h.starts) (λ j d l. all (get_or (filter (is_ordinary h) h.starts) j d) (filter_passes (is_ordinary h) h.starts j d l))) in
    ap (λ ss. from_entries {R = nat_cmp} (map (λ s. (name s, node_of name h (body_at h s))) ss)) kept

-- what is kept stands for the whole graph, where each ordinary object is kept
pub whole-graph : (keep : ℕ → Bool) (h : Store) (name : ℕ → ℕ) (o : Outside) (hash next : ℕ) {g : Graph} {place back : ℕ → ℕ} → ((s : ℕ) → is_ordinary h s ≡ true → keep s ≡ true)
    → Iso (kept_graph name keep h o.special o.held o.groups hash next) g place back → Iso (graph_under name h o.special o.held o.groups hash next) g place back
whole-graph keep h name o hash next {g} {place} {back} all = subst (λ ns. Iso (record (graph_under name h o.special o.held o.groups hash next) { nodes = ns }) g place back) (all_are_kept keep h name all)

pub kept_by_name : KeptByName
unfolding kept_nodes nodes_of ordinary_starts
kept_by_name keep live h name a apart is = elim (cases_Bool (live a)) [
  | inl on ↦ same on ∙ sym (cond-true (live a) (get all a) None on)
  | inr off ↦ none off ∙ sym (cond-false (live a) (get all a) None off)
]
  where
    F : ℕ → Node
    F s = node_of name h (body_at h s)

    os : List ℕ
    os = filter (is_ordinary h) h.starts

    all : FinMap nat_cmp Node
    all = from_entries {R = nat_cmp} (map (λ s. (name s, F s)) os)

    some : FinMap nat_cmp Node
    some = from_entries {R = nat_cmp} (map (λ s. (name s, F s)) (filter keep os))

    ordinary : (s : ℕ) → In os s → is_ordinary h s ≡ true
    ordinary s m = (filter_in (is_ordinary h) h.starts s m).1

    at_all : (s : ℕ) → In os s → get all (name s) ≡ Some (F s)
    at_all s m = get-at name F s os (λ t n e. ap F (sym (apart s t (ordinary s m) (ordinary t n) e))) m

    at_some : (s : ℕ) → In (filter keep os) s → get some (name s) ≡ Some (F s)
    at_some s m = get-at name F s (filter keep os) (λ t n e. ap F (sym (apart s t (ordinary s (filter_in keep os s m).0) (ordinary t (filter_in keep os t n).0) e))) m

    same : live a ≡ true → get some a ≡ get all a
    same on = elim (get all a) as (λ o. get all a ≡ o → get some a ≡ o) [
      | None ↦ λ e. elim (get some a) as (λ o. get some a ≡ o → o ≡ None) [
        | None ↦ λ i. refl
        | Some u ↦ λ i.
            let m = get-member name F a (filter keep os) u i in
            let x = at_all m.0 (filter_in keep os m.0 m.1).0 in
            let y : get all (name m.0) ≡ None = ap (get all) m.2 ∙ e in
            absurd cc
      ] refl
      | Some v ↦ λ e.
          let m = get-member name F a os v e in
          let kept : keep m.0 ≡ true = is m.0 (ordinary m.0 m.1) ∙ ap live m.2 ∙ on in
          ap (get some) (sym m.2) ∙ at_some m.0 (in_filter keep os m.0 m.1 kept) ∙ ap (λ w. Some w) m.3
    ] refl

    none : live a ≡ false → get some a ≡ None
    none off = elim (get some a) as (λ o. get some a ≡ o → o ≡ None) [
      | None ↦ λ i. refl
      | Some u ↦ λ i.
          let m = get-member name F a (filter keep os) u i in
          let f = filter_in keep os m.0 m.1 in
          absurd (false≢true (sym off ∙ sym (ap live m.2) ∙ sym (is m.0 (ordinary m.0 f.0)) ∙ f.1))
    ] refl

-- to choose what a function gives, or to apply it to what is chosen
mapped : {X Y : Type 0} (f : X → Y) (b : Bool) (o : Option X) → cond b (option_map f o) None ≡ option_map f (cond b o None)
mapped f true o = refl
mapped f false o = refl

pub kept_under_iso : KeptUnderIso
kept_under_iso live keep g without old o hash next place back iso w same =
    let kept : Iso (record g { nodes = without.nodes }) (kept_graph own_name keep old o.special o.held o.groups hash next) place back = record {
      left = iso.left;
      right = iso.right;
      nodes = λ a.
          kept_by_name keep (λ b. live (back b)) old own_name (place a) (λ s t x y e. e) same
          ∙ ap (λ b. cond (live b) (get (nodes_of own_name old) (place a)) None) (iso.left a)
          ∙ ap (λ n. cond (live a) n None) (iso.nodes a)
          ∙ mapped (rename_node place) (live a) (get g.nodes a)
          ∙ ap (option_map (rename_node place)) (sym (w.nodes a));
      nil = iso.nil;
      no = iso.no;
      yes = iso.yes;
      special = iso.special;
      classes = iso.classes;
      handles = iso.handles;
      mourners = iso.mourners;
      hash_state = iso.hash_state;
    } in
    subst (λ x. Iso x (kept_graph own_name keep old o.special o.held o.groups hash next) place back) (sym w.rest) kept
