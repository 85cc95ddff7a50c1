-- With nothing left to clear, the space that is being left goes: what stays stands for the graph without the dead names.
use Rattle.std.proofs.Common.{◌≡◌, ◌≢◌, ℕ, Bool, true, false, not, ◌&&◌, ◌+◌, ◌/◌, ◌%◌, ◌<◌, cond, eqb, List, [], ◌∷◌, ◌++◌, map, take, drop, get_or, refl, sym, ap, ◌∙◌, subst, inl, inr, arith, Some, None, Option}
use Rattle.std.proofs.lemmas.Bool.{false≢true, cases_eq, eq-eqb, ne_eqb, and_parts, not-true}
use Rattle.std.proofs.lemmas.List.{drop-map, take-append-drop}
use Rattle.std.proofs.lemmas.List.Sums.{sum_by-cons}
use Rattle.std.proofs.lemmas.List.Elements.{recursion_from_All, All-drop, All-contains, Contains-get_or}
use Rattle.std.proofs.lemmas.Option.{same_Some}
use Rattle.std.specs.Option.{option_map}
use Rattle.std.specs.List.{All, AllByRecursion, count_by, sum_by}
use Rattle.std.specs.Cmp.{nat_cmp_total}
use Rattle.std.specs.FinMap.{get, entries, retain_keys, same_map, nat_cmp-IsAntisymmetric}
use Rattle.spur_graph.specs.declared.answer.Value.TheVariants.{Ref}
use Rattle.spur_graph.specs.Node.{Node}
use Rattle.spur_graph.specs.Graph.{Graph}
use Rattle.spur_graph.specs.Live.{fixed_of, strong_count, weak_values}
use Rattle.spur_graph.specs.Rounds.{names_dead, without_dead, swept, nils}
use Rattle.spur_graph.specs.Cells.{Body, Cell, Empty, Moved, There, Store, no_body, is_start, is_there, body_of, first, final, pointers, pointer_count}
use Rattle.spur_graph.specs.Ordinary.{body_at, page_places, root_slot, is_ordinary, is_good_word}
use Rattle.spur_graph.specs.CellGraph.{read, node_of, nodes_of}
use Rattle.spur_graph.specs.Heaps.{heap_to}
use Rattle.heap_cells.proofs.Below.{at-named}
use Rattle.heap_cells.proofs.Bodies.{pointers_fit, all_pointers}
use Rattle.heap_cells.proofs.Internals.{a_page, place_cases}
use Rattle.heap_cells.proofs.References.{ordinary_there, ordinary_apart}
use Rattle.heap_cells.proofs.WholeClosed.{sound_loadable, heap_aligned}
use Rattle.graph_laws.proofs.Sweeping.{get-live, get-swept}
use Rattle.heap_laws.specs.Placed.{Outside, graph_under, kept_graph, kept_nodes, ArePaired, CanPlace, IsPlacedOutside}
use Rattle.heap_laws.specs.Instances.{IsGoodOutside, IsSwept, live_objects, same_place}
use Rattle.heap_laws.proofs.Good.{outside_good}
use Rattle.heap_laws.proofs.Graphs.{graph-placed, kept_by_name}
use Rattle.heap_laws.proofs.Loads.{sound-placed}
use Rattle.heap_laws.proofs.Named.{outside-swept}
use Rattle.heap_laws.proofs.Swept.{swept_placed, swept_tops}
use Rattle.scavenge_laws.specs.Copying.{IsClear, IsHeapStore}
use Rattle.scavenge_laws.specs.Ending.{Ending, Drops}
use Rattle.scavenge_laws.proofs.Sames.{same_graph}
use Rattle.scavenge_laws.proofs.Keeping.{once}
use Rattle.scavenge_laws.proofs.Outer.{first-outside, page_internal, stays-outside}
use Rattle.scavenge_laws.proofs.Values.{front_in, node-pointers, slot-word}
use Rattle.scavenge_laws.proofs.Places.{place-comes, ordinary-body}
use Rattle.scavenge_laws.proofs.Cleared.{or_nil, lives-by, word-dead}
use Rattle.scavenge_laws.proofs.Weak.{without-weak, without-else, weak-now, weak-values}
use Rattle.scavenge_laws.proofs.Sums.{sum-none}

module _ {young : ℕ → Bool} {g : Graph} {live : ℕ → Bool} {old : Store} {o : Outside} {left : ℕ → Type 0} {done : ℕ} {p q : ℕ → ℕ} (c : Ending young g live old o left done p q) (none : (s : ℕ) → left s → ⊥) where
  clear : (s : ℕ) (b : Body) → young s ≡ false → s ≢ first old 3 → old.cell s ≡ There b → All (IsClear young) (pointers b)
  clear s b out n e = elim (c.clear s b out n e) [ inl d ↦ absurd (none s d) | inr d ↦ d ]

  -- ---- nodes of which nothing is dead

  -- a clear word names nothing that is dead
  word-live : (w : ℕ) → is_good_word old w ≡ true → IsClear young w → names_dead live (read q old w) ≡ false
  word-live w good is = word-dead c.heap c.outer c.places c.standing w good ∙ elim (cases_eq (w % 8) 0) [
    | inl z ↦ ap (λ t. t && young (final old (w / 8))) (eq-eqb (w % 8) 0 z) ∙ stays-outside young old c.moved (w / 8) (is z)
    | inr n ↦ ap (λ t. t && young (final old (w / 8))) (ne_eqb (w % 8) 0 n)
  ]

  values-live : (ws : List ℕ) → AllByRecursion (λ w. names_dead live (read q old w) ≡ false) ws → map (or_nil live g.nil) (map (read q old) ws) ≡ map (read q old) ws
  values-live [] all = refl
  values-live (w ∷ ws) all = λ i. cond (all.0 i) (Ref g.nil) (read q old w) ∷ values-live ws all.1 i

  none-dead : (ws : List ℕ) → AllByRecursion (λ w. names_dead live (read q old w) ≡ false) ws → count_by (names_dead live) (map (read q old) ws) ≡ 0
  none-dead [] all = refl
  none-dead (w ∷ ws) all = sum_by-cons (λ v. cond (names_dead live v) 1 0) (read q old w) (map (read q old) ws) ∙ (λ i. cond (all.0 i) 1 0 + none-dead ws all.1 i)

  module _ (s : ℕ) (on : is_ordinary old s ≡ true) (out : young s ≡ false) where
    abbrev b : Body
    b = body_at old s

    -- the words behind the first `k`
    all-live : (k : ℕ) → AllByRecursion (λ w. names_dead live (read q old w) ≡ false) (drop k (pointers (body_at old s)))
    all-live k = recursion_from_All (λ w. names_dead live (read q old w) ≡ false) (drop k (pointers (body_at old s))) (All-drop (λ w. names_dead live (read q old w) ≡ false) k (pointers (body_at old s))
        (λ i d l. word-live (get_or (pointers (body_at old s)) i d) (slot-word old c.heap.store.sound s on (get_or (pointers (body_at old s)) i d) (Contains-get_or (pointers (body_at old s)) i d l)) (clear s (body_at old s) out (ordinary_apart old s on).1 (ordinary-body old s on) i d l)))

    abbrev fixed : ℕ
    fixed = fixed_of g (get g.classes (node_of q old (body_at old s)).class)

    dropped : drop fixed (node_of q old (body_at old s)).pointers ≡ map (read q old) (drop fixed (pointers (body_at old s)))
    dropped = ap (drop fixed) (node-pointers q old (body_at old s)) ∙ drop-map (read q old) fixed (pointers (body_at old s))

    node-live : without_dead g live (node_of q old (body_at old s)) ≡ node_of q old (body_at old s)
    node-live = by (eqb (node_of q old (body_at old s)).format 4) refl
      where
        by : (t : Bool) → eqb (node_of q old (body_at old s)).format 4 ≡ t → without_dead g live (node_of q old (body_at old s)) ≡ node_of q old (body_at old s)
        by false e = without-else g live (node_of q old (body_at old s)) e
        by true e =
            without-weak g live (node_of q old (body_at old s)) e
            ∙ ap (λ vs. record (node_of q old (body_at old s)) { pointers = vs })
            ((λ i. take fixed (node_of q old (body_at old s)).pointers ++ (ap (map (or_nil live g.nil)) dropped ∙ values-live (drop fixed (pointers (body_at old s))) (all-live fixed) ∙ sym dropped) i)
            ∙ take-append-drop fixed (node_of q old (body_at old s)).pointers)

    node-none : count_by (names_dead live) (weak_values g (node_of q old (body_at old s))) ≡ 0
    node-none = by (eqb (node_of q old (body_at old s)).format 4) refl
      where
        by : (t : Bool) → eqb (node_of q old (body_at old s)).format 4 ≡ t → count_by (names_dead live) (weak_values g (node_of q old (body_at old s))) ≡ 0
        by true e = ap (count_by (names_dead live)) (weak-values g live (node_of q old (body_at old s)) e ∙ dropped) ∙ none-dead (drop fixed (pointers (body_at old s))) (all-live fixed)
        by false e = ap (λ t. count_by (names_dead live) (cond t (drop (strong_count g (node_of q old (body_at old s))) (node_of q old (body_at old s)).pointers) [])) e

  -- where a live name stands
  live-place : (a : ℕ) → live a ≡ true → (is_ordinary old (p a) ≡ true) × (young (p a) ≡ false)
  live-place a on = let parts = and_parts (is_ordinary old (p a)) (not (young (p a))) (sym (c.standing a) ∙ on) in (parts.0, not-true (young (p a)) parts.1)

  -- nothing is left to count
  pub none-left : done ≡ nils live g
  none-left =
      let zero : nils live (record g { nodes = nodes_of q old }) ≡ 0 =
      (λ i. sum_by (λ e. count_by (names_dead live) (weak-now g live (nodes_of q old) c.nodes e.1 i)) (entries (retain_keys (nodes_of q old) live)))
      ∙ sum-none (λ e. count_by (names_dead live) (weak_values g e.1)) (retain_keys (nodes_of q old) live) (λ a n e. at a n (live a) refl (sym (get-live (record g { nodes = nodes_of q old }) live a) ∙ e)) in
      let all = c.nilled in
      omega (arith, zero, all)
    where
      at : (a : ℕ) (n : Node) (t : Bool) → live a ≡ t → cond t (get (nodes_of q old) a) None ≡ Some n → count_by (names_dead live) (weak_values g n) ≡ 0
      at a n false off e = absurd cc
      at a n true on e =
          let m = place-comes c.heap c.places a n e in
          let l = live-place a on in
          ap (λ x. count_by (names_dead live) (weak_values g x)) m.1 ∙ node-none (p a) l.0 l.1

  -- ---- what stays

  module _ {new : Store} (d : Drops young old new) where
    stays : ℕ → Bool
    stays s = not (young s)

    word-named : (w t : ℕ) → IsClear young w → old.to w ≡ Some t → not (young t) ≡ true
    word-named w t is e =
        let heap : heap_to w ≡ Some t = sym (c.heap.to w) ∙ e in
        let z = heap_aligned w t heap in
        let at : w / 8 ≡ t = same_Some (w / 8) t (sym (ap (λ b. cond b (Some (w / 8)) None) (eq-eqb (w % 8) 0 z)) ∙ heap) in
        ap not (ap young (sym at) ∙ is z)

    pages : (i s : ℕ) → i < page_places → old.to (root_slot old i) ≡ Some s → not (young s) ≡ true
    pages i s l e = elim (place_cases (sound_loadable old c.heap.store.sound) i l) [
      | inl nil ↦ let is : first old 0 ≡ s = same_Some _ _ (sym (at-named (first old 0) (old.to (root_slot old i)) nil) ∙ e) in ap not (ap young (sym is) ∙ c.outer.firsts 0 (omega arith))
      | inr page ↦ let r = a_page old i page in let is : r.0 ≡ s = same_Some _ _ (sym r.1.named ∙ e) in ap not (ap young (sym is) ∙ c.outer.inner r.0 (page_internal old i r.0 l r.1))
    ]

    slots : (s i t : ℕ) → not (young s) ≡ true → s ≢ first old 3 → s ≢ first old 4 → i < pointer_count (body_at old s) → old.to (get_or (body_at old s).words i 0) ≡ Some t → not (young t) ≡ true
    slots s i t on three four l e = by (old.cell s) refl
      where
        by : (x : Cell) → old.cell s ≡ x → not (young t) ≡ true
        by (There b) is =
            let n : body_at old s ≡ b = ap body_of is in
            let formed = c.heap.store.sound.formed s (ap is_there is) in
            let fit = pointers_fit (body_at old s) formed in
            word-named (get_or (body_at old s).words i 0) t
            (All-contains (IsClear young) (pointers (body_at old s)) (get_or (body_at old s).words i 0) (subst (λ (x : Body). All (IsClear young) (pointers x)) (sym n) (clear s b (not-true (young s) on) three is)) (front_in (pointer_count (body_at old s)) (body_at old s).words i l (omega (arith, l, fit)))) e
        by Empty is = absurd (none_there (ap body_of is))
          where
            none_there : body_at old s ≡ no_body → ⊥
            none_there n = let z : pointer_count (body_at old s) ≡ 0 = ap pointer_count n ∙ all_pointers no_body (omega arith) in omega (arith, l, z)
        by (Moved u) is = absurd (none_there (ap body_of is))
          where
            none_there : body_at old s ≡ no_body → ⊥
            none_there n = let z : pointer_count (body_at old s) ≡ 0 = ap pointer_count n ∙ all_pointers no_body (omega arith) in omega (arith, l, z)

    swept-store : IsSwept (λ s. not (young s)) old new
    swept-store = record {
      before = c.heap.store;
      reads = d.keeps.reads;
      cells = λ t. d.cells t ∙ turned (young t) (old.cell t);
      names = d.keeps.names;
      to = d.keeps.to;
      five = d.keeps.five;
      firsts = λ j l. (ap not (first-outside c.outer j l), d.keeps.firsts j l);
      pages = pages;
      targets = λ s t on e. ap not (c.moved s t (not-true (young s) on) e);
      slots = slots;
    }
      where
        turned : (b : Bool) (x : Cell) → cond b Empty x ≡ cond (not b) x Empty
        turned true x = refl
        turned false x = refl

    keep : ℕ → Bool
    keep = live_objects (λ s. not (young s)) old

    placed : CanPlace same_place (live_objects (λ s. not (young s)) old) old new
    placed = swept_placed swept-store

    outside : IsPlacedOutside same_place (live_objects (λ s. not (young s)) old) old new o o
    outside = outside-swept swept-store o c.good (record {
      special = λ t. word-named o.special t c.roots.special;
      held = λ k w t e. word-named w t (c.roots.held k w e);
      waiting = λ s e. ap not (c.roots.waiting s e);
    })

    kept-live : (s : ℕ) → is_ordinary old s ≡ true → live_objects (λ t. not (young t)) old s ≡ live (q s)
    kept-live s on = (λ x. not (young s) && ordinary_there old s on x) ∙ and_true (not (young s)) ∙ sym (lives-by c.heap c.outer c.places c.standing s on)
      where
        and_true : (t : Bool) → (t && true) ≡ t
        and_true true = refl
        and_true false = refl

    nodes-kept : kept_nodes q (live_objects (λ s. not (young s)) old) old ≡ (swept live g).nodes
    nodes-kept = same_map nat_cmp_total nat_cmp-IsAntisymmetric (kept_nodes q (live_objects (λ s. not (young s)) old) old) (swept live g).nodes (λ a.
        kept_by_name (live_objects (λ s. not (young s)) old) live old q a (λ s t x y e. once c.places s t e) kept-live ∙ at a (live a) refl ∙ sym (get-swept g live a))
      where
        same : (a : ℕ) → live a ≡ true → (x : Option Node) → get (nodes_of q old) a ≡ x → get (nodes_of q old) a ≡ option_map (without_dead g live) (get (nodes_of q old) a)
        same a on None e = e ∙ sym (ap (option_map (without_dead g live)) e)
        same a on (Some n) e =
            let m = place-comes c.heap c.places a n e in
            let l = live-place a on in
            e ∙ ap Some (m.1 ∙ sym (node-live (p a) l.0 l.1) ∙ ap (without_dead g live) (sym m.1)) ∙ sym (ap (option_map (without_dead g live)) e)

        at : (a : ℕ) (t : Bool) → live a ≡ t → cond (live a) (get (nodes_of q old) a) None ≡ option_map (without_dead g live) (cond (live a) (get g.nodes a) None)
        at a false off = ap (λ t. cond t (get (nodes_of q old) a) None) off ∙ sym (ap (λ t. option_map (without_dead g live) (cond t (get g.nodes a) None)) off)
        at a true on =
            ap (λ t. cond t (get (nodes_of q old) a) None) on
            ∙ elim (c.nodes a) [ inl e ↦ same a on (get (nodes_of q old) a) refl ∙ ap (option_map (without_dead g live)) e | inr e ↦ e ]
            ∙ sym (ap (λ t. option_map (without_dead g live) (cond t (get g.nodes a) None)) on)

    pub swept-same : graph_under q new o.special o.held o.groups g.hash_state g.next ≡ swept live g
    swept-same =
        let are : ArePaired same_place (live_objects (λ s. not (young s)) old) old q q (λ a. a) (λ a. a) = record { left = λ a. refl; right = λ a. refl; named = λ s e on. refl } in
        same_graph (kept_graph q (live_objects (λ s. not (young s)) old) old o.special o.held o.groups g.hash_state g.next) (graph_under q new o.special o.held o.groups g.hash_state g.next)
        (graph-placed same_place (live_objects (λ s. not (young s)) old) old new q q (λ a. a) (λ a. a) placed (λ s t x y e. once c.places s t e) are o o g.hash_state g.next g.next outside) refl
        ∙ ap (λ (x : Graph). record x { nodes = kept_nodes q (live_objects (λ s. not (young s)) old) old }) c.rest
        ∙ ap (λ m. record g { nodes = m }) nodes-kept

    pub dropped-good : IsGoodOutside new o
    dropped-good = outside_good placed o o c.good outside

    pub dropped-heap : IsHeapStore new
    dropped-heap = record {
      store = record { reads = d.keeps.reads; sound = sound-placed placed (swept_tops swept-store) };
      to = λ w. d.keeps.to w ∙ c.heap.to w;
      below = λ s e. subst (λ n. s < n) (sym d.keeps.names) (c.heap.below s (was s (young s) (sym (ap is_start (d.cells s)) ∙ e)));
    }
      where
        was : (s : ℕ) (t : Bool) → is_start (cond t Empty (old.cell s)) ≡ true → is_start (old.cell s) ≡ true
        was s true e = absurd (false≢true e)
        was s false e = e
