-- The graph of a heap is closed.
use Rattle.std.proofs.Common.{◌≡◌, ℕ, ◌/◌, ◌%◌, ◌^◌, ◌<◌, List, [], ◌∷◌, ◌++◌, map, length, cond, true, refl, ◌≢◌, subst, sym, ap, ◌∙◌, arith, inl, inr, Some, None, Option}
use Rattle.std.proofs.lemmas.Bool.{cases_eq, ne_eqb}
use Rattle.std.specs.Option.{option_map}
use Rattle.std.specs.List.{All, AllByRecursion, flat_map}
use Rattle.std.proofs.lemmas.List.{map-append}
use Rattle.std.proofs.lemmas.List.Elements.{All-from_recursion, recursion_from_All}
use Rattle.std.specs.FinMap.{FinMap, get}
use Rattle.spur_graph.specs.declared.answer.Value.{Value}
use Rattle.spur_graph.specs.Node.{Node}
use Rattle.spur_graph.specs.Graph.{Graph, Handle, handle_cmp, IsClosed, AreApart}
use Rattle.object_header.specs.Chunks.{InOrder}
use Rattle.spur_graph.specs.Cells.{Store, is_start, final}
use Rattle.spur_graph.specs.Ordinary.{body_at, is_ordinary}
use Rattle.spur_graph.specs.CellGraph.{read, node_of, graph_of}
use Rattle.spur_graph.specs.Heaps.{View, IsSound, IsWhole, HasFired, AreMourners, heap_to, store_of, chunks_of, heap_graph, graph_in, heap_value, handle_values, mourners_of, waiting_in, own_name}
use Rattle.heap_cells.specs.Settled.{IsLoadable}
use Rattle.heap_cells.specs.Closing.{IsHeld, CanClose}
use Rattle.heap_cells.specs.Rows.{ReadsStart}
use Rattle.heap_cells.proofs.Starts.{start-read}
use Rattle.heap_cells.proofs.Spaced.{rows-in_order}
use Rattle.heap_cells.proofs.Widths.{widths_in}
use Rattle.heap_cells.proofs.HandleValues.{get-handle_values}
use Rattle.heap_cells.proofs.Closed.{loadable_is_closed, node_here}

-- no cause of refusal applies to sound words
pub sound_loadable : (h : Store) → IsSound h → IsLoadable h
sound_loadable h k = record {
  formed = k.formed;
  five = k.roots.five;
  objects = k.roots.objects;
  lists = k.roots.lists;
  roots = k.roots.roots;
  ends = k.ends;
  pages = k.roots.pages;
  entries = k.roots.entries;
  slots = λ s i n. k.slots s i;
}

-- a reference of a heap is a multiple of 8
pub heap_aligned : (w s : ℕ) → heap_to w ≡ Some s → w % 8 ≡ 0
heap_aligned w s e = elim (cases_eq (w % 8) 0) [
  | inl z ↦ z
  | inr n ↦ let none : heap_to w ≡ None = ap (λ b. cond b (Some (w / 8)) None) (ne_eqb (w % 8) 0 n) in absurd cc
]

-- what has a value after a function had one before it
mapped : {X Y : Type 0} (f : X → Y) (o : Option X) (y : Y) → option_map f o ≡ Some y → (x : X) × (o ≡ Some x) × (y ≡ f x)
mapped f None y e = absurd cc
mapped f (Some x) y e = let is : y ≡ f x = cc in (x, refl, is)

-- mourners in groups, under the starts to which they lead
pub waiting_renamed : (p : ℕ → ℕ) (groups : List (List ℕ)) → flat_map (λ group. group) (map (map p) groups) ≡ map p (flat_map (λ group. group) groups)
waiting_renamed p [] = refl
waiting_renamed p (group ∷ groups) = ap (λ xs. map p group ++ xs) (waiting_renamed p groups) ∙ sym (map-append p group (flat_map (λ (g : List ℕ). g) groups))

pub some_renamed : (p : ℕ → ℕ) (groups : List (List ℕ)) → AllByRecursion (λ (group : List ℕ). group ≢ []) groups → AllByRecursion (λ (group : List ℕ). group ≢ []) (map (map p) groups)
some_renamed p [] all = tt
some_renamed p ([] ∷ groups) all = absurd (all.0 refl)
some_renamed p ((a ∷ group) ∷ groups) all = ((λ e. absurd cc), some_renamed p groups all.1)

fired_renamed : (p : ℕ → ℕ) (Q P : ℕ → Type 0) (ss : List ℕ) → ((s : ℕ) → P s → Q (p s)) → AllByRecursion P ss → AllByRecursion Q (map p ss)
fired_renamed p Q P [] f all = tt
fired_renamed p Q P (s ∷ ss) f all = (f s all.0, fired_renamed p Q P ss f all.1)

-- the graph of a heap with mourners is closed where the one without them is
module _ (h : Store) (special : ℕ) (held : FinMap handle_cmp ℕ) (groups : List (List ℕ)) (hash next : ℕ) where
  abbrev without : Graph
  without = graph_of own_name h special (handle_values (read own_name h) held) hash next

  pub with_mourners : ((s : ℕ) → is_ordinary h s ≡ true → get without.nodes s ≡ Some (node_of own_name h (body_at h s))) → IsClosed without → AreMourners h groups → IsClosed (graph_in h special held groups hash next)
  unfolding node_of
  with_mourners own_node c m = record {
    all_nodes = c.all_nodes;
    names = c.names;
    special_there = c.special_there;
    entered = λ i v e. let r = c.entered i v e in (r.0, r.1, record { class = r.2.class; there = r.2.there; hashed = r.2.hashed; entry = r.2.entry });
    held_values = c.held_values;
    groups = All-from_recursion (λ (group : List ℕ). group ≢ []) (mourners_of h groups) (some_renamed (final h) groups (recursion_from_All (λ (group : List ℕ). group ≢ []) groups m.some));
    fired = subst (λ (ss : List ℕ). All (λ a. (n : Node) × (get without.nodes a ≡ Some n) × (n.format ≡ 1)) ss) (sym (waiting_renamed (final h) groups))
        (All-from_recursion (λ a. (n : Node) × (get without.nodes a ≡ Some n) × (n.format ≡ 1)) (map (final h) (waiting_in groups))
        (fired_renamed (final h) (λ a. (n : Node) × (get without.nodes a ≡ Some n) × (n.format ≡ 1)) (HasFired h) (waiting_in groups) has (recursion_from_All (HasFired h) (waiting_in groups) m.fired)));
    apart = subst (λ (ss : List ℕ). AreApart ss) (sym (waiting_renamed (final h) groups)) m.apart;
    state_bits = c.state_bits;
    fresh = c.fresh;
  }
    where
      has : (s : ℕ) → HasFired h s → (n : Node) × (get without.nodes (final h s) ≡ Some n) × (n.format ≡ 1)
      has s f = (node_of own_name h (body_at h (final h s)), own_node (final h s) f.ordinary, f.format)

pub whole_is_closed : (v : View) → IsWhole v → All (λ w. w < 2 ^ 64) v.words → ((k : Handle) (w : ℕ) → get v.handles k ≡ Some w → w < 2 ^ 64) → IsClosed (heap_graph v)
whole_is_closed v k all fit =
    let h : Store = store_of v in
    let order : InOrder v.words 0 (length v.words) (chunks_of v) = rows-in_order v.words v.limits v.spaces k.spaces k.rows in
    let reads : (s : ℕ) → is_start (h.cell s) ≡ true → ReadsStart heap_to v.words (length v.words) (chunks_of v) s = λ s e. start-read heap_to v.words (length v.words) (chunks_of v) s order e in
    let held : (q : Handle) (u : Value) → get (handle_values (heap_value v) v.handles) q ≡ Some u → IsHeld own_name h u = λ q u e.
    let m = mapped (heap_value v) (get v.handles q) u (sym (get-handle_values (heap_value v) v.handles q) ∙ e) in
    record { word = m.0; good = k.held q m.0 m.1; bits = fit q m.0 m.1; is = m.2 } in
    let can : CanClose own_name h v.special (handle_values (heap_value v) v.handles) v.hash (length v.words) = record {
      loadable = sound_loadable h k.sound;
      aligned = heap_aligned;
      inside = λ s e. (reads s e).stands;
      outer = k.sound.roots.outer;
      once = λ s t _ _ e. e;
      widths = λ s e. widths_in heap_to v.words (chunks_of v) s all;
      special_there = k.special_there;
      held = held;
      state_bits = k.state_bits;
      fresh = λ s e. let below = (reads s e).below in omega (arith, below);
    } in
    with_mourners h v.special v.handles v.mourners v.hash (length v.words) (node_here own_name h v.special (handle_values (heap_value v) v.handles) v.hash (length v.words) can)
    (loadable_is_closed own_name h v.special (handle_values (heap_value v) v.handles) v.hash (length v.words) can) k.mourners
