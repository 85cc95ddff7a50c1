-- The mourners of a heap, as the table has them.
use Rattle.std.proofs.Common.{◌≡◌, ◌≢◌, ◌+◌, ◌-◌, ◌/◌, ◌<◌, ◌≤◌, ℕ, true, false, eqb, List, map, length, get_or, option_map, sym, ap, ◌∙◌, subst, arith}
use Rattle.std.proofs.lemmas.Bool.{eq-eqb, ne_eqb, eqb-true, or_right}
use Rattle.std.proofs.lemmas.Map.Views.{Contains-from_any}
use Rattle.std.proofs.lemmas.List.{length-map, length-drop, get_or-map, get_or-drop}
use Rattle.std.proofs.lemmas.List.Folds.{list_any_none, list_any_at}
use Rattle.std.specs.List.{list_any}
use Rattle.spur_graph.specs.Value.{is_immediate_word}
use Rattle.spur_graph.specs.Graph.{waiting}
use Rattle.spur_graph.specs.Cells.{final}
use Rattle.spur_graph.specs.Ordinary.{is_ordinary, is_good_reference, passes}
use Rattle.spur_graph.specs.Refusals.{waits}
use Rattle.spur_graph.specs.Heaps.{View, HasFired, AreMourners, store_of, heap_graph, waiting_in}
use Rattle.heap_cells.specs.Settled.{word_of}
use Rattle.heap_cells.proofs.Internals.{heap-named}
use Rattle.heap_cells.proofs.WholeClosed.{waiting_renamed}
use Rattle.spur_heap.specs.Tables.{start_in}
use Rattle.spur_heap.specs.Mourning.{left}
use Rattle.spur_heap.specs.Parts.{view_of, ArePartsOfHeap}
use Rattle.spur_heap.specs.Words.{AreSound, body_in, starts_at}
use Rattle.spur_heap.specs.Views.{IsGood}
use Rattle.spur_heap.specs.declared.heap.HeapParts.{HeapParts}
use Rattle.spur_heap.proofs.Hops.{reference_named}
use Rattle.spur_heap.proofs.Groups.{waiting_are}

-- the word of a mourner's start is a good reference
fired_reference : (v : View) (s : ℕ) → HasFired (store_of v) s → is_good_reference (store_of v) (word_of s) ≡ true
fired_reference v s f = ap (passes (is_ordinary (store_of v))) (ap (λ o. option_map (final (store_of v)) o) (heap-named s)) ∙ f.ordinary

pub fired_good : (v : View) (s : ℕ) → HasFired (store_of v) s → IsGood v (word_of s)
fired_good v s f = or_right (is_immediate_word (word_of s)) _ (fired_reference v s f)

pub fired_starts : (v : View) → AreSound v → (s : ℕ) → HasFired (store_of v) s → starts_at v s ≡ true
fired_starts v k s f =
    let n = reference_named v k (word_of s) (fired_reference v s f) in
    let same : word_of s / 8 ≡ s = omega arith in
    ap (starts_at v) (sym same) ∙ n.starts

-- where the mourners lead
pub ends : (v : View) → waiting (heap_graph v) ≡ map (final (store_of v)) (waiting_in v.mourners)
ends v = waiting_renamed (final (store_of v)) v.mourners

pub waiting_count : (v : View) → length (waiting (heap_graph v)) ≡ length (waiting_in v.mourners)
waiting_count v = ap (λ (ts : List ℕ). length ts) (ends v) ∙ length-map (waiting_in v.mourners) (final (store_of v))

-- whatever waits has fired
pub waits_fired : (v : View) → AreMourners (store_of v) v.mourners → (s : ℕ) → waits (heap_graph v) s ≡ true → (body_in v s).format ≡ 1
waits_fired v k s on =
    let h = store_of v in
    let ws : List ℕ = waiting_in v.mourners in
    let m = Contains-from_any {eq = eqb} eqb-true s (map (final h) ws) (sym (ap (λ (ts : List ℕ). list_any (eqb s) ts) (ends v)) ∙ on) in
    let low : m.0 < length ws = let e = length-map ws (final h) in let l = m.1 in omega (arith, l, e) in
    let is : final h (get_or ws m.0 0) ≡ s = sym (get_or-map (final h) ws m.0 0 s low) ∙ m.2 in
    sym (ap (λ t. (body_in v t).format) is) ∙ (k.fired m.0 0 low).format

module _ (p : HeapParts) (k : ArePartsOfHeap p) where
  pub waiting_left : waiting_in (view_of p).mourners ≡ map start_in (left p)
  waiting_left = waiting_are (left p) k.tables.grouped

  pub left_count : length (waiting_in (view_of p).mourners) ≡ length p.mourners.items - p.mourned
  left_count = ap (λ (ts : List ℕ). length ts) waiting_left ∙ length-map (left p) start_in ∙ length-drop p.mourned p.mourners.items

  -- mourner `i`, by its entry
  pub left_start : (i : ℕ) → i < length (waiting_in (view_of p).mourners) → get_or (waiting_in (view_of p).mourners) i 0 ≡ start_in (get_or p.mourners.items (p.mourned + i) 0)
  left_start i l =
      ap (λ (ts : List ℕ). get_or ts i 0) waiting_left
      ∙ get_or-map start_in (left p) i 0 0 (let e = ap (λ (ts : List ℕ). length ts) waiting_left ∙ length-map (left p) start_in in omega (arith, l, e))
      ∙ ap start_in (get_or-drop p.mourned p.mourners.items i 0)

  pub left_inside : (i : ℕ) → i < length (waiting_in (view_of p).mourners) → p.mourned + i < length p.mourners.items
  left_inside i l = let e = left_count in omega (arith, e, l)

  pub left_fired : (i : ℕ) → p.mourned ≤ i → i < length p.mourners.items → HasFired (store_of (view_of p)) (start_in (get_or p.mourners.items i 0))
  left_fired i from to =
      let l : i - p.mourned < length (waiting_in (view_of p).mourners) = let e = left_count in omega (arith, e, from, to) in
      let at : p.mourned + (i - p.mourned) ≡ i = omega (arith, from) in
      subst (HasFired (store_of (view_of p))) (left_start (i - p.mourned) l ∙ ap (λ j. start_in (get_or p.mourners.items j 0)) at) (k.whole.mourners.fired (i - p.mourned) 0 l)

  pub one_waits : (s i : ℕ) → p.mourned ≤ i → i < length p.mourners.items → final (store_of (view_of p)) (start_in (get_or p.mourners.items i 0)) ≡ s → waits (heap_graph (view_of p)) s ≡ true
  one_waits s i from to is =
      let h = store_of (view_of p) in
      let l : i - p.mourned < length (waiting_in (view_of p).mourners) = let e = left_count in omega (arith, e, from, to) in
      let at : p.mourned + (i - p.mourned) ≡ i = omega (arith, from) in
      let start : get_or (waiting_in (view_of p).mourners) (i - p.mourned) 0 ≡ start_in (get_or p.mourners.items i 0) = left_start (i - p.mourned) l ∙ ap (λ j. start_in (get_or p.mourners.items j 0)) at in
      ap (λ (ts : List ℕ). list_any (eqb s) ts) (ends (view_of p))
      ∙ list_any_at (eqb s) (map (final h) (waiting_in (view_of p).mourners)) (i - p.mourned) 0 (let e = length-map (waiting_in (view_of p).mourners) (final h) in omega (arith, l, e))
      (eq-eqb s _ (sym (get_or-map (final h) (waiting_in (view_of p).mourners) (i - p.mourned) 0 0 l ∙ ap (final h) start ∙ is)))

  pub none_waits : (s : ℕ) → ((i : ℕ) → p.mourned ≤ i → i < length p.mourners.items → final (store_of (view_of p)) (start_in (get_or p.mourners.items i 0)) ≢ s) → waits (heap_graph (view_of p)) s ≡ false
  none_waits s none =
      let h = store_of (view_of p) in
      let ws : List ℕ = waiting_in (view_of p).mourners in
      ap (λ (ts : List ℕ). list_any (eqb s) ts) (ends (view_of p))
      ∙ list_any_none (eqb s) (map (final h) ws) (λ i d l.
      let low : i < length ws = let e = length-map ws (final h) in omega (arith, l, e) in
      let far : p.mourned + i < length p.mourners.items = let e = left_count in omega (arith, e, low) in
      ne_eqb s _ (λ is. none (p.mourned + i) (omega arith) far (sym (get_or-map (final h) ws i 0 d low ∙ ap (final h) (left_start i low)) ∙ sym is)))
