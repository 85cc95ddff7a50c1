-- The node that a heap's graph has for an ordinary object.
use Rattle.std.proofs.Common.{◌≡◌, inl, inr, ◌≤◌, ◌<◌, ℕ, List, [], ◌∷◌, get_or, length, map, sym, ap, ◌∙◌, Option, Some, None, true, cond, arith}
use Rattle.std.proofs.lemmas.Bool.{false≢true, cases_Bool, eqb-true, and_parts}
use Rattle.std.specs.Prelude.{nat_eq, not}
use Rattle.std.specs.Option.{unwrap_or}
use Rattle.std.specs.Cmp.{nat_cmp_total}
use Rattle.std.specs.FinMap.{get, get-from_entries}
use Rattle.object_header.specs.Chunks.{Chunk}
use Rattle.spur_graph.specs.declared.answer.Value.{Value}
use Rattle.spur_graph.specs.declared.answer.Value.TheVariants.{Ref}
use Rattle.spur_graph.specs.Graph.{node, node_at, blank}
use Rattle.spur_graph.specs.Cells.{Store, is_there, cell_in, read_cell}
use Rattle.spur_graph.specs.Ordinary.{body_at, is_ordinary, is_internal, ordinary_starts}
use Rattle.spur_graph.specs.CellGraph.{node_of, nodes_of}
use Rattle.spur_graph.specs.Heaps.{View, IsWhole, chunks_of, heap_graph, heap_to, own_name}
use Rattle.heap_cells.specs.Rows.{starts_of}
use Rattle.heap_cells.proofs.Members.{In, listed, in_filter, filter_in}
use Rattle.heap_cells.proofs.Starts.{starts-rise}
use Rattle.spur_heap.specs.Views.{IsOrdinary, store, node_in}
use Rattle.spur_heap.proofs.Orders.{order}
use Rattle.spur_heap.proofs.Puts.{whole_sound}
use Rattle.spur_heap.proofs.Keys.{find-listed, find-absent}

-- where something stands is a start
stands_in : (to : ℕ → Option ℕ) (words : List ℕ) (cs : List Chunk) (s : ℕ) → is_there (cell_in to words cs s) ≡ true → In (starts_of cs) s
unfolding cell_in
stands_in to words [] s there = absurd (false≢true there)
stands_in to words (c ∷ cs) s there = elim (cases_Bool (nat_eq c.start s)) [
  | inl same ↦ inl (eqb-true c.start s same)
  | inr other ↦ inr (stands_in to words cs s (sym (ap (λ b. is_there (cond b (read_cell to words c) (cell_in to words cs s))) other) ∙ there))
]

-- names behind the last word are fresh
pub names_fresh : (v : View) → IsWhole v → (a : ℕ) → length v.words ≤ a → get (heap_graph v).nodes a ≡ None
unfolding nodes_of ordinary_starts
names_fresh v w a past =
    let h : Store = store v in
    let below = (starts-rise v.words (length v.words) (chunks_of v) (order v (whole_sound v w))).below in
    get-from_entries nat_cmp_total (map (λ s. (s, node_of own_name h (body_at h s))) (ordinary_starts h)) a
    ∙ find-absent (λ s. node_of own_name h (body_at h s)) (ordinary_starts h) a (λ m.
    let among = listed h.starts a (filter_in (is_ordinary h) h.starts a m).0 in
    let low : get_or h.starts among.0 a < length v.words = below among.0 a among.1 in
    omega (arith, low, among.2, past))

-- the node of an object
pub get_there : (v : View) (s : ℕ) → IsOrdinary v s → get (heap_graph v).nodes s ≡ Some (node_in v s)
unfolding nodes_of ordinary_starts
get_there v s there =
    let h : Store = store v in
    let inside : In h.starts s = stands_in heap_to v.words (chunks_of v) s (and_parts (is_there (h.cell s)) (not (is_internal h s)) there).0 in
    get-from_entries nat_cmp_total (map (λ t. (t, node_of own_name h (body_at h t))) (ordinary_starts h)) s
    ∙ find-listed (λ t. node_of own_name h (body_at h t)) (ordinary_starts h) s (in_filter (is_ordinary h) h.starts s inside there)

pub node_there : (v : View) (s : ℕ) → IsOrdinary v s → node (heap_graph v) s ≡ node_in v s
node_there v s there = ap (λ o. unwrap_or o blank) (get_there v s there)

-- the node of the object that a value names
pub node_named : (v : View) (s : ℕ) (x : Value) → IsOrdinary v s → x ≡ Ref s → node_at (heap_graph v) x ≡ node_in v s
node_named v s x there is = ap (node_at (heap_graph v)) is ∙ node_there v s there
