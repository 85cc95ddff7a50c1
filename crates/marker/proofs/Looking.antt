-- Ephemerons that wait are looked at again.
use Rattle.std.proofs.Common.{◌≡◌, ℕ, true, false, ◌+◌, ◌-◌, ◌<◌, List, length, refl, sym, ap, ◌∙◌, subst, arith, Option}
use Rattle.std.proofs.lemmas.Bool.{and_parts}
use Rattle.std.proofs.lemmas.List.Edits.{Swapped, swapped_from_swap}
use Rattle.std.proofs.lemmas.List.{get_or_default}
use Rattle.std.proofs.lemmas.Option.{same_Some}
use Rattle.std.specs.Prelude.{slice_index}
use Rattle.std.specs.List.{Contains, swap}
use Rattle.std.specs.FinMap.{get}
use Rattle.spur_graph.specs.Node.{Node}
use Rattle.spur_graph.specs.Live.{HasKey, Reached, is_keyed, none}
use Rattle.spur_graph.specs.Ordinary.{is_ordinary}
use Rattle.spur_graph.specs.Heaps.{View, heap_graph, is_marked}
use Rattle.spur_heap.specs.MarkBits.{marks}
use Rattle.spur_heap.specs.Views.{IsOrdinary, node_in, store}
use Rattle.spur_heap.proofs.NodesAt.{get_there}
use Rattle.marker.specs.Marks.{silent_of}
use Rattle.marker.specs.Waiting.{EndsReady, Progress, waits}
use Rattle.marker.specs.Visits.{Works, unmarked}
use Rattle.marker.proofs.MarkedKeys.{waits_key, waits_parts}
use Rattle.marker.proofs.Steps.{all_marked}
use Rattle.marker.proofs.Working.{swapped_back, swapped_long, swapped_to, with_stack, works_turned}

-- ---- a start is put last

-- one that does not wait any more, so that it is passed next
module _ (v b : View) (i last : ℕ) (there : i < length v.stack) (is : last + 1 ≡ length v.stack) (swapped : b ≡ with_stack v (swap v.stack i last)) where
  abbrev ys : List ℕ
  ys = swap v.stack i last

  second : last < length v.stack
  second = omega (arith, is)

  long : length b.stack ≡ length v.stack
  long = ap (λ (u : View). length u.stack) swapped ∙ swapped_long v.stack i last there second

  pub works_swapped : (except : Option ℕ) → Works except v b
  works_swapped except = subst (λ (u : View). Works except v u) (sym swapped) (works_turned except v ys (swapped_long v.stack i last there second) (swapped_to v.stack i last there second) (swapped_back v.stack i last there second))

  pub swapped_unmarked : unmarked b ≡ unmarked v
  swapped_unmarked = ap (λ (u : View). unmarked u) swapped

  pub swapped_length : length b.stack ≡ length v.stack
  swapped_length = long

  pub swapped_ready : waits v (slice_index v.stack i) ≡ false → EndsReady last b
  swapped_ready off =
      let at : length b.stack - 1 ≡ last = omega (arith, long, is) in
      let moved : Swapped (λ j. slice_index v.stack j) (λ j. slice_index ys j) i last = swapped_from_swap v.stack ys i last 0 there second refl in
      record {
        more = omega (arith, long, is);
        ready = ap (λ j. waits b (slice_index b.stack j)) at ∙ ap (λ (u : View). waits u (slice_index u.stack last)) swapped ∙ ap (waits v) moved.1 ∙ off;
      }

-- what waits by its place waits by its name
pub all_wait : (v : View) → ((k : ℕ) → k < length v.stack → waits v (slice_index v.stack k) ≡ true) → (t : ℕ) → Contains v.stack t → waits v t ≡ true
all_wait v places t (k, l, e) = ap (waits v) (sym e ∙ get_or_default v.stack k t 0 l) ∙ places k l

-- ---- what is live is marked

pub all_found : (except : Option ℕ) (a b : View) → Works except a b → ((t : ℕ) → Contains b.stack t → waits b t ≡ true) → Progress (heap_graph a) (silent_of except) (marks a) a.stack
    → (t : ℕ) → Reached (heap_graph a) none (silent_of except) t → marks b t ≡ true
all_found except a b w waiting m =
    let now : Progress (heap_graph a) (silent_of except) (marks b) b.stack = w.progress m in
    all_marked (heap_graph a) (silent_of except) (marks b) b.stack now (λ s n c there.
    let ordinary : IsOrdinary b s = (and_parts (is_ordinary (store b) s) (is_marked b.words s) (now.marking.stacked s c)).0 in
    let same : node_in b s ≡ n = same_Some (node_in b s) n (sym (get_there b s ordinary) ∙ ap (λ g. get g.nodes s) w.keeps.graph ∙ there) in
    let on = waiting s c in
    (ap is_keyed (sym same) ∙ (waits_parts b s on).0, λ key. waits_key b s on (subst (λ (x : Node). HasKey x (λ k. marks b k ≡ true)) (sym same) key)))
