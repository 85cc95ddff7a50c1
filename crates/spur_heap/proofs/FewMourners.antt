-- How many mourners a heap can have.
use Rattle.std.proofs.Common.{ℕ, ◌≡◌, ◌/◌, ◌≤◌, true, eqb, List, length, refl, arith}
use Rattle.std.proofs.lemmas.Bool.{eqb-true, eq-eqb, ne_eqb}
use Rattle.std.proofs.lemmas.List.Elements.{All-contains}
use Rattle.std.proofs.lemmas.Map.Keys.{IsDistinct-from_apart}
use Rattle.std.proofs.lemmas.Map.Made.{length-le_from_is_member}
use Rattle.std.proofs.lemmas.Map.Views.{Contains-from_any}
use Rattle.std.specs.Cmp.{nat_eq_equiv}
use Rattle.std.specs.List.{All, list_any}
use Rattle.spur_graph.specs.Graph.{AreApart}
use Rattle.spur_graph.specs.Ordinary.{is_ordinary, ordinary_starts}
use Rattle.spur_graph.specs.Heaps.{View, store_of, chunks_of}
use Rattle.heap_cells.specs.Rows.{starts_of}
use Rattle.heap_cells.proofs.AddedRoom.{any-has}
use Rattle.heap_cells.proofs.CellKinds.{there_starts}
use Rattle.heap_cells.proofs.Members.{in_list, in_filter}
use Rattle.heap_cells.proofs.References.{ordinary_there}
use Rattle.spur_heap.specs.Words.{AreSound}
use Rattle.spur_heap.proofs.FewObjects.{half_ordinary}
use Rattle.spur_heap.proofs.Hops.{start_at}

-- ordinary objects of which none stands twice are at most half as many as there are words
pub few_apart : (v : View) → AreSound v → (ss : List ℕ) → AreApart ss → All (λ s. is_ordinary (store_of v) s ≡ true) ss → length ss ≤ length v.words / 2
unfolding ordinary_starts
few_apart v k ss apart ordinary =
    let distinct = IsDistinct-from_apart eqb ss (λ i j d l m. ne_eqb _ _ (apart i j d l m)) in
    let among : (q : ℕ) → list_any (eqb q) ss ≡ true → list_any (eqb q) (ordinary_starts (store_of v)) ≡ true = λ q on.
    let is = All-contains (λ s. is_ordinary (store_of v) s ≡ true) ss q ordinary (Contains-from_any {eq = eqb} eqb-true q ss on) in
    let stands = (start_at v k q (there_starts ((store_of v).cell q) (ordinary_there (store_of v) q is))).stands in
    any-has (eqb q) (ordinary_starts (store_of v)) q (in_filter (is_ordinary (store_of v)) (starts_of (chunks_of v)) q (in_list (starts_of (chunks_of v)) q stands) is) (eq-eqb q q refl) in
    let few = length-le_from_is_member nat_eq_equiv ss (ordinary_starts (store_of v)) distinct among in
    let half = half_ordinary v k in
    omega (arith, few, half)
