-- Heaps under moved places.
use Rattle.std.proofs.Common.{◌≡◌, ℕ, true, length, refl}
use Rattle.std.proofs.lemmas.Bool.{and_parts}
use Rattle.spur_graph.specs.Cells.{is_there}
use Rattle.spur_graph.specs.Heaps.{own_name, heap_store}
use Rattle.heap_cells.proofs.Both.{Both}
use Rattle.heap_cells.proofs.Starts.{starts-rise}
use Rattle.heap_laws.specs.Placed.{CanPlace}
use Rattle.heap_laws.specs.Instances.{live_objects}
use Rattle.heap_laws.specs.Placing.{AllMovesHeap, PlacedIsLoadable, PlacedIsSound, PlacedMovesHeap, LoadedIsPlaced, ReaddressedMovesHeap, ReaddressedIsSameGraph, CompactedMovesHeap, CopiedMovesHeap, SweptMovesHeap}
use Rattle.heap_laws.proofs.Loads.{loadable-placed, sound-placed}
use Rattle.heap_laws.proofs.Pairs.{places_pair}
use Rattle.heap_laws.proofs.Graphs.{whole-graph, graph-placed}
use Rattle.heap_laws.proofs.Good.{outside_good}
use Rattle.heap_laws.proofs.Loaded.{loaded_placed}
use Rattle.heap_laws.proofs.Swept.{swept_placed, swept_tops}
use Rattle.heap_laws.proofs.Copied.{copied_placed, copied_tops}
use Rattle.heap_laws.proofs.Readdressed.{readdressed_placed, readdressed_tops}
use Rattle.heap_laws.proofs.Compacted.{compacted_readdressed}
use Rattle.heap_laws.proofs.Named.{outside-copied, outside-swept, outside-readdressed}

pub placed_is_loadable : PlacedIsLoadable
placed_is_loadable p keep old new k = loadable-placed k

pub placed_is_sound : PlacedIsSound
placed_is_sound p keep old new k tops = sound-placed k tops

pub placed_moves_heap : PlacedMovesHeap
placed_moves_heap p keep old new o o' k tops rise out =
    let e = places_pair p keep old new own_name own_name k rise (λ s t a b is. is) k.placed.once in
    record {
      sound = sound-placed k tops;
      good = λ g. outside_good k o o' g out;
      place = e.place;
      back = e.back;
      graph = λ hash next next'. graph-placed p keep old new own_name own_name e.place e.back k (λ s t a b is. is) e.are o o' hash next next' out;
      named = e.are.named;
    }

pub all_moves_heap : AllMovesHeap
all_moves_heap p keep old new o o' hash next next' all m = whole-graph keep old own_name o hash next all (m.graph hash next next')

pub loaded_is_placed : LoadedIsPlaced
loaded_is_placed old new n l s = let k : Both old new = record { named = n; loadable = l; settled = s } in loaded_placed k

pub readdressed_moves_heap : ReaddressedMovesHeap
readdressed_moves_heap p live old new o o' k rise good on r = placed_moves_heap p _ old new o o' (readdressed_placed k) (readdressed_tops k (λ t. refl)) rise (outside-readdressed k o o' good on r)

pub readdressed_is_same_graph : ReaddressedIsSameGraph
readdressed_is_same_graph p address live old new name' o o' k rise apart good on r =
    let c : CanPlace p (live_objects live old) old new = readdressed_placed k in
    let lives : (s : ℕ) → live_objects live old s ≡ true → live s ≡ true = λ s e. (and_parts (live s) (is_there (old.cell s)) e).0 in
    let e = places_pair p (live_objects live old) old new own_name name' c rise (λ s t a b is. is) (λ s t a b. apart s t (lives s a) (lives t b)) in
    record {
      loadable = loadable-placed c;
      place = e.place;
      back = e.back;
      graph = λ hash next next'. graph-placed p (live_objects live old) old new own_name name' e.place e.back c (λ s t a b is. is) e.are o o' hash next next' (outside-readdressed k o o' good on r);
    }

pub compacted_moves_heap : CompactedMovesHeap
compacted_moves_heap p has has' words words' cs cs' o o' k good on r =
    readdressed_moves_heap p _ (heap_store words cs) (heap_store words' cs') o o' (compacted_readdressed k) (starts-rise words (length words) cs k.row).rising good on r

pub copied_moves_heap : CopiedMovesHeap
copied_moves_heap a c old new o k rise good = placed_moves_heap _ _ old new o o (copied_placed k) (copied_tops k) rise (outside-copied k o good)

pub swept_moves_heap : SweptMovesHeap
swept_moves_heap live old new o k rise good on = placed_moves_heap _ _ old new o o (swept_placed k) (swept_tops k) rise (outside-swept k o good on)
