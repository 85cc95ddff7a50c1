-- Ephemerons fire in rounds, and weak slots become nil, on the words of a heap.
use Rattle.std.specs.Prelude.{ℕ, ◌≡◌, ◌<◌, ◌+◌, List, [], ◌∷◌, ◌++◌, length, nat_lt, slice_index, Bool, true, ◌&&◌, if◌then◌else◌}
use Rattle.std.specs.List.{Contains, sum_by, count_by}
use Rattle.std.specs.FinMap.{entries}
use Rattle.spur_graph.specs.Graph.{Graph, AreApart}
use Rattle.spur_graph.specs.Live.{Live, none, weak_values}
use Rattle.spur_graph.specs.Rounds.{Decides, Rounds, mourning, names_dead, without_dead}
use Rattle.spur_graph.specs.Heaps.{View, heap_graph, heap_room, waiting_in}
use Rattle.spur_heap.specs.MarkBits.{marks}
use Rattle.spur_heap.specs.Views.{node_in}
use Rattle.weak_ephemeron.specs.Stays.{Stays}
use Rattle.marker.specs.Waiting.{Progress, waits}
use Rattle.marker.specs.Visits.{AreBare, HasRoom, IsStackOf}

-- a marked ephemeron whose key is an object that is not marked
abbrev pub dies : View → ℕ → Bool
dies v s = marks v s && waits v s

-- those that die and start below `i` stand on the mark stack, where nothing stood before
pub record Gathers (i : ℕ) (old new : View) : Type 0 where
  pub rest : new ≡ record old { stack = new.stack }
  pub only : (t : ℕ) → Contains new.stack t → (t < i) × (dies old t ≡ true)
  pub all : (t : ℕ) → t < i → dies old t ≡ true → Contains new.stack t
  pub apart : AreApart new.stack

-- a group waits behind the others, if it has a name
abbrev pub behind : List (List ℕ) → List ℕ → List (List ℕ)
behind groups [] = groups
behind groups (a ∷ group) = groups ++ (a ∷ group) ∷ []

-- of the first `i` starts of the mark stack those that wait have fired, and are one group of mourners
pub record FiresFirst (i : ℕ) (old : View) (fired : ℕ) (new : View) : Type 0 where
  pub group : List ℕ
  pub count : fired ≡ length group
  pub stays : Stays old new
  pub nodes : (t : ℕ) → node_in new t ≡ mourning group t (node_in old t)
  pub mourners : (heap_graph new).mourners ≡ behind (heap_graph old).mourners group
  pub table : new.mourners ≡ behind old.mourners group
  pub only : (t : ℕ) → Contains group t → Contains old.stack t × (waits old t ≡ true)
  pub all : (k : ℕ) → k < i → waits old (slice_index old.stack k) ≡ true → Contains group (slice_index old.stack k)
  pub apart : AreApart group
  pub idle : group ≡ [] → new ≡ old

-- rounds were made until one found none, and exactly what is live in the last graph is marked
pub record Rounded (old : View) (fired : ℕ) (new : View) : Type 0 where
  pub rounds : Rounds none (heap_graph old) fired (heap_graph new)
  pub exact : Decides (marks new) (Live (heap_graph new) none)
  pub room : heap_room new ≡ heap_room old
  pub bare : AreBare old → AreBare new
  pub rest : new ≡ record old { words = new.words; mourners = new.mourners }
  pub idle : fired ≡ 0 → new ≡ old

-- the weak slots of the marked objects that start below `i` are nil where they named what is not marked
pub record NilsBelow (i : ℕ) (old new : View) : Type 0 where
  pub stays : Stays old new
  pub nodes : (t : ℕ) → node_in new t ≡ (if marks old t && nat_lt t i then without_dead (heap_graph old) (marks old) (node_in old t) else node_in old t)
  pub table : new.mourners ≡ old.mourners

-- how many weak values the marked objects that start below `i` have that name what is not marked
abbrev pub nils_below : (ℕ → Bool) → Graph → ℕ → ℕ
nils_below live g i = sum_by (λ e. if live e.0 && nat_lt e.0 i then count_by (names_dead live) (weak_values g e.1) else 0) (entries g.nodes)

-- rounds were made: whatever leads on from here leads on from the first graph, and whatever dies now stands on the mark stack
pub record Firing (old : View) (fired : ℕ) (now : View) : Type 0 where
  pub rounds : (last : Graph) (count : ℕ) → Rounds none (heap_graph now) count last → Rounds none (heap_graph old) (fired + count) last
  pub progress : Progress (heap_graph now) none (marks now) now.stack
  pub exact : Decides (marks now) (Live (heap_graph now) none)
  pub room : heap_room now ≡ heap_room old
  pub bare : AreBare old → AreBare now
  pub rest : now ≡ record old { words = now.words; mourners = now.mourners; stack = now.stack }
  pub idle : fired ≡ 0 → now ≡ record old { stack = now.stack }
  pub long : length now.words ≡ length old.words
  pub waiting : length (waiting_in now.mourners) ≡ length (waiting_in old.mourners) + fired
  pub ordinary : IsStackOf now
  pub places : HasRoom now
