-- A heap in the middle of a scavenge. Its graph never takes other names: each object has the name of the place where it stood when the scavenge began.
use Rattle.std.specs.Prelude.{ℕ, ◌≡◌, ◌≢◌, ◌⊎◌, ◌<◌, ◌/◌, ◌%◌, ◌||◌, ◌==◌, Bool, true, false, if◌then◌else◌, List, take, slice_index, Some}
use Rattle.std.specs.List.{All, Contains}
use Rattle.std.specs.FinMap.{get}
use Rattle.spur_graph.specs.Node.{Node}
use Rattle.spur_graph.specs.Graph.{Graph, Handle}
use Rattle.spur_graph.specs.Live.{Reached, none, fixed_of}
use Rattle.spur_graph.specs.Cells.{Body, Store, Moved, There, is_start, first, final, pointers, pointer_count}
use Rattle.spur_graph.specs.Ordinary.{body_at, is_internal, is_ordinary}
use Rattle.spur_graph.specs.Heaps.{heap_to, waiting_in}
use Rattle.heap_laws.specs.Placed.{Outside, graph_under}
use Rattle.heap_laws.specs.Instances.{IsSoundStore, IsGoodOutside}

-- the name is live, by rules
abbrev pub Lives : Graph → (ℕ → Bool) → ℕ → Type 0
Lives g further a = Reached g further none a

-- the word names no start of the space that is being left
abbrev pub IsClear : (ℕ → Bool) → ℕ → Type 0
IsClear young word = word % 8 ≡ 0 → young (word / 8) ≡ false

-- how many of the first pointer slots of an object are strong: of a weak one those that its class tells, of an ephemeron none
abbrev pub strong_slots : Graph → Body → ℕ
strong_slots g b = if b.format == 4 then fixed_of g (get g.classes b.class) else if b.format == 5 then 0 else pointer_count b

abbrev pub strong_words : Graph → Body → List ℕ
strong_words g b = take (strong_slots g b) (pointers b)

-- a weak object or an ephemeron
abbrev pub may_wait : Body → Bool
may_wait b = (b.format == 4) || (b.format == 5)

-- an object was looked at: no slot names the space that is being left, or it is held back, and no strong slot does
abbrev pub IsScanned : (ℕ → Bool) → Graph → (ℕ → Type 0) → ℕ → Body → Type 0
IsScanned young g held s b = All (IsClear young) (pointers b) ⊎ (held s × (may_wait b ≡ true) × All (IsClear young) (strong_words g b))

-- the store of a heap: references are 8 times a start, and what starts is below the number of words
pub record IsHeapStore (h : Store) : Type 0 where
  pub store : IsSoundStore h
  pub to : (w : ℕ) → h.to w ≡ heap_to w
  pub below : (s : ℕ) → is_start (h.cell s) ≡ true → s < h.names

-- the space that is being left has no internal object, and not nil, false or true
pub record StandOutside (young : ℕ → Bool) (h : Store) : Type 0 where
  pub inner : (s : ℕ) → is_internal h s ≡ true → young s ≡ false
  pub firsts : (j : ℕ) → j < 3 → young (first h j) ≡ false

-- the object that stands at `s` has the name `q s`, and the name `a` stands at `p a`
pub record ArePlaces (p q : ℕ → ℕ) : Type 0 where
  pub left : (s : ℕ) → p (q s) ≡ s
  pub right : (a : ℕ) → q (p a) ≡ a

-- The heap stands for the graph, under names that say where objects stood. `young` tells the space that is being left, `todo` the places that were not
-- looked at yet, and `held` the weak objects and ephemerons that are held back. Whatever stands outside the space that is being left, or is led to from
-- there, is live, and what was looked at there names nothing in it. The free lists object, whose words are no values, is looked at by nobody
pub record Copying (young : ℕ → Bool) (g : Graph) (further : ℕ → Bool) (h : Store) (o : Outside) (todo held : ℕ → Type 0) (p q : ℕ → ℕ) : Type 0 where
  pub heap : IsHeapStore h
  pub outer : StandOutside young h
  pub good : IsGoodOutside h o
  pub places : ArePlaces p q
  pub same : graph_under q h o.special o.held o.groups g.hash_state g.next ≡ g
  pub sound : (s : ℕ) → young s ≡ false → is_ordinary h s ≡ true → Lives g further (q s)
  pub led : (s : ℕ) → young s ≡ false → is_start (h.cell s) ≡ true → young (final h s) ≡ true → Lives g further (q (final h s))
  pub moved : (s t : ℕ) → young s ≡ false → h.cell s ≡ Moved t → todo s ⊎ (young t ≡ false)
  pub scanned : (s : ℕ) (b : Body) → young s ≡ false → s ≢ first h 3 → h.cell s ≡ There b → todo s ⊎ IsScanned young g held s b

-- what was a start is one, and leads to the name to which it led
pub record Grown (h : Store) (q : ℕ → ℕ) (h' : Store) (q' : ℕ → ℕ) : Type 0 where
  pub starts : (s : ℕ) → is_start (h.cell s) ≡ true → is_start (h'.cell s) ≡ true
  pub names : (s : ℕ) → is_start (h.cell s) ≡ true → q' (final h' s) ≡ q (final h s)

-- ---- roots

-- each further root has a node, and is what a start outside the space that is being left leads to
pub record AreOld (young : ℕ → Bool) (g : Graph) (further : ℕ → Bool) (h : Store) (q : ℕ → ℕ) : Type 0 where
  pub names : (a : ℕ) → further a ≡ true → (n : Node) × (get g.nodes a ≡ Some n)
  pub starts : (a : ℕ) → further a ≡ true → (s : ℕ) × (young s ≡ false) × (is_start (h.cell s) ≡ true) × (q (final h s) ≡ a)

-- no root names the space that is being left
pub record AreClear (young : ℕ → Bool) (o : Outside) : Type 0 where
  pub special : IsClear young o.special
  pub held : (k : Handle) (w : ℕ) → get o.held k ≡ Some w → IsClear young w
  pub waiting : (s : ℕ) → Contains (waiting_in o.groups) s → young s ≡ false

-- ---- ephemerons

-- the first slot of an ephemeron leads into the space that is being left
pub record HasYoungKey (young : ℕ → Bool) (h : Store) (b : Body) : Type 0 where
  pub ephemeron : b.format ≡ 5
  pub some : 0 < pointer_count b
  pub reference : slice_index b.words 0 % 8 ≡ 0
  pub key : young (final h (slice_index b.words 0 / 8)) ≡ true

-- each object that is held back is weak, or its key leads into the space that is being left
abbrev pub AreAsleep : (ℕ → Bool) → Store → (ℕ → Type 0) → Type 0
AreAsleep young h held = (s : ℕ) → young s ≡ false → is_ordinary h s ≡ true → held s → ((body_at h s).format ≡ 4) ⊎ HasYoungKey young h (body_at h s)

-- an ephemeron outside that is held back, and sleeps
pub record IsStuck (young : ℕ → Bool) (h : Store) (held : ℕ → Type 0) (s : ℕ) : Type 0 where
  pub ordinary : is_ordinary h s ≡ true
  pub outside : young s ≡ false
  pub back : held s
  pub asleep : HasYoungKey young h (body_at h s)
