-- The laws of scavenging. What is to do and what is held back are told by tests here; the lemmas behind the laws have any predicates.
use Rattle.std.specs.Prelude.{ℕ, ◌≡◌, ◌≢◌, ◌⊎◌, ◌+◌, ◌<◌, ◌||◌, Bool, true, false, nat_eq, List, [], ◌∷◌, ◌++◌, map, length, drop}
use Rattle.std.specs.List.{All, Contains, count_by}
use Rattle.spur_graph.specs.Graph.{Graph, AreApart}
use Rattle.spur_graph.specs.Names.{swapped}
use Rattle.spur_graph.specs.Live.{Live, none}
use Rattle.spur_graph.specs.Rounds.{Decides, Fires, Rounds}
use Rattle.spur_graph.specs.Cells.{Moved, There, Store, is_there, first, final}
use Rattle.spur_graph.specs.Ordinary.{body_at, is_ordinary}
use Rattle.spur_graph.specs.Heaps.{View, IsWhole, is_remembered, names_over, store_of, heap_graph}
use Rattle.heap_laws.specs.Placed.{Outside}
use Rattle.heap_laws.specs.Placing.{outside_of}
use Rattle.scavenge_laws.specs.Copying.{IsClear, strong_slots, strong_words, Lives, Copying, Grown, AreOld, AreClear, AreAsleep, IsStuck}
use Rattle.scavenge_laws.specs.Writing.{PutsCell, PutsCopy, AreFollowed, FollowsRoots}
use Rattle.scavenge_laws.specs.Firing.{fire_some, fired_body, Firing}
use Rattle.scavenge_laws.specs.Ending.{stands_outside, cleared_words, is_dead_word, Ending, Drops, Collected}
use Rattle.scavenge_laws.specs.Entering.{is_old_name, IsNewSpace, LeadToOldNames}
use Rattle.scavenge_laws.specs.Noting.{Noting}

-- a test as a set
abbrev pub On : (ℕ → Bool) → ℕ → Type 0
On f s = f s ≡ true

-- ---- the beginning

-- what is remembered is to do, and nothing else; the further roots are the old names
pub record Begins (young : ℕ → Bool) (v : View) : Type 0 where
  pub copying : Copying young (heap_graph v) (is_old_name v) (store_of v) (outside_of v) (On (is_remembered v.words)) (On none) (λ s. s) (λ s. s)
  pub old : AreOld young (heap_graph v) (is_old_name v) (store_of v) (λ s. s)
  pub leads : LeadToOldNames v
  pub notes : Noting v.spaces.old_end (store_of v) (On (is_remembered v.words)) (On none)

abbrev pub ScavengeBegins : Type 0
ScavengeBegins = (young : ℕ → Bool) (v : View) → IsWhole v → IsNewSpace young v → Begins young v

-- ---- copies, and words that are followed

-- a heap goes on to another, in which places have these names
pub record GoesOn (young : ℕ → Bool) (g : Graph) (further : ℕ → Bool) (old new : Store) (o : Outside) (todo held : ℕ → Bool) (p q p' q' : ℕ → ℕ) : Type 0 where
  pub copying : Copying young g further new o (On todo) (On held) p' q'
  pub grown : Grown old q new q'

-- a live object is copied out, and its copy is to do
abbrev pub CopyKeepsGraph : Type 0
CopyKeepsGraph = (young : ℕ → Bool) (g : Graph) (further : ℕ → Bool) (old new : Store) (o : Outside) (todo held : ℕ → Bool) (p q : ℕ → ℕ) (a b : ℕ)
    → Copying young g further old o (On todo) (On held) p q → PutsCopy a b old new → young a ≡ true → is_there (old.cell a) ≡ true → young b ≡ false → Lives g further (q a)
    → GoesOn young g further old new o (λ s. todo s || nat_eq s b) held p q (λ s. swapped a b (p s)) (λ s. q (swapped a b s))

-- slots of an object that is to do are followed
abbrev pub SlotsKeepGraph : Type 0
SlotsKeepGraph = (young : ℕ → Bool) (g : Graph) (further : ℕ → Bool) (old new : Store) (o : Outside) (todo held : ℕ → Bool) (p q : ℕ → ℕ) (a : ℕ) (words : List ℕ)
    → Copying young g further old o (On todo) (On held) p q → PutsCell a (There (record (body_at old a) { words = words })) old new → is_there (old.cell a) ≡ true → a ≢ first old 4
    → AreFollowed old (body_at old a) words → todo a ≡ true → GoesOn young g further old new o todo held p q p q

-- a forwarder that is to do leads to its end at once
abbrev pub ForwarderKeepsGraph : Type 0
ForwarderKeepsGraph = (young : ℕ → Bool) (g : Graph) (further : ℕ → Bool) (old new : Store) (o : Outside) (todo held : ℕ → Bool) (p q : ℕ → ℕ) (a t : ℕ)
    → Copying young g further old o (On todo) (On held) p q → PutsCell a (Moved (final old a)) old new → old.cell a ≡ Moved t → todo a ≡ true → GoesOn young g further old new o todo held p q p q

-- roots are followed
abbrev pub RootsKeepGraph : Type 0
RootsKeepGraph = (young : ℕ → Bool) (g : Graph) (further : ℕ → Bool) (h : Store) (o o' : Outside) (todo held : ℕ → Bool) (p q : ℕ → ℕ)
    → Copying young g further h o (On todo) (On held) p q → FollowsRoots h o o' → Copying young g further h o' (On todo) (On held) p q

-- ---- with nothing to do

-- no root names the space that is being left, the further roots are led to from outside, and what is held back sleeps
pub record IsDone (young : ℕ → Bool) (g : Graph) (further : ℕ → Bool) (h : Store) (o : Outside) (held : ℕ → Bool) (p q : ℕ → ℕ) : Type 0 where
  pub copying : Copying young g further h o (On none) (On held) p q
  pub clear : AreClear young o
  pub old : AreOld young g further h q
  pub asleep : AreAsleep young h (On held)

-- exactly what is live stands outside
abbrev pub LiveStandOutside : Type 0
LiveStandOutside = (young : ℕ → Bool) (g : Graph) (further : ℕ → Bool) (h : Store) (o : Outside) (held : ℕ → Bool) (p q : ℕ → ℕ) → IsDone young g further h o held p q → Decides (stands_outside young h p) (Live g further)

-- exactly the ephemerons that are stuck fire
pub record FireStuck (young : ℕ → Bool) (g : Graph) (further : ℕ → Bool) (h : Store) (held : ℕ → Bool) (p q : ℕ → ℕ) : Type 0 where
  pub all : (a : ℕ) → Fires g further a → IsStuck young h (On held) (p a)
  pub only : (s : ℕ) → IsStuck young h (On held) s → Fires g further (q s)

abbrev pub StuckFire : Type 0
StuckFire = (young : ℕ → Bool) (g : Graph) (further : ℕ → Bool) (h : Store) (o : Outside) (held : ℕ → Bool) (p q : ℕ → ℕ) → IsDone young g further h o held p q → FireStuck young g further h held p q

-- the list has each place of a stuck ephemeron once
pub record AreStuck (young : ℕ → Bool) (h : Store) (held : ℕ → Bool) (places : List ℕ) : Type 0 where
  pub apart : AreApart places
  pub all : (s : ℕ) → IsStuck young h (On held) s → Contains places s
  pub only : (s : ℕ) → Contains places s → IsStuck young h (On held) s

-- so they are one more round, and where there are none, there are no more rounds
abbrev pub RoundIsMade : Type 0
RoundIsMade = (young : ℕ → Bool) (g : Graph) (further : ℕ → Bool) (h : Store) (o : Outside) (held : ℕ → Bool) (p q : ℕ → ℕ) (places : List ℕ) → IsDone young g further h o held p q → AreStuck young h held places
    → ((places ≡ []) × Rounds further g 0 g) ⊎ ((places ≢ []) × ((count : ℕ) (last : Graph) → Rounds further (fire_some g (map q places)) count last → Rounds further g (length places + count) last))

-- one more of a group fires, and is to do
abbrev pub FiringKeepsGraph : Type 0
FiringKeepsGraph = (young : ℕ → Bool) (g : Graph) (further : ℕ → Bool) (old new : Store) (o : Outside) (places : List ℕ) (todo held : ℕ → Bool) (p q : ℕ → ℕ) (a : ℕ)
    → Firing young g further old o places (On todo) (On held) p q → PutsCell a (There (fired_body (body_at old a))) old new → is_ordinary old a ≡ true → young a ≡ false → (body_at old a).format ≡ 5
    → Firing young g further new o (places ++ a ∷ []) (On (λ s. todo s || nat_eq s a)) (On held) p q × Grown old q new q

-- ---- the end

-- with nothing to do, what is held back is left to clear, and nothing was counted
abbrev pub EndBegins : Type 0
EndBegins = (young : ℕ → Bool) (g : Graph) (further : ℕ → Bool) (h : Store) (o : Outside) (held : ℕ → Bool) (p q : ℕ → ℕ) → IsDone young g further h o held p q → Ending young g (stands_outside young h p) h o (On held) 0 p q

-- a weak object is cleared
abbrev pub ClearingKeepsGraph : Type 0
ClearingKeepsGraph = (young : ℕ → Bool) (g : Graph) (live : ℕ → Bool) (old new : Store) (o : Outside) (left left' : ℕ → Bool) (count : ℕ) (p q : ℕ → ℕ) (a : ℕ)
    → Ending young g live old o (On left) count p q → PutsCell a (There (record (body_at old a) { words = cleared_words young g old (body_at old a) })) old new → is_ordinary old a ≡ true → young a ≡ false → (body_at old a).format ≡ 4
    → All (IsClear young) (strong_words g (body_at old a)) → ((s : ℕ) → left s ≡ true → (left' s ≡ true) ⊎ (s ≡ a))
    → Ending young g live new o (On left') (count + count_by (is_dead_word young old) (drop (strong_slots g (body_at old a)) (body_at old a).words)) p q

-- what is left of a heap when the space that is being left goes is a collection of the heap of before
abbrev pub ScavengeCollects : Type 0
ScavengeCollects = (young : ℕ → Bool) (first last : Graph) (further live : ℕ → Bool) (h new : Store) (o : Outside) (nilled fired : ℕ) (p q : ℕ → ℕ)
    → Rounds further first fired last → Decides live (Live last further) → Ending young last live h o (On none) nilled p q → Drops young h new
    → Collected first further nilled fired new o p q

-- what has to be remembered once new space went was noted
abbrev pub NotedAreAll : Type 0
NotedAreAll = (young : ℕ → Bool) (end : ℕ) (old new : Store) (noted : ℕ → Bool) → Noting end old (On none) (On noted) → Drops young old new → ((s : ℕ) → s < end → young s ≡ false)
    → (s : ℕ) → s < end → s ≢ first new 3 → names_over end (new.cell s) ≡ true → noted s ≡ true
