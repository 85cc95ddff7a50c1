-- What a scavenge does to a state.
use Rattle.std.specs.Prelude.{◌≡◌, ◌≢◌, ◌≤◌, ◌<◌, ℕ, ◌+◌, ◌-◌, List, [], ◌∷◌, Bool, true, if◌then◌else◌, ◌&&◌, ◌||◌, nat_eq, nat_le, Option, None, Some}
use Rattle.std.specs.Option.{is_some, is_none, option_map}
use Rattle.std.specs.List.{find}
use Rattle.std.specs.FinMap.{get}
use Rattle.std.specs.FinSet.{contains}
use Rattle.spur_graph.specs.declared.answer.Answer.{Answer}
use Rattle.spur_graph.specs.declared.answer.Answer.TheVariants as answers
use Rattle.spur_graph.specs.declared.answer.Refusal.{Refusal}
use Rattle.spur_graph.specs.declared.answer.Refusal.TheVariants as r
use Rattle.spur_graph.specs.Graph.{Graph}
use Rattle.spur_graph.specs.Rounds.{Collect, IsListOf}
use Rattle.spur_graph.specs.FreeSizes.{among, without}
use Rattle.spur_graph.specs.Room.{Room, Spot, Old, Eden, Past, is_old, spot_at}
use Rattle.spur_graph.specs.Serve.{OldAlone, full_of}
use Rattle.spur_graph.specs.Collections.{words_standing}
use Rattle.spur_graph.specs.State.{State}

-- ---- words

-- the words of new space that are used: whatever lives may have to go to old space
abbrev pub young_words : Room → ℕ
young_words room = (room.eden_words - room.eden_left) + room.past_used

-- the size of the chunk into which survivors go: the least free one that has room for all of new space and two words more, which stay a chunk
abbrev pub chunk_for : ℕ → List ℕ → Option ℕ
chunk_for words free = find (nat_le (words + 2)) free

-- the words of the survivors that came to old space; nothing of old space dies
abbrev pub tenured_words : Room → Room → ℕ
tenured_words old new = words_standing Old new - words_standing Old old

-- ---- the room behind a scavenge

-- survivors of eden in the order in which they are copied, from so many words of past space on: each goes there where it fits, else to old space
pub data ArePlaced (old new : Room) : ℕ → List ℕ → Type 0 where
  no_more : ArePlaced old new new.past_used []
  to_past : {used a : ℕ} {names : List ℕ} → used + (spot_at old a).words ≤ old.survivor_words → (spot_at new a).space ≡ Past → ArePlaced old new (used + (spot_at old a).words) names
      → ArePlaced old new used (a ∷ names)
  to_old : {used a : ℕ} {names : List ℕ} → old.survivor_words < used + (spot_at old a).words → (spot_at new a).space ≡ Old → ArePlaced old new used names → ArePlaced old new used (a ∷ names)

-- a name that stands in eden and has a node in the graph
pub record SurvivesEden (old : Room) (g : Graph) (a : ℕ) : Type 0 where
  pub young : (spot_at old a).space ≡ Eden
  pub lives : is_some (get g.nodes a) ≡ true

-- the free chunks: one is taken, and what is not used of it is given back
pub record TakesChunk (free : List ℕ) (words tenured : ℕ) (new : List ℕ) : Type 0 where
  pub size : ℕ
  pub least : chunk_for words free ≡ Some size
  pub rest : new ≡ among (size - tenured) (without size free)

-- names that have a node in the graph keep their words, and the others are gone. What stood in old space stays there, survivors of past space go there, and those
-- of eden go where there is room for them in some order. What comes to old space is an old name from then on
pub record RoomScavenged (old : Room) (g : Graph) (new : Room) : Type 0 where
  pub order : List ℕ
  pub are : IsListOf (SurvivesEden old g) order
  pub placed : ArePlaced old new 0 order
  pub tenured : (a : ℕ) → (spot_at old a).space ≢ Eden → is_some (get new.spots a) ≡ true → (spot_at new a).space ≡ Old
  pub spots : (a : ℕ) → get new.spots a ≡ (if is_some (get g.nodes a) then option_map (λ (spot : Spot). record spot { space = (spot_at new a).space }) (get old.spots a) else None)
  pub old_names : (a : ℕ) → contains new.old_names a ≡ (is_some (get new.spots a) && (contains old.old_names a || is_old (spot_at new a).space))
  pub idle : young_words old ≡ 0 → new.free ≡ old.free
  pub free : young_words old ≢ 0 → TakesChunk old.free (young_words old) (tenured_words old new) new.free
  pub eden : new.eden_left ≡ old.eden_words
  pub rest : new ≡ record old { spots = new.spots; old_names = new.old_names; free = new.free; eden_left = new.eden_left; past_used = new.past_used }

-- ---- the command

-- no free chunk has room for all of new space
abbrev pub no_chunk : Room → Option Refusal
no_chunk room =
    if nat_eq (young_words room) 0 then None else
    if is_some (chunk_for (young_words room) room.free) then None else Some (r.Full (full_of OldAlone room (young_words room + 2)))

-- a scavenge is a collection whose further roots are the names that old space has or reaches
pub record Scavenges (old : State) (answer : Answer) (new : State) : Type 0 where
  pub nilled : ℕ
  pub fired : ℕ
  pub counts : answer ≡ answers.Counts nilled fired
  pub collect : Collect old.graph (contains old.room.old_names) nilled fired new.graph
  pub room : RoomScavenged old.room new.graph new.room
  pub rest : new ≡ record old { graph = new.graph; room = new.room }
