-- What a full collection and a mourning do to a state.
use Rattle.std.specs.Prelude.{◌≡◌, ◌≤◌, ℕ, ◌+◌, ◌-◌, List, [], ◌∷◌, length, Bool, true, false, if◌then◌else◌, ◌==◌, ◌&&◌, not, nat_eq, Option, None}
use Rattle.std.specs.Option.{is_some}
use Rattle.std.specs.List.{All, Contains, filter, sum, sum_by, count_by}
use Rattle.std.specs.FinMap.{get, entries}
use Rattle.std.specs.FinSet.{contains}
use Rattle.spur_graph.specs.declared.answer.Answer.{Answer}
use Rattle.spur_graph.specs.declared.answer.Answer.TheVariants as answers
use Rattle.spur_graph.specs.declared.answer.Value.TheVariants.{Ref}
use Rattle.spur_graph.specs.Bytes.{Text}
use Rattle.spur_graph.specs.Graph.{Graph, node, bind}
use Rattle.spur_graph.specs.Live.{none}
use Rattle.spur_graph.specs.Rounds.{Collect}
use Rattle.spur_graph.specs.FreeSizes.{ascending}
use Rattle.spur_graph.specs.Room.{Room, Space, Spot, Old, Eden, Past, is_old, spot_at}
use Rattle.spur_graph.specs.State.{State}

-- ---- the room behind a full collection

abbrev pub same_space : Space → Space → Bool
same_space Old Old = true
same_space Eden Eden = true
same_space Past Past = true
same_space a b = false

-- the words of the names that stand in a space
abbrev pub words_standing : Space → Room → ℕ
words_standing space room = sum_by (λ e. if same_space e.1.space space then e.1.words else 0) (entries room.spots)

-- how many pinned objects old space has, internal ones among them
abbrev pub pinned_in_old : Graph → Room → ℕ
pinned_in_old g room = room.internal_pinned + count_by (λ e. is_old e.1.space && (node g e.0).pinned) (entries room.spots)

-- the free chunks of old space, by their sizes: as many words as nothing stands in, cut by pinned objects alone
pub record AreGaps (free : List ℕ) (words pinned : ℕ) : Type 0 where
  pub ordered : free ≡ ascending free
  pub two : All (λ n. 2 ≤ n) free
  pub rest : sum free ≡ words
  pub few : length free ≤ pinned + 1

-- names that have a node in the graph keep spaces and words, and the others are gone. The old names are those in old space
pub record RoomCollected (old : Room) (g : Graph) (new : Room) : Type 0 where
  pub spots : (a : ℕ) → get new.spots a ≡ (if is_some (get g.nodes a) then get old.spots a else None)
  pub old_names : (a : ℕ) → contains new.old_names a ≡ (is_some (get new.spots a) && is_old (spot_at new a).space)
  pub free : (occupied : ℕ) → occupied ≡ old.internal_words + words_standing Old new → (occupied ≤ old.old_words) × AreGaps new.free (old.old_words - occupied) (pinned_in_old g new)
  pub eden : new.eden_left + words_standing Eden new ≡ old.eden_words
  pub past : new.past_used ≡ words_standing Past new
  pub rest : new ≡ record old { spots = new.spots; old_names = new.old_names; free = new.free; eden_left = new.eden_left; past_used = new.past_used }

-- ---- the commands

-- `gc` is a collection with no further roots
pub record Collects (old : State) (answer : Answer) (new : State) : Type 0 where
  pub nilled : ℕ
  pub fired : ℕ
  pub counts : answer ≡ answers.Counts nilled fired
  pub collect : Collect old.graph none nilled fired new.graph
  pub room : RoomCollected old.room new.graph new.room
  pub rest : new ≡ record old { graph = new.graph; room = new.room }

-- the groups without one name of the first, which goes too where it has no other
abbrev pub without_first : ℕ → List ℕ → List (List ℕ) → List (List ℕ)
without_first a group groups = if nat_eq (length group) 1 then groups else filter (λ b. not (nat_eq a b)) group ∷ groups

-- `mourn` takes one name of the earliest group away, and binds the handle to it
pub record Mourns (old : State) (k : ℕ) (h : Text) (answer : Answer) (new : State) : Type 0 where
  pub group : List ℕ
  pub groups : List (List ℕ)
  pub are : old.graph.mourners ≡ group ∷ groups
  pub name : ℕ
  pub waits : Contains group name
  pub done : answer ≡ answers.Done
  pub becomes : new ≡ record old { graph = bind (record old.graph { mourners = without_first name group groups }) k h (Ref name) }
