-- The room behind a full collection is the same under other names.
use Rattle.std.proofs.Common.{◌≡◌, ◌≤◌, ℕ, ◌+◌, ◌-◌, Bool, cond, ◌&&◌, if◌then◌else◌, refl, sym, ap, ◌∙◌, subst, Some, None, Option}
use Rattle.std.proofs.lemmas.Iterator.Adapters.{option_map_id}
use Rattle.std.specs.Option.{option_map, is_some, unwrap_or}
use Rattle.std.specs.Ordering.{nat_cmp}
use Rattle.std.specs.Cmp.{nat_cmp_total}
use Rattle.std.specs.FinMap.{FinMap, get, contains_key, keys, retain_keys, get-retain_keys, contains_key-keys, nat_cmp-IsAntisymmetric}
use Rattle.std.specs.FinSet.{FinSet, contains, contains-retain, contains-from_list}
use Rattle.std.specs.FinSet as sets
use Rattle.spur_graph.specs.Node.{Node}
use Rattle.spur_graph.specs.Graph.{Graph, node}
use Rattle.spur_graph.specs.Names.{Iso, rename_node}
use Rattle.spur_graph.specs.Room.{Room, Space, Spot, Old, Eden, Past, no_spot, is_old}
use Rattle.spur_graph.specs.Step.{SameRoom}
use Rattle.spur_graph.specs.Collections.{same_space, words_standing, pinned_in_old, AreGaps, RoomCollected}
use Rattle.graph_laws.proofs.Values.{node-renamed}
use Rattle.graph_laws.proofs.Counts.{weight-renamed}

-- the names that have a spot and pass a test
abbrev pub names_that : (ℕ → Bool) → FinMap nat_cmp Spot → FinSet nat_cmp
names_that test spots = sets.retain (sets.from_list (keys spots)) test

pub names_that_are : (test : ℕ → Bool) (spots : FinMap nat_cmp Spot) (a : ℕ) → contains (names_that test spots) a ≡ (is_some (get spots a) && test a)
names_that_are test spots a =
    contains-retain (sets.from_list (keys spots)) test a (λ b tied. ap test (sym (nat_cmp-IsAntisymmetric a b tied)))
    ∙ ap (λ b. b && test a) (contains-from_list nat_cmp_total (keys spots) a ∙ sym (contains_key-keys spots a))

-- the name stands in old space
abbrev pub stands_old : FinMap nat_cmp Spot → ℕ → Bool
stands_old spots a = is_old (unwrap_or (get spots a) no_spot).space

-- the spots of the names that have nodes
abbrev spots_of : Graph → FinMap nat_cmp Spot → FinMap nat_cmp Spot
spots_of g spots = retain_keys spots (contains_key g.nodes)

spots_are : (g : Graph) (spots : FinMap nat_cmp Spot) (a : ℕ) → get (spots_of g spots) a ≡ (if is_some (get g.nodes a) then get spots a else None)
spots_are g spots a = get-retain_keys spots (contains_key g.nodes) a (λ b tied. ap (contains_key g.nodes) (sym (nat_cmp-IsAntisymmetric a b tied)))

pub is_some-mapped : {X Y : Type 0} (f : X → Y) (o : Option X) → is_some (option_map f o) ≡ is_some o
is_some-mapped f None = refl
is_some-mapped f (Some x) = refl

module _ {G H : Graph} {p back : ℕ → ℕ} (iso : Iso G H p back) {R S : Room} (k : SameRoom R S p) where
  same_spots : (a : ℕ) → get S.spots (p a) ≡ option_map (λ spot. spot) (get R.spots a)
  same_spots a = k.spots a ∙ sym (option_map_id (get R.spots a))

  pub words_standing-renamed : (space : Space) → words_standing space S ≡ words_standing space R
  words_standing-renamed space = weight-renamed (λ spot. spot) p back iso.left iso.right R.spots S.spots same_spots
      (λ e. if same_space e.1.space space then e.1.words else 0) (λ e. if same_space e.1.space space then e.1.words else 0) (λ a spot there. refl)

  pinned_in_old-renamed : pinned_in_old H S ≡ pinned_in_old G R
  pinned_in_old-renamed = λ i.
      (k.rest i).internal_pinned
      + weight-renamed (λ spot. spot) p back iso.left iso.right R.spots S.spots same_spots
      (λ e. cond (is_old e.1.space && (node G e.0).pinned) 1 0) (λ e. cond (is_old e.1.space && (node H e.0).pinned) 1 0)
      (λ a spot there. ap (λ (n : Node). cond (is_old spot.space && n.pinned) 1 0) (node-renamed iso a)) i

-- the room of a collection is one for each room and graph that differ from its own in names alone
pub room_collected-renamed : {G H : Graph} {p back : ℕ → ℕ} → Iso G H p back → {R S : Room} → SameRoom R S p → (new : Room) → RoomCollected R G new
    → (end : Room) × RoomCollected S H end × SameRoom new end p
room_collected-renamed {G} {H} {p} iso {R} {S} k new c = (
  end,
  record {
    spots = spots_are H S.spots;
    old_names = names_that_are (stands_old spots) spots;
    free = λ occupied e.
        let gaps = c.free occupied (e ∙ (λ i. (k.rest i).internal_words + words_standing-renamed iso same Old i)) in (
          subst (λ words. occupied ≤ words) (λ i. (sym k.rest i).old_words) gaps.0,
          subst (λ words. AreGaps new.free (words - occupied) (pinned_in_old H end)) (λ i. (sym k.rest i).old_words)
              (subst (AreGaps new.free (R.old_words - occupied)) (sym (pinned_in_old-renamed iso same)) gaps.1),
        );
    eden = ap (λ words. new.eden_left + words) (words_standing-renamed iso same Eden) ∙ c.eden ∙ (λ i. (sym k.rest i).eden_words);
    past = c.past ∙ sym (words_standing-renamed iso same Past);
    rest = refl;
  },
  same,
)
  where
    spots : FinMap nat_cmp Spot
    spots = spots_of H S.spots

    end : Room
    end = record S { spots = spots; old_names = names_that (stands_old spots) spots; free = new.free; eden_left = new.eden_left; past_used = new.past_used }

    spots_there : (a : ℕ) → get spots (p a) ≡ get new.spots a
    spots_there a =
        spots_are H S.spots (p a)
        ∙ (λ i. if (ap is_some (iso.nodes a) ∙ is_some-mapped (rename_node p) (get G.nodes a)) i then k.spots a i else None)
        ∙ sym (c.spots a)

    same : SameRoom new end p
    same = record {
      spots = spots_there;
      old_names = λ a.
          names_that_are (stands_old spots) spots (p a)
          ∙ (λ i. is_some (spots_there a i) && is_old (unwrap_or (spots_there a i) no_spot).space)
          ∙ sym (c.old_names a);
      rest =
          ap (λ (room : Room). record room { spots = spots; old_names = names_that (stands_old spots) spots; free = new.free; eden_left = new.eden_left; past_used = new.past_used }) k.rest
          ∙ sym (ap (λ (room : Room). record room { spots = spots; old_names = names_that (stands_old spots) spots }) c.rest);
    }
