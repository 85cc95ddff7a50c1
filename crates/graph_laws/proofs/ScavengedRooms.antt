-- The room behind a scavenge is the same under other names.
use Rattle.std.proofs.Common.{◌≡◌, ◌≢◌, ◌≤◌, ◌<◌, ℕ, ◌+◌, ◌-◌, Bool, true, cond, ◌&&◌, ◌||◌, if◌then◌else◌, List, [], ◌∷◌, map, refl, sym, ap, ◌∙◌, subst, Some, None}
use Rattle.std.specs.Option.{option_map, is_some, unwrap_or}
use Rattle.std.specs.Ordering.{nat_cmp}
use Rattle.std.specs.Cmp.{nat_cmp_total, unsigned_tied}
use Rattle.std.specs.FinMap.{FinMap, get, entries, from_entries, find, get-from_entries, get-entries}
use Rattle.std.specs.FinSet.{contains}
use Rattle.spur_graph.specs.Graph.{Graph}
use Rattle.spur_graph.specs.Names.{Iso, rename_node}
use Rattle.spur_graph.specs.Room.{Room, Spot, Old, Eden, no_spot, spot_at, is_old}
use Rattle.spur_graph.specs.Serve.{full_of}
use Rattle.spur_graph.specs.FreeSizes.{among, without}
use Rattle.spur_graph.specs.Step.{SameRoom}
use Rattle.spur_graph.specs.Scavenges.{young_words, chunk_for, tenured_words, ArePlaced, no_more, to_past, to_old, SurvivesEden, TakesChunk, RoomScavenged, no_chunk}
use Rattle.graph_laws.proofs.Values.{same_number}
use Rattle.graph_laws.proofs.BecomeRooms.{spot-same}
use Rattle.graph_laws.proofs.Rounding.{list_of-renamed}
use Rattle.graph_laws.proofs.CollectedRooms.{names_that, names_that_are, is_some-mapped, words_standing-renamed}

-- the spots, each under the name that stands for its own
abbrev moved : (ℕ → ℕ) → FinMap nat_cmp Spot → FinMap nat_cmp Spot
moved p spots = from_entries (map (λ e. (p e.0, e.1)) (entries spots))

module _ (p back : ℕ → ℕ) (left : (a : ℕ) → back (p a) ≡ a) where
  find-moved : (a : ℕ) (es : List (ℕ × Spot)) → find nat_cmp (p a) (map (λ e. (p e.0, e.1)) es) ≡ find nat_cmp a es
  find-moved a [] = refl
  find-moved a (e ∷ es) = λ i. cond ((unsigned_tied (p a) (p e.0) ∙ same_number p back left a e.0 ∙ sym (unsigned_tied a e.0)) i) (Some e.1) (find-moved a es i)

  get-moved : (spots : FinMap nat_cmp Spot) (a : ℕ) → get (moved p spots) (p a) ≡ get spots a
  get-moved spots a = get-from_entries nat_cmp_total (map (λ e. (p e.0, e.1)) (entries spots)) (p a) ∙ find-moved a (entries spots) ∙ sym (get-entries spots a)

-- ---- words

module _ {R S : Room} {p : ℕ → ℕ} (k : SameRoom R S p) where
  young_words-same : young_words S ≡ young_words R
  young_words-same = ap young_words k.rest

  free-same : S.free ≡ R.free
  free-same = λ i. (k.rest i).free

  -- the same chunk has room for all of new space, or none has
  pub no_chunk-same : no_chunk S ≡ no_chunk R
  unfolding full_of
  no_chunk-same = ap no_chunk k.rest

-- ---- survivors

module _ {G H : Graph} {p back : ℕ → ℕ} (iso : Iso G H p back) {R S : Room} (k : SameRoom R S p) where
  lives-same : (a : ℕ) → is_some (get H.nodes (p a)) ≡ is_some (get G.nodes a)
  lives-same a = ap is_some (iso.nodes a) ∙ is_some-mapped (rename_node p) (get G.nodes a)

  survives-there : (a : ℕ) → SurvivesEden R G a → SurvivesEden S H (p a)
  survives-there a survives = record { young = (λ i. (spot-same back iso.left k a i).space) ∙ survives.young; lives = lives-same a ∙ survives.lives }

  survives-here : (b : ℕ) → SurvivesEden S H b → SurvivesEden R G (back b)
  survives-here b survives = record {
    young = (λ i. (sym (spot-same back iso.left k (back b)) i).space) ∙ (λ i. (spot_at S (iso.right b i)).space) ∙ survives.young;
    lives = sym (lives-same (back b)) ∙ (λ i. is_some (get H.nodes (iso.right b i))) ∙ survives.lives;
  }

  -- each goes to the same space
  placed-renamed : {new end : Room} → SameRoom new end p → (used : ℕ) (names : List ℕ) → ArePlaced R new used names → ArePlaced S end used (map p names)
  placed-renamed {new} {end} same used [] no_more = subst (λ n. ArePlaced S end n []) (λ i. (same.rest i).past_used) no_more
  placed-renamed {new} {end} same used (a ∷ names) (to_past fits stands rest) =
      to_past (subst (λ n. used + n ≤ S.survivor_words) (λ i. (sym (spot-same back iso.left k a) i).words) (subst (λ n. used + (spot_at R a).words ≤ n) (λ i. (sym k.rest i).survivor_words) fits))
      ((λ i. (spot-same back iso.left same a i).space) ∙ stands)
      (subst (λ n. ArePlaced S end (used + n) (map p names)) (λ i. (sym (spot-same back iso.left k a) i).words) (placed-renamed same (used + (spot_at R a).words) names rest))
  placed-renamed {new} {end} same used (a ∷ names) (to_old large stands rest) =
      to_old (subst (λ n. S.survivor_words < used + n) (λ i. (sym (spot-same back iso.left k a) i).words) (subst (λ n. n < used + (spot_at R a).words) (λ i. (sym k.rest i).survivor_words) large))
      ((λ i. (spot-same back iso.left same a i).space) ∙ stands)
      (placed-renamed same used names rest)

  -- as many words come to old space
  tenured_words-renamed : {new end : Room} → SameRoom new end p → tenured_words S end ≡ tenured_words R new
  tenured_words-renamed same = λ i. words_standing-renamed iso same Old i - words_standing-renamed iso k Old i

  takes_chunk-renamed : {new end : Room} → SameRoom new end p → (young_words R ≢ 0 → TakesChunk R.free (young_words R) (tenured_words R new) new.free)
      → young_words S ≢ 0 → TakesChunk S.free (young_words S) (tenured_words S end) end.free
  takes_chunk-renamed same takes some =
      let taken = takes (λ none. some (young_words-same k ∙ none)) in
      record {
        size = taken.size;
        least = (λ i. chunk_for (young_words-same k i) (free-same k i)) ∙ taken.least;
        rest = free-same same ∙ taken.rest ∙ sym (λ i. among (taken.size - tenured_words-renamed same i) (without taken.size (free-same k i)));
      }

-- ---- the room

-- the room of a scavenge is one for each room and graph that differ from its own in names alone
pub room_scavenged-renamed : {G H : Graph} {p back : ℕ → ℕ} → Iso G H p back → {R S : Room} → SameRoom R S p → (new : Room) → RoomScavenged R G new
    → (end : Room) × RoomScavenged S H end × SameRoom new end p
room_scavenged-renamed {G} {H} {p} {back} iso {R} {S} k new c = (
  end,
  record {
    order = map p c.order;
    are = list_of-renamed iso (SurvivesEden R G) (SurvivesEden S H) (survives-there iso k) (survives-here iso k) c.order c.are;
    placed = placed-renamed iso k same 0 c.order c.placed;
    tenured = λ b old there. subst IsTenured (iso.right b) (tenured_there (back b)) old there;
    spots = λ b. subst HasSpot (iso.right b) (spot_there (back b));
    old_names = names_that_are is_old_name spots;
    idle = λ none. c.idle (sym (young_words-same k) ∙ none) ∙ sym (free-same k);
    free = takes_chunk-renamed iso k same c.free;
    eden = c.eden ∙ (λ i. (sym k.rest i).eden_words);
    rest = refl;
  },
  same,
)
  where
    spots : FinMap nat_cmp Spot
    spots = moved p new.spots

    is_old_name : ℕ → Bool
    is_old_name b = contains S.old_names b || is_old (unwrap_or (get spots b) no_spot).space

    end : Room
    end = record S { spots = spots; old_names = names_that is_old_name spots; free = new.free; eden_left = new.eden_left; past_used = new.past_used }

    same : SameRoom new end p
    same = record {
      spots = get-moved p back iso.left new.spots;
      old_names = λ a.
          names_that_are is_old_name spots (p a)
          ∙ (λ i. is_some (get-moved p back iso.left new.spots a i) && (k.old_names a i || is_old (unwrap_or (get-moved p back iso.left new.spots a i) no_spot).space))
          ∙ sym (c.old_names a);
      rest =
          ap (λ (room : Room). record room { spots = spots; old_names = names_that is_old_name spots; free = new.free; eden_left = new.eden_left; past_used = new.past_used }) k.rest
          ∙ sym (ap (λ (room : Room). record room { spots = spots; old_names = names_that is_old_name spots }) c.rest);
    }

    IsTenured : ℕ → Type 0
    IsTenured b = (spot_at S b).space ≢ Eden → is_some (get spots b) ≡ true → (spot_at end b).space ≡ Old

    tenured_there : (a : ℕ) → IsTenured (p a)
    tenured_there a old there =
        (λ i. (spot-same back iso.left same a i).space)
        ∙ c.tenured a (λ young. old ((λ i. (spot-same back iso.left k a i).space) ∙ young)) (ap is_some (sym (same.spots a)) ∙ there)

    HasSpot : ℕ → Type 0
    HasSpot b = get spots b ≡ (if is_some (get H.nodes b) then option_map (λ (spot : Spot). record spot { space = (spot_at end b).space }) (get S.spots b) else None)

    spot_there : (a : ℕ) → HasSpot (p a)
    spot_there a =
        same.spots a ∙ c.spots a
        ∙ sym (λ i. if lives-same iso k a i then option_map (λ (spot : Spot). record spot { space = (spot-same back iso.left same a i).space }) (k.spots a i) else None)
