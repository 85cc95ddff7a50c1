-- The rooms of exchanges, redirections and pins are the same under other names.
use Rattle.std.proofs.Common.{◌≡◌, ℕ, Bool, true, false, cond, not, ◌&&◌, ◌||◌, ◌+◌, if◌then◌else◌, nat_eq, refl, ap, sym, ◌∙◌, subst, Option, Some, None}
use Rattle.std.specs.Bool.{beq}
use Rattle.std.specs.Option.{option_map, unwrap_or}
use Rattle.std.specs.Ordering.{eq_by_cmp, nat_cmp}
use Rattle.std.specs.Cmp.{nat_cmp_total, unsigned_tied}
use Rattle.std.specs.FinMap.{get, get-remove}
use Rattle.std.specs.FinSet.{contains, contains-insert, contains-remove}
use Rattle.std.specs.FinSet as sets
use Rattle.spur_graph.specs.Room.{Room, Spot, Old, no_spot, spot_at, slots_in, fresh_words, fresh_spot, placed, is_old}
use Rattle.spur_graph.specs.Serve.{Source, Anywhere, OldAlone, Served, serve}
use Rattle.spur_graph.specs.Step.{SameRoom}
use Rattle.spur_graph.specs.Refusals.{unserved, no_piece, no_old_words}
use Rattle.spur_graph.specs.Become.{needs_no_words, exchange_words, room_exchanged, room_redirected, room_pinned}
use Rattle.graph_laws.proofs.Values.{same_number}
use Rattle.graph_laws.proofs.Rooms.{with_places, served_with, serve-same, served-keeps, unserved-same}
use Rattle.graph_laws.proofs.Changes.{same_placed}

-- both rooms are there and differ in names alone, or neither is
abbrev pub RoomsAlike : (ℕ → ℕ) → Option Room → Option Room → Type 0
RoomsAlike p None u = u ≡ None
RoomsAlike p (Some R) None = ⊥
RoomsAlike p (Some R) (Some S) = SameRoom R S p

-- the room of an exchange: nothing is asked for, or both names get the spot of the other in the piece that is served
abbrev crossing : Room → Bool → Spot → Spot → ℕ → ℕ → Option Served → Option Room
crossing room stays first second a b served =
    if stays then Some room
    else option_map (λ served. placed (placed served.room a (fresh_spot served.space (slots_in second))) b (fresh_spot served.space (slots_in first))) served

-- the room of a pin: the name stands in old space, or gets a spot there
abbrev pinning : Room → Spot → ℕ → Option Served → Option Room
pinning room spot a served = if is_old spot.space then Some room else option_map (λ served. placed served.room a (record spot { space = Old })) served

module _ {R S : Room} {p : ℕ → ℕ} (back : ℕ → ℕ) (left : (a : ℕ) → back (p a) ≡ a) (k : SameRoom R S p) where
  pub spot-same : (a : ℕ) → spot_at S (p a) ≡ spot_at R a
  spot-same a = ap (λ o. unwrap_or o no_spot) (k.spots a)

  needs_no_words-same : (a b : ℕ) → needs_no_words S (p a) (p b) ≡ needs_no_words R a b
  needs_no_words-same a b = λ i. same_number p back left a b i || (nat_eq (spot-same a i).words (spot-same b i).words && beq (spot-same a i).overflow (spot-same b i).overflow)

  exchange_words-same : (a b : ℕ) → exchange_words S (p a) (p b) ≡ exchange_words R a b
  exchange_words-same a b = λ i. fresh_words (slots_in (spot-same a i)) + fresh_words (slots_in (spot-same b i))

  -- the refusals of the words that are asked for
  pub no_piece-same : (a b : ℕ) → no_piece S (p a) (p b) ≡ no_piece R a b
  no_piece-same a b = λ i. if needs_no_words-same a b i then None else (ap (unserved Anywhere S) (exchange_words-same a b) ∙ unserved-same k Anywhere (exchange_words R a b)) i

  pub no_old_words-same : (a : ℕ) → no_old_words S (p a) ≡ no_old_words R a
  no_old_words-same a = λ i. if is_old (spot-same a i).space then None else (ap (λ (x : Spot). unserved OldAlone S x.words) (spot-same a) ∙ unserved-same k OldAlone (spot_at R a).words) i

  -- what is served leaves rooms that differ in names alone
  served-alike : (source : Source) (n : ℕ) (served : Served) → serve source R n ≡ Some served → SameRoom served.room (with_places S.spots S.old_names served.room) p
  served-alike source n served e = let keep = served-keeps source R n served e in record {
    spots = λ a. k.spots a ∙ ap (λ x. get x a) (sym keep.spots);
    old_names = λ a. k.old_names a ∙ ap (λ x. contains x a) (sym keep.old_names);
    rest = refl;
  }

  pub room_exchanged-same : (a b : ℕ) → RoomsAlike p (room_exchanged R a b) (room_exchanged S (p a) (p b))
  room_exchanged-same a b =
      let need = exchange_words R a b in
      subst (RoomsAlike p (room_exchanged R a b))
      (sym (λ i. crossing S (needs_no_words-same a b i) (spot-same a i) (spot-same b i) (p a) (p b) ((ap (serve Anywhere S) (exchange_words-same a b) ∙ serve-same k Anywhere need) i)))
      (by (needs_no_words R a b) (serve Anywhere R need) refl)
    where
      by : (x : Bool) (o : Option Served) → serve Anywhere R (exchange_words R a b) ≡ o
          → RoomsAlike p (crossing R x (spot_at R a) (spot_at R b) a b o) (crossing S x (spot_at R a) (spot_at R b) (p a) (p b) (option_map (served_with S.spots S.old_names) o))
      by true o e = k
      by false None e = refl
      by false (Some served) e =
          same_placed back left (same_placed back left (served-alike Anywhere (exchange_words R a b) served e) a (fresh_spot served.space (slots_in (spot_at R b)))) b (fresh_spot served.space (slots_in (spot_at R a)))

  pub room_pinned-same : (a : ℕ) → RoomsAlike p (room_pinned R a) (room_pinned S (p a))
  room_pinned-same a =
      let need = (spot_at R a).words in
      subst (RoomsAlike p (room_pinned R a))
      (sym (λ i. pinning S (spot-same a i) (p a) ((ap (λ (x : Spot). serve OldAlone S x.words) (spot-same a) ∙ serve-same k OldAlone need) i)))
      (by (is_old (spot_at R a).space) (serve OldAlone R need) refl)
    where
      by : (x : Bool) (o : Option Served) → serve OldAlone R (spot_at R a).words ≡ o
          → RoomsAlike p (if x then Some R else option_map (λ served. placed served.room a (record (spot_at R a) { space = Old })) o)
          (if x then Some S else option_map (λ served. placed served.room (p a) (record (spot_at R a) { space = Old })) (option_map (served_with S.spots S.old_names) o))
      by true o e = k
      by false None e = refl
      by false (Some served) e = same_placed back left (served-alike OldAlone (spot_at R a).words served e) a (record (spot_at R a) { space = Old })

  -- ---- redirection

  key : (a b : ℕ) → eq_by_cmp nat_cmp (p a) (p b) ≡ eq_by_cmp nat_cmp a b
  key a b = unsigned_tied (p a) (p b) ∙ same_number p back left a b ∙ sym (unsigned_tied a b)

  joined : (a b c : ℕ) → contains (if contains S.old_names (p a) then sets.insert S.old_names (p b) else S.old_names) (p c) ≡ contains (if contains R.old_names a then sets.insert R.old_names b else R.old_names) c
  joined a b c = ap (λ x. contains (if x then sets.insert S.old_names (p b) else S.old_names) (p c)) (k.old_names a) ∙ either (contains R.old_names a)
    where
      either : (x : Bool) → contains (if x then sets.insert S.old_names (p b) else S.old_names) (p c) ≡ contains (if x then sets.insert R.old_names b else R.old_names) c
      either true = contains-insert nat_cmp_total S.old_names (p b) (p c) ∙ (λ i. key c b i || k.old_names c i) ∙ sym (contains-insert nat_cmp_total R.old_names b c)
      either false = k.old_names c

  pub same_room_redirected : (a b : ℕ) → SameRoom (room_redirected R a b) (room_redirected S (p a) (p b)) p
  same_room_redirected a b = record {
    spots = λ c. get-remove nat_cmp_total S.spots (p a) (p c) ∙ (λ i. cond (key c a i) None (k.spots c i)) ∙ sym (get-remove nat_cmp_total R.spots a c);
    old_names = λ c.
        contains-remove nat_cmp_total (if contains S.old_names (p a) then sets.insert S.old_names (p b) else S.old_names) (p a) (p c)
        ∙ (λ i. not (key c a i) && joined a b c i) ∙ sym (contains-remove nat_cmp_total (if contains R.old_names a then sets.insert R.old_names b else R.old_names) a c);
    rest = λ i. record (k.rest i) { spots = (room_redirected S (p a) (p b)).spots; old_names = (room_redirected S (p a) (p b)).old_names };
  }
