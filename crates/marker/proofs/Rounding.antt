-- Rounds of ephemerons, one after another.
use Rattle.std.proofs.Common.{◌≡◌, ◌≢◌, ℕ, Bool, true, ◌+◌, ◌/◌, ◌≤◌, List, [], ◌∷◌, ◌++◌, map, length, length-append, refl, sym, ap, ◌∙◌, subst, arith, None}
use Rattle.std.proofs.lemmas.Grind.{flat_map-append}
use Rattle.std.proofs.lemmas.List.{append-nil, length-map}
use Rattle.std.proofs.lemmas.List.Elements.{All-map}
use Rattle.std.specs.List.{Contains}
use Rattle.spur_graph.specs.Graph.{Graph}
use Rattle.spur_graph.specs.Live.{Live, Reached, none}
use Rattle.spur_graph.specs.Rounds.{Decides, Fires, Rounds, Ended, Again}
use Rattle.spur_graph.specs.Cells.{is_moved}
use Rattle.spur_graph.specs.Ordinary.{is_ordinary}
use Rattle.spur_graph.specs.Heaps.{View, IsWhole, heap_graph, heap_room, waiting_in}
use Rattle.spur_graph.specs.Cells.{final}
use Rattle.spur_graph.proofs.Reaching.{live_by_rules}
use Rattle.heap_cells.proofs.CellKinds.{moved_starts}
use Rattle.spur_heap.specs.MarkBits.{marks}
use Rattle.spur_heap.specs.Views.{store}
use Rattle.spur_heap.proofs.FewMourners.{few_apart}
use Rattle.spur_heap.proofs.Puts.{whole_sound}
use Rattle.weak_ephemeron.specs.Stays.{Stays}
use Rattle.marker.specs.Firing.{FiresFirst, Firing, Gathers, Rounded, behind}
use Rattle.marker.specs.Marks.{silent_of}
use Rattle.marker.specs.Waiting.{Progress}
use Rattle.marker.specs.Visits.{AreBare, HasRoom, IsStackOf, Works, left, unmarked}
use Rattle.marker.proofs.FiredGroups.{graph_fired, names_fired, progress_goes_on}
use Rattle.marker.proofs.FiredHeaps.{fires_long, fires_marks, fires_stack}
use Rattle.marker.proofs.Gathering.{gathered_progress, gathered_room, gathered_stack}
use Rattle.marker.proofs.Keeping.{same_length}
use Rattle.marker.proofs.Steps.{none-in-nil}
use Rattle.marker.proofs.Working.{room_kept}

-- ---- the mourners

behind_waiting : (groups : List (List ℕ)) (group : List ℕ) → waiting_in (behind groups group) ≡ waiting_in groups ++ group
behind_waiting groups [] = sym (append-nil (waiting_in groups))
behind_waiting groups (s ∷ group) = flat_map-append (λ (names : List ℕ). names) groups ((s ∷ group) ∷ []) ∙ ap (λ (names : List ℕ). waiting_in groups ++ names) (append-nil (s ∷ group))

-- no more wait than there are objects
pub few_waiting : (v : View) → IsWhole v → length (waiting_in v.mourners) ≤ length v.words / 2
few_waiting v whole =
    let names : List ℕ = waiting_in v.mourners in
    let few = few_apart v (whole_sound v whole) (map (final (store v)) names) whole.mourners.apart
    (All-map (λ s. is_ordinary (store v) s ≡ true) (final (store v)) names (λ i d l. (whole.mourners.fired i d l).ordinary)) in
    omega (arith, few, length-map names (final (store v)))

-- ---- no mark changes

pub stays_bare : {a b : View} → Stays a b → AreBare a → AreBare b
stays_bare {a} {b} k bare s moved =
    let was : is_moved ((store a).cell s) ≡ true = sym (k.forwarders s) ∙ moved in
    k.marks s (moved_starts ((store a).cell s) was) ∙ bare s was

-- ---- one round after another

-- what dies was gathered
pub firing_gathered : (v b : View) → Gathers (length v.words) v b → IsWhole b → Decides (marks v) (Live (heap_graph v) none) → Firing v 0 b
firing_gathered v b x whole exact =
    let graph : heap_graph b ≡ heap_graph v = ap (λ (u : View). heap_graph u) x.rest in
    record {
      rounds = λ last count r. let sum : count ≡ 0 + count = omega arith in subst (λ n. Rounds none (heap_graph v) n last) sum (subst (λ (g : Graph). Rounds none g count last) graph r);
      progress = gathered_progress v b x whole exact;
      exact = subst (λ (u : View). Decides (marks u) (Live (heap_graph u) none)) (sym x.rest) exact;
      room = ap (λ (u : View). heap_room u) x.rest;
      bare = λ bare. subst (λ (u : View). AreBare u) (sym x.rest) bare;
      rest = x.rest ∙ (λ i. record v { words = (sym x.rest i).words; mourners = (sym x.rest i).mourners; stack = b.stack });
      idle = λ e. x.rest;
      long = ap (λ (u : View). length u.words) x.rest;
      waiting = let same = ap (λ (u : View). length (waiting_in u.mourners)) x.rest in omega (arith, same);
      ordinary = gathered_stack v b x whole;
      places = gathered_room v b x whole;
    }

module _ (v : View) (fired : ℕ) (a : View) (f : Firing v fired a) (count : ℕ) (b : View) (x : FiresFirst (length a.stack) a count b) where
  pub fired_waiting : length (waiting_in b.mourners) ≡ length (waiting_in a.mourners) + count
  fired_waiting =
      let grown = ap (λ gs. length (waiting_in gs)) x.table ∙ ap (λ (names : List ℕ). length names) (behind_waiting a.mourners x.group) ∙ length-append (waiting_in a.mourners) x.group in
      let is = x.count in
      omega (arith, grown, is)

  pub fired_stack : IsStackOf b
  fired_stack t among = x.stays.ordinary t ∙ f.ordinary t (subst (λ (ss : List ℕ). Contains ss t) (fires_stack (length a.stack) a count b x) among)

  pub fired_room : HasRoom b
  fired_room =
      let bits : ◌≡◌ {A = ℕ → Bool} (marks b) (marks a) = λ i t. fires_marks (length a.stack) a count b x t i in
      let same : unmarked b ≡ unmarked a = λ i. left (bits i) (x.stays.starts i) in
      let stack = ap (λ (ss : List ℕ). length ss) (fires_stack (length a.stack) a count b x) in
      let long = fires_long (length a.stack) a count b x in
      let room = f.places in
      omega (arith, same, stack, long, room)

  -- nothing fired
  pub firing_ended : count ≡ 0 → v.stack ≡ [] → (c : View) → c ≡ record b { stack = [] } → Rounded v fired c
  firing_ended none_fired empty c cleared =
      let no_name : x.group ≡ [] = listed x.group (sym x.count ∙ none_fired) in
      let same : c ≡ record a { stack = [] } = cleared ∙ ap (λ (u : View). record u { stack = [] }) (x.idle no_name) in
      let ended : (t : ℕ) → Fires (heap_graph a) none t → ⊥ = λ t fires. none-in-nil t (subst (λ (ss : List ℕ). Contains ss t) no_name ((names_fired a count b x f.exact f.progress).all t fires)) in
      let all : fired + 0 ≡ fired = omega arith in
      let rest : record a { stack = [] } ≡ record v { words = a.words; mourners = a.mourners } =
      ap (λ (u : View). record u { stack = [] }) f.rest ∙ ap (λ (ss : List ℕ). record v { words = a.words; mourners = a.mourners; stack = ss }) (sym empty) in
      subst (λ (u : View). Rounded v fired u) (sym same) (record {
        rounds = subst (λ n. Rounds none (heap_graph v) n (heap_graph a)) all (f.rounds (heap_graph a) 0 (Ended (heap_graph a) ended));
        exact = f.exact;
        room = f.room;
        bare = f.bare;
        rest = rest;
        idle = λ e. ap (λ (u : View). record u { stack = [] }) (f.idle e) ∙ ap (λ (ss : List ℕ). record v { stack = ss }) (sym empty);
      })
    where
      listed : (xs : List ℕ) → length xs ≡ 0 → xs ≡ []
      listed [] e = refl
      listed (y ∷ ys) e = absurd (omega (arith, e))

  -- a group fired, and what lives through it was marked
  module _ (more : count ≢ 0) (c : View) (w : Works None b c)
      (all : Progress (heap_graph b) (silent_of None) (marks b) b.stack → (t : ℕ) → Reached (heap_graph b) none (silent_of None) t → marks c t ≡ true) where
    some : x.group ≢ []
    some e = more (x.count ∙ ap (λ (names : List ℕ). length names) e)

    progress : Progress (heap_graph b) (silent_of None) (marks b) b.stack
    progress = progress_goes_on a count b x f.exact f.progress some

    progress_then : Progress (heap_graph b) (silent_of None) (marks c) c.stack
    progress_then = w.progress progress

    pub firing_more : Firing v (fired + count) c
    firing_more = record {
      rounds = λ last n r.
          let here : Rounds none (heap_graph a) (length x.group + n) last =
          Again (heap_graph a) last n x.group (record { some = some; names = names_fired a count b x f.exact f.progress }) (subst (λ (g : Graph). Rounds none g n last) (w.keeps.graph ∙ graph_fired a count b x some) r) in
          let is = x.count in
          let sum : fired + (length x.group + n) ≡ fired + count + n = omega (arith, is) in
          subst (λ m. Rounds none (heap_graph v) m last) sum (f.rounds last (length x.group + n) here);
      progress = subst (λ (g : Graph). Progress g none (marks c) c.stack) (sym w.keeps.graph) progress_then;
      exact = subst (λ (g : Graph). Decides (marks c) (Live g none)) (sym w.keeps.graph) (record {
        sound = λ t on. (live_by_rules (heap_graph b) none none t).1 (progress_then.marking.sound t on);
        whole = λ t lives. all progress t ((live_by_rules (heap_graph b) none none t).0 lives);
      });
      room = w.keeps.room ∙ x.stays.room ∙ f.room;
      bare = λ bare. w.bare (stays_bare x.stays (f.bare bare));
      rest = rest_then;
      idle = λ e. absurd (more (omega (arith, e)));
      long = same_length w.keeps ∙ fires_long (length a.stack) a count b x ∙ f.long;
      waiting =
          let now = ap (λ (u : View). length (waiting_in u.mourners)) w.keeps.rest in
          let grown = fired_waiting in
          let was = f.waiting in
          omega (arith, now, grown, was);
      ordinary = w.ordinary fired_stack;
      places = room_kept b c w.keeps w.low fired_room;
    }
      where
        rest_then : c ≡ record v { words = c.words; mourners = c.mourners; stack = c.stack }
        rest_then =
            let groups : c.mourners ≡ b.mourners = ap (λ (u : View). u.mourners) w.keeps.rest in
            w.keeps.rest
            ∙ ap (λ (u : View). record u { words = c.words; stack = c.stack }) x.stays.rest
            ∙ ap (λ (u : View). record u { words = c.words; mourners = b.mourners; stack = c.stack }) f.rest
            ∙ ap (λ (gs : List (List ℕ)). record v { words = c.words; mourners = gs; stack = c.stack }) (sym groups)
