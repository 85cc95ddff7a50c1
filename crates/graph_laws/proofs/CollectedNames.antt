-- A state that speaks only of names that have nodes goes on so after a collection.
use Rattle.std.proofs.Common.{◌≡◌, ◌≤◌, ℕ, Bool, true, false, cond, ◌==◌, ◌&&◌, ◌||◌, if◌then◌else◌, List, [], ◌∷◌, ◌++◌, get_or, refl, sym, ap, ◌∙◌, subst, Some, None, Option}
use Rattle.std.proofs.lemmas.List.{append-nil}
use Rattle.std.proofs.lemmas.Grind.{flat_map-append}
use Rattle.std.proofs.lemmas.List.Elements.{All-append, Contains-get_or}
use Rattle.std.specs.Option.{option_map, is_some}
use Rattle.std.specs.List.{All, list_any}
use Rattle.std.specs.FinMap.{get}
use Rattle.std.specs.FinSet.{contains}
use Rattle.spur_graph.specs.declared.answer.Value.{Value}
use Rattle.spur_graph.specs.declared.answer.Value.TheVariants.{Ref}
use Rattle.spur_graph.specs.Node.{Node}
use Rattle.spur_graph.specs.Graph.{Graph, HasNode, waiting}
use Rattle.spur_graph.specs.Room.{Room, Spot, is_old, spot_at}
use Rattle.spur_graph.specs.State.{State, with_graph}
use Rattle.spur_graph.specs.Live.{Live, IsRoot, Mourns, HandleNames, SpecialNames, EntryNames, IsNil, IsFalse, IsTrue}
use Rattle.spur_graph.specs.Rounds.{Decides, Fires, mourning, fire, IsGroup, Rounds, Ended, Again, without_dead, swept, Collect}
use Rattle.spur_graph.specs.Collections.{RoomCollected}
use Rattle.spur_graph.specs.Scavenges.{RoomScavenged}
use Rattle.spur_graph.proofs.MappedValues.{get-map_nodes}
use Rattle.graph_laws.proofs.Named.{IsNamed, has_name, ref_is}
use Rattle.graph_laws.proofs.Redirected.{came_from}
use Rattle.graph_laws.proofs.Fresh.{none_mapped}
use Rattle.graph_laws.proofs.Sweeping.{get-swept}
use Rattle.graph_laws.proofs.Surviving.{still-there, was-there, root_lives, pointers_survive}

-- ---- a group fires

pub get-fired : (g : Graph) (group : List ℕ) (a : ℕ) → get (fire g group).nodes a ≡ option_map (mourning group a) (get g.nodes a)
get-fired g group a = get-map_nodes (mourning group) g.nodes a

pub mourning-pointers : (group : List ℕ) (a : ℕ) (n : Node) → (mourning group a n).pointers ≡ n.pointers
mourning-pointers group a n = by (list_any (λ b. b == a) group)
  where
    by : (b : Bool) → (if b then record n { format = 1 } else n).pointers ≡ n.pointers
    by true = refl
    by false = refl

pub waiting-fired : (g : Graph) (group : List ℕ) → waiting (fire g group) ≡ waiting g ++ group
waiting-fired g group = flat_map-append (λ (names : List ℕ). names) g.mourners (group ∷ []) ∙ ap (λ names. waiting g ++ names) (append-nil group)

module _ {s : State} (k : IsNamed s) where
  fire-named : (f : ℕ → Bool) (group : List ℕ) → IsGroup s.graph f group → IsNamed (with_graph s (fire s.graph group))
  fire-named f group is = record {
    fresh = λ a l. get-fired g group a ∙ ap (option_map (mourning group a)) (k.fresh a l);
    pointers = λ a n e.
        let was = came_from (mourning group a) (get g.nodes a) n (sym (get-fired g group a) ∙ e) in
        subst (λ vs. All (HasNode (fire g group)) vs) (sym (mourning-pointers group a was.0) ∙ ap (λ (m : Node). m.pointers) was.2)
        (λ i v l. keep (get_or was.0.pointers i v) (k.pointers a was.0 was.1 i v l));
    nil = keep (Ref g.nil) k.nil;
    no = keep (Ref g.no) k.no;
    yes = keep (Ref g.yes) k.yes;
    special = keep g.special k.special;
    classes = λ i v e. keep v (k.classes i v e);
    handles = λ h v e. keep v (k.handles h v e);
    mourners = subst (All (λ a. HasNode (fire g group) (Ref a))) (sym (waiting-fired g group))
        (All-append (λ a. HasNode (fire g group) (Ref a)) (waiting g) group
        (λ i d l. keep (Ref (get_or (waiting g) i d)) (k.mourners i d l))
        (λ i d l. let fires = is.names.only (get_or group i d) (Contains-get_or group i d l) in keep (Ref (get_or group i d)) (has_name g (get_or group i d) fires.node fires.there)));
    spots = λ a none. k.spots a (none_mapped (mourning group a) (get g.nodes a) (sym (get-fired g group a) ∙ none));
    old_names = λ a none. k.old_names a (none_mapped (mourning group a) (get g.nodes a) (sym (get-fired g group a) ∙ none));
  }
    where
      g : Graph
      g = s.graph

      keep : (v : Value) → HasNode g v → HasNode (fire g group) v
      keep v has a e = let m = has a e in (mourning group a m.0, get-fired g group a ∙ ap (option_map (mourning group a)) m.1)

-- ---- rounds

pub rounds-ended : (f : ℕ → Bool) (g : Graph) (count : ℕ) (last : Graph) → Rounds f g count last → (a : ℕ) → Fires last f a → ⊥
rounds-ended f _ _ _ (Ended g ended) = ended
rounds-ended f _ _ last (Again g _ count group is rest) = rounds-ended f (fire g group) count last rest

rounds-named : (s : State) (f : ℕ → Bool) (g : Graph) (count : ℕ) (last : Graph) → Rounds f g count last → IsNamed (with_graph s g) → IsNamed (with_graph s last)
rounds-named s f _ _ _ (Ended g ended) k = k
rounds-named s f _ _ last (Again g _ count group is rest) k = rounds-named s f (fire g group) count last rest (fire-named k f group is)

-- ---- a collection

-- no name from the next one on has a node
abbrev pub IsFresh : Graph → Type 0
IsFresh g = (a : ℕ) → g.next ≤ a → get g.nodes a ≡ None

rounds-fresh : (f : ℕ → Bool) (g : Graph) (count : ℕ) (last : Graph) → Rounds f g count last → IsFresh g → IsFresh last
rounds-fresh f _ _ _ (Ended g ended) fresh = fresh
rounds-fresh f _ _ last (Again g _ count group is rest) fresh = rounds-fresh f (fire g group) count last rest (λ a l. get-fired g group a ∙ ap (option_map (mourning group a)) (fresh a l))

swept-none : (g : Graph) (live : ℕ → Bool) (a : ℕ) → get g.nodes a ≡ None → get (swept live g).nodes a ≡ None
swept-none g live a none = get-swept g live a ∙ ap (λ o. option_map (without_dead g live) (cond (live a) o None)) none ∙ by (live a)
  where
    by : (b : Bool) → option_map (without_dead g live) (cond b None None) ≡ None
    by true = refl
    by false = refl

pub collect-fresh : (g : Graph) (f : ℕ → Bool) (nilled fired : ℕ) (new : Graph) → Collect g f nilled fired new → IsFresh g → IsFresh new
collect-fresh g f nilled fired new c fresh = subst IsFresh (sym c.graph) (λ a l. swept-none c.mid c.live a (rounds-fresh f g fired c.mid c.rounds fresh a l))

-- the room tells of no name but those that have a node
pub record TellsOf (g : Graph) (room : Room) : Type 0 where
  pub spots : (a : ℕ) → get g.nodes a ≡ None → get room.spots a ≡ None
  pub old_names : (a : ℕ) → get g.nodes a ≡ None → contains room.old_names a ≡ false

-- a room does so where names that have a node have the spots, and names that have a spot are among the old names if they pass a test
tells_by : (g : Graph) (room : Room) (spot : ℕ → Option Spot) (test : ℕ → Bool) → ((a : ℕ) → get room.spots a ≡ (if is_some (get g.nodes a) then spot a else None))
    → ((a : ℕ) → contains room.old_names a ≡ (is_some (get room.spots a) && test a)) → TellsOf g room
tells_by g room spot test spots old_names = record {
  spots = no_spot;
  old_names = λ a none. old_names a ∙ ap (λ o. is_some o && test a) (no_spot a none);
}
  where
    no_spot : (a : ℕ) → get g.nodes a ≡ None → get room.spots a ≡ None
    no_spot a none = spots a ∙ ap (λ o. if is_some o then spot a else None) none

pub room-tells : (old : Room) (g : Graph) (new : Room) → RoomCollected old g new → TellsOf g new
room-tells old g new c = tells_by g new (get old.spots) (λ a. is_old (spot_at new a).space) c.spots c.old_names

pub scavenged-tells : (old : Room) (g : Graph) (new : Room) → RoomScavenged old g new → TellsOf g new
scavenged-tells old g new c =
    tells_by g new (λ a. option_map (λ (spot : Spot). record spot { space = (spot_at new a).space }) (get old.spots a)) (λ a. contains old.old_names a || is_old (spot_at new a).space) c.spots c.old_names

module _ {s : State} (k : IsNamed s) (f live : ℕ → Bool) (exact : Decides live (Live s.graph f)) (ended : (a : ℕ) → Fires s.graph f a → ⊥) where
  -- a root that has a node has one still
  root-there : (v : Value) → HasNode s.graph v → ((a : ℕ) → v ≡ Ref a → IsRoot s.graph a) → HasNode (swept live s.graph) v
  root-there v has root = still-there s.graph f live exact v (λ a e. let m = has a e in (m.0, m.1, root_lives s.graph f live exact a (root a e)))

  root_named : (b : ℕ) → HasNode s.graph (Ref b) → IsRoot s.graph b → HasNode (swept live s.graph) (Ref b)
  root_named b has root = root-there (Ref b) has (λ a e. subst (IsRoot s.graph) (ref_is b a e) root)

  swept-named : (room : Room) → TellsOf (swept live s.graph) room → IsNamed (record s { graph = swept live s.graph; room = room })
  swept-named room tells = record {
    fresh = λ a l. swept-none s.graph live a (k.fresh a l);
    pointers = λ a n e.
        let was = was-there s.graph f live exact a n e in
        let survive = pointers_survive s.graph f live exact ended k.nil a was.0 was.2 was.1 (k.pointers a was.0 was.1) in
        subst (λ (m : Node). All (HasNode (swept live s.graph)) m.pointers) was.3
        (λ i v l. still-there s.graph f live exact (get_or (without_dead s.graph live was.0).pointers i v) (survive i v l));
    nil = root_named s.graph.nil k.nil IsNil;
    no = root_named s.graph.no k.no IsFalse;
    yes = root_named s.graph.yes k.yes IsTrue;
    special = root-there s.graph.special k.special SpecialNames;
    classes = λ i v there. root-there v (k.classes i v there) (λ a e. EntryNames i a (there ∙ ap Some e));
    handles = λ h v there. root-there v (k.handles h v there) (λ a e. HandleNames h a (there ∙ ap Some e));
    mourners = λ i d l. root_named (get_or (waiting s.graph) i d) (k.mourners i d l) (Mourns (get_or (waiting s.graph) i d) (Contains-get_or (waiting s.graph) i d l));
    spots = tells.spots;
    old_names = tells.old_names;
  }

pub collect-named : {s : State} → IsNamed s → (f : ℕ → Bool) (nilled fired : ℕ) (new : Graph) → Collect s.graph f nilled fired new → (room : Room) → TellsOf new room
    → IsNamed (record s { graph = new; room = room })
collect-named {s} k f nilled fired new c room tells =
    let last : IsNamed (record s { graph = swept c.live c.mid; room = room }) =
    swept-named (rounds-named s f s.graph fired c.mid c.rounds k) f c.live c.exact (rounds-ended f s.graph fired c.mid c.rounds) room (subst (λ g. TellsOf g room) c.graph tells) in
    subst (λ g. IsNamed (record s { graph = g; room = room })) (sym c.graph) last
