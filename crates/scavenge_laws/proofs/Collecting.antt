-- The end of a scavenge is a collection.
use Rattle.std.proofs.Common.{◌≡◌, ℕ, Bool, not, ◌&&◌, refl, sym, ap, ◌∙◌, subst, inl, inr, arith}
use Rattle.std.proofs.lemmas.Bool.{and_parts, not-true}
use Rattle.std.specs.FinMap.{get}
use Rattle.spur_graph.specs.Graph.{Graph}
use Rattle.spur_graph.specs.Names.{Iso}
use Rattle.spur_graph.specs.Live.{Live, none}
use Rattle.spur_graph.specs.Rounds.{Decides, Rounds, Ended, Again, fire, swept, nils}
use Rattle.spur_graph.specs.Cells.{Store}
use Rattle.spur_graph.specs.Ordinary.{is_ordinary}
use Rattle.spur_graph.specs.CellGraph.{nodes_of}
use Rattle.spur_graph.specs.Heaps.{own_name, graph_in}
use Rattle.spur_graph.proofs.Reaching.{live_by_rules}
use Rattle.heap_cells.proofs.References.{ordinary_there}
use Rattle.heap_laws.specs.Placed.{Outside, ArePaired, graph_under}
use Rattle.heap_laws.specs.Instances.{IsGoodOutside, all_objects, same_place}
use Rattle.heap_laws.proofs.Graphs.{whole-graph, graph-placed}
use Rattle.scavenge_laws.specs.Copying.{IsHeapStore, ArePlaces, Copying, AreOld, AreClear, AreAsleep}
use Rattle.scavenge_laws.specs.Ending.{stands_outside, Ending, Drops, Collected}
use Rattle.scavenge_laws.proofs.Keeping.{once}
use Rattle.scavenge_laws.proofs.Resaying.{resaid_placed, roots-resaid, same-roots}
use Rattle.scavenge_laws.proofs.Putting.{resays_itself}
use Rattle.scavenge_laws.proofs.Places.{nodes-are}
use Rattle.scavenge_laws.proofs.Ends.{forwarders, scanned, all-out, only-live}
use Rattle.scavenge_laws.proofs.Dropping.{none-left, swept-same, dropped-good, dropped-heap}

-- ---- once nothing is to do

module _ {young : ℕ → Bool} {g : Graph} {further : ℕ → Bool} {h : Store} {o : Outside} {todo held : ℕ → Type 0} {p q : ℕ → ℕ} (c : Copying young g further h o todo held p q) (done : (s : ℕ) → todo s → ⊥) (clear : AreClear young o) where
  pub ending_begins : Ending young g (stands_outside young h p) h o held 0 p q
  ending_begins = record {
    heap = c.heap;
    outer = c.outer;
    good = c.good;
    places = c.places;
    standing = λ a. refl;
    rest = c.same ∙ (λ i. record g { nodes = sym (nodes-are c) i });
    nodes = λ a. inl (ap (λ m. get m a) (nodes-are c));
    nilled = (let e : nils (stands_outside young h p) (record g { nodes = nodes_of q h }) ≡ nils (stands_outside young h p) g = ap (λ m. nils (stands_outside young h p) (record g { nodes = m })) (nodes-are c) in omega (arith, e));
    moved = forwarders c done;
    clear = λ s b out n e. elim (scanned c done s b out n e) [ inl all ↦ inr all | inr back ↦ inl back.0 ];
    roots = clear;
  }

  pub live_stand : AreOld young g further h q → AreAsleep young h held → Decides (stands_outside young h p) (Live g further)
  live_stand old asleep = record {
    sound = λ a on.
        let parts = and_parts (is_ordinary h (p a)) (not (young (p a))) on in
        (live_by_rules g further none a).1 (only-live c done clear old asleep a (record { ordinary = parts.0; outside = not-true (young (p a)) parts.1 }));
    whole = λ a l.
        let s = all-out c done clear old asleep a ((live_by_rules g further none a).0 l) in
        λ x. s.ordinary x && not (s.outside x);
  }

-- ---- names and places

-- under its own names a store stands for the same graph
pub renamed : {h : Store} {p q : ℕ → ℕ} → IsHeapStore h → ArePlaces p q → (o : Outside) (hash next next' : ℕ) → IsGoodOutside h o → Iso (graph_under q h o.special o.held o.groups hash next) (graph_in h o.special o.held o.groups hash next') p q
renamed {h} {p} {q} heap places o hash next next' good =
    let k = resays_itself heap in
    let are : ArePaired same_place (all_objects h) h q own_name p q = record { left = places.right; right = places.left; named = λ s e on. places.left s } in
    whole-graph (all_objects h) h q o hash next (λ s on. ordinary_there h s on)
    (graph-placed same_place (all_objects h) h h q own_name p q (resaid_placed k) (λ s t a b e. once places s t e) are o o hash next next' (roots-resaid k o o good (same-roots k o)))

-- rounds draw no hash
rounds-hash : {further : ℕ → Bool} (g : Graph) (count : ℕ) (last : Graph) → Rounds further g count last → last.hash_state ≡ g.hash_state
rounds-hash _ _ _ (Ended g none) = refl
rounds-hash _ _ last (Again g _ count group is rest) = rounds-hash (fire g group) count last rest

-- ---- the whole

pub collected : {young : ℕ → Bool} {further : ℕ → Bool} {live : ℕ → Bool} {h new : Store} {o : Outside} {left : ℕ → Type 0} {nilled fired : ℕ} {p q : ℕ → ℕ} (old g : Graph) → Rounds further old fired g → Decides live (Live g further)
    → Ending young g live h o left nilled p q → ((s : ℕ) → left s → ⊥) → Drops young h new → Collected old further nilled fired new o p q
collected {young} {further} {live} {h} {new} {o} {left} {nilled} {fired} {p} {q} old g rounds exact c none d = record {
  end = swept live g;
  collect = record { mid = g; rounds = rounds; live = live; exact = exact; graph = refl; count = none-left c none };
  store = (dropped-heap c none d).store;
  good = dropped-good c none d;
  graph = λ next.
      subst (λ x. Iso x (graph_in new o.special o.held o.groups old.hash_state next) p q) (swept-same c none d)
      (subst (λ n. Iso (graph_under q new o.special o.held o.groups g.hash_state g.next) (graph_in new o.special o.held o.groups n next) p q) (rounds-hash old fired g rounds)
      (renamed (dropped-heap c none d) c.places o g.hash_state g.next next (dropped-good c none d)));
}
