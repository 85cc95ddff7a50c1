-- A step that keeps all objects keeps the whole graph, under names that go with the places.
use Rattle.std.proofs.Common.{◌≡◌, ℕ, Bool, true, not, ◌*◌, ◌<◌, subst, ◌&&◌, ◌||◌, eqb, refl, sym, ap, ◌∙◌, arith}
use Rattle.spur_graph.specs.Cells.{Store, is_start, is_there, any_below}
use Rattle.spur_graph.specs.Ordinary.{root_slot, page_places, is_at, tells, is_internal, is_ordinary}
use Rattle.heap_cells.proofs.References.{ordinary_there}
use Rattle.heap_laws.specs.Placed.{Outside, CanPlace, IsPlacedOutside, ArePaired, graph_under}
use Rattle.heap_laws.specs.Instances.{all_objects}
use Rattle.heap_laws.proofs.Graphs.{whole-graph, graph-placed}
use Rattle.heap_laws.proofs.Loads.{sound-placed}
use Rattle.scavenge_laws.specs.Copying.{IsHeapStore, StandOutside, ArePlaces}
use Rattle.scavenge_laws.specs.Writing.{KeepsFirsts}
use Rattle.scavenge_laws.proofs.Sames.{same_graph}

-- names that have places are names of one place each
pub once : {p q : ℕ → ℕ} → ArePlaces p q → (s t : ℕ) → q s ≡ q t → s ≡ t
once {p} {q} k s t e = sym (k.left s) ∙ ap p e ∙ k.left t

-- the graph is the same where each object has the name of its place
pub placed-same : {to : ℕ → ℕ} {old new : Store} (k : CanPlace to (all_objects old) old new) (q q' : ℕ → ℕ) → ((s t : ℕ) → q s ≡ q t → s ≡ t) → ((s : ℕ) → is_ordinary old s ≡ true → q s ≡ q' (to s))
    → (o o' : Outside) (hash next : ℕ) → IsPlacedOutside to (all_objects old) old new o o' → graph_under q' new o'.special o'.held o'.groups hash next ≡ graph_under q old o.special o.held o.groups hash next
placed-same {to} {old} {new} k q q' one named o o' hash next out =
    let are : ArePaired to (all_objects old) old q q' (λ a. a) (λ a. a) = record { left = λ a. refl; right = λ a. refl; named = λ s e on. named s on } in
    same_graph (graph_under q old o.special o.held o.groups hash next) (graph_under q' new o'.special o'.held o'.groups hash next)
    (whole-graph (all_objects old) old q o hash next (λ s on. ordinary_there old s on) (graph-placed to (all_objects old) old new q q' (λ a. a) (λ a. a) k (λ s t a b e. one s t e) are o o' hash next next out)) refl

-- ---- what hangs on the slots of the hidden roots

module _ {old new : Store} (keeps : KeepsFirsts old new) (roots : (i : ℕ) → root_slot new i ≡ root_slot old i) where
  pub tells-kept : (i s : ℕ) → tells new i s ≡ tells old i s
  tells-kept i s = ap (is_at s) (ap new.to (roots i) ∙ keeps.to (root_slot old i))

  pub internal-kept : (s : ℕ) → is_internal new s ≡ is_internal old s
  unfolding is_internal
  internal-kept s =
      let nil = keeps.firsts 0 (omega arith) in
      let three = keeps.firsts 3 (omega arith) in
      let four = keeps.firsts 4 (omega arith) in
      λ x. eqb s (three x) || eqb s (four x) || (not (eqb s (nil x)) && any_below (λ i. tells-kept i s x) page_places)

  pub ordinary-kept : (s : ℕ) → is_there (new.cell s) ≡ is_there (old.cell s) → is_ordinary new s ≡ is_ordinary old s
  ordinary-kept s e = λ x. e x && not (internal-kept s x)

  pub outside-kept : (young : ℕ → Bool) → StandOutside young old → StandOutside young new
  outside-kept young k = record {
    inner = λ s on. k.inner s (sym (internal-kept s) ∙ on);
    firsts = λ j l. ap young (keeps.firsts j (omega (arith, l))) ∙ k.firsts j l;
  }

  pub heap-kept : {to : ℕ → ℕ} → CanPlace to (all_objects old) old new → IsHeapStore old → ((s : ℕ) → is_start (new.cell s) ≡ true → s < old.names) → IsHeapStore new
  heap-kept k h below = record {
    store = record {
      reads = keeps.reads;
      sound = sound-placed k (λ i l m. roots i ∙ h.store.sound.roots.tops i l m ∙ ap (λ s. 8 * s) (sym (keeps.firsts 0 (omega arith))));
    };
    to = λ w. keeps.to w ∙ h.to w;
    below = λ s e. subst (λ n. s < n) (sym keeps.names) (below s e);
  }
