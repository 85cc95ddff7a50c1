-- Whatever is live in a closed graph has a node.
use Rattle.std.proofs.Common.{◌≡◌, ℕ, Bool, true, false, if◌then◌else◌, List, [], take, refl, ap, ◌∙◌, subst, arith, Some}
use Rattle.std.proofs.lemmas.Bool.{false≢true}
use Rattle.std.proofs.lemmas.List.Elements.{All-take}
use Rattle.std.specs.List.{All, Contains}
use Rattle.std.specs.FinMap.{get}
use Rattle.spur_graph.specs.declared.answer.Value.TheVariants.{Ref}
use Rattle.spur_graph.specs.Node.{Node}
use Rattle.spur_graph.specs.Graph.{Graph, HasNode, IsClosed, waiting}
use Rattle.spur_graph.specs.Live.{IsRoot, HandleNames, Mourns, SpecialNames, EntryNames, IsNil, IsFalse, IsTrue, Live, Reached, AtRoot, AtGiven, ByStrong, ByLoose, ByKey, is_keyed, none, strong_count, strong_values}
use Rattle.spur_graph.proofs.Reaching.{live_by_rules}
use Rattle.graph_laws.proofs.Named.{ref_is}

-- the name has a node
abbrev pub IsThere : Graph → ℕ → Type 0
IsThere g a = (n : Node) × (get g.nodes a ≡ Some n)

member : {X : Type 0} → (P : X → Type 0) (xs : List X) (x : X) → All P xs → Contains xs x → P x
member P xs x all c = subst P c.2 (all c.0 x c.1)

module _ (g : Graph) (closed : IsClosed g) where
  root_there : (a : ℕ) → IsRoot g a → IsThere g a
  root_there _ (HandleNames h a at) = (closed.held_values h (Ref a) at).1 a refl
  root_there _ (Mourns a waits) = let f = member (λ b. (n : Node) × (get g.nodes b ≡ Some n) × (n.format ≡ 1)) (waiting g) a closed.fired waits in (f.0, f.1)
  root_there _ (SpecialNames a value) = closed.special_there.1 a value
  root_there _ (EntryNames i a at) =
      let e = closed.entered i (Ref a) at in
      (e.2.class, ap (get g.nodes) (ref_is a e.0 e.1) ∙ e.2.there)
  root_there _ IsNil = closed.names 0 0 (omega arith) g.nil refl
  root_there _ IsFalse = closed.names 1 0 (omega arith) g.no refl
  root_there _ IsTrue = closed.names 2 0 (omega arith) g.yes refl

  pointer_there : (b a : ℕ) (n : Node) → get g.nodes b ≡ Some n → Contains n.pointers (Ref a) → IsThere g a
  pointer_there b a n there among = member (HasNode g) n.pointers (Ref a) (closed.all_nodes b n there).1 among a refl

  strong_there : (b a : ℕ) (n : Node) → get g.nodes b ≡ Some n → Contains (strong_values g n) (Ref a) → IsThere g a
  strong_there b a n there among = member (HasNode g) (strong_values g n) (Ref a) (by (is_keyed n)) among a refl
    where
      by : (x : Bool) → All (HasNode g) (if x then [] else take (strong_count g n) n.pointers)
      by true = λ i d l. absurd (omega (arith, l))
      by false = All-take (HasNode g) (strong_count g n) n.pointers (closed.all_nodes b n there).1

  reached_there : (a : ℕ) → Reached g none none a → IsThere g a
  reached_there a (AtRoot _ root) = root_there a root
  reached_there a (AtGiven _ is) = absurd (false≢true is)
  reached_there a (ByStrong b _ n live speaks there value) = strong_there b a n there value
  reached_there a (ByLoose b _ n key live speaks there keyed first immediate value) = pointer_there b a n there value
  reached_there a (ByKey b c _ n live speaks there keyed first also value) = pointer_there b a n there value

  pub live_there : (a : ℕ) → Live g none a → IsThere g a
  live_there a live = reached_there a ((live_by_rules g none none a).0 live)
