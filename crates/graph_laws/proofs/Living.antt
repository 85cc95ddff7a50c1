-- What is live is live under other names, and nothing else is.
use Rattle.std.proofs.Common.{◌≡◌, ◌<◌, ◌↔◌, ℕ, Bool, true, false, ◌==◌, ◌&&◌, if◌then◌else◌, nat_lt, List, [], map, take, drop, slice_get, refl, sym, ap, ◌∙◌, subst, Some, None, Option}
use Rattle.std.proofs.lemmas.List.{length-map, take-map, drop-map}
use Rattle.std.proofs.lemmas.Option.{slice_get-map}
use Rattle.std.proofs.Math.ListN.{get_or-map}
use Rattle.std.specs.Option.{option_map}
use Rattle.std.specs.List.{Contains}
use Rattle.std.specs.FinMap.{get}
use Rattle.spur_graph.specs.declared.answer.Value.{Value}
use Rattle.spur_graph.specs.declared.answer.Value.TheVariants.{Int, Char, Float, Ref}
use Rattle.spur_graph.specs.Node.{Node}
use Rattle.spur_graph.specs.Graph.{Graph, node, waiting}
use Rattle.spur_graph.specs.Names.{Iso, rename, rename_node}
use Rattle.spur_graph.specs.Live.{fixed_in, fixed_of, is_keyed, strong_count, strong_values, weak_values, IsRoot, HandleNames, Mourns, SpecialNames, EntryNames, IsNil, IsFalse, IsTrue, IsDerived, Reached, AtRoot, AtGiven, ByStrong, ByLoose, ByKey}
use Rattle.spur_graph.proofs.Reaching.{live_by_rules}
use Rattle.graph_laws.proofs.Values.{immediate-renamed, node-renamed}
use Rattle.graph_laws.proofs.Becoming.{waiting-renamed}
use Rattle.graph_laws.proofs.Turning.{turned}

-- what is among some is among what they go to
pub among-mapped : {X Y : Type 0} (f : X → Y) (xs : List X) (x : X) → Contains xs x → Contains (map f xs) (f x)
among-mapped f xs x c = (c.0, subst (λ n. c.0 < n) (sym (length-map xs f)) c.1, get_or-map f xs c.0 x ∙ ap f c.2)

module _ {G H : Graph} {p back : ℕ → ℕ} (k : Iso G H p back) where
  -- ---- values

  fixed_in-renamed : (o : Option Value) → fixed_in (option_map (rename p) o) ≡ fixed_in o
  fixed_in-renamed None = refl
  fixed_in-renamed (Some (Int n)) = refl
  fixed_in-renamed (Some (Char c)) = refl
  fixed_in-renamed (Some (Float w)) = refl
  fixed_in-renamed (Some (Ref a)) = refl

  fixed_of-renamed : (o : Option Value) → fixed_of H (option_map (rename p) o) ≡ fixed_of G o
  fixed_of-renamed None = refl
  fixed_of-renamed (Some (Int n)) = refl
  fixed_of-renamed (Some (Char c)) = refl
  fixed_of-renamed (Some (Float w)) = refl
  fixed_of-renamed (Some (Ref c)) =
      ap (λ (n : Node). fixed_in (slice_get n.pointers 2)) (node-renamed k c)
      ∙ ap fixed_in (slice_get-map (rename p) (node G c).pointers 2)
      ∙ fixed_in-renamed (slice_get (node G c).pointers 2)

  pub is_keyed-renamed : (n : Node) → is_keyed (rename_node p n) ≡ is_keyed n
  is_keyed-renamed n = ap (λ l. (n.format == 5) && nat_lt 0 l) (length-map n.pointers (rename p))

  pub strong_count-renamed : (n : Node) → strong_count H (rename_node p n) ≡ strong_count G n
  strong_count-renamed n = λ i. if n.format == 4 then (ap (fixed_of H) (k.classes n.class) ∙ fixed_of-renamed (get G.classes n.class)) i else length-map n.pointers (rename p) i

  strong_values-renamed : (n : Node) → strong_values H (rename_node p n) ≡ map (rename p) (strong_values G n)
  strong_values-renamed n = (λ i. if is_keyed-renamed n i then [] else take (strong_count-renamed n i) (map (rename p) n.pointers)) ∙ by (is_keyed n)
    where
      by : (b : Bool) → (if b then [] else take (strong_count G n) (map (rename p) n.pointers)) ≡ map (rename p) (if b then [] else take (strong_count G n) n.pointers)
      by true = refl
      by false = take-map (rename p) (strong_count G n) n.pointers

  pub weak_values-renamed : (n : Node) → weak_values H (rename_node p n) ≡ map (rename p) (weak_values G n)
  weak_values-renamed n = (λ i. if n.format == 4 then drop (strong_count-renamed n i) (map (rename p) n.pointers) else []) ∙ by (n.format == 4)
    where
      by : (b : Bool) → (if b then drop (strong_count G n) (map (rename p) n.pointers) else []) ≡ map (rename p) (if b then drop (strong_count G n) n.pointers else [])
      by true = drop-map (rename p) (strong_count G n) n.pointers
      by false = refl

  pub first-renamed : (n : Node) (v : Value) → slice_get n.pointers 0 ≡ Some v → slice_get (map (rename p) n.pointers) 0 ≡ Some (rename p v)
  first-renamed n v e = slice_get-map (rename p) n.pointers 0 ∙ ap (option_map (rename p)) e

  pub there-renamed : (a : ℕ) (n : Node) → get G.nodes a ≡ Some n → get H.nodes (p a) ≡ Some (rename_node p n)
  there-renamed a n e = k.nodes a ∙ ap (option_map (rename_node p)) e

  -- ---- derivations

  root-renamed : (a : ℕ) → IsRoot G a → IsRoot H (p a)
  root-renamed _ (HandleNames h a e) = HandleNames h (p a) (k.handles h ∙ ap (option_map (rename p)) e)
  root-renamed _ (Mourns a among) = Mourns (p a) (subst (λ names. Contains names (p a)) (sym (waiting-renamed k)) (among-mapped p (waiting G) a among))
  root-renamed _ (SpecialNames a e) = SpecialNames (p a) (k.special ∙ ap (rename p) e)
  root-renamed _ (EntryNames i a e) = EntryNames i (p a) (k.classes i ∙ ap (option_map (rename p)) e)
  root-renamed _ IsNil = subst (IsRoot H) k.nil IsNil
  root-renamed _ IsFalse = subst (IsRoot H) k.no IsFalse
  root-renamed _ IsTrue = subst (IsRoot H) k.yes IsTrue

  module _ (f s F S : ℕ → Bool) (further : (a : ℕ) → F (p a) ≡ f a) (silent : (a : ℕ) → S (p a) ≡ s a) where
    reached-renamed : (a : ℕ) → Reached G f s a → Reached H F S (p a)
    reached-renamed _ (AtRoot a root) = AtRoot (p a) (root-renamed a root)
    reached-renamed _ (AtGiven a is) = AtGiven (p a) (further a ∙ is)
    reached-renamed _ (ByStrong b a n live speaks there value) =
        ByStrong (p b) (p a) (rename_node p n) (reached-renamed b live) (silent b ∙ speaks) (there-renamed b n there)
        (subst (λ vs. Contains vs (Ref (p a))) (sym (strong_values-renamed n)) (among-mapped (rename p) (strong_values G n) (Ref a) value))
    reached-renamed _ (ByLoose b a n key live speaks there keyed first loose value) =
        ByLoose (p b) (p a) (rename_node p n) (rename p key) (reached-renamed b live) (silent b ∙ speaks) (there-renamed b n there) (is_keyed-renamed n ∙ keyed)
        (first-renamed n key first) (immediate-renamed p key ∙ loose) (among-mapped (rename p) n.pointers (Ref a) value)
    reached-renamed _ (ByKey b c a n live speaks there keyed first also value) =
        ByKey (p b) (p c) (p a) (rename_node p n) (reached-renamed b live) (silent b ∙ speaks) (there-renamed b n there) (is_keyed-renamed n ∙ keyed)
        (first-renamed n (Ref c) first) (reached-renamed c also) (among-mapped (rename p) n.pointers (Ref a) value)

    there : (a : ℕ) → IsDerived G f s a → IsDerived H F S (p a)
    there a d = (live_by_rules H F S (p a)).1 (reached-renamed a ((live_by_rules G f s a).0 d))

-- names stand in derivations of the one where the names for them stand in derivations of the other
pub derived-renamed : {G H : Graph} {p back : ℕ → ℕ} → Iso G H p back → (f s F S : ℕ → Bool) → ((a : ℕ) → F (p a) ≡ f a) → ((a : ℕ) → S (p a) ≡ s a)
    → (a : ℕ) → IsDerived G f s a ↔ IsDerived H F S (p a)
derived-renamed {G} {H} {p} {back} k f s F S further silent a = (
  there k f s F S further silent a,
  λ d. subst (IsDerived G f s) (k.left a) (there (turned k) F S f s (λ b. sym (further (back b)) ∙ ap F (k.right b)) (λ b. sym (silent (back b)) ∙ ap S (k.right b)) (p a) d),
)
