-- Graphs in which some weak nodes have lost what is dead: as many slots are strong, and a node loses nothing twice.
use Rattle.std.proofs.Common.{◌≡◌, ◌⊎◌, ℕ, suc, zero, Bool, true, false, not, ◌==◌, ◌+◌, if◌then◌else◌, cond, List, [], ◌∷◌, ◌++◌, map, take, drop, length, refl, sym, ap, ◌∙◌, inl, inr, Some, None, Option}
use Rattle.std.specs.Prelude.{slice_get}
use Rattle.std.specs.Ordering.{nat_cmp}
use Rattle.std.proofs.lemmas.List.Sums.{sum_by-cons}
use Rattle.std.specs.List.{count_by}
use Rattle.std.specs.Option.{option_map, unwrap_or}
use Rattle.std.specs.FinMap.{FinMap, get}
use Rattle.spur_graph.specs.declared.answer.Value.{Value}
use Rattle.spur_graph.specs.declared.answer.Value.TheVariants.{Int, Char, Float, Ref}
use Rattle.spur_graph.specs.Node.{Node}
use Rattle.spur_graph.specs.Graph.{Graph, node, blank}
use Rattle.spur_graph.specs.Live.{fixed_in, fixed_of, strong_count, weak_values}
use Rattle.spur_graph.specs.Rounds.{names_dead, without_dead}
use Rattle.scavenge_laws.proofs.Cleared.{or_nil}

module _ (live : ℕ → Bool) (nil : ℕ) where
  -- a value that becomes nil tells no number, before or after
  fixed_nilled : (v : Value) → fixed_in (Some (or_nil live nil v)) ≡ fixed_in (Some v)
  fixed_nilled (Int n) = refl
  fixed_nilled (Char c) = refl
  fixed_nilled (Float w) = refl
  fixed_nilled (Ref a) = by (not (live a))
    where
      by : (b : Bool) → fixed_in (Some (cond b (Ref nil) (Ref a))) ≡ 0
      by true = refl
      by false = refl

  fixed_mapped : (vs : List Value) (j : ℕ) → fixed_in (slice_get (map (or_nil live nil) vs) j) ≡ fixed_in (slice_get vs j)
  fixed_mapped [] j = refl
  fixed_mapped (v ∷ vs) zero = fixed_nilled v
  fixed_mapped (v ∷ vs) (suc j) = fixed_mapped vs j

  fixed_split : (k : ℕ) (vs : List Value) (j : ℕ) → fixed_in (slice_get (take k vs ++ map (or_nil live nil) (drop k vs)) j) ≡ fixed_in (slice_get vs j)
  fixed_split zero vs j = fixed_mapped vs j
  fixed_split (suc k) [] j = refl
  fixed_split (suc k) (v ∷ vs) zero = refl
  fixed_split (suc k) (v ∷ vs) (suc j) = fixed_split k vs j

  module _ (lives : live nil ≡ true) where
    nil-twice : (v : Value) → or_nil live nil (or_nil live nil v) ≡ or_nil live nil v
    nil-twice (Int n) = refl
    nil-twice (Char c) = refl
    nil-twice (Float w) = refl
    nil-twice (Ref a) = by (not (live a)) refl
      where
        by : (b : Bool) → not (live a) ≡ b → or_nil live nil (cond b (Ref nil) (Ref a)) ≡ cond b (Ref nil) (Ref a)
        by true e = ap (λ t. cond (not t) (Ref nil) (Ref nil)) lives
        by false e = ap (λ t. cond t (Ref nil) (Ref a)) e

    pub values-twice : (k : ℕ) (vs : List Value) → take k (take k vs ++ map (or_nil live nil) (drop k vs)) ++ map (or_nil live nil) (drop k (take k vs ++ map (or_nil live nil) (drop k vs))) ≡ take k vs ++ map (or_nil live nil) (drop k vs)
    values-twice zero [] = refl
    values-twice zero (v ∷ vs) = λ i. nil-twice v i ∷ values-twice zero vs i
    values-twice (suc k) [] = refl
    values-twice (suc k) (v ∷ vs) = ap (λ us. v ∷ us) (values-twice k vs)

-- ---- a weak node

module _ (g : Graph) (live : ℕ → Bool) where
  pub without-weak : (n : Node) → (n.format == 4) ≡ true → without_dead g live n ≡ record n { pointers = take (fixed_of g (get g.classes n.class)) n.pointers ++ map (or_nil live g.nil) (drop (fixed_of g (get g.classes n.class)) n.pointers) }
  without-weak n on = λ i. cond (on i) (record n { pointers = take (cond (on i) (fixed_of g (get g.classes n.class)) (length n.pointers)) n.pointers ++ map (or_nil live g.nil) (cond (on i) (drop (cond (on i) (fixed_of g (get g.classes n.class)) (length n.pointers)) n.pointers) []) }) n

  pub without-else : (n : Node) → (n.format == 4) ≡ false → without_dead g live n ≡ n
  without-else n off = ap (λ t. cond t (record n { pointers = take (strong_count g n) n.pointers ++ map (λ v. if names_dead live v then Ref g.nil else v) (weak_values g n) }) n) off

  pub without-fixed : (n : Node) (j : ℕ) → fixed_in (slice_get (without_dead g live n).pointers j) ≡ fixed_in (slice_get n.pointers j)
  without-fixed n j = by (n.format == 4) refl
    where
      by : (b : Bool) → (n.format == 4) ≡ b → fixed_in (slice_get (without_dead g live n).pointers j) ≡ fixed_in (slice_get n.pointers j)
      by true e = ap (λ (m : Node). fixed_in (slice_get m.pointers j)) (without-weak n e) ∙ fixed_split live g.nil (fixed_of g (get g.classes n.class)) n.pointers j
      by false e = ap (λ (m : Node). fixed_in (slice_get m.pointers j)) (without-else n e)

  -- the weak values of a weak node
  pub weak-values : (n : Node) → (n.format == 4) ≡ true → weak_values g n ≡ drop (fixed_of g (get g.classes n.class)) n.pointers
  weak-values n on = λ i. cond (on i) (drop (cond (on i) (fixed_of g (get g.classes n.class)) (length n.pointers)) n.pointers) []

  -- none of them is dead once they are without what is
  module _ (lives : live g.nil ≡ true) where
    nil-none : (v : Value) → names_dead live (or_nil live g.nil v) ≡ false
    nil-none (Int n) = refl
    nil-none (Char c) = refl
    nil-none (Float w) = refl
    nil-none (Ref a) = by (not (live a)) refl
      where
        by : (b : Bool) → not (live a) ≡ b → names_dead live (cond b (Ref g.nil) (Ref a)) ≡ false
        by true e = ap not lives
        by false e = e

    none-mapped : (vs : List Value) → count_by (names_dead live) (map (or_nil live g.nil) vs) ≡ 0
    none-mapped [] = refl
    none-mapped (v ∷ vs) = sum_by-cons (λ u. cond (names_dead live u) 1 0) (or_nil live g.nil v) (map (or_nil live g.nil) vs) ∙ (λ i. cond (nil-none v i) 1 0 + none-mapped vs i)

    dropped : (k : ℕ) (vs : List Value) → drop k (take k vs ++ map (or_nil live g.nil) (drop k vs)) ≡ map (or_nil live g.nil) (drop k vs)
    dropped zero vs = refl
    dropped (suc k) [] = refl
    dropped (suc k) (v ∷ vs) = dropped k vs

    pub none-weak : (n : Node) → (n.format == 4) ≡ true → count_by (names_dead live) (weak_values g (without_dead g live n)) ≡ 0
    none-weak n on =
        ap (λ m. count_by (names_dead live) (weak_values g m)) (without-weak n on)
        ∙ ap (count_by (names_dead live)) (weak-values (record n { pointers = take (fixed_of g (get g.classes n.class)) n.pointers ++ map (or_nil live g.nil) (drop (fixed_of g (get g.classes n.class)) n.pointers) }) on
        ∙ dropped (fixed_of g (get g.classes n.class)) n.pointers)
        ∙ none-mapped (drop (fixed_of g (get g.classes n.class)) n.pointers)

  -- a node loses nothing twice
  pub without-twice : live g.nil ≡ true → (n : Node) → without_dead g live (without_dead g live n) ≡ without_dead g live n
  without-twice lives n = by (n.format == 4) refl
    where
      by : (b : Bool) → (n.format == 4) ≡ b → without_dead g live (without_dead g live n) ≡ without_dead g live n
      by true e =
          let k : ℕ = fixed_of g (get g.classes n.class) in
          ap (without_dead g live) (without-weak n e)
          ∙ without-weak (record n { pointers = take (fixed_of g (get g.classes n.class)) n.pointers ++ map (or_nil live g.nil) (drop (fixed_of g (get g.classes n.class)) n.pointers) }) e
          ∙ ap (λ vs. record n { pointers = vs }) (values-twice live g.nil lives (fixed_of g (get g.classes n.class)) n.pointers)
          ∙ sym (without-weak n e)
      by false e = ap (without_dead g live) (without-else n e)

  -- ---- the graph of other nodes

  module _ (nodes : FinMap nat_cmp Node) (are : (a : ℕ) → (get nodes a ≡ get g.nodes a) ⊎ (get nodes a ≡ option_map (without_dead g live) (get g.nodes a))) where
    abbrev now : Graph
    now = record g { nodes = nodes }

    class-same : (c : ℕ) → fixed_in (slice_get (node now c).pointers 2) ≡ fixed_in (slice_get (node g c).pointers 2)
    class-same c = elim (are c) [
      | inl e ↦ ap (λ o. fixed_in (slice_get (unwrap_or o blank).pointers 2)) e
      | inr e ↦ ap (λ o. fixed_in (slice_get (unwrap_or o blank).pointers 2)) e ∙ by (get g.nodes c)
    ]
      where
        by : (o : Option Node) → fixed_in (slice_get (unwrap_or (option_map (without_dead g live) o) blank).pointers 2) ≡ fixed_in (slice_get (unwrap_or o blank).pointers 2)
        by None = refl
        by (Some n) = without-fixed n 2

    fixed-now : (o : Option Value) → fixed_of (record g { nodes = nodes }) o ≡ fixed_of g o
    fixed-now None = refl
    fixed-now (Some (Int n)) = refl
    fixed-now (Some (Char c)) = refl
    fixed-now (Some (Float w)) = refl
    fixed-now (Some (Ref c)) = class-same c

    pub count-now : (n : Node) → strong_count (record g { nodes = nodes }) n ≡ strong_count g n
    count-now n i = cond (n.format == 4) (fixed-now (get g.classes n.class) i) (length n.pointers)

    pub weak-now : (n : Node) → weak_values (record g { nodes = nodes }) n ≡ weak_values g n
    weak-now n i = cond (n.format == 4) (drop (count-now n i) n.pointers) []
