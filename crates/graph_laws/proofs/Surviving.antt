-- Whatever a live node still names once its weak values of dead names are nil is live, where no ephemeron fires.
use Rattle.std.proofs.Common.{◌≡◌, ℕ, Bool, true, false, cond, ◌==◌, ◌&&◌, nat_lt, if◌then◌else◌, List, [], ◌++◌, length, map, take, drop, get_or, slice_get, refl, sym, ap, ◌∙◌, subst, inl, inr, arith, Some, None, Option}
use Rattle.std.proofs.lemmas.Bool.{true≢false, cases_Bool, not-false, eqb-true, ne_eqb}
use Rattle.std.proofs.lemmas.Option.{none-some, same_Some, slice_get-get_or}
use Rattle.std.proofs.lemmas.List.Elements.{All-append, All-take, All-drop, All-map, Contains-get_or}
use Rattle.std.proofs.Math.Seq.{take-length}
use Rattle.std.specs.Option.{option_map}
use Rattle.std.specs.List.{All, Contains}
use Rattle.std.specs.FinMap.{get}
use Rattle.spur_graph.specs.declared.answer.Value.{Value}
use Rattle.spur_graph.specs.declared.answer.Value.TheVariants.{Int, Char, Float, Ref}
use Rattle.spur_graph.specs.Node.{Node}
use Rattle.spur_graph.specs.Graph.{Graph, HasNode}
use Rattle.spur_graph.specs.Live.{Live, none, IsNil, IsRoot, fixed_of, is_keyed, strong_count, weak_values, Reached, AtRoot, ByStrong, ByLoose, ByKey}
use Rattle.spur_graph.specs.Rounds.{Decides, Fires, names_dead, without_dead, swept}
use Rattle.spur_graph.proofs.Reaching.{live_by_rules}
use Rattle.graph_laws.proofs.Named.{ref_is}
use Rattle.graph_laws.proofs.Sweeping.{get-swept}

module _ (g : Graph) (further live : ℕ → Bool) (exact : Decides live (Live g further)) where
  reaches : (a : ℕ) → live a ≡ true → Reached g further none a
  reaches a is = (live_by_rules g further none a).0 (exact.sound a is)

  is_live : (a : ℕ) → Reached g further none a → live a ≡ true
  is_live a by = exact.whole a ((live_by_rules g further none a).1 by)

  pub root_lives : (a : ℕ) → IsRoot g a → live a ≡ true
  root_lives a root = is_live a (AtRoot a root)

  -- a value that names a live name, if any
  abbrev pub Survives : Value → Type 0
  Survives v = (a : ℕ) → v ≡ Ref a → (n : Node) × (get g.nodes a ≡ Some n) × (live a ≡ true)

  pub still-there : (v : Value) → Survives v → HasNode (swept live g) v
  still-there v survives a e =
      let s = survives a e in
      (without_dead g live s.0, get-swept g live a ∙ (λ i. option_map (without_dead g live) (cond (s.2 i) (s.1 i) None)))

  -- a node that is there then was the node of a live name
  pub was-there : (a : ℕ) (n : Node) → get (swept live g).nodes a ≡ Some n → (m : Node) × (get g.nodes a ≡ Some m) × (live a ≡ true) × (without_dead g live m ≡ n)
  was-there a n e = by (live a) refl (get g.nodes a) refl (sym (get-swept g live a) ∙ e)
    where
      by : (b : Bool) → live a ≡ b → (o : Option Node) → get g.nodes a ≡ o → option_map (without_dead g live) (cond b o None) ≡ Some n
          → (m : Node) × (get g.nodes a ≡ Some m) × (live a ≡ true) × (without_dead g live m ≡ n)
      by false is o there e = absurd (none-some n e)
      by true is None there e = absurd (none-some n e)
      by true is (Some m) there e = (m, there, is, same_Some (without_dead g live m) n e)

  module _ (ended : (a : ℕ) → Fires g further a → ⊥) (nil_there : HasNode g (Ref g.nil)) (b : ℕ) (n : Node) (lives : live b ≡ true) (there : get g.nodes b ≡ Some n) (all : All (HasNode g) n.pointers) where
    -- an ephemeron that does not fire has an immediate or a live name as its key
    keyed_lives : is_keyed n ≡ true → (a : ℕ) → Contains n.pointers (Ref a) → live a ≡ true
    keyed_lives keyed a among = by (get_or n.pointers 0 (Ref a)) (slice_get-get_or n.pointers 0 (Ref a) (omega (arith, among.1)))
      where
        by_key : (c : ℕ) → slice_get n.pointers 0 ≡ Some (Ref c) → (x : Bool) → live c ≡ x → live a ≡ true
        by_key c first true is = is_live a (ByKey b c a n (reaches b lives) refl there keyed first (reaches c is) among)
        by_key c first false is = absurd (ended b (record {
          node = n;
          there = there;
          live = exact.sound b lives;
          ephemeron = keyed;
          key = c;
          named = first;
          dead = λ alive. true≢false (sym (exact.whole c alive) ∙ is);
        }))

        by : (key : Value) → slice_get n.pointers 0 ≡ Some key → live a ≡ true
        by (Int i) first = is_live a (ByLoose b a n (Int i) (reaches b lives) refl there keyed first refl among)
        by (Char i) first = is_live a (ByLoose b a n (Char i) (reaches b lives) refl there keyed first refl among)
        by (Float i) first = is_live a (ByLoose b a n (Float i) (reaches b lives) refl there keyed first refl among)
        by (Ref c) first = by_key c first (live c) refl

    strong_lives : is_keyed n ≡ false → (a : ℕ) → Contains (take (strong_count g n) n.pointers) (Ref a) → live a ≡ true
    strong_lives loose a among = is_live a (ByStrong b a n (reaches b lives) refl there (subst (λ x. Contains (if x then [] else take (strong_count g n) n.pointers) (Ref a)) (sym loose) among))

    survive : (vs : List Value) → All (HasNode g) vs → ((a : ℕ) → Contains vs (Ref a) → live a ≡ true) → All Survives vs
    survive vs has live i d l a e =
        let m = has i d l a e in
        (m.0, m.1, live a (subst (Contains vs) e (Contains-get_or vs i d l)))

    -- a weak value is nil now, or is none of a dead name
    weak_survives : (v : Value) → HasNode g v → Survives (if names_dead live v then Ref g.nil else v)
    weak_survives v has = by (names_dead live v) refl
      where
        alive : (a : ℕ) → names_dead live (Ref a) ≡ false → live a ≡ true
        alive a = not-false (live a)

        by : (x : Bool) → names_dead live v ≡ x → Survives (if x then Ref g.nil else v)
        by true dead a e = let m = nil_there a e in (m.0, m.1, subst (λ c. live c ≡ true) (ref_is g.nil a e) (root_lives g.nil IsNil))
        by false dead a e = let m = has a e in (m.0, m.1, alive a (ap (names_dead live) (sym e) ∙ dead))

    pub pointers_survive : All Survives (without_dead g live n).pointers
    pointers_survive = elim (cases_Bool (n.format == 4)) [
      | inl weak ↦
          let nilled : Value → Value = λ v. if names_dead live v then Ref g.nil else v in
          let unkeyed : is_keyed n ≡ false = ap (λ b. b && nat_lt 0 (length n.pointers)) (ne_eqb n.format 5 (λ e. omega (arith, eqb-true n.format 4 weak, e))) in
          let rest : All (HasNode g) (weak_values g n) = subst (λ x. All (HasNode g) (if x then drop (strong_count g n) n.pointers else [])) (sym weak) (All-drop (HasNode g) (strong_count g n) n.pointers all) in
          subst (λ x. All Survives (if x then record n { pointers = take (strong_count g n) n.pointers ++ map nilled (weak_values g n) } else n).pointers) (sym weak)
          (All-append Survives (take (strong_count g n) n.pointers) (map nilled (weak_values g n))
          (survive (take (strong_count g n) n.pointers) (All-take (HasNode g) (strong_count g n) n.pointers all) (strong_lives unkeyed))
          (All-map Survives nilled (weak_values g n) (λ i d l. weak_survives (get_or (weak_values g n) i d) (rest i d l))))
      | inr other ↦
          let whole : take (strong_count g n) n.pointers ≡ n.pointers = ap (λ x. take (if x then fixed_of g (get g.classes n.class) else length n.pointers) n.pointers) other ∙ take-length n.pointers in
          subst (λ x. All Survives (if x then record n { pointers = take (strong_count g n) n.pointers ++ map (λ v. if names_dead live v then Ref g.nil else v) (weak_values g n) } else n).pointers) (sym other)
          (survive n.pointers all (λ a among. elim (cases_Bool (is_keyed n)) [
            | inl keyed ↦ keyed_lives keyed a among
            | inr loose ↦ strong_lives loose a (subst (λ vs. Contains vs (Ref a)) (sym whole) among)
          ]))
    ]
