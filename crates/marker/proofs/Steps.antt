-- Steps of marking, over a test of names and a stack.
use Rattle.std.proofs.Common.{◌≡◌, ◌⊎◌, ℕ, Bool, true, false, cond, ◌==◌, nat_lt, List, [], ◌∷◌, ◌++◌, take, length, min, refl, sym, ap, ◌∙◌, subst, inl, inr, arith, Some, ◌<◌}
use Rattle.std.proofs.lemmas.Bool.{false≢true, cases_Bool, and_parts, eqb-true, ne_eqb}
use Rattle.std.proofs.lemmas.List.{get_or-take, get_or_default, length-take}
use Rattle.std.proofs.Math.Seq.{take-length}
use Rattle.std.specs.Prelude.{slice_index_or}
use Rattle.std.specs.List.{Contains}
use Rattle.std.specs.FinMap.{get}
use Rattle.std.proofs.lemmas.List.Elements.{Contains-append_left, Contains-push, Contains-push_cases}
use Rattle.spur_graph.specs.declared.answer.Value.{Value}
use Rattle.spur_graph.specs.declared.answer.Value.TheVariants.{Ref}
use Rattle.spur_graph.specs.Node.{Node}
use Rattle.spur_graph.specs.Graph.{Graph}
use Rattle.spur_graph.specs.Live.{Reached, AtRoot, AtGiven, ByStrong, ByLoose, ByKey, fixed_of, strong_count, strong_values, is_keyed, none, HasKey}
use Rattle.marker.specs.Marks.{Scanned}
use Rattle.marker.specs.Waiting.{Progress, counted_values}

pub none-in-nil : {X : Type 0} (t : X) → Contains [] t → ⊥
none-in-nil t c = omega (arith, c.1)

some_same : {a b : Node} → Some a ≡ Some b → a ≡ b
some_same {a} {b} e = cc

-- ---- the values that count

in_take : (k : ℕ) (vs : List Value) (v : Value) → Contains (take k vs) v → Contains vs v
in_take k vs v (i, l, e) =
    let m = length-take k vs in
    (i, omega (arith, l, m), sym (get_or-take k vs i v (omega (arith, l, m))) ∙ e)

pub counted_among : (g : Graph) (n : Node) (v : Value) → Contains (counted_values g n) v → Contains n.pointers v
counted_among g n v c = in_take (strong_count g n) n.pointers v c

pub strong_counted : (g : Graph) (n : Node) (v : Value) → Contains (strong_values g n) v → Contains (counted_values g n) v
strong_counted g n v = by (is_keyed n)
  where
    by : (b : Bool) → Contains (cond b [] (counted_values g n)) v → Contains (counted_values g n) v
    by true c = absurd (none-in-nil v c)
    by false c = c

-- an ephemeron with a key has the format of one
pub keyed_format : (n : Node) → is_keyed n ≡ true → n.format ≡ 5
keyed_format n on = eqb-true n.format 5 (and_parts (n.format == 5) (nat_lt 0 (length n.pointers)) on).0

-- it has nothing strongly, and all its values count
keyed_strong : (g : Graph) (n : Node) → is_keyed n ≡ true → (v : Value) → Contains (strong_values g n) v → ⊥
keyed_strong g n on v c = none-in-nil v (subst (λ b. Contains (cond b [] (counted_values g n)) v) on c)

keyed_counted : (g : Graph) (n : Node) → is_keyed n ≡ true → (v : Value) → Contains n.pointers v → Contains (counted_values g n) v
keyed_counted g n on v c =
    let format = keyed_format n on in
    let other : (n.format == 4) ≡ false = ne_eqb n.format 4 (λ e. omega (arith, e, format)) in
    let all : counted_values g n ≡ n.pointers = ap (λ b. take (cond b (fixed_of g (get g.classes n.class)) (length n.pointers)) n.pointers) other ∙ take-length n.pointers in
    subst (λ (vs : List Value). Contains vs v) (sym all) c

module _ (g : Graph) (silent : ℕ → Bool) where
  -- the values that count of a name from the stack were visited
  module _ (named : ℕ → Type 0) (m m' : ℕ → Bool) (stack stack' : List ℕ) (s : ℕ) (n : Node) (off : silent s ≡ false) (there : get g.nodes s ≡ Some n) (ready : is_keyed n ≡ true → HasKey n (λ c. m c ≡ true))
      (to : (t : ℕ) → named t → Contains (counted_values g n) (Ref t)) (back : (t : ℕ) → Contains (counted_values g n) (Ref t) → named t) (k : Progress g silent m (stack ++ s ∷ [])) (r : Scanned named m m' stack stack') where
    live : Reached g none silent s
    live = k.marking.sound s (k.marking.stacked s (Contains-push stack s))

    reached : (t : ℕ) → named t → Reached g none silent t
    reached t b = elim (cases_Bool (is_keyed n)) [
      | inl on ↦
          let key = ready on in
          let value : Contains n.pointers (Ref t) = counted_among g n (Ref t) (to t b) in
          elim key.2 [
            | inl loose ↦ ByLoose s t n key.0 live off there on key.1 loose value
            | inr w ↦ ByKey s w.0 t n live off there on (key.1 ∙ ap Some w.1) (k.marking.sound w.0 w.2) value
          ]
      | inr plain ↦ ByStrong s t n live off there (subst (λ o. Contains (cond o [] (counted_values g n)) (Ref t)) (sym plain) (to t b))
    ]

    later : (t a : ℕ) (n' : Node) → m' t ≡ true → get g.nodes t ≡ Some n' → (m t ≡ true → Contains (stack ++ s ∷ []) t ⊎ (m a ≡ true)) → (n' ≡ n → named a) → Contains stack' t ⊎ (m' a ≡ true)
    later t a n' on has owed this = elim (r.new t on) [
      | inl was ↦ elim (owed was) [
        | inl c ↦ elim (Contains-push_cases stack s t c) [
          | inl d ↦ inl (r.below t d)
          | inr d ↦ inr (r.all a (this (some_same (sym has ∙ ap (get g.nodes) (sym d) ∙ there))))
        ]
        | inr f ↦ inr (r.keeps a f)
      ]
      | inr b ↦ inl b
    ]

    pub counted_scanned : Progress g silent m' stack'
    counted_scanned = record {
      marking = record {
        rooted = λ a root. r.keeps a (k.marking.rooted a root);
        sound = λ t o. elim (r.only t o) [ inl a ↦ k.marking.sound t a | inr b ↦ reached t b ];
        stacked = λ t c. elim (r.stacked t c) [ inl a ↦ r.keeps t (k.marking.stacked t (Contains-append_left stack (s ∷ []) t a)) | inr b ↦ r.all t b ];
        done = λ t a n' o q has v. later t a n' o has (λ was. k.marking.done t a n' was q has v) (λ same. back a (strong_counted g n (Ref a) (subst (λ x. Contains (strong_values g x) (Ref a)) same v)));
      };
      keyed = λ t a n' o q has is v. later t a n' o has (λ was. k.keyed t a n' was q has is v)
          (λ same. back a (keyed_counted g n (ap is_keyed (sym same) ∙ is) (Ref a) (subst (λ (x : Node). Contains x.pointers (Ref a)) same v)));
    }

  -- a name whose values never count is taken from the stack
  pub silent_taken : (m : ℕ → Bool) (stack : List ℕ) (s : ℕ) → silent s ≡ true → Progress g silent m (stack ++ s ∷ []) → Progress g silent m stack
  silent_taken m stack s on k = record {
    marking = record {
      rooted = k.marking.rooted;
      sound = k.marking.sound;
      stacked = λ t c. k.marking.stacked t (Contains-append_left stack (s ∷ []) t c);
      done = λ t a n o q has v. still t a q (k.marking.done t a n o q has v);
    };
    keyed = λ t a n o q has is v. still t a q (k.keyed t a n o q has is v);
  }
    where
      still : (t a : ℕ) → silent t ≡ false → Contains (stack ++ s ∷ []) t ⊎ (m a ≡ true) → Contains stack t ⊎ (m a ≡ true)
      still t a q owed = elim owed [
        | inl c ↦ elim (Contains-push_cases stack s t c) [ inl d ↦ inl d | inr d ↦ absurd (false≢true (sym q ∙ ap silent (sym d) ∙ on)) ]
        | inr f ↦ inr f
      ]

  -- the order of the stack is free
  pub progress_turned : (m : ℕ → Bool) (stack stack' : List ℕ) → ((t : ℕ) → Contains stack t → Contains stack' t) → ((t : ℕ) → Contains stack' t → Contains stack t) → Progress g silent m stack → Progress g silent m stack'
  progress_turned m stack stack' to back k = record {
    marking = record {
      rooted = k.marking.rooted;
      sound = k.marking.sound;
      stacked = λ t c. k.marking.stacked t (back t c);
      done = λ t a n o q has v. elim (k.marking.done t a n o q has v) [ inl c ↦ inl (to t c) | inr f ↦ inr f ];
    };
    keyed = λ t a n o q has is v. elim (k.keyed t a n o q has is v) [ inl c ↦ inl (to t c) | inr f ↦ inr f ];
  }

  -- where all that stands on the stack is ephemerons whose keys are not marked, what is live is marked
  module _ (m : ℕ → Bool) (stack : List ℕ) (k : Progress g silent m stack) (waiting : (s : ℕ) (n : Node) → Contains stack s → get g.nodes s ≡ Some n → (is_keyed n ≡ true) × (HasKey n (λ c. m c ≡ true) → ⊥)) where
    pub all_marked : (a : ℕ) → Reached g none silent a → m a ≡ true
    all_marked _ (AtRoot a r) = k.marking.rooted a r
    all_marked _ (AtGiven a r) = absurd (false≢true r)
    all_marked _ (ByStrong b a n live off there v) = elim (k.marking.done b a n (all_marked b live) off there v) [ inl c ↦ absurd (keyed_strong g n (waiting b n c there).0 (Ref a) v) | inr f ↦ f ]
    all_marked _ (ByLoose b a n key live off there is at loose v) = elim (k.keyed b a n (all_marked b live) off there is v) [ inl c ↦ absurd ((waiting b n c there).1 (key, at, inl loose)) | inr f ↦ f ]
    all_marked _ (ByKey b c a n live off there is at also v) = elim (k.keyed b a n (all_marked b live) off there is v) [
      | inl d ↦ absurd ((waiting b n d there).1 (Ref c, at, inr (c, refl, all_marked c also)))
      | inr f ↦ f
    ]

-- ---- the first values of a list

pub taken_has : (vs : List Value) (k n : ℕ) (d : Value) (t : ℕ) → n ≡ min k (length vs) → (i : ℕ) × (i < n) × (slice_index_or vs i d ≡ Ref t) → Contains (take k vs) (Ref t)
taken_has vs k n d t is (i, l, e) =
    let m = length-take k vs in
    (i, omega (arith, l, is, m), get_or-take k vs i (Ref t) (omega (arith, l, is)) ∙ get_or_default vs i (Ref t) d (omega (arith, l, is)) ∙ e)

pub has_taken : (vs : List Value) (k n : ℕ) (d : Value) (t : ℕ) → n ≡ min k (length vs) → Contains (take k vs) (Ref t) → (i : ℕ) × (i < n) × (slice_index_or vs i d ≡ Ref t)
has_taken vs k n d t is (i, l, e) =
    let m = length-take k vs in
    let low : i < n = omega (arith, l, is, m) in
    (i, low, get_or_default vs i d (Ref t) (omega (arith, low, is)) ∙ sym (get_or-take k vs i (Ref t) (omega (arith, low, is))) ∙ e)
