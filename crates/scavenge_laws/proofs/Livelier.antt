-- Some nodes of a graph became nodes of format 1, and there may be more mourners: what was live is live.
use Rattle.std.proofs.Common.{◌≡◌, ◌≢◌, ◌⊎◌, ℕ, Bool, true, false, cond, ◌||◌, if◌then◌else◌, ◌==◌, List, [], ◌∷◌, ◌++◌, take, map, length, refl, sym, ap, ◌∙◌, subst, inl, inr, arith, Some, None, Option}
use Rattle.std.proofs.lemmas.Bool.{cases_eq, eq-eqb, ne_eqb}
use Rattle.std.proofs.lemmas.List.{append-nil, append_assoc, length-take, get_or-take, map-append}
use Rattle.std.proofs.lemmas.List.Elements.{Contains-append_left}
use Rattle.std.proofs.lemmas.List.Folds.{list_any-append}
use Rattle.std.proofs.lemmas.Grind.{flat_map-append}
use Rattle.std.proofs.Math.Seq.{take-length}
use Rattle.std.specs.Prelude.{slice_get}
use Rattle.std.specs.Option.{option_map, unwrap_or}
use Rattle.std.specs.List.{Contains, list_any, flat_map}
use Rattle.std.specs.Ordering.{nat_cmp}
use Rattle.std.specs.FinMap.{FinMap, get}
use Rattle.spur_graph.specs.declared.answer.Value.{Value}
use Rattle.spur_graph.specs.declared.answer.Value.TheVariants.{Int, Char, Float, Ref}
use Rattle.spur_graph.specs.Node.{Node}
use Rattle.spur_graph.specs.Graph.{Graph, node, blank, waiting}
use Rattle.spur_graph.specs.Live.{fixed_in, fixed_of, is_keyed, strong_count, strong_values, IsRoot, HandleNames, Mourns, SpecialNames, EntryNames, IsNil, IsFalse, IsTrue, AtRoot, AtGiven, ByStrong, ByLoose, ByKey}
use Rattle.spur_graph.specs.Rounds.{mourning}
use Rattle.spur_graph.specs.Cells.{Body, pointer_count}
use Rattle.graph_laws.proofs.Redirected.{came_from}
use Rattle.graph_laws.proofs.CollectedNames.{get-fired, mourning-pointers}
use Rattle.scavenge_laws.specs.Copying.{Lives, strong_slots}
use Rattle.scavenge_laws.specs.Firing.{fire_some, behind}

-- ---- the strong values are among all

in_take : (k : ℕ) (vs : List Value) (v : Value) → Contains (take k vs) v → Contains vs v
in_take k vs v (i, l, e) =
    let m = length-take k vs in
    (i, omega (arith, l, m), sym (get_or-take k vs i v (omega (arith, l, m))) ∙ e)

strong_among : (g : Graph) (n : Node) (v : Value) → Contains (strong_values g n) v → Contains n.pointers v
strong_among g n v = by (is_keyed n)
  where
    by : (b : Bool) → Contains (cond b [] (take (strong_count g n) n.pointers)) v → Contains n.pointers v
    by true c = absurd (omega (arith, c.1))
    by false c = in_take (strong_count g n) n.pointers v c

-- the other graph has the same classes, the same pointers, and no node that is neither as it was nor of format 1
pub record Livelier (g h : Graph) : Type 0 where
  pub classes : h.classes ≡ g.classes
  pub pointers : (a : ℕ) → (node h a).pointers ≡ (node g a).pointers
  pub nodes : (a : ℕ) (n : Node) → get g.nodes a ≡ Some n → (get h.nodes a ≡ Some n) ⊎ (get h.nodes a ≡ Some (record n { format = 1 }))
  pub roots : (a : ℕ) → IsRoot g a → IsRoot h a

module _ {g h : Graph} (k : Livelier g h) where
  fixed-same : (o : Option Value) → fixed_of h o ≡ fixed_of g o
  fixed-same None = refl
  fixed-same (Some (Int n)) = refl
  fixed-same (Some (Char c)) = refl
  fixed-same (Some (Float w)) = refl
  fixed-same (Some (Ref c)) = ap (λ (vs : List Value). fixed_in (slice_get vs 2)) (k.pointers c)

  fixed-class : (class : ℕ) → fixed_of h (get h.classes class) ≡ fixed_of g (get g.classes class)
  fixed-class class = ap (λ m. fixed_of h (get m class)) k.classes ∙ fixed-same (get g.classes class)

  strong-same : (n : Node) → strong_values h n ≡ strong_values g n
  strong-same n i = cond (is_keyed n) [] (take (cond (n.format == 4) (fixed-class n.class i) (length n.pointers)) n.pointers)

  -- as many slots are strong
  pub slots-livelier : (b : Body) → strong_slots h b ≡ strong_slots g b
  slots-livelier b i = cond (b.format == 4) (fixed-class b.class i) (cond (b.format == 5) 0 (pointer_count b))

  module _ (further : ℕ → Bool) where
    any-value : (b a : ℕ) (n : Node) → Lives h further b → get h.nodes b ≡ Some (record n { format = 1 }) → Contains n.pointers (Ref a) → Lives h further a
    any-value b a n live there among = ByStrong b a (record n { format = 1 }) live refl there (subst (λ (vs : List Value). Contains vs (Ref a)) (sym (take-length n.pointers)) among)

    pub livelier : (a : ℕ) → Lives g further a → Lives h further a
    livelier _ (AtRoot a root) = AtRoot a (k.roots a root)
    livelier _ (AtGiven a is) = AtGiven a is
    livelier _ (ByStrong b a n live speaks there value) = elim (k.nodes b n there) [
      | inl e ↦ ByStrong b a n (livelier b live) refl e (subst (λ (vs : List Value). Contains vs (Ref a)) (sym (strong-same n)) value)
      | inr e ↦ any-value b a n (livelier b live) e (strong_among g n (Ref a) value)
    ]
    livelier _ (ByLoose b a n key live speaks there keyed first loose value) = elim (k.nodes b n there) [
      | inl e ↦ ByLoose b a n key (livelier b live) refl e keyed first loose value
      | inr e ↦ any-value b a n (livelier b live) e value
    ]
    livelier _ (ByKey b c a n live speaks there keyed first also value) = elim (k.nodes b n there) [
      | inl e ↦ ByKey b c a n (livelier b live) refl e keyed first (livelier c also) value
      | inr e ↦ any-value b a n (livelier b live) e value
    ]

-- ---- a group, one after another

option_same : {X : Type 0} (o : Option X) → o ≡ option_map (λ x. x) o
option_same None = refl
option_same (Some x) = refl

pub get-some : (g : Graph) (names : List ℕ) (a : ℕ) → get (fire_some g names).nodes a ≡ option_map (mourning names a) (get g.nodes a)
get-some g [] a = option_same (get g.nodes a)
get-some g (b ∷ names) a = get-fired g (b ∷ names) a

pub mourners-some : (g : Graph) (names : List ℕ) → (fire_some g names).mourners ≡ behind g.mourners names
mourners-some g [] = refl
mourners-some g (b ∷ names) = refl

pub hash-some : (g : Graph) (names : List ℕ) → (fire_some g names).hash_state ≡ g.hash_state
hash-some g [] = refl
hash-some g (b ∷ names) = refl

pub next-some : (g : Graph) (names : List ℕ) → (fire_some g names).next ≡ g.next
next-some g [] = refl
next-some g (b ∷ names) = refl

-- but for nodes and mourners the graph is as it was
pub rest-some : (g : Graph) (names : List ℕ) (nodes : FinMap nat_cmp Node) (mourners : List (List ℕ)) → record (fire_some g names) { nodes = nodes; mourners = mourners } ≡ record g { nodes = nodes; mourners = mourners }
rest-some g [] nodes mourners = refl
rest-some g (b ∷ names) nodes mourners = refl

pub waiting-behind : (groups : List (List ℕ)) (names : List ℕ) → flat_map (λ (group : List ℕ). group) (behind groups names) ≡ flat_map (λ (group : List ℕ). group) groups ++ names
waiting-behind groups [] = sym (append-nil _)
waiting-behind groups (b ∷ names) = flat_map-append (λ (xs : List ℕ). xs) groups ((b ∷ names) ∷ []) ∙ ap (λ xs. flat_map (λ (group : List ℕ). group) groups ++ xs) (append-nil (b ∷ names))

pub map-behind : (f : ℕ → ℕ) (groups : List (List ℕ)) (names : List ℕ) → map (map f) (behind groups names) ≡ behind (map (map f) groups) (map f names)
map-behind f groups [] = refl
map-behind f groups (b ∷ names) = map-append (map f) groups ((b ∷ names) ∷ [])

-- one more of a group
module _ (g : Graph) (names : List ℕ) (x : ℕ) where
  abbrev more : List ℕ
  more = names ++ x ∷ []

  abbrev named : ℕ → Bool
  named a = list_any (λ b. b == a) names

  among : (a : ℕ) → list_any (λ b. b == a) more ≡ (named a || ((x == a) || false))
  among a = list_any-append (λ b. b == a) names (x ∷ [])

  abbrev mourner : Bool → Node → Node
  mourner t n = if t then record n { format = 1 } else n

  pub mourning-here : (n : Node) → mourning more x n ≡ record (mourning names x n) { format = 1 }
  mourning-here n = ap (λ t. mourner t n) (among x) ∙ ap (λ t. mourner (named x || (t || false)) n) (eq-eqb x x refl) ∙ by (named x)
    where
      by : (t : Bool) → mourner (t || true) n ≡ record (mourner t n) { format = 1 }
      by true = refl
      by false = refl

  pub mourning-else : (a : ℕ) (n : Node) → a ≢ x → mourning more a n ≡ mourning names a n
  mourning-else a n other = ap (λ t. mourner t n) (among a) ∙ ap (λ t. mourner (named a || (t || false)) n) (ne_eqb x a (λ e. other (sym e))) ∙ by (named a)
    where
      by : (t : Bool) → mourner (t || false) n ≡ mourner t n
      by true = refl
      by false = refl

  -- a node is as it was, or of format 1
  more-node : (a : ℕ) (n : Node) → (mourning more a n ≡ mourning names a n) ⊎ (mourning more a n ≡ record (mourning names a n) { format = 1 })
  more-node a n = elim (cases_eq a x) [
    | inl e ↦ inr (ap (λ y. mourning more y n) e ∙ mourning-here n ∙ ap (λ y. record (mourning names y n) { format = 1 }) (sym e))
    | inr other ↦ inl (mourning-else a n other)
  ]

  pointers-some : (xs : List ℕ) (a : ℕ) → (node (fire_some g xs) a).pointers ≡ (node g a).pointers
  pointers-some xs a = ap (λ o. (unwrap_or o blank).pointers) (get-some g xs a) ∙ by (get g.nodes a)
    where
      by : (o : Option Node) → (unwrap_or (option_map (mourning xs a) o) blank).pointers ≡ (unwrap_or o blank).pointers
      by None = refl
      by (Some n) = mourning-pointers xs a n

  waiting-some : (xs : List ℕ) → waiting (fire_some g xs) ≡ waiting g ++ xs
  waiting-some xs = ap (flat_map (λ (group : List ℕ). group)) (mourners-some g xs) ∙ waiting-behind g.mourners xs

  still_root : (names : List ℕ) (a : ℕ) → IsRoot (fire_some g names) a → ((b : ℕ) → Contains (waiting (fire_some g names)) b → Contains (waiting (fire_some g (names ++ x ∷ []))) b) → IsRoot (fire_some g (names ++ x ∷ [])) a
  still_root [] _ (HandleNames h a e) w = HandleNames h a e
  still_root [] _ (Mourns a d) w = Mourns a (w a d)
  still_root [] _ (SpecialNames a e) w = SpecialNames a e
  still_root [] _ (EntryNames i a e) w = EntryNames i a e
  still_root [] _ IsNil w = IsNil
  still_root [] _ IsFalse w = IsFalse
  still_root [] _ IsTrue w = IsTrue
  still_root (y ∷ ys) _ (HandleNames h a e) w = HandleNames h a e
  still_root (y ∷ ys) _ (Mourns a d) w = Mourns a (w a d)
  still_root (y ∷ ys) _ (SpecialNames a e) w = SpecialNames a e
  still_root (y ∷ ys) _ (EntryNames i a e) w = EntryNames i a e
  still_root (y ∷ ys) _ IsNil w = IsNil
  still_root (y ∷ ys) _ IsFalse w = IsFalse
  still_root (y ∷ ys) _ IsTrue w = IsTrue

  pub classes-some : (xs : List ℕ) → (fire_some g xs).classes ≡ g.classes
  classes-some [] = refl
  classes-some (y ∷ ys) = refl

  pub more-livelier : Livelier (fire_some g names) (fire_some g (names ++ x ∷ []))
  more-livelier = record {
    classes = classes-some more ∙ sym (classes-some names);
    pointers = λ a. pointers-some more a ∙ sym (pointers-some names a);
    nodes = λ a n e.
        let was = came_from (mourning names a) (get g.nodes a) n (sym (get-some g names a) ∙ e) in
        let now : get (fire_some g more).nodes a ≡ Some (mourning more a was.0) = get-some g more a ∙ ap (option_map (mourning more a)) was.1 in
        elim (more-node a was.0) [
          | inl same ↦ inl (now ∙ ap Some (same ∙ was.2))
          | inr fired ↦ inr (now ∙ ap Some (fired ∙ ap (λ (m : Node). record m { format = 1 }) was.2))
        ];
    roots = λ a root. still_root names a root (λ b d.
        subst (λ xs. Contains xs b) (append_assoc (waiting g) names (x ∷ []) ∙ sym (waiting-some more))
        (Contains-append_left (waiting g ++ names) (x ∷ []) b (subst (λ xs. Contains xs b) (waiting-some names) d)));
  }
