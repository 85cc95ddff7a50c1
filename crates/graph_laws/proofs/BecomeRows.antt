-- Exchange, forwarding and pins are refused for the same cause in states that differ in names alone.
use Rattle.std.proofs.Common.{◌≡◌, ℕ, Bool, true, false, ◌||◌, if◌then◌else◌, nat_eq, List, [], ◌∷◌, map, refl, ap, ◌∙◌}
use Rattle.std.specs.List.{AllByRecursion, list_any}
use Rattle.std.specs.Cmp.{nat_cmp_total}
use Rattle.std.specs.FinMap.{entries, nat_cmp-IsAntisymmetric}
use Rattle.spur_graph.specs.declared.answer.Refusal.TheVariants as r
use Rattle.spur_graph.specs.declared.answer.Value.{Value}
use Rattle.spur_graph.specs.declared.answer.Value.TheVariants.{Ref}
use Rattle.spur_graph.specs.Value.{is_immediate, same_value}
use Rattle.spur_graph.specs.Node.{Node}
use Rattle.spur_graph.specs.Graph.{Graph, waiting}
use Rattle.spur_graph.specs.Names.{Iso, rename}
use Rattle.spur_graph.specs.Bytes.{Text}
use Rattle.spur_graph.specs.Form.{Become, Forward, Pin}
use Rattle.spur_graph.specs.Step.{SameRoom}
use Rattle.spur_graph.specs.State.{State, value_at, name_at, node_of_handle}
use Rattle.spur_graph.specs.Refusals.{first, test, is_special, waits, is_classed, readonly, special, pinned, mourning, classed, no_piece, no_old_words}
use Rattle.spur_graph.specs.Refused.{row}
use Rattle.spur_graph.proofs.HandleMaps.{entries-mapped}
use Rattle.graph_laws.proofs.Values.{same_name, same_value-renamed, name_at-renamed, node_of_handle-renamed, is_special-renamed}
use Rattle.graph_laws.proofs.RowParts.{known, bare_object, bare_objects}
use Rattle.graph_laws.proofs.Becoming.{waiting-renamed}
use Rattle.graph_laws.proofs.BecomeRooms.{no_piece-same, no_old_words-same}

module _ {G H : Graph} {p back : ℕ → ℕ} (k : Iso G H p back) where
  -- the same names wait
  one_waits : (a : ℕ) (names : List ℕ) → list_any (nat_eq (p a)) (map p names) ≡ list_any (nat_eq a) names
  one_waits a [] = refl
  one_waits a (b ∷ names) = λ i. same_name k a b i || one_waits a names i

  waits-renamed : (a : ℕ) → waits H (p a) ≡ waits G a
  waits-renamed a = ap (list_any (nat_eq (p a))) (waiting-renamed k) ∙ one_waits a (waiting G)

  -- the same names stand in the class table
  one_entered : (a : ℕ) (es : List (ℕ × Value)) → list_any (λ (e : ℕ × Value). same_value e.1 (Ref (p a))) (map (λ (e : ℕ × Value). (e.0, rename p e.1)) es) ≡ list_any (λ (e : ℕ × Value). same_value e.1 (Ref a)) es
  one_entered a [] = refl
  one_entered a (e ∷ es) = λ i. same_value-renamed k e.1 (Ref a) i || one_entered a es i

  classed-renamed : (a : ℕ) → is_classed H (p a) ≡ is_classed G a
  unfolding is_classed
  classed-renamed a =
      ap (list_any (λ (e : ℕ × Value). same_value e.1 (Ref (p a)))) (entries-mapped _ (rename p) nat_cmp_total nat_cmp-IsAntisymmetric G.classes H.classes k.classes)
      ∙ one_entered a (entries G.classes)

  module _ (m : ℕ) where
    abbrev AreBare : List Text → Type 0
    AreBare names = AllByRecursion (λ h. is_immediate (value_at G m h) ≡ false) names

    -- a test that agrees at handles of objects is passed by one of them or by none
    any-bare : (f g : Text → Bool) → ((h : Text) → is_immediate (value_at G m h) ≡ false → f h ≡ g h) → (names : List Text) → AreBare names → list_any f names ≡ list_any g names
    any-bare f g same [] bare = refl
    any-bare f g same (h ∷ names) bare = λ i. same h bare.0 i || any-bare f g same names bare.1 i

    specials-same : (names : List Text) → AreBare names → special H m names ≡ special G m names
    specials-same names bare = ap (λ b. test b r.Special) (any-bare (λ h. is_special H (name_at H m h)) (λ h. is_special G (name_at G m h))
        (λ h one. ap (is_special H) (name_at-renamed k m h one) ∙ is_special-renamed k (name_at G m h)) names bare)

    pinned-same : (names : List Text) → AreBare names → pinned H m names ≡ pinned G m names
    pinned-same names bare = ap (λ b. test b r.Pinned) (any-bare (λ h. (node_of_handle H m h).pinned) (λ h. (node_of_handle G m h).pinned)
        (λ h one. ap (λ (n : Node). n.pinned) (node_of_handle-renamed k m h one)) names bare)

    readonly-same : (names : List Text) → AreBare names → readonly H m names ≡ readonly G m names
    readonly-same names bare = ap (λ b. test b r.ReadOnly) (any-bare (λ h. (node_of_handle H m h).readonly) (λ h. (node_of_handle G m h).readonly)
        (λ h one. ap (λ (n : Node). n.readonly) (node_of_handle-renamed k m h one)) names bare)

    mourning-same : (names : List Text) → AreBare names → mourning H m names ≡ mourning G m names
    mourning-same names bare = ap (λ b. test b r.Mourning) (any-bare (λ h. waits H (name_at H m h)) (λ h. waits G (name_at G m h))
        (λ h one. ap (waits H) (name_at-renamed k m h one) ∙ waits-renamed (name_at G m h)) names bare)

    classed-same : (names : List Text) → AreBare names → classed H m names ≡ classed G m names
    classed-same names bare = ap (λ b. test b r.Classed) (any-bare (λ h. is_classed H (name_at H m h)) (λ h. is_classed G (name_at G m h))
        (λ h one. ap (is_classed H) (name_at-renamed k m h one) ∙ classed-renamed (name_at G m h)) names bare)

    -- the second of two handles counts where the hash goes along
    hashed_names : (a b : Text) (hash : Bool) → AreBare (a ∷ b ∷ []) → AreBare (a ∷ (if hash then b ∷ [] else []))
    hashed_names a b true bare = bare
    hashed_names a b false bare = (bare.0, tt)

module _ (s t : State) {p back : ℕ → ℕ} (k : Iso s.graph t.graph p back) (room : SameRoom s.room t.room p) (m : ℕ) where
  pub become_row : (a b : Text) → first (row t m (Become a b)) ≡ first (row s m (Become a b))
  become_row a b = known k m (a ∷ b ∷ []) _ _ (bare_objects k m (a ∷ b ∷ []) _ _ (λ bare.
      let piece : no_piece t.room (name_at t.graph m a) (name_at t.graph m b) ≡ no_piece s.room (name_at s.graph m a) (name_at s.graph m b)
      = (λ i. no_piece t.room (name_at-renamed k m a bare.0 i) (name_at-renamed k m b bare.1.0 i)) ∙ no_piece-same back k.left room (name_at s.graph m a) (name_at s.graph m b) in
      λ i. first (
      specials-same k m (a ∷ b ∷ []) bare i ∷ pinned-same k m (a ∷ b ∷ []) bare i ∷ readonly-same k m (a ∷ b ∷ []) bare i
      ∷ mourning-same k m (a ∷ b ∷ []) bare i ∷ piece i ∷ [])))

  pub forward_row : (a b : Text) (hash : Bool) → first (row t m (Forward a b hash)) ≡ first (row s m (Forward a b hash))
  forward_row a b hash = known k m (a ∷ b ∷ []) _ _ (bare_objects k m (a ∷ b ∷ []) _ _ (λ bare.
      let names : List Text = a ∷ (if hash then b ∷ [] else []) in
      let both : AllByRecursion (λ h. is_immediate (value_at s.graph m h) ≡ false) (a ∷ (if hash then b ∷ [] else [])) = hashed_names k m a b hash bare in
      λ i. first (
      specials-same k m names both i ∷ pinned-same k m (a ∷ []) (bare.0, tt) i ∷ readonly-same k m (a ∷ []) (bare.0, tt) i
      ∷ mourning-same k m (a ∷ []) (bare.0, tt) i ∷ classed-same k m names both i ∷ [])))

  pub pin_row : (o : Text) → first (row t m (Pin o)) ≡ first (row s m (Pin o))
  pin_row o = known k m (o ∷ []) _ _ (bare_object k m o _ _ (λ bare.
      let words : no_old_words t.room (name_at t.graph m o) ≡ no_old_words s.room (name_at s.graph m o)
      = ap (no_old_words t.room) (name_at-renamed k m o bare) ∙ no_old_words-same back k.left room (name_at s.graph m o) in
      λ i. first (words i ∷ [])))
