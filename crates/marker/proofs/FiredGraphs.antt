-- A group fires: what was live is live, and a marking goes on where the group stands on the stack.
use Rattle.std.proofs.Common.{◌≡◌, ◌⊎◌, ℕ, Bool, true, false, cond, ◌==◌, List, [], take, length, refl, sym, ap, ◌∙◌, subst, inl, inr, Some, None, Option}
use Rattle.std.proofs.lemmas.Bool.{false≢true, cases_Bool}
use Rattle.std.proofs.lemmas.List.Elements.{Contains-append_left, Contains-append_cases}
use Rattle.std.proofs.Math.Seq.{take-length}
use Rattle.std.specs.Prelude.{slice_get}
use Rattle.std.specs.Option.{option_map, unwrap_or}
use Rattle.std.specs.List.{Contains, list_any}
use Rattle.std.specs.FinMap.{get}
use Rattle.spur_graph.specs.declared.answer.Value.{Value}
use Rattle.spur_graph.specs.declared.answer.Value.TheVariants.{Int, Char, Float, Ref}
use Rattle.spur_graph.specs.Node.{Node}
use Rattle.spur_graph.specs.Graph.{Graph, node, blank}
use Rattle.spur_graph.specs.Live.{none, fixed_in, fixed_of, is_keyed, strong_values, IsRoot, HandleNames, Mourns, SpecialNames, EntryNames, IsNil, IsFalse, IsTrue, Reached, AtRoot, AtGiven, ByStrong, ByLoose, ByKey}
use Rattle.spur_graph.specs.Rounds.{mourning, fire}
use Rattle.graph_laws.proofs.CollectedNames.{get-fired, mourning-pointers, waiting-fired}
use Rattle.graph_laws.proofs.Forms.{from_group}
use Rattle.graph_laws.proofs.Redirected.{came_from}
use Rattle.marker.specs.Waiting.{Progress}
use Rattle.marker.proofs.Steps.{counted_among, strong_counted}

-- ---- the graph

module _ (g : Graph) (group : List ℕ) where
  abbrev G : Graph
  G = fire g group

  node_fired : (a : ℕ) → (node G a).pointers ≡ (node g a).pointers
  node_fired a = ap (λ o. (unwrap_or o blank).pointers) (get-fired g group a) ∙ by (get g.nodes a)
    where
      by : (o : Option Node) → (unwrap_or (option_map (mourning group a) o) blank).pointers ≡ (unwrap_or o blank).pointers
      by None = refl
      by (Some n) = mourning-pointers group a n

  fixed_fired : (o : Option Value) → fixed_of G o ≡ fixed_of g o
  fixed_fired None = refl
  fixed_fired (Some (Int n)) = refl
  fixed_fired (Some (Char c)) = refl
  fixed_fired (Some (Float w)) = refl
  fixed_fired (Some (Ref c)) = ap (λ (vs : List Value). fixed_in (slice_get vs 2)) (node_fired c)

  strong_fired : (n : Node) → strong_values G n ≡ strong_values g n
  strong_fired n i = cond (is_keyed n) [] (take (cond (n.format == 4) (fixed_fired (get g.classes n.class) i) (length n.pointers)) n.pointers)

  -- a node outside of the group, and one of it
  there_other : (a : ℕ) (n : Node) → get g.nodes a ≡ Some n → list_any (λ b. b == a) group ≡ false → get G.nodes a ≡ Some n
  there_other a n there off = get-fired g group a ∙ ap (option_map (mourning group a)) there ∙ ap (λ b. Some (cond b (record n { format = 1 }) n)) off

  there_mourner : (a : ℕ) (n : Node) → get g.nodes a ≡ Some n → list_any (λ b. b == a) group ≡ true → get G.nodes a ≡ Some (record n { format = 1 })
  there_mourner a n there on = get-fired g group a ∙ ap (option_map (mourning group a)) there ∙ ap (λ b. Some (cond b (record n { format = 1 }) n)) on

  -- all values of a mourner are strong
  by_mourner : (b a : ℕ) (n : Node) → Reached G none none b → get g.nodes b ≡ Some n → list_any (λ c. c == b) group ≡ true → Contains n.pointers (Ref a) → Reached G none none a
  by_mourner b a n live there on among =
      ByStrong b a (record n { format = 1 }) live refl (there_mourner b n there on) (subst (λ (vs : List Value). Contains vs (Ref a)) (sym (take-length n.pointers)) among)

  -- ---- roots

  root_fired : (a : ℕ) → IsRoot g a → IsRoot G a
  root_fired _ (HandleNames h a e) = HandleNames h a e
  root_fired _ (Mourns a among) = Mourns a (subst (λ (names : List ℕ). Contains names a) (sym (waiting-fired g group)) (Contains-append_left _ group a among))
  root_fired _ (SpecialNames a e) = SpecialNames a e
  root_fired _ (EntryNames i a e) = EntryNames i a e
  root_fired _ IsNil = IsNil
  root_fired _ IsFalse = IsFalse
  root_fired _ IsTrue = IsTrue

  root_was : (a : ℕ) → IsRoot G a → IsRoot g a ⊎ Contains group a
  root_was _ (HandleNames h a e) = inl (HandleNames h a e)
  root_was _ (Mourns a among) = elim (Contains-append_cases _ group a (subst (λ (names : List ℕ). Contains names a) (waiting-fired g group) among)) [ inl was ↦ inl (Mourns a was) | inr new ↦ inr new ]
  root_was _ (SpecialNames a e) = inl (SpecialNames a e)
  root_was _ (EntryNames i a e) = inl (EntryNames i a e)
  root_was _ IsNil = inl IsNil
  root_was _ IsFalse = inl IsFalse
  root_was _ IsTrue = inl IsTrue

  -- ---- what is live

  reached_fired : (a : ℕ) → Reached g none none a → Reached G none none a
  reached_fired _ (AtRoot a root) = AtRoot a (root_fired a root)
  reached_fired _ (AtGiven a is) = absurd (false≢true is)
  reached_fired _ (ByStrong b a n live speaks there value) = elim (cases_Bool (list_any (λ c. c == b) group)) [
    | inl on ↦ by_mourner b a n (reached_fired b live) there on (counted_among g n (Ref a) (strong_counted g n (Ref a) value))
    | inr off ↦ ByStrong b a n (reached_fired b live) refl (there_other b n there off) (subst (λ (vs : List Value). Contains vs (Ref a)) (sym (strong_fired n)) value)
  ]
  reached_fired _ (ByLoose b a n key live speaks there keyed first loose value) = elim (cases_Bool (list_any (λ c. c == b) group)) [
    | inl on ↦ by_mourner b a n (reached_fired b live) there on value
    | inr off ↦ ByLoose b a n key (reached_fired b live) refl (there_other b n there off) keyed first loose value
  ]
  reached_fired _ (ByKey b c a n live speaks there keyed first also value) = elim (cases_Bool (list_any (λ d. d == b) group)) [
    | inl on ↦ by_mourner b a n (reached_fired b live) there on value
    | inr off ↦ ByKey b c a n (reached_fired b live) refl (there_other b n there off) keyed first (reached_fired c also) value
  ]

  -- so a marking goes on where the group stands on the stack
  pub progress_fired : (m : ℕ → Bool) (stack : List ℕ) → ((a : ℕ) → Contains group a → Contains stack a) → Progress g none m stack → Progress G none m stack
  progress_fired m stack stands k = record {
    marking = record {
      rooted = λ a root. elim (root_was a root) [ inl was ↦ k.marking.rooted a was | inr new ↦ k.marking.stacked a (stands a new) ];
      sound = λ a on. reached_fired a (k.marking.sound a on);
      stacked = k.marking.stacked;
      done = λ s a n on speaks there value. elim (cases_Bool (list_any (λ b. b == s) group)) [
        | inl among ↦ inl (stands s (from_group group s among))
        | inr off ↦ k.marking.done s a n on speaks (there_was s n there off) (subst (λ (vs : List Value). Contains vs (Ref a)) (strong_fired n) value)
      ];
    };
    keyed = λ s a n on speaks there is value. elim (cases_Bool (list_any (λ b. b == s) group)) [
      | inl among ↦ inl (stands s (from_group group s among))
      | inr off ↦ k.keyed s a n on speaks (there_was s n there off) is value
    ];
  }
    where
      there_was : (s : ℕ) (n : Node) → get G.nodes s ≡ Some n → list_any (λ b. b == s) group ≡ false → get g.nodes s ≡ Some n
      there_was s n there off =
          let was = came_from (mourning group s) (get g.nodes s) n (sym (get-fired g group s) ∙ there) in
          let same : was.0 ≡ n = sym (ap (λ b. cond b (record was.0 { format = 1 }) was.0) off) ∙ was.2 in
          was.1 ∙ ap Some same
