-- What is live by lists of names is live by rules, and the other way round.
use Rattle.std.proofs.Common.{◌≡◌, ℕ, suc, zero, Bool, ◌<◌, List, [], ◌∷◌, ◌++◌, get_or, refl, subst, inl, inr, arith, ap, ◌∙◌, Some}
use Rattle.std.specs.List.{Contains}
use Rattle.std.proofs.lemmas.List.Elements.{Contains-append_left, Contains-append_right, Contains-append_cases}
use Rattle.spur_graph.specs.Graph.{Graph}
use Rattle.spur_graph.specs.declared.answer.Value.TheVariants.{Ref}
use Rattle.spur_graph.specs.Live.{Follows, Rooted, Given, Strong, Keyed, IsDerivation, IsDerived, Reached, AtRoot, AtGiven, ByStrong, ByLoose, ByKey, LiveByRules}

pub first_among : (a : ℕ) (names : List ℕ) → Contains (a ∷ names) a
first_among a names = (0, omega arith, refl)

pub only_among : (b a : ℕ) → Contains (b ∷ []) a → b ≡ a
only_among b a c = at c.0 c.1 c.2
  where
    at : (k : ℕ) → k < 1 → get_or (b ∷ []) k a ≡ a → b ≡ a
    at zero l e = e
    at (suc k) l e = absurd (omega arith)

module _ (g : Graph) (further silent : ℕ → Bool) where
  followed : (earlier : List ℕ) (a : ℕ) → ((b : ℕ) → Contains earlier b → Reached g further silent b) → Follows g further silent earlier a → Reached g further silent a
  followed earlier _ before (Rooted a root) = AtRoot a root
  followed earlier _ before (Given a is) = AtGiven a is
  followed earlier _ before (Strong b a n among speaks there value) = ByStrong b a n (before b among) speaks there value
  followed earlier _ before (Keyed b a n among speaks there keyed key value) = elim key.2 [
    | inl immediate ↦ ByLoose b a n key.0 (before b among) speaks there keyed key.1 immediate value
    | inr named ↦ ByKey b named.0 a n (before b among) speaks there keyed (key.1 ∙ ap Some named.1) (before named.0 named.2) value
  ]

  reached : (names : List ℕ) → IsDerivation g further silent names → (a : ℕ) → Contains names a → Reached g further silent a
  reached [] derivation a among = absurd (omega (arith, among.1))
  reached (b ∷ names) derivation a among = elim (Contains-append_cases (b ∷ []) names a among) [
    | inl latest ↦ subst (Reached g further silent) (only_among b a latest) (followed names b (reached names derivation.1) derivation.0)
    | inr earlier ↦ reached names derivation.1 a earlier
  ]

  -- a step stays one where there are more names
  wider : (few many : List ℕ) (a : ℕ) → ((b : ℕ) → Contains few b → Contains many b) → Follows g further silent few a → Follows g further silent many a
  wider few many _ more (Rooted a root) = Rooted a root
  wider few many _ more (Given a is) = Given a is
  wider few many _ more (Strong b a n among speaks there value) = Strong b a n (more b among) speaks there value
  wider few many _ more (Keyed b a n among speaks there keyed key value) =
      Keyed b a n (more b among) speaks there keyed (key.0, key.1, elim key.2 [ inl immediate ↦ inl immediate | inr named ↦ inr (named.0, named.1, more named.0 named.2) ]) value

  joined : (xs ys : List ℕ) → IsDerivation g further silent xs → IsDerivation g further silent ys → IsDerivation g further silent (xs ++ ys)
  joined [] ys first second = second
  joined (x ∷ xs) ys first second = (wider xs (xs ++ ys) x (λ b among. Contains-append_left xs ys b among) first.0, joined xs ys first.1 second)

  derived : (a : ℕ) → Reached g further silent a → IsDerived g further silent a
  derived _ (AtRoot a root) = (a ∷ [], (Rooted a root, tt), first_among a [])
  derived _ (AtGiven a is) = (a ∷ [], (Given a is, tt), first_among a [])
  derived _ (ByStrong b a n live speaks there value) =
      let by = derived b live in
      (a ∷ by.0, (Strong b a n by.2 speaks there value, by.1), first_among a by.0)
  derived _ (ByLoose b a n key live speaks there keyed first immediate value) =
      let by = derived b live in
      (a ∷ by.0, (Keyed b a n by.2 speaks there keyed (key, first, inl immediate) value, by.1), first_among a by.0)
  derived _ (ByKey b c a n live speaks there keyed first also value) =
      let by = derived b live in
      let key = derived c also in
      let both : List ℕ = by.0 ++ key.0 in (
        a ∷ both,
        (
          Keyed b a n (Contains-append_left by.0 key.0 b by.2) speaks there keyed (Ref c, first, inr (c, refl, Contains-append_right by.0 key.0 c key.2)) value,
          joined by.0 key.0 by.1 key.1,
        ),
        first_among a both,
      )

pub live_by_rules : LiveByRules
live_by_rules g further silent a = (λ d. reached g further silent d.0 d.1 a d.2, λ r. derived g further silent a r)
