-- Two pairs of names that change places.
use Rattle.std.proofs.Common.{◌≡◌, ◌≢◌, ℕ, if◌then◌else◌, nat_eq, refl, ap, sym, ◌∙◌, subst, inl, inr}
use Rattle.std.proofs.lemmas.Bool.{cases_eq, eq-eqb, ne_eqb}
use Rattle.spur_graph.specs.Become.{instead}
use Rattle.graph_laws.specs.OutOfPlace.{crossed, AreFour}

module _ {a b c d : ℕ} (four : AreFour a b c d) where
  pub at_a : crossed a b c d a ≡ c
  at_a = ap (λ t. if t then c else if nat_eq a c then a else if nat_eq a b then d else if nat_eq a d then b else a) (eq-eqb a a refl)

  pub at_c : crossed a b c d c ≡ a
  at_c =
      ap (λ t. if t then c else if nat_eq c c then a else if nat_eq c b then d else if nat_eq c d then b else c) (ne_eqb c a (λ e. four.first.0 (sym e)))
      ∙ ap (λ t. if t then a else if nat_eq c b then d else if nat_eq c d then b else c) (eq-eqb c c refl)

  pub at_b : crossed a b c d b ≡ d
  at_b =
      ap (λ t. if t then c else if nat_eq b c then a else if nat_eq b b then d else if nat_eq b d then b else b) (ne_eqb b a (λ e. four.apart (sym e)))
      ∙ ap (λ t. if t then a else if nat_eq b b then d else if nat_eq b d then b else b) (ne_eqb b c four.second.0)
      ∙ ap (λ t. if t then d else if nat_eq b d then b else b) (eq-eqb b b refl)

  pub at_d : crossed a b c d d ≡ b
  at_d =
      ap (λ t. if t then c else if nat_eq d c then a else if nat_eq d b then d else if nat_eq d d then b else d) (ne_eqb d a (λ e. four.first.1 (sym e)))
      ∙ ap (λ t. if t then a else if nat_eq d b then d else if nat_eq d d then b else d) (ne_eqb d c (λ e. four.fresh_apart (sym e)))
      ∙ ap (λ t. if t then d else if nat_eq d d then b else d) (ne_eqb d b (λ e. four.second.1 (sym e)))
      ∙ ap (λ t. if t then b else d) (eq-eqb d d refl)

  pub at_other : (x : ℕ) → x ≢ a → x ≢ c → x ≢ b → x ≢ d → crossed a b c d x ≡ x
  at_other x na nc nb nd =
      ap (λ t. if t then c else if nat_eq x c then a else if nat_eq x b then d else if nat_eq x d then b else x) (ne_eqb x a na)
      ∙ ap (λ t. if t then a else if nat_eq x b then d else if nat_eq x d then b else x) (ne_eqb x c nc)
      ∙ ap (λ t. if t then d else if nat_eq x d then b else x) (ne_eqb x b nb)
      ∙ ap (λ t. if t then b else x) (ne_eqb x d nd)

  -- a name is one of the four, or none of them
  pub by_cases : (P : ℕ → Type 0) → P a → P c → P b → P d → ((x : ℕ) → x ≢ a → x ≢ c → x ≢ b → x ≢ d → P x) → (x : ℕ) → P x
  by_cases P pa pc pb pd other x = elim (cases_eq x a) [
    | inl e ↦ subst P (sym e) pa
    | inr na ↦ elim (cases_eq x c) [
      | inl e ↦ subst P (sym e) pc
      | inr nc ↦ elim (cases_eq x b) [
        | inl e ↦ subst P (sym e) pb
        | inr nb ↦ elim (cases_eq x d) [
          | inl e ↦ subst P (sym e) pd
          | inr nd ↦ other x na nc nb nd
        ]
      ]
    ]
  ]

  pub crossed-twice : (x : ℕ) → crossed a b c d (crossed a b c d x) ≡ x
  crossed-twice = by_cases (λ x. crossed a b c d (crossed a b c d x) ≡ x)
      (ap (crossed a b c d) at_a ∙ at_c) (ap (crossed a b c d) at_c ∙ at_a) (ap (crossed a b c d) at_b ∙ at_d) (ap (crossed a b c d) at_d ∙ at_b)
      (λ x na nc nb nd. ap (crossed a b c d) (at_other x na nc nb nd) ∙ at_other x na nc nb nd)

  -- each of the first two is replaced in its turn, which is the same for a name that is none of the last two
  pub led : (x : ℕ) → x ≢ c → x ≢ d → instead b d (instead a c x) ≡ crossed a b c d x
  led x nc nd = elim (cases_eq x a) [
    | inl e ↦ ap (instead b d) (here a c x e) ∙ past b d c (λ f. four.second.0 (sym f)) ∙ sym (ap (crossed a b c d) e ∙ at_a)
    | inr na ↦ elim (cases_eq x b) [
      | inl e ↦ ap (instead b d) (past a c x na) ∙ here b d x e ∙ sym (ap (crossed a b c d) e ∙ at_b)
      | inr nb ↦ ap (instead b d) (past a c x na) ∙ past b d x nb ∙ sym (at_other x na nc nb nd)
    ]
  ]
    where
      here : (a b x : ℕ) → x ≡ a → instead a b x ≡ b
      here a b x e = ap (λ t. if t then b else x) (eq-eqb x a e)

      past : (a b x : ℕ) → x ≢ a → instead a b x ≡ x
      past a b x n = ap (λ t. if t then b else x) (ne_eqb x a n)
