-- Tables and sets whose members go to those of others, in any order.
use Rattle.std.proofs.Common.{◌≡◌, ℕ, Bool, true, false, List, [], ◌∷◌, map, refl, sym, ap, ◌∙◌, inl, inr, Some, None}
use Rattle.std.proofs.lemmas.Bool.{false≢true, or_cases, or_left, or_right}
use Rattle.std.specs.Option.{option_map}
use Rattle.std.specs.List.{list_any}
use Rattle.std.specs.Ordering.{nat_cmp, eq_by_cmp}
use Rattle.std.specs.Cmp.{nat_cmp_total}
use Rattle.std.specs.FinSet.{contains, from_list, contains-from_list}
use Rattle.std.specs.FinMap.{get, from_entries}
use Rattle.heap_cells.proofs.Finding.{same_key, key_same, get-member, get-at}
use Rattle.heap_cells.proofs.Members.{In}

-- booleans that follow from one another
pub both : (a b : Bool) → (a ≡ true → b ≡ true) → (b ≡ true → a ≡ true) → a ≡ b
both true b f g = sym (f refl)
both false true f g = g refl
both false false f g = refl

module _ {A B X Y : Type 0} (pp : ℕ → ℕ) (one : (a b : ℕ) → pp a ≡ pp b → a ≡ b) (f : X → Y) (key : A → ℕ) (key' : B → ℕ) (F : A → X) (G : B → Y) (xs : List A) (ys : List B)
    (to : (x : A) → In xs x → (y : B) × In ys y × (pp (key x) ≡ key' y) × (G y ≡ f (F x)))
    (from : (y : B) → In ys y → (x : A) × In xs x × (pp (key x) ≡ key' y))
    (same : (x z : A) → In xs x → In xs z → key x ≡ key z → F z ≡ F x)
    (same' : (y z : B) → In ys y → In ys z → key' y ≡ key' z → G z ≡ G y) where
  -- a table has at the renamed key what goes with the value at the key
  pub get-placed : (a : ℕ) → get (from_entries {R = nat_cmp} (map (λ y. (key' y, G y)) ys)) (pp a) ≡ option_map f (get (from_entries {R = nat_cmp} (map (λ x. (key x, F x)) xs)) a)
  get-placed a = elim (get (from_entries {R = nat_cmp} (map (λ x. (key x, F x)) xs)) a) as (λ o. get (from_entries {R = nat_cmp} (map (λ x. (key x, F x)) xs)) a ≡ o → get (from_entries {R = nat_cmp} (map (λ y. (key' y, G y)) ys)) (pp a) ≡ option_map f o) [
    | None ↦ λ e. elim (get (from_entries {R = nat_cmp} (map (λ y. (key' y, G y)) ys)) (pp a)) as (λ o. get (from_entries {R = nat_cmp} (map (λ y. (key' y, G y)) ys)) (pp a) ≡ o → o ≡ None) [
      | None ↦ λ i. refl
      | Some u ↦ λ i.
          let m = get-member key' G (pp a) ys u i in
          let r = from m.0 m.1 in
          let is : key r.0 ≡ a = one (key r.0) a (r.2 ∙ m.2) in
          let at = get-at key F r.0 xs (λ z k s. same r.0 z r.1 k s) r.1 in
          let none : get (from_entries {R = nat_cmp} (map (λ x. (key x, F x)) xs)) (key r.0) ≡ None = ap (get (from_entries {R = nat_cmp} (map (λ x. (key x, F x)) xs))) is ∙ e in
          absurd cc
    ] refl
    | Some v ↦ λ e.
        let m = get-member key F a xs v e in
        let r = to m.0 m.1 in
        let at = get-at key' G r.0 ys (λ z k s. same' r.0 z r.1 k s) r.1 in
        ap (get (from_entries {R = nat_cmp} (map (λ y. (key' y, G y)) ys))) (ap pp (sym m.2) ∙ r.2) ∙ at ∙ ap (λ u. Some u) (r.3 ∙ ap f m.3)
  ] refl

pub any_in : {A : Type 0} (key : A → ℕ) (a : ℕ) (xs : List A) → list_any (eq_by_cmp nat_cmp a) (map key xs) ≡ true → (x : A) × In xs x × (key x ≡ a)
any_in key a [] e = absurd (false≢true e)
any_in key a (x ∷ xs) e = elim (or_cases (eq_by_cmp nat_cmp a (key x)) (list_any (eq_by_cmp nat_cmp a) (map key xs)) e) [
  | inl on ↦ (x, inl refl, sym (key_same a (key x) on))
  | inr more ↦ let r = any_in key a xs more in (r.0, inr r.1, r.2)
]

pub in_any : {A : Type 0} (key : A → ℕ) (a : ℕ) (xs : List A) (x : A) → In xs x → key x ≡ a → list_any (eq_by_cmp nat_cmp a) (map key xs) ≡ true
in_any key a [] x k e = absurd k
in_any key a (y ∷ xs) x k e = elim k [
  | inl same ↦ or_left _ _ (same_key a (key y) (sym e ∙ sym (ap key same)))
  | inr m ↦ or_right _ _ (in_any key a xs x m e)
]

module _ {A B : Type 0} (pp : ℕ → ℕ) (one : (a b : ℕ) → pp a ≡ pp b → a ≡ b) (key : A → ℕ) (key' : B → ℕ) (xs : List A) (ys : List B)
    (to : (x : A) → In xs x → (y : B) × In ys y × (pp (key x) ≡ key' y))
    (from : (y : B) → In ys y → (x : A) × In xs x × (pp (key x) ≡ key' y)) where
  pub contains-placed : (a : ℕ) → contains (from_list {R = nat_cmp} (map key' ys)) (pp a) ≡ contains (from_list {R = nat_cmp} (map key xs)) a
  contains-placed a =
      contains-from_list nat_cmp_total (map key' ys) (pp a)
      ∙ both (list_any (eq_by_cmp nat_cmp (pp a)) (map key' ys)) (list_any (eq_by_cmp nat_cmp a) (map key xs))
      (λ e. let m = any_in key' (pp a) ys e in let r = from m.0 m.1 in in_any key a xs r.0 r.1 (one (key r.0) a (r.2 ∙ m.2)))
      (λ e. let m = any_in key a xs e in let r = to m.0 m.1 in in_any key' (pp a) ys r.0 r.1 (sym r.2 ∙ ap pp m.2))
      ∙ sym (contains-from_list nat_cmp_total (map key xs) a)
