-- Looking up in tables whose keys are renamed.
use Rattle.std.proofs.Common.{◌≡◌, ℕ, Bool, true, false, cond, ◌||◌, List, [], ◌∷◌, map, refl, sym, ap, ◌∙◌, inl, inr, Some, Option}
use Rattle.std.proofs.lemmas.Bool.{cases_eq, cases_Bool, false_from_ne_true}
use Rattle.std.proofs.lemmas.Option.{same_Some}
use Rattle.std.specs.Option.{option_map}
use Rattle.std.specs.List.{AllByRecursion, list_any}
use Rattle.std.specs.declared.cmp.Ordering.TheVariants.{Less, Equal, Greater}
use Rattle.std.specs.Ordering.{nat_cmp, eq_by_cmp, is_eq}
use Rattle.std.specs.Cmp.{nat_cmp_total, eq_by_cmp_equiv, ranked}
use Rattle.std.specs.FinSet.{contains, from_list, contains-from_list}
use Rattle.std.specs.FinMap.{get, from_entries, find, get-from_entries}
use Rattle.heap_cells.proofs.Members.{In}

pub same_key : (a b : ℕ) → a ≡ b → eq_by_cmp nat_cmp a b ≡ true
same_key a b is = ap (eq_by_cmp nat_cmp a) (sym is) ∙ (eq_by_cmp_equiv nat_cmp_total).refl a

pub key_same : (a b : ℕ) → eq_by_cmp nat_cmp a b ≡ true → a ≡ b
key_same a b is = elim (nat_cmp a b) as (λ r. r ≡ nat_cmp a b → is_eq r ≡ true → a ≡ b) [
  | Less ↦ λ e t. cc
  | Equal ↦ λ e t. ranked a b Equal e
  | Greater ↦ λ e t. cc
] refl is

one_test : (a b c d : ℕ) → (a ≡ b → c ≡ d) → (c ≡ d → a ≡ b) → eq_by_cmp nat_cmp a b ≡ eq_by_cmp nat_cmp c d
one_test a b c d to back = elim (cases_eq a b) [
  | inl e ↦ same_key a b e ∙ sym (same_key c d (to e))
  | inr n ↦ false_from_ne_true _ (λ t. n (key_same a b t)) ∙ sym (false_from_ne_true _ (λ t. n (back (key_same c d t))))
]

-- to choose a value and apply a function to it, or the other way round
pub chosen : {X Y : Type 0} (f : X → Y) (b : Bool) (x : X) (o : Option X) (y : Y) (u : Option Y) → y ≡ f x → u ≡ option_map f o → cond b (Some y) u ≡ option_map f (cond b (Some x) o)
chosen f true x o y u e is = ap (λ z. Some z) e
chosen f false x o y u e is = is

module _ {A X Y : Type 0} (p : ℕ → ℕ) (one : (a b : ℕ) → p a ≡ p b → a ≡ b) (f : X → Y) (key key' : A → ℕ) (F : A → X) (G : A → Y) where
  find-renamed : (a : ℕ) (ss : List A) → AllByRecursion (λ s. (p (key s) ≡ key' s) × (G s ≡ f (F s))) ss → find nat_cmp (p a) (map (λ s. (key' s, G s)) ss) ≡ option_map f (find nat_cmp a (map (λ s. (key s, F s)) ss))
  find-renamed a [] all = refl
  find-renamed a (s ∷ ss) all =
      ap (λ b. cond b (Some (G s)) (find nat_cmp (p a) (map (λ t. (key' t, G t)) ss))) (one_test (p a) (key' s) a (key s) (λ e. one a (key s) (e ∙ sym all.0.0)) (λ e. ap p e ∙ all.0.0))
      ∙ chosen f (eq_by_cmp nat_cmp a (key s)) (F s) (find nat_cmp a (map (λ t. (key t, F t)) ss)) (G s) (find nat_cmp (p a) (map (λ t. (key' t, G t)) ss)) all.0.1 (find-renamed a ss all.1)

  -- a table whose keys and values are renamed has the renamed value at the renamed key
  pub get-renamed : (a : ℕ) (ss : List A) → AllByRecursion (λ s. (p (key s) ≡ key' s) × (G s ≡ f (F s))) ss → get (from_entries {R = nat_cmp} (map (λ s. (key' s, G s)) ss)) (p a) ≡ option_map f (get (from_entries {R = nat_cmp} (map (λ s. (key s, F s)) ss)) a)
  get-renamed a ss all =
      get-from_entries nat_cmp_total (map (λ s. (key' s, G s)) ss) (p a) ∙ find-renamed a ss all ∙ ap (option_map f) (sym (get-from_entries nat_cmp_total (map (λ s. (key s, F s)) ss) a))

-- a table of keys that are functions of its members
module _ {A X : Type 0} (key : A → ℕ) (F : A → X) where
  find-member : (a : ℕ) (ss : List A) (v : X) → find nat_cmp a (map (λ s. (key s, F s)) ss) ≡ Some v → (s : A) × In ss s × (key s ≡ a) × (F s ≡ v)
  find-member a [] v e = absurd cc
  find-member a (s ∷ ss) v e = elim (cases_Bool (eq_by_cmp nat_cmp a (key s))) [
    | inl on ↦ (s, inl refl, sym (key_same a (key s) on), same_Some _ _ (sym (ap (λ b. cond b (Some (F s)) (find nat_cmp a (map (λ t. (key t, F t)) ss))) on) ∙ e))
    | inr off ↦ let r = find-member a ss v (sym (ap (λ b. cond b (Some (F s)) (find nat_cmp a (map (λ t. (key t, F t)) ss))) off) ∙ e) in (r.0, inr r.1, r.2, r.3)
  ]

  find-at : (s : A) (ss : List A) → ((t : A) → In ss t → key s ≡ key t → F t ≡ F s) → In ss s → find nat_cmp (key s) (map (λ t. (key t, F t)) ss) ≡ Some (F s)
  find-at s [] one k = absurd k
  find-at s (t ∷ ss) one k = elim (cases_eq (key s) (key t)) [
    | inl same ↦ ap (λ b. cond b (Some (F t)) (find nat_cmp (key s) (map (λ u. (key u, F u)) ss))) (same_key (key s) (key t) same) ∙ ap (λ x. Some x) (one t (inl refl) same)
    | inr other ↦
        ap (λ b. cond b (Some (F t)) (find nat_cmp (key s) (map (λ u. (key u, F u)) ss))) (false_from_ne_true _ (λ on. other (key_same (key s) (key t) on)))
        ∙ find-at s ss (λ u m e. one u (inr m) e) (elim k [ inl e ↦ absurd (other (ap key (sym e))) | inr m ↦ m ])
  ]

  -- what the table has at a key belongs to a member with that key
  pub get-member : (a : ℕ) (ss : List A) (v : X) → get (from_entries {R = nat_cmp} (map (λ s. (key s, F s)) ss)) a ≡ Some v → (s : A) × In ss s × (key s ≡ a) × (F s ≡ v)
  get-member a ss v e = find-member a ss v (sym (get-from_entries nat_cmp_total (map (λ s. (key s, F s)) ss) a) ∙ e)

  -- where no other member has its key, a member stands there
  pub get-at : (s : A) (ss : List A) → ((t : A) → In ss t → key s ≡ key t → F t ≡ F s) → In ss s → get (from_entries {R = nat_cmp} (map (λ t. (key t, F t)) ss)) (key s) ≡ Some (F s)
  get-at s ss one k = get-from_entries nat_cmp_total (map (λ t. (key t, F t)) ss) (key s) ∙ find-at s ss one k

-- a set whose members are renamed has the renamed one
module _ {A : Type 0} (p : ℕ → ℕ) (one : (a b : ℕ) → p a ≡ p b → a ≡ b) (key key' : A → ℕ) where
  any-renamed : (a : ℕ) (ss : List A) → AllByRecursion (λ s. p (key s) ≡ key' s) ss → list_any (eq_by_cmp nat_cmp (p a)) (map key' ss) ≡ list_any (eq_by_cmp nat_cmp a) (map key ss)
  any-renamed a [] all = refl
  any-renamed a (s ∷ ss) all = λ i. one_test (p a) (key' s) a (key s) (λ e. one a (key s) (e ∙ sym all.0)) (λ e. ap p e ∙ all.0) i || any-renamed a ss all.1 i

  pub contains-renamed : (a : ℕ) (ss : List A) → AllByRecursion (λ s. p (key s) ≡ key' s) ss → contains (from_list {R = nat_cmp} (map key' ss)) (p a) ≡ contains (from_list {R = nat_cmp} (map key ss)) a
  contains-renamed a ss all = contains-from_list nat_cmp_total (map key' ss) (p a) ∙ any-renamed a ss all ∙ sym (contains-from_list nat_cmp_total (map key ss) a)
