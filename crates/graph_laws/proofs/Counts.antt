-- What is counted is the same under other names.
use Rattle.std.proofs.Common.{◌≡◌, ℕ, zero, suc, ◌+◌, ◌-◌, Bool, true, false, cond, List, [], ◌∷◌, map, length, refl, sym, ap, ◌∙◌, inl, inr, arith, Some, None, length-append}
use Rattle.std.proofs.lemmas.List.{length-map}
use Rattle.std.proofs.lemmas.List.Sums.{sum_by-cons}
use Rattle.std.proofs.lemmas.Option.{none-some}
use Rattle.std.specs.Option.{option_map, is_some}
use Rattle.std.specs.List.{flat_map, sum_by, count_by}
use Rattle.std.specs.declared.cmp.Ordering.{Ordering}
use Rattle.std.specs.declared.cmp.Ordering.TheVariants.{Less, Equal, Greater}
use Rattle.std.specs.Ordering.{nat_cmp, eq_by_cmp, is_eq}
use Rattle.std.specs.Cmp.{nat_cmp_total, unsigned_tied}
use Rattle.std.proofs.lemmas.Bool.{cases_eq, eq-eqb, ne_eqb}
use Rattle.std.specs.FinMap.{FinMap, empty, get, insert, remove, len, entries, find, put, get-empty, get-insert, get-remove, get-entries, entries-insert, len-empty, len-entries, len-remove, empty_of_len, same_map, nat_cmp-IsAntisymmetric}
use Rattle.spur_graph.proofs.HandleMaps.{chosen}
use Rattle.graph_laws.proofs.Values.{same_number}

-- ---- sums over the entries of a map

module _ {X : Type 0} (E : ℕ × X → ℕ) where
  -- the sum of what an entry weighs
  abbrev pub weight : FinMap nat_cmp X → ℕ
  weight m = sum_by E (entries m)

  -- an entry with a new name adds what it weighs
  weight-put : (a : ℕ) (x : X) (es : List (ℕ × X)) → find nat_cmp a es ≡ None → sum_by E (put nat_cmp a x es) ≡ E (a, x) + sum_by E es
  weight-put a x [] e = sum_by-cons E (a, x) []
  weight-put a x (y ∷ es) e = by (nat_cmp a y.0) refl (weight-put a x es)
    where
      by : (o : Ordering) → nat_cmp a y.0 ≡ o → (find nat_cmp a es ≡ None → sum_by E (put nat_cmp a x es) ≡ E (a, x) + sum_by E es) → sum_by E (put nat_cmp a x (y ∷ es)) ≡ E (a, x) + sum_by E (y ∷ es)
      by Less is later = rw is (sum_by-cons E (a, x) (y ∷ es))
      by Equal is later = absurd (none-some y.1 (sym e ∙ ap (λ o. cond (is_eq o) (Some y.1) (find nat_cmp a es)) is))
      by Greater is later =
          let among = later (ap (λ o. cond (is_eq o) (Some y.1) (find nat_cmp a es)) (sym is) ∙ e) in
          rw is (omega (arith, sum_by-cons E y (put nat_cmp a x es), sum_by-cons E y es, among))

  -- a map is what is left of it without an entry, and that entry
  with_entry : (m : FinMap nat_cmp X) (a : ℕ) (x : X) → get m a ≡ Some x → m ≡ insert (remove m a) a x
  with_entry m a x there = same_map nat_cmp_total nat_cmp-IsAntisymmetric m (insert (remove m a) a x)
      (λ b. by b ∙ sym (get-insert nat_cmp_total (remove m a) a x b ∙ ap (cond (eq_by_cmp nat_cmp b a) (Some x)) (get-remove nat_cmp_total m a b)))
    where
      by : (b : ℕ) → get m b ≡ cond (eq_by_cmp nat_cmp b a) (Some x) (cond (eq_by_cmp nat_cmp b a) None (get m b))
      by b = elim (cases_eq b a) [
        | inl same ↦ ap (get m) same ∙ there ∙ sym (ap (λ t. cond t (Some x) (cond t None (get m b))) (unsigned_tied b a ∙ eq-eqb b a same))
        | inr other ↦ sym (ap (λ t. cond t (Some x) (cond t None (get m b))) (unsigned_tied b a ∙ ne_eqb b a other))
      ]

  weight-without : (m : FinMap nat_cmp X) (a : ℕ) (x : X) → get m a ≡ Some x → weight m ≡ E (a, x) + weight (remove m a)
  weight-without m a x there =
      ap weight (with_entry m a x there)
      ∙ ap (sum_by E) (entries-insert nat_cmp_total (remove m a) a x)
      ∙ weight-put a x (entries (remove m a)) (
      sym (get-entries (remove m a) a) ∙ get-remove nat_cmp_total m a a ∙ ap (λ t. cond t None (get m a)) (unsigned_tied a a ∙ eq-eqb a a refl))

  weight-empty : weight empty ≡ 0
  weight-empty = by (entries empty) (sym (len-entries empty) ∙ len-empty nat_cmp X)
    where
      by : (es : List (ℕ × X)) → length es ≡ 0 → sum_by E es ≡ 0
      by [] e = refl
      by (y ∷ es) e = absurd (omega (arith, e))

one_less : (l n : ℕ) → l ≡ suc n → l - 1 ≡ n
one_less l n e = omega (arith, e)

-- a map that has an entry has a key
a_key : {X : Type 0} (es : List (ℕ × X)) (n : ℕ) → length es ≡ suc n → (a : ℕ) × (x : X) × (find nat_cmp a es ≡ Some x)
a_key [] n e = absurd (omega (arith, e))
a_key (e ∷ es) n l = (e.0, e.1, ap (λ b. cond b (Some e.1) (find nat_cmp e.0 es)) (unsigned_tied e.0 e.0 ∙ eq-eqb e.0 e.0 refl))

module _ {X Y : Type 0} (f : X → Y) (p back : ℕ → ℕ) (left : (a : ℕ) → back (p a) ≡ a) (right : (a : ℕ) → p (back a) ≡ a) where
  -- the entries of a map whose names are each for one of the other's weigh as much, where each weighs as much as its own
  weight-by_size : (E : ℕ × X → ℕ) (F : ℕ × Y → ℕ) (n : ℕ) (m : FinMap nat_cmp X) (k : FinMap nat_cmp Y) → len m ≡ n → ((a : ℕ) → get k (p a) ≡ option_map f (get m a))
      → ((a : ℕ) (x : X) → get m a ≡ Some x → F (p a, f x) ≡ E (a, x)) → weight F k ≡ weight E m
  weight-by_size E F zero m k e is same =
      let none : m ≡ empty = empty_of_len m e in
      let all : (b : ℕ) → get k b ≡ None = λ b. ap (get k) (sym (right b)) ∙ is (back b) ∙ ap (option_map f) (ap (λ x. get x (back b)) none ∙ get-empty nat_cmp (back b)) in
      let also : k ≡ empty = same_map nat_cmp_total nat_cmp-IsAntisymmetric k empty (λ b. all b ∙ sym (get-empty nat_cmp b)) in
      ap (weight F) also ∙ weight-empty F ∙ sym (ap (weight E) none ∙ weight-empty E)
  weight-by_size E F (suc n) m k e is same =
      let key = a_key (entries m) n (sym (len-entries m) ∙ e) in
      let a = key.0 in
      let there : get m a ≡ Some key.1 = get-entries m a ∙ key.2 in
      let fewer : len (remove m a) ≡ n = len-remove nat_cmp_total m a ∙ ap (λ o. cond (is_some o) (len m - 1) (len m)) there ∙ one_less (len m) n e in
      let rest : weight F (remove k (p a)) ≡ weight E (remove m a) = weight-by_size E F n (remove m a) (remove k (p a)) fewer
      (λ b.
      get-remove nat_cmp_total k (p a) (p b)
      ∙ (λ i. cond ((unsigned_tied (p b) (p a) ∙ same_number p back left b a ∙ sym (unsigned_tied b a)) i) None (is b i))
      ∙ chosen f (eq_by_cmp nat_cmp b a) None (get m b)
      ∙ ap (option_map f) (sym (get-remove nat_cmp_total m a b)))
      (λ b x h. same b x (still m a b x h)) in
      weight-without F k (p a) (f key.1) (is a ∙ ap (option_map f) there)
      ∙ (λ i. same a key.1 there i + rest i)
      ∙ sym (weight-without E m a key.1 there)
    where
      still : (m : FinMap nat_cmp X) (a b : ℕ) (x : X) → get (remove m a) b ≡ Some x → get m b ≡ Some x
      still m a b x h = by (eq_by_cmp nat_cmp b a) (sym (get-remove nat_cmp_total m a b) ∙ h)
        where
          by : (t : Bool) → cond t None (get m b) ≡ Some x → get m b ≡ Some x
          by true e = absurd (none-some x e)
          by false e = e

  module _ (m : FinMap nat_cmp X) (k : FinMap nat_cmp Y) (is : (a : ℕ) → get k (p a) ≡ option_map f (get m a)) where
    pub weight-renamed : (E : ℕ × X → ℕ) (F : ℕ × Y → ℕ) → ((a : ℕ) (x : X) → get m a ≡ Some x → F (p a, f x) ≡ E (a, x)) → weight F k ≡ weight E m
    weight-renamed E F same = weight-by_size E F (len m) m k refl is same

    -- a map of as many names
    pub len-renamed : len k ≡ len m
    len-renamed = len-entries k ∙ sym (ones (entries k)) ∙ weight-renamed (λ e. 1) (λ e. 1) (λ a x there. refl) ∙ ones (entries m) ∙ sym (len-entries m)
      where
        ones : {Z : Type 0} (es : List (ℕ × Z)) → sum_by (λ e. 1) es ≡ length es
        ones [] = refl
        ones (e ∷ es) = omega (arith, sum_by-cons (λ e. 1) e es, ones es)

-- ---- lists that go through a function

pub count_by-mapped : {X Y : Type 0} (f : X → Y) (test : Y → Bool) (only : X → Bool) → ((x : X) → test (f x) ≡ only x) → (xs : List X) → count_by test (map f xs) ≡ count_by only xs
count_by-mapped f test only same [] = refl
count_by-mapped f test only same (x ∷ xs) =
    sum_by-cons (λ y. cond (test y) 1 0) (f x) (map f xs)
    ∙ (λ i. cond (same x i) 1 0 + count_by-mapped f test only same xs i)
    ∙ sym (sum_by-cons (λ y. cond (only y) 1 0) x xs)

-- as many wait
pub waiting-counted : (p : ℕ → ℕ) (groups : List (List ℕ)) → length (flat_map (λ (g : List ℕ). g) (map (map p) groups)) ≡ length (flat_map (λ (g : List ℕ). g) groups)
waiting-counted p [] = refl
waiting-counted p (g ∷ groups) =
    length-append (map p g) (flat_map (λ h. h) (map (map p) groups))
    ∙ (λ i. length-map g p i + waiting-counted p groups i)
    ∙ sym (length-append g (flat_map (λ h. h) groups))
