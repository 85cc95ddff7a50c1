-- Tables that a list makes: what a part of the list leaves, and sums over the entries. Sums over the parts of a list.
use Rattle.std.proofs.Common.{◌≡◌, ℕ, Bool, true, false, cond, ◌&&◌, ◌+◌, ◌≤◌, List, [], ◌∷◌, map, refl, sym, ap, ◌∙◌, subst, arith, inl, inr, Some, None, Option}
use Rattle.std.proofs.lemmas.Bool.{false≢true, cases_Bool}
use Rattle.std.proofs.lemmas.Cmp.{tied_itself}
use Rattle.std.proofs.lemmas.List.Sums.{sum_by-cons}
use Rattle.std.specs.Prelude.{T}
use Rattle.std.specs.List.{filter, sum_by, count_by}
use Rattle.std.specs.Ordering.{nat_cmp, eq_by_cmp, is_lt}
use Rattle.std.specs.Cmp.{nat_cmp_total}
use Rattle.std.specs.FinMap.{FinMap, get, from_entries, entries, find, get-entries, get-from_entries, entries_sorted}
use Rattle.std.specs.FinMap.Entries.{is_sorted, below_all}
use Rattle.heap_cells.proofs.Finding.{get-at, get-member, key_same, same_key}
use Rattle.heap_cells.proofs.Members.{In}
use Rattle.heap_laws.proofs.Sums.{AreApart, once_apart, sum-placed}

-- ---- a table of a part of a list

pub nothing : {X : Type 0} (b : Bool) → ◌≡◌ {A = Option X} None (cond b None None)
nothing true = refl
nothing false = refl

module _ {A X : Type 0} (key : A → ℕ) (F : A → X) (keep : ℕ → Bool) where
  abbrev table : List A → List (ℕ × X)
  table xs = map (λ x. (key x, F x)) xs

  find-kept : (xs : List A) (a : ℕ) → find nat_cmp a (table (filter (λ x. keep (key x)) xs)) ≡ cond (keep a) (find nat_cmp a (table xs)) None
  find-kept [] a = nothing (keep a)
  find-kept (x ∷ xs) a =
      let rest = find-kept xs a in
      let some : List A = filter (λ y. keep (key y)) xs in
      elim (cases_Bool (keep (key x))) [
        | inl on ↦ ap (λ b. find nat_cmp a (table (cond b (x ∷ some) some))) on ∙ elim (cases_Bool (eq_by_cmp nat_cmp a (key x))) [
          | inl same ↦
              let kept : keep a ≡ true = ap keep (key_same a (key x) same) ∙ on in
              ap (λ b. cond b (Some (F x)) (find nat_cmp a (table some))) same
              ∙ sym (λ i. cond (kept i) (cond (same i) (Some (F x)) (find nat_cmp a (table xs))) None)
          | inr other ↦
              ap (λ b. cond b (Some (F x)) (find nat_cmp a (table some))) other ∙ rest
              ∙ sym (ap (λ b. cond (keep a) (cond b (Some (F x)) (find nat_cmp a (table xs))) None) other)
        ]
        | inr off ↦ ap (λ b. find nat_cmp a (table (cond b (x ∷ some) some))) off ∙ rest ∙ elim (cases_Bool (eq_by_cmp nat_cmp a (key x))) [
          | inl same ↦
              let gone : keep a ≡ false = ap keep (key_same a (key x) same) ∙ off in
              ap (λ b. cond b (find nat_cmp a (table xs)) None) gone ∙ sym (ap (λ b. cond b (cond (eq_by_cmp nat_cmp a (key x)) (Some (F x)) (find nat_cmp a (table xs))) None) gone)
          | inr other ↦ sym (ap (λ b. cond (keep a) (cond b (Some (F x)) (find nat_cmp a (table xs))) None) other)
        ]
      ]

  pub get-kept : (xs : List A) (a : ℕ) → get (from_entries {R = nat_cmp} (table (filter (λ x. keep (key x)) xs))) a ≡ cond (keep a) (get (from_entries {R = nat_cmp} (table xs)) a) None
  get-kept xs a =
      get-from_entries nat_cmp_total (table (filter (λ x. keep (key x)) xs)) a ∙ find-kept xs a
      ∙ ap (λ o. cond (keep a) o None) (sym (get-from_entries nat_cmp_total (table xs) a))

-- ---- the entries of a table

t-left : (a b : Bool) → T (a && b) → T a
t-left true b s = tt
t-left false b s = s

t-right : (a b : Bool) → T (a && b) → T b
t-right true b s = s
t-right false b s = absurd s

module _ {X : Type 0} where
  not-below : (k : ℕ) (es : List (ℕ × X)) → T (below_all nat_cmp k es) → (z : ℕ × X) → In es z → z.0 ≡ k → ⊥
  not-below k [] s z m e = m
  not-below k (y ∷ es) s z m e = elim m [
    | inl is ↦
        let same : nat_cmp k y.0 ≡ nat_cmp k k = ap (nat_cmp k) (ap (λ (u : ℕ × X). u.0) is ∙ e) in
        subst (λ o. T (is_lt o)) (same ∙ tied_itself nat_cmp_total k) (t-left (is_lt (nat_cmp k y.0)) (below_all nat_cmp k es) s)
    | inr n ↦ not-below k es (t-right (is_lt (nat_cmp k y.0)) (below_all nat_cmp k es) s) z n e
  ]

  sorted-apart : (es : List (ℕ × X)) → T (is_sorted nat_cmp es) → AreApart (λ (e : ℕ × X). e.0) es
  sorted-apart [] s = tt
  sorted-apart (e ∷ es) s = (not-below e.0 es (t-left (below_all nat_cmp e.0 es) (is_sorted nat_cmp es) s), sorted-apart es (t-right (below_all nat_cmp e.0 es) (is_sorted nat_cmp es) s))

  found-in : (a : ℕ) (v : X) (es : List (ℕ × X)) → find nat_cmp a es ≡ Some v → In es (a, v)
  found-in a v [] e = absurd cc
  found-in a v (y ∷ es) e = elim (cases_Bool (eq_by_cmp nat_cmp a y.0)) [
    | inl on ↦
        let is : Some y.1 ≡ Some v = sym (ap (λ b. cond b (Some y.1) (find nat_cmp a es)) on) ∙ e in
        let value : y.1 ≡ v = cc in
        inl (λ i. (sym (key_same a y.0 on) i, value i))
    | inr off ↦ inr (found-in a v es (sym (ap (λ b. cond b (Some y.1) (find nat_cmp a es)) off) ∙ e))
  ]

  in-found : (es : List (ℕ × X)) (z : ℕ × X) → In es z → (v : X) × (find nat_cmp z.0 es ≡ Some v)
  in-found [] z m = absurd m
  in-found (y ∷ es) z m = elim (cases_Bool (eq_by_cmp nat_cmp z.0 y.0)) [
    | inl on ↦ (y.1, ap (λ b. cond b (Some y.1) (find nat_cmp z.0 es)) on)
    | inr off ↦ elim m [
      | inl is ↦ absurd (false≢true (sym off ∙ same_key z.0 y.0 (ap (λ (u : ℕ × X). u.0) (sym is))))
      | inr n ↦ let r = in-found es z n in (r.0, ap (λ b. cond b (Some y.1) (find nat_cmp z.0 es)) off ∙ r.1)
    ]
  ]

-- a sum over the entries is one over the list, where no two members have one key
pub sum-entries : {A X : Type 0} (key : A → ℕ) (F : A → X) (G : ℕ × X → ℕ) (xs : List A) → AreApart key xs
    → sum_by G (entries (from_entries {R = nat_cmp} (map (λ x. (key x, F x)) xs))) ≡ sum_by (λ x. G (key x, F x)) xs
sum-entries {A} {X} key F G xs apart =
    let m : FinMap nat_cmp X = from_entries {R = nat_cmp} (map (λ x. (key x, F x)) xs) in
    sum-placed (λ a. a) key (λ (e : ℕ × X). e.0) (λ x. G (key x, F x)) G xs (entries m) apart (sorted-apart (entries m) (entries_sorted m)) (λ x z a b e. e)
    (λ x i. ((key x, F x), found-in (key x) (F x) (entries m) (sym (get-entries m (key x)) ∙ get-at key F x xs (λ z j e. ap F (sym (once_apart key xs apart x z i j e))) i), refl, refl))
    (λ e i. let f = in-found (entries m) e i in let r = get-member key F e.0 xs f.0 (get-entries m e.0 ∙ f.1) in (r.0, r.1, r.2))

-- ---- the members of a list

pub sum-members : {A : Type 0} (f g : A → ℕ) (xs : List A) → ((x : A) → In xs x → f x ≡ g x) → sum_by f xs ≡ sum_by g xs
sum-members f g [] same = refl
sum-members f g (x ∷ xs) same = sum_by-cons f x xs ∙ (λ i. same x (inl refl) i + sum-members f g xs (λ y m. same y (inr m)) i) ∙ sym (sum_by-cons g x xs)

pub sum-zero : {A : Type 0} (f : A → ℕ) (xs : List A) → ((x : A) → In xs x → f x ≡ 0) → sum_by f xs ≡ 0
sum-zero f [] none = refl
sum-zero f (x ∷ xs) none = let a = sum_by-cons f x xs in let b = none x (inl refl) in let r = sum-zero f xs (λ y m. none y (inr m)) in omega (arith, a, b, r)

pub more-count : {A : Type 0} (f g : A → Bool) (xs : List A) → ((x : A) → In xs x → f x ≡ true → g x ≡ true) → count_by f xs ≤ count_by g xs
more-count f g [] more = omega arith
more-count f g (x ∷ xs) more =
    let rest = more-count f g xs (λ y m. more y (inr m)) in
    let a = sum_by-cons (λ y. cond (f y) 1 0) x xs in
    let b = sum_by-cons (λ y. cond (g y) 1 0) x xs in
    let here = at-most (f x) (g x) (more x (inl refl)) in
    omega (arith, rest, a, b, here)
  where
    at-most : (y z : Bool) → (y ≡ true → z ≡ true) → cond y 1 0 ≤ cond z 1 0
    at-most false z k = omega arith
    at-most true z k = let e : cond z 1 0 ≡ 1 = ap {B = ℕ} (λ b. cond b 1 0) (k refl) in omega (arith, e)

-- ---- the parts of a list

pub sum-filter : {A : Type 0} (f : A → ℕ) (test : A → Bool) (xs : List A) → sum_by f (filter test xs) ≡ sum_by (λ x. cond (test x) (f x) 0) xs
sum-filter f test [] = refl
sum-filter f test (x ∷ xs) =
    let rest = sum-filter f test xs in
    let all = sum_by-cons (λ y. cond (test y) (f y) 0) x xs in
    elim (cases_Bool (test x)) [
      | inl on ↦
          ap (λ b. sum_by f (cond b (x ∷ filter test xs) (filter test xs))) on ∙ sum_by-cons f x (filter test xs)
          ∙ (λ i. cond (sym on i) (f x) 0 + rest i) ∙ sym all
      | inr off ↦
          let none : cond (test x) (f x) 0 ≡ 0 = ap (λ b. cond b (f x) 0) off in
          ap (λ b. sum_by f (cond b (x ∷ filter test xs) (filter test xs))) off ∙ rest ∙ omega (arith, all, none)
    ]

-- exactly one of three tests passes
abbrev pub OneOf : Bool → Bool → Bool → Type 0
OneOf a b c = cond a 1 0 + cond b 1 0 + cond c 1 0 ≡ 1

one-of : (n : ℕ) (a b c : Bool) → OneOf a b c → n ≡ cond a n 0 + cond b n 0 + cond c n 0
one-of n true true c one = absurd (omega (arith, one))
one-of n true false true one = absurd (omega (arith, one))
one-of n true false false one = omega arith
one-of n false true true one = absurd (omega (arith, one))
one-of n false true false one = omega arith
one-of n false false true one = omega arith
one-of n false false false one = absurd (omega (arith, one))

pub sum-parts : {A : Type 0} (f : A → ℕ) (a b c : A → Bool) (xs : List A) → ((x : A) → In xs x → OneOf (a x) (b x) (c x)) → sum_by f xs ≡ sum_by f (filter a xs) + sum_by f (filter b xs) + sum_by f (filter c xs)
sum-parts f a b c xs one =
    let r = split xs one in
    let p = sum-filter f a xs in
    let q = sum-filter f b xs in
    let s = sum-filter f c xs in
    omega (arith, r, p, q, s)
  where
    split : (ys : List _) → ((x : _) → In ys x → OneOf (a x) (b x) (c x)) → sum_by f ys ≡ sum_by (λ x. cond (a x) (f x) 0) ys + sum_by (λ x. cond (b x) (f x) 0) ys + sum_by (λ x. cond (c x) (f x) 0) ys
    split [] each = refl
    split (y ∷ ys) each =
        let rest = split ys (λ x m. each x (inr m)) in
        let here = one-of (f y) (a y) (b y) (c y) (each y (inl refl)) in
        let w = sum_by-cons f y ys in
        let p = sum_by-cons (λ x. cond (a x) (f x) 0) y ys in
        let q = sum_by-cons (λ x. cond (b x) (f x) 0) y ys in
        let s = sum_by-cons (λ x. cond (c x) (f x) 0) y ys in
        omega (arith, rest, here, w, p, q, s)
