-- Tables and sets with one more key, and tables of the starts that pass a test.
use Rattle.std.proofs.Common.{◌≡◌, ◌≢◌, ℕ, Bool, true, false, cond, ◌||◌, List, [], ◌∷◌, ◌++◌, map, refl, sym, ap, ◌∙◌, inl, inr, Some, None, Option}
use Rattle.std.proofs.lemmas.Bool.{false≢true, cases_Bool, cases_eq, false_from_ne_true}
use Rattle.std.specs.List.{filter, list_any}
use Rattle.std.specs.Ordering.{nat_cmp, eq_by_cmp}
use Rattle.std.specs.Cmp.{nat_cmp_total}
use Rattle.std.specs.FinMap.{FinMap, get, insert, from_entries, find, get-from_entries, get-insert, same_map, nat_cmp-IsAntisymmetric}
use Rattle.std.specs.FinSet as sets
use Rattle.heap_cells.proofs.Finding.{same_key, key_same, get-member, get-at}
use Rattle.heap_cells.proofs.Members.{In, in_filter, filter_in}

-- tests that agree on the members
pub filter_members : {X : Type 0} (p q : X → Bool) (xs : List X) → ((x : X) → In xs x → p x ≡ q x) → filter p xs ≡ filter q xs
filter_members p q [] e = refl
filter_members p q (x ∷ xs) e = λ i. cond (e x (inl refl) i) (x ∷ filter_members p q xs (λ y m. e y (inr m)) i) (filter_members p q xs (λ y m. e y (inr m)) i)

-- none passes
pub filter_none : {X : Type 0} (p : X → Bool) (xs : List X) → ((x : X) → In xs x → p x ≡ false) → filter p xs ≡ []
filter_none p [] e = refl
filter_none p (x ∷ xs) e = ap (λ b. cond b (x ∷ filter p xs) (filter p xs)) (e x (inl refl)) ∙ filter_none p xs (λ y m. e y (inr m))

-- functions that agree on the members
pub map_members : {X Y : Type 0} (f g : X → Y) (xs : List X) → ((x : X) → In xs x → f x ≡ g x) → map f xs ≡ map g xs
map_members f g [] e = refl
map_members f g (x ∷ xs) e = λ i. e x (inl refl) i ∷ map_members f g xs (λ y m. e y (inr m)) i

pub any_members : {X : Type 0} (p q : X → Bool) (xs : List X) → ((x : X) → In xs x → p x ≡ q x) → list_any p xs ≡ list_any q xs
any_members p q [] e = refl
any_members p q (x ∷ xs) e = λ i. e x (inl refl) i || any_members p q xs (λ y m. e y (inr m)) i

-- ---- one more key

module _ {X : Type 0} (k : ℕ) (x : X) where
  find-more : (es fs : List (ℕ × X)) → ((e : ℕ × X) → In es e → e.0 ≢ k) → (q : ℕ) → find nat_cmp q (es ++ (k, x) ∷ fs) ≡ cond (eq_by_cmp nat_cmp q k) (Some x) (find nat_cmp q (es ++ fs))
  find-more [] fs other q = refl
  find-more (e ∷ es) fs other q = elim (cases_Bool (eq_by_cmp nat_cmp q e.0)) [
    | inl on ↦
        let apart : q ≢ k = λ is. other e (inl refl) (sym (key_same q e.0 on) ∙ is) in
        ap (λ b. cond b (Some e.1) (find nat_cmp q (es ++ (k, x) ∷ fs))) on
        ∙ sym (ap (λ b. cond b (Some x) (find nat_cmp q (e ∷ (es ++ fs)))) (false_from_ne_true _ (λ same. apart (key_same q k same))) ∙ ap (λ b. cond b (Some e.1) (find nat_cmp q (es ++ fs))) on)
    | inr off ↦
        ap (λ b. cond b (Some e.1) (find nat_cmp q (es ++ (k, x) ∷ fs))) off ∙ find-more es fs (λ d m. other d (inr m)) q
        ∙ ap (cond (eq_by_cmp nat_cmp q k) (Some x)) (sym (ap (λ b. cond b (Some e.1) (find nat_cmp q (es ++ fs))) off))
  ]

  -- an entry among others whose key none before it has
  pub entries_more : (es fs : List (ℕ × X)) → ((e : ℕ × X) → In es e → e.0 ≢ k) → from_entries {R = nat_cmp} (es ++ (k, x) ∷ fs) ≡ insert (from_entries {R = nat_cmp} (es ++ fs)) k x
  entries_more es fs other = same_map nat_cmp_total nat_cmp-IsAntisymmetric (from_entries {R = nat_cmp} (es ++ (k, x) ∷ fs)) (insert (from_entries {R = nat_cmp} (es ++ fs)) k x) (λ q.
      get-from_entries nat_cmp_total (es ++ (k, x) ∷ fs) q ∙ find-more es fs other q
      ∙ ap (cond (eq_by_cmp nat_cmp q k) (Some x)) (sym (get-from_entries nat_cmp_total (es ++ fs) q))
      ∙ sym (get-insert nat_cmp_total (from_entries {R = nat_cmp} (es ++ fs)) k x q))

any-more : (p : ℕ → Bool) (ks qs : List ℕ) (k : ℕ) → list_any p (ks ++ k ∷ qs) ≡ (p k || list_any p (ks ++ qs))
any-more p [] qs k = refl
any-more p (j ∷ ks) qs k = ap (λ b. p j || b) (any-more p ks qs k) ∙ swap (p j) (p k) (list_any p (ks ++ qs))
  where
    swap : (a b c : Bool) → (a || (b || c)) ≡ (b || (a || c))
    swap true true c = refl
    swap true false c = refl
    swap false b c = refl

-- a member among others
pub members_more : (ks qs : List ℕ) (k : ℕ) → sets.from_list {R = nat_cmp} (ks ++ k ∷ qs) ≡ sets.insert (sets.from_list {R = nat_cmp} (ks ++ qs)) k
members_more ks qs k = sets.same_set nat_cmp_total nat_cmp-IsAntisymmetric (sets.from_list {R = nat_cmp} (ks ++ k ∷ qs)) (sets.insert (sets.from_list {R = nat_cmp} (ks ++ qs)) k) (λ q.
    sets.contains-from_list nat_cmp_total (ks ++ k ∷ qs) q ∙ any-more (eq_by_cmp nat_cmp q) ks qs k
    ∙ ap (λ b. eq_by_cmp nat_cmp q k || b) (sym (sets.contains-from_list nat_cmp_total (ks ++ qs) q))
    ∙ sym (sets.contains-insert nat_cmp_total (sets.from_list {R = nat_cmp} (ks ++ qs)) k q))

-- ---- the starts that pass a test

-- the values of the starts that pass
abbrev pub table : {X : Type 0} → (ℕ → Bool) → (ℕ → X) → List ℕ → FinMap nat_cmp X
table p f ts = from_entries (map (λ t. (t, f t)) (filter p ts))

module _ {X : Type 0} (p : ℕ → Bool) (f : ℕ → X) (ts : List ℕ) where
  pub get-passing : (k : ℕ) → In ts k → p k ≡ true → get (table p f ts) k ≡ Some (f k)
  get-passing k m on = get-at (λ t. t) f k (filter p ts) (λ t n e. ap f (sym e)) (in_filter p ts k m on)

  pub get-failing : (k : ℕ) → p k ≡ false → get (table p f ts) k ≡ None
  get-failing k off = none (get (table p f ts) k) refl
    where
      none : (o : Option X) → get (table p f ts) k ≡ o → o ≡ None
      none None e = refl
      none (Some v) e =
          let r = get-member (λ t. t) f k (filter p ts) v e in
          absurd (false≢true (sym off ∙ ap p (sym r.2) ∙ (filter_in p ts r.0 r.1).1))

-- one start more passes, and the others have the value that they had
pub passing_more : {X : Type 0} (p q : ℕ → Bool) (f g : ℕ → X) (ts us : List ℕ) (s : ℕ) (x : X) → ((t : ℕ) → p t ≡ true → In ts t) → ((t : ℕ) → q t ≡ true → In us t)
    → q s ≡ true → g s ≡ x → ((t : ℕ) → t ≢ s → q t ≡ p t) → ((t : ℕ) → t ≢ s → p t ≡ true → g t ≡ f t)
    → table q g us ≡ insert (table p f ts) s x
passing_more p q f g ts us s x in_ts in_us here is others same = same_map nat_cmp_total nat_cmp-IsAntisymmetric (table q g us) (insert (table p f ts) s x) (λ k. at k ∙ sym (get-insert nat_cmp_total (table p f ts) s x k))
  where
    at : (k : ℕ) → get (table q g us) k ≡ cond (eq_by_cmp nat_cmp k s) (Some x) (get (table p f ts) k)
    at k = elim (cases_eq k s) [
      | inl e ↦
          get-passing q g us k (in_us k (ap q e ∙ here)) (ap q e ∙ here) ∙ ap (λ t. Some (g t)) e ∙ ap (λ y. Some y) is
          ∙ sym (ap (λ b. cond b (Some x) (get (table p f ts) k)) (same_key k s e))
      | inr n ↦ elim (cases_Bool (p k)) [
        | inl on ↦
            get-passing q g us k (in_us k (others k n ∙ on)) (others k n ∙ on) ∙ ap (λ y. Some y) (same k n on) ∙ sym (get-passing p f ts k (in_ts k on) on)
            ∙ sym (ap (λ b. cond b (Some x) (get (table p f ts) k)) (false_from_ne_true _ (λ e. n (key_same k s e))))
        | inr off ↦
            get-failing q g us k (others k n ∙ off) ∙ sym (get-failing p f ts k off)
            ∙ sym (ap (λ b. cond b (Some x) (get (table p f ts) k)) (false_from_ne_true _ (λ e. n (key_same k s e))))
      ]
    ]
