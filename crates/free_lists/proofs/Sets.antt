-- The free chunks as a set.
use Rattle.std.proofs.Common.{◌≡◌, ℕ, ◌≤◌, List, [], ◌∷◌, ◌++◌, arith, subst, sym, inl, inr}
use Rattle.std.specs.List.{Contains, remove}
use Rattle.std.specs.List.Sorted.{IsPermutation}
use Rattle.std.proofs.lemmas.List.Elements.{Contains-append_right}
use Rattle.std.proofs.lemmas.List.Sorted.{IsPermutation-refl, IsPermutation-cons, IsPermutation-trans, IsPermutation-sym, IsPermutation-remove, IsPermutation-append_right, Contains-permutation, sum_by-IsPermutation}
use Rattle.free_lists.specs.Runs.{covers, cover}
use Rattle.free_lists.specs.Lists.{Lists, TakesOut, Shortens, ShortensAny, TakesOutAny, rest_of}
use Rattle.free_lists.specs.declared.lists.FreeLists.{FreeLists}
use Rattle.free_lists.proofs.Covers.{covers-inside, cover-cons}
use Rattle.free_lists.proofs.Ordered.{contains_first, contains_cons}
use Rattle.free_lists.proofs.Chains.{cover-contains}
use Rattle.free_lists.proofs.Given.{lists_permuted}

-- two lists have the same runs
pub record SameRuns (runs runs' : List (ℕ × ℕ)) : Type 0 where
  pub to : (x : ℕ × ℕ) → Contains runs x → Contains runs' x
  pub from : (x : ℕ × ℕ) → Contains runs' x → Contains runs x

-- a run does not share its own words
once : (x : ℕ × ℕ) (rs : List (ℕ × ℕ)) → 1 ≤ x.1 → cover (x ∷ rs) x.0 ≤ 1 → Contains rs x → ⊥
once x rs some le c = omega (arith, cover-cons x rs x.0, covers-inside x.0 x.0 x.1 (omega arith) (omega arith), cover-contains rs x x.0 c (omega arith) (omega arith))

cover-permuted : (xs ys : List (ℕ × ℕ)) → IsPermutation xs ys → (k : ℕ) → cover ys k ≡ cover xs k
cover-permuted xs ys p k = sum_by-IsPermutation (covers k) xs ys p

-- two lists without repetition that have the same runs
pub same_permutation : (xs ys : List (ℕ × ℕ)) → ((x : ℕ × ℕ) → Contains xs x → 1 ≤ x.1) → ((k : ℕ) → cover xs k ≤ 1) → ((k : ℕ) → cover ys k ≤ 1) → SameRuns xs ys → IsPermutation xs ys
same_permutation [] [] some apart apart' same = IsPermutation-refl []
same_permutation [] (y ∷ ys) some apart apart' same = let none = same.from y (contains_first y ys) in absurd (omega (arith, none.1))
same_permutation (x ∷ xs) ys some apart apart' same =
    let here : Contains ys x = same.to x (contains_first x xs) in
    let zs : List (ℕ × ℕ) = remove ys here.0 in
    let moved : IsPermutation ys (x ∷ zs) = IsPermutation-remove ys here.0 x here.1 (sym here.2) in
    let big : 1 ≤ x.1 = some x (contains_first x xs) in
    let zs_apart : (k : ℕ) → cover (x ∷ zs) k ≤ 1 = λ k. omega (arith, apart' k, cover-permuted ys (x ∷ zs) moved k) in
    let rest : IsPermutation xs zs =
    same_permutation xs zs (λ y c. some y (Contains-append_right (x ∷ []) xs y c)) (λ k. omega (arith, apart k, cover-cons x xs k)) (λ k. omega (arith, zs_apart k, cover-cons x zs k))
    (record {
      to = λ y c. elim (contains_cons x zs y (Contains-permutation ys (x ∷ zs) y moved (same.to y (Contains-append_right (x ∷ []) xs y c)))) [
        | inl e ↦ absurd (once x xs big (apart x.0) (subst (λ (z : ℕ × ℕ). Contains xs z) (sym e) c))
        | inr there ↦ there
      ];
      from = λ y c. elim (contains_cons x xs y (same.from y (Contains-permutation (x ∷ zs) ys y (IsPermutation-sym ys (x ∷ zs) moved) (Contains-append_right (x ∷ []) zs y c)))) [
        | inl e ↦ absurd (once x zs big (zs_apart x.0) (subst (λ (z : ℕ × ℕ). Contains zs z) (sym e) c))
        | inr there ↦ there
      ];
    }) in
    IsPermutation-trans (x ∷ xs) (x ∷ zs) ys (IsPermutation-cons x xs zs rest) (IsPermutation-sym ys (x ∷ zs) moved)

-- any list that has each run of another once stands for the same free chunks
pub lists_set : (words : List ℕ) (free : FreeLists) (runs runs' : List (ℕ × ℕ)) → Lists words free runs → ((k : ℕ) → cover runs' k ≤ 1) → SameRuns runs runs' → Lists words free runs'
lists_set words free runs runs' l apart same =
    let some : (x : ℕ × ℕ) → Contains runs x → 1 ≤ x.1 = λ x c. omega (arith, (l.chunks x c).big) in
    lists_permuted words free runs runs' (IsPermutation-sym runs runs' (same_permutation runs runs' some l.apart apart same)) l

-- ---- the others are the same, whichever list of them is taken

module _ (runs others others' : List (ℕ × ℕ)) (x : ℕ × ℕ) (some : (y : ℕ × ℕ) → Contains runs y → 1 ≤ y.1) (apart : (k : ℕ) → cover runs k ≤ 1) where
  others_to : IsPermutation runs (x ∷ others) → IsPermutation runs (x ∷ others') → (y : ℕ × ℕ) → Contains others y → Contains others' y
  others_to p q y c =
      let among : Contains runs y = Contains-permutation (x ∷ others) runs y (IsPermutation-sym runs (x ∷ others) p) (Contains-append_right (x ∷ []) others y c) in
      let big : 1 ≤ x.1 = some x (Contains-permutation (x ∷ others) runs x (IsPermutation-sym runs (x ∷ others) p) (contains_first x others)) in
      elim (contains_cons x others' y (Contains-permutation runs (x ∷ others') y q among)) [
        | inl e ↦ absurd (once x others big (omega (arith, apart x.0, cover-permuted runs (x ∷ others) p x.0)) (subst (λ (z : ℕ × ℕ). Contains others z) (sym e) c))
        | inr there ↦ there
      ]

pub others_same : (runs others others' : List (ℕ × ℕ)) (x : ℕ × ℕ) → ((y : ℕ × ℕ) → Contains runs y → 1 ≤ y.1) → ((k : ℕ) → cover runs k ≤ 1)
    → IsPermutation runs (x ∷ others) → IsPermutation runs (x ∷ others') → IsPermutation others others'
others_same runs others others' x some apart p q =
    same_permutation others others'
    (λ y c. some y (Contains-permutation (x ∷ others) runs y (IsPermutation-sym runs (x ∷ others) p) (Contains-append_right (x ∷ []) others y c)))
    (λ k. omega (arith, apart k, cover-permuted runs (x ∷ others) p k, cover-cons x others k))
    (λ k. omega (arith, apart k, cover-permuted runs (x ∷ others') q k, cover-cons x others' k))
    (record { to = others_to runs others others' x some apart p q; from = others_to runs others' others x some apart q p })

module _ (old new : List ℕ) (free free' : FreeLists) (runs : List (ℕ × ℕ)) (at size : ℕ) (l : Lists old free runs) where
  some : (y : ℕ × ℕ) → Contains runs y → 1 ≤ y.1
  some y c = omega (arith, (l.chunks y c).big)

  pub out_any : TakesOut new free' runs at size → TakesOutAny new free' runs at size
  out_any t others p = lists_permuted new free' t.others others (others_same runs others t.others (at, size) some l.apart p t.from) t.lists

  pub cut_any : (n : ℕ) → Shortens new free' runs at size n → ShortensAny new free' runs at size n
  cut_any n t others p =
      lists_permuted new free' (rest_of at size n ++ t.others) (rest_of at size n ++ others)
      (IsPermutation-append_right (rest_of at size n) others t.others (others_same runs others t.others (at, size) some l.apart p t.from)) t.lists
