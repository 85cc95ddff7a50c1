-- What a search of the lists and of the tree finds.
use Rattle.std.proofs.Common.{◌≡◌, ◌≢◌, ℕ, suc, ◌+◌, ◌-◌, ◌/◌, ◌%◌, ◌^◌, ◌<◌, ◌≤◌, ◌⊎◌, List, [], ◌∷◌, ◌++◌, length, get_or, refl, arith, subst, sym, ap, ◌∙◌, inl, inr, Option, None, Some, MatchOption, IfSome, w64}
use Rattle.std.specs.List.{Contains}
use Rattle.std.specs.Int.{bit_at, leading_zeros}
use Rattle.std.proofs.lemmas.List.Elements.{Contains-append_cases, Contains-get_or}
use Rattle.std.proofs.lemmas.List.Sorted.{Contains-permutation}
use Rattle.std.proofs.lemmas.Bool.{cases_eq, cases_lt}
use Rattle.std.proofs.lemmas.Nat.{leading_top, pow_pos, div_below, le-div}
use Rattle.std.proofs.lemmas.Nat.Bits.{bit_at_above}
use Rattle.free_lists.specs.Trees.{Leaf, runs_in, key_of, NoneFrom, IsFirst, IsLargest}
use Rattle.free_lists.specs.Lists.{Lists, IsChain, of_size, next_of, AllBelow, IsSmallest, IsNextSize, IsFirstOfSize, NoneFits, IsFitting, IsGreatest, HaveBits}
use Rattle.free_lists.specs.declared.lists.FreeLists.{FreeLists}
use Rattle.free_lists.proofs.Free.{tree_free, some_runs}
use Rattle.free_lists.proofs.Trees.{is_leaf}
use Rattle.free_lists.proofs.Ordered.{contains_first}
use Rattle.free_lists.proofs.Chains.{of_size-from, of_size-to}
use Rattle.free_lists.proofs.Given.{small_among, large_among}
use Rattle.free_lists.proofs.Bits.{bit_of-zero, bit_of-one}

-- a list that has a chunk, from its first
pub record HasFirst (words : List ℕ) (rs : List (ℕ × ℕ)) (at : ℕ) : Type 0 where
  pub size : ℕ
  pub rest : List (ℕ × ℕ)
  pub is : rs ≡ (at, size) ∷ rest
  pub tail : IsChain words (next_of words at) rest

pub has_first : (words : List ℕ) (link at : ℕ) (rs : List (ℕ × ℕ)) → IsChain words link rs → link ≡ at + 1 → HasFirst words rs at
unfolding IsChain
has_first words link at [] h e = absurd (omega arith)
has_first words link at (r ∷ rs) h e =
    let here : r.0 ≡ at = omega (arith, h.0) in
    record { size = r.1; rest = rs; is = ap (λ n. (n, r.1) ∷ rs) here; tail = subst (λ n. IsChain words (next_of words n) rs) here h.1 }

chain_none : (words : List ℕ) (link : ℕ) (rs : List (ℕ × ℕ)) → IsChain words link rs → link ≡ 0 → rs ≡ []
unfolding IsChain
chain_none words link [] h e = refl
chain_none words link (r ∷ rs) h e = absurd (omega (arith, h.0))

module _ (words : List ℕ) (free : FreeLists) (runs : List (ℕ × ℕ)) (l : Lists words free runs) where
  pub runs_cases : (x : ℕ × ℕ) → Contains runs x → Contains l.smalls x ⊎ Contains (runs_in l.tree) x
  runs_cases x c = Contains-append_cases l.smalls (runs_in l.tree) x (Contains-permutation runs (l.smalls ++ runs_in l.tree) x l.all c)

  pub is_large : (x : ℕ × ℕ) → Contains (runs_in l.tree) x → 64 ≤ x.1
  is_large x c = (tree_free words free.root l.tree l.held.tree x c).1

  -- the first chunk of a list has its size
  pub first_size : (size at : ℕ) → size < 64 → (f : HasFirst words (of_size size l.smalls) at) → f.size ≡ size
  first_size size at lt f = (of_size-from size l.smalls (at, f.size) (subst (λ ys. Contains ys (at, f.size)) (sym f.is) (contains_first (at, f.size) f.rest))).1

  pub first_there : (size at : ℕ) → size < 64 → get_or free.heads size 0 ≡ at + 1 → Contains runs (at, size)
  first_there size at lt e =
      let f = has_first words (get_or free.heads size 0) at (of_size size l.smalls) (l.chains size lt) e in
      let there : Contains (of_size size l.smalls) (at, f.size) = subst (λ ys. Contains ys (at, f.size)) (sym f.is) (contains_first (at, f.size) f.rest) in
      let among = of_size-from size l.smalls (at, f.size) there in
      small_among words free runs l (at, size) (subst (λ n. Contains l.smalls (at, n)) among.1 among.0)

  pub none_there : (x : ℕ × ℕ) → x.1 < 64 → get_or free.heads x.1 0 ≡ 0 → Contains runs x → ⊥
  none_there x lt e c = elim (runs_cases x c) [
    | inl s ↦
        let none = chain_none words (get_or free.heads x.1 0) (of_size x.1 l.smalls) (l.chains x.1 lt) e in
        let there : Contains {X = ℕ × ℕ} [] x = subst (λ ys. Contains ys x) none (of_size-to l.smalls x s) in
        absurd (omega (arith, there.1))
    | inr t ↦ absurd (omega (arith, is_large x t))
  ]

  pub small_found : (n : ℕ) (f : ℕ × ℕ) → IsNextSize free n f.1 → get_or free.heads f.1 0 ≡ f.0 + 1 → IsSmallest runs n f
  small_found n f next e = record {
    there = first_there f.1 f.0 next.within e;
    enough = next.least;
    least = λ x c ge. elim (cases_lt x.1 f.1) [
      | inr le ↦ le
      | inl lt ↦ absurd (none_there x (omega (arith, next.within)) (next.before x.1 ge lt) c)
    ];
  }

  -- the size is in no list
  module _ (n : ℕ) (none : (k : ℕ) → n ≤ k → k < 64 → get_or free.heads k 0 ≡ 0) where
    small_below : (x : ℕ × ℕ) → Contains l.smalls x → x.1 < n
    small_below x c = elim (cases_lt x.1 n) [
      | inl lt ↦ lt
      | inr ge ↦ absurd (none_there x (l.small x c) (none x.1 ge (l.small x c)) (small_among words free runs l x c))
    ]

    pub large_found : (r : Option (ℕ × ℕ)) → MatchOption r (AllBelow (runs_in l.tree) n) (IsSmallest (runs_in l.tree) n) → MatchOption r (AllBelow runs n) (IsSmallest runs n)
    large_found None below = λ x c. elim (runs_cases x c) [ inl s ↦ small_below x s | inr t ↦ below x t ]
    large_found (Some f) least = record {
      there = large_among words free runs l f least.there;
      enough = least.enough;
      least = λ x c ge. elim (runs_cases x c) [ inl s ↦ absurd (omega (arith, small_below x s)) | inr t ↦ least.least x t ge ];
    }

  pub large_enough : (n : ℕ) → length words ≤ 2 ^ 27 → (r : Option (ℕ × ℕ)) → MatchOption r (AllBelow (runs_in l.tree) n) (IsSmallest (runs_in l.tree) n) → IfSome r (λ f. (n ≤ f.1) × (f.1 ≤ 2 ^ 27))
  large_enough n small None below = tt
  large_enough n small (Some f) least = (least.enough, omega (arith, (tree_free words free.root l.tree l.held.tree f least.there).0.inside))

  pub large_first : (n : ℕ) (r : Option (ℕ × ℕ)) → MatchOption r (AllBelow (runs_in l.tree) n) (IsSmallest (runs_in l.tree) n) → IfSome r (IsFirstOfSize free)
  large_first n None below = tt
  large_first n (Some f) least = λ lt. absurd (omega (arith, is_large f least.there))

  -- the tree is searched by a key
  module _ (n : ℕ) (small : length words ≤ 2 ^ 27) where
    place : (x : ℕ × ℕ) → Contains (runs_in l.tree) x → x.0 < 2 ^ 27
    place x c = let f = tree_free words free.root l.tree l.held.tree x c in omega (arith, f.0.inside, f.0.big)

    pub by_key : (r : Option (ℕ × ℕ)) → MatchOption r (NoneFrom l.tree (key_of 0 n)) (IsFirst l.tree (key_of 0 n)) → MatchOption r (AllBelow (runs_in l.tree) n) (IsSmallest (runs_in l.tree) n)
    by_key None none = λ x c. omega (arith, none x c)
    by_key (Some f) first = record {
      there = first.there;
      enough = omega (arith, first.from, place f first.there);
      least = λ x c ge. omega (arith, first.least x c (omega arith), place x c);
    }

    pub too_large : 2 ^ 27 < n → AllBelow (runs_in l.tree) n
    too_large lt x c = omega (arith, (tree_free words free.root l.tree l.held.tree x c).0.inside)

  -- the largest
  pub greatest_large : (size : ℕ) → free.root ≢ 0 → IsLargest l.tree size → IsGreatest runs size
  greatest_large size some largest =
      let first = Contains-get_or (runs_in l.tree) 0 (0, 0) (some_runs words free.root l.tree l.held.tree some) in
      let big : 64 ≤ size = omega (arith, is_large _ first, largest.most _ first) in
      record {
        most = λ x c. elim (runs_cases x c) [ inl s ↦ omega (arith, l.small x s) | inr t ↦ largest.most x t ];
        there = λ lt. let f = largest.there lt in (f.0, large_among words free runs l (f.0, size) f.1);
      }

  pub greatest_small : (size : ℕ) → free.root ≡ 0 → ((k : ℕ) → size < k → k < 64 → get_or free.heads k 0 ≡ 0)
      → (0 < size → (size < 64) × (get_or free.heads size 0 ≢ 0)) → IsGreatest runs size
  unfolding runs_in
  greatest_small size none above here = record {
    most = λ x c. elim (runs_cases x c) [
      | inl s ↦ elim (cases_lt size x.1) [ inl lt ↦ absurd (none_there x (l.small x s) (above x.1 lt (l.small x s)) c) | inr le ↦ le ]
      | inr t ↦ let no : Contains (runs_in Leaf) x = subst (λ u. Contains (runs_in u) x) (is_leaf words free.root l.tree l.held.tree none) t in absurd (omega (arith, no.1))
    ];
    there = λ lt.
        let h = here lt in
        let at : ℕ = get_or free.heads size 0 - 1 in
        let link : get_or free.heads size 0 ≡ at + 1 = omega (arith, h.1) in
        (at, first_there size at h.0 link);
  }

-- ---- which chunk serves

pub none_fits : (runs : List (ℕ × ℕ)) (n : ℕ) → AllBelow runs n → NoneFits runs n
none_fits runs n below x c fits = elim fits [ inl e ↦ omega (arith, below x c) | inr ge ↦ omega (arith, below x c) ]

pub fits_found : (runs : List (ℕ × ℕ)) (n : ℕ) (f : ℕ × ℕ) → IsSmallest runs n f → n ≤ f.1 → f.1 - n ≢ 1 → IsFitting runs n f
fits_found runs n f least ge ne = record {
  there = least.there;
  fits = elim (cases_eq f.1 n) [ inl e ↦ inl e | inr other ↦ inr (omega arith) ];
  least = λ x c fits. least.least x c (elim fits [ inl e ↦ omega arith | inr more ↦ omega arith ]);
}

-- a chunk of one word more does not serve, and there is none of just as many
pub fits_next : (runs : List (ℕ × ℕ)) (n : ℕ) (f : ℕ × ℕ) → IsSmallest runs n f → n ≤ f.1 → f.1 - n ≡ 1 → (r : Option (ℕ × ℕ))
    → MatchOption r (AllBelow runs (f.1 + 1)) (IsSmallest runs (f.1 + 1)) → MatchOption r (NoneFits runs n) (IsFitting runs n)
fits_next runs n f least ge one None below = λ x c fits. elim fits [
  | inl e ↦ omega (arith, least.least x c (omega arith))
  | inr more ↦ omega (arith, below x c)
]
fits_next runs n f least ge one (Some g) next = record {
  there = next.there;
  fits = inr (omega (arith, next.enough));
  least = λ x c fits. elim fits [
    | inl e ↦ absurd (omega (arith, least.least x c (omega arith)))
    | inr more ↦ next.least x c (omega arith)
  ];
}

-- ---- the greatest size that has a list

top_bit : (n j : ℕ) → 2 ^ j ≤ n → n < 2 ^ suc j → bit_at n j ≡ 1
top_bit n j ge lt =
    let pos : 0 < 2 ^ j = pow_pos j in
    let low = div_below n (2 ^ j) 2 pos (omega arith) in
    let high = le-div 1 n (2 ^ j) pos (omega arith) in
    let one : n / 2 ^ j ≡ 1 = omega arith in
    ap (λ q. q % 2) one

module _ (free : FreeLists) (have : HaveBits free) where
  module _ (some : free.sizes ≢ 0) (small : free.sizes < 2 ^ 64) where
    pub last_above : (k : ℕ) → 63 - leading_zeros w64 free.sizes < k → k < 64 → get_or free.heads k 0 ≡ 0
    last_above k lt below =
        let top = leading_top 64 free.sizes (omega (arith, some)) small in
        bit_of-zero _ (sym (have k below) ∙ bit_at_above free.sizes (suc top.0) k top.3 (omega (arith, top.1)))

    pub last_here : (63 - leading_zeros w64 free.sizes < 64) × (get_or free.heads (63 - leading_zeros w64 free.sizes) 0 ≢ 0)
    last_here =
        let top = leading_top 64 free.sizes (omega (arith, some)) small in
        let place : 63 - leading_zeros w64 free.sizes ≡ top.0 = omega (arith, top.1) in
        let lt : 63 - leading_zeros w64 free.sizes < 64 = omega arith in
        let one : bit_at free.sizes top.0 ≡ 1 = top_bit free.sizes top.0 top.2 top.3 in
        (lt, bit_of-one _ (sym (have _ lt) ∙ ap (bit_at free.sizes) place ∙ one))
