-- The sizes of free chunks in ascending order: which of them serves a need, and what they are once it is served.
use Rattle.std.proofs.Common.{◌≡◌, ◌≢◌, ◌⊎◌, ℕ, Bool, true, false, cond, ◌+◌, ◌-◌, ◌<◌, ◌≤◌, ltb, List, [], ◌∷◌, ◌++◌, refl, sym, ap, ◌∙◌, subst, inl, inr, arith, Some, None}
use Rattle.std.proofs.lemmas.Bool.{false≢true, cases_Bool, cases_eq, cases_lt, le-leb, lt-leb, lt-ltb, le-ltb, eq-eqb, ne_eqb}
use Rattle.std.specs.List.{find}
use Rattle.spur_graph.specs.FreeSizes.{among, ascending, without, shortened}
use Rattle.heap_cells.proofs.Members.{In}

pub among-front : (n m : ℕ) (xs : List ℕ) → n ≤ m → among n (m ∷ xs) ≡ n ∷ m ∷ xs
unfolding among
among-front n m xs l = ap (λ b. cond b (n ∷ m ∷ xs) (m ∷ among n xs)) (le-leb n m l)

pub among-behind : (n m : ℕ) (xs : List ℕ) → m < n → among n (m ∷ xs) ≡ m ∷ among n xs
unfolding among
among-behind n m xs l = ap (λ b. cond b (n ∷ m ∷ xs) (m ∷ among n xs)) (lt-leb n m l)

pub among-last : (n : ℕ) → among n [] ≡ n ∷ []
unfolding among
among-last n = refl

-- ---- sizes are put among others in either order

among-less : (a b : ℕ) (xs : List ℕ) → a < b → among a (among b xs) ≡ among b (among a xs)
among-less a b [] l =
    ap (among a) (among-last b) ∙ among-front a b [] (omega arith) ∙ ap (λ ys. a ∷ ys) (sym (among-last b)) ∙ sym (among-behind b a [] l) ∙ ap (among b) (sym (among-last a))
among-less a b (m ∷ xs) l = elim (cases_lt m b) [
  | inr high ↦
      ap (among a) (among-front b m xs high) ∙ among-front a b (m ∷ xs) (omega arith) ∙ ap (λ ys. a ∷ ys) (sym (among-front b m xs high))
      ∙ sym (among-behind b a (m ∷ xs) l) ∙ ap (among b) (sym (among-front a m xs (omega arith)))
  | inl low ↦ elim (cases_lt m a) [
    | inr mid ↦
        ap (among a) (among-behind b m xs low) ∙ among-front a m (among b xs) mid ∙ ap (λ ys. a ∷ ys) (sym (among-behind b m xs low))
        ∙ sym (among-behind b a (m ∷ xs) l) ∙ ap (among b) (sym (among-front a m xs mid))
    | inl less ↦
        ap (among a) (among-behind b m xs low) ∙ among-behind a m (among b xs) less ∙ ap (λ ys. m ∷ ys) (among-less a b xs l)
        ∙ sym (among-behind b m (among a xs) low) ∙ ap (among b) (sym (among-behind a m xs less))
  ]
]

among-swap : (a b : ℕ) (xs : List ℕ) → among a (among b xs) ≡ among b (among a xs)
among-swap a b xs = elim (cases_lt a b) [
  | inl l ↦ among-less a b xs l
  | inr ge ↦ elim (cases_eq a b) [
    | inl e ↦ subst (λ c. among a (among c xs) ≡ among c (among a xs)) e refl
    | inr n ↦ sym (among-less b a xs (omega (arith, ge, n)))
  ]
]

-- a size among others, wherever it stood
ascending-more : (xs ys : List ℕ) (n : ℕ) → ascending (xs ++ n ∷ ys) ≡ among n (ascending (xs ++ ys))
unfolding ascending
ascending-more [] ys n = refl
ascending-more (x ∷ xs) ys n = ap (among x) (ascending-more xs ys n) ∙ among-swap x n (ascending (xs ++ ys))

-- and taken out again
without-among : (n : ℕ) (xs : List ℕ) → without n (among n xs) ≡ xs
unfolding without
without-among n [] = ap (without n) (among-last n) ∙ ap (λ b. cond b [] (n ∷ [])) (eq-eqb n n refl)
without-among n (m ∷ xs) = elim (cases_lt m n) [
  | inr ge ↦ ap (without n) (among-front n m xs ge) ∙ ap (λ b. cond b (m ∷ xs) (n ∷ without n (m ∷ xs))) (eq-eqb n n refl)
  | inl lt ↦
      let other : m ≢ n = λ e. omega (arith, lt, e) in
      ap (without n) (among-behind n m xs lt) ∙ ap (λ b. cond b (among n xs) (m ∷ without n (among n xs))) (ne_eqb m n other) ∙ ap (λ ys. m ∷ ys) (without-among n xs)
]

-- the sizes once a chunk among them is shortened
pub served_sizes : (n size : ℕ) (xs ys : List ℕ) → shortened n size (ascending (xs ++ size ∷ ys)) ≡ ascending (xs ++ (cond (ltb n size) ((size - n) ∷ []) [] ++ ys))
served_sizes n size xs ys =
    (λ i. cond (ltb n size) (among (size - n) (gone i)) (gone i)) ∙ left (ltb n size)
  where
    gone : without size (ascending (xs ++ size ∷ ys)) ≡ ascending (xs ++ ys)
    gone = ap (without size) (ascending-more xs ys size) ∙ without-among size (ascending (xs ++ ys))

    left : (b : Bool) → cond b (among (size - n) (ascending (xs ++ ys))) (ascending (xs ++ ys)) ≡ ascending (xs ++ (cond b ((size - n) ∷ []) [] ++ ys))
    left true = sym (ascending-more xs ys (size - n))
    left false = refl

-- a need after another leaves a rest where both together do
pub cut_twice : (a b size : ℕ) → a < size → ltb b (size - a) ≡ ltb (a + b) size
cut_twice a b size low = elim (cases_lt b (size - a)) [
  | inl l ↦ lt-ltb b (size - a) l ∙ sym (lt-ltb (a + b) size (omega (arith, l, low)))
  | inr ge ↦ le-ltb b (size - a) ge ∙ sym (le-ltb (a + b) size (omega (arith, ge, low)))
]

-- and a chunk that is shortened twice is shortened by both
pub shortened_twice : (a b size : ℕ) (sizes : List ℕ) → a < size → shortened b (size - a) (shortened a size sizes) ≡ shortened (a + b) size sizes
shortened_twice a b size sizes low =
    let gone : List ℕ = without size sizes in
    let rest : size - a - b ≡ size - (a + b) = omega (arith) in
    ap (shortened b (size - a)) (ap (λ x. cond x (among (size - a) gone) gone) (lt-ltb a size low))
    ∙ (λ i. cond (ltb b (size - a)) (among (size - a - b) (without-among (size - a) gone i)) (without-among (size - a) gone i))
    ∙ (λ i. cond (cut_twice a b size low i) (among (rest i) gone) gone)

-- ---- the least that passes a test is the first

abbrev pub Ascends : List ℕ → Type 0
Ascends [] = Unit {0}
Ascends (x ∷ xs) = ((y : ℕ) → In xs y → x ≤ y) × Ascends xs

in_among : (n : ℕ) (xs : List ℕ) (y : ℕ) → In (among n xs) y → (n ≡ y) ⊎ In xs y
in_among n [] y k = subst (λ ys. In ys y) (among-last n) k
in_among n (m ∷ xs) y k = elim (cases_lt m n) [
  | inr ge ↦ subst (λ ys. In ys y) (among-front n m xs ge) k
  | inl lt ↦ elim (subst (λ ys. In ys y) (among-behind n m xs lt) k) [
    | inl e ↦ inr (inl e)
    | inr there ↦ elim (in_among n xs y there) [ inl e ↦ inl e | inr m ↦ inr (inr m) ]
  ]
]

among_in : (n : ℕ) (xs : List ℕ) (y : ℕ) → (n ≡ y) ⊎ In xs y → In (among n xs) y
among_in n [] y k = subst (λ ys. In ys y) (sym (among-last n)) k
among_in n (m ∷ xs) y k = elim (cases_lt m n) [
  | inr ge ↦ subst (λ ys. In ys y) (sym (among-front n m xs ge)) k
  | inl lt ↦ subst (λ ys. In ys y) (sym (among-behind n m xs lt)) (elim k [
    | inl e ↦ inr (among_in n xs y (inl e))
    | inr there ↦ elim there [ inl e ↦ inl e | inr later ↦ inr (among_in n xs y (inr later)) ]
  ])
]

ascends_among : (n : ℕ) (xs : List ℕ) → Ascends xs → Ascends (among n xs)
ascends_among n [] up = subst Ascends (sym (among-last n)) (λ y k. absurd k, tt)
ascends_among n (m ∷ xs) up = elim (cases_lt m n) [
  | inr ge ↦ subst Ascends (sym (among-front n m xs ge)) (λ y k. elim k [ inl e ↦ omega (arith, ge, e) | inr there ↦ omega (arith, ge, up.0 y there) ], up)
  | inl lt ↦ subst Ascends (sym (among-behind n m xs lt)) (λ y k. elim (in_among n xs y k) [ inl e ↦ omega (arith, lt, e) | inr there ↦ up.0 y there ], ascends_among n xs up.1)
]

pub ascending_ascends : (xs : List ℕ) → Ascends (ascending xs)
unfolding ascending
ascending_ascends [] = tt
ascending_ascends (x ∷ xs) = ascends_among x (ascending xs) (ascending_ascends xs)

pub in_ascending : (xs : List ℕ) (y : ℕ) → In (ascending xs) y → In xs y
unfolding ascending
in_ascending [] y k = k
in_ascending (x ∷ xs) y k = elim (in_among x (ascending xs) y k) [ inl e ↦ inl e | inr there ↦ inr (in_ascending xs y there) ]

ascending_in : (xs : List ℕ) (y : ℕ) → In xs y → In (ascending xs) y
unfolding ascending
ascending_in [] y k = k
ascending_in (x ∷ xs) y k = among_in x (ascending xs) y (elim k [ inl e ↦ inl e | inr there ↦ inr (ascending_in xs y there) ])

first_found : (p : ℕ → Bool) (zs : List ℕ) (m : ℕ) → Ascends zs → In zs m → p m ≡ true → ((z : ℕ) → In zs z → p z ≡ true → m ≤ z) → find p zs ≡ Some m
first_found p [] m up there on least = absurd there
first_found p (z ∷ zs) m up there on least = elim (cases_Bool (p z)) [
  | inl passes ↦
      let low : m ≤ z = least z (inl refl) passes in
      let high : z ≤ m = elim there [ inl e ↦ omega (arith, e) | inr later ↦ up.0 m later ] in
      let same : z ≡ m = omega (arith, low, high) in
      ap (λ b. cond b (Some z) (find p zs)) passes ∙ ap (λ x. Some x) same
  | inr fails ↦
      ap (λ b. cond b (Some z) (find p zs)) fails
      ∙ first_found p zs m up.1 (elim there [ inl e ↦ absurd (false≢true (sym fails ∙ ap p e ∙ on)) | inr later ↦ later ]) on (λ y k. least y (inr k))
]

none_found : (p : ℕ → Bool) (zs : List ℕ) → ((z : ℕ) → In zs z → p z ≡ false) → find p zs ≡ None
none_found p [] off = refl
none_found p (z ∷ zs) off = ap (λ b. cond b (Some z) (find p zs)) (off z (inl refl)) ∙ none_found p zs (λ y k. off y (inr k))

-- the least of the sizes that pass a test
pub least_found : (p : ℕ → Bool) (xs : List ℕ) (m : ℕ) → In xs m → p m ≡ true → ((x : ℕ) → In xs x → p x ≡ true → m ≤ x) → find p (ascending xs) ≡ Some m
least_found p xs m there on least = first_found p (ascending xs) m (ascending_ascends xs) (ascending_in xs m there) on (λ z k. least z (in_ascending xs z k))

-- no size passes it
pub no_size_found : (p : ℕ → Bool) (xs : List ℕ) → ((x : ℕ) → In xs x → p x ≡ false) → find p (ascending xs) ≡ None
no_size_found p xs off = none_found p (ascending xs) (λ z k. off z (in_ascending xs z k))
