-- Membership by recursion on the list, for inductions on a row.
use Rattle.std.proofs.Common.{◌≡◌, ◌⊎◌, ℕ, suc, zero, Bool, true, cond, ◌+◌, ◌<◌, ◌≤◌, List, [], ◌∷◌, ◌++◌, length, get_or, refl, sym, ap, ◌∙◌, subst, inl, inr, arith}
use Rattle.std.proofs.lemmas.Bool.{false≢true, cases_Bool, cases_eq}
use Rattle.std.specs.List.{Contains, filter, range_with_len}
use Rattle.object_header.specs.Chunks.{Chunk}
use Rattle.heap_cells.specs.Rows.{starts_of}

abbrev pub In : {X : Type 0} → List X → X → Type 0
In [] x = ⊥
In (y ∷ ys) x = (y ≡ x) ⊎ In ys x

pub in_at : {X : Type 0} → (xs : List X) (x : X) (k : ℕ) → k < length xs → get_or xs k x ≡ x → In xs x
in_at [] x k l e = absurd (omega arith)
in_at (y ∷ ys) x zero l e = inl e
in_at (y ∷ ys) x (suc k) l e = inr (in_at ys x k (omega arith) e)

pub in_list : {X : Type 0} → (xs : List X) (x : X) → Contains xs x → In xs x
in_list xs x k = in_at xs x k.0 k.1 k.2

pub listed : {X : Type 0} → (xs : List X) (x : X) → In xs x → Contains xs x
listed [] x k = absurd k
listed (y ∷ ys) x k = elim k [
  | inl e ↦ (0, omega arith, e)
  | inr m ↦ let r = listed ys x m in (suc r.0, omega (arith, r.1), r.2)
]

-- each start is that of a chunk
pub chunk_of_start : (cs : List Chunk) (s : ℕ) → In (starts_of cs) s → (c : Chunk) × In cs c × (c.start ≡ s)
chunk_of_start [] s k = absurd k
chunk_of_start (c ∷ cs) s k = elim k [
  | inl e ↦ (c, inl refl, e)
  | inr m ↦ let r = chunk_of_start cs s m in (r.0, inr r.1, r.2)
]

pub start_of_chunk : (cs : List Chunk) (c : Chunk) → In cs c → In (starts_of cs) c.start
start_of_chunk [] c k = absurd k
start_of_chunk (d ∷ cs) c k = elim k [
  | inl e ↦ inl (ap (λ (x : Chunk). x.start) e)
  | inr m ↦ inr (start_of_chunk cs c m)
]

pub in_either : {X : Type 0} → (xs ys : List X) (x : X) → In (xs ++ ys) x → In xs x ⊎ In ys x
in_either [] ys x k = inr k
in_either (y ∷ xs) ys x k = elim k [
  | inl e ↦ inl (inl e)
  | inr m ↦ elim (in_either xs ys x m) [ inl a ↦ inl (inr a) | inr b ↦ inr b ]
]

pub in_left : {X : Type 0} → (xs ys : List X) (x : X) → In xs x → In (xs ++ ys) x
in_left [] ys x k = absurd k
in_left (y ∷ xs) ys x k = elim k [ inl e ↦ inl e | inr m ↦ inr (in_left xs ys x m) ]

pub in_right : {X : Type 0} → (xs ys : List X) (x : X) → In ys x → In (xs ++ ys) x
in_right [] ys x k = k
in_right (y ∷ xs) ys x k = inr (in_right xs ys x k)

-- the starts of the front of a row
pub start-front : (xs ys : List Chunk) (j : ℕ) → j < length xs → get_or (starts_of (xs ++ ys)) j 0 ≡ get_or (starts_of xs) j 0
start-front [] ys j l = absurd (omega arith)
start-front (x ∷ xs) ys zero l = refl
start-front (x ∷ xs) ys (suc j) l = start-front xs ys j (omega arith)

-- what a filter keeps
pub in_filter : {X : Type 0} → (p : X → Bool) (xs : List X) (x : X) → In xs x → p x ≡ true → In (filter p xs) x
in_filter p [] x k e = absurd k
in_filter p (y ∷ ys) x k e = elim (cases_Bool (p y)) [
  | inl on ↦ subst (λ b. In (cond b (y ∷ filter p ys) (filter p ys)) x) (sym on) (elim k [ inl same ↦ inl same | inr m ↦ inr (in_filter p ys x m e) ])
  | inr off ↦ subst (λ b. In (cond b (y ∷ filter p ys) (filter p ys)) x) (sym off) (elim k [
    | inl same ↦ absurd (false≢true (sym off ∙ ap p same ∙ e))
    | inr m ↦ in_filter p ys x m e
  ])
]

pub filter_in : {X : Type 0} → (p : X → Bool) (xs : List X) (x : X) → In (filter p xs) x → In xs x × (p x ≡ true)
filter_in p [] x k = absurd k
filter_in p (y ∷ ys) x k = elim (cases_Bool (p y)) [
  | inl on ↦ elim (subst (λ b. In (cond b (y ∷ filter p ys) (filter p ys)) x) on k) [
    | inl same ↦ (inl same, sym (ap p same) ∙ on)
    | inr m ↦ let r = filter_in p ys x m in (inr r.0, r.1)
  ]
  | inr off ↦ let r = filter_in p ys x (subst (λ b. In (cond b (y ∷ filter p ys) (filter p ys)) x) off k) in (inr r.0, r.1)
]

pub in_range : (a n i : ℕ) → a ≤ i → i < a + n → In (range_with_len a n) i
in_range a zero i l m = absurd (omega arith)
in_range a (suc n) i l m = elim (cases_eq a i) [
  | inl same ↦ inl same
  | inr other ↦ inr (in_range (a + 1) n i (omega arith) (omega arith))
]
