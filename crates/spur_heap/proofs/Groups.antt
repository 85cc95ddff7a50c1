-- The groups that entries of the table of mourners make.
use Rattle.std.proofs.Common.{◌≡◌, ◌≢◌, ◌+◌, ◌%◌, ◌^◌, ℕ, Bool, true, false, not, nat_eq, List, [], ◌∷◌, ◌++◌, map, length, refl, sym, ap, ◌∙◌, arith, inl, inr}
use Rattle.std.proofs.lemmas.Bool.{cases_Bool, le-leb, eq-eqb, ne_eqb}
use Rattle.std.proofs.lemmas.List.{map_push}
use Rattle.std.specs.List.{All, AllByRecursion, filter}
use Rattle.std.proofs.lemmas.List.Elements.{All-from_recursion}
use Rattle.spur_graph.specs.Collections.{without_first}
use Rattle.spur_graph.specs.Heaps.{waiting_in}
use Rattle.heap_cells.proofs.Members.{In}
use Rattle.spur_heap.specs.Tables.{Parted, begins, start_in, parted}
use Rattle.spur_heap.specs.Mourning.{added, extended, with_group, popped}

-- ---- one entry in front

begun : (e : ℕ) (es : List ℕ) → begins e ≡ true → parted (e ∷ es) ≡ record { front = []; groups = (start_in e ∷ (parted es).front) ∷ (parted es).groups }
unfolding parted
begun e es on = rw on refl

joined : (e : ℕ) (es : List ℕ) → begins e ≡ false → parted (e ∷ es) ≡ record { front = start_in e ∷ (parted es).front; groups = (parted es).groups }
unfolding parted
joined e es off = rw off refl

-- ---- who waits

waiting_parted : (es : List ℕ) → (parted es).front ++ waiting_in (parted es).groups ≡ map start_in es
unfolding parted
waiting_parted [] = refl
waiting_parted (e ∷ es) = elim (cases_Bool (begins e)) [
  | inl on ↦ ap (λ (p : Parted). p.front ++ waiting_in p.groups) (begun e es on) ∙ ap (λ ts. start_in e ∷ ts) (waiting_parted es)
  | inr off ↦ ap (λ (p : Parted). p.front ++ waiting_in p.groups) (joined e es off) ∙ ap (λ ts. start_in e ∷ ts) (waiting_parted es)
]

-- where the first entry begins a group, those of all entries wait
pub waiting_are : (es : List ℕ) → (parted es).front ≡ [] → waiting_in (parted es).groups ≡ map start_in es
waiting_are es none = sym (ap (λ ts. ts ++ waiting_in (parted es).groups) none) ∙ waiting_parted es

some_parted : (es : List ℕ) → AllByRecursion (λ (group : List ℕ). group ≢ []) (parted es).groups
unfolding parted
some_parted [] = tt
some_parted (e ∷ es) = elim (cases_Bool (begins e)) [
  | inl on ↦ rw on ((λ e. absurd cc), some_parted es)
  | inr off ↦ rw off (some_parted es)
]

-- no group is empty
pub groups_some : (es : List ℕ) → All (λ (group : List ℕ). group ≢ []) (parted es).groups
groups_some es = All-from_recursion (λ (group : List ℕ). group ≢ []) (parted es).groups (some_parted es)

-- ---- one entry behind

-- a group of its own
parted_group : (es : List ℕ) (e : ℕ) → begins e ≡ true → parted (es ++ e ∷ []) ≡ record { front = (parted es).front; groups = (parted es).groups ++ (start_in e ∷ []) ∷ [] }
unfolding parted
parted_group [] e on = rw on refl
parted_group (d ∷ es) e on = elim (cases_Bool (begins d)) [
  | inl first ↦ rw (first, parted_group es e on) refl
  | inr later ↦ rw (later, parted_group es e on) refl
]

-- in the last group, and in front where there is none
abbrev with_last : List ℕ → List (List ℕ) → ℕ → Parted
with_last front [] a = record { front = front ++ a ∷ []; groups = [] }
with_last front (group ∷ groups) a = record { front = front; groups = extended (group ∷ groups) a }

begin_last : (s a : ℕ) (front : List ℕ) (groups : List (List ℕ))
    → record { front = []; groups = (s ∷ (with_last front groups a).front) ∷ (with_last front groups a).groups } ≡ with_last [] ((s ∷ front) ∷ groups) a
unfolding extended
begin_last s a front [] = refl
begin_last s a front (group ∷ groups) = refl

join_last : (s a : ℕ) (front : List ℕ) (groups : List (List ℕ))
    → record { front = s ∷ (with_last front groups a).front; groups = (with_last front groups a).groups } ≡ with_last (s ∷ front) groups a
unfolding extended
join_last s a front [] = refl
join_last s a front (group ∷ groups) = refl

parted_last : (es : List ℕ) (e : ℕ) → begins e ≡ false → parted (es ++ e ∷ []) ≡ with_last (parted es).front (parted es).groups (start_in e)
unfolding parted
parted_last [] e off = rw off refl
parted_last (d ∷ es) e off = elim (cases_Bool (begins d)) [
  | inl first ↦ rw (first, parted_last es e off) (begin_last (start_in d) (start_in e) (parted es).front (parted es).groups)
  | inr later ↦ rw (later, parted_last es e off) (join_last (start_in d) (start_in e) (parted es).front (parted es).groups)
]

parted_extended : (es : List ℕ) (e : ℕ) → begins e ≡ false → (parted es).groups ≢ [] → parted (es ++ e ∷ []) ≡ record { front = (parted es).front; groups = extended (parted es).groups (start_in e) }
parted_extended es e off some = parted_last es e off ∙ go (parted es).front (parted es).groups some
  where
    go : (front : List ℕ) (groups : List (List ℕ)) → groups ≢ [] → with_last front groups (start_in e) ≡ record { front = front; groups = extended groups (start_in e) }
    go front [] some = absurd (some refl)
    go front (group ∷ groups) some = refl

-- groups with a mourner more, under other names
extended_named : (f : ℕ → ℕ) (groups : List (List ℕ)) (a : ℕ) → map (map f) (extended groups a) ≡ extended (map (map f) groups) (f a)
unfolding extended
extended_named f [] a = refl
extended_named f (group ∷ []) a = ap (λ g. g ∷ []) (map_push f group a)
extended_named f (group ∷ other ∷ groups) a = ap (λ gs. map f group ∷ gs) (extended_named f (other ∷ groups) a)

pub added_named : (f : ℕ → ℕ) (groups : List (List ℕ)) (a : ℕ) (first : Bool) → map (map f) (added groups a first) ≡ added (map (map f) groups) (f a) first
added_named f groups a true = map_push (map f) groups (a ∷ [])
added_named f groups a false = extended_named f groups a

-- the same of entries
pub parted_added : (es : List ℕ) (e : ℕ) (first : Bool) → begins e ≡ first → (first ≡ false → (parted es).groups ≢ []) → parted (es ++ e ∷ []) ≡ record { front = (parted es).front; groups = added (parted es).groups (start_in e) first }
parted_added es e true on some = parted_group es e on
parted_added es e false off some = parted_extended es e off (some refl)

-- ---- one entry less in front

start_regrouped : (e : ℕ) → start_in (e % 2 ^ 31 + 2 ^ 31) ≡ start_in e
start_regrouped e = omega arith

begins_regrouped : (e : ℕ) → begins (e % 2 ^ 31 + 2 ^ 31) ≡ true
begins_regrouped e = le-leb (2 ^ 31) (e % 2 ^ 31 + 2 ^ 31) (omega arith)

pub starts_regrouped : (es : List ℕ) → map start_in (with_group es) ≡ map start_in es
starts_regrouped [] = refl
starts_regrouped (e ∷ es) = ap (λ s. s ∷ map start_in es) (start_regrouped e)

-- an entry behind which no start stands in front of the first group begins one
pub first_begins : (e : ℕ) (es : List ℕ) → (parted (e ∷ es)).front ≡ [] → begins e ≡ true
first_begins e es none = elim (cases_Bool (begins e)) [
  | inl on ↦ on
  | inr off ↦ let some : (parted (e ∷ es)).front ≡ start_in e ∷ (parted es).front = ap (λ (p : Parted). p.front) (joined e es off) in absurd cc
]

-- the group of the first entry
pub first_group : (e : ℕ) (es : List ℕ) → begins e ≡ true → (parted (e ∷ es)).groups ≡ (start_in e ∷ (parted es).front) ∷ (parted es).groups
first_group e es on = ap (λ (p : Parted). p.groups) (begun e es on)

pub parted_popped : (e : ℕ) (es : List ℕ) → begins e ≡ true → parted (with_group es) ≡ record { front = []; groups = popped (parted (e ∷ es)).groups }
unfolding parted
parted_popped e [] on = rw on refl
parted_popped e (f ∷ fs) on =
    let one : parted (with_group (f ∷ fs)) ≡ record { front = []; groups = (start_in f ∷ (parted fs).front) ∷ (parted fs).groups } =
    begun (f % 2 ^ 31 + 2 ^ 31) fs (begins_regrouped f) ∙ ap (λ s. let p : Parted = record { front = []; groups = (s ∷ (parted fs).front) ∷ (parted fs).groups } in p) (start_regrouped f) in
    let all : (parted (e ∷ f ∷ fs)).groups ≡ (start_in e ∷ (parted (f ∷ fs)).front) ∷ (parted (f ∷ fs)).groups = first_group e (f ∷ fs) on in
    let rest : popped ((start_in e ∷ (parted (f ∷ fs)).front) ∷ (parted (f ∷ fs)).groups) ≡ (start_in f ∷ (parted fs).front) ∷ (parted fs).groups = elim (cases_Bool (begins f)) [
      | inl first ↦ ap (λ (p : Parted). popped ((start_in e ∷ p.front) ∷ p.groups)) (begun f fs first)
      | inr later ↦ ap (λ (p : Parted). popped ((start_in e ∷ p.front) ∷ p.groups)) (joined f fs later)
    ] in
    one ∙ ap (λ gs. let p : Parted = record { front = []; groups = gs } in p) (sym (ap popped all ∙ rest))

-- groups with a mourner less, under other names
pub popped_named : (f : ℕ → ℕ) (groups : List (List ℕ)) → map (map f) (popped groups) ≡ popped (map (map f) groups)
popped_named f [] = refl
popped_named f ([] ∷ groups) = refl
popped_named f ((a ∷ []) ∷ groups) = refl
popped_named f ((a ∷ b ∷ group) ∷ groups) = refl

others_stay : (a : ℕ) (xs : List ℕ) → ((x : ℕ) → In xs x → a ≢ x) → filter (λ b. not (nat_eq a b)) xs ≡ xs
others_stay a [] other = refl
others_stay a (x ∷ xs) other = rw (ne_eqb a x (other x (inl refl))) (ap (λ ys. x ∷ ys) (others_stay a xs (λ y m. other y (inr m))))

-- where none stands twice, what is taken away is the first one
pub popped_first : (a : ℕ) (xs : List ℕ) (groups : List (List ℕ)) → ((x : ℕ) → In xs x → a ≢ x) → popped ((a ∷ xs) ∷ groups) ≡ without_first a (a ∷ xs) groups
popped_first a [] groups other = refl
popped_first a (x ∷ xs) groups other =
    let more : nat_eq (length (a ∷ x ∷ xs)) 1 ≡ false = ne_eqb _ _ (λ e. omega (arith, e)) in
    rw (more, eq-eqb a a refl) (ap (λ ys. ys ∷ groups) (sym (others_stay a (x ∷ xs) other)))
