-- A list after `swap_remove`, read by index.
use Rattle.std.proofs.Common.{◌≡◌, ◌≢◌, ◌<◌, ℕ, ◌+◌, ◌-◌, List, length, map, take, slice_index_or, slice_set, swap_remove, sym, ap, ◌∙◌, inl, inr, arith}
use Rattle.std.proofs.lemmas.List.{ext_get_or, get_or_default, get_or-map, get_or-set_same, get_or-set_other, get_or-take, length-map, length-set, length-take-le}
use Rattle.std.proofs.lemmas.Bool.{cases_eq}

module _ {X : Type 0} (xs : List X) (n : ℕ) (d : X) where
  pub length-swap_remove : n < length xs → length (swap_remove xs n d) + 1 ≡ length xs
  length-swap_remove l =
      let put : List X = slice_set xs n (slice_index_or xs (length xs - 1) d) in
      let same : length put ≡ length xs = length-set xs n (slice_index_or xs (length xs - 1) d) in
      let cut : length (take (length xs - 1) put) ≡ length xs - 1 = length-take-le (length xs - 1) put (omega arith) in
      omega arith

  -- the last stands where one went
  pub swap_remove-there : (e : X) → n + 1 < length xs → slice_index_or (swap_remove xs n d) n e ≡ slice_index_or xs (length xs - 1) e
  swap_remove-there e l =
      let last : X = slice_index_or xs (length xs - 1) d in
      get_or-take (length xs - 1) (slice_set xs n last) n e (omega arith) ∙ get_or-set_same xs n last e (omega arith) ∙ get_or_default xs (length xs - 1) d e (omega arith)

  -- and the others stay
  pub swap_remove-other : (m : ℕ) (e : X) → m + 1 < length xs → m ≢ n → slice_index_or (swap_remove xs n d) m e ≡ slice_index_or xs m e
  swap_remove-other m e l ne =
      let last : X = slice_index_or xs (length xs - 1) d in
      get_or-take (length xs - 1) (slice_set xs n last) m e (omega arith) ∙ get_or-set_other xs n m last e ne

-- each element is one that stood before, at another index than n
pub record StoodAt {X : Type 0} (xs ys : List X) (n m : ℕ) : Type 0 where
  pub before : ℕ
  pub below : before < length xs
  pub other : before ≢ n
  pub same : (e : X) → slice_index_or ys m e ≡ slice_index_or xs before e
  pub moved : m ≡ n → before ≡ length xs - 1
  pub kept : m ≢ n → before ≡ m

pub stood_at : {X : Type 0} (xs : List X) (n : ℕ) (d : X) → n < length xs → (m : ℕ) → m + 1 < length xs → StoodAt xs (swap_remove xs n d) n m
stood_at xs n d l m k = elim (cases_eq m n) [
  | inl e ↦ record {
    before = length xs - 1;
    below = omega arith;
    other = omega arith;
    same = λ x. ap (λ (i : ℕ). slice_index_or (swap_remove xs n d) i x) e ∙ swap_remove-there xs n d x (omega arith);
    moved = λ z. omega arith;
    kept = λ z. absurd (z e);
  }
  | inr ne ↦ record {
    before = m;
    below = omega arith;
    other = ne;
    same = λ x. swap_remove-other xs n d m x k ne;
    moved = λ z. absurd (ne z);
    kept = λ z. omega arith;
  }
]

pub map-swap_remove : {X Y : Type 0} (f : X → Y) (xs : List X) (n : ℕ) (d : X) (e : Y) → n < length xs → map f (swap_remove xs n d) ≡ swap_remove (map f xs) n e
map-swap_remove {X} {Y} f xs n d e l =
    let long : length (map f xs) ≡ length xs = length-map xs f in
    let first : length (swap_remove xs n d) + 1 ≡ length xs = length-swap_remove xs n d l in
    let second : length (swap_remove (map f xs) n e) + 1 ≡ length (map f xs) = length-swap_remove (map f xs) n e (omega arith) in
    let mapped : length (map f (swap_remove xs n d)) ≡ length (swap_remove xs n d) = length-map (swap_remove xs n d) f in
    ext_get_or e (map f (swap_remove xs n d)) (swap_remove (map f xs) n e) (omega arith) (λ m k.
    let s : StoodAt xs (swap_remove xs n d) n m = stood_at xs n d l m (omega arith) in
    let t : StoodAt (map f xs) (swap_remove (map f xs) n e) n m = stood_at (map f xs) n e (omega arith) m (omega arith) in
    let one : s.before ≡ t.before = elim (cases_eq m n) [
      | inl z ↦ let a : s.before ≡ length xs - 1 = s.moved z in let b : t.before ≡ length (map f xs) - 1 = t.moved z in omega arith
      | inr z ↦ s.kept z ∙ sym (t.kept z)
    ] in
    let below : s.before < length xs = s.below in
    get_or-map f (swap_remove xs n d) m d e (omega arith) ∙ ap f (s.same d) ∙ sym (get_or-map f xs s.before d e below) ∙ ap (λ (i : ℕ). slice_index_or (map f xs) i e) one ∙ sym (t.same e))

-- an element that stood at another index than n stands there or in the place of n
pub record StandsAt {X : Type 0} (xs ys : List X) (j : ℕ) : Type 0 where
  pub after : ℕ
  pub within : after + 1 < length xs
  pub same : (e : X) → slice_index_or ys after e ≡ slice_index_or xs j e

pub stands_at : {X : Type 0} (xs : List X) (n : ℕ) (d : X) → n < length xs → (j : ℕ) → j < length xs → j ≢ n → StandsAt xs (swap_remove xs n d) j
stands_at xs n d l j k ne = elim (cases_eq (j + 1) (length xs)) [
  | inl z ↦ record {
    after = n;
    within = omega arith;
    same = λ e. swap_remove-there xs n d e (omega arith) ∙ ap (λ (i : ℕ). slice_index_or xs i e) (let is : length xs - 1 ≡ j = omega arith in is);
  }
  | inr z ↦ record { after = j; within = omega arith; same = λ e. swap_remove-other xs n d j e (omega arith) ne }
]

-- what f tells apart stays apart
pub apart-swap_remove : {X Y : Type 0} (f : X → Y) (xs : List X) (n : ℕ) (d e : X) → n < length xs
    → ((a b : ℕ) → a < length xs → b < length xs → f (slice_index_or xs a e) ≡ f (slice_index_or xs b e) → a ≡ b)
    → (a b : ℕ) → a < length (swap_remove xs n d) → b < length (swap_remove xs n d) → f (slice_index_or (swap_remove xs n d) a e) ≡ f (slice_index_or (swap_remove xs n d) b e) → a ≡ b
apart-swap_remove {X} f xs n d e l apart a b j k is =
    let left : List X = swap_remove xs n d in
    let count : length left + 1 ≡ length xs = length-swap_remove xs n d l in
    let s : StoodAt xs left n a = stood_at xs n d l a (omega arith) in
    let t : StoodAt xs left n b = stood_at xs n d l b (omega arith) in
    let one : s.before ≡ t.before = apart s.before t.before s.below t.below (sym (ap f (s.same e)) ∙ is ∙ ap f (t.same e)) in
    elim (cases_eq a n) [
      | inl p ↦ elim (cases_eq b n) [
        | inl q ↦ p ∙ sym q
        | inr q ↦ let u : s.before ≡ length xs - 1 = s.moved p in let v : t.before ≡ b = t.kept q in omega arith
      ]
      | inr p ↦ let u : s.before ≡ a = s.kept p in elim (cases_eq b n) [
        | inl q ↦ let v : t.before ≡ length xs - 1 = t.moved q in omega arith
        | inr q ↦ let v : t.before ≡ b = t.kept q in omega arith
      ]
    ]
