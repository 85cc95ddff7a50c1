-- Which chunks stand in a tree in order.
use Rattle.std.proofs.Common.{◌≡◌, ◌≢◌, ℕ, zero, suc, ◌+◌, ◌^◌, ◌<◌, ◌≤◌, ◌⊎◌, List, [], ◌∷◌, ◌++◌, length, get_or, refl, arith, subst, sym, ap, inl, inr}
use Rattle.std.proofs.Common.{Option, None, Some, MatchOption}
use Rattle.std.specs.List.{Contains}
use Rattle.std.proofs.lemmas.List.Elements.{Contains-append_left, Contains-append_right, Contains-append_cases, Contains-get_or}
use Rattle.free_lists.specs.Runs.{IsFree}
use Rattle.free_lists.specs.Trees.{Tree, Leaf, Branch, runs_in, IsWithin, key_of, left_of, IsTree, IsApartFrom, IsTop, NoneFrom, IsFirst, IsLargest}
use Rattle.free_lists.specs.declared.tree.Node.{Node}
use Rattle.free_lists.proofs.Covers.{cover-branch, covers-inside}
use Rattle.free_lists.proofs.Trees.{top_within, top_runs}

contains_one : (y x : ℕ × ℕ) → Contains (y ∷ []) x → y ≡ x
contains_one y x (zero, lt, e) = e
contains_one y x (suc k, lt, e) = absurd (omega arith)

pub contains_cons : (y : ℕ × ℕ) (ys : List (ℕ × ℕ)) (x : ℕ × ℕ) → Contains (y ∷ ys) x → (y ≡ x) ⊎ Contains ys x
contains_cons y ys x c = elim (Contains-append_cases (y ∷ []) ys x c) [ inl one ↦ inl (contains_one y x one) | inr rest ↦ inr rest ]

pub contains_first : (y : ℕ × ℕ) (ys : List (ℕ × ℕ)) → Contains (y ∷ ys) y
contains_first y ys = (0, omega arith, refl)

pub within_contains : (low high : ℕ) (t : Tree) (x : ℕ × ℕ) → IsWithin low high t → Contains (runs_in t) x → (low ≤ key_of x.0 x.1) × (key_of x.0 x.1 < high)
unfolding runs_in IsWithin
within_contains low high Leaf x w c = absurd (omega (arith, c.1))
within_contains low high (Branch l at size r) x w c =
    elim (Contains-append_cases (runs_in l) ((at, size) ∷ runs_in r) x c) [
      | inl left ↦ let h = within_contains low (key_of at size) l x w.2 left in (h.0, omega (arith, h.1, w.1))
      | inr right ↦ elim (contains_cons (at, size) (runs_in r) x right) [
        | inl e ↦ subst (λ (y : ℕ × ℕ). (low ≤ key_of y.0 y.1) × (key_of y.0 y.1 < high)) e (w.0, w.1)
        | inr rest ↦ let h = within_contains (key_of at size + 1) high r x w.3 rest in (omega (arith, h.0, w.0), h.1)
      ]
    ]

-- no room, no chunk
pub within_empty : (k : ℕ) (t : Tree) → IsWithin k k t → t ≡ Leaf
unfolding IsWithin
within_empty k Leaf w = refl
within_empty k (Branch l at size r) w = absurd (omega (arith, w.0, w.1))

-- one key, one chunk
pub within_one : (k : ℕ) (t : Tree) → IsWithin k (k + 1) t → (runs_in t ≡ []) ⊎ ((at : ℕ) × (size : ℕ) × (runs_in t ≡ (at, size) ∷ []) × (key_of at size ≡ k))
unfolding IsWithin runs_in
within_one k Leaf w = inl refl
within_one k (Branch l at size r) w =
    let here : key_of at size ≡ k = omega (arith, w.0, w.1) in
    let left : l ≡ Leaf = within_empty k l (subst (λ n. IsWithin k n l) here w.2) in
    let right : r ≡ Leaf = within_empty (k + 1) r (subst (λ n. IsWithin (n + 1) (k + 1) r) here w.3) in
    inr (at, size, rw (left, right) refl, here)

-- a chunk apart from those of the tree has a key of its own
pub within_strict : (words : List ℕ) (link : ℕ) (t : Tree) (at size high : ℕ) → length words ≤ 2 ^ 27 → IsFree words at size → IsTree words link t → IsApartFrom t at size
    → IsWithin (key_of at size) high t → IsWithin (key_of at size + 1) high t
unfolding IsWithin IsTree
within_strict words link Leaf at size high small free held apart w = w
within_strict words link (Branch l at' size' r) at size high small free held apart w =
    let inside = free.inside in
    let inside' = held.1.inside in
    let big = free.big in
    let big' = held.1.big in
    let other : key_of at size ≢ key_of at' size' = λ same.
    let there : at' ≡ at = omega arith in
    omega (arith, apart at, cover-branch l at' size' r at, covers-inside at at size (omega arith) (omega arith), covers-inside at at' size' (omega arith) (omega arith)) in
    (omega (arith, w.0), w.1, within_strict words (left_of words at') l at size (key_of at' size') small free held.3 (λ k. omega (arith, apart k, cover-branch l at' size' r k)) w.2, w.3)

-- ---- the first chunk from a key on

module _ (words : List ℕ) (t : Tree) (node : Node) (top : IsTop words t node) (low high : ℕ) (within : IsWithin low high t) where
  abbrev x₀ : ℕ × ℕ
  x₀ = (node.at, node.words)

  cases : (x : ℕ × ℕ) → Contains (runs_in t) x → Contains (runs_in top.l) x ⊎ (x₀ ≡ x) ⊎ Contains (runs_in top.r) x
  cases x c =
      let c' : Contains (runs_in top.l ++ x₀ ∷ runs_in top.r) x = subst (λ rs. Contains rs x) (top_runs words t node top) c in
      elim (Contains-append_cases (runs_in top.l) (x₀ ∷ runs_in top.r) x c') [
        | inl left ↦ inl left
        | inr right ↦ elim (contains_cons x₀ (runs_in top.r) x right) [ inl e ↦ inr (inl e) | inr rest ↦ inr (inr rest) ]
      ]

  from_left : (x : ℕ × ℕ) → Contains (runs_in top.l) x → Contains (runs_in t) x
  from_left x c = subst (λ rs. Contains rs x) (sym (top_runs words t node top)) (Contains-append_left (runs_in top.l) (x₀ ∷ runs_in top.r) x c)

  from_right : (x : ℕ × ℕ) → Contains (runs_in top.r) x → Contains (runs_in t) x
  from_right x c =
      subst (λ rs. Contains rs x) (sym (top_runs words t node top))
      (Contains-append_right (runs_in top.l) (x₀ ∷ runs_in top.r) x (Contains-append_right (x₀ ∷ []) (runs_in top.r) x c))

  here : Contains (runs_in t) x₀
  here = subst (λ rs. Contains rs x₀) (sym (top_runs words t node top)) (Contains-append_right (runs_in top.l) (x₀ ∷ runs_in top.r) x₀ (contains_first x₀ (runs_in top.r)))

  is_low : (x : ℕ × ℕ) → Contains (runs_in top.l) x → key_of x.0 x.1 < key_of node.at node.words
  is_low x c = (within_contains low (key_of node.at node.words) top.l x (top_within words t node top low high within).2 c).1

  is_high : (x : ℕ × ℕ) → Contains (runs_in top.r) x → key_of node.at node.words < key_of x.0 x.1
  is_high x c = omega (arith, (within_contains (key_of node.at node.words + 1) high top.r x (top_within words t node top low high within).3 c).0)

  at_top : (x : ℕ × ℕ) → x₀ ≡ x → key_of x.0 x.1 ≡ key_of node.at node.words
  at_top x e = ap (λ (y : ℕ × ℕ). key_of y.0 y.1) (sym e)

  module _ (key : ℕ) where
    pub none_right : key_of node.at node.words < key → NoneFrom top.r key → NoneFrom t key
    none_right below none x c = elim (cases x c) [
      | inl l ↦ omega (arith, is_low x l)
      | inr other ↦ elim other [ inl e ↦ omega (arith, at_top x e) | inr r ↦ none x r ]
    ]

    pub first_right : key_of node.at node.words < key → (f : ℕ × ℕ) → IsFirst top.r key f → IsFirst t key f
    first_right below f first = record {
      there = from_right f first.there;
      from = first.from;
      least = λ x c ge. elim (cases x c) [
        | inl l ↦ absurd (omega (arith, is_low x l))
        | inr other ↦ elim other [ inl e ↦ absurd (omega (arith, at_top x e)) | inr r ↦ first.least x r ge ]
      ];
    }

    pub first_left : key ≤ key_of node.at node.words → (f : ℕ × ℕ) → IsFirst top.l key f → IsFirst t key f
    first_left above f first = record {
      there = from_left f first.there;
      from = first.from;
      least = λ x c ge. elim (cases x c) [
        | inl l ↦ first.least x l ge
        | inr other ↦ elim other [ inl e ↦ omega (arith, at_top x e, is_low f first.there) | inr r ↦ omega (arith, is_high x r, is_low f first.there) ]
      ];
    }

    pub first_here : key ≤ key_of node.at node.words → NoneFrom top.l key → IsFirst t key x₀
    first_here above none = record {
      there = here;
      from = above;
      least = λ x c ge. elim (cases x c) [
        | inl l ↦ absurd (omega (arith, none x l))
        | inr other ↦ elim other [ inl e ↦ omega (arith, at_top x e) | inr r ↦ omega (arith, is_high x r) ]
      ];
    }

-- ---- the largest chunk

pub none_largest : (words : List ℕ) (link : ℕ) (t : Tree) → t ≡ Leaf → IsLargest t 0
unfolding runs_in
none_largest words link t leaf = subst (λ s. IsLargest s 0) (sym leaf) (record { most = λ x c. absurd (omega (arith, c.1)); there = λ lt. absurd (omega arith) })

-- greater keys, greater sizes
size_le : (at size at' size' : ℕ) → at < 2 ^ 27 → key_of at' size' ≤ key_of at size → size' ≤ size
size_le at size at' size' low le = omega arith

module _ (words : List ℕ) (t : Tree) (node : Node) (top : IsTop words t node) (low high : ℕ) (within : IsWithin low high t) (small : length words ≤ 2 ^ 27) where
  place : node.at < 2 ^ 27
  place = omega (arith, top.free.inside, top.free.big)

  pub largest_here : top.r ≡ Leaf → IsLargest t node.words
  unfolding runs_in
  largest_here leaf = record {
    most = λ x c. elim (cases words t node top low high within x c) [
      | inl l ↦ size_le node.at node.words x.0 x.1 place (omega (arith, is_low words t node top low high within x l))
      | inr other ↦ elim other [
        | inl e ↦ omega (arith, ap (λ (y : ℕ × ℕ). y.1) e)
        | inr r ↦ let none : Contains (runs_in Leaf) x = subst (λ s. Contains (runs_in s) x) leaf r in absurd (omega (arith, none.1))
      ]
    ];
    there = λ _. (node.at, here words t node top low high within);
  }

  pub largest_right : (size : ℕ) → IsLargest top.r size → 0 < length (runs_in top.r) → ((x : ℕ × ℕ) → Contains (runs_in top.r) x → (0 < x.1) × (x.0 < 2 ^ 27)) → IsLargest t size
  largest_right size largest some bounds =
      let first : Contains (runs_in top.r) (get_or (runs_in top.r) 0 (0, 0)) = Contains-get_or (runs_in top.r) 0 (0, 0) some in
      let positive : 0 < size = omega (arith, largest.most _ first, (bounds _ first).0) in
      let found = largest.there positive in
      let bound = (bounds (found.0, size) found.1).1 in
      let above = is_high words t node top low high within (found.0, size) found.1 in
      record {
        most = λ x c. elim (cases words t node top low high within x c) [
          | inl l ↦ size_le found.0 size x.0 x.1 bound (omega (arith, above, is_low words t node top low high within x l))
          | inr other ↦ elim other [
            | inl e ↦ size_le found.0 size x.0 x.1 bound (omega (arith, above, at_top words t node top low high within x e))
            | inr r ↦ largest.most x r
          ]
        ];
        there = λ lt. (found.0, from_right words t node top low high within (found.0, size) found.1);
      }

pub none_of_leaf : (t : Tree) (key : ℕ) → t ≡ Leaf → NoneFrom t key
unfolding runs_in
none_of_leaf t key leaf = subst (λ s. NoneFrom s key) (sym leaf) (λ x c. absurd (omega (arith, c.1)))

pub first_more : (words : List ℕ) (t : Tree) (node : Node) (top : IsTop words t node) (low high : ℕ) (within : IsWithin low high t) (key : ℕ) → key_of node.at node.words < key
    → (r : Option (ℕ × ℕ)) → MatchOption r (NoneFrom top.r key) (IsFirst top.r key) → MatchOption r (NoneFrom t key) (IsFirst t key)
first_more words t node top low high within key below None none = none_right words t node top low high within key below none
first_more words t node top low high within key below (Some f) first = first_right words t node top low high within key below f first
