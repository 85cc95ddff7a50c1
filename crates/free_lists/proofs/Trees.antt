-- The words of a tree of free chunks: its top, and what a write keeps.
use Rattle.std.proofs.Common.{◌≡◌, ◌≢◌, ℕ, ◌+◌, ◌<◌, ◌≤◌, List, ◌∷◌, ◌++◌, length, refl, arith, subst, sym, ap, ◌∙◌, length-append}
use Rattle.free_lists.specs.Runs.{IsFree, covers, cover}
use Rattle.free_lists.specs.Trees.{Tree, Leaf, Branch, runs_in, IsWithin, left_of, right_of, IsTree, HoldsTree, IsTop}
use Rattle.free_lists.specs.declared.tree.Node.{Node}
use Rattle.free_lists.specs.Trees.{key_of}
use Rattle.free_lists.proofs.Covers.{cover-branch}

pub record HasTop (words : List ℕ) (link : ℕ) (t : Tree) : Type 0 where
  pub l : Tree
  pub at : ℕ
  pub size : ℕ
  pub r : Tree
  pub is : t ≡ Branch l at size r
  pub link_is : link ≡ at + 1
  pub free : IsFree words at size
  pub large : 64 ≤ size
  pub left : IsTree words (left_of words at) l
  pub right : IsTree words (right_of words at) r

pub has_top : (words : List ℕ) (link : ℕ) (t : Tree) → IsTree words link t → link ≢ 0 → HasTop words link t
unfolding IsTree
has_top words link Leaf h ne = absurd (ne h)
has_top words link (Branch l at size r) h ne =
    record { l = l; at = at; size = size; r = r; is = refl; link_is = h.0; free = h.1; large = h.2; left = h.3; right = h.4 }

-- a chunk that a link names is long enough for its links
pub top_room : (words : List ℕ) (link : ℕ) (t : Tree) → IsTree words link t → link ≢ 0 → (0 < link) × (link + 63 ≤ length words)
top_room words link t h ne =
    let top = has_top words link t h ne in
    (omega (arith, top.link_is), omega (arith, top.link_is, top.free.inside, top.large))

-- what is read of a chunk in the tree
pub top_is : (words : List ℕ) (link : ℕ) (t : Tree) → IsTree words link t → link ≢ 0 → (node : Node) → link ≡ node.at + 1
    → ((size : ℕ) → IsFree words node.at size → node.words ≡ size) → node.left ≡ left_of words node.at → node.right ≡ right_of words node.at → IsTop words t node
unfolding IsTree
top_is words link Leaf h ne node link_is size_is left_is right_is = absurd (ne h)
top_is words link (Branch l at size r) h ne node link_is size_is left_is right_is =
    let here : at ≡ node.at = omega (arith, h.0, link_is) in
    let free : IsFree words node.at size = subst (λ a. IsFree words a size) here h.1 in
    let long : size ≡ node.words = sym (size_is size free) in
    record {
      l = l;
      r = r;
      is = cc;
      free = subst (λ n. IsFree words node.at n) long free;
      large = omega (arith, h.2, long);
      left_is = left_is;
      right_is = right_is;
      left = subst (λ x. IsTree words x l) (ap (left_of words) here ∙ sym left_is) h.3;
      right = subst (λ x. IsTree words x r) (ap (right_of words) here ∙ sym right_is) h.4;
    }

pub is_leaf : (words : List ℕ) (link : ℕ) (t : Tree) → IsTree words link t → link ≡ 0 → t ≡ Leaf
unfolding IsTree
is_leaf words link Leaf h none = refl
is_leaf words link (Branch l at size r) h none = absurd (omega (arith, h.0))

-- bounds may be given away
pub within_more : (low high low' high' : ℕ) (t : Tree) → low' ≤ low → high ≤ high' → IsWithin low high t → IsWithin low' high' t
unfolding IsWithin
within_more low high low' high' Leaf le ge w = w
within_more low high low' high' (Branch l at size r) le ge w = (
  omega (arith, w.0),
  omega (arith, w.1),
  within_more low (key_of at size) low' (key_of at size) l le (omega arith) w.2,
  within_more (key_of at size + 1) high (key_of at size + 1) high' r (omega arith) ge w.3,
)

-- a tree by its top
module _ (words : List ℕ) (t : Tree) (node : Node) (top : IsTop words t node) where
  pub top_cover : (k : ℕ) → cover (runs_in t) k ≡ cover (runs_in top.l) k + covers k (node.at, node.words) + cover (runs_in top.r) k
  top_cover k = ap (λ s. cover (runs_in s) k) top.is ∙ cover-branch top.l node.at node.words top.r k

  pub top_runs : runs_in t ≡ runs_in top.l ++ (node.at, node.words) ∷ runs_in top.r
  unfolding runs_in
  top_runs = ap runs_in top.is

  pub top_length : length (runs_in t) ≡ length (runs_in top.l) + 1 + length (runs_in top.r)
  top_length = ap length top_runs ∙ length-append (runs_in top.l) ((node.at, node.words) ∷ runs_in top.r) ∙ omega arith

  pub top_within : (low high : ℕ) → IsWithin low high t
      → (low ≤ key_of node.at node.words) × (key_of node.at node.words < high) × IsWithin low (key_of node.at node.words) top.l × IsWithin (key_of node.at node.words + 1) high top.r
  unfolding IsWithin
  top_within low high w = subst (λ s. IsWithin low high s) top.is w

  pub left_held : (link : ℕ) → HoldsTree words link t → HoldsTree words node.left top.l
  left_held link held = record { tree = top.left; apart = λ k. omega (arith, held.apart k, top_cover k) }

  pub right_held : (link : ℕ) → HoldsTree words link t → HoldsTree words node.right top.r
  right_held link held = record { tree = top.right; apart = λ k. omega (arith, held.apart k, top_cover k) }
