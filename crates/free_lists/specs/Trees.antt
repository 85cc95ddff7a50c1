-- The tree of the large free chunks, and how the words hold it.
use Rattle.std.specs.Prelude.{ℕ, ◌≡◌, ◌+◌, ◌*◌, ◌^◌, ◌<◌, ◌≤◌, List, [], ◌∷◌, ◌++◌, slice_index}
use Rattle.std.specs.List.{Contains}
use Rattle.free_lists.specs.Runs.{IsFree, covers, cover}
use Rattle.free_lists.specs.declared.tree.Node.{Node}

-- a search tree of runs: left of a run stand those that are before it
pub data Tree : Type 0 where
  Leaf : Tree
  Branch : Tree → ℕ → ℕ → Tree → Tree

-- its runs, from left to right
unfoldable pub runs_in : Tree → List (ℕ × ℕ)
runs_in Leaf = []
runs_in (Branch l at size r) = runs_in l ++ (at, size) ∷ runs_in r

-- runs are ordered by size and then by place
abbrev pub key_of : ℕ → ℕ → ℕ
key_of at size = size * 2 ^ 27 + at

-- in order, and each key is at least `low` and below `high`
unfoldable pub IsWithin : ℕ → ℕ → Tree → Type 0
IsWithin low high Leaf = Unit {0}
IsWithin low high (Branch l at size r) =
    (low ≤ key_of at size) × (key_of at size < high) × IsWithin low (key_of at size) l × IsWithin (key_of at size + 1) high r

-- the links of a chunk in the tree
abbrev pub left_of : List ℕ → ℕ → ℕ
left_of words at = slice_index words (at + 2)

abbrev pub right_of : List ℕ → ℕ → ℕ
right_of words at = slice_index words (at + 3)

-- the words hold the tree, from the chunk that `link` names: 0 is no chunk, and 1 more than its first word a chunk
unfoldable pub IsTree : List ℕ → ℕ → Tree → Type 0
IsTree words link Leaf = link ≡ 0
IsTree words link (Branch l at size r) =
    (link ≡ at + 1) × IsFree words at size × (64 ≤ size) × IsTree words (left_of words at) l × IsTree words (right_of words at) r

-- and no two of its chunks share a word
pub record HoldsTree (words : List ℕ) (link : ℕ) (t : Tree) : Type 0 where
  pub tree : IsTree words link t
  pub apart : (k : ℕ) → cover (runs_in t) k ≤ 1

-- the tree has this chunk at its top
pub record IsTop (words : List ℕ) (t : Tree) (node : Node) : Type 0 where
  pub l : Tree
  pub r : Tree
  pub is : t ≡ Branch l node.at node.words r
  pub free : IsFree words node.at node.words
  pub large : 64 ≤ node.words
  pub left_is : node.left ≡ left_of words node.at
  pub right_is : node.right ≡ right_of words node.at
  pub left : IsTree words node.left l
  pub right : IsTree words node.right r

-- the tree is cut into the chunks whose keys are below `key` and the others
pub record Splits (new : List ℕ) (t : Tree) (link_a link_b key low high : ℕ) : Type 0 where
  pub a : Tree
  pub b : Tree
  pub held_a : HoldsTree new link_a a
  pub held_b : HoldsTree new link_b b
  pub runs : runs_in t ≡ runs_in a ++ runs_in b
  pub below : IsWithin low key a
  pub above : IsWithin key high b

-- the chunks of two trees are in one
pub record Joins (new : List ℕ) (a b : Tree) (link low high : ℕ) : Type 0 where
  pub t : Tree
  pub held : HoldsTree new link t
  pub runs : runs_in t ≡ runs_in a ++ runs_in b
  pub within : IsWithin low high t

-- in order, whatever the keys
abbrev pub IsOrdered : Tree → Type 0
IsOrdered t = IsWithin 0 (2 ^ 60) t

-- a chunk shares no word with those of the tree
abbrev pub IsApartFrom : Tree → ℕ → ℕ → Type 0
IsApartFrom t at size = (k : ℕ) → cover (runs_in t) k + covers k (at, size) ≤ 1

-- one chunk more is in the tree
pub record Inserts (new : List ℕ) (t : Tree) (at size link : ℕ) : Type 0 where
  pub t' : Tree
  pub held : HoldsTree new link t'
  pub ordered : IsOrdered t'
  pub before : List (ℕ × ℕ)
  pub after : List (ℕ × ℕ)
  pub old_runs : runs_in t ≡ before ++ after
  pub new_runs : runs_in t' ≡ before ++ (at, size) ∷ after

-- one chunk has left the tree
pub record Removes (new : List ℕ) (t : Tree) (at size link : ℕ) : Type 0 where
  pub t' : Tree
  pub held : HoldsTree new link t'
  pub ordered : IsOrdered t'
  pub before : List (ℕ × ℕ)
  pub after : List (ℕ × ℕ)
  pub old_runs : runs_in t ≡ before ++ (at, size) ∷ after
  pub new_runs : runs_in t' ≡ before ++ after

-- no chunk of the tree has that key or a greater one
abbrev pub NoneFrom : Tree → ℕ → Type 0
NoneFrom t key = (x : ℕ × ℕ) → Contains (runs_in t) x → key_of x.0 x.1 < key

-- of the chunks of the tree with that key or a greater one it is the first
pub record IsFirst (t : Tree) (key : ℕ) (f : ℕ × ℕ) : Type 0 where
  pub there : Contains (runs_in t) f
  pub from : key ≤ key_of f.0 f.1
  pub least : (x : ℕ × ℕ) → Contains (runs_in t) x → key ≤ key_of x.0 x.1 → key_of f.0 f.1 ≤ key_of x.0 x.1

-- the size of the largest chunk of the tree, 0 where it has none
pub record IsLargest (t : Tree) (size : ℕ) : Type 0 where
  pub most : (x : ℕ × ℕ) → Contains (runs_in t) x → x.1 ≤ size
  pub there : 0 < size → (at : ℕ) × Contains (runs_in t) (at, size)

-- a chunk, and two trees before and behind it, that share no word
pub record Parts (words : List ℕ) (left' at right' : ℕ) (l : Tree) (size : ℕ) (r : Tree) (low high : ℕ) : Type 0 where
  pub left : HoldsTree words left' l
  pub free : IsFree words at size
  pub large : 64 ≤ size
  pub right : HoldsTree words right' r
  pub apart : (k : ℕ) → cover (runs_in l) k + covers k (at, size) + cover (runs_in r) k ≤ 1
  pub from : low ≤ key_of at size
  pub to : key_of at size < high
  pub before : IsWithin low (key_of at size) l
  pub behind : IsWithin (key_of at size + 1) high r

-- they are one tree
pub record Makes (new : List ℕ) (l : Tree) (at size : ℕ) (r : Tree) (link low high : ℕ) : Type 0 where
  pub t : Tree
  pub held : HoldsTree new link t
  pub runs : runs_in t ≡ runs_in l ++ (at, size) ∷ runs_in r
  pub within : IsWithin low high t

-- a tree of the same chunks
pub record Turns (new : List ℕ) (t : Tree) (link low high : ℕ) : Type 0 where
  pub t' : Tree
  pub held : HoldsTree new link t'
  pub runs : runs_in t' ≡ runs_in t
  pub within : IsWithin low high t'

-- two trees and a chunk that may be made one, by their links
abbrev pub HaveParts : List ℕ → ℕ → ℕ → ℕ → Type 0
HaveParts words left at right =
    (l : Tree) × (size : ℕ) × (r : Tree) × (low : ℕ) × (high : ℕ) × Parts words left at right l size r low high

-- whichever two trees and chunk they are, `link` names one tree of them all
abbrev pub MakesOne : List ℕ → List ℕ → ℕ → ℕ → ℕ → ℕ → Type 0
MakesOne old new left at right link =
    (l : Tree) (size : ℕ) (r : Tree) (low high : ℕ) → Parts old left at right l size r low high → Makes new l at size r link low high

-- the words of none of them stay as they were
abbrev pub KeepsOthers : List ℕ → List ℕ → ℕ → ℕ → ℕ → Type 0
KeepsOthers old new left at right =
    (l : Tree) (size : ℕ) (r : Tree) (low high : ℕ) → Parts old left at right l size r low high
    → (k : ℕ) → cover (runs_in l) k + covers k (at, size) + cover (runs_in r) k ≡ 0 → slice_index new k ≡ slice_index old k
