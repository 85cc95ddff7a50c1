-- A chunk of the tree gets another child.
use Rattle.std.proofs.Common.{◌≡◌, ◌≢◌, ℕ, ◌+◌, ◌<◌, ◌≤◌, List, length, get_or, set, get_or-set_other, length-set, refl, arith, subst, sym}
use Rattle.free_lists.specs.Runs.{IsFree, covers, cover}
use Rattle.free_lists.specs.Trees.{Tree, Leaf, Branch, runs_in, left_of, right_of, IsTree}
use Rattle.free_lists.proofs.Covers.{covers-inside, cover-branch}

pub free_same : (old new : List ℕ) (at size : ℕ) → length new ≡ length old → get_or new at 0 ≡ get_or old at 0 → get_or new (at + 1) 0 ≡ get_or old (at + 1) 0
    → IsFree old at size → IsFree new at size
free_same old new at size long first second free = record {
  big = free.big;
  inside = rw long free.inside;
  short = rw first free.short;
  long = rw (first, second) free.long;
}

-- a tree whose chunks keep their words
pub tree_same : (old new : List ℕ) (link : ℕ) (t : Tree) → length new ≡ length old → ((k : ℕ) → 1 ≤ cover (runs_in t) k → get_or new k 0 ≡ get_or old k 0)
    → IsTree old link t → IsTree new link t
unfolding IsTree
tree_same old new link Leaf long same h = h
tree_same old new link (Branch l at size r) long same h =
    let own : (k : ℕ) → at ≤ k → k < at + size → get_or new k 0 ≡ get_or old k 0 =
    λ k from to. same k (omega (arith, cover-branch l at size r k, covers-inside k at size from to)) in
    let big = h.2 in
    let left : left_of new at ≡ left_of old at = own (at + 2) (omega arith) (omega arith) in
    let right : right_of new at ≡ right_of old at = own (at + 3) (omega arith) (omega arith) in (
      h.0,
      free_same old new at size long (own at (omega arith) (omega arith)) (own (at + 1) (omega arith) (omega arith)) h.1,
      h.2,
      subst (λ x. IsTree new x l) (sym left) (tree_same old new (left_of old at) l long (λ k in_l. same k (omega (arith, cover-branch l at size r k))) h.3),
      subst (λ x. IsTree new x r) (sym right) (tree_same old new (right_of old at) r long (λ k in_r. same k (omega (arith, cover-branch l at size r k))) h.4),
    )

-- one of the links of a chunk is written, at its word `j`
module _ (old mid : List ℕ) (at size : ℕ) (long : length mid ≡ length old) (free : IsFree old at size) (large : 64 ≤ size)
    (own : (k : ℕ) → 1 ≤ covers k (at, size) → get_or mid k 0 ≡ get_or old k 0) where
  kept : (k : ℕ) → at ≤ k → k < at + size → get_or mid k 0 ≡ get_or old k 0
  kept k from to = own k (omega (arith, covers-inside k at size from to))

  inside : at + size ≤ length mid
  inside = rw long free.inside

  pub free_after : (j v : ℕ) → at + 2 ≤ j → IsFree (set mid j v) at size
  free_after j v from =
      let a : at ≢ j = omega arith in
      let b : at + 1 ≢ j = omega arith in
      free_same old (set mid j v) at size (simp length-set long)
      (rw get_or-set_other (kept at (omega arith) (omega arith))) (rw get_or-set_other (kept (at + 1) (omega arith) (omega arith))) free

  -- a tree that shares no word with the chunk
  pub other_after : (j v link : ℕ) (t : Tree) → at ≤ j → j < at + size → ((k : ℕ) → cover (runs_in t) k + covers k (at, size) ≤ 1) → IsTree mid link t → IsTree (set mid j v) link t
  other_after j v link t from to apart held =
      tree_same mid (set mid j v) link t (simp length-set)
      (λ k in_t.
      let ne : k ≢ j = λ same. let e = covers-inside k at size (omega arith) (omega arith) in omega (arith, apart k) in
      rw get_or-set_other refl)
      held
