-- A chunk becomes the top of two trees.
use Rattle.std.proofs.Common.{◌≡◌, ◌≢◌, ℕ, ◌+◌, ◌<◌, ◌≤◌, List, ◌∷◌, ◌++◌, length, get_or, set, get_or-set_same, get_or-set_other, length-set, refl, arith, subst, sym, ap, ◌∙◌, append_assoc, length-append}
use Rattle.free_lists.specs.Runs.{IsFree, covers, cover}
use Rattle.free_lists.specs.Trees.{Tree, Branch, runs_in, IsWithin, left_of, right_of, key_of, IsTree, HoldsTree, IsTop, Parts, Makes, Turns, Splits, Joins}
use Rattle.free_lists.specs.declared.tree.Node.{Node}
use Rattle.free_lists.proofs.Covers.{covers-inside, cover-branch, cover-append, cover-cons}
use Rattle.free_lists.proofs.Trees.{top_cover, top_runs, top_within, left_held, right_held}
use Rattle.free_lists.proofs.Grafts.{free_same, tree_same, free_after, other_after}

module _ (old : List ℕ) (left at right : ℕ) (l : Tree) (size : ℕ) (r : Tree) (low high : ℕ) (p : Parts old left at right l size r low high) (h : ℕ) where
  abbrev w1 : List ℕ
  w1 = set old (at + 2) left

  abbrev w2 : List ℕ
  w2 = set w1 (at + 3) right

  abbrev w3 : List ℕ
  w3 = set w2 (at + 4) h

  free1 : IsFree w1 at size
  free1 = free_after old old at size refl p.free p.large (λ k h. refl) (at + 2) left (omega arith)

  free2 : IsFree w2 at size
  free2 = free_after w1 w1 at size refl free1 p.large (λ k h. refl) (at + 3) right (omega arith)

  keeps : (x : ℕ) (u : Tree) → ((k : ℕ) → cover (runs_in u) k + covers k (at, size) ≤ 1) → IsTree old x u → IsTree w3 x u
  keeps x u apart held =
      let large = p.large in
      other_after w2 w2 at size refl free2 p.large (λ k h. refl) (at + 4) h x u (omega arith) (omega arith) apart
      (other_after w1 w1 at size refl free1 p.large (λ k h. refl) (at + 3) right x u (omega arith) (omega arith) apart
      (other_after old old at size refl p.free p.large (λ k h. refl) (at + 2) left x u (omega arith) (omega arith) apart held))

  pub branch_made : Makes w3 l at size r (at + 1) low high
  unfolding IsTree IsWithin runs_in
  branch_made =
      let large = p.large in
      let room : at + size ≤ length old = p.free.inside in
      let in0 : at + 2 < length old = omega arith in
      let in1 : at + 3 < length w1 = simp length-set (omega arith) in
      let a : at + 2 ≢ at + 3 = omega arith in
      let b : at + 2 ≢ at + 4 = omega arith in
      let d : at + 3 ≢ at + 4 = omega arith in
      let left' : left_of w3 at ≡ left = rw (get_or-set_other, get_or-set_other, get_or-set_same) refl in
      let right' : right_of w3 at ≡ right = rw (get_or-set_other, get_or-set_same) refl in
      record {
        t = Branch l at size r;
        held = record {
          tree = (
            refl,
            free_after w2 w2 at size refl free2 p.large (λ k h. refl) (at + 4) h (omega arith),
            large,
            subst (λ x. IsTree w3 x l) (sym left') (keeps left l (λ k. omega (arith, p.apart k)) p.left.tree),
            subst (λ x. IsTree w3 x r) (sym right') (keeps right r (λ k. omega (arith, p.apart k)) p.right.tree),
          );
          apart = λ k. omega (arith, p.apart k, cover-branch l at size r k);
        };
        runs = refl;
        within = (p.from, p.to, p.before, p.behind);
      }

  pub branch_other : (k : ℕ) → cover (runs_in l) k + covers k (at, size) + cover (runs_in r) k ≡ 0 → get_or w3 k 0 ≡ get_or old k 0
  branch_other k out =
      let large = p.large in
      let a : k ≢ at + 2 = λ e. omega (arith, covers-inside k at size (omega arith) (omega arith)) in
      let b : k ≢ at + 3 = λ e. omega (arith, covers-inside k at size (omega arith) (omega arith)) in
      let d : k ≢ at + 4 = λ e. omega (arith, covers-inside k at size (omega arith) (omega arith)) in
      rw (get_or-set_other, get_or-set_other, get_or-set_other) refl

-- ---- trees and chunks whose words stay

pub kept_tree : (old new : List ℕ) (link : ℕ) (t : Tree) → length new ≡ length old → ((k : ℕ) → 1 ≤ cover (runs_in t) k → get_or new k 0 ≡ get_or old k 0) → HoldsTree old link t → HoldsTree new link t
kept_tree old new link t long same held = record { tree = tree_same old new link t long same held.tree; apart = held.apart }

pub kept_free : (old new : List ℕ) (at size : ℕ) → length new ≡ length old → ((k : ℕ) → 1 ≤ covers k (at, size) → get_or new k 0 ≡ get_or old k 0) → IsFree old at size → IsFree new at size
kept_free old new at size long same free =
    let big = free.big in
    free_same old new at size long (same at (omega (arith, covers-inside at at size (omega arith) (omega arith)))) (same (at + 1) (omega (arith, covers-inside (at + 1) at size (omega arith) (omega arith)))) free

-- ---- the top of the left tree goes over what is made of its right tree, a chunk, and a tree behind

module _ (old : List ℕ) (left at right : ℕ) (l : Tree) (size : ℕ) (r : Tree) (low high : ℕ) (p : Parts old left at right l size r low high) (node : Node) (top : IsTop old l node) where
  w : (low ≤ key_of node.at node.words) × (key_of node.at node.words < key_of at size) × IsWithin low (key_of node.at node.words) top.l × IsWithin (key_of node.at node.words + 1) (key_of at size) top.r
  w = top_within old l node top low (key_of at size) p.before

  split_cover : (k : ℕ) → cover (runs_in l) k ≡ cover (runs_in top.l) k + covers k (node.at, node.words) + cover (runs_in top.r) k
  split_cover k = top_cover old l node top k

  pub right_parts : Parts old node.right at right top.r size r (key_of node.at node.words + 1) high
  right_parts = record {
    left = right_held old l node top left p.left;
    free = p.free;
    large = p.large;
    right = p.right;
    apart = λ k. omega (arith, p.apart k, split_cover k);
    from = omega (arith, w.1);
    to = p.to;
    before = w.3;
    behind = p.behind;
  }

  module _ (mid : List ℕ) (link : ℕ) (long : length mid ≡ length old) (m : Makes mid top.r at size r link (key_of node.at node.words + 1) high)
      (others : (k : ℕ) → cover (runs_in top.r) k + covers k (at, size) + cover (runs_in r) k ≡ 0 → get_or mid k 0 ≡ get_or old k 0) where
    made_cover : (k : ℕ) → cover (runs_in m.t) k ≡ cover (runs_in top.r) k + (covers k (at, size) + cover (runs_in r) k)
    made_cover k = ap (λ rs. cover rs k) m.runs ∙ cover-append (runs_in top.r) ((at, size) ∷ runs_in r) k ∙ ap (λ n. cover (runs_in top.r) k + n) (cover-cons (at, size) (runs_in r) k)

    pub over_parts : Parts mid node.left node.at link top.l node.words m.t low high
    over_parts = record {
      left = kept_tree old mid node.left top.l long (λ k some. others k (omega (arith, p.apart k, split_cover k))) (left_held old l node top left p.left);
      free = kept_free old mid node.at node.words long (λ k some. others k (omega (arith, p.apart k, split_cover k))) top.free;
      large = top.large;
      right = m.held;
      apart = λ k. omega (arith, p.apart k, split_cover k, made_cover k);
      from = w.0;
      to = omega (arith, w.1, p.to);
      before = w.2;
      behind = m.within;
    }

    pub over_made : (new : List ℕ) (result : ℕ) → Makes new top.l node.at node.words m.t result low high → Makes new l at size r result low high
    over_made new result m' = record {
      t = m'.t;
      held = m'.held;
      runs = rw (m'.runs, m.runs, top_runs old l node top, append_assoc) refl;
      within = m'.within;
    }

    pub over_none : (k : ℕ) → cover (runs_in l) k + covers k (at, size) + cover (runs_in r) k ≡ 0
        → (cover (runs_in top.l) k + covers k (node.at, node.words) + cover (runs_in m.t) k ≡ 0) × (cover (runs_in top.r) k + covers k (at, size) + cover (runs_in r) k ≡ 0)
    over_none k out = (omega (arith, split_cover k, made_cover k), omega (arith, split_cover k))

-- ---- the top of the right tree goes over what is made of a tree before, a chunk, and its left tree

module _ (old : List ℕ) (left at right : ℕ) (l : Tree) (size : ℕ) (r : Tree) (low high : ℕ) (p : Parts old left at right l size r low high) (node : Node) (top : IsTop old r node) where
  v : (key_of at size + 1 ≤ key_of node.at node.words) × (key_of node.at node.words < high) × IsWithin (key_of at size + 1) (key_of node.at node.words) top.l × IsWithin (key_of node.at node.words + 1) high top.r
  v = top_within old r node top (key_of at size + 1) high p.behind

  cut_cover : (k : ℕ) → cover (runs_in r) k ≡ cover (runs_in top.l) k + covers k (node.at, node.words) + cover (runs_in top.r) k
  cut_cover k = top_cover old r node top k

  pub left_parts : Parts old left at node.left l size top.l low (key_of node.at node.words)
  left_parts = record {
    left = p.left;
    free = p.free;
    large = p.large;
    right = left_held old r node top right p.right;
    apart = λ k. omega (arith, p.apart k, cut_cover k);
    from = p.from;
    to = omega (arith, v.0);
    before = p.before;
    behind = v.2;
  }

  module _ (mid : List ℕ) (link : ℕ) (long : length mid ≡ length old) (m : Makes mid l at size top.l link low (key_of node.at node.words))
      (others : (k : ℕ) → cover (runs_in l) k + covers k (at, size) + cover (runs_in top.l) k ≡ 0 → get_or mid k 0 ≡ get_or old k 0) where
    made_cover' : (k : ℕ) → cover (runs_in m.t) k ≡ cover (runs_in l) k + (covers k (at, size) + cover (runs_in top.l) k)
    made_cover' k = ap (λ rs. cover rs k) m.runs ∙ cover-append (runs_in l) ((at, size) ∷ runs_in top.l) k ∙ ap (λ n. cover (runs_in l) k + n) (cover-cons (at, size) (runs_in top.l) k)

    pub under_parts : Parts mid link node.at node.right m.t node.words top.r low high
    under_parts = record {
      left = m.held;
      free = kept_free old mid node.at node.words long (λ k some. others k (omega (arith, p.apart k, cut_cover k))) top.free;
      large = top.large;
      right = kept_tree old mid node.right top.r long (λ k some. others k (omega (arith, p.apart k, cut_cover k))) (right_held old r node top right p.right);
      apart = λ k. omega (arith, p.apart k, cut_cover k, made_cover' k);
      from = omega (arith, v.0, p.from);
      to = v.1;
      before = m.within;
      behind = v.3;
    }

    pub under_made : (new : List ℕ) (result : ℕ) → Makes new m.t node.at node.words top.r result low high → Makes new l at size r result low high
    under_made new result m' = record {
      t = m'.t;
      held = m'.held;
      runs = rw (m'.runs, m.runs, top_runs old r node top, append_assoc) refl;
      within = m'.within;
    }

    pub under_none : (k : ℕ) → cover (runs_in l) k + covers k (at, size) + cover (runs_in r) k ≡ 0
        → (cover (runs_in m.t) k + covers k (node.at, node.words) + cover (runs_in top.r) k ≡ 0) × (cover (runs_in l) k + covers k (at, size) + cover (runs_in top.l) k ≡ 0)
    under_none k out = (omega (arith, cut_cover k, made_cover' k), omega (arith, cut_cover k))

-- ---- a tree is the parts at its top

module _ (old : List ℕ) (link : ℕ) (t : Tree) (low high : ℕ) (held : HoldsTree old link t) (within : IsWithin low high t) (node : Node) (top : IsTop old t node) where
  pub own_parts : Parts old node.left node.at node.right top.l node.words top.r low high
  own_parts =
      let x = top_within old t node top low high within in
      record {
        left = left_held old t node top link held;
        free = top.free;
        large = top.large;
        right = right_held old t node top link held;
        apart = λ k. omega (arith, held.apart k, top_cover old t node top k);
        from = x.0;
        to = x.1;
        before = x.2;
        behind = x.3;
      }

  pub own_turned : (new : List ℕ) (result : ℕ) → Makes new top.l node.at node.words top.r result low high → Turns new t result low high
  own_turned new result m = record { t' = m.t; held = m.held; runs = m.runs ∙ sym (top_runs old t node top); within = m.within }

  pub own_none : (k : ℕ) → cover (runs_in t) k ≡ 0 → cover (runs_in top.l) k + covers k (node.at, node.words) + cover (runs_in top.r) k ≡ 0
  own_none k out = omega (arith, top_cover old t node top k)

-- ---- one of the two trees is turned first

module _ (old mid : List ℕ) (left at right : ℕ) (l : Tree) (size : ℕ) (r : Tree) (low high : ℕ) (p : Parts old left at right l size r low high) (link : ℕ) (long : length mid ≡ length old) where
  pub left_turned : (u : Turns mid l link low (key_of at size)) → ((k : ℕ) → cover (runs_in l) k ≡ 0 → get_or mid k 0 ≡ get_or old k 0) → Parts mid link at right u.t' size r low high
  left_turned u others = record {
    left = u.held;
    free = kept_free old mid at size long (λ k some. others k (omega (arith, p.apart k))) p.free;
    large = p.large;
    right = kept_tree old mid right r long (λ k some. others k (omega (arith, p.apart k))) p.right;
    apart = λ k. omega (arith, p.apart k, ap (λ rs. cover rs k) u.runs);
    from = p.from;
    to = p.to;
    before = u.within;
    behind = p.behind;
  }

  pub right_turned : (u : Turns mid r link (key_of at size + 1) high) → ((k : ℕ) → cover (runs_in r) k ≡ 0 → get_or mid k 0 ≡ get_or old k 0) → Parts mid left at link l size u.t' low high
  right_turned u others = record {
    left = kept_tree old mid left l long (λ k some. others k (omega (arith, p.apart k))) p.left;
    free = kept_free old mid at size long (λ k some. others k (omega (arith, p.apart k))) p.free;
    large = p.large;
    right = u.held;
    apart = λ k. omega (arith, p.apart k, ap (λ rs. cover rs k) u.runs);
    from = p.from;
    to = p.to;
    before = p.before;
    behind = u.within;
  }

pub left_turned_made : (new : List ℕ) (mid : List ℕ) (l : Tree) (at size : ℕ) (r : Tree) (link result low high low' high' : ℕ) (u : Turns mid l link low' high') → Makes new u.t' at size r result low high → Makes new l at size r result low high
left_turned_made new mid l at size r link result low high low' high' u m = record { t = m.t; held = m.held; runs = m.runs ∙ ap (λ rs. rs ++ (at, size) ∷ runs_in r) u.runs; within = m.within }

pub right_turned_made : (new : List ℕ) (mid : List ℕ) (l : Tree) (at size : ℕ) (r : Tree) (link result low high low' high' : ℕ) (u : Turns mid r link low' high') → Makes new l at size u.t' result low high → Makes new l at size r result low high
right_turned_made new mid l at size r link result low high low' high' u m = record { t = m.t; held = m.held; runs = m.runs ∙ ap (λ rs. runs_in l ++ (at, size) ∷ rs) u.runs; within = m.within }

-- ---- a cut, and a join, whose rest is joined at the top

module _ (old mid : List ℕ) (link : ℕ) (t : Tree) (node : Node) (top : IsTop old t node) (held : HoldsTree old link t) (low high : ℕ) (within : IsWithin low high t) (long : length mid ≡ length old) where
  x : (low ≤ key_of node.at node.words) × (key_of node.at node.words < high) × IsWithin low (key_of node.at node.words) top.l × IsWithin (key_of node.at node.words + 1) high top.r
  x = top_within old t node top low high within

  module _ (key low_link high_link : ℕ) where
    -- the top is below the cut
    module _ (s : Splits mid top.r low_link high_link key (key_of node.at node.words + 1) high) (others : (k : ℕ) → cover (runs_in top.r) k ≡ 0 → get_or mid k 0 ≡ get_or old k 0) (below : key_of node.at node.words < key) where
      split_cover-right : (k : ℕ) → cover (runs_in top.r) k ≡ cover (runs_in s.a) k + cover (runs_in s.b) k
      split_cover-right k = ap (λ rs. cover rs k) s.runs ∙ cover-append (runs_in s.a) (runs_in s.b) k

      pub split_over_parts : Parts mid node.left node.at low_link top.l node.words s.a low key
      split_over_parts = record {
        left = kept_tree old mid node.left top.l long (λ k some. others k (omega (arith, held.apart k, top_cover old t node top k))) (left_held old t node top link held);
        free = kept_free old mid node.at node.words long (λ k some. others k (omega (arith, held.apart k, top_cover old t node top k))) top.free;
        large = top.large;
        right = s.held_a;
        apart = λ k. omega (arith, held.apart k, top_cover old t node top k, split_cover-right k);
        from = x.0;
        to = below;
        before = x.2;
        behind = s.below;
      }

      pub split_over : (new : List ℕ) (result : ℕ) → length new ≡ length mid → Makes new top.l node.at node.words s.a result low key
          → ((k : ℕ) → cover (runs_in top.l) k + covers k (node.at, node.words) + cover (runs_in s.a) k ≡ 0 → get_or new k 0 ≡ get_or mid k 0)
          → Splits new t result high_link key low high
      split_over new result long' m same = record {
        a = m.t;
        b = s.b;
        held_a = m.held;
        held_b = kept_tree mid new high_link s.b long' (λ k some. same k (omega (arith, held.apart k, top_cover old t node top k, split_cover-right k))) s.held_b;
        runs = rw (top_runs old t node top, s.runs, m.runs, append_assoc) refl;
        below = m.within;
        above = s.above;
      }

      pub split_over_none : (k : ℕ) → cover (runs_in t) k ≡ 0 → (cover (runs_in top.l) k + covers k (node.at, node.words) + cover (runs_in s.a) k ≡ 0) × (cover (runs_in top.r) k ≡ 0)
      split_over_none k out = (omega (arith, top_cover old t node top k, split_cover-right k), omega (arith, top_cover old t node top k))

    -- the top is not below the cut
    module _ (s : Splits mid top.l low_link high_link key low (key_of node.at node.words)) (others : (k : ℕ) → cover (runs_in top.l) k ≡ 0 → get_or mid k 0 ≡ get_or old k 0) (above : key ≤ key_of node.at node.words) where
      split_cover-left : (k : ℕ) → cover (runs_in top.l) k ≡ cover (runs_in s.a) k + cover (runs_in s.b) k
      split_cover-left k = ap (λ rs. cover rs k) s.runs ∙ cover-append (runs_in s.a) (runs_in s.b) k

      pub split_under_parts : Parts mid high_link node.at node.right s.b node.words top.r key high
      split_under_parts = record {
        left = s.held_b;
        free = kept_free old mid node.at node.words long (λ k some. others k (omega (arith, held.apart k, top_cover old t node top k))) top.free;
        large = top.large;
        right = kept_tree old mid node.right top.r long (λ k some. others k (omega (arith, held.apart k, top_cover old t node top k))) (right_held old t node top link held);
        apart = λ k. omega (arith, held.apart k, top_cover old t node top k, split_cover-left k);
        from = above;
        to = x.1;
        before = s.above;
        behind = x.3;
      }

      pub split_under : (new : List ℕ) (result : ℕ) → length new ≡ length mid → Makes new s.b node.at node.words top.r result key high
          → ((k : ℕ) → cover (runs_in s.b) k + covers k (node.at, node.words) + cover (runs_in top.r) k ≡ 0 → get_or new k 0 ≡ get_or mid k 0)
          → Splits new t low_link result key low high
      split_under new result long' m same = record {
        a = s.a;
        b = m.t;
        held_a = kept_tree mid new low_link s.a long' (λ k some. same k (omega (arith, held.apart k, top_cover old t node top k, split_cover-left k))) s.held_a;
        held_b = m.held;
        runs = rw (top_runs old t node top, s.runs, m.runs, append_assoc) refl;
        below = s.below;
        above = m.within;
      }

      pub split_under_none : (k : ℕ) → cover (runs_in t) k ≡ 0 → (cover (runs_in s.b) k + covers k (node.at, node.words) + cover (runs_in top.r) k ≡ 0) × (cover (runs_in top.l) k ≡ 0)
      split_under_none k out = (omega (arith, top_cover old t node top k, split_cover-left k), omega (arith, top_cover old t node top k))

module _ (old mid : List ℕ) (first : ℕ) (a b : Tree) (node : Node) (top : IsTop old a node) (held : HoldsTree old first a) (disjoint : (k : ℕ) → cover (runs_in a) k + cover (runs_in b) k ≤ 1)
    (low bound high : ℕ) (within : IsWithin low bound a) (ge : bound ≤ high) (long : length mid ≡ length old) (link : ℕ) (j : Joins mid top.r b link (key_of node.at node.words + 1) high)
    (others : (k : ℕ) → cover (runs_in top.r) k + cover (runs_in b) k ≡ 0 → get_or mid k 0 ≡ get_or old k 0) where
  joined_cover : (k : ℕ) → cover (runs_in j.t) k ≡ cover (runs_in top.r) k + cover (runs_in b) k
  joined_cover k = ap (λ rs. cover rs k) j.runs ∙ cover-append (runs_in top.r) (runs_in b) k

  pub join_parts : Parts mid node.left node.at link top.l node.words j.t low high
  join_parts =
      let y = top_within old a node top low bound within in
      record {
        left = kept_tree old mid node.left top.l long (λ k some. others k (omega (arith, disjoint k, top_cover old a node top k))) (left_held old a node top first held);
        free = kept_free old mid node.at node.words long (λ k some. others k (omega (arith, disjoint k, top_cover old a node top k))) top.free;
        large = top.large;
        right = j.held;
        apart = λ k. omega (arith, disjoint k, top_cover old a node top k, joined_cover k);
        from = y.0;
        to = omega (arith, y.1);
        before = y.2;
        behind = j.within;
      }

  pub join_over : (new : List ℕ) (result : ℕ) → Makes new top.l node.at node.words j.t result low high → Joins new a b result low high
  join_over new result m = record { t = m.t; held = m.held; runs = rw (m.runs, j.runs, top_runs old a node top, append_assoc) refl; within = m.within }

  pub join_none : (k : ℕ) → cover (runs_in a) k + cover (runs_in b) k ≡ 0 → (cover (runs_in top.l) k + covers k (node.at, node.words) + cover (runs_in j.t) k ≡ 0) × (cover (runs_in top.r) k + cover (runs_in b) k ≡ 0)
  join_none k out = (omega (arith, top_cover old a node top k, joined_cover k), omega (arith, top_cover old a node top k))

pub split_size : (mid : List ℕ) (t : Tree) (a b key low high : ℕ) (s : Splits mid t a b key low high) → length (runs_in t) ≡ length (runs_in s.a) + length (runs_in s.b)
split_size mid t a b key low high s = ap length s.runs ∙ length-append (runs_in s.a) (runs_in s.b)

pub join_size : (mid : List ℕ) (a b : Tree) (link low high : ℕ) (j : Joins mid a b link low high) → length (runs_in j.t) ≡ length (runs_in a) + length (runs_in b)
join_size mid a b link low high j = ap length j.runs ∙ length-append (runs_in a) (runs_in b)
