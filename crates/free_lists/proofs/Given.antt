-- The free chunks stay where others change, and one more is added.
use Rattle.std.proofs.Common.{◌≡◌, ◌≢◌, ℕ, ◌+◌, ◌<◌, ◌≤◌, List, [], ◌∷◌, ◌++◌, length, get_or, set, get_or-set_same, get_or-set_other, length-set, refl, arith, subst, sym, ◌∙◌, ◌⊎◌, inl, inr}
use Rattle.std.specs.List.{Contains}
use Rattle.std.specs.List.Sorted.{IsPermutation}
use Rattle.std.proofs.lemmas.List.Elements.{Contains-append_right, Contains-append_left, Contains-append_cases}
use Rattle.std.proofs.lemmas.List.Sums.{sum_by-cons, sum_by-append}
use Rattle.std.proofs.lemmas.List.Sorted.{IsPermutation-cons, IsPermutation-trans, IsPermutation-sym, IsPermutation-middle, IsPermutation-append_right, Contains-permutation, sum_by-IsPermutation}
use Rattle.std.proofs.Common.{replicate}
use Rattle.std.proofs.lemmas.List.{get_or-replicate, length-replicate}
use Rattle.std.proofs.lemmas.List.Sorted.{IsPermutation-refl}
use Rattle.std.proofs.lemmas.Nat.Bits.{bit_at-zero}
use Rattle.std.proofs.lemmas.Bool.{cases_eq, cases_lt}
use Rattle.free_lists.specs.Runs.{IsFree, covers, cover}
use Rattle.free_lists.specs.Trees.{Leaf, runs_in, HoldsTree, IsTree, IsWithin, IsApartFrom, Inserts}
use Rattle.free_lists.specs.Lists.{Lists, IsChain, HaveBits, of_size, next_of, total_of, MeetsNone, IsOutside}
use Rattle.free_lists.specs.declared.lists.FreeLists.{FreeLists}
use Rattle.free_lists.proofs.Covers.{covers-inside, covers-place, covers-le, cover-cons, cover-append}
use Rattle.free_lists.proofs.Grafts.{free_same, tree_same}
use Rattle.free_lists.proofs.Free.{tree_free}
use Rattle.free_lists.proofs.Totals.{total_fits}
use Rattle.free_lists.proofs.Ordered.{contains_first, contains_cons}
use Rattle.free_lists.proofs.Chains.{cover-contains, chain_same, of_size-same, of_size-other, of_size-from}

module _ (words : List ℕ) (free : FreeLists) (runs : List (ℕ × ℕ)) (l : Lists words free runs) where
  pub small_among : (x : ℕ × ℕ) → Contains l.smalls x → Contains runs x
  small_among x c = Contains-permutation (l.smalls ++ runs_in l.tree) runs x (IsPermutation-sym runs _ l.all) (Contains-append_left l.smalls (runs_in l.tree) x c)

  pub large_among : (x : ℕ × ℕ) → Contains (runs_in l.tree) x → Contains runs x
  large_among x c = Contains-permutation (l.smalls ++ runs_in l.tree) runs x (IsPermutation-sym runs _ l.all) (Contains-append_right l.smalls (runs_in l.tree) x c)

  pub all_cover : (k : ℕ) → cover runs k ≡ cover l.smalls k + cover (runs_in l.tree) k
  all_cover k = sym (sum_by-IsPermutation (covers k) runs (l.smalls ++ runs_in l.tree) l.all) ∙ cover-append l.smalls (runs_in l.tree) k

  pub all_total : total_of runs ≡ total_of l.smalls + total_of (runs_in l.tree)
  all_total = sym (sum_by-IsPermutation (λ (x : ℕ × ℕ). x.1) runs (l.smalls ++ runs_in l.tree) l.all) ∙ sum_by-append (λ (x : ℕ × ℕ). x.1) l.smalls (runs_in l.tree)

  pub fits : total_of runs ≤ length words
  fits = total_fits runs (length words) (λ x c. (l.chunks x c).inside) l.apart

-- there are no more chunks than words
pub count_le : (rs : List (ℕ × ℕ)) → ((x : ℕ × ℕ) → Contains rs x → 1 ≤ x.1) → length rs ≤ total_of rs
count_le [] some = omega arith
count_le (r ∷ rs) some =
    omega (arith, some r (contains_first r rs), count_le rs (λ x c. some x (Contains-append_right (r ∷ []) rs x c)), sum_by-cons (λ (x : ℕ × ℕ). x.1) r rs)

pub tree_count : (words : List ℕ) (free : FreeLists) (runs : List (ℕ × ℕ)) (l : Lists words free runs) → length (runs_in l.tree) ≤ free.total
tree_count words free runs l =
    omega (arith, l.total, all_total words free runs l, count_le (runs_in l.tree) (λ x c. omega (arith, (tree_free words free.root l.tree l.held.tree x c).1)))

-- writes to words of no free chunk keep the lists, as a store into an object does
module _ (old new : List ℕ) (free : FreeLists) (runs : List (ℕ × ℕ)) (l : Lists old free runs) (long : length new ≡ length old)
    (same : (k : ℕ) → 1 ≤ cover runs k → get_or new k 0 ≡ get_or old k 0) where
  own : (x : ℕ × ℕ) → Contains runs x → (k : ℕ) → x.0 ≤ k → k < x.0 + x.1 → get_or new k 0 ≡ get_or old k 0
  own x c k from to = same k (cover-contains runs x k c from to)

  pub chains_kept : (s : ℕ) → s < 64 → IsChain new (get_or free.heads s 0) (of_size s l.smalls)
  chains_kept s lt =
      chain_same old new _ (of_size s l.smalls)
      (λ x c. let there = small_among old free runs l x (of_size-from s l.smalls x c).0 in own x there (x.0 + 1) (omega arith) (omega (arith, (l.chunks x there).big)))
      (l.chains s lt)

  pub held_kept : HoldsTree new free.root l.tree
  held_kept = record { tree = tree_same old new free.root l.tree long (λ k in_t. same k (omega (arith, all_cover old free runs l k))) l.held.tree; apart = l.held.apart }

  pub chunks_kept : (x : ℕ × ℕ) → Contains runs x → IsFree new x.0 x.1
  chunks_kept x c =
      free_same old new x.0 x.1 long (own x c x.0 (omega arith) (omega (arith, (l.chunks x c).big))) (own x c (x.0 + 1) (omega arith) (omega (arith, (l.chunks x c).big))) (l.chunks x c)

  pub keeps_lists : Lists new free runs
  keeps_lists = record {
    smalls = l.smalls;
    tree = l.tree;
    all = l.all;
    chains = chains_kept;
    bits = l.bits;
    width = l.width;
    small = l.small;
    held = held_kept;
    ordered = l.ordered;
    chunks = chunks_kept;
    apart = l.apart;
    total = l.total;
  }

-- the runs with one more
module _ (runs : List (ℕ × ℕ)) (at size : ℕ) (meets : MeetsNone runs at size) where
  pub apart_more : ((k : ℕ) → cover runs k ≤ 1) → (k : ℕ) → cover ((at, size) ∷ runs) k ≤ 1
  apart_more apart k = elim (cases_eq (covers k (at, size)) 0) [
    | inl none ↦ omega (arith, cover-cons (at, size) runs k, apart k)
    | inr some ↦
        let place = covers-place k at size (omega arith) in
        omega (arith, cover-cons (at, size) runs k, meets k place.0 place.1, covers-le k (at, size))
  ]

  pub apart_both : ((k : ℕ) → cover runs k ≤ 1) → (k : ℕ) → cover runs k + covers k (at, size) ≤ 1
  apart_both apart k = omega (arith, apart_more apart k, cover-cons (at, size) runs k)

module _ (words : List ℕ) (free : FreeLists) (runs : List (ℕ × ℕ)) (l : Lists words free runs) (at size : ℕ) where
  pub tree_apart : MeetsNone runs at size → IsApartFrom l.tree at size
  tree_apart meets k = omega (arith, apart_both runs at size meets l.apart k, all_cover words free runs l k)

  pub tree_outside : (k : ℕ) → IsOutside ((at, size) ∷ runs) k → cover (runs_in l.tree) k + covers k (at, size) ≡ 0
  tree_outside k out = omega (arith, out, cover-cons (at, size) runs k, all_cover words free runs l k)

  -- a word of a run that meets none of the free chunks is no word of them
  pub apart_place : MeetsNone runs at size → (k : ℕ) → 1 ≤ cover runs k → (k < at) ⊎ (at + size ≤ k)
  apart_place meets k some = elim (cases_lt k at) [
    | inl lt ↦ inl lt
    | inr ge ↦ elim (cases_lt k (at + size)) [ inl lt ↦ absurd (omega (arith, meets k ge lt, some)) | inr ge' ↦ inr ge' ]
  ]

-- one more small chunk
pub small_added : (old : List ℕ) (free free' : FreeLists) (runs : List (ℕ × ℕ)) (at size : ℕ) → Lists old free runs → IsFree old at size → size < 64 → MeetsNone runs at size
    → free'.heads ≡ set free.heads size (at + 1) → free'.root ≡ free.root → HaveBits free' → free'.total ≡ free.total + size
    → Lists (set old (at + 1) (get_or free.heads size 0)) free' ((at, size) ∷ runs)
unfolding IsChain
small_added old free free' runs at size l chunk short meets heads_is root_is bits total_is =
    let new = set old (at + 1) (get_or free.heads size 0) in
    let width = l.width in
    let big = chunk.big in
    let room : at + 1 < length old = omega (arith, chunk.inside) in
    let same : (k : ℕ) → 1 ≤ cover runs k → get_or new k 0 ≡ get_or old k 0 = λ k some.
    let ne : k ≢ at + 1 = λ e. let none = meets (at + 1) (omega arith) (omega arith) in omega (arith, subst (λ n. 1 ≤ cover runs n) e some) in
    rw get_or-set_other refl in
    let long : length new ≡ length old = simp length-set in
    let next : next_of new at ≡ get_or free.heads size 0 = rw get_or-set_same refl in
    record {
      smalls = (at, size) ∷ l.smalls;
      tree = l.tree;
      all = IsPermutation-cons (at, size) runs (l.smalls ++ runs_in l.tree) l.all;
      chains = λ s lt. elim (cases_eq size s) [
        | inl e ↦
            let within : s < length free.heads = omega (arith, width) in
            let head : get_or free'.heads s 0 ≡ at + 1 = rw (heads_is, e, get_or-set_same) refl in
            rw (head, ← e, of_size-same at size l.smalls, next) (refl, chains_kept old new free runs l long same size short)
        | inr ne ↦
            let ne' : s ≢ size = λ e. ne (sym e) in
            let head : get_or free'.heads s 0 ≡ get_or free.heads s 0 = rw (heads_is, get_or-set_other) refl in
            rw (head, of_size-other s (at, size) l.smalls ne) (chains_kept old new free runs l long same s lt)
      ];
      bits = bits;
      width = rw heads_is (simp length-set width);
      small = λ x c. elim (contains_cons (at, size) l.smalls x c) [ inl e ↦ subst (λ (y : ℕ × ℕ). y.1 < 64) e short | inr rest ↦ l.small x rest ];
      held = rw root_is (held_kept old new free runs l long same);
      ordered = l.ordered;
      chunks = λ x c. elim (contains_cons (at, size) runs x c) [
        | inl e ↦
            let a : at ≢ at + 1 = omega arith in
            subst (λ (y : ℕ × ℕ). IsFree new y.0 y.1) e (record {
              big = chunk.big;
              inside = simp length-set chunk.inside;
              short = rw get_or-set_other chunk.short;
              long = λ lt. absurd (omega arith);
            })
        | inr rest ↦ chunks_kept old new free runs l long same x rest
      ];
      apart = apart_more runs at size meets l.apart;
      total = omega (arith, total_is, l.total, sum_by-cons (λ (x : ℕ × ℕ). x.1) (at, size) runs);
    }

-- one more large chunk
pub large_added : (old new : List ℕ) (free free' : FreeLists) (runs : List (ℕ × ℕ)) (at size link : ℕ) (l : Lists old free runs) → IsFree old at size → 64 ≤ size → MeetsNone runs at size
    → length new ≡ length old → ((k : ℕ) → cover (runs_in l.tree) k + covers k (at, size) ≡ 0 → get_or new k 0 ≡ get_or old k 0)
    → Inserts new l.tree at size link
    → free'.heads ≡ free.heads → free'.sizes ≡ free.sizes → free'.root ≡ link → free'.total ≡ free.total + size
    → Lists new free' ((at, size) ∷ runs)
large_added old new free free' runs at size link l chunk large meets long others i heads_is sizes_is root_is total_is =
    let apart : (k : ℕ) → cover l.smalls k + cover (runs_in l.tree) k + covers k (at, size) ≤ 1 =
    λ k. omega (arith, apart_both runs at size meets l.apart k, all_cover old free runs l k) in
    let same : (k : ℕ) → 1 ≤ cover l.smalls k → get_or new k 0 ≡ get_or old k 0 = λ k some. others k (omega (arith, apart k)) in
    let own : (x : ℕ × ℕ) → Contains l.smalls x → (k : ℕ) → x.0 ≤ k → k < x.0 + x.1 → get_or new k 0 ≡ get_or old k 0 =
    λ x c k from to. same k (cover-contains l.smalls x k c from to) in
    let of_tree = tree_free new link i.t' i.held.tree in
    let moved : IsPermutation ((at, size) ∷ runs_in l.tree) (runs_in i.t') = rw (i.old_runs, i.new_runs) (IsPermutation-sym _ _ (IsPermutation-middle i.before (at, size) i.after)) in
    record {
      smalls = l.smalls;
      tree = i.t';
      all = IsPermutation-trans ((at, size) ∷ runs) ((at, size) ∷ (l.smalls ++ runs_in l.tree)) (l.smalls ++ runs_in i.t')
          (IsPermutation-cons (at, size) runs (l.smalls ++ runs_in l.tree) l.all)
          (IsPermutation-trans ((at, size) ∷ (l.smalls ++ runs_in l.tree)) (l.smalls ++ (at, size) ∷ runs_in l.tree) (l.smalls ++ runs_in i.t')
          (IsPermutation-sym _ _ (IsPermutation-middle l.smalls (at, size) (runs_in l.tree)))
          (IsPermutation-append_right l.smalls ((at, size) ∷ runs_in l.tree) (runs_in i.t') moved));
      chains = λ s lt. rw heads_is (chain_same old new _ (of_size s l.smalls)
          (λ x c. let there = (of_size-from s l.smalls x c).0 in own x there (x.0 + 1) (omega arith) (omega (arith, (l.chunks x (small_among old free runs l x there)).big)))
          (l.chains s lt));
      bits = λ s lt. rw (heads_is, sizes_is) (l.bits s lt);
      width = rw heads_is l.width;
      small = l.small;
      held = rw root_is i.held;
      ordered = i.ordered;
      chunks = λ x c.
          let there : Contains (l.smalls ++ ((at, size) ∷ runs_in l.tree)) x =
          Contains-permutation ((at, size) ∷ runs) (l.smalls ++ (at, size) ∷ runs_in l.tree) x
          (IsPermutation-trans ((at, size) ∷ runs) ((at, size) ∷ (l.smalls ++ runs_in l.tree)) (l.smalls ++ (at, size) ∷ runs_in l.tree)
          (IsPermutation-cons (at, size) runs (l.smalls ++ runs_in l.tree) l.all) (IsPermutation-sym _ _ (IsPermutation-middle l.smalls (at, size) (runs_in l.tree)))) c in
          elim (Contains-append_cases l.smalls ((at, size) ∷ runs_in l.tree) x there) [
            | inl s ↦
                let was = l.chunks x (small_among old free runs l x s) in
                free_same old new x.0 x.1 long (own x s x.0 (omega arith) (omega (arith, was.big))) (own x s (x.0 + 1) (omega arith) (omega (arith, was.big))) was
            | inr t ↦ (of_tree x (Contains-permutation ((at, size) ∷ runs_in l.tree) (runs_in i.t') x moved t)).0
          ];
      apart = apart_more runs at size meets l.apart;
      total = omega (arith, total_is, l.total, sum_by-cons (λ (x : ℕ × ℕ). x.1) (at, size) runs);
    }

-- a run becomes a free chunk, before it is added
module _ (old new : List ℕ) where
  pub written_lists : (free : FreeLists) (runs : List (ℕ × ℕ)) (at size : ℕ) → length new ≡ length old
      → ((k : ℕ) → k < at → get_or new k 0 ≡ get_or old k 0) → ((k : ℕ) → at + size ≤ k → get_or new k 0 ≡ get_or old k 0)
      → Lists old free runs → MeetsNone runs at size → Lists new free runs
  written_lists free runs at size long below above l meets =
      keeps_lists old new free runs l long (λ k some. elim (apart_place old free runs l at size meets k some) [ inl lt ↦ below k lt | inr ge ↦ above k ge ])

  pub written_other : (runs : List (ℕ × ℕ)) (at size : ℕ)
      → ((k : ℕ) → k < at → get_or new k 0 ≡ get_or old k 0) → ((k : ℕ) → at + size ≤ k → get_or new k 0 ≡ get_or old k 0)
      → (k : ℕ) → IsOutside ((at, size) ∷ runs) k → get_or new k 0 ≡ get_or old k 0
  written_other runs at size below above k out = elim (cases_lt k at) [
    | inl lt ↦ below k lt
    | inr ge ↦ elim (cases_lt k (at + size)) [ inl lt ↦ absurd (omega (arith, out, cover-cons (at, size) runs k, covers-inside k at size ge lt)) | inr ge' ↦ above k ge' ]
  ]

pub outside_next : (runs : List (ℕ × ℕ)) (at size : ℕ) → 2 ≤ size → (k : ℕ) → IsOutside ((at, size) ∷ runs) k → k ≢ at + 1
outside_next runs at size big k out = λ e. omega (arith, out, cover-cons (at, size) runs k, covers-inside k at size (omega arith) (omega arith))

-- no chunk
pub new_lists : (words : List ℕ) (free : FreeLists) → free.heads ≡ replicate 64 0 → free.sizes ≡ 0 → free.root ≡ 0 → free.total ≡ 0 → Lists words free []
unfolding IsChain of_size runs_in IsTree IsWithin
new_lists words free heads_is sizes_is root_is total_is =
    let empty : (s : ℕ) → s < 64 → get_or free.heads s 0 ≡ 0 = λ s lt. rw heads_is (get_or-replicate 64 s 0 0 lt) in
    record {
      smalls = [];
      tree = Leaf;
      all = IsPermutation-refl [];
      chains = empty;
      bits = λ s lt. rw (sizes_is, empty s lt) (bit_at-zero s);
      width = rw heads_is (let zero : ℕ = 0 in length-replicate 64 zero);
      small = λ x c. absurd (omega (arith, c.1));
      held = record { tree = root_is; apart = λ k. omega arith };
      ordered = tt;
      chunks = λ x c. absurd (omega (arith, c.1));
      apart = λ k. omega arith;
      total = total_is;
    }

-- the order of the runs does not matter
pub lists_permuted : (words : List ℕ) (free : FreeLists) (runs runs' : List (ℕ × ℕ)) → IsPermutation runs' runs → Lists words free runs → Lists words free runs'
lists_permuted words free runs runs' p l = record {
  smalls = l.smalls;
  tree = l.tree;
  all = IsPermutation-trans runs' runs _ p l.all;
  chains = l.chains;
  bits = l.bits;
  width = l.width;
  small = l.small;
  held = l.held;
  ordered = l.ordered;
  chunks = λ x c. l.chunks x (Contains-permutation runs' runs x p c);
  apart = λ k. omega (arith, l.apart k, sum_by-IsPermutation (covers k) runs' runs p);
  total = l.total ∙ sum_by-IsPermutation (λ (x : ℕ × ℕ). x.1) runs' runs p;
}
