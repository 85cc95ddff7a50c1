-- A chunk is taken out.
use Rattle.std.proofs.Common.{◌≡◌, ℕ, ◌+◌, ◌-◌, ◌<◌, ◌≤◌, List, [], ◌∷◌, ◌++◌, length, length-set, get_or, set, get_or-set_same, get_or-set_other, refl, arith, subst, sym, ap, ◌∙◌, inl, inr, nat_lt, true, false}
use Rattle.std.specs.List.{Contains}
use Rattle.std.specs.List.Sorted.{IsPermutation}
use Rattle.std.proofs.lemmas.List.Elements.{Contains-append_right, Contains-append_cases}
use Rattle.std.proofs.lemmas.List.Sums.{sum_by-cons}
use Rattle.std.proofs.lemmas.List.Sorted.{IsPermutation-refl, IsPermutation-trans, IsPermutation-sym, IsPermutation-middle, IsPermutation-append_left, IsPermutation-append_right, Contains-permutation, sum_by-IsPermutation}
use Rattle.std.proofs.lemmas.Bool.{cases_eq, lt-ltb}
use Rattle.std.proofs.lemmas.Bool.Decides.{nat_tests}
use Rattle.free_lists.specs.Runs.{covers, cover}
use Rattle.free_lists.specs.Trees.{runs_in, Removes}
use Rattle.free_lists.specs.Lists.{Lists, HaveBits, of_size, next_of, total_of, MeetsNone, IsOutside, TakesOut, Shortens, rest_of}
use Rattle.free_lists.specs.declared.lists.FreeLists.{FreeLists}
use Rattle.free_lists.proofs.Covers.{covers-inside, covers-place, cover-cons}
use Rattle.free_lists.proofs.Grafts.{free_same}
use Rattle.free_lists.proofs.Free.{tree_free}
use Rattle.free_lists.proofs.Chains.{cover-contains, chain_same, of_size-from, without_first}
use Rattle.free_lists.proofs.Given.{small_among, all_cover}
use Rattle.free_lists.proofs.Found.{has_first, first_size, runs_cases}

-- the others of some runs
module _ (runs others : List (ℕ × ℕ)) (at size : ℕ) (from : IsPermutation runs ((at, size) ∷ others)) where
  pub others_among : (x : ℕ × ℕ) → Contains others x → Contains runs x
  others_among x c = Contains-permutation ((at, size) ∷ others) runs x (IsPermutation-sym runs _ from) (Contains-append_right ((at, size) ∷ []) others x c)

  pub others_cover : (k : ℕ) → cover runs k ≡ covers k (at, size) + cover others k
  others_cover k = sym (sum_by-IsPermutation (covers k) runs ((at, size) ∷ others) from) ∙ cover-cons (at, size) others k

  pub others_total : total_of runs ≡ size + total_of others
  others_total = sym (sum_by-IsPermutation (λ (x : ℕ × ℕ). x.1) runs ((at, size) ∷ others) from) ∙ sum_by-cons (λ (x : ℕ × ℕ). x.1) (at, size) others

-- the first chunk of a list is taken out
pub small_taken : (words : List ℕ) (free free' : FreeLists) (runs : List (ℕ × ℕ)) (at size : ℕ) → Lists words free runs → size < 64 → get_or free.heads size 0 ≡ at + 1
    → free'.heads ≡ set free.heads size (next_of words at) → free'.root ≡ free.root → HaveBits free' → free'.total ≡ free.total - size
    → TakesOut words free' runs at size
small_taken words free free' runs at size l short first heads_is root_is bits total_is =
    let width = l.width in
    let f = has_first words (get_or free.heads size 0) at (of_size size l.smalls) (l.chains size short) first in
    let long : f.size ≡ size = first_size words free runs l size at short f in
    let is : of_size size l.smalls ≡ (at, size) ∷ f.rest = f.is ∙ ap (λ n. (at, n) ∷ f.rest) long in
    let w = without_first size l.smalls (at, size) f.rest is in
    let others : List (ℕ × ℕ) = w.others ++ runs_in l.tree in
    let from : IsPermutation runs ((at, size) ∷ others) =
    IsPermutation-trans runs (l.smalls ++ runs_in l.tree) ((at, size) ∷ others) l.all (IsPermutation-append_left (runs_in l.tree) l.smalls ((at, size) ∷ w.others) w.from) in
    record {
      others = others;
      from = from;
      lists = record {
        smalls = w.others;
        tree = l.tree;
        all = IsPermutation-refl others;
        chains = λ s lt. elim (cases_eq s size) [
          | inl e ↦
              let within : size < length free.heads = omega arith in
              rw (e, heads_is, get_or-set_same, w.same) f.tail
          | inr ne ↦ rw (heads_is, get_or-set_other, w.other s ne) (l.chains s lt)
        ];
        bits = bits;
        width = rw heads_is (simp length-set width);
        small = λ x c. l.small x (w.among x c);
        held = rw root_is l.held;
        ordered = l.ordered;
        chunks = λ x c. l.chunks x (others_among runs others at size from x c);
        apart = λ k. omega (arith, l.apart k, others_cover runs others at size from k);
        total = omega (arith, total_is, l.total, others_total runs others at size from);
      };
    }

-- a chunk of the tree is taken out
pub large_taken : (old new : List ℕ) (free free' : FreeLists) (runs : List (ℕ × ℕ)) (at size link : ℕ) (l : Lists old free runs) → length new ≡ length old
    → ((k : ℕ) → cover (runs_in l.tree) k ≡ 0 → get_or new k 0 ≡ get_or old k 0) → Removes new l.tree at size link
    → free'.heads ≡ free.heads → free'.sizes ≡ free.sizes → free'.root ≡ link → free'.total ≡ free.total - size
    → TakesOut new free' runs at size
large_taken old new free free' runs at size link l long others r heads_is sizes_is root_is total_is =
    let left : List (ℕ × ℕ) = l.smalls ++ runs_in r.t' in
    let moved : IsPermutation (runs_in l.tree) ((at, size) ∷ runs_in r.t') = rw (r.old_runs, r.new_runs) (IsPermutation-middle r.before (at, size) r.after) in
    let from : IsPermutation runs ((at, size) ∷ left) =
    IsPermutation-trans runs (l.smalls ++ runs_in l.tree) ((at, size) ∷ left) l.all
    (IsPermutation-trans (l.smalls ++ runs_in l.tree) (l.smalls ++ (at, size) ∷ runs_in r.t') ((at, size) ∷ left)
    (IsPermutation-append_right l.smalls (runs_in l.tree) ((at, size) ∷ runs_in r.t') moved) (IsPermutation-middle l.smalls (at, size) (runs_in r.t'))) in
    let apart : (k : ℕ) → cover l.smalls k + cover (runs_in l.tree) k ≤ 1 = λ k. omega (arith, l.apart k, all_cover old free runs l k) in
    let own : (x : ℕ × ℕ) → Contains l.smalls x → (k : ℕ) → x.0 ≤ k → k < x.0 + x.1 → get_or new k 0 ≡ get_or old k 0 =
    λ x c k ge lt. others k (omega (arith, cover-contains l.smalls x k c ge lt, apart k)) in
    record {
      others = left;
      from = from;
      lists = record {
        smalls = l.smalls;
        tree = r.t';
        all = IsPermutation-refl left;
        chains = λ s lt. rw heads_is (chain_same old new _ (of_size s l.smalls)
            (λ x c. let there = (of_size-from s l.smalls x c).0 in own x there (x.0 + 1) (omega arith) (omega (arith, (l.chunks x (small_among old free runs l x there)).big)))
            (l.chains s lt));
        bits = λ s lt. rw (heads_is, sizes_is) (l.bits s lt);
        width = rw heads_is l.width;
        small = l.small;
        held = rw root_is r.held;
        ordered = r.ordered;
        chunks = λ x c. elim (Contains-append_cases l.smalls (runs_in r.t') x c) [
          | inl s ↦
              let was = l.chunks x (small_among old free runs l x s) in
              free_same old new x.0 x.1 long (own x s x.0 (omega arith) (omega (arith, was.big))) (own x s (x.0 + 1) (omega arith) (omega (arith, was.big))) was
          | inr t ↦ (tree_free new link r.t' r.held.tree x t).0
        ];
        apart = λ k. omega (arith, l.apart k, others_cover runs left at size from k);
        total = omega (arith, total_is, l.total, others_total runs left at size from);
      };
    }

pub in_tree : (words : List ℕ) (free : FreeLists) (runs : List (ℕ × ℕ)) (l : Lists words free runs) (at size : ℕ) → 64 ≤ size → Contains runs (at, size) → Contains (runs_in l.tree) (at, size)
in_tree words free runs l at size large c = elim (runs_cases words free runs l (at, size) c) [ inl s ↦ absurd (omega (arith, l.small (at, size) s)) | inr t ↦ t ]

-- ---- the rest of a chunk that was taken out

module _ (old mid : List ℕ) (free free' : FreeLists) (runs : List (ℕ × ℕ)) (at size n : ℕ) (l : Lists old free runs) (t : TakesOut mid free' runs at size) (less : n < size) where
  pub rest_meets : MeetsNone t.others (at + n) (size - n)
  rest_meets k from to = omega (arith, l.apart k, others_cover runs t.others at size t.from k, covers-inside k at size (omega arith) (omega arith))

  pub rest_outside : (k : ℕ) → IsOutside runs k → IsOutside ((at + n, size - n) ∷ t.others) k
  rest_outside k out =
      let parts = others_cover runs t.others at size t.from k in
      elim (cases_eq (covers k (at + n, size - n)) 0) [
        | inl none ↦ omega (arith, cover-cons (at + n, size - n) t.others k, parts, out)
        | inr some ↦
            let place = covers-place k (at + n) (size - n) (omega arith) in
            absurd (omega (arith, parts, out, covers-inside k at size (omega arith) (omega arith)))
      ]

  pub rest_cut : (new : List ℕ) (free'' : FreeLists) → Lists new free'' ((at + n, size - n) ∷ t.others) → Shortens new free'' runs at size n
  rest_cut new free'' lists =
      let test : nat_lt n size ≡ true = lt-ltb n size less in
      let rest : rest_of at size n ≡ (at + n, size - n) ∷ [] = rw test refl in
      record { others = t.others; from = t.from; lists = subst (λ rs. Lists new free'' (rs ++ t.others)) (sym rest) lists }

pub whole_cut : (mid : List ℕ) (free' : FreeLists) (runs : List (ℕ × ℕ)) (at size n : ℕ) → TakesOut mid free' runs at size → size ≤ n → Shortens mid free' runs at size n
whole_cut mid free' runs at size n t le =
    let test : nat_lt n size ≡ false = grind (arith, nat_tests) in
    let rest : rest_of at size n ≡ [] = rw test refl in
    record { others = t.others; from = t.from; lists = subst (λ rs. Lists mid free' (rs ++ t.others)) (sym rest) t.lists }
