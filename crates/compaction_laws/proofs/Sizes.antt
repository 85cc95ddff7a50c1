-- Sizes in ascending order: how many they are, their sum, and that they stand so once they do.
use Rattle.std.proofs.Common.{◌≡◌, ℕ, suc, ◌+◌, ◌≤◌, List, [], ◌∷◌, length, refl, sym, ap, ◌∙◌, arith, inl, inr}
use Rattle.std.proofs.lemmas.Bool.{cases_lt}
use Rattle.std.proofs.lemmas.List.{map-id}
use Rattle.std.proofs.lemmas.List.Sums.{sum-map, sum_by-cons}
use Rattle.std.specs.List.{sum}
use Rattle.spur_graph.specs.FreeSizes.{among, ascending}
use Rattle.heap_cells.proofs.FreeSizes.{among-front, among-behind, among-last, Ascends, ascending_ascends}
use Rattle.heap_cells.proofs.Members.{In}

sum-cons : (n : ℕ) (ns : List ℕ) → sum (n ∷ ns) ≡ n + sum ns
sum-cons n ns = sym (ap sum (map-id (n ∷ ns))) ∙ sum-map (λ (m : ℕ). m) (n ∷ ns) ∙ sum_by-cons (λ (m : ℕ). m) n ns ∙ ap (λ m. n + m) (sym (sum-map (λ (m : ℕ). m) ns) ∙ ap sum (map-id ns))

length-among : (n : ℕ) (ns : List ℕ) → length (among n ns) ≡ suc (length ns)
length-among n [] = ap (λ (xs : List ℕ). length xs) (among-last n)
length-among n (m ∷ ns) = elim (cases_lt m n) [
  | inr ge ↦ ap (λ (xs : List ℕ). length xs) (among-front n m ns ge)
  | inl lt ↦ ap (λ (xs : List ℕ). length xs) (among-behind n m ns lt) ∙ ap suc (length-among n ns)
]

sum-among : (n : ℕ) (ns : List ℕ) → sum (among n ns) ≡ n + sum ns
sum-among n [] = ap sum (among-last n) ∙ sum-cons n []
sum-among n (m ∷ ns) = elim (cases_lt m n) [
  | inr ge ↦ ap sum (among-front n m ns ge) ∙ sum-cons n (m ∷ ns)
  | inl lt ↦
      let is = ap sum (among-behind n m ns lt) ∙ sum-cons m (among n ns) in
      let rest = sum-among n ns in
      let all = sum-cons m ns in
      omega (arith, is, rest, all)
]

pub length-ascending : (ns : List ℕ) → length (ascending ns) ≡ length ns
unfolding ascending
length-ascending [] = refl
length-ascending (n ∷ ns) = length-among n (ascending ns) ∙ ap suc (length-ascending ns)

pub sum-ascending : (ns : List ℕ) → sum (ascending ns) ≡ sum ns
unfolding ascending
sum-ascending [] = refl
sum-ascending (n ∷ ns) = sum-among n (ascending ns) ∙ ap (λ m. n + m) (sum-ascending ns) ∙ sym (sum-cons n ns)

least-front : (n : ℕ) (ns : List ℕ) → ((m : ℕ) → In ns m → n ≤ m) → among n ns ≡ n ∷ ns
least-front n [] least = among-last n
least-front n (m ∷ ns) least = among-front n m ns (least m (inl refl))

in-order : (ns : List ℕ) → Ascends ns → ascending ns ≡ ns
unfolding ascending
in-order [] up = refl
in-order (n ∷ ns) up = ap (among n) (in-order ns up.1) ∙ least-front n ns up.0

pub ascending-again : (ns : List ℕ) → ascending (ascending ns) ≡ ascending ns
ascending-again ns = in-order (ascending ns) (ascending_ascends ns)
