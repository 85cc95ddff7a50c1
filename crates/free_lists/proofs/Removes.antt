-- A chunk is taken out of a tree: by two cuts at its key, and a join.
use Rattle.std.proofs.Common.{◌≡◌, ℕ, ◌+◌, ◌^◌, ◌<◌, ◌≤◌, List, [], ◌∷◌, ◌++◌, length, length-append, get_or, refl, arith, subst, sym, ap, ◌∙◌, inl, inr}
use Rattle.std.specs.List.{Contains}
use Rattle.std.proofs.lemmas.List.Elements.{Contains-append_cases}
use Rattle.free_lists.specs.Runs.{cover}
use Rattle.free_lists.specs.Trees.{Tree, runs_in, IsWithin, key_of, HoldsTree, Splits, Joins, Removes}
use Rattle.free_lists.proofs.Covers.{cover-append}
use Rattle.free_lists.proofs.Trees.{within_more}
use Rattle.free_lists.proofs.Grafts.{tree_same}
use Rattle.free_lists.proofs.Ordered.{within_contains, within_one}

-- equal keys, equal chunks
same_run : (at size at' size' : ℕ) → at < 2 ^ 27 → at' < 2 ^ 27 → key_of at' size' ≡ key_of at size → (at' ≡ at) × (size' ≡ size)
same_run at size at' size' low low' same = (omega arith, omega arith)

module _ (first second : List ℕ) (t : Tree) (at size link_a link_b link_n link_h : ℕ)
    (s : Splits first t link_a link_b (key_of at size) 0 (2 ^ 60)) (u : Splits second s.b link_n link_h (key_of at size + 1) (key_of at size) (2 ^ 60))
    (long : length second ≡ length first) (others : (k : ℕ) → cover (runs_in s.b) k ≡ 0 → get_or second k 0 ≡ get_or first k 0)
    (apart : (k : ℕ) → cover (runs_in t) k ≤ 1) where
  parts : (k : ℕ) → cover (runs_in t) k ≡ cover (runs_in s.a) k + (cover (runs_in u.a) k + cover (runs_in u.b) k)
  parts k =
      ap (λ rs. cover rs k) s.runs ∙ cover-append (runs_in s.a) (runs_in s.b) k
      ∙ ap (λ n. cover (runs_in s.a) k + n) (ap (λ rs. cover rs k) u.runs ∙ cover-append (runs_in u.a) (runs_in u.b) k)

  upper : (k : ℕ) → cover (runs_in s.b) k ≡ cover (runs_in u.a) k + cover (runs_in u.b) k
  upper k = ap (λ rs. cover rs k) u.runs ∙ cover-append (runs_in u.a) (runs_in u.b) k

  pub low_held : HoldsTree second link_a s.a
  low_held = record {
    tree = tree_same first second link_a s.a long (λ k in_a. others k (omega (arith, apart k, parts k, upper k))) s.held_a.tree;
    apart = s.held_a.apart;
  }

  pub ends_apart : (k : ℕ) → cover (runs_in s.a) k + cover (runs_in u.b) k ≤ 1
  ends_apart k = omega (arith, apart k, parts k)

  pub ends_size : length (runs_in s.a) + length (runs_in u.b) ≤ length (runs_in t)
  ends_size =
      omega (arith, ap length s.runs ∙ length-append (runs_in s.a) (runs_in s.b), ap length u.runs ∙ length-append (runs_in u.a) (runs_in u.b))

  pub ends_none : (k : ℕ) → cover (runs_in t) k ≡ 0 → cover (runs_in s.a) k + cover (runs_in u.b) k ≡ 0
  ends_none k out = omega (arith, parts k)

  pub rest_none : (k : ℕ) → cover (runs_in t) k ≡ 0 → cover (runs_in s.b) k ≡ 0
  rest_none k out = omega (arith, parts k, upper k)

  pub low_within : IsWithin 0 (key_of at size + 1) s.a
  low_within = within_more 0 (key_of at size) 0 (key_of at size + 1) s.a (omega arith) (omega arith) s.below

  -- between the two cuts is the chunk alone
  pub middle : at < 2 ^ 27 → ((x : ℕ × ℕ) → Contains (runs_in u.a) x → x.0 < 2 ^ 27) → Contains (runs_in t) (at, size) → runs_in u.a ≡ (at, size) ∷ []
  middle low bounds there =
      let x : ℕ × ℕ = (at, size) in
      let in_parts : Contains (runs_in s.a ++ (runs_in u.a ++ runs_in u.b)) x = rw (← u.runs, ← s.runs) there in
      let in_middle : Contains (runs_in u.a) x =
      elim (Contains-append_cases (runs_in s.a) (runs_in u.a ++ runs_in u.b) x in_parts) [
        | inl a ↦ absurd (omega (arith, within_contains 0 (key_of at size) s.a x s.below a))
        | inr rest ↦ elim (Contains-append_cases (runs_in u.a) (runs_in u.b) x rest) [
          | inl m ↦ m
          | inr b ↦ absurd (omega (arith, within_contains (key_of at size + 1) (2 ^ 60) u.b x u.above b))
        ]
      ] in
      elim (within_one (key_of at size) u.a u.below) [
        | inl none ↦ let empty : Contains {X = ℕ × ℕ} [] x = subst (λ rs. Contains rs x) none in_middle in absurd (omega (arith, empty.1))
        | inr found ↦
            let there' : Contains (runs_in u.a) (found.0, found.1) = subst (λ rs. Contains rs (found.0, found.1)) (sym found.2) (0, omega arith, refl) in
            let same = same_run at size found.0 found.1 low (bounds (found.0, found.1) there') found.3 in
            found.2 ∙ ap (λ (y : ℕ × ℕ). y ∷ []) (ap (λ n. (n, found.1)) same.0 ∙ ap (λ n. (at, n)) same.1)
      ]

  pub removed : (end : List ℕ) (result : ℕ) → runs_in u.a ≡ (at, size) ∷ [] → Joins end s.a u.b result 0 (2 ^ 60) → Removes end t at size result
  removed end result alone j = record {
    t' = j.t;
    held = j.held;
    ordered = j.within;
    before = runs_in s.a;
    after = runs_in u.b;
    old_runs = rw (s.runs, u.runs, alone) refl;
    new_runs = j.runs;
  }
