-- A chunk is put into a tree: by a cut at its key, and a join at it.
use Rattle.std.proofs.Common.{◌≡◌, ℕ, ◌+◌, ◌^◌, ◌≤◌, List, length, get_or, arith, ap, ◌∙◌}
use Rattle.free_lists.specs.Runs.{IsFree, covers, cover}
use Rattle.free_lists.specs.Trees.{Tree, runs_in, key_of, Splits, IsApartFrom, Inserts, Parts, Makes}
use Rattle.free_lists.proofs.Covers.{cover-append}
use Rattle.free_lists.proofs.Branches.{kept_free}
use Rattle.free_lists.proofs.Ordered.{within_strict}

pub key_bound : (words : List ℕ) (at size : ℕ) → length words ≤ 2 ^ 27 → IsFree words at size → key_of at size + 1 ≤ 2 ^ 60
key_bound words at size small free = omega (arith, free.inside, free.big)

module _ (old mid : List ℕ) (t : Tree) (at size low_link high_link : ℕ) (small : length old ≤ 2 ^ 27) (free : IsFree old at size) (large : 64 ≤ size)
    (apart : IsApartFrom t at size) (long : length mid ≡ length old) (others : (k : ℕ) → cover (runs_in t) k ≡ 0 → get_or mid k 0 ≡ get_or old k 0)
    (s : Splits mid t low_link high_link (key_of at size) 0 (2 ^ 60)) where
  parts : (k : ℕ) → cover (runs_in t) k ≡ cover (runs_in s.a) k + cover (runs_in s.b) k
  parts k = ap (λ rs. cover rs k) s.runs ∙ cover-append (runs_in s.a) (runs_in s.b) k

  free_mid : IsFree mid at size
  free_mid = kept_free old mid at size long (λ k some. others k (omega (arith, apart k))) free

  pub insert_parts : Parts mid low_link at high_link s.a size s.b 0 (2 ^ 60)
  insert_parts = record {
    left = s.held_a;
    free = free_mid;
    large = large;
    right = s.held_b;
    apart = λ k. omega (arith, apart k, parts k);
    from = omega arith;
    to = omega (arith, key_bound old at size small free);
    before = s.below;
    behind = within_strict mid high_link s.b at size (2 ^ 60) (omega arith) free_mid s.held_b.tree (λ k. omega (arith, apart k, parts k)) s.above;
  }

  pub insert_made : (new : List ℕ) (result : ℕ) → Makes new s.a at size s.b result 0 (2 ^ 60) → Inserts new t at size result
  insert_made new result m = record { t' = m.t; held = m.held; ordered = m.within; before = runs_in s.a; after = runs_in s.b; old_runs = s.runs; new_runs = m.runs }

  pub insert_none : (k : ℕ) → cover (runs_in t) k + covers k (at, size) ≡ 0 → (cover (runs_in s.a) k + covers k (at, size) + cover (runs_in s.b) k ≡ 0) × (cover (runs_in t) k ≡ 0)
  insert_none k out = (omega (arith, parts k), omega arith)
