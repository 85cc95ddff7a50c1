-- The least class index that has no entry.
use Rattle.std.proofs.Common.{◌≡◌, ◌<◌, ◌≤◌, ◌+◌, ◌-◌, ℕ, suc, Bool, true, false, cond, refl, ap, ◌∙◌, Some, arith}
use Rattle.std.specs.Option.{is_none, unwrap_or}
use Rattle.std.specs.List.{find, range_with_len}
use Rattle.std.specs.FinMap.{get}
use Rattle.spur_graph.specs.Graph.{Graph}
use Rattle.spur_graph.specs.Hashes.{free_index, first_entered}
use Rattle.spur_graph.specs.Ordinary.{class_limit}

-- the index has no entry
abbrev pub is_free_index : Graph → ℕ → Bool
is_free_index g i = is_none (get g.classes i)

-- the least of these indices, the limit where there is none
unfoldable pub least : (ℕ → Bool) → ℕ → ℕ → ℕ → ℕ
least p limit i n = unwrap_or (find p (range_with_len i n)) limit

least-here : (p : ℕ → Bool) (limit i n : ℕ) → p i ≡ true → least p limit i (suc n) ≡ i
unfolding least
least-here p limit i n on = ap (λ b. unwrap_or (cond b (Some i) (find p (range_with_len (i + 1) n))) limit) on

least-next : (p : ℕ → Bool) (limit i n : ℕ) → p i ≡ false → least p limit i (suc n) ≡ least p limit (i + 1) n
unfolding least
least-next p limit i n off = ap (λ b. unwrap_or (cond b (Some i) (find p (range_with_len (i + 1) n))) limit) off

least-none : (p : ℕ → Bool) (limit i : ℕ) → least p limit i 0 ≡ limit
unfolding least
least-none p limit i = refl

-- the least index from `i` on that has no entry
unfoldable pub least_from : Graph → ℕ → ℕ
least_from g i = least (is_free_index g) class_limit i (class_limit - i)

pub from_first : (g : Graph) → free_index g ≡ least_from g first_entered
unfolding free_index least_from least
from_first g = refl

module _ (g : Graph) (i : ℕ) (low : i < class_limit) where
  more : class_limit - i ≡ suc (class_limit - (i + 1))
  more = omega (arith, low)

  pub found_here : is_free_index g i ≡ true → least_from g i ≡ i
  unfolding least_from
  found_here on = ap (least (is_free_index g) class_limit i) more ∙ least-here (is_free_index g) class_limit i (class_limit - (i + 1)) on

  pub found_later : is_free_index g i ≡ false → least_from g i ≡ least_from g (i + 1)
  unfolding least_from
  found_later off = ap (least (is_free_index g) class_limit i) more ∙ least-next (is_free_index g) class_limit i (class_limit - (i + 1)) off

pub found_none : (g : Graph) (i : ℕ) → class_limit ≤ i → least_from g i ≡ class_limit
unfolding least_from
found_none g i past =
    let none : class_limit - i ≡ 0 = omega (arith, past) in
    ap (least (is_free_index g) class_limit i) none ∙ least-none (is_free_index g) class_limit i
