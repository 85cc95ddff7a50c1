-- Lists that were lent whole or from some place on, and that come back with as many elements.
use Rattle.std.proofs.Common.{◌≡◌, ℕ, ◌+◌, ◌-◌, ◌≤◌, List, [], ◌++◌, take, drop, length, refl, sym, ap, ◌∙◌, arith, length-append, length-drop}
use Rattle.std.proofs.lemmas.List.{append-nil, drop-append-le, drop_all, length-take-le, take_all}
use Rattle.std.specs.Prelude.{Vec, slice_range, vec_len}
use Rattle.std.specs.List.{refill}
use Rattle.std.specs.Vec.{with_items, with_items_from}
use Rattle.spur_words.specs.Lending.{with_run}

module _ {X : Type 0} (xs ws : List X) where
  pub lent-whole : length ws ≡ length xs → refill (length xs) xs ws ≡ ws
  lent-whole e =
      ap (λ ys. take (length xs) (ws ++ ys)) (drop_all (length ws) xs (omega (arith, e))) ∙ ap (take (length xs)) (append-nil ws) ∙ take_all (length xs) ws (omega (arith, e))

  pub lent-behind : (n : ℕ) → n ≤ length xs → length ws ≡ length xs - n → refill (length xs) xs (take n xs ++ (ws ++ drop (length ws) (drop n xs))) ≡ take n xs ++ ws
  lent-behind n l e =
      let none : drop (length ws) (drop n xs) ≡ [] = drop_all (length ws) (drop n xs) (omega (arith, e, length-drop n xs)) in
      let all : take n xs ++ (ws ++ drop (length ws) (drop n xs)) ≡ take n xs ++ ws = ap (λ ys. take n xs ++ (ws ++ ys)) none ∙ ap (λ ys. take n xs ++ ys) (append-nil ws) in
      ap (refill (length xs) xs) all ∙ refilled (take n xs ++ ws) (omega (arith, length-append (take n xs) ws, length-take-le n xs l, e, l))
    where
      refilled : (ys : List X) → length ys ≡ length xs → refill (length xs) xs ys ≡ ys
      refilled ys e = ap (λ zs. take (length xs) (ys ++ zs)) (drop_all (length ys) xs (omega (arith, e))) ∙ ap (take (length xs)) (append-nil ys) ∙ take_all (length xs) ys (omega (arith, e))

  pub drop-behind : (n : ℕ) → n ≤ length xs → drop n (take n xs ++ ws) ≡ ws
  drop-behind n l = drop-append-le n (take n xs) ws (omega (arith, length-take-le n xs l)) ∙ ap (λ ys. ys ++ ws) (drop_all n (take n xs) (omega (arith, length-take-le n xs l)))

-- a region that was lent whole
pub region-lent : (words run : List ℕ) → length run ≡ length words → refill (length words) words (with_run words 0 run) ≡ run
region-lent words run e = lent-behind words run 0 (omega arith) (omega (arith, e))

-- a run of all words
pub run-whole : {X : Type 0} (xs : List X) → slice_range xs 0 (0 + length xs) ≡ xs
run-whole xs = take_all (0 + length xs - 0) xs (omega arith)

module _ {X Z : Type 0} (v : Vec X Z) where
  pub run-behind : (n : ℕ) → slice_range v.items n (vec_len v) ≡ drop n v.items
  run-behind n = take_all (vec_len v - n) (drop n v.items) (let long = v.ok.0 in omega (arith, length-drop n v.items, long))

  -- a vector that was lent whole keeps its length
  pub items-long : (ws : List X) → length (with_items v ws).items ≡ length v.items
  items-long ws = sym (with_items v ws).ok.0 ∙ v.ok.0

  pub items-behind : (ws : List X) (n : ℕ) → n ≤ length v.items → length ws ≡ length (drop n v.items) → (with_items_from v n ws).items ≡ take n v.items ++ ws
  items-behind ws n l e = ap (λ m. refill m v.items (take n v.items ++ (ws ++ drop (length ws) (drop n v.items)))) v.ok.0 ∙ lent-behind v.items ws n l (omega (arith, e, length-drop n v.items))
