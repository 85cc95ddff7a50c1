-- Words that are mapped one after another.
use Rattle.std.proofs.Common.{◌≡◌, ℕ, suc, zero, ◌<◌, List, [], ◌∷◌, map, length, get_or, set, refl, ap, arith}
use Rattle.heap_cells.specs.Settled.{map_front}

module _ (f : ℕ → ℕ) where
  -- the next word is as it was
  pub front-next : (n : ℕ) (ws : List ℕ) → get_or (map_front f n ws) n 0 ≡ get_or ws n 0
  front-next zero ws = refl
  front-next (suc n) [] = refl
  front-next (suc n) (w ∷ ws) = front-next n ws

  -- it is mapped
  pub front-set : (n : ℕ) (ws : List ℕ) → n < length ws → set (map_front f n ws) n (f (get_or ws n 0)) ≡ map_front f (suc n) ws
  front-set n [] l = absurd (omega (arith, l))
  front-set zero (w ∷ ws) l = refl
  front-set (suc n) (w ∷ ws) l = ap (λ us. f w ∷ us) (front-set n ws (omega (arith, l)))

  -- all are mapped
  pub front-all : (ws : List ℕ) → map_front f (length ws) ws ≡ map f ws
  front-all [] = refl
  front-all (w ∷ ws) = ap (λ us. f w ∷ us) (front-all ws)
