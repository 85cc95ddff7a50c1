-- Words of which some are mapped.
use Rattle.std.proofs.Common.{◌≡◌, ℕ, suc, zero, ◌+◌, ◌<◌, List, [], ◌∷◌, drop, length, get_or, refl, ap, ◌∙◌, arith}
use Rattle.heap_cells.specs.Settled.{map_front, map_from}

pub length-front : (g : ℕ → ℕ) (n : ℕ) (ws : List ℕ) → length (map_front g n ws) ≡ length ws
length-front g zero ws = refl
length-front g (suc n) [] = refl
length-front g (suc n) (w ∷ ws) = ap suc (length-front g n ws)

pub front-in : (g : ℕ → ℕ) (n i : ℕ) (ws : List ℕ) → i < n → i < length ws → get_or (map_front g n ws) i 0 ≡ g (get_or ws i 0)
front-in g zero i ws l k = absurd (omega arith)
front-in g (suc n) i [] l k = absurd (omega arith)
front-in g (suc n) zero (w ∷ ws) l k = refl
front-in g (suc n) (suc i) (w ∷ ws) l k = front-in g n i ws (omega arith) (omega arith)

pub drop-front : (g : ℕ → ℕ) (n : ℕ) (ws : List ℕ) → drop n (map_front g n ws) ≡ drop n ws
drop-front g zero ws = refl
drop-front g (suc n) [] = refl
drop-front g (suc n) (w ∷ ws) = drop-front g n ws

-- a first word that stays where it is mapped
pub front-first : (g : ℕ → ℕ) (n : ℕ) (ws : List ℕ) → g (get_or ws 0 0) ≡ get_or ws 0 0 → get_or (map_front g n ws) 0 0 ≡ get_or ws 0 0
front-first g zero ws e = refl
front-first g (suc n) [] e = refl
front-first g (suc n) (w ∷ ws) e = e

pub length-from : (g : ℕ → ℕ → ℕ) (k : ℕ) (ws : List ℕ) → length (map_from g k ws) ≡ length ws
length-from g k [] = refl
length-from g k (w ∷ ws) = ap suc (length-from g (k + 1) ws)

pub from-in : (g : ℕ → ℕ → ℕ) (k i : ℕ) (ws : List ℕ) → i < length ws → get_or (map_from g k ws) i 0 ≡ g (k + i) (get_or ws i 0)
from-in g k i [] l = absurd (omega arith)
from-in g k zero (w ∷ ws) l = let e : k ≡ k + 0 = omega arith in ap (λ j. g j w) e
from-in g k (suc i) (w ∷ ws) l = let e : k + 1 + i ≡ k + suc i = omega arith in from-in g (k + 1) i ws (omega arith) ∙ ap (λ j. g j (get_or ws i 0)) e
