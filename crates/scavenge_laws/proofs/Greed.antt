-- Survivors one after another.
use Rattle.std.proofs.Common.{◌≡◌, ℕ, Bool, true, false, ◌+◌, ◌≤◌, ◌&&◌, cond, List, [], ◌∷◌, ◌++◌, refl, sym, ap, ◌∙◌, arith}
use Rattle.std.proofs.lemmas.Bool.{leb-true, and_parts}
use Rattle.std.specs.Prelude.{nat_le}
use Rattle.scavenge_laws.specs.Greedy.{Survivor, staying_words, tenured_words, ArePlacedGreedily}

-- one more survivor, behind those that were placed
pub placed_more : (room used : ℕ) (log : List Survivor) (s : Survivor) → ArePlacedGreedily room used log → s.stays ≡ (s.from_eden && nat_le ((used + staying_words log) + s.words) room) → ArePlacedGreedily room used (log ++ s ∷ [])
placed_more room used [] s p e = (e ∙ ap (λ n. s.from_eden && nat_le (n + s.words) room) (let k : used + 0 ≡ used = omega arith in k), tt)
placed_more room used (t ∷ log) s p e =
    (p.0, placed_more room (used + cond t.stays t.words 0) log s p.1 (e ∙ ap (λ n. s.from_eden && nat_le (n + s.words) room) (let k : used + (cond t.stays t.words 0 + staying_words log) ≡ (used + cond t.stays t.words 0) + staying_words log = omega arith in k)))

pub staying_more : (log : List Survivor) (s : Survivor) → staying_words (log ++ s ∷ []) ≡ staying_words log + cond s.stays s.words 0
staying_more [] s = omega arith
staying_more (t ∷ log) s = omega (arith, staying_more log s)

pub tenured_more : (log : List Survivor) (s : Survivor) → tenured_words (log ++ s ∷ []) ≡ tenured_words log + cond s.stays 0 s.words
tenured_more [] s = omega arith
tenured_more (t ∷ log) s = omega (arith, tenured_more log s)

-- those that stay fit into the room
pub staying_fits : (room used : ℕ) (log : List Survivor) → used ≤ room → ArePlacedGreedily room used log → used + staying_words log ≤ room
staying_fits room used [] l p = omega arith
staying_fits room used (t ∷ log) l p =
    let rest = staying_fits room (used + cond t.stays t.words 0) log (by t.stays refl) p.1 in
    omega (arith, rest)
  where
    by : (b : Bool) → t.stays ≡ b → used + cond b t.words 0 ≤ room
    by false e = omega arith
    by true e = leb-true (used + t.words) room (and_parts t.from_eden (nat_le (used + t.words) room) (sym p.0 ∙ e)).1
