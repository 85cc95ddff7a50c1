-- The rows of causes by their numbers.
use Rattle.std.proofs.Common.{◌≡◌, ℕ, ◌≤◌, cond, eqb, refl, sym, ap, ◌∙◌, arith}
use Rattle.spur_graph.specs.ImageCauses.{Row, NoHeader, OtherFormat, OtherHeader, BadBase, TooLarge, NoHeap, BadSegment, BadObject, BadRoot, BadForwarder, BadPage, BadEntry, BadSlot, BadSpecial, number}

-- the row of a number
abbrev row_at : ℕ → Row
row_at n =
    cond (eqb n 1) NoHeader (cond (eqb n 2) OtherFormat (cond (eqb n 3) OtherHeader (cond (eqb n 4) BadBase (cond (eqb n 5) TooLarge (cond (eqb n 6) NoHeap (cond (eqb n 7) BadSegment
    (cond (eqb n 8) BadObject (cond (eqb n 9) BadRoot (cond (eqb n 10) BadForwarder (cond (eqb n 11) BadPage (cond (eqb n 12) BadEntry (cond (eqb n 13) BadSlot BadSpecial))))))))))))

row_back : (r : Row) → row_at (number r) ≡ r
row_back NoHeader = refl
row_back OtherFormat = refl
row_back OtherHeader = refl
row_back BadBase = refl
row_back TooLarge = refl
row_back NoHeap = refl
row_back BadSegment = refl
row_back BadObject = refl
row_back BadRoot = refl
row_back BadForwarder = refl
row_back BadPage = refl
row_back BadEntry = refl
row_back BadSlot = refl
row_back BadSpecial = refl

-- rows of one number are one
pub row_same : (r q : Row) → number r ≡ number q → r ≡ q
row_same r q e = sym (row_back r) ∙ ap row_at e ∙ row_back q

pub row_low : (r : Row) → 1 ≤ number r
row_low NoHeader = omega arith
row_low OtherFormat = omega arith
row_low OtherHeader = omega arith
row_low BadBase = omega arith
row_low TooLarge = omega arith
row_low NoHeap = omega arith
row_low BadSegment = omega arith
row_low BadObject = omega arith
row_low BadRoot = omega arith
row_low BadForwarder = omega arith
row_low BadPage = omega arith
row_low BadEntry = omega arith
row_low BadSlot = omega arith
row_low BadSpecial = omega arith
