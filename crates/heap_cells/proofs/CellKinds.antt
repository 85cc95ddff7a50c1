-- Whether a cell is empty, moved or there, as one test tells of another.
use Rattle.std.proofs.Common.{◌≡◌, ℕ, List, Bool, true, false, eqb, not, ◌&&◌, inl, inr, refl, sym, ◌∙◌}
use Rattle.std.proofs.lemmas.Bool.{false≢true, cases_Bool}
use Rattle.object_header.specs.Fields.{Fields}
use Rattle.spur_graph.specs.Cells.{cell_from, Cell, Empty, Moved, There, is_start, is_moved, is_there, target_of, body_of}

pub there_starts : (x : Cell) → is_there x ≡ true → is_start x ≡ true
there_starts Empty e = e
there_starts (Moved t) e = refl
there_starts (There b) e = refl

pub there_is_not_moved : (x : Cell) → is_there x ≡ true → is_moved x ≡ false
there_is_not_moved Empty e = refl
there_is_not_moved (Moved t) e = sym e
there_is_not_moved (There b) e = refl

pub there_is : (x : Cell) → is_there x ≡ true → x ≡ There (body_of x)
there_is Empty e = absurd (false≢true e)
there_is (Moved t) e = absurd (false≢true e)
there_is (There b) e = refl

pub moved_starts : (x : Cell) → is_moved x ≡ true → is_start x ≡ true
moved_starts Empty e = e
moved_starts (Moved t) e = refl
moved_starts (There b) e = refl

pub moved_is_not_there : (x : Cell) → is_moved x ≡ true → is_there x ≡ false
moved_is_not_there Empty e = refl
moved_is_not_there (Moved t) e = refl
moved_is_not_there (There b) e = sym e

pub moved_is : (x : Cell) → is_moved x ≡ true → x ≡ Moved (target_of x)
moved_is Empty e = absurd (false≢true e)
moved_is (Moved t) e = refl
moved_is (There b) e = absurd (false≢true e)

pub start_is_there_or_moved : (x : Cell) → is_start x ≡ true → is_there x ≡ not (is_moved x)
start_is_there_or_moved Empty e = e
start_is_there_or_moved (Moved t) e = refl
start_is_there_or_moved (There b) e = refl

pub unmoved_is_there : (x : Cell) → is_moved x ≡ false → is_there x ≡ is_start x
unmoved_is_there Empty e = refl
unmoved_is_there (Moved t) e = sym e
unmoved_is_there (There b) e = refl

pub no_start_is_not_moved : (x : Cell) → is_start x ≡ false → is_moved x ≡ false
no_start_is_not_moved Empty e = refl
no_start_is_not_moved (Moved t) e = e
no_start_is_not_moved (There b) e = refl

pub no_start_is_not_there : (x : Cell) → is_start x ≡ false → is_there x ≡ false
no_start_is_not_there x e = unmoved_is_there x (no_start_is_not_moved x e) ∙ e

-- the class of a header tells whether a cell begins there
pub start_from : (f : Fields) (next : ℕ) (ws : List ℕ) → is_start (cell_from f next ws) ≡ not (eqb f.class 0)
start_from f next ws = elim (cases_Bool (eqb f.class 0)) [
  | inl on ↦ rw on refl
  | inr off ↦ elim (cases_Bool (eqb f.class 8)) [
    | inl moved ↦ rw (off, moved) refl
    | inr there ↦ rw (off, there) refl
  ]
]

-- two tests tell together whether a cell is moved: the first has the starts, the second tells of a start
pub moved_is_told : (x : Cell) (has test : Bool) → has ≡ is_start x → (is_start x ≡ true → is_moved x ≡ test) → is_moved x ≡ has && test
moved_is_told x true test e told = told (sym e)
moved_is_told x false test e told = no_start_is_not_moved x (sym e)
