-- The rows of causes, in their order.
use Rattle.std.proofs.Common.{◌≡◌, ℕ, ◌<◌, ◌≤◌, refl, sym, ◌∙◌, subst, arith, inl, inr}
use Rattle.std.proofs.lemmas.Bool.{cases_lt, cases_eq}
use Rattle.spur_graph.specs.ImageCauses.{Row, NoHeader, OtherFormat, OtherHeader, BadBase, TooLarge, NoHeap, BadSegment, BadObject, BadRoot, BadForwarder, BadPage, BadEntry, BadSlot, BadSpecial, number, Bad, told, IsLeast}
use Rattle.spur_graph.proofs.RowNumbers.{row_same, row_low}
use Rattle.image_laws.specs.Causes.{NothingBefore, NextRow, NoneIsAccepted, LeastIsFirst, AnyIsLeast, CauseOnce, AcceptedHasNone}

row_high : (r : Row) → number r ≤ 14
row_high NoHeader = omega arith
row_high OtherFormat = omega arith
row_high OtherHeader = omega arith
row_high BadBase = omega arith
row_high TooLarge = omega arith
row_high NoHeap = omega arith
row_high BadSegment = omega arith
row_high BadObject = omega arith
row_high BadRoot = omega arith
row_high BadForwarder = omega arith
row_high BadPage = omega arith
row_high BadEntry = omega arith
row_high BadSlot = omega arith
row_high BadSpecial = omega arith

pub nothing_before : NothingBefore
nothing_before bytes limits other low = absurd (let a = row_low other in omega (arith, a, low))

pub next_row : NextRow
next_row bytes limits row next e before none other low = elim (cases_eq (number other) (number row)) [
  | inl same ↦ subst (λ r. (n : ℕ) → Bad bytes limits r n → ⊥) (sym (row_same other row same)) none
  | inr apart ↦ before other (omega (arith, e, low, apart))
]

pub none_is_accepted : NoneIsAccepted
none_is_accepted bytes limits before none row = elim (cases_eq (number row) 14) [
  | inl last ↦ subst (λ r. (n : ℕ) → Bad bytes limits r n → ⊥) (sym (row_same row BadSpecial last)) none
  | inr apart ↦ let a = row_high row in before row (omega (arith, a, apart))
]

pub least_is_first : LeastIsFirst
least_is_first bytes limits row n before least = record { row = row; key = n; least = least; before = before; is = refl }

pub any_is_least : AnyIsLeast
any_is_least bytes limits row bad = record { is = bad; none = λ m low b. absurd (omega (arith, low)) }

least_once : (P : ℕ → Type 0) (m n : ℕ) → IsLeast P m → IsLeast P n → m ≡ n
least_once P m n a b = elim (cases_lt m n) [
  | inl low ↦ absurd (b.none m low a.is)
  | inr high ↦ elim (cases_lt n m) [
    | inl low ↦ absurd (a.none n low b.is)
    | inr low ↦ omega (arith, high, low)
  ]
]

pub cause_once : CauseOnce
cause_once bytes limits c d a b =
    let not_before : number a.row < number b.row → ⊥ = λ l. b.before a.row l a.key a.least.is in
    let not_behind : number b.row < number a.row → ⊥ = λ l. a.before b.row l b.key b.least.is in
    let level : number a.row ≡ number b.row = elim (cases_lt (number a.row) (number b.row)) [
      | inl low ↦ absurd (not_before low)
      | inr high ↦ elim (cases_lt (number b.row) (number a.row)) [
        | inl low ↦ absurd (not_behind low)
        | inr low ↦ omega (arith, high, low)
      ]
    ] in
    let row : a.row ≡ b.row = row_same a.row b.row level in
    let key : a.key ≡ b.key = least_once (Bad bytes limits b.row) a.key b.key (subst (λ r. IsLeast (Bad bytes limits r) a.key) row a.least) b.least in
    a.is ∙ (λ i. told bytes limits (row i) (key i)) ∙ sym b.is

pub accepted_has_none : AcceptedHasNone
accepted_has_none bytes limits c accepted first = accepted first.row first.key first.least.is
