-- The three rows of a heap as one row in order.
use Rattle.std.proofs.Common.{◌≡◌, ℕ, ◌+◌, ◌≤◌, List, [], ◌++◌, length, ◌∙◌, inl, inr, arith, sym, ap, subst}
use Rattle.std.specs.List.{Contains}
use Rattle.std.proofs.lemmas.List.{append-nil}
use Rattle.spur_graph.specs.declared.limits.Limits.{Limits}
use Rattle.object_header.specs.Chunks.{Chunk, Cuts, InOrder, row}
use Rattle.spur_graph.specs.Spaces.{Spaces, AreSpaces, AreRows, old_row, eden_row, past_row, young_row, rows}
use Rattle.heap_cells.specs.RowWrites.{KeepsChunk}
use Rattle.heap_cells.proofs.Members.{In, listed, in_left, in_right}
use Rattle.heap_cells.proofs.Cutting.{cuts-in_order, in_order-append, in_order-wider, row-is}
use Rattle.heap_cells.proofs.Writing.{row-kept}

module _ (words : List ℕ) (limits : Limits) (p : Spaces) (k : AreSpaces (length words) limits p) where
  -- past space is one of the two survivor spaces
  pub first_past : p.first_at ≤ p.past_at
  first_past = elim k.past_is [ inl e ↦ omega (arith, e) | inr e ↦ let b = k.second_behind in omega (arith, e, b) ]

  past_last : p.past_at + limits.survivor ≤ length words
  past_last = elim k.past_is [
    | inl e ↦ let a = k.second_behind in let b = k.last in omega (arith, e, a, b)
    | inr e ↦ let b = k.last in omega (arith, e, b)
  ]

  -- eden ends before past space begins
  pub eden_past : p.eden_at + p.eden_used ≤ p.past_at
  eden_past = let a = first_past in let b = k.first_behind in let c = k.eden_fits in omega (arith, a, b, c)

  pub past_inside : p.past_at + p.past_used ≤ length words
  past_inside = let a = past_last in let c = k.past_fits in omega (arith, a, c)

  pub old_inside : p.old_end ≤ length words
  old_inside = let a = eden_past in let b = past_inside in let c = k.eden_behind in omega (arith, a, b, c)

  module _ (r : AreRows words p) where
    pub young-in_order : InOrder words p.eden_at (length words) (young_row words p)
    young-in_order = in_order-wider words p.eden_at (p.past_at + p.past_used) (length words) (young_row words p)
        (in_order-append words p.eden_at (p.eden_at + p.eden_used) p.past_at (p.past_at + p.past_used) (eden_row words p) (past_row words p)
        (cuts-in_order words p.eden_at (p.eden_at + p.eden_used) (eden_row words p) r.eden) eden_past (cuts-in_order words p.past_at (p.past_at + p.past_used) (past_row words p) r.past))
        past_inside

    pub rows-in_order : InOrder words 0 (length words) (rows words p)
    rows-in_order = in_order-append words 0 p.old_end p.eden_at (length words) (old_row words p) (young_row words p)
        (cuts-in_order words 0 p.old_end (old_row words p) r.old) k.eden_behind young-in_order

-- ---- words that tell the same chunks

-- the rows are as before
pub record SameRows (words new : List ℕ) (p : Spaces) : Type 0 where
  pub old : old_row new p ≡ old_row words p
  pub eden : eden_row new p ≡ eden_row words p
  pub past : past_row new p ≡ past_row words p

module _ (words new : List ℕ) (p : Spaces) (same : SameRows words new p) where
  pub young-same : young_row new p ≡ young_row words p
  young-same = λ x. same.eden x ++ same.past x

  pub rows-same : rows new p ≡ rows words p
  rows-same = λ x. same.old x ++ young-same x

-- one of the three rows, in words that tell the same chunks
pub one-row : (words new : List ℕ) (from end : ℕ) → Cuts words from end (row words from end)
    → ((c : Chunk) → In (row words from end) c → KeepsChunk words new c) → (row new from end ≡ row words from end) × Cuts new from end (row new from end)
one-row words new from end t keeps =
    let k : Cuts new from end (row words from end) = row-kept words new from end (row words from end) t keeps in
    let e = row-is new from end (row words from end) k in
    (e, subst (λ cs. Cuts new from end cs) (sym e) k)

pub rows-kept : (words new : List ℕ) (p : Spaces) → AreRows words p → ((c : Chunk) → Contains (rows words p) c → KeepsChunk words new c) → SameRows words new p × AreRows new p
rows-kept words new p r keeps =
    let of_old : (c : Chunk) → In (old_row words p) c → KeepsChunk words new c = λ c m. keeps c (listed (rows words p) c (in_left (old_row words p) (young_row words p) c m)) in
    let of_young : (c : Chunk) → In (young_row words p) c → KeepsChunk words new c = λ c m. keeps c (listed (rows words p) c (in_right (old_row words p) (young_row words p) c m)) in
    let old = one-row words new 0 p.old_end r.old of_old in
    let eden = one-row words new p.eden_at (p.eden_at + p.eden_used) r.eden (λ c m. of_young c (in_left (eden_row words p) (past_row words p) c m)) in
    let past = one-row words new p.past_at (p.past_at + p.past_used) r.past (λ c m. of_young c (in_right (eden_row words p) (past_row words p) c m)) in
    let five = r.five in
    let same : length (old_row new p) ≡ length (old_row words p) = ap (λ (cs : List Chunk). length cs) old.0 in
    (record { old = old.0; eden = eden.0; past = past.0 }, record { old = old.1; eden = eden.1; past = past.1; five = omega (arith, five, same) })

-- ---- nothing stands in new space

pub empty-row : (words : List ℕ) (at used : ℕ) → used ≡ 0 → row words at (at + used) ≡ []
empty-row words at used none = row-is words at (at + used) [] (omega (arith, none))

pub one-space : (words : List ℕ) (p : Spaces) → p.eden_used ≡ 0 → p.past_used ≡ 0 → rows words p ≡ old_row words p
one-space words p eden past = (λ x. old_row words p ++ (empty-row words p.eden_at p.eden_used eden x ++ empty-row words p.past_at p.past_used past x)) ∙ append-nil (old_row words p)
