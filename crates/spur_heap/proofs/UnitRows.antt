-- The slots of an object by its format, and its units, one by one.
use Rattle.std.proofs.Common.{◌≡◌, ◌≢◌, ℕ, zero, suc, true, not, ◌&&◌, ◌||◌, ◌+◌, ◌-◌, ◌*◌, ◌/◌, ◌%◌, ◌^◌, ◌<◌, ◌≤◌, eqb, ltb, List, ◌∷◌, length, drop, get_or, set, map, refl, sym, ap, ◌∙◌, arith, inl, inr}
use Rattle.std.specs.List.{range_with_len}
use Rattle.std.proofs.lemmas.Bool.{cases_eq, and_parts, not-true, ltb-false}
use Rattle.std.proofs.lemmas.List.{length-drop, get_or-drop, drop-set-add, get_or-set_same, get_or-set_other}
use Rattle.std.proofs.lemmas.List.FromFn.{get_or-map-range_with_len}
use Rattle.object_header.specs.Field.{field_of, with_field, SetsField}
use Rattle.object_header.specs.Formats.{is_method, unit_bytes_of, unused_of}
use Rattle.object_header.specs.Head.{is_refused_format, whole_units, has_literals}
use Rattle.object_header.specs.declared.header.TheConstants.{BRIDGE_CLASS}
use Rattle.object_header.proofs.Fields.{SetsField-with_field}
use Rattle.spur_graph.specs.Cells.{Body, pointer_count, unit_count, unit_at, units, is_formed}
use Rattle.heap_cells.proofs.Bodies.{pointers_fit}
use Rattle.spur_heap.specs.Sizes.{IsSize}
use Rattle.spur_heap.proofs.Sizes.{HasUnit, has_unit, units_apart, unit_inside}

-- ---- rows of numbers

row_same : (f g : ℕ → ℕ) (a n : ℕ) → ((i : ℕ) → i < n → g (a + i) ≡ f (a + i)) → map g (range_with_len a n) ≡ map f (range_with_len a n)
row_same f g a zero same = refl
row_same f g a (suc n) same =
    let here : a + 0 ≡ a = omega arith in
    ap (λ x. x ∷ map g (range_with_len (a + 1) n)) (ap g (sym here) ∙ (same 0 (omega arith) ∙ ap f here))
    ∙ ap (λ xs. f a ∷ xs) (row_same f g (a + 1) n (λ i low. let next : a + 1 + i ≡ a + (i + 1) = omega arith in ap g next ∙ (same (i + 1) (omega arith) ∙ ap f (sym next))))

row_set : (f g : ℕ → ℕ) (a n k v : ℕ) → k < n → g (a + k) ≡ v → ((i : ℕ) → i < n → i ≢ k → g (a + i) ≡ f (a + i)) → map g (range_with_len a n) ≡ set (map f (range_with_len a n)) k v
row_set f g a zero k v low is same = absurd (omega arith)
row_set f g a (suc n) zero v low is same =
    let here : a + 0 ≡ a = omega arith in
    ap (λ x. x ∷ map g (range_with_len (a + 1) n)) (ap g (sym here) ∙ is)
    ∙ ap (λ xs. v ∷ xs) (row_same f g (a + 1) n (λ i below. let next : a + 1 + i ≡ a + (i + 1) = omega arith in ap g next ∙ (same (i + 1) (omega arith) (λ e. omega (arith, e)) ∙ ap f (sym next))))
row_set f g a (suc n) (suc k) v low is same =
    let here : a + 0 ≡ a = omega arith in
    let last : a + 1 + k ≡ a + suc k = omega arith in
    ap (λ x. x ∷ map g (range_with_len (a + 1) n)) (ap g (sym here) ∙ (same 0 (omega arith) (λ e. omega (arith, e)) ∙ ap f here))
    ∙ ap (λ xs. f a ∷ xs) (row_set f g (a + 1) n k v (omega arith) (ap g last ∙ is)
    (λ i below ne. let next : a + 1 + i ≡ a + (i + 1) = omega arith in ap g next ∙ (same (i + 1) (omega arith) (λ e. ne (omega (arith, e))) ∙ ap f (sym next))))

-- unit `i` of some words is written
units_set : (u count : ℕ) (ws : List ℕ) (i v : ℕ) → IsSize u → i < count → i * u / 8 < length ws → v < 2 ^ (8 * u)
    → map (unit_at u (set ws (i * u / 8) (with_field (8 * (i * u % 8)) (8 * u) (get_or ws (i * u / 8) 0) v))) (range_with_len 0 count) ≡ set (map (unit_at u ws) (range_with_len 0 count)) i v
units_set u count ws i v size low inside range =
    let j = i * u / 8 in
    let x = with_field (8 * (i * u % 8)) (8 * u) (get_or ws j 0) v in
    let is : SetsField (8 * (i * u % 8)) (8 * u) (get_or ws j 0) v x = SetsField-with_field (get_or ws j 0) (8 * (i * u % 8)) (8 * u) v range in
    let here : (k : ℕ) → k * u / 8 ≡ j → get_or (set ws j x) (k * u / 8) 0 ≡ x = λ k e. ap (λ n. get_or (set ws j x) n 0) e ∙ get_or-set_same ws j x 0 inside in
    let other : (k : ℕ) → k < count → k ≢ i → unit_at u (set ws j x) k ≡ unit_at u ws k =
    λ k below ne. elim (cases_eq (k * u / 8) j) [
      | inl e ↦
          ap (field_of (8 * (k * u % 8)) (8 * u)) (here k e)
          ∙ (is.others (8 * (k * u % 8)) (8 * u) (units_apart u k i size ne e)
          ∙ ap (field_of (8 * (k * u % 8)) (8 * u)) (ap (λ n. get_or ws n 0) (sym e)))
      | inr n ↦ ap (field_of (8 * (k * u % 8)) (8 * u)) (get_or-set_other ws j (k * u / 8) x 0 n)
    ] in
    let same : (k : ℕ) → 0 + k ≡ k = λ k. omega arith in
    row_set (unit_at u ws) (unit_at u (set ws j x)) 0 count i v low (ap (unit_at u (set ws j x)) (same i) ∙ (ap (field_of (8 * (i * u % 8)) (8 * u)) (here i refl) ∙ is.reads))
    (λ k below ne. ap (unit_at u (set ws j x)) (same k) ∙ (other k below ne ∙ ap (unit_at u ws) (sym (same k))))

-- ---- units of a body

-- unit `i` of a body stands in one of its words
pub record UnitAt (b : Body) (i : ℕ) : Type 0 where
  pub size : IsSize (unit_bytes_of b.format)
  pub inside : pointer_count b + i * unit_bytes_of b.format / 8 < length b.words
  pub small : i * unit_bytes_of b.format < length b.words * 8
  pub read : get_or (units b) i 0 ≡ field_of (8 * (i * unit_bytes_of b.format % 8)) (8 * unit_bytes_of b.format) (get_or b.words (pointer_count b + i * unit_bytes_of b.format / 8) 0)

module _ (b : Body) (formed : is_formed b ≡ true) where
  -- the unused units are among those that fill the slots
  pub unused_fit : unused_of b.format ≤ whole_units b.format (length b.words) (pointer_count b)
  unfolding is_formed
  unused_fit =
      let off = not-true _ (and_parts (not (eqb b.class BRIDGE_CLASS) && not (is_refused_format b.format) && (not (is_method b.format) || has_literals (length b.words) (get_or b.words 0 0))) (not (ltb (whole_units b.format (length b.words) (pointer_count b)) (unused_of b.format))) formed).1 in
      ltb-false _ _ off

  module _ (i : ℕ) (low : i < unit_count b) where
    known : HasUnit b.format (length b.words) (pointer_count b) (unused_of b.format) i
    unfolding unit_count
    known = has_unit b.format (length b.words) (pointer_count b) (unused_of b.format) i low

    slot : (i * unit_bytes_of b.format / 8 < length b.words - pointer_count b) × (i * unit_bytes_of b.format < (length b.words - pointer_count b) * 8)
    slot = unit_inside (unit_bytes_of b.format) i (length b.words - pointer_count b) (unused_of b.format) known.size known.low

    pub a_unit : UnitAt b i
    a_unit =
        let fit = pointers_fit b formed in
        let u : ℕ = unit_bytes_of b.format in
        record {
          size = known.size;
          inside = omega (arith, slot, fit);
          small = omega (arith, slot, fit);
          read = get_or-map-range_with_len (unit_at u (drop (pointer_count b) b.words)) 0 (unit_count b) i i 0 low (omega arith)
              ∙ ap (field_of (8 * (i * u % 8)) (8 * u)) (get_or-drop (pointer_count b) b.words (i * u / 8) 0);
        }

    -- unit `i` is written
    module _ (v : ℕ) (range : v < 2 ^ (8 * unit_bytes_of b.format)) where
      abbrev at : ℕ
      at = pointer_count b + i * unit_bytes_of b.format / 8

      pub units_written : map (unit_at (unit_bytes_of b.format) (drop (pointer_count b) (set b.words at (with_field (8 * (i * unit_bytes_of b.format % 8)) (8 * unit_bytes_of b.format) (get_or b.words at 0) v)))) (range_with_len 0 (unit_count b)) ≡ set (units b) i v
      units_written =
          let u : ℕ = unit_bytes_of b.format in
          let behind : List ℕ = drop (pointer_count b) b.words in
          let word : get_or b.words at 0 ≡ get_or behind (i * u / 8) 0 = sym (get_or-drop (pointer_count b) b.words (i * u / 8) 0) in
          let x : ℕ = with_field (8 * (i * u % 8)) (8 * u) (get_or b.words at 0) v in
          let room : i * u / 8 < length behind = omega (arith, slot, length-drop (pointer_count b) b.words) in
          ap (λ ws. map (unit_at u ws) (range_with_len 0 (unit_count b))) (drop-set-add (pointer_count b) b.words (i * u / 8) x)
          ∙ ap (λ y. map (unit_at u (set behind (i * u / 8) (with_field (8 * (i * u % 8)) (8 * u) y v))) (range_with_len 0 (unit_count b))) word
          ∙ units_set u (unit_count b) behind i v known.size low room range
