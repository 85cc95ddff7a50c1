-- The pointer slots that are to have values.
use Rattle.std.proofs.Common.{◌≡◌, ◌≢◌, ℕ, true, false, not, ◌&&◌, ◌+◌, ◌-◌, ◌<◌, ◌≤◌, ltb, List, get_or, take, drop, refl, sym, ap, ◌∙◌, arith, Ok, Err, Result}
use Rattle.std.proofs.lemmas.Bool.{false≢true, and_parts, ne_eqb, eq-eqb, lt-ltb, ltb-true, not-true}
use Rattle.std.proofs.lemmas.List.{get_or-take, get_or-drop}
use Rattle.object_header.specs.Fields.{Fields, fields_of}
use Rattle.object_header.specs.Formats.{pointer_slots_of}
use Rattle.object_header.specs.Head.{class_of, format_of, literals_of}
use Rattle.spur_graph.specs.Cells.{Body, Store, cell_from, is_there, pointer_count}
use Rattle.spur_graph.specs.ImageCauses.{FindsLeast}
use Rattle.spur_graph.specs.Ordinary.{body_at, is_ordinary, is_good_word, is_bad_slot}
use Rattle.heap_cells.proofs.References.{ordinary_there}
use Rattle.image_words.specs.References.{IsBadPointerOf}
use Rattle.image_settle.specs.Settles.{IsNext}
use Rattle.image_settle.proofs.Slots.{the_body, body, count, count_fits}

-- the least of a set is that of an equal one
pub least_same : (P Q : ℕ → Type 0) (r : Result (Unit {0}) ℕ) → ((n : ℕ) → P n → Q n) → ((n : ℕ) → Q n → P n) → FindsLeast P r → FindsLeast Q r
least_same P Q (Ok a) to from none = λ n q. none n (from n q)
least_same P Q (Err n) to from least = record { is = to n least.is; none = λ m l q. least.none m l (from m q) }

-- what a bad pointer slot is
pub record IsBadAt (h : Store) (s i : ℕ) : Type 0 where
  pub ordinary : is_ordinary h s ≡ true
  pub inside : i < pointer_count (body_at h s)
  pub no_value : is_good_word h (get_or (body_at h s).words i 0) ≡ false

pub bad_at : (h : Store) (s i : ℕ) → is_bad_slot h s i ≡ true → IsBadAt h s i
bad_at h s i e =
    let parts = and_parts (is_ordinary h s && ltb i (pointer_count (body_at h s))) (not (is_good_word h (get_or (body_at h s).words i 0))) e in
    let front = and_parts (is_ordinary h s) (ltb i (pointer_count (body_at h s))) parts.0 in
    record { ordinary = front.0; inside = ltb-true i (pointer_count (body_at h s)) front.1; no_value = not-true _ parts.1 }

-- ---- one ordinary object

not_object : (f : Fields) (t : ℕ) (ws : List ℕ) → (f.class ≡ 0 → is_there (cell_from f t ws) ≡ false) × (f.class ≡ 8 → is_there (cell_from f t ws) ≡ false)
not_object f t ws = (
  λ e. rw (eq-eqb f.class 0 e) refl,
  λ e. rw (ne_eqb f.class 0 (λ z. omega (arith, e, z)), eq-eqb f.class 8 e) refl,
)

module _ {h : Store} {words : List ℕ} {header start slots : ℕ} (n : IsNext h words header start slots) (there : is_ordinary h start ≡ true) where
  pub not_free : class_of header ≢ 0
  not_free e =
      let none = (not_object (fields_of header) n.target (take slots (drop (start + 1) words))).0 e in
      false≢true (sym none ∙ ap is_there (sym n.cell) ∙ ordinary_there h start there)

  pub not_moved : class_of header ≢ 8
  not_moved e =
      let none = (not_object (fields_of header) n.target (take slots (drop (start + 1) words))).1 e in
      false≢true (sym none ∙ ap is_there (sym n.cell) ∙ ordinary_there h start there)

  pub body_here : body_at h start ≡ the_body n not_free not_moved
  body_here = body n not_free not_moved

  pub format_here : (body_at h start).format ≡ format_of header
  format_here = ap (λ (b : Body). b.format) body_here

  pub pointers_here : pointer_slots_of (format_of header) slots (literals_of (get_or words (start + 1) 0)) ≡ pointer_count (body_at h start)
  pointers_here = count n not_free not_moved ∙ ap pointer_count (sym body_here)

  word_here : (i : ℕ) → i < slots → get_or (body_at h start).words i 0 ≡ get_or words (start + 1 + i) 0
  word_here i l = ap (λ (b : Body). get_or b.words i 0) body_here ∙ get_or-take slots (drop (start + 1) words) i 0 l ∙ get_or-drop (start + 1) words i 0

  -- the least word of no value among the pointer slots is the least bad one
  pub least_here : format_of header ≢ 3 → (k : ℕ) → k ≡ pointer_slots_of (format_of header) slots (literals_of (get_or words (start + 1) 0)) → (r : Result (Unit {0}) ℕ)
      → FindsLeast (λ j. (start + 1 ≤ j) × (j < start + 1 + k) × (is_good_word h (get_or words j 0) ≡ false)) r → FindsLeast (IsBadPointerOf h start) r
  least_here other k e r least =
      let fits : k ≤ slots = count_fits n not_free not_moved k e in
      let Bad : ℕ → Type 0 = λ j. (start + 1 ≤ j) × (j < start + 1 + k) × (is_good_word h (get_or words j 0) ≡ false) in
      least_same Bad (IsBadPointerOf h start) r
      (λ j (low, high, bad).
      let i = j - (start + 1) in
      let is : j ≡ start + 1 + i = omega (arith, low) in
      let inside : i < pointer_count (body_at h start) = omega (arith, low, high, e, pointers_here) in
      let word : is_good_word h (get_or (body_at h start).words i 0) ≡ false = ap (is_good_word h) (word_here i (omega (arith, low, high, fits)) ∙ ap (λ m. get_or words m 0) (sym is)) ∙ bad in
      (i, is, (λ f. other (sym format_here ∙ f)), λ x. there x && lt-ltb i (pointer_count (body_at h start)) inside x && not (word x)))
      (λ j (i, is, format, bad).
      let b = bad_at h start i bad in
      let inside : i < k = omega (arith, b.inside, e, pointers_here) in
      (omega (arith, is), omega (arith, is, inside), ap (is_good_word h) (ap (λ m. get_or words m 0) is ∙ sym (word_here i (omega (arith, inside, fits)))) ∙ b.no_value))
      least
