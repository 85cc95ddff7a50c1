-- The table of remembered starts: it never gets full, and a start more is remembered.
use Rattle.std.proofs.Common.{ℕ, ◌≡◌, ◌≢◌, ◌/◌, ◌+◌, ◌<◌, ◌≤◌, Bool, true, false, not, cond, ◌&&◌, ◌||◌, eqb, ltb, List, [], ◌∷◌, ◌++◌, length, Contains, refl, sym, ap, ◌∙◌, subst, arith, inl, inr}
use Rattle.std.proofs.lemmas.Bool.{false≢true, false_from_ne_true, cases_Bool, cases_eq, cases_lt, lt-ltb, le-ltb, eq-eqb, ne_eqb, eqb-true, and_parts, and_right, or_cases, or_right}
use Rattle.std.proofs.lemmas.List.{length-map, length_push}
use Rattle.std.proofs.lemmas.List.Folds.{list_any-append}
use Rattle.std.proofs.lemmas.Map.Keys.{IsDistinct-from_apart}
use Rattle.std.proofs.lemmas.Map.Made.{length-le_from_is_member}
use Rattle.std.specs.Cmp.{nat_eq_equiv}
use Rattle.std.specs.List.{list_any}
use Rattle.object_header.specs.Chunks.{Chunk}
use Rattle.spur_graph.specs.Heaps.{View, store_of, chunks_of, is_remembered}
use Rattle.heap_cells.specs.Rows.{starts_of}
use Rattle.heap_cells.proofs.AddedRoom.{any-has}
use Rattle.heap_cells.proofs.Members.{in_list}
use Rattle.remembered_set.specs.Starts.{Table, AreDistinct}
use Rattle.remembered_set.proofs.Distinct.{distinct-push}
use Rattle.spur_heap.specs.declared.heap.HeapParts.{HeapParts}
use Rattle.spur_heap.specs.Parts.{view_of, is_noted, HasRemembered}
use Rattle.spur_heap.specs.Remembering.{CanNote, noted, noted_by}
use Rattle.spur_heap.specs.Tables.{has, IsTableOf}
use Rattle.spur_heap.specs.Words.{AreSound, starts_at}
use Rattle.spur_heap.proofs.FewObjects.{few_chunks}
use Rattle.spur_heap.proofs.Hops.{start_at}
use Rattle.spur_heap.proofs.Orders.{order}

-- ---- a list of starts

pub or_false : (b : Bool) → (b || false) ≡ b
or_false true = refl
or_false false = refl

pub and_true : (b : Bool) → (b && true) ≡ b
and_true true = refl
and_true false = refl

has-push : (starts : List ℕ) (s t : ℕ) → has (starts ++ s ∷ []) t ≡ (has starts t || eqb t s)
has-push starts s t = list_any-append (eqb t) starts (s ∷ []) ∙ ap (λ b. has starts t || b) (or_false (eqb t s))

pub not_there : (starts : List ℕ) (s : ℕ) → has starts s ≡ false → Contains starts s → ⊥
not_there starts s off there = false≢true (sym off ∙ any-has (eqb s) starts s (in_list starts s there) (eq-eqb s s refl))

-- starts of which none stands twice are at most half as many as there are words
few_starts : (v : View) → AreSound v → (ss : List ℕ) → AreDistinct ss → ((s : ℕ) → has ss s ≡ true → starts_at v s ≡ true) → length ss ≤ length v.words / 2
few_starts v k ss distinct starts =
    let once = IsDistinct-from_apart eqb ss (λ i j d l m. ne_eqb _ _ (distinct i j d l m)) in
    let among : (q : ℕ) → list_any (eqb q) ss ≡ true → list_any (eqb q) (starts_of (chunks_of v)) ≡ true = λ q on.
    any-has (eqb q) (starts_of (chunks_of v)) q (in_list (starts_of (chunks_of v)) q (start_at v k q (starts q on)).stands) (eq-eqb q q refl) in
    let few = length-le_from_is_member nat_eq_equiv ss (starts_of (chunks_of v)) once among in
    let chunks = few_chunks v.words 0 (length v.words) (chunks_of v) (order v k) in
    let same : length (starts_of (chunks_of v)) ≡ length (chunks_of v) = length-map (chunks_of v) (λ (c : Chunk). c.start) in
    omega (arith, few, chunks, same)

-- so that a start that is not there yet has a place
pub has_place : (p : HeapParts) (s : ℕ) → CanNote p s → has p.remembered.starts s ≡ false → length p.remembered.starts < p.remembered.capacity
has_place p s can off =
    let starts : (t : ℕ) → has (p.remembered.starts ++ s ∷ []) t ≡ true → starts_at (view_of p) t ≡ true = λ t on. elim (or_cases (has p.remembered.starts t) (eqb t s) (sym (has-push p.remembered.starts s t) ∙ on)) [
      | inl before ↦ can.starts t before
      | inr e ↦ ap (starts_at (view_of p)) (eqb-true t s e) ∙ can.there
    ] in
    let few = few_starts (view_of p) can.sound (p.remembered.starts ++ s ∷ []) (distinct-push p.remembered.starts s can.once (not_there p.remembered.starts s off)) starts in
    let one = length_push p.remembered.starts s in
    let places = can.places in
    omega (arith, few, one, places)

-- ---- the table of a test

pub table_same : {test other : ℕ → Bool} {m n : ℕ} {table : Table} → ((s : ℕ) → other s ≡ test s) → n ≡ m → IsTableOf test m table → IsTableOf other n table
table_same same long k = record { once = k.once; exactly = λ s. k.exactly s ∙ sym (same s); places = let places = k.places in omega (arith, places, long) }

-- a start more is remembered, where it has to be
module _ (v : View) (test : ℕ → Bool) (words : ℕ) (table : Table) (k : IsTableOf test words table) (s : ℕ) where
  pushed : test s ≡ false → IsTableOf (λ t. test t || eqb t s) words (record table { starts = table.starts ++ s ∷ [] })
  pushed off = record {
    once = distinct-push table.starts s k.once (not_there table.starts s (k.exactly s ∙ off));
    exactly = λ t. has-push table.starts s t ∙ ap (λ b. b || eqb t s) (k.exactly t);
    places = k.places;
  }

  there_already : test s ≡ true → (t : ℕ) → (test t || eqb t s) ≡ test t
  there_already on t = elim (cases_eq t s) [
    | inl e ↦ or_right (test t) (eqb t s) (eq-eqb t s e) ∙ sym (ap test e ∙ on)
    | inr n ↦ ap (λ b. test t || b) (ne_eqb t s n) ∙ or_false (test t)
  ]

  pub noted_table : (on : Bool) → is_remembered v.words s ≡ test s → IsTableOf (λ t. test t || (on && eqb t s)) words (noted v on s table)
  noted_table false same = table_same (λ t. or_false (test t)) refl k
  noted_table true same = elim (cases_Bool (is_remembered v.words s)) [
    | inl was ↦
        subst (λ b. IsTableOf (λ t. test t || eqb t s) words (cond (not b) (record table { starts = table.starts ++ s ∷ [] }) table)) (sym was)
        (table_same (there_already (sym same ∙ was)) refl k)
    | inr off ↦
        subst (λ b. IsTableOf (λ t. test t || eqb t s) words (cond (not b) (record table { starts = table.starts ++ s ∷ [] }) table)) (sym off) (pushed (sym same ∙ off))
  ]

-- ---- the parts

pub can_note_in : (p : HeapParts) → AreSound (view_of p) → (test : ℕ → Bool) → IsTableOf test (length p.region) p.remembered → ((t : ℕ) → test t ≡ true → starts_at (view_of p) t ≡ true) → (s : ℕ) → starts_at (view_of p) s ≡ true
    → (is_remembered p.region s ≡ false → test s ≡ false) → CanNote p s
can_note_in p sound test k starts s there absent = record {
  sound = sound;
  there = there;
  once = k.once;
  starts = λ t on. starts t (sym (k.exactly t) ∙ on);
  places = k.places;
  absent = λ off. k.exactly s ∙ absent off;
}

pub noted_starts : (v : View) (t : ℕ) → is_noted v t ≡ true → starts_at v t ≡ true
noted_starts v t on = (and_parts (starts_at v t) (is_remembered v.words t) on).0

-- the bit of a start tells it
pub noted_bit : (v : View) (s : ℕ) → starts_at v s ≡ true → is_noted v s ≡ is_remembered v.words s
noted_bit v s there = ap (λ b. b && is_remembered v.words s) there

pub can_note : (p : HeapParts) → AreSound (view_of p) → HasRemembered p → (s : ℕ) → starts_at (view_of p) s ≡ true → CanNote p s
can_note p sound k s there = can_note_in p sound (is_noted (view_of p)) k.table (noted_starts (view_of p)) s there (λ off. noted_bit (view_of p) s there ∙ off)

-- ---- the table made anew, start by start

module _ (v : View) (words : ℕ) (at : ℕ) where
  -- a remembered start before `at`
  abbrev pub passed : ℕ → Bool
  passed t = ltb t at && is_noted v t

  pub none_passed : at ≡ 0 → (starts : List ℕ) → starts ≡ [] → (t : ℕ) → has starts t ≡ passed t
  none_passed zero starts none t = ap (λ ss. has ss t) none ∙ sym (ap (λ b. b && is_noted v t) (le-ltb t at (omega (arith, zero))))

  -- nothing before `at` but what was passed, where nothing starts from there up to `s`
  module _ (s : ℕ) (from : at ≤ s) (there : starts_at v s ≡ true) (none : (k : ℕ) → at ≤ k → k < s → starts_at v k ≡ false) where
    pub next_passed : (t : ℕ) → (ltb t (s + 1) && is_noted v t) ≡ (passed t || (is_remembered v.words s && eqb t s))
    next_passed t = elim (cases_lt t s) [
      | inl low ↦
          (λ i. (lt-ltb t (s + 1) (omega (arith, low)) i && is_noted v t)) ∙ before t low
          ∙ sym (ap (λ b. passed t || b) (ap (λ b. is_remembered v.words s && b) (ne_eqb t s (λ e. omega (arith, e, low))) ∙ and_right (is_remembered v.words s) false refl) ∙ or_false (passed t))
      | inr high ↦ elim (cases_eq t s) [
        | inl e ↦
            (λ i. (lt-ltb t (s + 1) (omega (arith, e)) i && is_noted v t)) ∙ ap (is_noted v) e ∙ noted_bit v s there ∙ sym (and_true (is_remembered v.words s))
            ∙ sym ((λ i. (ap (λ b. b && is_noted v t) (le-ltb t at (omega (arith, e, from))) i) || (is_remembered v.words s && eq-eqb t s e i)))
        | inr n ↦
            (λ i. (le-ltb t (s + 1) (omega (arith, high, n)) i && is_noted v t))
            ∙ sym ((λ i. (ap (λ b. b && is_noted v t) (le-ltb t at (omega (arith, high, from))) i) || (ap (λ b. is_remembered v.words s && b) (ne_eqb t s n) ∙ and_right (is_remembered v.words s) false refl) i))
      ]
    ]
      where
        before : (t : ℕ) → t < s → is_noted v t ≡ passed t
        before t low = elim (cases_lt t at) [
          | inl passed ↦ λ i. (sym (lt-ltb t at passed) i && is_noted v t)
          | inr ahead ↦ ap (λ b. b && is_remembered v.words t) (none t ahead low) ∙ sym (ap (λ b. b && is_noted v t) (le-ltb t at ahead))
        ]

    pub not_passed : passed s ≡ false
    not_passed = ap (λ b. b && is_noted v s) (le-ltb s at from)

    pub passed_table : (table : Table) → IsTableOf passed words table → IsTableOf (λ t. ltb t (s + 1) && is_noted v t) words (noted_by (is_remembered v.words s) s table)
    passed_table table k = table_same next_passed refl (elim (cases_Bool (is_remembered v.words s)) [
      | inl on ↦ subst (λ b. IsTableOf (λ t. passed t || (b && eqb t s)) words (noted_by b s table)) (sym on) (pushed v passed words table k s not_passed)
      | inr off ↦ subst (λ b. IsTableOf (λ t. passed t || (b && eqb t s)) words (noted_by b s table)) (sym off) (table_same (λ t. or_false (passed t)) refl k)
    ])

  -- at the end of old space all were passed
  pub all_passed : ((k : ℕ) → at ≤ k → is_noted v k ≡ true → ⊥) → (t : ℕ) → is_noted v t ≡ passed t
  all_passed none t = elim (cases_lt t at) [
    | inl low ↦ λ i. (sym (lt-ltb t at low) i && is_noted v t)
    | inr ahead ↦ false_from_ne_true (is_noted v t) (none t ahead) ∙ sym (ap (λ b. b && is_noted v t) (le-ltb t at ahead))
  ]

-- ---- two starts more

module _ (v : View) (words : ℕ) (table : Table) (k : IsTableOf (is_noted v) words table) (a b : ℕ) (first : starts_at v a ≡ true) (second : starts_at v b ≡ true) (apart : a ≢ b) (on : Bool) where
  -- the second is not the first
  unnoted : (is_noted v b || (on && eqb b a)) ≡ is_noted v b
  unnoted = ap (λ x. is_noted v b || x) (ap (λ x. on && x) (ne_eqb b a (λ e. apart (sym e))) ∙ and_right on false refl) ∙ or_false (is_noted v b)

  pub once_table : IsTableOf (λ t. is_noted v t || (on && eqb t a)) words (noted v on a table)
  once_table = noted_table v (is_noted v) words table k a on (sym (noted_bit v a first))

  pub twice_table : (also : Bool) → IsTableOf (λ t. (is_noted v t || (on && eqb t a)) || (also && eqb t b)) words (noted v also b (noted v on a table))
  twice_table also = noted_table v (λ t. is_noted v t || (on && eqb t a)) words (noted v on a table) once_table b also (sym (unnoted ∙ noted_bit v b second))

  pub starts_once : (t : ℕ) → (is_noted v t || (on && eqb t a)) ≡ true → starts_at v t ≡ true
  starts_once t is = elim (or_cases (is_noted v t) (on && eqb t a) is) [
    | inl was ↦ noted_starts v t was
    | inr now ↦ ap (starts_at v) (eqb-true t a (and_parts on (eqb t a) now).1) ∙ first
  ]

  pub absent_once : is_remembered v.words b ≡ false → (is_noted v b || (on && eqb b a)) ≡ false
  absent_once off = unnoted ∙ noted_bit v b second ∙ off

pub can_note_twice : (p : HeapParts) → AreSound (view_of p) → HasRemembered p → (a b : ℕ) → starts_at (view_of p) a ≡ true → starts_at (view_of p) b ≡ true → a ≢ b → (on : Bool)
    → CanNote (record p { remembered = noted (view_of p) on a p.remembered }) b
can_note_twice p sound k a b first second apart on =
    let v : View = view_of p in
    can_note_in (record p { remembered = noted v on a p.remembered }) sound (λ t. is_noted v t || (on && eqb t a)) (once_table v (length p.region) p.remembered k.table a b first second apart on)
    (starts_once v (length p.region) p.remembered k.table a b first second apart on) b second (absent_once v (length p.region) p.remembered k.table a b first second apart on)
