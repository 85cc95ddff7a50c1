-- Two good words have one value exactly where they are one word once they are followed.
use Rattle.std.proofs.Common.{◌≡◌, ◌≢◌, inl, inr, ◌<◌, ℕ, ◌%◌, ◌/◌, ◌^◌, ◌-◌, ◌*◌, Bool, true, false, refl, ap, sym, subst, ◌∙◌, arith}
use Rattle.std.specs.Prelude.{◌==◌, ◌&&◌, ◌||◌, nat_lt, pos, negsuc, if◌then◌else◌, Option, Some, None}
use Rattle.std.specs.Option.{unwrap_or}
use Rattle.std.proofs.lemmas.Bool.{false≢true, cases_Bool, eqb-true, eq-eqb, ne_eqb}
use Rattle.spur_graph.specs.declared.answer.Value.{Value}
use Rattle.spur_graph.specs.declared.answer.Value.TheVariants.{Int, Char, Float, Ref}
use Rattle.spur_graph.specs.Value.{int_of, is_immediate_word, same_int, same_value}
use Rattle.spur_graph.specs.Cells.{first}
use Rattle.spur_graph.specs.CellGraph.{read, reference}
use Rattle.spur_graph.specs.Heaps.{View, heap_value, own_name}
use Rattle.heap_cells.proofs.Both.{immediate_stays}
use Rattle.spur_heap.specs.Views.{IsGood, store, follows}
use Rattle.spur_heap.proofs.Leads.{reference_leads, good_reference}

-- what a word is, by its value
data IsRead (w : ℕ) : Value → Type 0 where
  as_ref : (s : ℕ) → w ≡ 8 * s → IsRead w (Ref s)
  as_int : w % 8 ≡ 1 → IsRead w (Int (int_of w))
  as_char : w % 8 ≡ 2 → IsRead w (Char (w / 8))
  as_float : w % 8 ≡ 4 → IsRead w (Float w)

-- the value of the word of an immediate, by the tests of its tag and of its code
abbrev value_with : Bool → Bool → Bool → Bool → Bool → (ℕ → Value) → ℕ → Option Value
value_with zeros one two small four named word =
    if zeros then Some (named word) else if one then Some (Int (int_of word)) else if two then (if small then Some (Char (word / 8)) else None) else if four then Some (Float word) else None

read_by_tests : (zeros one two small four : Bool) (named : ℕ → Value) (w nil : ℕ) → (one ≡ true → w % 8 ≡ 1) → (two ≡ true → w % 8 ≡ 2) → (four ≡ true → w % 8 ≡ 4) → (zeros ≡ true → one ≡ false) → (zeros ≡ true → two ≡ false)
    → (zeros ≡ true → four ≡ false) → (two ≡ true → four ≡ false) → (one || (two && small) || four) ≡ true → IsRead w (unwrap_or (value_with zeros one two small four named w) (Ref nil))
read_by_tests true one two small four named w nil is1 is2 is4 not1 not2 not4 apart on = absurd (false≢true (rw (not1 refl, not2 refl, not4 refl) at on))
read_by_tests false true two small four named w nil is1 is2 is4 not1 not2 not4 apart on = as_int (is1 refl)
read_by_tests false false true true four named w nil is1 is2 is4 not1 not2 not4 apart on = as_char (is2 refl)
read_by_tests false false true false four named w nil is1 is2 is4 not1 not2 not4 apart on = absurd (false≢true (sym (apart refl) ∙ on))
read_by_tests false false false small true named w nil is1 is2 is4 not1 not2 not4 apart on = as_float (is4 refl)
read_by_tests false false false small false named w nil is1 is2 is4 not1 not2 not4 apart on = absurd (false≢true on)

-- a word with one tag has no other
tag_apart : (w m n : ℕ) → m ≢ n → (w % 8 == m) ≡ true → (w % 8 == n) ≡ false
tag_apart w m n apart is = ne_eqb (w % 8) n (λ e. apart (sym (eqb-true (w % 8) m is) ∙ e))

immediate_read : (v : View) (w : ℕ) → is_immediate_word w ≡ true → IsRead w (heap_value v w)
unfolding read
immediate_read v w on =
    read_by_tests (w % 8 == 0) (w % 8 == 1) (w % 8 == 2) (nat_lt (w / 8) (2 ^ 30)) (w % 8 == 4) (reference own_name (store v)) w (first (store v) 0) (eqb-true (w % 8) 1) (eqb-true (w % 8) 2) (eqb-true (w % 8) 4)
    (tag_apart w 0 1 (λ e. cc)) (tag_apart w 0 2 (λ e. cc)) (tag_apart w 0 4 (λ e. cc)) (tag_apart w 2 4 (λ e. cc)) on

-- what a good word is once it is followed
followed_read : (v : View) (word w : ℕ) → IsGood v word → follows v word w → IsRead w (heap_value v word)
followed_read v word w good is = elim (cases_Bool (is_immediate_word word)) [
  | inl on ↦ let same : w ≡ word = is ∙ immediate_stays (store v) word on in subst (λ u. IsRead u (heap_value v word)) (sym same) (immediate_read v word on)
  | inr off ↦
      let l = reference_leads v word (good_reference v word good off) in
      let P : Value → Type 0 = IsRead w in
      subst P (sym l.value) (as_ref l.start (is ∙ l.settled))
]

apart_tags : (a b m n : ℕ) → a % 8 ≡ m → b % 8 ≡ n → m ≢ n → false ≡ (a == b)
apart_tags a b m n left right apart = sym (ne_eqb a b (λ e. apart (sym left ∙ ap (λ w. w % 8) e ∙ right)))

eqb_same : (p q a b : ℕ) → (p ≡ q → a ≡ b) → (a ≡ b → p ≡ q) → (p == q) ≡ (a == b)
eqb_same p q a b to from = elim (a == b) as (λ v. (a == b) ≡ v → (p == q) ≡ v) [
  | true ↦ λ e. eq-eqb p q (from (eqb-true a b e))
  | false ↦ λ e. ne_eqb p q (λ f. absurd (false≢true (sym e ∙ eq-eqb a b (to f))))
] refl

int_by_sign : (a b : ℕ) (p q : Bool) → a % 8 ≡ 1 → b % 8 ≡ 1 → a < 2 ^ 64 → b < 2 ^ 64 → nat_lt a (2 ^ 63) ≡ p → nat_lt b (2 ^ 63) ≡ q
    → same_int (if p then pos (a / 8) else negsuc ((2 ^ 64 - 1 - a) / 8)) (if q then pos (b / 8) else negsuc ((2 ^ 64 - 1 - b) / 8)) ≡ (a == b)
int_by_sign a b true true left right low high left_sign right_sign = eqb_same (a / 8) (b / 8) a b (λ e. omega (arith, e, left, right)) (λ e. ap (λ w. w / 8) e)
int_by_sign a b true false left right low high left_sign right_sign = sym (ne_eqb a b (λ e. absurd (false≢true (sym right_sign ∙ ap (λ w. nat_lt w (2 ^ 63)) (sym e) ∙ left_sign))))
int_by_sign a b false true left right low high left_sign right_sign = sym (ne_eqb a b (λ e. absurd (false≢true (sym left_sign ∙ ap (λ w. nat_lt w (2 ^ 63)) e ∙ right_sign))))
int_by_sign a b false false left right low high left_sign right_sign = eqb_same ((2 ^ 64 - 1 - a) / 8) ((2 ^ 64 - 1 - b) / 8) a b (λ e. omega (arith, e, left, right, low, high)) (λ e. ap (λ w. (2 ^ 64 - 1 - w) / 8) e)

same_read : (a b : ℕ) (v u : Value) → a < 2 ^ 64 → b < 2 ^ 64 → IsRead a v → IsRead b u → same_value v u ≡ (a == b)
same_read a b _ _ low high (as_ref s left) (as_ref t right) = eqb_same s t a b (λ e. omega (arith, e, left, right)) (λ e. omega (arith, e, left, right))
same_read a b _ _ low high (as_ref s left) (as_int right) = apart_tags a b 0 1 (omega (arith, left)) right (λ e. cc)
same_read a b _ _ low high (as_ref s left) (as_char right) = apart_tags a b 0 2 (omega (arith, left)) right (λ e. cc)
same_read a b _ _ low high (as_ref s left) (as_float right) = apart_tags a b 0 4 (omega (arith, left)) right (λ e. cc)
same_read a b _ _ low high (as_int left) (as_ref t right) = apart_tags a b 1 0 left (omega (arith, right)) (λ e. cc)
same_read a b _ _ low high (as_int left) (as_int right) = int_by_sign a b (nat_lt a (2 ^ 63)) (nat_lt b (2 ^ 63)) left right low high refl refl
same_read a b _ _ low high (as_int left) (as_char right) = apart_tags a b 1 2 left right (λ e. cc)
same_read a b _ _ low high (as_int left) (as_float right) = apart_tags a b 1 4 left right (λ e. cc)
same_read a b _ _ low high (as_char left) (as_ref t right) = apart_tags a b 2 0 left (omega (arith, right)) (λ e. cc)
same_read a b _ _ low high (as_char left) (as_int right) = apart_tags a b 2 1 left right (λ e. cc)
same_read a b _ _ low high (as_char left) (as_char right) = eqb_same (a / 8) (b / 8) a b (λ e. omega (arith, e, left, right)) (λ e. ap (λ w. w / 8) e)
same_read a b _ _ low high (as_char left) (as_float right) = apart_tags a b 2 4 left right (λ e. cc)
same_read a b _ _ low high (as_float left) (as_ref t right) = apart_tags a b 4 0 left (omega (arith, right)) (λ e. cc)
same_read a b _ _ low high (as_float left) (as_int right) = apart_tags a b 4 1 left right (λ e. cc)
same_read a b _ _ low high (as_float left) (as_char right) = apart_tags a b 4 2 left right (λ e. cc)
same_read a b _ _ low high (as_float left) (as_float right) = refl

pub same_words : (v : View) (a b x y : ℕ) → x < 2 ^ 64 → y < 2 ^ 64 → IsGood v a → IsGood v b → follows v a x → follows v b y → same_value (heap_value v a) (heap_value v b) ≡ (x == y)
same_words v a b x y low high left right to onto = same_read x y (heap_value v a) (heap_value v b) low high (followed_read v a x left to) (followed_read v b y right onto)
