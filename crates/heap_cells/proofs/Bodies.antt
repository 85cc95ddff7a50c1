-- What a body with other words has in common with the body.
use Rattle.std.proofs.Common.{◌≡◌, ℕ, Bool, true, false, cond, not, ◌&&◌, ◌||◌, ◌+◌, ◌-◌, ◌%◌, ◌<◌, ◌≤◌, eqb, ltb, List, map, drop, length, get_or, sym, ap, ◌∙◌, arith, inl, inr}
use Rattle.std.proofs.lemmas.Bool.{cases_lt, lt-ltb, le-ltb, and_parts, eqb-true, ltb-true}
use Rattle.std.proofs.lemmas.Bool.Decides.{nat_tests}
use Rattle.std.specs.List.{range_with_len}
use Rattle.object_header.specs.Field.{field_of}
use Rattle.object_header.specs.Formats.{unit_bytes_of, unused_of, is_method, pointer_slots_of}
use Rattle.object_header.specs.Head.{is_refused_format, literals_of, whole_units, has_literals}
use Rattle.object_header.specs.declared.header.TheConstants.{BRIDGE_CLASS}
use Rattle.spur_graph.specs.Cells.{Body, pointer_count, unit_count, is_formed, units, unit_at}

-- only a method reads its first slot
pub pointers-same : (f n l m : ℕ) → (24 ≤ f → l ≡ m) → pointer_slots_of f n l ≡ pointer_slots_of f n m
pointers-same f n l m e = elim (cases_lt f 24) [
  | inl a ↦ let q : (x : ℕ) → cond (ltb f 24) 0 (x + 1) ≡ 0 = λ x. ap (λ b. cond b 0 (x + 1)) (lt-ltb f 24 a) in ap (cond (ltb f 6) n) (q l ∙ sym (q m))
  | inr a ↦ ap (pointer_slots_of f n) (e a)
]

abbrev pub with_words : Body → List ℕ → Body
with_words b ws = record b { words = ws }

-- as many words, and in a method the same first one
pub record IsLike (b : Body) (ws : List ℕ) : Type 0 where
  pub long : length ws ≡ length b.words
  pub first : 24 ≤ b.format → get_or ws 0 0 ≡ get_or b.words 0 0

pub pointer_count-same : (b : Body) (ws : List ℕ) → IsLike b ws → pointer_count (with_words b ws) ≡ pointer_count b
unfolding pointer_count
pointer_count-same b ws k =
    pointers-same b.format (length ws) (literals_of (get_or ws 0 0)) (literals_of (get_or b.words 0 0)) (λ a. ap literals_of (k.first a))
    ∙ ap (λ n. pointer_slots_of b.format n (literals_of (get_or b.words 0 0))) k.long

pub unit_count-same : (b : Body) (ws : List ℕ) → IsLike b ws → unit_count (with_words b ws) ≡ unit_count b
unfolding unit_count
unit_count-same b ws k = λ i. whole_units b.format (k.long i) (pointer_count-same b ws k i) - unused_of b.format

not_method : (f : ℕ) → f < 24 → is_method f ≡ false
not_method f l = le-ltb 23 f (omega arith)

a_method : (f : ℕ) → 24 ≤ f → is_method f ≡ true
a_method f l = lt-ltb 23 f (omega arith)

method-same : (f n v w : ℕ) → (24 ≤ f → v ≡ w) → (not (is_method f) || has_literals n v) ≡ (not (is_method f) || has_literals n w)
method-same f n v w e = elim (cases_lt f 24) [
  | inl a ↦ let q : (x : Bool) → (not (is_method f) || x) ≡ true = λ x. ap (λ b. not b || x) (not_method f a) in q (has_literals n v) ∙ sym (q (has_literals n w))
  | inr a ↦ ap (λ x. not (is_method f) || has_literals n x) (e a)
]

pub is_formed-same : (b : Body) (ws : List ℕ) → IsLike b ws → is_formed (with_words b ws) ≡ is_formed b
unfolding is_formed
is_formed-same b ws k =
    let a : (not (is_method b.format) || has_literals (length ws) (get_or ws 0 0)) ≡ (not (is_method b.format) || has_literals (length b.words) (get_or b.words 0 0)) =
    method-same b.format (length ws) (get_or ws 0 0) (get_or b.words 0 0) k.first ∙ ap (λ n. not (is_method b.format) || has_literals n (get_or b.words 0 0)) k.long in
    λ i. not (eqb b.class BRIDGE_CLASS) && not (is_refused_format b.format) && a i && not (ltb (whole_units b.format (k.long i) (pointer_count-same b ws k i)) (unused_of b.format))

pub units-same : (b : Body) (ws : List ℕ) → IsLike b ws → drop (pointer_count b) ws ≡ drop (pointer_count b) b.words → units (with_words b ws) ≡ units b
units-same b ws k e =
    let rest : drop (pointer_count (with_words b ws)) ws ≡ drop (pointer_count b) b.words = ap (λ n. drop n ws) (pointer_count-same b ws k) ∙ e in
    λ i. map (unit_at (unit_bytes_of b.format) (rest i)) (range_with_len 0 (unit_count-same b ws k i))

third : (a b c d : Bool) → (a && b && c && d) ≡ true → c ≡ true
third a b c d e = (and_parts ((a && b)) c (and_parts ((a && b) && c) d e).0).1

literals_there : (b : Body) → is_formed b ≡ true → 24 ≤ b.format → has_literals (length b.words) (get_or b.words 0 0) ≡ true
unfolding is_formed
literals_there b f l =
    let c = third (not (eqb b.class BRIDGE_CLASS)) (not (is_refused_format b.format)) (not (is_method b.format) || has_literals (length b.words) (get_or b.words 0 0)) (not (ltb (whole_units b.format (length b.words) (pointer_count b)) (unused_of b.format))) f in
    sym (ap (λ t. not t || has_literals (length b.words) (get_or b.words 0 0)) (a_method b.format l)) ∙ c

-- the first word of a method is a SmallInteger
pub first_tag : (b : Body) → is_formed b ≡ true → 24 ≤ b.format → get_or b.words 0 0 % 8 ≡ 1
unfolding field_of
first_tag b f l =
    let t = eqb-true _ _ (and_parts (ltb (literals_of (get_or b.words 0 0)) (length b.words)) (eqb (field_of 0 3 (get_or b.words 0 0)) 1) (literals_there b f l)).1 in
    omega (arith, t)

-- no pointer slot is behind the words
pub pointers_fit : (b : Body) → is_formed b ≡ true → pointer_count b ≤ length b.words
unfolding pointer_count
pointers_fit b f = elim (cases_lt b.format 24) [
  | inl a ↦ below b.format (length b.words) (literals_of (get_or b.words 0 0)) a
  | inr a ↦
      let t : literals_of (get_or b.words 0 0) < length b.words = ltb-true _ _ (and_parts (ltb (literals_of (get_or b.words 0 0)) (length b.words)) (eqb (field_of 0 3 (get_or b.words 0 0)) 1) (literals_there b f a)).0 in
      above b.format (length b.words) (literals_of (get_or b.words 0 0)) a t
]
  where
    below : (f n m : ℕ) → f < 24 → pointer_slots_of f n m ≤ n
    below f n m a = elim (cases_lt f 6) [
      | inl c ↦ let q : pointer_slots_of f n m ≡ n = ap (λ t. cond t n (cond (ltb f 24) 0 (m + 1))) (lt-ltb f 6 c) in omega (arith, q)
      | inr c ↦ let q : pointer_slots_of f n m ≡ 0 = ap (λ t. cond t n (cond (ltb f 24) 0 (m + 1))) (le-ltb f 6 c) ∙ ap (λ t. cond t 0 (m + 1)) (lt-ltb f 24 a) in omega (arith, q)
    ]

    above : (f n m : ℕ) → 24 ≤ f → m < n → pointer_slots_of f n m ≤ n
    above f n m a l =
        let d : 6 ≤ f = omega arith in
        let q : pointer_slots_of f n m ≡ m + 1 = ap (λ t. cond t n (cond (ltb f 24) 0 (m + 1))) (le-ltb f 6 d) ∙ ap (λ t. cond t 0 (m + 1)) (le-ltb f 24 a) in
        omega (arith, q)

-- a body of words alone has all of them as pointers
pub all_pointers : (b : Body) → b.format < 6 → pointer_count b ≡ length b.words
unfolding pointer_count
all_pointers b l = ap (λ t. cond t (length b.words) (cond (ltb b.format 24) 0 (literals_of (get_or b.words 0 0) + 1))) (lt-ltb b.format 6 l)

-- a method has a pointer slot at least
pub method_some : (b : Body) → 24 ≤ b.format → 0 < pointer_count b
unfolding pointer_count
method_some b l = some b.format (length b.words) (literals_of (get_or b.words 0 0)) (lt-ltb 23 b.format (omega arith))
  where
    some : (f n m : ℕ) → is_method f ≡ true → 0 < pointer_slots_of f n m
    some f n m method = grind (arith, nat_tests, method)

-- ---- another body of the same class and format

pub pointer_count-like : (b b' : Body) → b'.format ≡ b.format → IsLike b b'.words → pointer_count b' ≡ pointer_count b
unfolding pointer_count
pointer_count-like b b' format like = ap (λ f. pointer_slots_of f (length b'.words) (literals_of (get_or b'.words 0 0))) format ∙ pointer_count-same b b'.words like

pub is_formed-like : (b b' : Body) → b'.class ≡ b.class → b'.format ≡ b.format → IsLike b b'.words → is_formed b' ≡ is_formed b
unfolding is_formed pointer_count
is_formed-like b b' class format like = (λ x. let c : Body = record b' { class = class x; format = format x } in is_formed c) ∙ is_formed-same b b'.words like
