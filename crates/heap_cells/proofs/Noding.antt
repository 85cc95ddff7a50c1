-- The node of a formed object is one that an object can have.
use Rattle.std.proofs.Common.{◌≡◌, ℕ, suc, true, false, cond, ◌+◌, ◌-◌, ◌*◌, ◌/◌, ◌%◌, ◌^◌, ◌<◌, ◌≤◌, eqb, leb, ltb, List, [], ◌∷◌, map, take, drop, length, get_or, refl, sym, ap, ◌∙◌, subst, arith, inl, inr}
use Rattle.std.specs.Prelude.{pos, negsuc}
use Rattle.std.proofs.lemmas.Bool.{cases_lt, cases_Bool, cases_eq, lt-ltb, le-ltb, leb-true, ltb-true, ltb-false, and_parts, not-true}
use Rattle.std.proofs.lemmas.List.{length-map, length-take}
use Rattle.std.proofs.lemmas.List.Elements.{All-map, All-take}
use Rattle.std.proofs.lemmas.List.FromFn.{length-map-range_with_len}
use Rattle.std.specs.List.{range_with_len}
use Rattle.object_header.specs.Field.{field_of}
use Rattle.object_header.specs.Formats.{unit_bytes_of, unused_of}
use Rattle.object_header.specs.Head.{is_refused_format, literals_of, whole_units}
use Rattle.object_header.proofs.Fields.{field_of-lt}
use Rattle.spur_graph.specs.declared.answer.Value.TheVariants.{Int, Ref}
use Rattle.spur_graph.specs.Value.{IsValue, int_of, is_immediate_word, low_bits}
use Rattle.spur_graph.specs.Node.{IsNode, HasLiterals, IsUnit, is_raw}
use Rattle.spur_graph.specs.Cells.{Body, Store, first, lead, pointers, pointer_count, unit_count, units, unit_at, is_formed}
use Rattle.spur_graph.specs.Ordinary.{is_ordinary, is_good_reference}
use Rattle.spur_graph.specs.CellGraph.{read, node_of}
use Rattle.heap_cells.specs.Closing.{HasWidths}
use Rattle.heap_cells.proofs.Below.{passed}
use Rattle.heap_cells.proofs.Bodies.{first_tag, pointers_fit}
use Rattle.heap_cells.proofs.Values.{fixed, read-reference, read-none, read-fixed, read-integer, reference-good, reference-bad}

-- a word that is no immediate names an ordinary object, where nil is one
pub named_start : (name : ℕ → ℕ) (h : Store) (w : ℕ) → is_ordinary h (first h 0) ≡ true → is_immediate_word w ≡ false → (s : ℕ) × (is_ordinary h s ≡ true) × (read name h w ≡ Ref (name s))
named_start name h w nil off = elim (cases_eq (w % 8) 0) [
  | inl z ↦ elim (cases_Bool (is_good_reference h w)) [
    | inl good ↦ let g = passed (is_ordinary h) (lead h w) good in (g.one, g.holds, read-reference name h w z ∙ reference-good name h w g.one good g.is)
    | inr bad ↦ (first h 0, nil, read-reference name h w z ∙ reference-bad name h w bad)
  ]
  | inr n ↦ (first h 0, nil, read-none name h w n off)
]

pub read_value : (name : ℕ → ℕ) (h : Store) (w : ℕ) → is_ordinary h (first h 0) ≡ true → w < 2 ^ 64 → IsValue (read name h w)
read_value name h w nil l = elim (cases_Bool (is_immediate_word w)) [
  | inl on ↦ let v = fixed w on in subst IsValue (sym (read-fixed name h w v)) (v.range l)
  | inr off ↦ let r = named_start name h w nil off in subst IsValue (sym r.2) tt
]

-- ---- the units

bytes-is : (f u : ℕ) → unit_bytes_of f ≡ u → (m : ℕ) → cond (eqb u 0) 0 (m * 8 / u) * u % 8 ≡ 0 → cond (eqb (unit_bytes_of f) 0) 0 (m * 8 / unit_bytes_of f) * unit_bytes_of f % 8 ≡ 0
bytes-is f u e m = subst (λ v. cond (eqb v 0) 0 (m * 8 / v) * v % 8 ≡ 0) (sym e)

no_bytes : (f : ℕ) → f < 9 → unit_bytes_of f ≡ 0
no_bytes f l = ap (λ b. cond b 0 (cond (ltb f 10) 8 (cond (ltb f 12) 4 (cond (ltb f 16) 2 1)))) (lt-ltb f 9 l)

-- units fill whole words
fill : (f m : ℕ) → cond (eqb (unit_bytes_of f) 0) 0 (m * 8 / unit_bytes_of f) * unit_bytes_of f % 8 ≡ 0
fill f m = elim (cases_lt f 9) [
  | inl none ↦ bytes-is f 0 (no_bytes f none) m refl
  | inr some ↦
      let at9 : unit_bytes_of f ≡ cond (ltb f 10) 8 (cond (ltb f 12) 4 (cond (ltb f 16) 2 1)) = ap (λ b. cond b 0 (cond (ltb f 10) 8 (cond (ltb f 12) 4 (cond (ltb f 16) 2 1)))) (le-ltb f 9 some) in
      elim (cases_lt f 10) [
        | inl l ↦ bytes-is f 8 (at9 ∙ ap (λ b. cond b 8 (cond (ltb f 12) 4 (cond (ltb f 16) 2 1))) (lt-ltb f 10 l)) m (omega arith)
        | inr n ↦
            let at10 : unit_bytes_of f ≡ cond (ltb f 12) 4 (cond (ltb f 16) 2 1) = at9 ∙ ap (λ b. cond b 8 (cond (ltb f 12) 4 (cond (ltb f 16) 2 1))) (le-ltb f 10 n) in
            elim (cases_lt f 12) [
              | inl l ↦ bytes-is f 4 (at10 ∙ ap (λ b. cond b 4 (cond (ltb f 16) 2 1)) (lt-ltb f 12 l)) m (omega arith)
              | inr k ↦
                  let at12 : unit_bytes_of f ≡ cond (ltb f 16) 2 1 = at10 ∙ ap (λ b. cond b 4 (cond (ltb f 16) 2 1)) (le-ltb f 12 k) in
                  elim (cases_lt f 16) [
                    | inl l ↦ bytes-is f 2 (at12 ∙ ap (λ b. cond b 2 1) (lt-ltb f 16 l)) m (omega arith)
                    | inr j ↦ bytes-is f 1 (at12 ∙ ap (λ b. cond b 2 1) (le-ltb f 16 j)) m (omega arith)
                  ]
            ]
      ]
]

nothing_left : {X : Type 0} (n : ℕ) (xs : List X) → length xs ≡ n → n ≡ 0 → xs ≡ []
nothing_left n [] e z = refl
nothing_left n (x ∷ xs) e z = absurd (omega (arith, e, z))

-- ---- the literals

low-literals : (w : ℕ) → w < 2 ^ 64 → w % 8 ≡ 1 → low_bits 15 (int_of w) ≡ literals_of w
unfolding field_of
low-literals w l tag = elim (cases_lt w (2 ^ 63)) [
  | inl low ↦ ap (low_bits 15) (ap (λ b. cond b (pos (w / 8)) (negsuc ((2 ^ 64 - 1 - w) / 8))) (lt-ltb w (2 ^ 63) low)) ∙ omega arith
  | inr high ↦
      ap (low_bits 15) (ap (λ b. cond b (pos (w / 8)) (negsuc ((2 ^ 64 - 1 - w) / 8))) (le-ltb w (2 ^ 63) high)) ∙ omega (arith, tag, l, high)
]

literals : (name : ℕ → ℕ) (h : Store) (ws : List ℕ) (n : ℕ) → n ≡ literals_of (get_or ws 0 0) + 1 → n ≤ length ws → get_or ws 0 0 % 8 ≡ 1 → get_or ws 0 0 < 2 ^ 64 → HasLiterals (map (read name h) (take n ws))
literals name h [] n e l tag bits = absurd (omega (arith, e, l))
literals name h (w ∷ ws) n e l tag bits =
    let m : ℕ = literals_of w in
    let is : n ≡ suc m = omega (arith, e) in
    let first : read name h w ≡ Int (int_of w) = read-integer name h w tag in
    let fits : m ≤ length ws = omega (arith, is, l) in
    record {
      number = int_of w;
      rest = map (read name h) (take m ws);
      first = ap (λ k. map (read name h) (take k (w ∷ ws))) is ∙ ap (λ v. v ∷ map (read name h) (take m ws)) first;
      count = length-map (take m ws) (read name h) ∙ omega (arith, length-take m ws, fits) ∙ sym (low-literals w bits tag);
    }

-- ---- the whole

known : (b : Body) → is_formed b ≡ true → is_refused_format b.format ≡ false
unfolding is_formed
known b f =
    let c = and_parts _ _ (and_parts _ _ (and_parts _ _ f).0).0 in
    not-true (is_refused_format b.format) c.1

enough : (b : Body) → is_formed b ≡ true → unused_of b.format ≤ whole_units b.format (length b.words) (pointer_count b)
unfolding is_formed
enough b f = ltb-false (whole_units b.format (length b.words) (pointer_count b)) (unused_of b.format) (not-true _ (and_parts _ _ f).1)

method-count : (b : Body) → 24 ≤ b.format → pointer_count b ≡ literals_of (get_or b.words 0 0) + 1
unfolding pointer_count
method-count b l =
    let low : 6 ≤ b.format = omega arith in
    ap (λ t. cond t (length b.words) (cond (ltb b.format 24) 0 (literals_of (get_or b.words 0 0) + 1))) (le-ltb b.format 6 low) ∙ ap (λ t. cond t 0 (literals_of (get_or b.words 0 0) + 1)) (le-ltb b.format 24 l)

raw-count : (b : Body) → is_raw b.format ≡ true → pointer_count b ≡ 0
unfolding pointer_count
raw-count b e =
    let both = and_parts (leb 9 b.format) (ltb b.format 24) e in
    let low : 6 ≤ b.format = omega (arith, leb-true 9 b.format both.0) in
    ap (λ t. cond t (length b.words) (cond (ltb b.format 24) 0 (literals_of (get_or b.words 0 0) + 1))) (le-ltb b.format 6 low) ∙ ap (λ t. cond t 0 (literals_of (get_or b.words 0 0) + 1)) both.1

pub units-long : (b : Body) → length (units b) ≡ unit_count b
units-long b = length-map-range_with_len (unit_at (unit_bytes_of b.format) (drop (pointer_count b) b.words)) 0 (unit_count b)

counted : (b : Body) → length (units b) ≡ whole_units b.format (length b.words) (pointer_count b) - unused_of b.format
unfolding unit_count
counted b = units-long b

whole : (b : Body) → is_formed b ≡ true → (length (units b) + unused_of b.format) * unit_bytes_of b.format % 8 ≡ 0
whole b f =
    let all : length (units b) + unused_of b.format ≡ whole_units b.format (length b.words) (pointer_count b) = omega (arith, counted b, enough b f) in
    ap (λ n. n * unit_bytes_of b.format % 8) all ∙ fill b.format (length b.words - pointer_count b)

no_units : (b : Body) → b.format < 9 → units b ≡ []
no_units b l =
    let none : whole_units b.format (length b.words) (pointer_count b) ≡ 0 = ap (λ u. cond (eqb u 0) 0 ((length b.words - pointer_count b) * 8 / u)) (no_bytes b.format l) in
    nothing_left (length (units b)) (units b) refl (omega (arith, counted b, none))

method-literals : (name : ℕ → ℕ) (h : Store) (b : Body) → is_formed b ≡ true → HasWidths b → 24 ≤ b.format → HasLiterals (map (read name h) (pointers b))
method-literals name h b f k l =
    let count = method-count b l in
    let fits = pointers_fit b f in
    literals name h b.words (pointer_count b) count fits (first_tag b f l) (k.word_bits 0 0 (omega (arith, count, fits)))

pub a_node : (name : ℕ → ℕ) (h : Store) (b : Body) → is_ordinary h (first h 0) ≡ true → is_formed b ≡ true → HasWidths b → IsNode (node_of name h b)
unfolding node_of
a_node name h b nil f k = record {
  class_index = k.class_bits;
  hash_bits = k.hash_bits;
  known_format = (k.format_bits, known b f);
  no_pointers = λ e. ap (λ n. map (read name h) (take n b.words)) (raw-count b e);
  no_units = no_units b;
  whole_words = whole b f;
  literals = λ e. method-literals name h b f k (ltb-true 23 b.format e);
  values = All-map IsValue (read name h) (pointers b) (λ j d l. read_value name h (get_or (pointers b) j d) nil (All-take (λ w. w < 2 ^ 64) (pointer_count b) b.words k.word_bits j d l));
  unit_range = All-map (IsUnit b.format) (unit_at (unit_bytes_of b.format) (drop (pointer_count b) b.words)) (range_with_len 0 (unit_count b)) (λ j d l. field_of-lt _ _ _);
}
