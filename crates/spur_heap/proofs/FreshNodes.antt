-- The object that a fresh run is: its node, its words, and what it names.
use Rattle.std.proofs.Common.{◌≡◌, ℕ, zero, suc, true, false, cond, not, ◌&&◌, ◌||◌, ◌-◌, ◌*◌, ◌/◌, ◌%◌, ◌<◌, ◌≤◌, eqb, ltb, List, [], ◌∷◌, map, take, drop, length, replicate, get_or, refl, sym, ap, ◌∙◌, subst, arith, inl, inr}
use Rattle.std.proofs.lemmas.Bool.{cases_lt, cases_eq, lt-ltb, le-ltb, ne_eqb, and_left, and_right}
use Rattle.std.proofs.lemmas.Bool.Decides.{nat_tests}
use Rattle.std.proofs.lemmas.List.{length-replicate, take-replicate, get_or-replicate}
use Rattle.std.proofs.lemmas.List.FromFn.{length-range_with_len}
use Rattle.std.specs.List.{range_with_len}
use Rattle.object_header.specs.Field.{field_of}
use Rattle.object_header.specs.Formats.{unit_bytes_of, unused_of, is_method, pointer_slots_of}
use Rattle.object_header.specs.Head.{is_refused_format, literals_of, whole_units, has_literals}
use Rattle.spur_graph.specs.declared.answer.Value.TheVariants.{Ref}
use Rattle.spur_graph.specs.Cells.{Body, Store, There, pointer_count, pointers, unit_at, unit_count, units, is_formed}
use Rattle.spur_graph.specs.CellGraph.{read, node_of}
use Rattle.spur_graph.specs.Ordinary.{is_good_word}
use Rattle.spur_graph.specs.Instances.{fresh_node}
use Rattle.spur_graph.specs.Heaps.{own_name, is_over, names_over}
use Rattle.heap_cells.proofs.Below.{any_below-none}
use Rattle.heap_cells.proofs.Bodies.{pointers-same}
use Rattle.spur_heap.specs.Fresh.{fresh_body}
use Rattle.spur_heap.specs.Allocating.{IsFreshFormat, CanMake}

map_replicate : {X Y : Type 0} (f : X → Y) (n : ℕ) (x : X) → map f (replicate n x) ≡ replicate n (f x)
map_replicate f zero x = refl
map_replicate f (suc n) x = ap (λ ys. f x ∷ ys) (map_replicate f n x)

map_constant : {X Y : Type 0} (f : X → Y) (y : Y) (xs : List X) → ((x : X) → f x ≡ y) → map f xs ≡ replicate (length xs) y
map_constant f y [] e = refl
map_constant f y (x ∷ xs) e = λ i. e x i ∷ map_constant f y xs e i

-- words that are 0 alone
zeros : (n j : ℕ) → ◌≡◌ {A = ℕ} (get_or (replicate n 0) j 0) 0
zeros zero j = refl
zeros (suc n) zero = refl
zeros (suc n) (suc j) = zeros n j

zeros_behind : (k n j : ℕ) → ◌≡◌ {A = ℕ} (get_or (drop k (replicate n 0)) j 0) 0
zeros_behind zero n j = zeros n j
zeros_behind (suc k) zero j = refl
zeros_behind (suc k) (suc n) j = zeros_behind k n j

no_field : (lo len : ℕ) → field_of lo len 0 ≡ 0
unfolding field_of
no_field lo len = omega arith

-- ---- formats

format_low : (f : ℕ) → IsFreshFormat f → f < 24
format_low f k = elim k [ inl a ↦ omega (arith, a) | inr a ↦ a.1 ]

no_pointers : (f slots : ℕ) → 9 ≤ f → f < 24 → pointer_slots_of f slots 0 ≡ 0
no_pointers f slots low high = ap (λ b. cond b slots (cond (ltb f 24) 0 1)) (le-ltb f 6 (omega (arith, low))) ∙ ap (λ b. cond b 0 1) (lt-ltb f 24 high)

pub all_slots : (f slots : ℕ) → f < 6 → pointer_slots_of f slots 0 ≡ slots
all_slots f slots low = ap (λ b. cond b slots (cond (ltb f 24) 0 1)) (lt-ltb f 6 low)

no_units : (f slots n : ℕ) → f < 6 → whole_units f slots n ≡ 0
no_units f slots n low = ap (λ b. cond (eqb b 0) 0 ((slots - n) * 8 / b)) (ap (λ b. cond b 0 (cond (ltb f 10) 8 (cond (ltb f 12) 4 (cond (ltb f 16) 2 1)))) (lt-ltb f 9 (omega (arith, low))))

none_unused : (f : ℕ) → f < 10 → unused_of f ≡ 0
none_unused f low = ap (λ b. cond b 0 (cond (ltb f 12) (f - 10) (cond (ltb f 16) (f - 12) (cond (ltb f 24) (f - 16) (f - 24))))) (lt-ltb f 10 low)

-- the last slot has room for the unused units
enough_units : (f slots : ℕ) → IsFreshFormat f → (slots ≡ 0 → unused_of f ≡ 0) → unused_of f ≤ whole_units f slots (pointer_slots_of f slots 0)
enough_units f slots k room = elim (cases_lt f 10) [
  | inl low ↦ omega (arith, none_unused f low)
  | inr high ↦ elim (cases_eq slots 0) [
    | inl none ↦ omega (arith, room none)
    | inr some ↦
        let top : f < 24 = format_low f k in
        let n : pointer_slots_of f slots 0 ≡ 0 = no_pointers f slots (omega (arith, high)) top in
        subst (λ m. unused_of f ≤ whole_units f slots m) (sym n) (elim (cases_lt f 12) [
          | inl a ↦ let x : unused_of f ≡ f - 10 = grind (arith, nat_tests) in let y : whole_units f slots 0 ≡ slots * 8 / 4 = grind (arith, nat_tests) in omega (arith, x, y, a, some)
          | inr b ↦ elim (cases_lt f 16) [
            | inl a ↦ let x : unused_of f ≡ f - 12 = grind (arith, nat_tests) in let y : whole_units f slots 0 ≡ slots * 8 / 2 = grind (arith, nat_tests) in omega (arith, x, y, a, some)
            | inr c ↦ let x : unused_of f ≡ f - 16 = grind (arith, nat_tests) in let y : whole_units f slots 0 ≡ slots * 8 / 1 = grind (arith, nat_tests) in omega (arith, x, y, top, some)
          ]
        ])
  ]
]

-- ---- the object

module _ (class format slots fill : ℕ) (can : CanMake class format slots) where
  abbrev b : Body
  b = fresh_body class format slots fill

  pub fresh_pointers : pointer_count b ≡ pointer_slots_of format slots 0
  unfolding pointer_count
  fresh_pointers =
      ap (λ n. pointer_slots_of format n (literals_of (get_or (replicate slots fill) 0 0))) (length-replicate slots fill)
      ∙ pointers-same format slots (literals_of (get_or (replicate slots fill) 0 0)) 0 (λ high. let low = format_low format can.formed in absurd (omega (arith, low, high)))

  fresh_units : unit_count b ≡ whole_units format slots (pointer_slots_of format slots 0) - unused_of format
  unfolding unit_count
  fresh_units = λ x. whole_units format (length-replicate slots fill x) (fresh_pointers x) - unused_of format

  pub fresh_is_formed : is_formed b ≡ true
  unfolding is_formed
  fresh_is_formed =
      let low = format_low format can.formed in
      let bridge : eqb class 3 ≡ false = ne_eqb class 3 can.no_bridge in
      let known : is_refused_format format ≡ false = elim can.formed [
        | inl a ↦ and_left (ltb 5 format) (ltb format 9) (le-ltb 5 format (omega (arith, a)))
        | inr a ↦ and_right (ltb 5 format) (ltb format 9) (le-ltb format 9 a.0)
      ] in
      let plain : is_method format ≡ false = le-ltb 23 format (omega (arith, low)) in
      let enough : ltb (whole_units format (length (replicate slots fill)) (pointer_count b)) (unused_of format) ≡ false =
      (λ x. ltb (whole_units format (length-replicate slots fill x) (fresh_pointers x)) (unused_of format)) ∙ le-ltb (whole_units format slots (pointer_slots_of format slots 0)) (unused_of format) (enough_units format slots can.formed can.room) in
      λ x. not (bridge x) && not (known x) && (not (plain x) || has_literals (length (replicate slots fill)) (get_or (replicate slots fill) 0 0)) && not (enough x)

  -- a slot is a pointer in formats of pointers alone
  slot_is : (i : ℕ) → i < pointer_count b → (format < 6) × (get_or (replicate slots fill) i 0 ≡ fill)
  slot_is i l = elim can.formed [
    | inl low ↦ (low, get_or-replicate slots i fill 0 (omega (arith, l, fresh_pointers, all_slots format slots low)))
    | inr raw ↦ absurd (omega (arith, l, fresh_pointers, no_pointers format slots raw.0 raw.1))
  ]

  pub fresh_slots_good : (h : Store) → (format < 6 → is_good_word h fill ≡ true) → (i : ℕ) → i < pointer_count b → is_good_word h (get_or b.words i 0) ≡ true
  fresh_slots_good h good i l = let s = slot_is i l in ap (is_good_word h) s.1 ∙ good s.0

  pub fresh_names_none : (end : ℕ) → (format < 6 → is_over end fill ≡ false) → names_over end (There b) ≡ false
  unfolding names_over
  fresh_names_none end none = any_below-none (λ i. is_over end (get_or b.words i 0)) (pointer_count b) (λ i l. let s = slot_is i l in ap (is_over end) s.1 ∙ none s.0)

  module _ (h : Store) (nil : ℕ) (pointer : format < 6 → read own_name h fill ≡ Ref nil) (raw : 9 ≤ format → fill ≡ 0) where
    values_are : map (read own_name h) (pointers b) ≡ replicate (pointer_slots_of format slots 0) (Ref nil)
    values_are = elim can.formed [
      | inl low ↦
          ap (λ n. map (read own_name h) (take n (replicate slots fill))) (fresh_pointers ∙ all_slots format slots low)
          ∙ ap (map (read own_name h)) (take-replicate slots slots fill (omega arith)) ∙ map_replicate (read own_name h) slots fill
          ∙ ap (replicate slots) (pointer low) ∙ ap (λ n. replicate n (Ref nil)) (sym (all_slots format slots low))
      | inr high ↦
          ap (λ n. map (read own_name h) (take n (replicate slots fill))) (fresh_pointers ∙ no_pointers format slots high.0 high.1)
          ∙ ap (λ n. replicate n (Ref nil)) (sym (no_pointers format slots high.0 high.1))
    ]

    units_are : units b ≡ replicate (whole_units format slots (pointer_slots_of format slots 0) - unused_of format) 0
    units_are = elim can.formed [
      | inl low ↦
          let none : whole_units format slots (pointer_slots_of format slots 0) - unused_of format ≡ 0 = let u = no_units format slots (pointer_slots_of format slots 0) low in omega (arith, u) in
          ap (λ n. map (unit_at (unit_bytes_of format) (drop (pointer_count b) b.words)) (range_with_len 0 n)) (fresh_units ∙ none) ∙ ap (λ n. replicate n 0) (sym none)
      | inr high ↦
          let zero_words : (i : ℕ) → unit_at (unit_bytes_of format) (drop (pointer_count b) (replicate slots fill)) i ≡ 0 = λ i.
          ap (λ w. field_of (8 * (i * unit_bytes_of format % 8)) (8 * unit_bytes_of format) (get_or (drop (pointer_count b) (replicate slots w)) (i * unit_bytes_of format / 8) 0)) (raw high.0)
          ∙ ap (field_of (8 * (i * unit_bytes_of format % 8)) (8 * unit_bytes_of format)) (zeros_behind (pointer_count b) slots (i * unit_bytes_of format / 8))
          ∙ no_field (8 * (i * unit_bytes_of format % 8)) (8 * unit_bytes_of format) in
          map_constant (unit_at (unit_bytes_of format) (drop (pointer_count b) b.words)) 0 (range_with_len 0 (unit_count b)) zero_words
          ∙ ap (λ n. replicate n 0) (length-range_with_len 0 (unit_count b) ∙ fresh_units)
    ]

    pub fresh_node_is : node_of own_name h b ≡ fresh_node nil class format slots
    unfolding node_of
    fresh_node_is = λ x. record { class = class; hash = 0; format = format; pointers = values_are x; units = units_are x; pinned = false; readonly = false }
