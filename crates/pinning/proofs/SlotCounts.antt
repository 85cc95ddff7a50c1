-- The node of an object tells how many slots the object has.
use Rattle.std.proofs.Common.{◌≡◌, ℕ, true, false, cond, ◌&&◌, ◌+◌, ◌-◌, ◌*◌, ◌/◌, ◌<◌, ◌≤◌, eqb, length, replicate, sym, ap, ◌∙◌, subst, arith, inl, inr}
use Rattle.std.proofs.lemmas.Bool.{false≢true, cases_lt, lt-ltb, ltb-false, and_parts, not-true}
use Rattle.std.proofs.lemmas.Bool.Decides.{nat_tests}
use Rattle.std.proofs.lemmas.List.{length-replicate}
use Rattle.object_header.specs.Formats.{unit_bytes_of, unused_of, pointer_slots_of}
use Rattle.object_header.specs.Head.{is_refused_format, whole_units}
use Rattle.spur_graph.specs.Node.{Node}
use Rattle.spur_graph.specs.Graph.{Graph}
use Rattle.spur_graph.specs.Cells.{Body, pointer_count, unit_count, is_formed}
use Rattle.spur_graph.specs.Heaps.{View, IsWhole, store_of}
use Rattle.heap_cells.proofs.Bodies.{pointers_fit, all_pointers}
use Rattle.heap_cells.proofs.References.{ordinary_there}
use Rattle.spur_heap.specs.declared.allocation.TheConstants.{BLANK_FORMAT}
use Rattle.spur_heap.specs.Pairing.{blank_node}
use Rattle.spur_heap.specs.Views.{IsOrdinary, node_in}
use Rattle.spur_heap.specs.Words.{body_in}
use Rattle.spur_heap.proofs.Nodes.{node_fields, node_pointers, node_units}

-- the slots that so many pointers and units of a format stand in
abbrev pub slots_by : (format pointers units : ℕ) → ℕ
slots_by format pointers units = pointers + (units + unused_of format) * unit_bytes_of format / 8

-- the slots of a node
abbrev pub slots_told : Node → ℕ
slots_told n = slots_by n.format (length n.pointers) (length n.units)

-- units fill the slots behind the pointers
filled : (f m : ℕ) → 9 ≤ f → cond (eqb (unit_bytes_of f) 0) 0 (m * 8 / unit_bytes_of f) * unit_bytes_of f / 8 ≡ m
filled f m high = elim (cases_lt f 10) [
  | inl a ↦ by 8 (grind (arith, nat_tests)) (omega arith)
  | inr a ↦ elim (cases_lt f 12) [
    | inl b ↦ by 4 (grind (arith, nat_tests)) (omega arith)
    | inr b ↦ elim (cases_lt f 16) [
      | inl c ↦ by 2 (grind (arith, nat_tests)) (omega arith)
      | inr c ↦ by 1 (grind (arith, nat_tests)) (omega arith)
    ]
  ]
]
  where
    by : (u : ℕ) → unit_bytes_of f ≡ u → cond (eqb u 0) 0 (m * 8 / u) * u / 8 ≡ m → cond (eqb (unit_bytes_of f) 0) 0 (m * 8 / unit_bytes_of f) * unit_bytes_of f / 8 ≡ m
    by u is fills = subst (λ k. cond (eqb k 0) 0 (m * 8 / k) * k / 8 ≡ m) (sym is) fills

module _ (b : Body) (formed : is_formed b ≡ true) where
  known : is_refused_format b.format ≡ false
  unfolding is_formed
  known = let c = and_parts _ _ (and_parts _ _ (and_parts _ _ formed).0).0 in not-true (is_refused_format b.format) c.1

  -- the unused units are some of those that fill the slots
  all_units : unit_count b + unused_of b.format ≡ whole_units b.format (length b.words) (pointer_count b)
  unfolding is_formed unit_count
  all_units =
      let enough : unused_of b.format ≤ whole_units b.format (length b.words) (pointer_count b) = ltb-false (whole_units b.format (length b.words) (pointer_count b)) (unused_of b.format) (not-true _ (and_parts _ _ formed).1) in
      omega (arith, enough)

  slots_are : slots_by b.format (pointer_count b) (unit_count b) ≡ length b.words
  slots_are = elim (cases_lt b.format 9) [
    | inl low ↦
        let none : unit_bytes_of b.format ≡ 0 = grind (arith, nat_tests, low) in
        let pointers : b.format < 6 = pointer_format b.format known low in
        ap (λ u. pointer_count b + (unit_count b + unused_of b.format) * u / 8) none ∙ omega (arith, all_pointers b pointers)
    | inr high ↦
        let behind : (unit_count b + unused_of b.format) * unit_bytes_of b.format / 8 ≡ length b.words - pointer_count b =
        ap (λ n. n * unit_bytes_of b.format / 8) all_units ∙ filled b.format (length b.words - pointer_count b) high in
        ap (λ n. pointer_count b + n) behind ∙ omega (arith, pointers_fit b formed)
  ]
    where
      refused : (f : ℕ) → 6 ≤ f → f < 9 → is_refused_format f ≡ true
      refused f high low = λ i. lt-ltb 5 f (omega (arith, high)) i && lt-ltb f 9 low i

      pointer_format : (f : ℕ) → is_refused_format f ≡ false → f < 9 → f < 6
      pointer_format f k low = elim (cases_lt f 6) [
        | inl a ↦ a
        | inr a ↦ absurd (false≢true (sym k ∙ refused f a low))
      ]

-- an object has as many slots as its node tells
module _ (v : View) (whole : IsWhole v) (s : ℕ) (there : IsOrdinary v s) where
  pub slots_in_node : length (body_in v s).words ≡ slots_told (node_in v s)
  slots_in_node =
      let b : Body = body_in v s in
      let formed : is_formed b ≡ true = whole.sound.formed s (ordinary_there (store_of v) s there) in
      sym (slots_are b formed) ∙ (λ i. slots_by (sym (node_fields (store_of v) b).format i) (sym (node_pointers (store_of v) b formed) i) (sym (node_units (store_of v) b) i))

-- an object that is made to be filled has the slots that were asked for
pub slots_blank : (g : Graph) (slots : ℕ) → slots_told (blank_node g slots) ≡ slots
slots_blank g slots =
    let n : ℕ = whole_units BLANK_FORMAT slots (pointer_slots_of BLANK_FORMAT slots 0) - unused_of BLANK_FORMAT in
    let fills : n ≡ slots = omega arith in
    ap (slots_by BLANK_FORMAT 0) (long n 0) ∙ omega (arith, fills)
  where
    long : (n unit : ℕ) → length (replicate n unit) ≡ n
    long n unit = length-replicate n unit
