-- What the words tell of the slots of an object.
use Rattle.std.proofs.Common.{◌≡◌, ◌≢◌, ℕ, true, cond, ◌+◌, ◌-◌, ◌*◌, ◌/◌, ◌^◌, ◌<◌, ◌≤◌, length, get_or, sym, ap, ◌∙◌, arith}
use Rattle.std.proofs.lemmas.Bool.{eq-eqb, ne_eqb}
use Rattle.object_header.specs.Chunks.{StandsAt, slots_at}
use Rattle.object_header.specs.Formats.{unit_bytes_of, unused_of, pointer_slots_of}
use Rattle.object_header.specs.Head.{format_of, literals_of, whole_units}
use Rattle.spur_graph.specs.Cells.{Body, is_formed, pointer_count, unit_count}
use Rattle.spur_graph.specs.Heaps.{View}
use Rattle.heap_cells.proofs.Bodies.{pointers_fit}
use Rattle.heap_cells.proofs.ObjectReads.{object-stands, object-body, object-slots, object-inside, object-pointers}
use Rattle.spur_heap.proofs.Orders.{order}
use Rattle.spur_heap.specs.Words.{AreSound, is_object, body_in, unit_place, unit_bytes_in}
use Rattle.spur_heap.proofs.UnitRows.{UnitAt, a_unit, unused_fit}

module _ (v : View) (k : AreSound v) (s : ℕ) (there : is_object v s ≡ true) where
  pub at_start : StandsAt v.words s
  at_start = object-stands _ v.words _ (order v k) s there

  pub formed : is_formed (body_in v s) ≡ true
  formed = k.sound.formed s there

  pub format_read : (body_in v s).format ≡ format_of (get_or v.words s 0)
  format_read = ap (λ (b : Body). b.format) (object-body _ v.words _ (order v k) s there)

  pub pointers_within : pointer_count (body_in v s) ≤ length (body_in v s).words
  pointers_within = pointers_fit (body_in v s) formed

  -- the pointers, by what was read
  pub pointer_count_read : pointer_slots_of (format_of (get_or v.words s 0)) (slots_at v.words s) (literals_of (get_or v.words (s + 1) 0)) ≡ pointer_count (body_in v s)
  pointer_count_read = object-pointers _ v.words _ (order v k) s there formed

  pub no_units : (bytes : ℕ) → bytes ≡ unit_bytes_of (body_in v s).format → bytes ≡ 0 → 0 ≡ unit_count (body_in v s)
  unfolding unit_count
  no_units bytes is none =
      let b : Body = body_in v s in
      let whole : whole_units b.format (length b.words) (pointer_count b) ≡ 0 = ap (λ t. cond t 0 ((length b.words - pointer_count b) * 8 / unit_bytes_of b.format)) (eq-eqb (unit_bytes_of b.format) 0 (sym is ∙ none)) in
      omega (arith, whole)

  -- the units that fill the slots behind the pointers, but for those that are not used
  pub units_left : (slots count bytes unused : ℕ) → slots ≡ length (body_in v s).words → count ≡ pointer_count (body_in v s) → bytes ≡ unit_bytes_of (body_in v s).format → unused ≡ unused_of (body_in v s).format
      → bytes ≢ 0 → (unused ≤ (slots - count) * 8 / bytes) × ((slots - count) * 8 / bytes - unused ≡ unit_count (body_in v s))
  unfolding unit_count
  units_left slots count bytes unused slots_is count_is bytes_is unused_is some =
      let b : Body = body_in v s in
      let rest : ℕ = (length b.words - pointer_count b) * 8 / unit_bytes_of b.format in
      let whole : whole_units b.format (length b.words) (pointer_count b) ≡ rest = ap (λ t. cond t 0 rest) (ne_eqb (unit_bytes_of b.format) 0 (λ none. some (bytes_is ∙ none))) in
      let all : (slots - count) * 8 / bytes ≡ rest = λ x. (slots_is x - count_is x) * 8 / bytes_is x in
      both ((slots - count) * 8 / bytes) (whole_units b.format (length b.words) (pointer_count b)) (all ∙ sym whole) (unused_fit b formed) unused_is
    where
      both : (n m : ℕ) → n ≡ m → unused_of (body_in v s).format ≤ m → unused ≡ unused_of (body_in v s).format → (unused ≤ n) × (n - unused ≡ m - unused_of (body_in v s).format)
      both n m is fit same = (omega (arith, is, same, fit), omega (arith, is, same))

  module _ (i : ℕ) (low : i < unit_count (body_in v s)) where
    pub unit_at_place : UnitAt (body_in v s) i
    unit_at_place = a_unit (body_in v s) formed i low

    pub place_inside : unit_place v s i < length v.words
    place_inside = let u = unit_at_place in let far = object-inside _ v.words _ (order v k) s there (pointer_count (body_in v s) + i * unit_bytes_in v s / 8) u.inside in omega (arith, far)

    pub place_small : i * unit_bytes_in v s < 2 ^ 30
    place_small =
        let u = unit_at_place in
        let slots = object-slots _ v.words _ (order v k) s there in
        let fits = at_start.fits in
        let few = k.few in
        omega (arith, u.small, slots, fits, few)

    -- the place, by what was read
    pub place_made : (count bytes : ℕ) → count ≡ pointer_count (body_in v s) → bytes ≡ unit_bytes_in v s → s + 1 + count + i * bytes / 8 ≡ unit_place v s i
    place_made count bytes count_is bytes_is = λ x. s + 1 + count_is x + i * bytes_is x / 8
