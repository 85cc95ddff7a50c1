-- What is read of an ordinary object of a heap, and what a write to one of its slots or units leaves.
use Rattle.std.proofs.Common.{◌≡◌, ℕ, true, ◌+◌, ◌*◌, ◌/◌, ◌%◌, ◌^◌, ◌<◌, List, length, get_or, set, sym, ap, ◌∙◌, subst, arith}
use Rattle.std.proofs.lemmas.Bool.{lt-ltb}
use Rattle.object_header.specs.Chunks.{slots_from}
use Rattle.object_header.specs.Field.{field_of, with_field}
use Rattle.object_header.specs.Fields.{fields_of}
use Rattle.object_header.specs.Formats.{is_method, unit_bytes_of}
use Rattle.spur_graph.specs.declared.answer.Value.{Value}
use Rattle.spur_graph.specs.Graph.{with_node}
use Rattle.spur_graph.specs.Cells.{body_from, pointer_count, unit_count}
use Rattle.spur_graph.specs.CellGraph.{node_of}
use Rattle.spur_graph.specs.Heaps.{View, IsWhole, store_of, heap_value, heap_graph, heap_room, own_name}
use Rattle.spur_graph.specs.Ordinary.{is_ordinary}
use Rattle.heap_cells.proofs.Bodies.{method_some}
use Rattle.heap_cells.proofs.CellKinds.{there_starts}
use Rattle.heap_cells.proofs.References.{ordinary_there}
use Rattle.heap_cells.proofs.ObjectReads.{object-body, object-word, object-inside}
use Rattle.spur_heap.specs.Remembering.{after}
use Rattle.spur_heap.proofs.Orders.{order}
use Rattle.spur_heap.specs.Sizes.{IsSize}
use Rattle.spur_heap.specs.Words.{AreSound, starts_at, is_object, is_good, body_in, unit_bytes_in, unit_place, unit_word}
use Rattle.spur_heap.specs.Views.{IsOrdinary, IsGood, node_in}
use Rattle.spur_heap.proofs.UnitRows.{UnitAt}
use Rattle.spur_heap.proofs.SlotCounts.{at_start, formed, pointers_within, unit_at_place}
use Rattle.spur_heap.proofs.Nodes.{HasFields, node_fields, node_units, node_unit, node_pointers, node_pointer, node_with_pointer, node_with_unit}
use Rattle.spur_heap.proofs.Tables.{SameTables, SameNoted}
use Rattle.spur_heap.proofs.Written.{Write, HasBitFor, body_then, then, whole_written, tables_written, noted_written, ordinary_kept, good_kept, value_kept, graph_written, room_kept, slot_good, like}

pub whole_sound : (v : View) → IsWhole v → AreSound v
whole_sound v whole = record { spaces = whole.spaces; rows = whole.rows; sound = whole.sound; few = whole.few }

-- ---- reading

module _ (v : View) (whole : IsWhole v) (s : ℕ) (there : IsOrdinary v s) where
  pub object : is_object v s ≡ true
  object = ordinary_there (store_of v) s there

  pub start_there : starts_at v s ≡ true
  start_there = there_starts ((store_of v).cell s) object

  words_sound : AreSound v
  words_sound = whole_sound v whole

  pub fields_are : HasFields (node_in v s) (body_in v s)
  fields_are = node_fields (store_of v) (body_in v s)

  pub body_is : body_in v s ≡ body_from (fields_of (get_or v.words s 0)) (slots_from v.words s)
  body_is = object-body _ v.words _ (order v words_sound) s object

  pub start_inside : s + 1 < length v.words
  start_inside = (at_start v words_sound s object).below

  pub pointers_count : length (node_in v s).pointers ≡ pointer_count (body_in v s)
  pointers_count = node_pointers (store_of v) (body_in v s) (formed v words_sound s object)

  pub units_count : length (node_in v s).units ≡ unit_count (body_in v s)
  units_count = node_units (store_of v) (body_in v s)

  module _ (i : ℕ) (within : i < length (node_in v s).pointers) where
    low : i < pointer_count (body_in v s)
    low = omega (arith, within, pointers_count)

    pub slot_inside : i < length (body_in v s).words
    slot_inside = omega (arith, low, pointers_within v words_sound s object)

    pub pointer_inside : s + 1 + i < length v.words
    pointer_inside = object-inside _ v.words _ (order v words_sound) s object i slot_inside

    pub pointer_value : (d : Value) → heap_value v (get_or v.words (s + 1 + i) 0) ≡ get_or (node_in v s).pointers i d
    pointer_value d =
        ap (heap_value v) (sym (object-word _ v.words _ (order v words_sound) s object i slot_inside))
        ∙ sym (node_pointer (store_of v) (body_in v s) (formed v words_sound s object) i d low)

    pub pointer_good : IsGood v (get_or v.words (s + 1 + i) 0)
    pointer_good = ap (is_good v) (sym (object-word _ v.words _ (order v words_sound) s object i slot_inside)) ∙ slot_good v words_sound s there i low

    pub pointer_write : (w : ℕ) → (is_method (node_in v s).format ≡ true → 0 < i) → IsGood v w → Write v s i w
    pointer_write w literals good = record {
      sound = words_sound;
      ordinary = there;
      inside = slot_inside;
      literals = λ l. literals (ap is_method fields_are.format ∙ lt-ltb 23 (body_in v s).format (omega (arith, l)));
      value = λ m. good;
    }

    pub pointer_node : (w : ℕ) → Write v s i w → node_of own_name (store_of v) (body_then v s i w) ≡ record (node_in v s) { pointers = set (node_in v s).pointers i (heap_value v w) }
    pointer_node w write = node_with_pointer (store_of v) (body_in v s) (formed v words_sound s object) i w low (like v s i w write)

  module _ (i : ℕ) (within : i < length (node_in v s).units) where
    unit_low : i < unit_count (body_in v s)
    unit_low = omega (arith, within, units_count)

    at : UnitAt (body_in v s) i
    at = unit_at_place v words_sound s object i unit_low

    pub unit_size : IsSize (unit_bytes_in v s)
    unit_size = at.size

    -- the slot that has the unit
    abbrev slot : ℕ
    slot = pointer_count (body_in v s) + i * unit_bytes_in v s / 8

    unit_slot : get_or (body_in v s).words slot 0 ≡ get_or v.words (unit_place v s i) 0
    unit_slot =
        let place : s + 1 + slot ≡ unit_place v s i = omega arith in
        object-word _ v.words _ (order v words_sound) s object slot at.inside ∙ ap (λ j. get_or v.words j 0) place

    pub unit_read : field_of (8 * (i * unit_bytes_in v s % 8)) (8 * unit_bytes_in v s) (get_or v.words (unit_place v s i) 0) ≡ get_or (node_in v s).units i 0
    unit_read =
        ap (field_of (8 * (i * unit_bytes_in v s % 8)) (8 * unit_bytes_in v s)) (sym unit_slot)
        ∙ sym at.read ∙ sym (node_unit (store_of v) (body_in v s) i)

    pub unit_write : (value : ℕ) → Write v s slot (unit_word v s i value)
    unit_write value = record {
      sound = words_sound;
      ordinary = there;
      inside = at.inside;
      literals = λ l. let some = method_some (body_in v s) l in omega (arith, some);
      value = λ m. absurd (omega (arith, m));
    }

    -- a unit is no pointer
    pub unit_bit : (value : ℕ) → HasBitFor v s slot (unit_word v s i value) (unit_write value)
    unit_bit value m low over = absurd (omega (arith, m))

    pub unit_node : (value : ℕ) → value < 2 ^ (8 * unit_bytes_of (node_in v s).format)
        → node_of own_name (store_of v) (body_then v s slot (unit_word v s i value)) ≡ record (node_in v s) { units = set (node_in v s).units i value }
    unit_node value range =
        let u : ℕ = unit_bytes_in v s in
        let fit : value < 2 ^ (8 * u) = subst (λ f. value < 2 ^ (8 * unit_bytes_of f)) fields_are.format range in
        node_with_unit (store_of v) (body_in v s) (formed v words_sound s object) i value unit_low fit
        (set (body_in v s).words slot (unit_word v s i value))
        (ap (λ y. set (body_in v s).words slot (with_field (8 * (i * u % 8)) (8 * u) y value)) (sym unit_slot))
        (like v s slot (unit_word v s i value) (unit_write value))

    -- the heap with the unit
    abbrev pub unit_put : ℕ → View
    unit_put value = after v (unit_place v s i) (unit_word v s i value)

    unit_then : (value : ℕ) → unit_put value ≡ then v s slot (unit_word v s i value)
    unit_then value = let place : unit_place v s i ≡ s + 1 + slot = omega arith in ap (λ j. after v j (unit_word v s i value)) place

    pub unit_whole : (value : ℕ) → IsWhole (unit_put value)
    unit_whole value = subst (λ (u : View). IsWhole u) (sym (unit_then value)) (whole_written v s slot (unit_word v s i value) (unit_write value) (unit_bit value) whole)

    pub unit_tables : (value : ℕ) → SameTables v (unit_put value)
    unit_tables value = subst (λ (u : View). SameTables v u) (sym (unit_then value)) (tables_written v s slot (unit_word v s i value) (unit_write value))

    pub unit_noted : (value : ℕ) → SameNoted v (unit_put value)
    unit_noted value = subst (λ (u : View). SameNoted v u) (sym (unit_then value)) (noted_written v s slot (unit_word v s i value) (unit_write value))

    pub unit_graph : (value : ℕ) → value < 2 ^ (8 * unit_bytes_of (node_in v s).format)
        → heap_graph (unit_put value) ≡ with_node (heap_graph v) s (record (node_in v s) { units = set (node_in v s).units i value })
    unit_graph value range =
        ap heap_graph (unit_then value) ∙ graph_written v s slot (unit_word v s i value) (unit_write value) ∙ ap (with_node (heap_graph v) s) (unit_node value range)

    pub unit_room : (value : ℕ) → heap_room (unit_put value) ≡ heap_room v
    unit_room value = ap heap_room (unit_then value) ∙ room_kept v s slot (unit_word v s i value) (unit_write value)

    pub unit_values : (value w : ℕ) → heap_value (unit_put value) w ≡ heap_value v w
    unit_values value w = ap (λ (u : View). heap_value u w) (unit_then value) ∙ value_kept v s slot (unit_word v s i value) (unit_write value) w

    pub unit_goods : (value w : ℕ) → IsGood v w → IsGood (unit_put value) w
    unit_goods value w good = ap (λ (u : View). is_good u w) (unit_then value) ∙ good_kept v s slot (unit_word v s i value) (unit_write value) w ∙ good

    pub unit_ordinary : (value t : ℕ) → IsOrdinary v t → IsOrdinary (unit_put value) t
    unit_ordinary value t o = ap (λ (u : View). is_ordinary (store_of u) t) (unit_then value) ∙ ordinary_kept v s slot (unit_word v s i value) (unit_write value) t ∙ o

-- ---- writing

-- a unit that is put, by what was read
pub unit_seen : (p v : View) → p ≡ v → (s i value place bytes word w : ℕ) (new : List ℕ) → place ≡ unit_place p s i → bytes ≡ unit_bytes_of (body_in p s).format → word ≡ get_or p.words place 0
    → w ≡ with_field (8 * (i * bytes % 8)) (8 * bytes) word value → new ≡ set p.words place w → record p { words = new } ≡ after v (unit_place v s i) (unit_word v s i value)
unit_seen p v same s i value place bytes word w new place_is bytes_is word_is w_is new_is =
    let read : word ≡ get_or p.words (unit_place p s i) 0 = word_is ∙ ap (λ j. get_or p.words j 0) place_is in
    let unit : w ≡ unit_word p s i value = w_is ∙ (λ x. with_field (8 * (i * bytes_is x % 8)) (8 * bytes_is x) (read x) value) in
    let words : new ≡ set p.words (unit_place p s i) (unit_word p s i value) = new_is ∙ (λ x. set p.words (place_is x) (unit x)) in
    ap (λ (ws : List ℕ). let u : View = record p { words = ws } in u) words ∙ ap (λ (u : View). after u (unit_place u s i) (unit_word u s i value)) same
