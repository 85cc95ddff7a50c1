-- A word of the body of an ordinary object is written.
use Rattle.std.proofs.Common.{◌≡◌, ℕ, true, not, ◌&&◌, ◌+◌, ◌-◌, ◌<◌, ◌≤◌, length, get_or, set, refl, sym, ap, ◌∙◌, subst, arith, inl, inr}
use Rattle.std.proofs.lemmas.Bool.{cases_eq, lt-ltb, not-false}
use Rattle.std.proofs.lemmas.List.{length-set, get_or-set_same, get_or-set_other}
use Rattle.spur_graph.specs.Graph.{with_node}
use Rattle.object_header.specs.Chunks.{slots_at}
use Rattle.spur_graph.specs.Cells.{Body, There, is_there, pointer_count}
use Rattle.spur_graph.specs.Ordinary.{is_ordinary}
use Rattle.spur_graph.specs.CellGraph.{node_of}
use Rattle.spur_graph.specs.Heaps.{View, IsWhole, HasBits, store_of, chunks_of, heap_to, heap_value, heap_graph, heap_room, own_name, is_over, is_remembered, names_over}
use Rattle.heap_cells.specs.RowWrites.{Rewrites}
use Rattle.heap_cells.proofs.CellKinds.{there_starts, there_is}
use Rattle.heap_cells.proofs.Bodies.{IsLike, with_words}
use Rattle.heap_cells.proofs.Cutting.{start-in, stands, shape}
use Rattle.heap_cells.proofs.Members.{listed}
use Rattle.heap_cells.proofs.ObjectWrites.{body-written}
use Rattle.heap_cells.proofs.Over.{over-written}
use Rattle.heap_cells.proofs.References.{ordinary_there}
use Rattle.heap_cells.proofs.ObjectReads.{object-slots}
use Rattle.spur_heap.specs.Words.{AreSound, body_in, is_good}
use Rattle.spur_heap.specs.Remembering.{after}
use Rattle.spur_heap.proofs.Orders.{order}
use Rattle.spur_heap.proofs.Touched.{Touch, Fits, same_bit}
use Rattle.spur_heap.proofs.Tables.{SameTables, SameNoted}
use Rattle.spur_heap.proofs.Replaced.{replaced_whole, replaced_tables, replaced_same, replaced_ordinary, replaced_good, replaced_value, replaced_graph, replaced_room}
use Rattle.spur_heap.proofs.InPlace.{Alike}
use Rattle.spur_heap.proofs.Swap.{fires_alike}
use Rattle.spur_heap.proofs.Changing.{Change, change_alike, swap_of}

-- a pointer slot of an ordinary object has a good word
pub slot_good : (v : View) → AreSound v → (s : ℕ) → is_ordinary (store_of v) s ≡ true → (i : ℕ) → i < pointer_count (body_in v s) → is_good v (get_or (body_in v s).words i 0) ≡ true
slot_good v k s ordinary i low = not-false _ (sym (λ x. ordinary x && lt-ltb i (pointer_count (body_in v s)) low x && not (is_good v (get_or (body_in v s).words i 0))) ∙ k.sound.slots s i)

-- the words of the object then
abbrev pub body_then : View → ℕ → ℕ → ℕ → Body
body_then v s n w = with_words (body_in v s) (set (body_in v s).words n w)

-- the heap then
abbrev pub then : View → ℕ → ℕ → ℕ → View
then v s n w = after v (s + 1 + n) w

-- slot `n` of the object that starts at `s`
pub record Slot (v : View) (s n : ℕ) : Type 0 where
  pub sound : AreSound v
  pub object : is_there ((store_of v).cell s) ≡ true
  pub inside : n < length (body_in v s).words

-- the object is remembered where it has to be for this word
abbrev pub BitFor : View → ℕ → ℕ → ℕ → Type 0
BitFor v s n w = n < pointer_count (body_in v s) → s < v.spaces.old_end → is_over v.spaces.old_end w ≡ true → is_remembered v.words s ≡ true

module _ (v : View) (s n w : ℕ) (k : Slot v s n) where
  slots : length (body_in v s).words ≡ slots_at v.words s
  slots = object-slots _ v.words _ (order v k.sound) s k.object

  rewrites : Rewrites heap_to v.words (then v s n w).words (length v.words) (chunks_of v) s (There (body_then v s n w))
  rewrites =
      let r = body-written heap_to v.words (length v.words) (chunks_of v) s (s + 1 + n) w (body_in v s) (order v k.sound) (there_is ((store_of v).cell s) k.object) (omega arith) (omega (arith, slots, k.inside)) in
      let place : s + 1 + n - s - 1 ≡ n = omega arith in
      subst (λ i. Rewrites heap_to v.words (then v s n w).words (length v.words) (chunks_of v) s (There (body_then v s i w))) place r

  pub slot_length : length (then v s n w).words ≡ length v.words
  slot_length = length-set v.words (s + 1 + n) w

  own_header : get_or (then v s n w).words s 0 ≡ get_or v.words s 0
  own_header = get_or-set_other v.words (s + 1 + n) s w 0 (λ e. omega (arith, e))

  pub slot_touch : Touch v (then v s n w).words s (There (body_then v s n w))
  slot_touch =
      let c = start-in heap_to v.words (chunks_of v) s (there_starts ((store_of v).cell s) k.object) in
      let l = stands v.words 0 (length v.words) (chunks_of v) c.0 (order v k.sound) c.1 in
      let told = (shape v.words c.0 l.chunk).slots in
      let count : slots_at v.words c.0.start ≡ slots_at v.words s = ap (slots_at v.words) c.2 in
      record {
        sound = k.sound;
        long = slot_length;
        rewrites = rewrites;
        chunk = c.0;
        inside = c.1;
        start = c.2;
        others = λ j out. get_or-set_other v.words (s + 1 + n) j w 0 (λ e. elim out [
          | inl low ↦ omega (arith, e, low, l.lies.lead, c.2)
          | inr high ↦ omega (arith, e, high, l.lies.slots, c.2, told, count, slots, k.inside)
        ]);
      }

  pub bit_kept : is_remembered (then v s n w).words s ≡ is_remembered v.words s
  bit_kept = same_bit v.words (then v s n w).words s own_header

  pub slot_fits : IsLike (body_in v s) (set (body_in v s).words n w) → BitFor v s n w → IsWhole v → Fits v (then v s n w).words s (There (body_then v s n w))
  slot_fits like remembered_at whole = record {
    bits = λ bits. subst (λ u. HasBits v.phase u) (sym own_header) bits;
    all = λ low other over. bit_kept ∙ elim (over-written v.spaces.old_end (body_in v s) n w k.inside like over) [
      | inl before ↦ whole.remembered.all s low other (ap (names_over v.spaces.old_end) (there_is ((store_of v).cell s) k.object) ∙ before)
      | inr now ↦ remembered_at now.0 low now.1
    ];
    only = λ on.
        let c = start-in heap_to v.words (chunks_of v) s (there_starts ((store_of v).cell s) k.object) in
        let r = whole.remembered.only c.0 (listed (chunks_of v) c.0 c.1) (ap (is_remembered v.words) c.2 ∙ sym bit_kept ∙ on) in
        (omega (arith, r.0, c.2), refl);
    young = λ l mobile. (refl, mobile);
  }

-- a word for slot `n` of the ordinary object that starts at `s`
pub record Write (v : View) (s n w : ℕ) : Type 0 where
  pub sound : AreSound v
  pub ordinary : is_ordinary (store_of v) s ≡ true
  pub inside : n < length (body_in v s).words
  pub literals : 24 ≤ (body_in v s).format → 0 < n
  pub value : n < pointer_count (body_in v s) → is_good v w ≡ true

module _ (v : View) (s n w : ℕ) (k : Write v s n w) where
  object : is_there ((store_of v).cell s) ≡ true
  object = ordinary_there (store_of v) s k.ordinary

  slot : Slot v s n
  slot = record { sound = k.sound; object = object; inside = k.inside }

  pub same_length : length (then v s n w).words ≡ length v.words
  same_length = slot_length v s n w slot

  good_slot : (i : ℕ) → i < pointer_count (body_in v s) → is_good v (get_or (set (body_in v s).words n w) i 0) ≡ true
  good_slot i low = elim (cases_eq i n) [
    | inl e ↦ ap (λ m. is_good v (get_or (set (body_in v s).words n w) m 0)) e ∙ ap (is_good v) (get_or-set_same (body_in v s).words n w 0 k.inside) ∙ k.value (omega (arith, e, low))
    | inr other ↦ ap (is_good v) (get_or-set_other (body_in v s).words n i w 0 other) ∙ slot_good v k.sound s k.ordinary i low
  ]

  pub like : IsLike (body_in v s) (set (body_in v s).words n w)
  like = record { long = length-set (body_in v s).words n w; first = λ l. get_or-set_other (body_in v s).words n 0 w 0 (λ e. let some = k.literals l in omega (arith, e, some)) }

  alike : Alike (store_of v) s (body_in v s) (body_then v s n w)
  alike = record { place = record { there = there_is ((store_of v).cell s) object }; class = refl; format = refl; like = like }

  pub change : Change (store_of v) s (body_in v s) (body_then v s n w)
  change = change_alike k.sound.sound alike k.ordinary (inl refl) good_slot

  touch : Touch v (then v s n w).words s (There (body_then v s n w))
  touch = slot_touch v s n w slot

  abbrev pub HasBitFor : Type 0
  HasBitFor = BitFor v s n w

  pub whole_written : HasBitFor → IsWhole v → IsWhole (then v s n w)
  whole_written remembered_at whole =
      replaced_whole v s (then v s n w).words (body_then v s n w) touch change (slot_fits v s n w slot like remembered_at whole) (fires_alike (swap_of change) refl v.mourners whole.mourners) whole

  -- ---- what is the same

  pub tables_written : SameTables v (then v s n w)
  tables_written = replaced_tables v s (then v s n w).words (body_then v s n w) touch change

  pub noted_written : SameNoted v (then v s n w)
  noted_written = replaced_same v s (then v s n w).words (body_then v s n w) touch change (bit_kept v s n w slot)

  pub ordinary_kept : (t : ℕ) → is_ordinary (store_of (then v s n w)) t ≡ is_ordinary (store_of v) t
  ordinary_kept = replaced_ordinary v s (then v s n w).words (body_then v s n w) touch change

  pub good_kept : (u : ℕ) → is_good (then v s n w) u ≡ is_good v u
  good_kept = replaced_good v s (then v s n w).words (body_then v s n w) touch change

  pub value_kept : (u : ℕ) → heap_value (then v s n w) u ≡ heap_value v u
  value_kept = replaced_value v s (then v s n w).words (body_then v s n w) touch change

  pub graph_written : heap_graph (then v s n w) ≡ with_node (heap_graph v) s (node_of own_name (store_of v) (body_then v s n w))
  graph_written = replaced_graph v s (then v s n w).words (body_then v s n w) touch change

  pub room_kept : heap_room (then v s n w) ≡ heap_room v
  room_kept = replaced_room v s (then v s n w).words (body_then v s n w) touch change
