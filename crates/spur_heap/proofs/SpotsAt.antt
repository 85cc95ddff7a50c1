-- The spot that a heap's room has for an ordinary object: the one of its chunk. In new space it is that of an object of so many slots that is made.
use Rattle.std.proofs.Common.{◌≡◌, ℕ, Bool, true, false, cond, ◌+◌, ◌-◌, ◌&&◌, max, eqb, ltb, List, [], ◌∷◌, ◌++◌, length, get_or, refl, sym, ap, ◌∙◌, subst, inl, inr, arith, Some}
use Rattle.std.proofs.lemmas.Bool.{false≢true, cases_Bool, cases_eq, eq-eqb, ne_eqb, lt-ltb, le-ltb}
use Rattle.std.specs.Bool.{beq}
use Rattle.std.specs.Option.{unwrap_or}
use Rattle.std.specs.Ordering.{nat_cmp, eq_by_cmp}
use Rattle.std.specs.Cmp.{nat_cmp_total}
use Rattle.std.specs.FinMap.{find, get-from_entries}
use Rattle.object_header.specs.Chunks.{Chunk, leads, slots_at}
use Rattle.spur_graph.specs.Room.{Space, Spot, Old, Eden, Past, no_spot, spot_at, slots_in, is_long, fresh_words, fresh_spot, is_old}
use Rattle.spur_graph.specs.Become.{stays_in_place}
use Rattle.spur_graph.specs.CellRoom.{ordinary_chunks}
use Rattle.spur_graph.specs.Cells.{Store}
use Rattle.spur_graph.specs.HeapRoom.{room_in, spot_in, spots_of}
use Rattle.spur_graph.specs.Ordinary.{is_ordinary}
use Rattle.spur_graph.specs.Spaces.{old_row, eden_row, past_row, young_row}
use Rattle.spur_graph.specs.Heaps.{View, IsWhole, IsYoung, store_of, chunks_of, heap_to, heap_room}
use Rattle.heap_cells.proofs.AddedRoom.{in_map}
use Rattle.heap_cells.proofs.CellKinds.{there_starts}
use Rattle.heap_cells.proofs.Cutting.{Shape, shape, stands, start-in, cuts-in_order}
use Rattle.heap_cells.proofs.Finding.{same_key}
use Rattle.heap_cells.proofs.Members.{In, listed, in_either, in_left, in_right, in_filter, filter_in}
use Rattle.heap_cells.proofs.ObjectReads.{object-slots}
use Rattle.heap_cells.proofs.References.{ordinary_there}
use Rattle.heap_cells.proofs.Spaced.{eden_past}
use Rattle.spur_heap.specs.Views.{IsOrdinary}
use Rattle.spur_heap.specs.Words.{body_in}
use Rattle.spur_heap.proofs.Orders.{order}
use Rattle.spur_heap.proofs.Puts.{whole_sound}
use Rattle.spur_heap.proofs.RunSizes.{map_in}
use Rattle.spur_heap.proofs.Turned.{found_in}

-- ---- the table of spots

-- the chunks of a space
abbrev pub row_of : View → Space → List Chunk
row_of v Old = old_row v.words v.spaces
row_of v Eden = eden_row v.words v.spaces
row_of v Past = past_row v.words v.spaces

-- the spot that the room has for a start is that of a chunk of a space
pub record HasSpot (v : View) (s : ℕ) : Type 0 where
  pub space : Space
  pub chunk : Chunk
  pub inside : In (row_of v space) chunk
  pub start : chunk.start ≡ s
  pub is : spot_at (heap_room v) s ≡ spot_in space chunk

-- a key of an entry has a value
key_found : {X : Type 0} (es : List (ℕ × X)) (q : ℕ) (x : X) → In es (q, x) → (y : X) × (find nat_cmp q es ≡ Some y)
key_found [] q x m = absurd m
key_found (d ∷ es) q x m = elim (cases_Bool (eq_by_cmp nat_cmp q d.0)) [
  | inl on ↦ (d.1, ap (λ b. cond b (Some d.1) (find nat_cmp q es)) on)
  | inr off ↦ elim m [
    | inl e ↦ absurd (false≢true (sym off ∙ same_key q d.0 (sym (ap (λ (p : ℕ × _). p.0) e))))
    | inr n ↦ let r = key_found es q x n in (r.0, ap (λ b. cond b (Some d.1) (find nat_cmp q es)) off ∙ r.1)
  ]
]

module _ (v : View) (whole : IsWhole v) (s : ℕ) (there : IsOrdinary v s) where
  abbrev h : Store
  h = store_of v

  abbrev spots_in : Space → List (ℕ × Spot)
  spots_in space = spots_of space h (row_of v space)

  all_spots : List (ℕ × Spot)
  all_spots = spots_in Old ++ (spots_in Eden ++ spots_in Past)

  listed_in : (space : Space) (c : Chunk) → In (row_of v space) c → c.start ≡ s → In (spots_in space) (s, spot_in space c)
  listed_in space c m is =
      let f : Chunk → ℕ × Spot = λ (d : Chunk). (d.start, spot_in space d) in
      let on : is_ordinary h c.start ≡ true = ap (is_ordinary h) is ∙ there in
      subst (In (spots_in space)) (λ i. (is i, spot_in space c)) (map_in f (ordinary_chunks h (row_of v space)) c (in_filter (λ (d : Chunk). is_ordinary h d.start) (row_of v space) c m on))

  some_spot : (spot : Spot) × In all_spots (s, spot)
  unfolding all_spots
  some_spot =
      let c = start-in heap_to v.words (chunks_of v) s (there_starts (h.cell s) (ordinary_there h s there)) in
      elim (in_either (row_of v Old) (young_row v.words v.spaces) c.0 c.1) [
        | inl old ↦ (spot_in Old c.0, in_left (spots_in Old) (spots_in Eden ++ spots_in Past) (s, spot_in Old c.0) (listed_in Old c.0 old c.2))
        | inr young ↦ elim (in_either (row_of v Eden) (row_of v Past) c.0 young) [
          | inl eden ↦ (
            spot_in Eden c.0,
            in_right (spots_in Old) (spots_in Eden ++ spots_in Past) (s, spot_in Eden c.0) (in_left (spots_in Eden) (spots_in Past) (s, spot_in Eden c.0) (listed_in Eden c.0 eden c.2)),
          )
          | inr past ↦ (
            spot_in Past c.0,
            in_right (spots_in Old) (spots_in Eden ++ spots_in Past) (s, spot_in Past c.0) (in_right (spots_in Eden) (spots_in Past) (s, spot_in Past c.0) (listed_in Past c.0 past c.2)),
          )
        ]
      ]

  from_row : (space : Space) (spot : Spot) → spot_at (heap_room v) s ≡ spot → In (spots_in space) (s, spot) → HasSpot v s
  from_row space spot is m =
      let c = in_map (λ (d : Chunk). (d.start, spot_in space d)) (ordinary_chunks h (row_of v space)) (s, spot) m in
      record {
        space = space;
        chunk = c.0;
        inside = (filter_in (λ (d : Chunk). is_ordinary h d.start) (row_of v space) c.0 c.1).0;
        start = ap (λ (e : ℕ × Spot). e.0) c.2;
        is = is ∙ sym (ap (λ (e : ℕ × Spot). e.1) c.2);
      }

  -- an ordinary object has a spot, and that is the one of its chunk
  pub spot_here : HasSpot v s
  unfolding room_in all_spots
  spot_here =
      let some = some_spot in
      let found = key_found all_spots s some.0 some.1 in
      let is : spot_at (heap_room v) s ≡ found.0 = ap (λ o. unwrap_or o no_spot) (get-from_entries nat_cmp_total all_spots s ∙ found.1) in
      elim (in_either (spots_in Old) (spots_in Eden ++ spots_in Past) (s, found.0) (found_in s all_spots found.0 found.1)) [
        | inl old ↦ from_row Old found.0 is old
        | inr young ↦ elim (in_either (spots_in Eden) (spots_in Past) (s, found.0) young) [ inl eden ↦ from_row Eden found.0 is eden | inr past ↦ from_row Past found.0 is past ]
      ]

-- ---- what a spot tells

in_rows : (v : View) (space : Space) (c : Chunk) → In (row_of v space) c → In (chunks_of v) c
in_rows v Old c m = in_left (row_of v Old) (young_row v.words v.spaces) c m
in_rows v Eden c m = in_right (row_of v Old) (young_row v.words v.spaces) c (in_left (row_of v Eden) (row_of v Past) c m)
in_rows v Past c m = in_right (row_of v Old) (young_row v.words v.spaces) c (in_right (row_of v Eden) (row_of v Past) c m)

young_chunk : (v : View) → IsWhole v → (space : Space) (c : Chunk) → is_old space ≡ false → In (row_of v space) c → IsYoung (store_of v) c
young_chunk v whole Old c off m = absurd (false≢true (sym off))
young_chunk v whole Eden c off m = whole.young c (listed (young_row v.words v.spaces) c (in_left (row_of v Eden) (row_of v Past) c m))
young_chunk v whole Past c off m = whole.young c (listed (young_row v.words v.spaces) c (in_right (row_of v Eden) (row_of v Past) c m))

-- old space is what stands before its end
old_place : (v : View) → IsWhole v → (space : Space) (c : Chunk) → In (row_of v space) c → ltb c.start v.spaces.old_end ≡ is_old space
old_place v whole Old c m =
    let l = (stands v.words 0 v.spaces.old_end (row_of v Old) c (cuts-in_order v.words 0 v.spaces.old_end (row_of v Old) whole.rows.old) m).lies in
    lt-ltb c.start v.spaces.old_end (omega (arith, l.room, l.before))
old_place v whole Eden c m =
    let end : ℕ = v.spaces.eden_at + v.spaces.eden_used in
    let l = (stands v.words v.spaces.eden_at end (row_of v Eden) c (cuts-in_order v.words v.spaces.eden_at end (row_of v Eden) whole.rows.eden) m).lies in
    let b = whole.spaces.eden_behind in
    le-ltb c.start v.spaces.old_end (omega (arith, l.after, l.lead, b))
old_place v whole Past c m =
    let end : ℕ = v.spaces.past_at + v.spaces.past_used in
    let l = (stands v.words v.spaces.past_at end (row_of v Past) c (cuts-in_order v.words v.spaces.past_at end (row_of v Past) whole.rows.past) m).lies in
    let b = whole.spaces.eden_behind in
    let e = eden_past v.words v.limits v.spaces whole.spaces in
    le-ltb c.start v.spaces.old_end (omega (arith, l.after, l.lead, b, e))

module _ (v : View) (whole : IsWhole v) (s : ℕ) (there : IsOrdinary v s) where
  abbrev here : HasSpot v s
  here = spot_here v whole s there

  abbrev spot : Spot
  spot = spot_at (heap_room v) s

  pub old_told : ltb s v.spaces.old_end ≡ is_old spot.space
  old_told = ap (λ t. ltb t v.spaces.old_end) (sym here.start) ∙ old_place v whole here.space here.chunk here.inside ∙ sym (ap (λ (x : Spot). is_old x.space) here.is)

  its_shape : Shape v.words here.chunk
  its_shape = shape v.words here.chunk (stands v.words 0 (length v.words) (chunks_of v) here.chunk (order v (whole_sound v whole)) (in_rows v here.space here.chunk here.inside)).chunk

  abbrev slots : ℕ
  slots = length (body_in v s).words

  its_slots : here.chunk.slots ≡ slots
  its_slots =
      sym its_shape.slots ∙ ap (slots_at v.words) here.start
      ∙ sym (object-slots heap_to v.words (chunks_of v) (order v (whole_sound v whole)) s (ordinary_there (store_of v) s there))

  lead_told : (b : Bool) (at start : ℕ) → start ≡ at + cond b 1 0 → b ≡ ltb at start
  lead_told true at start is = sym (lt-ltb at start (omega (arith, is)))
  lead_told false at start is = sym (le-ltb at start (omega (arith, is)))

  pub overflow_told : leads (get_or v.words s 0) ≡ spot.overflow
  overflow_told =
      ap (λ t. leads (get_or v.words t 0)) (sym here.start) ∙ lead_told (leads (get_or v.words here.chunk.start 0)) here.chunk.at here.chunk.start its_shape.lead
      ∙ sym (ap (λ (x : Spot). x.overflow) here.is)

  words_by : (b : Bool) (at start size n : ℕ) → start ≡ at + cond b 1 0 → at + size ≡ start + 1 + max 1 n → size ≡ cond b 2 1 + max 1 n
  words_by true at start size n lead all = omega (arith, lead, all)
  words_by false at start size n lead all = omega (arith, lead, all)

  pub words_told : spot.words ≡ cond spot.overflow 2 1 + max 1 slots
  words_told =
      let c : Chunk = here.chunk in
      let same : leads (get_or v.words c.start 0) ≡ spot.overflow = ap (λ t. leads (get_or v.words t 0)) here.start ∙ overflow_told in
      ap (λ (x : Spot). x.words) here.is ∙ words_by (leads (get_or v.words c.start 0)) c.at c.start c.size c.slots its_shape.lead its_shape.size
      ∙ (λ i. cond (same i) 2 1 + max 1 (its_slots i))

-- ---- objects that are made anew

one_slot : (space : Space) (n : ℕ) → fresh_spot space (max 1 n) ≡ fresh_spot space n
one_slot space n = elim (cases_eq n 0) [
  | inl none ↦ ap (λ k. fresh_spot space (max 1 k)) none ∙ sym (λ i. record { space = space; words = fresh_words (none i); overflow = is_long (none i) })
  | inr some ↦ let same : max 1 n ≡ n = omega (arith, some) in ap (fresh_spot space) same
]

room_for : (spot : Spot) (n : ℕ) → spot.words ≡ cond spot.overflow 2 1 + max 1 n → slots_in spot ≡ max 1 n
room_for spot n is = by spot.overflow is
  where
    by : (b : Bool) → spot.words ≡ cond b 2 1 + max 1 n → cond b (spot.words - 2) (spot.words - 1) ≡ max 1 n
    by true e = omega (arith, e)
    by false e = omega (arith, e)

-- an object has room for its slots, and is made anew with as many words as one of so many slots
pub spot_anew : (v : View) → IsWhole v → (s : ℕ) → IsOrdinary v s → (n : ℕ) → n ≡ length (body_in v s).words
    → (space : Space) → fresh_spot space (slots_in (spot_at (heap_room v) s)) ≡ fresh_spot space n
spot_anew v whole s there n is space =
    let k : ℕ = length (body_in v s).words in
    ap (fresh_spot space) (room_for (spot_at (heap_room v) s) k (words_told v whole s there)) ∙ one_slot space k ∙ ap (fresh_spot space) (sym is)

-- in new space each stands as one that was made there
pub young_spot : (v : View) → IsWhole v → (s : ℕ) → IsOrdinary v s → (n : ℕ) → n ≡ length (body_in v s).words
    → is_old (spot_at (heap_room v) s).space ≡ false → ◌≡◌ {A = Spot} (record (spot_at (heap_room v) s) { space = Old }) (fresh_spot Old n)
young_spot v whole s there n is young =
    let k = spot_here v whole s there in
    let made = (young_chunk v whole k.space k.chunk (sym (ap (λ (x : Spot). is_old x.space) k.is) ∙ young) k.inside).form in
    let slots : k.chunk.slots ≡ n = its_slots v whole s there ∙ sym is in
    ap (λ (x : Spot). let y : Spot = record x { space = Old } in y) k.is ∙ (λ i. record { space = Old; words = made.0 i; overflow = made.1 i }) ∙ ap (fresh_spot Old) slots

pub same_bools : (t u : Bool) → beq t u ≡ true → t ≡ u
same_bools true true e = refl
same_bools false false e = refl
same_bools true false e = absurd (false≢true e)
same_bools false true e = absurd (false≢true e)

-- two objects with or without overflow words take as many words where they have as many slots, an empty one counted as one of one slot
pub places_alike : (v : View) → IsWhole v → (a b : ℕ) → IsOrdinary v a → IsOrdinary v b → (m n : ℕ) → m ≡ length (body_in v a).words → n ≡ length (body_in v b).words
    → beq (spot_at (heap_room v) a).overflow (spot_at (heap_room v) b).overflow ≡ true → eqb (max m 1) (max n 1) ≡ stays_in_place (heap_room v) a b
places_alike v whole a b first second m n left right alike =
    let x : Spot = spot_at (heap_room v) a in
    let y : Spot = spot_at (heap_room v) b in
    let same : x.overflow ≡ y.overflow = same_bools x.overflow y.overflow alike in
    let wide : ℕ = cond y.overflow 2 1 in
    let one : x.words ≡ wide + max m 1 = words_told v whole a first ∙ (λ i. cond (same i) 2 1 + max 1 (sym left i)) ∙ omega arith in
    let two : y.words ≡ wide + max n 1 = words_told v whole b second ∙ ap (λ k. wide + max 1 k) (sym right) ∙ omega arith in
    sums wide (max m 1) (max n 1) x.words y.words one two ∙ last (eqb x.words y.words) (beq x.overflow y.overflow) alike
  where
    sums : (k p q i j : ℕ) → i ≡ k + p → j ≡ k + q → eqb p q ≡ eqb i j
    sums k p q i j one two = elim (cases_eq p q) [
      | inl e ↦ eq-eqb p q e ∙ sym (eq-eqb i j (omega (arith, one, two, e)))
      | inr n ↦ ne_eqb p q n ∙ sym (ne_eqb i j (λ e. n (omega (arith, one, two, e))))
    ]

    last : (t u : Bool) → u ≡ true → t ≡ (t && u)
    last true u on = sym on
    last false u on = refl
