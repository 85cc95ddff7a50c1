-- The heap in which an object that nothing names became a page of the class table.
use Rattle.std.proofs.Common.{◌≡◌, ℕ, true, false, cond, ◌+◌, ◌<◌, List, [], ◌∷◌, ◌++◌, map, length, get_or, leb, refl, sym, ap, ◌∙◌, subst, arith, inl, inr, Some}
use Rattle.std.proofs.lemmas.Bool.{false≢true, cases_Bool, cases_eq, lt-leb}
use Rattle.std.specs.Ordering.{nat_cmp, eq_by_cmp}
use Rattle.std.specs.Cmp.{nat_cmp_total}
use Rattle.std.specs.FinMap.{get, find, get-from_entries}
use Rattle.object_header.specs.Chunks.{Chunk}
use Rattle.spur_graph.specs.Graph.{AreApart}
use Rattle.spur_graph.specs.Room.{Old, Eden, Past, Spot, fresh_spot, is_old}
use Rattle.spur_graph.specs.HeapRoom.{room_in, spots_of, spot_in}
use Rattle.spur_graph.specs.CellRoom.{ordinary_chunks}
use Rattle.spur_graph.specs.Cells.{Body, Store, There, is_start, first, final}
use Rattle.spur_graph.specs.Spaces.{old_row, eden_row, past_row}
use Rattle.spur_graph.specs.Ordinary.{page_entries, passes, body_at, is_ordinary}
use Rattle.spur_graph.specs.Heaps.{View, IsWhole, HasFired, waiting_in, store_of, heap_room, is_over}
use Rattle.heap_cells.specs.Settled.{word_of}
use Rattle.heap_cells.proofs.AddedRoom.{in_map}
use Rattle.heap_cells.proofs.CellKinds.{there_starts}
use Rattle.heap_cells.proofs.Cutting.{stands, cuts-in_order}
use Rattle.heap_cells.proofs.Finding.{key_same}
use Rattle.heap_cells.proofs.Internals.{heap-named}
use Rattle.heap_cells.proofs.ObjectReads.{object-inside}
use Rattle.heap_cells.proofs.Members.{In, in_either, filter_in}
use Rattle.free_lists.specs.declared.lists.FreeLists.{FreeLists}
use Rattle.spur_heap.specs.Words.{starts_at}
use Rattle.spur_heap.specs.Entering.{CanTurn}
use Rattle.spur_heap.proofs.InPlace.{format-same}
use Rattle.spur_heap.proofs.Lone.{lone_page, unheld, unspecial, unmourned}
use Rattle.spur_heap.proofs.Orders.{order}
use Rattle.spur_heap.proofs.Paged.{paged, alike, paged_sound, paged-final, internal-other, ordinary-other, good-other, reference-other}
use Rattle.spur_heap.proofs.Puts.{whole_sound}
use Rattle.spur_heap.proofs.Tables.{HasFreeLists, SameNoted, touched_same, touched_starts, touched_lists}
use Rattle.spur_heap.proofs.Touched.{Touch, Holds, touched_store, held_whole}
use Rattle.spur_heap.proofs.Written.{Slot, bit_kept, then, body_then, slot_touch, slot_fits}

-- where the room has a spot of old space, its chunk stands
pub record StandsOld (v : View) (s : ℕ) (spot : Spot) : Type 0 where
  pub chunk : Chunk
  pub inside : In (old_row v.words v.spaces) chunk
  pub start : chunk.start ≡ s
  pub is : spot_in Old chunk ≡ spot

pub found_in : {X : Type 0} (q : ℕ) (es : List (ℕ × X)) (x : X) → find nat_cmp q es ≡ Some x → In es (q, x)
found_in q [] x e = absurd cc
found_in q (d ∷ es) x e = elim (cases_Bool (eq_by_cmp nat_cmp q d.0)) [
  | inl on ↦
      let value : d.1 ≡ x = let both : Some d.1 ≡ Some x = sym (ap (λ b. cond b (Some d.1) (find nat_cmp q es)) on) ∙ e in cc in
      inl (λ i. (sym (key_same q d.0 on) i, value i))
  | inr off ↦ inr (found_in q es x (sym (ap (λ b. cond b (Some d.1) (find nat_cmp q es)) off) ∙ e))
]

pub stands_old : (v : View) (s : ℕ) (spot : Spot) → is_old spot.space ≡ true → get (heap_room v).spots s ≡ Some spot → StandsOld v s spot
unfolding room_in
stands_old v s spot old is =
    let h : Store = store_of v in
    let X : List (ℕ × Spot) = spots_of Old h (old_row v.words v.spaces) in
    let Y : List (ℕ × Spot) = spots_of Eden h (eden_row v.words v.spaces) in
    let Z : List (ℕ × Spot) = spots_of Past h (past_row v.words v.spaces) in
    let m = found_in s (X ++ (Y ++ Z)) spot (sym (get-from_entries nat_cmp_total (X ++ (Y ++ Z)) s) ∙ is) in
    elim (in_either X (Y ++ Z) (s, spot) m) [
      | inl here ↦
          let c = in_map (λ (d : Chunk). (d.start, spot_in Old d)) (ordinary_chunks h (old_row v.words v.spaces)) (s, spot) here in
          record {
            chunk = c.0;
            inside = (filter_in (λ (d : Chunk). is_ordinary h d.start) (old_row v.words v.spaces) c.0 c.1).0;
            start = ap (λ (e : ℕ × Spot). e.0) c.2;
            is = ap (λ (e : ℕ × Spot). e.1) c.2;
          }
      | inr young ↦ elim (in_either Y Z (s, spot) young) [
        | inl eden ↦
            let c = in_map (λ (d : Chunk). (d.start, spot_in Eden d)) (ordinary_chunks h (eden_row v.words v.spaces)) (s, spot) eden in
            absurd (false≢true (ap (λ (e : ℕ × Spot). is_old e.1.space) c.2 ∙ old))
        | inr past ↦
            let c = in_map (λ (d : Chunk). (d.start, spot_in Past d)) (ordinary_chunks h (past_row v.words v.spaces)) (s, spot) past in
            absurd (false≢true (ap (λ (e : ℕ × Spot). is_old e.1.space) c.2 ∙ old))
      ]
    ]

pub old_below : (v : View) → IsWhole v → (s : ℕ) (spot : Spot) → StandsOld v s spot → s < v.spaces.old_end
old_below v whole s spot k =
    let l = (stands v.words 0 v.spaces.old_end (old_row v.words v.spaces) k.chunk (cuts-in_order v.words 0 v.spaces.old_end (old_row v.words v.spaces) whole.rows.old) k.inside).lies in
    let is = k.start in
    omega (arith, l.room, l.before, is)

module _ {v : View} {place start : ℕ} (whole : IsWhole v) (can : CanTurn v place start) where
  abbrev h : Store
  h = store_of v

  abbrev roots : ℕ
  roots = first h 4

  slot : Slot v roots place
  slot = record { sound = whole_sound v whole; object = whole.sound.roots.objects 4 (omega arith); inside = let l = whole.sound.roots.roots.1 in let b = can.below in omega (arith, l, b) }

  pub turned_inside : roots + 1 + place < length v.words
  turned_inside = object-inside _ v.words _ (order v (whole_sound v whole)) roots slot.object place slot.inside

  -- the heap then
  abbrev pub turned : View
  turned = then v roots place (word_of start)

  abbrev pub new_roots : Body
  new_roots = body_then v roots place (word_of start)

  pub turned_touch : Touch v turned.words roots (There new_roots)
  turned_touch = slot_touch v roots place (word_of start) slot

  pub its_chunk : StandsOld v start (fresh_spot Old page_entries)
  its_chunk = stands_old v start (fresh_spot Old page_entries) refl can.spot

  pub in_old : start < v.spaces.old_end
  in_old = old_below v whole start (fresh_spot Old page_entries) its_chunk

  pub turned_store : store_of turned ≡ paged (lone_page whole can)
  turned_store = touched_store v turned.words roots (There new_roots) turned_touch

  fired : (t : ℕ) → HasFired h t → HasFired (paged (lone_page whole can)) t
  fired t f =
      let k = lone_page whole can in
      record {
        ordinary = ap (is_ordinary (paged k)) (paged-final k t) ∙ ordinary-other k (final h t) (unmourned whole can (final h t) f.format) ∙ f.ordinary;
        format = ap (λ u. (body_at (paged k) u).format) (paged-final k t) ∙ format-same (alike k) (final h t) ∙ f.format;
      }

  holds : Holds v (paged (lone_page whole can))
  holds =
      let k = lone_page whole can in
      record {
        sound = paged_sound k;
        inner = λ t e. elim (cases_eq t start) [
          | inl is ↦ let l = in_old in omega (arith, l, is)
          | inr n ↦ whole.inner t (sym (internal-other k t n) ∙ e)
        ];
        held = λ a w e. good-other k w (unheld whole can a w e) ∙ whole.held a w e;
        special = reference-other k v.special (unspecial whole can) ∙ whole.special_there;
        mourners = record {
          some = whole.mourners.some;
          fired = λ i d l. fired (get_or (waiting_in v.mourners) i d) (whole.mourners.fired i d l);
          apart = subst (λ (ts : List ℕ). AreApart ts) (λ x. map (λ t. sym (paged-final k t) x) (waiting_in v.mourners)) whole.mourners.apart;
        };
      }

  not_over : is_over v.spaces.old_end (word_of start) ≡ false
  not_over = ap (passes (λ t. leb v.spaces.old_end t)) (heap-named start) ∙ lt-leb v.spaces.old_end start in_old

  pub turned_whole : IsWhole turned
  turned_whole =
      held_whole v turned.words roots (There new_roots) turned_touch
      (slot_fits v roots place (word_of start) slot (alike (lone_page whole can)).like (λ m low over. absurd (false≢true (sym not_over ∙ over))) whole) holds whole

  was_start : is_start (h.cell roots) ≡ true
  was_start = there_starts (h.cell roots) slot.object

  pub turned_noted : SameNoted v turned
  turned_noted = touched_same v turned.words roots (There new_roots) turned_touch was_start refl (bit_kept v roots place (word_of start) slot)

  pub turned_starts : (t : ℕ) → starts_at turned t ≡ starts_at v t
  turned_starts = touched_starts v turned.words roots (There new_roots) turned_touch was_start refl

  pub turned_lists : (free : FreeLists) → HasFreeLists v free → HasFreeLists turned free
  turned_lists = touched_lists v turned.words roots (There new_roots) turned_touch was_start refl
