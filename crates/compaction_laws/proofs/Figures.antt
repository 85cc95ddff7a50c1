-- The figures of a room behind a compaction.
use Rattle.std.proofs.Common.{◌≡◌, ℕ, true, cond, ◌&&◌, ◌+◌, ◌-◌, ◌≤◌, eqb, List, map, refl, sym, ap, ◌∙◌, arith, inl, inr, Some, None, Option}
use Rattle.std.proofs.lemmas.Bool.{false≢true}
use Rattle.std.specs.Option.{is_some, unwrap_or}
use Rattle.std.specs.List.{list_any}
use Rattle.std.specs.Ordering.{nat_cmp, eq_by_cmp}
use Rattle.std.specs.Cmp.{nat_cmp_total}
use Rattle.std.specs.FinMap.{get}
use Rattle.std.specs.FinSet.{contains, contains-from_list}
use Rattle.std.specs.FinSet as sets
use Rattle.object_header.specs.Chunks.{Chunk}
use Rattle.spur_graph.specs.Graph.{node}
use Rattle.spur_graph.specs.Cells.{Store}
use Rattle.spur_graph.specs.Ordinary.{body_at}
use Rattle.spur_graph.specs.FreeSizes.{ascending}
use Rattle.spur_graph.specs.CellRoom.{free_sizes}
use Rattle.spur_graph.specs.Room.{Room, Spot, Old, Eden, Past, is_old, no_spot, spot_at}
use Rattle.spur_graph.specs.HeapRoom.{room_in}
use Rattle.spur_graph.specs.Collections.{RoomCollected, AreGaps, same_space, words_standing, pinned_in_old}
use Rattle.spur_graph.specs.Spaces.{old_row, eden_row, past_row, young_row}
use Rattle.spur_graph.specs.Heaps.{IsWhole, View, own_name, store_of, chunks_of, heap_room, marked_graph}
use Rattle.heap_cells.proofs.Finding.{get-at, get-member}
use Rattle.heap_cells.proofs.Members.{In, in_either, in_left, in_right}
use Rattle.heap_laws.specs.Placed.{kept_spots}
use Rattle.heap_laws.proofs.Sums.{once_apart}
use Rattle.heap_laws.proofs.Tables.{both, any_in, in_any}
use Rattle.compaction_laws.specs.Compacting.{IsTight, Compacts}
use Rattle.compaction_laws.proofs.Spaces.{spaces'}
use Rattle.compaction_laws.proofs.Parts.{eden-part, past-part, eden-from, past-from}
use Rattle.compaction_laws.proofs.After.{new, spaces-are}
use Rattle.compaction_laws.proofs.Sizes.{ascending-again}
use Rattle.compaction_laws.proofs.Sums.{sum-members, sum-zero}
use Rattle.compaction_laws.proofs.Gaps.{few-gaps}
use Rattle.compaction_laws.proofs.Zones.{keep, zone, zone-of-old, zone-of-eden, zone-of-past, all-of}
use Rattle.compaction_laws.proofs.RoomParts.{spot, left, row-words, is-left, in-left, left-apart, spots-left, sum-left}
use Rattle.compaction_laws.proofs.OldSpace.{left_words, old-words, node-pinned, inner_pins, left_pins, pins-are, two-words, gap-count, gap-words}

module _ {p : ℕ → ℕ} {v v' : View} (k : IsWhole v) (t : IsTight v) (c : Compacts p v v') where
  abbrev old : Store
  old = store_of v

  abbrev after : Store
  after = store_of (new k t c)

  abbrev os : List Chunk
  os = old_row v.words v.spaces

  abbrev es : List Chunk
  es = eden_row v.words v.spaces

  abbrev ps : List Chunk
  ps = past_row v.words v.spaces

  abbrev os' : List Chunk
  os' = old_row v'.words (spaces' k t c)

  -- ---- the room

  -- that of the names that are left, with the figures of the words afterwards
  abbrev pub room : Room
  room = record (heap_room v) {
    spots = kept_spots own_name (keep k t c) (spot k t c) old (chunks_of v);
    old_names = sets.from_list {R = nat_cmp} (map (λ (d : Chunk). d.start) (left k t c os));
    free = (heap_room (new k t c)).free;
    eden_left = (heap_room (new k t c)).eden_left;
    past_used = (heap_room (new k t c)).past_used;
  }

  room-spots : (a : ℕ) → get room.spots a ≡ cond (is_some (get (marked_graph v).nodes a)) (get (heap_room v).spots a) None
  unfolding room_in
  room-spots a = spots-left k t c a

  -- ---- old names

  spot-at : (d : Chunk) → In (left k t c (chunks_of v)) d → get room.spots d.start ≡ Some (spot k t c d)
  spot-at d m = get-at (λ (x : Chunk). x.start) (spot k t c) d (left k t c (chunks_of v))
      (λ z n e. ap (spot k t c) (sym (once_apart (λ (x : Chunk). x.start) (left k t c (chunks_of v)) (left-apart k t c) d z m n e))) m

  old-only : (a : ℕ) (o : Option Spot) → get room.spots a ≡ o → (is_some o && is_old (unwrap_or o no_spot).space) ≡ true → (d : Chunk) × In (left k t c os) d × (d.start ≡ a)
  old-only a None e on = absurd (false≢true on)
  old-only a (Some s) e on =
      let m = get-member (λ (x : Chunk). x.start) (spot k t c) a (left k t c (chunks_of v)) s e in
      let l = is-left k t c (chunks_of v) m.0 m.1 in
      let space : is_old (zone k t c m.0.start) ≡ true = ap (λ (x : Spot). is_old x.space) m.3 ∙ on in
      elim (in_either os (young_row v.words v.spaces) m.0 l.inside) [
        | inl o ↦ (m.0, in-left k t c os m.0 (record { inside = o; ordinary = l.ordinary; kept = l.kept }), m.2)
        | inr y ↦ elim (in_either es ps m.0 y) [
          | inl f ↦ absurd (false≢true (ap is_old (sym (zone-of-eden k t c m.0 f)) ∙ space))
          | inr f ↦ absurd (false≢true (ap is_old (sym (zone-of-past k t c m.0 f)) ∙ space))
        ]
      ]

  room-names : (a : ℕ) → contains room.old_names a ≡ (is_some (get room.spots a) && is_old (spot_at room a).space)
  room-names a =
      contains-from_list nat_cmp_total (map (λ (d : Chunk). d.start) (left k t c os)) a
      ∙ both (list_any (eq_by_cmp nat_cmp a) (map (λ (d : Chunk). d.start) (left k t c os))) (is_some (get room.spots a) && is_old (spot_at room a).space)
      (λ e.
      let m = any_in (λ (d : Chunk). d.start) a (left k t c os) e in
      let l = is-left k t c os m.0 m.1 in
      let all = in-left k t c (chunks_of v) m.0 (record { inside = in_left os (young_row v.words v.spaces) m.0 l.inside; ordinary = l.ordinary; kept = l.kept }) in
      let here : get room.spots a ≡ Some (spot k t c m.0) = ap (get room.spots) (sym m.2) ∙ spot-at m.0 all in
      (λ i. is_some (here i) && is_old (unwrap_or (here i) no_spot).space) ∙ ap is_old (zone-of-old k t c m.0 l.inside))
      (λ e. let m = old-only a (get room.spots a) refl e in in_any (λ (d : Chunk). d.start) a (left k t c os) m.0 m.1 m.2)

  -- ---- words

  standing-old : words_standing Old room ≡ left_words k t c os
  standing-old =
      let all = sum-left k t c (λ e. cond (same_space e.1.space Old) e.1.words 0) in
      let a = sum-zero (λ (d : Chunk). cond (same_space Eden Old) d.size 0) (left k t c es) (λ d m. refl) in
      let b = sum-zero (λ (d : Chunk). cond (same_space Past Old) d.size 0) (left k t c ps) (λ d m. refl) in
      omega (arith, all, a, b)

  standing-eden : words_standing Eden room ≡ left_words k t c es
  standing-eden =
      let all = sum-left k t c (λ e. cond (same_space e.1.space Eden) e.1.words 0) in
      let a = sum-zero (λ (d : Chunk). cond (same_space Old Eden) d.size 0) (left k t c os) (λ d m. refl) in
      let b = sum-zero (λ (d : Chunk). cond (same_space Past Eden) d.size 0) (left k t c ps) (λ d m. refl) in
      omega (arith, all, a, b)

  standing-past : words_standing Past room ≡ left_words k t c ps
  standing-past =
      let all = sum-left k t c (λ e. cond (same_space e.1.space Past) e.1.words 0) in
      let a = sum-zero (λ (d : Chunk). cond (same_space Old Past) d.size 0) (left k t c os) (λ d m. refl) in
      let b = sum-zero (λ (d : Chunk). cond (same_space Eden Past) d.size 0) (left k t c es) (λ d m. refl) in
      omega (arith, all, a, b)

  abbrev es' : List Chunk
  es' = eden_row v'.words (spaces' k t c)

  abbrev ps' : List Chunk
  ps' = past_row v'.words (spaces' k t c)

  eden-words : v.spaces.eden_at + left_words k t c es ≡ v.spaces.eden_at + v'.spaces.eden_used
  eden-words = row-words k t c es es' (eden-part k t c) (eden-from k t c) (λ d m. in_left es ps d m) (λ d m. in_right os' (young_row v'.words (spaces' k t c)) d (in_left es' ps' d m))
      v.spaces.eden_at (v.spaces.eden_at + v.spaces.eden_used) (v.spaces.eden_at + v'.spaces.eden_used) k.rows.eden c.eden.cuts

  past-words : v.spaces.past_at + left_words k t c ps ≡ v.spaces.past_at + v'.spaces.past_used
  past-words = row-words k t c ps ps' (past-part k t c) (past-from k t c) (λ d m. in_right es ps d m) (λ d m. in_right os' (young_row v'.words (spaces' k t c)) d (in_right es' ps' d m))
      v.spaces.past_at (v.spaces.past_at + v.spaces.past_used) (v.spaces.past_at + v'.spaces.past_used) k.rows.past c.past.cuts

  room-eden : (heap_room (new k t c)).eden_left + words_standing Eden room ≡ (heap_room v).eden_words
  unfolding room_in
  room-eden = let stand = standing-eden in let used = eden-words in let fits = (spaces-are k t c).eden_fits in omega (arith, stand, used, fits)

  room-past : (heap_room (new k t c)).past_used ≡ words_standing Past room
  unfolding room_in
  room-past = let stand = standing-past in let used = past-words in omega (arith, stand, used)

  -- ---- free chunks

  pinned-in-old : pinned_in_old (marked_graph v) room ≡ inner_pins k t c + left_pins k t c
  unfolding room_in
  pinned-in-old =
      let all = sum-left k t c (λ e. cond (is_old e.1.space && (node (marked_graph v) e.0).pinned) 1 0) in
      let a = sum-zero (λ (d : Chunk). cond (is_old Eden && (node (marked_graph v) d.start).pinned) 1 0) (left k t c es) (λ d m. refl) in
      let b = sum-zero (λ (d : Chunk). cond (is_old Past && (node (marked_graph v) d.start).pinned) 1 0) (left k t c ps) (λ d m. refl) in
      let o = sum-members (λ (d : Chunk). cond ((node (marked_graph v) d.start).pinned) 1 0) (λ (d : Chunk). cond (eqb (body_at old d.start).pinned 1) 1 0) (left k t c os)
      (λ d m. ap {B = ℕ} (λ x. cond x 1 0) (node-pinned k t c d (is-left k t c os d m))) in
      omega (arith, all, a, b, o)

  room-free : (occupied : ℕ) → occupied ≡ (heap_room v).internal_words + words_standing Old room → (occupied ≤ (heap_room v).old_words) × AreGaps room.free ((heap_room v).old_words - occupied) (pinned_in_old (marked_graph v) room)
  unfolding room_in
  room-free occupied e =
      let stand = standing-old in
      let all = old-words k t c in
      let words = gap-words k t c in
      let pins = pinned-in-old in
      let were = pins-are k t c in
      let few = few-gaps k t c in
      let count = gap-count k t c in (
        omega (arith, e, stand, all),
        record {
          ordered = sym (ascending-again (free_sizes after os'));
          two = all-of (λ n. 2 ≤ n) (ascending (free_sizes after os')) (two-words k t c);
          rest = omega (arith, e, stand, all, words);
          few = omega (arith, pins, were, few, count);
        },
      )

  pub collected : RoomCollected (heap_room v) (marked_graph v) room
  collected = record { spots = room-spots; old_names = room-names; free = room-free; eden = room-eden; past = room-past; rest = refl }
