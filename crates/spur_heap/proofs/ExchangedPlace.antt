-- The place of a chunk once it has the words of another of the same size: an object stands there that has all of the other but the hash.
use Rattle.std.proofs.Common.{◌≡◌, ◌≢◌, ℕ, Bool, true, false, cond, ◌+◌, ◌<◌, ◌≤◌, max, List, take, drop, length, get_or, refl, sym, ap, ◌∙◌, arith, inl, inr, nat_eq}
use Rattle.std.proofs.lemmas.Bool.{cases_eq, ne_eqb}
use Rattle.std.proofs.lemmas.List.{length-take, length-drop, get_or-take, get_or-drop, ext_get_or}
use Rattle.object_header.specs.Fields.{fields_of}
use Rattle.object_header.specs.Head.{count_of}
use Rattle.object_header.specs.Chunks.{Chunk, leads, slots_told, slots_of, slots_from}
use Rattle.spur_graph.specs.Cells.{Body, There, read_cell, body_from, start_named, is_start}
use Rattle.spur_graph.specs.Heaps.{View, store_of, chunks_of, heap_to}
use Rattle.heap_cells.proofs.CellKinds.{there_starts, there_is_not_moved}
use Rattle.heap_cells.proofs.Cutting.{Shape, shape, Stands, stands}
use Rattle.heap_cells.proofs.Members.{In}
use Rattle.heap_cells.proofs.ObjectReads.{object-body}
use Rattle.heap_cells.proofs.ObjectWrites.{to_object}
use Rattle.heap_cells.proofs.Recounted.{recounted, KeepsPlace, slots-told}
use Rattle.spur_heap.specs.Words.{AreSound, is_object, body_in}
use Rattle.spur_heap.proofs.Orders.{order}
use Rattle.spur_heap.proofs.Hops.{start_at}
use Rattle.spur_heap.proofs.OtherHash.{with_hash}

-- a header that tells all that the other tells of its object but the hash, which is its own
pub record IsHeaderFor (own other put : ℕ) : Type 0 where
  pub count : (fields_of put).count ≡ (fields_of other).count
  pub class : (fields_of put).class ≡ (fields_of other).class
  pub format : (fields_of put).format ≡ (fields_of other).format
  pub pinned : (fields_of put).pinned ≡ (fields_of other).pinned
  pub readonly : (fields_of put).readonly ≡ (fields_of other).readonly
  pub hash : (fields_of put).hash ≡ (fields_of own).hash

-- the place of the chunk `c` has the words of the chunk `d`, which has as many, and such a header
pub record Gets (v : View) (new : List ℕ) (c d : Chunk) : Type 0 where
  pub size : c.size ≡ d.size
  pub lead : leads (get_or v.words c.start 0) ≡ leads (get_or v.words d.start 0)
  pub words : (i : ℕ) → i < c.size → c.at + i ≢ c.start → get_or new (c.at + i) 0 ≡ get_or v.words (d.at + i) 0
  pub header : IsHeaderFor (get_or v.words c.start 0) (get_or v.words d.start 0) (get_or new c.start 0)

-- the first word of a chunk, by its header where that is the first
short_told : (v w : ℕ) → leads w ≡ false → count_of v ≡ count_of w → slots_told v ≡ slots_told w
short_told v w off count =
    let same : leads v ≡ false = ap (λ n. nat_eq n 255) count ∙ off in
    rw same (rw off count)

module _ (v : View) (new : List ℕ) (c d : Chunk) (sound : AreSound v) (in_c : In (chunks_of v) c) (in_d : In (chunks_of v) d) (k : Gets v new c d) where
  of_c : Stands v.words 0 (length v.words) c
  of_c = stands v.words 0 (length v.words) (chunks_of v) c (order v sound) in_c

  of_d : Stands v.words 0 (length v.words) d
  of_d = stands v.words 0 (length v.words) (chunks_of v) d (order v sound) in_d

  shape_c : Shape v.words c
  shape_c = shape v.words c of_c.chunk

  shape_d : Shape v.words d
  shape_d = shape v.words d of_d.chunk

  -- the head words of both are as many
  abbrev head : ℕ
  head = cond (leads (get_or v.words d.start 0)) 1 0

  start_c : c.start ≡ c.at + head
  start_c = shape_c.lead ∙ ap (λ b. c.at + cond b 1 0) k.lead

  start_d : d.start ≡ d.at + head
  start_d = shape_d.lead

  pub same_room : max 1 c.slots ≡ max 1 d.slots
  same_room = let a = shape_c.size in let b = shape_d.size in let s = k.size in let e = start_c in let f = start_d in omega (arith, a, b, s, e, f)

  alone : (b : Bool) (at start : ℕ) → start ≡ at + cond b 1 0 → start ≡ at → b ≡ false
  alone true at start is e = absurd (omega (arith, is, e))
  alone false at start is e = refl

  record FirstTold : Type 0 where
    big : leads (get_or new c.at 0) ≡ leads (get_or v.words d.at 0)
    slots : slots_told (get_or new c.at 0) ≡ slots_told (get_or v.words d.at 0)

  first_told : FirstTold
  first_told = elim (cases_eq c.start c.at) [
    | inl e ↦
        let first : d.start ≡ d.at = omega (arith, start_c, start_d, e) in
        let off : leads (get_or v.words d.at 0) ≡ false = ap (λ j. leads (get_or v.words j 0)) (sym first) ∙ alone (leads (get_or v.words d.start 0)) d.at d.start start_d first in
        let count : count_of (get_or new c.at 0) ≡ count_of (get_or v.words d.at 0) =
        ap (λ j. count_of (get_or new j 0)) (sym e) ∙ k.header.count ∙ ap (λ j. count_of (get_or v.words j 0)) first in
        record { big = ap (λ n. nat_eq n 255) count; slots = short_told (get_or new c.at 0) (get_or v.words d.at 0) off count }
    | inr n ↦
        let at_c : c.at + 0 ≡ c.at = omega arith in
        let at_d : d.at + 0 ≡ d.at = omega arith in
        let some : 0 < c.size = let l = of_c.lies.room in let m = of_c.lies.lead in omega (arith, l, m) in
        let same : get_or new c.at 0 ≡ get_or v.words d.at 0 = sym (ap (λ j. get_or new j 0) at_c) ∙ k.words 0 some (λ e. n (sym e ∙ at_c)) ∙ ap (λ j. get_or v.words j 0) at_d in
        record { big = ap leads same; slots = ap slots_told same }
  ]

  pub keeps_place : KeepsPlace v.words new c
  keeps_place =
      let t = first_told in
      record {
        leads_first = t.big ∙ sym of_d.chunk.twice ∙ sym k.lead ∙ of_c.chunk.twice;
        leads_start = ap (λ n. nat_eq n 255) k.header.count ∙ sym k.lead;
        size = ap (max 1) (t.slots ∙ sym (slots-told v.words d of_d.chunk)) ∙ sym same_room ∙ ap (max 1) (slots-told v.words c of_c.chunk);
      }

  pub slots_then : (recounted new c).slots ≡ d.slots
  slots_then = first_told.slots ∙ sym (slots-told v.words d of_d.chunk)

  -- its slots are those of the other
  pub words_then : length new ≡ length v.words → slots_of new (recounted new c) ≡ slots_from v.words d.start
  words_then long =
      let n : ℕ = d.slots in
      let fit_c : c.start + 1 + n ≤ length new = let a = shape_c.size in let b = of_c.lies.before in let s = same_room in omega (arith, a, b, s, long) in
      let fit_d : d.start + 1 + n ≤ length v.words = let b = of_d.lies.before in let s = of_d.lies.slots in omega (arith, b, s) in
      let size_c : length (take n (drop (c.start + 1) new)) ≡ n = simp (length-take, length-drop) (omega (arith, fit_c)) in
      let size_d : length (take n (drop (d.start + 1) v.words)) ≡ n = simp (length-take, length-drop) (omega (arith, fit_d)) in
      let same : take n (drop (c.start + 1) new) ≡ take n (drop (d.start + 1) v.words) = ext_get_or 0 _ _ (size_c ∙ sym size_d) (λ i b.
      let low : i < n = let l : i < length (take n (drop (c.start + 1) new)) = b in omega (arith, l, size_c) in
      let j : ℕ = head + 1 + i in
      let at_c : c.start + 1 + i ≡ c.at + j = let e = start_c in omega (arith, e) in
      let at_d : d.at + j ≡ d.start + 1 + i = let e = start_d in omega (arith, e) in
      let inside : j < c.size = let a = shape_c.size in let s = same_room in let e = start_c in omega (arith, a, s, e, low) in
      rw (get_or-take, get_or-drop, get_or-take, get_or-drop)
      (ap (λ m. get_or new m 0) at_c ∙ k.words j inside (λ e. omega (arith, e, at_c)) ∙ ap (λ m. get_or v.words m 0) at_d)) in
      ap (λ m. take m (drop (c.start + 1) new)) slots_then ∙ same ∙ ap (λ m. take m (drop (d.start + 1) v.words)) (sym shape_d.slots)

  module _ (object_c : is_object v c.start ≡ true) (object_d : is_object v d.start ≡ true) where
    body_c : body_in v c.start ≡ body_from (fields_of (get_or v.words c.start 0)) (slots_from v.words c.start)
    body_c = object-body heap_to v.words (chunks_of v) (order v sound) c.start object_c

    body_d : body_in v d.start ≡ body_from (fields_of (get_or v.words d.start 0)) (slots_from v.words d.start)
    body_d = object-body heap_to v.words (chunks_of v) (order v sound) d.start object_d

    start : is_start ((store_of v).cell d.start) ≡ true
    start = there_starts ((store_of v).cell d.start) object_d

    not_free : nat_eq (fields_of (get_or new c.start 0)).class 0 ≡ false
    not_free = ne_eqb _ 0 (λ e. (start_at v sound d.start start).not_free (sym k.header.class ∙ e))

    not_moved : nat_eq (fields_of (get_or new c.start 0)).class 8 ≡ false
    not_moved = ap (λ n. nat_eq n 8) k.header.class ∙ sym (start_at v sound d.start start).moved ∙ there_is_not_moved ((store_of v).cell d.start) object_d

    body_then : body_from (fields_of (get_or new c.start 0)) (slots_from v.words d.start) ≡ with_hash (body_in v d.start) (body_in v c.start).hash
    body_then = λ x. record {
      class = (k.header.class ∙ sym (ap (λ (b : Body). b.class) body_d)) x;
      hash = (k.header.hash ∙ sym (ap (λ (b : Body). b.hash) body_c)) x;
      format = (k.header.format ∙ sym (ap (λ (b : Body). b.format) body_d)) x;
      pinned = (k.header.pinned ∙ sym (ap (λ (b : Body). b.pinned) body_d)) x;
      readonly = (k.header.readonly ∙ sym (ap (λ (b : Body). b.readonly) body_d)) x;
      words = sym (ap (λ (b : Body). b.words) body_d) x;
    }

    pub read_then : length new ≡ length v.words → read_cell heap_to new (recounted new c) ≡ There (with_hash (body_in v d.start) (body_in v c.start).hash)
    unfolding read_cell
    read_then long =
        to_object (fields_of (get_or new c.start 0)) (start_named heap_to new (get_or new (c.start + 1) 0)) (slots_of new (recounted new c)) not_free not_moved
        ∙ ap (λ ws. There (body_from (fields_of (get_or new c.start 0)) ws)) (words_then long) ∙ ap (λ b. There b) body_then
