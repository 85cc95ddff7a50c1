-- Words that tell the same place of each chunk, whatever stands there then: what the invariant asks of them, and what the heap stands for.
use Rattle.std.proofs.Common.{◌≡◌, ◌≢◌, ℕ, true, false, cond, ◌+◌, ◌<◌, ◌≤◌, max, List, map, length, get_or, sym, ap, ◌∙◌, subst, inl, inr, arith, nat_lt}
use Rattle.std.proofs.lemmas.Bool.{cases_lt, le-ltb}
use Rattle.std.specs.List.{Contains}
use Rattle.object_header.specs.Chunks.{Chunk, InOrder}
use Rattle.spur_graph.specs.Room.{is_long, fresh_words}
use Rattle.spur_graph.specs.Cells.{Cell, Store, is_start, body_of, cell_in, first}
use Rattle.spur_graph.specs.Spaces.{AreSpaces, AreRows, old_row, eden_row, past_row, young_row}
use Rattle.spur_graph.specs.HeapRoom.{room_in}
use Rattle.spur_graph.specs.Ordinary.{is_good_reference, is_good_word, is_internal}
use Rattle.spur_graph.specs.Heaps.{View, IsWhole, IsSound, HasBits, AreRemembered, AreMourners, IsYoung, store_of, chunks_of, heap_to, heap_graph, heap_room, graph_in, is_remembered, names_over}
use Rattle.heap_cells.proofs.AddedRoom.{in_map}
use Rattle.heap_cells.proofs.Cutting.{stands}
use Rattle.heap_cells.proofs.Members.{In, in_list, listed, in_right}
use Rattle.heap_cells.proofs.Recounted.{recounted, KeepsPlace, RecountsRows, rows-recounted, young-places, rows-places, starts-recounted, slots-told}
use Rattle.heap_cells.proofs.RecountedRoom.{room-recounted}
use Rattle.heap_cells.proofs.Spaced.{rows-in_order}
use Rattle.spur_heap.specs.Words.{AreSound}
use Rattle.spur_heap.proofs.Orders.{order}
use Rattle.spur_heap.proofs.Touched.{Holds}

-- the words tell the same places, and these cells
pub record Rearranges (v : View) (new : List ℕ) (cell : ℕ → Cell) : Type 0 where
  pub sound : AreSound v
  pub long : length new ≡ length v.words
  pub places : (c : Chunk) → In (chunks_of v) c → KeepsPlace v.words new c
  pub cells : (t : ℕ) → cell_in heap_to new (map (recounted new) (chunks_of v)) t ≡ cell t

-- what the clauses on headers and spaces ask
pub record Suits (v : View) (new : List ℕ) (cell : ℕ → Cell) : Type 0 where
  pub bits : (c : Chunk) → In (chunks_of v) c → HasBits v.phase (get_or new c.start 0)
  pub all : (s : ℕ) → s < v.spaces.old_end → s ≢ first (store_of v) 3 → names_over v.spaces.old_end (cell s) ≡ true → is_remembered new s ≡ true
  pub only : (c : Chunk) → In (chunks_of v) c → is_remembered new c.start ≡ true → (c.start < v.spaces.old_end) × (is_start (cell c.start) ≡ true)
  pub young : (c : Chunk) → In (young_row v.words v.spaces) c → (is_start (cell c.start) ≡ true) × ((body_of (cell c.start)).pinned ≡ 0)

-- the chunks then stand in order
pub places_order : (v : View) (new : List ℕ) → AreSound v → length new ≡ length v.words → ((c : Chunk) → In (chunks_of v) c → KeepsPlace v.words new c) → InOrder new 0 (length new) (map (recounted new) (chunks_of v))
places_order v new sound long places =
    let r = rows-recounted v.words new v.spaces sound.rows places in
    subst (λ cs. InOrder new 0 (length new) cs) (rows-places r.0) (rows-in_order new v.limits v.spaces (subst (λ n. AreSpaces n v.limits v.spaces) (sym long) sound.spaces) r.1)

-- one slot takes as many words as none
pub same_words : (m n : ℕ) → max 1 m ≡ max 1 n → (fresh_words m ≡ fresh_words n) × (is_long m ≡ is_long n)
same_words m n e = elim (cases_lt 1 m) [
  | inl more ↦ let same : m ≡ n = omega (arith, e, more) in (ap fresh_words same, ap is_long same)
  | inr few ↦
      let short : (k : ℕ) → k ≤ 1 → is_long k ≡ false = λ k l. le-ltb 254 k (omega (arith, l)) in
      let size : (k : ℕ) → k ≤ 1 → fresh_words k ≡ 1 + max 1 k = λ k l. ap (λ b. cond b (2 + k) (1 + max 1 k)) (short k l) in
      let other : n ≤ 1 = omega (arith, e, few) in
      (size m few ∙ ap (λ k. 1 + k) e ∙ sym (size n other), short m few ∙ sym (short n other))
]

module _ {v : View} {new : List ℕ} {cell : ℕ → Cell} (k : Rearranges v new cell) where
  -- the heap then
  abbrev pub arranged : View
  arranged = record v { words = new }

  -- the store then
  abbrev pub store_then : Store
  store_then = record (store_of v) { cell = cell }

  rows : RecountsRows v.words new v.spaces × AreRows new v.spaces
  rows = rows-recounted v.words new v.spaces k.sound.rows k.places

  pub same_places : chunks_of arranged ≡ map (recounted new) (chunks_of v)
  same_places = rows-places rows.0

  pub old_places : old_row new v.spaces ≡ map (recounted new) (old_row v.words v.spaces)
  old_places = rows.0.old

  pub arranged_store : store_of arranged ≡ store_then
  arranged_store =
      let starts : map (λ (c : Chunk). c.start) (chunks_of arranged) ≡ map (λ (c : Chunk). c.start) (chunks_of v) = ap (map (λ (c : Chunk). c.start)) same_places ∙ starts-recounted new (chunks_of v) in
      let cells : (t : ℕ) → cell_in heap_to new (chunks_of arranged) t ≡ cell t = λ t. ap (λ cs. cell_in heap_to new cs t) same_places ∙ k.cells t in
      λ i. record { names = k.long i; starts = starts i; cell = λ t. cells t i; to = heap_to }

  pub arranged_sound : IsSound store_then → AreSound arranged
  arranged_sound sound = record {
    spaces = subst (λ n. AreSpaces n v.limits v.spaces) (sym k.long) k.sound.spaces;
    rows = rows.1;
    sound = subst (λ (h : Store). IsSound h) (sym arranged_store) sound;
    few = let few = k.sound.few in omega (arith, k.long, few);
  }

  -- each chunk was one of before
  was : (d : Chunk) → Contains (chunks_of arranged) d → (c : Chunk) × In (chunks_of v) c × (recounted new c ≡ d)
  was d m = in_map (recounted new) (chunks_of v) d (subst (λ (cs : List Chunk). In cs d) same_places (in_list (chunks_of arranged) d m))

  -- a chunk of new space has the words of one that was made
  formed : (c : Chunk) → In (chunks_of v) c → IsYoung (store_of v) c → ((recounted new c).size ≡ fresh_words (recounted new c).slots) × (nat_lt c.at c.start ≡ is_long (recounted new c).slots)
  formed c m y =
      let slots = slots-told v.words c (stands v.words 0 (length v.words) (chunks_of v) c (order v k.sound) m).chunk in
      let same = same_words (recounted new c).slots c.slots ((k.places c m).size ∙ ap (max 1) (sym slots)) in
      (y.form.0 ∙ sym same.0, y.form.1 ∙ sym same.1)

  module _ (suits : Suits v new cell) (holds : Holds v store_then) (whole : IsWhole v) where
    young : (d : Chunk) → Contains (young_row new v.spaces) d → IsYoung store_then d
    young d m =
        let c = in_map (recounted new) (young_row v.words v.spaces) d (subst (λ (cs : List Chunk). In cs d) (young-places rows.0) (in_list (young_row new v.spaces) d m)) in
        let q = suits.young c.0 c.1 in
        let y = whole.young c.0 (listed (young_row v.words v.spaces) c.0 c.1) in
        let here : IsYoung store_then (recounted new c.0) = record { start = q.0; mobile = q.1; form = formed c.0 (in_right (old_row v.words v.spaces) (young_row v.words v.spaces) c.0 c.1) y } in
        subst (λ (e : Chunk). IsYoung store_then e) c.2 here

    remembered : AreRemembered new v.spaces.old_end (chunks_of arranged) store_then
    remembered = record {
      all = suits.all;
      only = λ d m on.
          let c = was d m in
          let r = suits.only c.0 c.1 (ap (λ (e : Chunk). is_remembered new e.start) c.2 ∙ on) in
          subst (λ (e : Chunk). (e.start < v.spaces.old_end) × (is_start (cell e.start) ≡ true)) c.2 r;
    }

    pub arranged_whole : IsWhole arranged
    arranged_whole =
        let sound = arranged_sound holds.sound in
        let back = sym arranged_store in
        record {
          spaces = sound.spaces;
          rows = sound.rows;
          sound = sound.sound;
          inner = λ t e. holds.inner t (sym (ap (λ (h : Store). is_internal h t) arranged_store) ∙ e);
          young = λ d m. subst (λ (h : Store). IsYoung h d) back (young d m);
          bits = λ d m. let c = was d m in subst (λ (e : Chunk). HasBits v.phase (get_or new e.start 0)) c.2 (suits.bits c.0 c.1);
          remembered = subst (λ (h : Store). AreRemembered new v.spaces.old_end (chunks_of arranged) h) back remembered;
          held = λ h w e. ap (λ (g : Store). is_good_word g w) arranged_store ∙ holds.held h w e;
          special_there = ap (λ (g : Store). is_good_reference g v.special) arranged_store ∙ holds.special;
          mourners = subst (λ (h : Store). AreMourners h v.mourners) back holds.mourners;
          state_bits = whole.state_bits;
          header = whole.header;
          few = sound.few;
        }

  pub arranged_graph : heap_graph arranged ≡ graph_in store_then v.special v.handles v.mourners v.hash (length v.words)
  arranged_graph = λ i. graph_in (arranged_store i) v.special v.handles v.mourners v.hash (k.long i)

  pub arranged_room : heap_room arranged
      ≡ room_in store_then (old_row v.words v.spaces) (eden_row v.words v.spaces) (past_row v.words v.spaces) v.spaces.old_end v.limits v.spaces.eden_used v.spaces.past_used
  arranged_room =
      (λ i. room_in (arranged_store i) (rows.0.old i) (rows.0.eden i) (rows.0.past i) v.spaces.old_end v.limits v.spaces.eden_used v.spaces.past_used)
      ∙ room-recounted new store_then (old_row v.words v.spaces) (eden_row v.words v.spaces) (past_row v.words v.spaces) v.spaces.old_end v.limits v.spaces.eden_used v.spaces.past_used
