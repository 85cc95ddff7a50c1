-- An ordinary object gets the contents of another: what the heap stands for then.
use Rattle.std.proofs.Common.{◌≡◌, ℕ, true, eqb, ◌+◌, ◌<◌, ◌≤◌, List, length, get_or, set, sym, ap, ◌∙◌, arith, inl, inr}
use Rattle.std.proofs.lemmas.List.{length-set, get_or-set_same, get_or-set_other}
use Rattle.object_header.specs.Chunks.{slots_at, StandsAt}
use Rattle.spur_graph.specs.Graph.{with_node}
use Rattle.spur_graph.specs.Heaps.{View, IsWhole, store_of, chunks_of, heap_value, heap_graph, heap_room}
use Rattle.object_header.specs.Fields.{Fields}
use Rattle.heap_cells.proofs.CellKinds.{there_starts}
use Rattle.heap_cells.proofs.ObjectReads.{object-slots, object-word, object-stands}
use Rattle.heap_cells.proofs.ObjectRewrites.{IsRewritten}
use Rattle.spur_heap.specs.Contents.{TakesHeader}
use Rattle.spur_heap.specs.Exchanging.{CanTake}
use Rattle.spur_heap.specs.Fresh.{SameOutside}
use Rattle.spur_heap.specs.Outside.{IsOutside}
use Rattle.spur_heap.specs.Views.{IsOrdinary, IsGood, node_in}
use Rattle.spur_heap.specs.Remembering.{must_with}
use Rattle.spur_heap.specs.Swaps.{remembers}
use Rattle.spur_heap.specs.Words.{body_in, starts_at}
use Rattle.spur_heap.proofs.ExchangedHeaders.{bit_told}
use Rattle.spur_heap.proofs.Orders.{order}
use Rattle.spur_heap.proofs.Puts.{whole_sound, object, start_inside}
use Rattle.spur_heap.proofs.Tables.{SameTables, NotesToo}
use Rattle.spur_heap.proofs.Unentered.{no_class}
use Rattle.spur_heap.proofs.Contents.{taken, taken_node, unpinned, unawaited}
use Rattle.spur_heap.proofs.Overwritten.{Overwrite, overwritten_whole, overwritten_tables, overwritten_notes, overwritten_chunks, overwritten_ordinary, overwritten_good, overwritten_value, overwritten_graph, overwritten_room, overwritten_others}

-- ---- where the runs stand

module _ (v : View) (whole : IsWhole v) (s : ℕ) (there : IsOrdinary v s) where
  pub object_stands : StandsAt v.words s
  object_stands = object-stands _ v.words _ (order v (whole_sound v whole)) s (object v whole s there)

  pub slots_are : slots_at v.words s ≡ length (body_in v s).words
  slots_are = sym (object-slots _ v.words _ (order v (whole_sound v whole)) s (object v whole s there))

  pub stands_inside : s < length v.words
  stands_inside = let l = start_inside v whole s there in omega (arith, l)

-- the words behind a header are copied behind another, and that header is put
pub record Copies (v : View) (from to slots word : ℕ) (mid new : List ℕ) : Type 0 where
  pub as_many : slots ≡ slots_at v.words to
  pub long : length mid ≡ length v.words
  pub run : (i : ℕ) → i < slots → get_or mid (to + 1 + i) 0 ≡ get_or v.words (from + 1 + i) 0
  pub others : SameOutside v.words mid (to + 1) slots
  pub header : new ≡ set mid to word

-- the source has as many slots
module _ (v : View) (whole : IsWhole v) (from to : ℕ) (source : IsOrdinary v from) (target : IsOrdinary v to) (can : CanTake v from to) where
  source_slots : slots_at v.words to ≡ length (body_in v from).words
  source_slots = slots_are v whole to target ∙ sym can.slots

  pub source_inside : (slots : ℕ) → slots ≡ slots_at v.words to → from + 1 + slots ≤ length v.words
  source_inside slots is = let s = object_stands v whole from source in let e = slots_are v whole from source in let m = source_slots in let f = s.fits in omega (arith, is, e, m, f)

-- the object at `to` got the contents of the one at `from`, and this hash
pub record HasCopied (v : View) (from to hash : ℕ) (new : List ℕ) : Type 0 where
  pub whole : IsWhole v
  pub source : IsOrdinary v from
  pub target : IsOrdinary v to
  pub can : CanTake v from to
  pub slots : ℕ
  pub word : ℕ
  pub mid : List ℕ
  pub takes : TakesHeader v from to hash word
  pub copies : Copies v from to slots word mid new

module _ {v : View} {from to hash : ℕ} {new : List ℕ} (k : HasCopied v from to hash new) where
  abbrev xs : List ℕ
  xs = (body_in v from).words

  count : k.slots ≡ length xs
  count = k.copies.as_many ∙ source_slots v k.whole from to k.source k.target k.can

  rewritten : IsRewritten v.words to k.word xs new
  rewritten =
      let c = k.copies in
      let inside : to < length k.mid = let l = stands_inside v k.whole to k.target in let e = c.long in omega (arith, l, e) in
      record {
        long = ap (λ ws. length ws) c.header ∙ length-set k.mid to k.word ∙ c.long;
        header = ap (λ ws. get_or ws to 0) c.header ∙ get_or-set_same k.mid to k.word 0 inside;
        slots = λ i l.
            ap (λ ws. get_or ws (to + 1 + i) 0) c.header ∙ get_or-set_other k.mid to (to + 1 + i) k.word 0 (λ e. omega (arith, e))
            ∙ c.run i (let n = count in omega (arith, l, n))
            ∙ sym (object-word _ v.words _ (order v (whole_sound v k.whole)) from (object v k.whole from k.source) i l);
        others = λ j out.
            ap (λ ws. get_or ws j 0) c.header ∙ get_or-set_other k.mid to j k.word 0 (λ e. elim out [ inl low ↦ omega (arith, e, low) | inr high ↦ omega (arith, e, high) ])
            ∙ c.others j (elim out [ inl low ↦ inl (omega (arith, low)) | inr high ↦ inr (let n = count in omega (arith, high, n)) ]);
      }

  overwrite : Overwrite v to k.word xs
  overwrite =
      taken v k.whole from to hash k.word k.source k.target k.takes k.can.slots (inr (no_class v k.whole to k.target k.can.unentered)) (unpinned v k.whole from k.source k.can.mobile)
      (λ m. absurd (unawaited v to k.can.awake m))

  -- the heap then
  abbrev pub copied : View
  copied = record v { words = new }

  pub copied_whole : IsWhole copied
  copied_whole = overwritten_whole v to k.word xs new overwrite rewritten

  pub copied_tables : SameTables v copied
  copied_tables = overwritten_tables v to k.word xs new overwrite rewritten

  pub copied_notes : NotesToo v copied (must_with v to from) to
  copied_notes =
      overwritten_notes v to k.word xs new overwrite rewritten (must_with v to from)
      (ap (λ (f : Fields). eqb f.remembered 1) k.takes.fields ∙ bit_told (remembers v to from))

  pub target_starts : starts_at v to ≡ true
  target_starts = there_starts ((store_of v).cell to) (object v k.whole to k.target)

  pub copied_chunks : chunks_of copied ≡ chunks_of v
  copied_chunks = overwritten_chunks v to k.word xs new overwrite rewritten

  pub copied_ordinary : (t : ℕ) → IsOrdinary v t → IsOrdinary copied t
  copied_ordinary = overwritten_ordinary v to k.word xs new overwrite rewritten

  pub copied_good : (u : ℕ) → IsGood v u → IsGood copied u
  copied_good = overwritten_good v to k.word xs new overwrite rewritten

  pub copied_value : (u : ℕ) → heap_value copied u ≡ heap_value v u
  copied_value = overwritten_value v to k.word xs new overwrite rewritten

  pub copied_graph : heap_graph copied ≡ with_node (heap_graph v) to (record (node_in v from) { hash = hash })
  copied_graph = overwritten_graph v to k.word xs new overwrite rewritten ∙ ap (with_node (heap_graph v) to) (taken_node v k.whole from to hash k.word k.source k.target k.takes (store_of v))

  pub copied_room : heap_room copied ≡ heap_room v
  copied_room = overwritten_room v to k.word xs new overwrite rewritten

  pub copied_others : (j : ℕ) → IsOutside v to j → get_or new j 0 ≡ get_or v.words j 0
  copied_others = overwritten_others v to k.word xs new overwrite rewritten
