-- The cursor at a chunk.
use Rattle.std.proofs.Common.{◌≡◌, ℕ, Bool, true, false, cond, not, ◌+◌, ◌<◌, length, get_or, sym, ap, ◌∙◌, arith, Option, Some, None}
use Rattle.object_header.specs.Head.{class_of, is_unformed}
use Rattle.object_header.specs.Chunks.{Chunk, chunk_of}
use Rattle.spur_graph.specs.Cells.{pointer_count}
use Rattle.spur_graph.specs.Ordinary.{body_at}
use Rattle.spur_graph.specs.Heaps.{View, IsWhole, store_of}
use Rattle.heap_cells.proofs.Members.{In, in_list}
use Rattle.image_save.specs.Saved.{saved_chunks, has_object, value_count}
use Rattle.image_save.specs.Places.{Begins, IsAt, pointers_at}
use Rattle.image_save.proofs.Parts.{seen}

pub record Here (v : View) (q : ℕ) (b : Begins v q) : Type 0 where
  pub inside : q < length v.words
  pub start : b.chunk.start ≡ (chunk_of q (get_or v.words q 0)).start
  pub end : b.chunk.at + b.chunk.size ≡ q + (chunk_of q (get_or v.words q 0)).size
  pub header : b.chunk.start < length v.words
  pub more : q < b.chunk.at + b.chunk.size

module _ (v : View) (whole : IsWhole v) (q : ℕ) (b : Begins v q) where
  in_saved : In (saved_chunks v) b.chunk
  in_saved = in_list (saved_chunks v) b.chunk b.saved

  pub here : Here v q b
  here =
      let s = seen v whole b.chunk in_saved in
      let l = s.lies in
      let is : b.chunk ≡ chunk_of q (get_or v.words q 0) = s.is ∙ ap (λ n. chunk_of n (get_or v.words n 0)) b.here in
      record {
        inside = omega (arith, b.here, l.lead, l.room, l.before);
        start = ap (λ (c : Chunk). c.start) is;
        end = let size = ap (λ (c : Chunk). c.size) is in omega (arith, size, b.here);
        header = omega (arith, l.room, l.before);
        more = omega (arith, b.here, l.lead, l.room);
      }

  module _ (start end : ℕ) (start_is : start ≡ (chunk_of q (get_or v.words q 0)).start) where
    same : start ≡ b.chunk.start
    same = start_is ∙ sym here.start

    -- its header tells whether it is an object
    pub there_by : (unformed : Bool) → is_unformed (class_of (get_or v.words start 0)) ≡ unformed → has_object v start ≡ not unformed
    there_by unformed is =
        ap (has_object v) same ∙ (seen v whole b.chunk in_saved).there ∙ ap (λ n. not (is_unformed (class_of (get_or v.words n 0)))) (sym same) ∙ ap not is

    at_by : (pointers : Option ℕ) → end ≡ q + (chunk_of q (get_or v.words q 0)).size → pointers ≡ pointers_at v start → IsAt v q (record { at = q; start = start; end = end; pointers = pointers })
    at_by pointers end_is pointers_are = record {
      chunk = b.chunk;
      covers = record { saved = b.saved; from = omega (arith, b.here); to = here.more };
      at_is = sym b.here;
      start_is = same;
      end_is = end_is ∙ sym here.end;
      pointers_are = pointers_are ∙ ap (pointers_at v) same;
    }

    pub at_unformed : end ≡ q + (chunk_of q (get_or v.words q 0)).size → is_unformed (class_of (get_or v.words start 0)) ≡ true → IsAt v q (record { at = q; start = start; end = end; pointers = None })
    at_unformed end_is on = at_by None end_is (sym (ap (λ k. cond k (Some (value_count v start)) None) (there_by true on)))

    pub at_object : (pointers : ℕ) → end ≡ q + (chunk_of q (get_or v.words q 0)).size → is_unformed (class_of (get_or v.words start 0)) ≡ false → pointers ≡ pointer_count (body_at (store_of v) start)
        → IsAt v q (record { at = q; start = start; end = end; pointers = Some pointers })
    unfolding value_count
    at_object pointers end_is off count = at_by (Some pointers) end_is (ap (λ n. Some n) count ∙ sym (ap (λ k. cond k (Some (value_count v start)) None) (there_by false off)))
