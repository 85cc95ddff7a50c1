-- The header of an object is written, with the same count and the same class.
use Rattle.std.proofs.Common.{◌≡◌, ℕ, true, ◌<◌, length, get_or, subst, arith, inl, inr}
use Rattle.std.proofs.lemmas.List.{length-set, get_or-set_same, get_or-set_other}
use Rattle.object_header.specs.Fields.{fields_of}
use Rattle.spur_graph.specs.Cells.{Body, There, body_from}
use Rattle.spur_graph.specs.Heaps.{View, store_of, chunks_of, heap_to}
use Rattle.heap_cells.specs.RowWrites.{Rewrites}
use Rattle.heap_cells.proofs.CellKinds.{there_is, there_starts}
use Rattle.heap_cells.proofs.Cutting.{start-in, stands}
use Rattle.heap_cells.proofs.ObjectWrites.{header-written}
use Rattle.spur_heap.specs.Words.{AreSound, is_object, body_in}
use Rattle.spur_heap.specs.Remembering.{after}
use Rattle.spur_heap.proofs.Orders.{order}
use Rattle.spur_heap.proofs.Hops.{start_at}
use Rattle.spur_heap.proofs.Touched.{Touch}

module _ (v : View) (k : AreSound v) (s : ℕ) (object : is_object v s ≡ true) (w : ℕ) where
  pub header_inside : s < length v.words
  header_inside = let b = (start_at v k s (there_starts ((store_of v).cell s) object)).below in omega (arith, b)

  pub header_read : get_or (after v s w).words s 0 ≡ w
  header_read = get_or-set_same v.words s w 0 header_inside

  -- the object is then `b`, which has the fields of the header and the same words
  pub header_touch : (b : Body) → body_from (fields_of w) (body_in v s).words ≡ b → (fields_of w).count ≡ (fields_of (get_or v.words s 0)).count → (fields_of w).class ≡ (fields_of (get_or v.words s 0)).class
      → Touch v (after v s w).words s (There b)
  header_touch b same count class =
      let c = start-in heap_to v.words (chunks_of v) s (there_starts ((store_of v).cell s) object) in
      let l = (stands v.words 0 (length v.words) (chunks_of v) c.0 (order v k) c.1).lies in
      let r = header-written heap_to v.words (length v.words) (chunks_of v) s w (body_in v s) (order v k) (omega arith) (there_is ((store_of v).cell s) object) count class in
      record {
        sound = k;
        long = length-set v.words s w;
        rewrites = subst (λ x. Rewrites heap_to v.words (after v s w).words (length v.words) (chunks_of v) s (There x)) same r;
        chunk = c.0;
        inside = c.1;
        start = c.2;
        others = λ j out. get_or-set_other v.words s j w 0 (λ e. elim out [ inl low ↦ omega (arith, e, low, l.lead, c.2) | inr high ↦ omega (arith, e, high, l.room, c.2) ]);
      }
