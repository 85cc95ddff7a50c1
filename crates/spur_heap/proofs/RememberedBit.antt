-- The remembered bit of an object of old space is set.
use Rattle.std.proofs.Common.{◌≡◌, ℕ, true, ◌<◌, get_or, refl, sym, ap, ◌∙◌, subst, arith, inl, inr}
use Rattle.std.proofs.lemmas.Bool.{eq-eqb, or_right}
use Rattle.object_header.specs.Field.{SetsField, with_field}
use Rattle.object_header.specs.Fields.{fields_of}
use Rattle.object_header.proofs.Fields.{SetsField-with_field}
use Rattle.spur_graph.specs.Cells.{There}
use Rattle.spur_graph.specs.Heaps.{View, IsWhole, store_of, heap_value, heap_graph, heap_room, HasBits, HasNoUnusedBits, is_remembered}
use Rattle.heap_cells.proofs.UnusedBits.{set_unused}
use Rattle.spur_heap.specs.Words.{AreSound, is_object, body_in}
use Rattle.spur_heap.specs.Remembering.{with_remembered, remembered_at}
use Rattle.spur_heap.proofs.Touched.{Fits}
use Rattle.spur_heap.proofs.Headers.{header_read}
use Rattle.spur_heap.proofs.Tables.{SameTables, NotesToo}
use Rattle.spur_heap.proofs.SameCell.{TellSame, same_tables, same_notes, same_store, same_whole, same_graph, same_room, same_value}

-- the bit is set, and every other field of the header is as before
pub record SetsBit (old new : ℕ) : Type 0 where
  pub bit : (fields_of new).remembered ≡ 1
  pub object : TellSame old new
  pub marked : (fields_of new).marked ≡ (fields_of old).marked
  pub grey : (fields_of new).grey ≡ (fields_of old).grey
  pub unused : HasNoUnusedBits old → HasNoUnusedBits new

pub sets_bit : (word : ℕ) → SetsBit word (with_remembered word)
sets_bit word =
    let f : SetsField 29 1 word 1 (with_field 29 1 word 1) = SetsField-with_field word 29 1 1 (omega arith) in
    record {
      bit = f.reads;
      object = record {
        count = f.others 56 8 (inr (omega arith));
        hash = f.others 32 22 (inr (omega arith));
        pinned = f.others 30 1 (inr (omega arith));
        format = f.others 24 5 (inl (omega arith));
        readonly = f.others 23 1 (inl (omega arith));
        class = f.others 0 22 (inl (omega arith));
      };
      marked = f.others 55 1 (inr (omega arith));
      grey = f.others 31 1 (inr (omega arith));
      unused = set_unused 29 1 word 1 (with_remembered word) (inl (omega arith)) (inr (omega arith)) (omega arith) refl;
    }

module _ (v : View) (k : AreSound v) (s : ℕ) (object : is_object v s ≡ true) where
  abbrev word : ℕ
  word = get_or v.words s 0

  same : TellSame word (with_remembered word)
  same = (sets_bit word).object

  here : get_or (remembered_at v s).words s 0 ≡ with_remembered word
  here = header_read v k s object (with_remembered word)

  pub remembered_tables : SameTables v (remembered_at v s)
  remembered_tables = same_tables v k s object (with_remembered word) same

  pub remembered_store : store_of (remembered_at v s) ≡ store_of v
  remembered_store = same_store v k s object (with_remembered word) same

  pub bit_is_set : is_remembered (remembered_at v s).words s ≡ true
  bit_is_set = eq-eqb (fields_of (get_or (remembered_at v s).words s 0)).remembered 1 (ap (λ u. (fields_of u).remembered) here ∙ (sets_bit word).bit)

  pub remembered_notes : NotesToo v (remembered_at v s) true s
  remembered_notes = same_notes v k s object (with_remembered word) same true (bit_is_set ∙ sym (or_right (is_remembered v.words s) true refl))

  fits : s < v.spaces.old_end → Fits v (remembered_at v s).words s (There (body_in v s))
  fits low = record {
    bits = λ was.
        let b = sets_bit word in
        subst (λ u. HasBits v.phase u) (sym here) (record { marked = λ w. b.marked ∙ was.marked w; grey = b.grey ∙ was.grey; unused = b.unused was.unused });
    all = λ l n over. bit_is_set;
    only = λ on. (low, refl);
    young = λ l y. absurd (omega (arith, l, low));
  }

  pub remembered_whole : s < v.spaces.old_end → IsWhole v → IsWhole (remembered_at v s)
  remembered_whole low whole = same_whole v k s object (with_remembered word) same (fits low) whole

  pub remembered_graph : heap_graph (remembered_at v s) ≡ heap_graph v
  remembered_graph = same_graph v k s object (with_remembered word) same

  pub remembered_room : heap_room (remembered_at v s) ≡ heap_room v
  remembered_room = same_room v k s object (with_remembered word) same

  pub remembered_value : (u : ℕ) → heap_value (remembered_at v s) u ≡ heap_value v u
  remembered_value u = same_value v k s object (with_remembered word) same u
