-- The header of an ordinary object is written with another hash, other flags or another format.
use Rattle.std.proofs.Common.{◌≡◌, ℕ, true, eqb, ◌<◌, length, get_or, refl, sym, ap, ◌∙◌, subst, arith, inl, inr}
use Rattle.object_header.specs.Chunks.{slots_from}
use Rattle.object_header.specs.Fields.{fields_of}
use Rattle.spur_graph.specs.Graph.{with_node}
use Rattle.spur_graph.specs.Cells.{Body, There, is_there, body_from, any_below, is_formed, pointer_count, unit_count}
use Rattle.spur_graph.specs.Ordinary.{is_ordinary}
use Rattle.spur_graph.specs.CellGraph.{node_of}
use Rattle.spur_graph.specs.Heaps.{View, IsWhole, HasBits, store_of, chunks_of, heap_to, heap_value, heap_graph, heap_room, own_name, is_over, is_remembered, names_over}
use Rattle.heap_cells.proofs.CellKinds.{there_is, there_starts}
use Rattle.heap_cells.proofs.Cutting.{start-in}
use Rattle.heap_cells.proofs.Members.{listed}
use Rattle.heap_cells.proofs.References.{ordinary_there}
use Rattle.spur_heap.specs.Words.{AreSound, body_in, is_good}
use Rattle.spur_heap.specs.Views.{IsOrdinary}
use Rattle.spur_heap.specs.Remembering.{after}
use Rattle.spur_heap.specs.Heading.{CanHead, KeepsSlots, headed}
use Rattle.spur_heap.proofs.Puts.{whole_sound, body_is}
use Rattle.spur_heap.proofs.Touched.{Touch, Fits}
use Rattle.spur_heap.proofs.Headers.{header_inside, header_read, header_touch}
use Rattle.spur_heap.proofs.Tables.{SameTables, SameNoted}
use Rattle.spur_heap.proofs.Swap.{fires_alike}
use Rattle.spur_heap.proofs.InPlace.{changed}
use Rattle.spur_heap.proofs.Changing.{Change, swap_of}
use Rattle.spur_heap.proofs.Written.{slot_good}
use Rattle.spur_heap.proofs.Unentered.{no_class}
use Rattle.spur_heap.proofs.OtherFormat.{count_format, formed_format, node_format}
use Rattle.spur_heap.proofs.Replaced.{replaced_same, HasFiredThen, replaced_whole, replaced_tables, replaced_ordinary, replaced_good, replaced_value, replaced_graph, replaced_room, replaced_store}

module _ (v : View) (whole : IsWhole v) (s : ℕ) (there : IsOrdinary v s) (w : ℕ) (can : CanHead v s w) where
  sound : AreSound v
  sound = whole_sound v whole

  object : is_there ((store_of v).cell s) ≡ true
  object = ordinary_there (store_of v) s there

  -- the heap then
  abbrev pub headed_at : View
  headed_at = after v s w

  pub inside : s < length v.words
  inside = header_inside v sound s object w

  was : body_in v s ≡ body_from (fields_of (get_or v.words s 0)) (slots_from v.words s)
  was = body_is v whole s there

  -- the object then
  abbrev pub body : Body
  body = record (body_in v s) { hash = (fields_of w).hash; format = (fields_of w).format; pinned = (fields_of w).pinned; readonly = (fields_of w).readonly }

  same_body : body_from (fields_of w) (body_in v s).words ≡ body
  same_body = λ x. record {
    class = (can.class ∙ sym (ap (λ (b : Body). b.class) was)) x;
    hash = (fields_of w).hash;
    format = (fields_of w).format;
    pinned = (fields_of w).pinned;
    readonly = (fields_of w).readonly;
    words = (body_in v s).words;
  }

  here : get_or headed_at.words s 0 ≡ w
  here = header_read v sound s object w

  touch : Touch v headed_at.words s (There body)
  touch = header_touch v sound s object w body same_body can.count can.class

  -- its slots stay what they are
  abbrev other : Body
  other = record (body_in v s) { hash = (fields_of w).hash; pinned = (fields_of w).pinned; readonly = (fields_of w).readonly }

  keeps : KeepsSlots other.format (fields_of w).format
  keeps = subst (λ f. KeepsSlots f (fields_of w).format) (sym (ap (λ (b : Body). b.format) was)) can.format

  same_count : pointer_count body ≡ pointer_count (body_in v s)
  unfolding pointer_count
  same_count = count_format other (fields_of w).format keeps

  formed : is_formed body ≡ true
  unfolding is_formed pointer_count
  formed = formed_format other (fields_of w).format keeps (sound.sound.formed s object)

  bit_kept : is_remembered headed_at.words s ≡ is_remembered v.words s
  bit_kept = ap (λ u. eqb (fields_of u).remembered 1) here ∙ ap (λ n. eqb n 1) can.remembered

  same_over : names_over v.spaces.old_end (There body) ≡ names_over v.spaces.old_end (There (body_in v s))
  unfolding names_over
  same_over = ap (λ n. any_below (λ i. is_over v.spaces.old_end (get_or (body_in v s).words i 0)) n) same_count

  fit : Fits v headed_at.words s (There body)
  fit = record {
    bits = λ bits. subst (λ u. HasBits v.phase u) (sym here) (record { marked = λ p. can.marked ∙ bits.marked p; grey = can.grey ∙ bits.grey; unused = can.unused bits.unused });
    all = λ low other over. bit_kept ∙ whole.remembered.all s low other (ap (names_over v.spaces.old_end) (there_is ((store_of v).cell s) object) ∙ sym same_over ∙ over);
    only = λ on.
        let c = start-in heap_to v.words (chunks_of v) s (there_starts ((store_of v).cell s) object) in
        let r = whole.remembered.only c.0 (listed (chunks_of v) c.0 c.1) (ap (is_remembered v.words) c.2 ∙ sym bit_kept ∙ on) in
        (omega (arith, r.0, c.2), refl);
    young = λ l mobile. (refl, can.mobile l (sym (ap (λ (b : Body). b.pinned) was) ∙ mobile));
  }

  pub same_node : node_of own_name (store_of v) body ≡ headed v s w
  unfolding node_of pointer_count unit_count
  same_node = node_format other (fields_of w).format keeps (store_of v)

  pub change : Change (store_of v) s (body_in v s) body
  change = record {
    sound = sound.sound;
    there = there_is ((store_of v).cell s) object;
    ordinary = there;
    hash = elim can.hash [
      | inl same ↦ inl (same ∙ sym (ap (λ (b : Body). b.hash) was))
      | inr unentered ↦ inr (no_class v whole s there unentered)
    ];
    formed = formed;
    slots = λ i l. slot_good v sound s there i (let e = same_count in omega (arith, l, e));
  }

  -- a mourner keeps its format
  fired : HasFiredThen v s headed_at.words body touch change
  fired = elim can.format [
    | inl same ↦ fires_alike (swap_of change) (same ∙ sym (ap (λ (b : Body). b.format) was)) v.mourners whole.mourners
    | inr r ↦ λ m. r.1
  ]

  pub headed_whole : IsWhole headed_at
  headed_whole = replaced_whole v s headed_at.words body touch change fit fired whole

  pub headed_tables : SameTables v headed_at
  headed_tables = replaced_tables v s headed_at.words body touch change

  pub headed_noted : SameNoted v headed_at
  headed_noted = replaced_same v s headed_at.words body touch change bit_kept

  pub headed_ordinary : (t : ℕ) → is_ordinary (store_of headed_at) t ≡ is_ordinary (store_of v) t
  headed_ordinary = replaced_ordinary v s headed_at.words body touch change

  pub headed_good : (u : ℕ) → is_good headed_at u ≡ is_good v u
  headed_good = replaced_good v s headed_at.words body touch change

  pub headed_value : (u : ℕ) → heap_value headed_at u ≡ heap_value v u
  headed_value = replaced_value v s headed_at.words body touch change

  pub headed_graph : heap_graph headed_at ≡ with_node (heap_graph v) s (headed v s w)
  headed_graph = replaced_graph v s headed_at.words body touch change ∙ ap (with_node (heap_graph v) s) same_node

  pub headed_room : heap_room headed_at ≡ heap_room v
  headed_room = replaced_room v s headed_at.words body touch change

  pub headed_store : store_of headed_at ≡ changed (store_of v) s body
  headed_store = replaced_store v s headed_at.words body touch change
