-- The parts of a heap whose mark bits are cleared, which is whole then.
use Rattle.std.proofs.Common.{◌≡◌, ℕ, true, ◌+◌, ◌*◌, ◌/◌, ◌%◌, ◌^◌, List, get_or, cond, nat_lt, ◌-◌, refl, sym, ap, ◌∙◌, subst, arith}
use Rattle.std.specs.List.{Contains}
use Rattle.object_header.specs.Field.{with_field}
use Rattle.object_header.specs.Fields.{fields_of, free_header}
use Rattle.object_header.specs.Chunks.{Chunk}
use Rattle.object_header.proofs.Fields.{whole_of_parts}
use Rattle.spur_graph.specs.Spaces.{old_row, young_row}
use Rattle.spur_graph.specs.Heaps.{View, Phase, Whole, HasBits, chunks_of, store_of, heap_graph, heap_room}
use Rattle.heap_cells.proofs.Cutting.{stands, cuts-in_order}
use Rattle.heap_cells.proofs.Members.{In, listed, in_left}
use Rattle.free_lists.specs.Rows.{is_free, free_runs, written}
use Rattle.free_lists.proofs.Written.{free_is_written}
use Rattle.spur_heap.specs.declared.heap.HeapParts.{HeapParts}
use Rattle.spur_heap.specs.declared.heap.Phase.TheVariants as codes
use Rattle.spur_heap.specs.Parts.{view_of, ArePartsOfHeap}
use Rattle.spur_heap.specs.MarkBits.{without_mark, Unmarks}
use Rattle.spur_heap.proofs.Marking.{SetsMark, sets_mark, rephased_parts}
use Rattle.spur_heap.proofs.Rebuilt.{run_in, free_bits, short_count}
use Rattle.spur_heap.proofs.SameCell.{TellSame}
use Rattle.spur_heap.proofs.SameHeads.{SameHeads, heads_store, heads_graph, heads_room, heads_whole, heads_tables, heads_noted, before}
use Rattle.spur_heap.proofs.Tables.{parts_same}

-- a word without the bit stays
unmarked_stays : (word : ℕ) → (fields_of word).marked ≡ 0 → without_mark word ≡ word
unfolding with_field
unmarked_stays word none = ap (λ n. (word / 2 ^ 56 * 2 ^ 1 + n) * 2 ^ 55 + word % 2 ^ 55) (sym none) ∙ whole_of_parts word 55 1

module _ (p : HeapParts) (k : ArePartsOfHeap p) (new : List ℕ) (u : Unmarks p.region new (chunks_of (view_of p))) where
  abbrev v : View
  v = view_of p

  sets : (word : ℕ) → SetsMark word 0 (without_mark word)
  sets word = sets_mark word 0 (omega arith)

  header : (c : Chunk) → In (chunks_of v) c → get_or new c.start 0 ≡ without_mark (get_or v.words c.start 0)
  header c m = u.headers c (listed (chunks_of v) c m)

  heads : SameHeads v new
  heads = record {
    whole = k.whole;
    long = u.long;
    heads = λ c m. subst (λ w. TellSame (get_or v.words c.start 0) w) (sym (header c m)) (sets (get_or v.words c.start 0)).object;
    others = u.others;
  }

  -- no header has its bit then, as any phase may ask
  bits : (phase : Phase) (c : Chunk) → Contains (chunks_of v) c → HasBits phase (get_or new c.start 0)
  bits phase c m =
      let was = k.whole.bits c m in
      let s = sets (get_or v.words c.start 0) in
      subst (λ w. HasBits phase w) (sym (u.headers c m)) (record { marked = λ e. s.bit_is; grey = s.grey ∙ was.grey; unused = s.unused was.unused })

  -- the header of a free chunk had none
  free_stays : (c : Chunk) → In (old_row v.words v.spaces) c → is_free (get_or v.words c.start 0) ≡ true → get_or new c.start 0 ≡ get_or v.words c.start 0
  free_stays c m on =
      let f = free_is_written v.words c.at c.size (k.free_chunks.lists.chunks (c.at, c.size) (listed (free_runs v.words (old_row v.words v.spaces)) (c.at, c.size) (run_in v.words (old_row v.words v.spaces) c m on))) in
      let stood = (stands v.words 0 v.spaces.old_end (old_row v.words v.spaces) c (cuts-in_order v.words 0 v.spaces.old_end (old_row v.words v.spaces) k.whole.rows.old) m).chunk in
      let same : written c.at c.size ≡ c = f.chunk.is ∙ sym stood.is in
      let is : get_or v.words c.start 0 ≡ free_header (cond (nat_lt 255 c.size) 255 (c.size - 1)) = ap (λ (d : Chunk). get_or v.words d.start 0) (sym same) ∙ f.header in
      let clear = (free_bits (cond (nat_lt 255 c.size) 255 (c.size - 1)) (short_count c.size)).bits Whole in
      let none : (fields_of (get_or v.words c.start 0)).marked ≡ 0 = ap (λ w. (fields_of w).marked) is ∙ clear.marked refl in
      header c (in_left (old_row v.words v.spaces) (young_row v.words v.spaces) c m) ∙ unmarked_stays (get_or v.words c.start 0) none

  pub unmarked_store : store_of (record v { words = new }) ≡ store_of v
  unmarked_store = heads_store heads

  pub unmarked_graph : heap_graph (record v { words = new }) ≡ heap_graph v
  unmarked_graph = heads_graph heads

  pub unmarked_room : heap_room (record v { words = new }) ≡ heap_room v
  unmarked_room = heads_room heads

  pub unmarked_parts : ArePartsOfHeap (record p { region = new; phase = codes.Whole })
  unmarked_parts =
      let whole = heads_whole heads (λ c m. ap (λ w. (fields_of w).remembered) (header c m) ∙ (sets (get_or v.words c.start 0)).remembered) (bits v.phase) in
      let remembered : (c : Chunk) → In (chunks_of v) c → (fields_of (get_or new c.start 0)).remembered ≡ (fields_of (get_or v.words c.start 0)).remembered =
      λ c m. ap (λ w. (fields_of w).remembered) (header c m) ∙ (sets (get_or v.words c.start 0)).remembered in
      let marked : ArePartsOfHeap (record p { region = new }) = parts_same p k v (record v { words = new }) refl new refl whole (heads_tables heads free_stays) (heads_noted heads remembered) in
      rephased_parts (record p { region = new }) marked codes.Whole p.marks refl (λ c m. bits Whole c (before heads c m))
