-- Marking begins, and the mark bit of an object is set.
use Rattle.std.proofs.Common.{◌≡◌, ◌≢◌, ℕ, true, false, ◌<◌, length, get_or, set, refl, sym, ap, ◌∙◌, subst, arith, inl, inr, nat_eq, List, vec_capacity}
use Rattle.std.specs.Global.{Vec}
use Rattle.std.specs.List.{Contains}
use Rattle.std.proofs.lemmas.Bool.{eq-eqb}
use Rattle.std.proofs.lemmas.List.{get_or-set_other}
use Rattle.object_header.specs.Chunks.{Chunk}
use Rattle.object_header.specs.Field.{SetsField, with_field}
use Rattle.object_header.specs.Fields.{fields_of}
use Rattle.object_header.proofs.Fields.{SetsField-with_field}
use Rattle.spur_graph.specs.Cells.{There}
use Rattle.spur_graph.specs.Heaps.{View, Phase, Whole, Marked, IsWhole, store_of, chunks_of, heap_to, heap_graph, heap_room, HasBits, HasNoUnusedBits, is_remembered, is_marked, names_over}
use Rattle.heap_cells.proofs.CellKinds.{there_is, there_starts}
use Rattle.heap_cells.proofs.Cutting.{start-in}
use Rattle.heap_cells.proofs.Members.{listed}
use Rattle.heap_cells.proofs.UnusedBits.{set_unused}
use Rattle.spur_heap.specs.declared.heap.HeapParts.{HeapParts}
use Rattle.spur_heap.specs.declared.heap.Phase as code
use Rattle.spur_heap.specs.declared.heap.Phase.TheVariants as codes
use Rattle.spur_heap.specs.Tables.{HasPlaces}
use Rattle.spur_heap.specs.Parts.{view_of, phase_seen, ArePartsOfHeap}
use Rattle.spur_heap.specs.Words.{AreSound, body_in}
use Rattle.spur_heap.specs.MarkBits.{IsObject, with_mark, marked}
use Rattle.spur_heap.proofs.Puts.{whole_sound}
use Rattle.spur_heap.proofs.Touched.{Fits}
use Rattle.spur_heap.proofs.Headers.{header_inside, header_read}
use Rattle.spur_heap.proofs.Tables.{SameTables, SameNoted, parts_same}
use Rattle.spur_heap.proofs.SameCell.{TellSame, same_tables, same_noted, same_store, same_whole, same_graph, same_room}

-- the mark bit is this one, and every other field of the header is as before
pub record SetsMark (old bit new : ℕ) : Type 0 where
  pub bit_is : (fields_of new).marked ≡ bit
  pub object : TellSame old new
  pub remembered : (fields_of new).remembered ≡ (fields_of old).remembered
  pub grey : (fields_of new).grey ≡ (fields_of old).grey
  pub unused : HasNoUnusedBits old → HasNoUnusedBits new

pub sets_mark : (word bit : ℕ) → bit < 2 → SetsMark word bit (with_field 55 1 word bit)
sets_mark word bit fits =
    let f : SetsField 55 1 word bit (with_field 55 1 word bit) = SetsField-with_field word 55 1 bit (omega (arith, fits)) in
    record {
      bit_is = f.reads;
      object = record {
        count = f.others 56 8 (inr (omega arith));
        hash = f.others 32 22 (inl (omega arith));
        pinned = f.others 30 1 (inl (omega arith));
        format = f.others 24 5 (inl (omega arith));
        readonly = f.others 23 1 (inl (omega arith));
        class = f.others 0 22 (inl (omega arith));
      };
      remembered = f.others 29 1 (inl (omega arith));
      grey = f.others 31 1 (inl (omega arith));
      unused = set_unused 55 1 word bit (with_field 55 1 word bit) (inl (omega arith)) (inl (omega arith)) (omega (arith, fits)) refl;
    }

not_both : (p : Phase) → p ≡ Marked → p ≡ Whole → ⊥
not_both p m w = let e : Marked ≡ Whole = sym m ∙ w in cc

module _ (v : View) (whole : IsWhole v) (s : ℕ) (object : IsObject v s) where
  abbrev k : AreSound v
  k = whole_sound v whole

  abbrev word : ℕ
  word = get_or v.words s 0

  sets : SetsMark word 1 (with_mark word)
  sets = sets_mark word 1 (omega arith)

  same : TellSame word (with_mark word)
  same = sets.object

  pub mark_inside : s < length v.words
  mark_inside = header_inside v k s object (with_mark word)

  here : get_or (marked v s).words s 0 ≡ with_mark word
  here = header_read v k s object (with_mark word)

  pub mark_here : is_marked (marked v s).words s ≡ true
  mark_here = eq-eqb (fields_of (get_or (marked v s).words s 0)).marked 1 (ap (λ u. (fields_of u).marked) here ∙ sets.bit_is)

  pub mark_others : (t : ℕ) → t ≢ s → is_marked (marked v s).words t ≡ is_marked v.words t
  mark_others t n = ap (λ w. nat_eq (fields_of w).marked 1) (get_or-set_other v.words s t (with_mark word) 0 n)

  bit_same : is_remembered (marked v s).words s ≡ is_remembered v.words s
  bit_same = ap (λ w. nat_eq (fields_of w).remembered 1) here ∙ ap (λ n. nat_eq n 1) sets.remembered

  fits : v.phase ≡ Marked → Fits v (marked v s).words s (There (body_in v s))
  fits phase = record {
    bits = λ was.
        subst (λ u. HasBits v.phase u) (sym here) (record { marked = λ w. absurd (not_both v.phase phase w); grey = sets.grey ∙ was.grey; unused = sets.unused was.unused });
    all = λ l n over. bit_same ∙ whole.remembered.all s l n (ap (names_over v.spaces.old_end) (there_is ((store_of v).cell s) object) ∙ over);
    only = λ on.
        let c = start-in heap_to v.words (chunks_of v) s (there_starts ((store_of v).cell s) object) in
        let was : is_remembered v.words c.0.start ≡ true = ap (is_remembered v.words) c.2 ∙ sym bit_same ∙ on in
        let r = whole.remembered.only c.0 (listed (chunks_of v) c.0 c.1) was in
        (omega (arith, r.0, c.2), refl);
    young = λ l y. (refl, y);
  }

  pub marked_whole : v.phase ≡ Marked → IsWhole (marked v s)
  marked_whole phase = same_whole v k s object (with_mark word) same (fits phase) whole

  pub marked_tables : SameTables v (marked v s)
  marked_tables = same_tables v k s object (with_mark word) same

  pub marked_noted : SameNoted v (marked v s)
  marked_noted = same_noted v k s object (with_mark word) same bit_same

  pub marked_store : store_of (marked v s) ≡ store_of v
  marked_store = same_store v k s object (with_mark word) same

  pub marked_graph : heap_graph (marked v s) ≡ heap_graph v
  marked_graph = same_graph v k s object (with_mark word) same

  pub marked_room : heap_room (marked v s) ≡ heap_room v
  marked_room = same_room v k s object (with_mark word) same

-- ---- the parts

-- what is seen of them then
pub marked_seen : (p : HeapParts) (v : View) → view_of p ≡ v → (s : ℕ) (new : List ℕ) → new ≡ set p.region s (with_mark (get_or p.region s 0)) → view_of (record p { region = new }) ≡ marked v s
marked_seen p v same s new is = (λ x. view_of (record p { region = is x })) ∙ ap (λ (u : View). marked u s) same

pub marked_parts : (p : HeapParts) → ArePartsOfHeap p → (v : View) → view_of p ≡ v → (whole : IsWhole v) (s : ℕ) (object : IsObject v s) → v.phase ≡ Marked → (new : List ℕ) → new ≡ set p.region s (with_mark (get_or p.region s 0))
    → ArePartsOfHeap (record p { region = new })
marked_parts p k v same whole s object phase new is =
    parts_same p k v (marked v s) same new (marked_seen p v same s new is) (marked_whole v whole s object phase) (marked_tables v whole s object) (marked_noted v whole s object)

-- ---- another phase, and another mark stack

-- the headers have no more than this phase allows
abbrev pub AllHaveBits : View → Phase → Type 0
AllHaveBits v phase = (c : Chunk) → Contains (chunks_of v) c → HasBits phase (get_or v.words c.start 0)

-- nothing is asked of the stack
rephased : (v : View) → IsWhole v → (phase : Phase) (stack : List ℕ) → AllHaveBits v phase → IsWhole (record v { phase = phase; stack = stack })
rephased v w phase stack bits = record {
  spaces = w.spaces;
  rows = w.rows;
  sound = w.sound;
  inner = w.inner;
  young = w.young;
  bits = bits;
  remembered = w.remembered;
  held = w.held;
  special_there = w.special_there;
  mourners = w.mourners;
  state_bits = w.state_bits;
  header = w.header;
  few = w.few;
}

-- the parts with another phase and another mark stack, which has as many places
pub rephased_parts : (p : HeapParts) → ArePartsOfHeap p → (phase : code.Phase) (marks : Vec ℕ) → vec_capacity marks ≡ vec_capacity p.marks → AllHaveBits (view_of p) (phase_seen phase) → ArePartsOfHeap (record p { phase = phase; marks = marks })
rephased_parts p k phase marks places bits = record {
  whole = rephased (view_of p) k.whole (phase_seen phase) marks.items bits;
  map = record { starts = k.map.starts; covers = k.map.covers };
  free_chunks = record { lists = k.free_chunks.lists };
  objects = record { count = k.objects.count };
  remembered = record { table = k.remembered.table };
  tables = record {
    taken = k.tables.taken;
    grouped = k.tables.grouped;
    mourner_places = k.tables.mourner_places;
    mark_places = subst (λ n. HasPlaces (length p.region) n) (sym places) k.tables.mark_places;
    saved = k.tables.saved;
    some_saved = k.tables.some_saved;
  };
}

pub begun_parts : (p : HeapParts) → ArePartsOfHeap p → (marks : Vec ℕ) → vec_capacity marks ≡ vec_capacity p.marks → ArePartsOfHeap (record p { phase = codes.Marked; marks = marks })
begun_parts p k marks places = rephased_parts p k codes.Marked marks places (λ c m. let b = k.whole.bits c m in record { marked = λ e. absurd (not_both Marked refl e); grey = b.grey; unused = b.unused })

pub none_marked : (v : View) → IsWhole v → v.phase ≡ Whole → (s : ℕ) → IsObject v s → is_marked v.words s ≡ false
none_marked v w phase s object =
    let c = start-in heap_to v.words (chunks_of v) s (there_starts ((store_of v).cell s) object) in
    let bits = w.bits c.0 (listed (chunks_of v) c.0 c.1) in
    let zero : (fields_of (get_or v.words s 0)).marked ≡ 0 = ap (λ t. (fields_of (get_or v.words t 0)).marked) (sym c.2) ∙ bits.marked phase in
    ap (λ n. nat_eq n 1) zero
