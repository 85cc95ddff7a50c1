-- The whole heap under the places of a compaction.
use Rattle.std.proofs.Common.{◌≡◌, ◌⊎◌, ℕ, true, not, ◌&&◌, ◌+◌, ◌/◌, ◌%◌, ◌<◌, eqb, List, get_or, refl, sym, ap, ◌∙◌, subst, arith, inl, inr, length-append}
use Rattle.std.proofs.lemmas.Bool.{cases_Bool, eq-eqb, and_parts, and_right, not_from_true, or_cases, or_left, or_right, eqb-true}
use Rattle.std.proofs.lemmas.List.{length-map}
use Rattle.std.specs.List.{Contains}
use Rattle.object_header.specs.Chunks.{Chunk, leads, slots_at}
use Rattle.object_header.specs.Head.{class_of, overflow_slots_of}
use Rattle.spur_graph.specs.Cells.{Store, is_there, first}
use Rattle.spur_graph.specs.Spaces.{old_row, young_row}
use Rattle.spur_graph.specs.Heaps.{IsWhole, View, is_marked, store_of, chunks_of}
use Rattle.heap_cells.specs.Rows.{starts_of}
use Rattle.heap_cells.specs.Settled.{word_of}
use Rattle.heap_cells.proofs.Members.{in_list, listed, start_of_chunk, start-front}
use Rattle.heap_cells.proofs.WholeClosed.{heap_aligned}
use Rattle.heap_laws.specs.Compaction.{IsCompacted, pointers_at, with_lists}
use Rattle.heap_laws.specs.Instances.{IsReaddressed, LivesOutside, live_objects}
use Rattle.heap_laws.specs.Placing.{MovesHeap, outside_of}
use Rattle.heap_laws.proofs.Compacted.{compacted_readdressed}
use Rattle.heap_laws.proofs.Heaps.{compacted_moves_heap}
use Rattle.heap_laws.proofs.Readdressed.{heap_names}
use Rattle.heap_laws.proofs.Tables.{both}
use Rattle.heap_laws.proofs.Wholes.{whole_is_ready}
use Rattle.compaction_laws.specs.Compacting.{IsTight, Compacts, KeepsHead, is_marked_object, is_mapped}
use Rattle.compaction_laws.proofs.Ready.{tight_can_move}
use Rattle.compaction_laws.proofs.Fronts.{order, front, front-long, front-start, firsts-rise, first-marked}
use Rattle.compaction_laws.proofs.Spaces.{located, marked-there, rest'}
use Rattle.compaction_laws.proofs.Parts.{lists-apart}
use Rattle.compaction_laws.proofs.After.{new, order', whole-part, rows-are, old-is}

-- the slots of a chunk whose head words are as they were
pub slots-kept : (words words' : List ℕ) (s : ℕ) → KeepsHead words words' s → slots_at words' s ≡ slots_at words s
unfolding slots_at
slots-kept words words' s h = elim (cases_Bool (leads (get_or words s 0))) [
  | inl on ↦ rw (h.header, on) (ap overflow_slots_of (h.lead on))
  | inr off ↦ rw (h.header, off) refl
]

module _ {p : ℕ → ℕ} {v v' : View} (k : IsWhole v) (t : IsTight v) (c : Compacts p v v') where
  abbrev old : Store
  old = store_of v

  -- what is marked is in the start map, or it is the free lists object
  pub marked-lives : (s : ℕ) → is_marked_object v s ≡ true → with_lists (is_mapped v) old s ≡ true
  marked-lives s on = elim (cases_Bool (eqb s (first old 3))) [
    | inl same ↦ or_right (is_mapped v s) (eqb s (first old 3)) same
    | inr other ↦ or_left (is_mapped v s) (eqb s (first old 3)) (λ x. on x && not (other x))
  ]

  pub lives-marked : (s : ℕ) → with_lists (is_mapped v) old s ≡ true → is_marked_object v s ≡ true
  lives-marked s on = elim (or_cases (is_mapped v s) (eqb s (first old 3)) on) [
    | inl moves ↦ marked-there k t c s moves
    | inr lists ↦ ap (is_marked_object v) (eqb-true s (first old 3) lists) ∙ first-marked k t 3 (omega arith)
  ]

  refs : (s i : ℕ) → is_mapped v s ≡ true → i < pointers_at v.words s → get_or v.words (s + 1 + i) 0 % 8 ≡ 0 → with_lists (is_mapped v) old (get_or v.words (s + 1 + i) 0 / 8) ≡ true
  refs s i on l z = or_left (is_mapped v (get_or v.words (s + 1 + i) 0 / 8)) _ ((tight_can_move v k t).refs s i on l z)

  -- ---- starts

  pub starts-there : (s : ℕ) → c.starts s ≡ true → Contains (starts_of (chunks_of (new k t c))) s
  starts-there s on =
      let b = c.moved.back s on in
      let marked = marked-there k t c b.0 b.1 in
      let r = located k t c b.0 (and_parts (is_there (old.cell b.0)) (is_marked v.words b.0) marked).0 in
      let d = (whole-part k t c).to r.0 r.1 (ap (is_marked_object v) r.2 ∙ marked) in
      subst (Contains (starts_of (chunks_of (new k t c)))) (d.2 ∙ ap p r.2 ∙ b.2) (listed (starts_of (chunks_of (new k t c))) d.0.start (start_of_chunk (chunks_of (new k t c)) d.0 d.1))

  kinds : (d : Chunk) → Contains (chunks_of (new k t c)) d → ((c.starts d.start ≡ true) ⊎ (d.start ≡ first old 3)) ⊎ (class_of (get_or v'.words d.start 0) ≡ 0)
  kinds d m = elim ((whole-part k t c).from d (in_list (chunks_of (new k t c)) d m)) [
    | inr free ↦ inr free.free
    | inl r ↦ elim (or_cases (is_mapped v r.0.start) (eqb r.0.start (first old 3)) (marked-lives r.0.start r.2)) [
      | inl moves ↦ inl (inl (ap c.starts (sym r.3) ∙ c.moved.there r.0.start moves))
      | inr lists ↦ inl (inr (sym r.3 ∙ ap p (eqb-true r.0.start (first old 3) lists) ∙ c.firsts 3 (omega arith)))
    ]
  ]

  -- the first five chunks are those that they were
  pub first-stays : (j : ℕ) → j < 5 → get_or (starts_of (chunks_of (new k t c))) j 0 ≡ first old j
  first-stays j l =
      let five = (rows-are k t c).five in
      start-front (old_row v'.words (new k t c).spaces) (young_row v'.words (new k t c).spaces) j (omega (arith, l, five))
      ∙ ap (λ cs. get_or (starts_of cs) j 0) (old-is k t c)
      ∙ start-front (front k) (rest' k t c) j (omega (arith, l, front-long k))
      ∙ front-start k j l

  pub compacted : IsCompacted p (is_mapped v) c.starts v.words v'.words (chunks_of v) (chunks_of (new k t c))
  compacted = record {
    row = order k;
    row_new = order' k t c;
    sound = k.sound;
    moved = c.moved;
    objects = λ s on. (and_parts (is_there (old.cell s)) (is_marked v.words s) (marked-there k t c s on)).0;
    refs = refs;
    starts = starts-there;
    kinds = kinds;
    five =
        let five = (rows-are k t c).five in
        let long = length-map (chunks_of (new k t c)) (λ (d : Chunk). d.start) in
        omega (arith, five, long, length-append (old_row v'.words (new k t c).spaces) (young_row v'.words (new k t c).spaces));
    firsts = λ j l. (marked-lives (first old j) (first-marked k t j l), first-stays j l ∙ sym (c.firsts j l));
    lists = sym (c.firsts 3 (omega arith));
    apart = (and_right (is_marked_object v (first old 3)) _ (not_from_true _ (eq-eqb (first old 3) (first old 3) refl)), lists-apart k t c);
    roots = λ e. let rise = firsts-rise k 3 4 (omega arith) (omega arith) in omega (arith, rise, e);
    header = c.lists.header;
    slots = slots-kept v.words v'.words (first old 3) c.lists;
  }

  -- ---- the heap

  pub readdressed : IsReaddressed p word_of (with_lists (is_mapped v) old) old (store_of (new k t c))
  readdressed = compacted_readdressed compacted

  -- what names objects from outside names marked ones
  lives_outside : LivesOutside (with_lists (is_mapped v) old) old (outside_of v)
  lives_outside = record {
    special = λ s e. ap (with_lists (is_mapped v) old) (heap_names v.special s e) ∙ marked-lives (v.special / 8) (t.special (heap_aligned v.special s e));
    held = λ q word s held e. ap (with_lists (is_mapped v) old) (heap_names word s e) ∙ marked-lives (word / 8) (t.held q word held (heap_aligned word s e));
    waiting = λ s m. marked-lives s (t.waiting s m);
  }

  pub moves_heap : MovesHeap p (live_objects (with_lists (is_mapped v) old) old) old (store_of (new k t c)) (outside_of v) (outside_of (new k t c))
  moves_heap = compacted_moves_heap p (is_mapped v) c.starts v.words v'.words (chunks_of v) (chunks_of (new k t c)) (outside_of v) (outside_of (new k t c)) compacted (whole_is_ready v k).2 lives_outside c.outside

  -- what lives and is an object is a marked object
  pub lives : (s : ℕ) → live_objects (with_lists (is_mapped v) old) old s ≡ is_marked_object v s
  lives s = both (live_objects (with_lists (is_mapped v) old) old s) (is_marked_object v s)
      (λ on. lives-marked s (and_parts (with_lists (is_mapped v) old s) (is_there (old.cell s)) on).0)
      (λ on. λ x. marked-lives s on x && (and_parts (is_there (old.cell s)) (is_marked v.words s) on).0 x)
