-- An object is made in eden: the heap is whole as before.
use Rattle.std.proofs.Common.{◌≡◌, ◌≢◌, ℕ, true, false, cond, eqb, ltb, ◌+◌, ◌<◌, ◌≤◌, List, length, get_or, refl, sym, ap, ◌∙◌, subst, arith, inl, inr, length-append}
use Rattle.std.proofs.lemmas.Bool.{false≢true}
use Rattle.std.proofs.lemmas.List.{length-map}
use Rattle.object_header.specs.Chunks.{Chunk}
use Rattle.spur_graph.specs.Cells.{Body, body_of, Empty, There, is_start, is_formed, pointer_count, read_cell}
use Rattle.spur_graph.specs.Room.{fresh_words, is_long}
use Rattle.spur_graph.specs.Spaces.{old_row, young_row}
use Rattle.spur_graph.specs.Ordinary.{is_good_word}
use Rattle.spur_graph.specs.Heaps.{View, IsWhole, HasBits, IsYoung, store_of, chunks_of, heap_to, is_remembered, names_over}
use Rattle.heap_cells.specs.Rows.{starts_of}
use Rattle.heap_cells.proofs.Adding.{Adds, added-here, added-other, added-sound, added-internal, good-kept, reference-kept, added-mourners}
use Rattle.heap_cells.proofs.Cutting.{Lies, start-in, stands, cell-none}
use Rattle.heap_cells.proofs.Cutting as cutting
use Rattle.heap_cells.proofs.Growing.{Grows, grown, outside, order, grown_spaces, grown_rows, grown_cell, grown_first, in_before, young_before, same_header}
use Rattle.heap_cells.proofs.Members.{In, in_list, listed, in_right}
use Rattle.heap_cells.proofs.Over.{over-starts}
use Rattle.spur_heap.specs.Words.{starts_at}
use Rattle.spur_heap.proofs.Touched.{same_bit}

-- words behind the used eden are a new object, whose slots are good, which is neither remembered nor pinned, and has the words of one that is made
pub record IsMade (v : View) (new : List ℕ) (c : Chunk) (b : Body) : Type 0 where
  pub grows : Grows v.words new v.limits v.spaces c
  pub there : read_cell heap_to new c ≡ There b
  pub formed : is_formed b ≡ true
  pub slots : (i : ℕ) → i < pointer_count b → is_good_word (store_of v) (get_or b.words i 0) ≡ true
  pub bits : HasBits v.phase (get_or new c.start 0)
  pub forgotten : is_remembered new c.start ≡ false
  pub mobile : b.pinned ≡ 0
  pub form : (c.size ≡ fresh_words c.slots) × (ltb c.at c.start ≡ is_long c.slots)

module _ (v : View) (new : List ℕ) (c : Chunk) (b : Body) (k : IsMade v new c b) (whole : IsWhole v) where
  abbrev pub made : View
  made = record v { words = new; spaces = grown v.spaces c.size }

  -- the chunk lies behind the used eden
  lies : Lies (v.spaces.eden_at + v.spaces.eden_used) (v.spaces.eden_at + v.spaces.eden_used + c.size) c
  lies = (cutting.first new (v.spaces.eden_at + v.spaces.eden_used) c k.grows.chunk).0

  behind_old : v.spaces.old_end ≤ c.start
  behind_old = let e = k.grows.spaces.eden_behind in omega (arith, lies.after, lies.lead, e)

  -- nothing stood there
  pub apart : (d : Chunk) → In (chunks_of v) d → d.start ≢ c.start
  apart d m e =
      let s = stands v.words 0 (length v.words) (chunks_of v) d (order k.grows) m in
      elim (outside k.grows d m) [
        | inl a ↦ omega (arith, a, e, s.lies.room, lies.after, lies.lead)
        | inr a ↦ omega (arith, a, e, s.lies.lead, lies.room, lies.before)
      ]

  empty : (store_of v).cell c.start ≡ Empty
  empty = cell-none heap_to v.words (chunks_of v) c.start apart

  five : 5 ≤ length (starts_of (chunks_of made))
  five =
      let old = (grown_rows k.grows).five in
      let long : length (starts_of (chunks_of made)) ≡ length (old_row new (grown v.spaces c.size)) + length (young_row new (grown v.spaces c.size)) =
      length-map (chunks_of made) (λ (d : Chunk). d.start) ∙ length-append (old_row new (grown v.spaces c.size)) (young_row new (grown v.spaces c.size)) in
      omega (arith, old, long)

  pub adds : Adds (store_of v) (store_of made) c.start b
  adds = record {
    sound = whole.sound;
    empty = empty;
    cells = λ t. grown_cell k.grows t ∙ (λ x. cond (eqb t c.start) (k.there x) ((store_of v).cell t));
    names = k.grows.long;
    to = refl;
    five = five;
    firsts = grown_first k.grows;
    formed = k.formed;
    slots = k.slots;
  }

  -- a start of before has its header
  header : (t : ℕ) → starts_at v t ≡ true → get_or new t 0 ≡ get_or v.words t 0
  header t on = let d = start-in heap_to v.words (chunks_of v) t on in subst (λ u. get_or new u 0 ≡ get_or v.words u 0) d.2 (same_header k.grows d.0 d.1)

  pub made_whole : IsWhole made
  made_whole = record {
    spaces = grown_spaces k.grows;
    rows = grown_rows k.grows;
    sound = added-sound adds;
    inner = λ t e. whole.inner t (sym (added-internal adds t) ∙ e);
    young = λ d m. elim (young_before k.grows d (in_list (young_row new (grown v.spaces c.size)) d m)) [
      | inl e ↦ subst (IsYoung (store_of made)) e (record { start = ap is_start (added-here adds); mobile = ap (λ x. (body_of x).pinned) (added-here adds) ∙ k.mobile; form = k.form })
      | inr a ↦
          let y = whole.young d (listed (young_row v.words v.spaces) d a) in
          let other : d.start ≢ c.start = apart d (in_right (old_row v.words v.spaces) (young_row v.words v.spaces) d a) in
          record { start = ap is_start (added-other adds d.start other) ∙ y.start; mobile = ap (λ x. (body_of x).pinned) (added-other adds d.start other) ∙ y.mobile; form = y.form }
    ];
    bits = λ d m. elim (in_before k.grows d (in_list (chunks_of made) d m)) [
      | inl e ↦ subst (λ (x : Chunk). HasBits v.phase (get_or new x.start 0)) e k.bits
      | inr a ↦ subst (λ w. HasBits v.phase w) (sym (same_header k.grows d a)) (whole.bits d (listed (chunks_of v) d a))
    ];
    remembered = record {
      all = λ t l n over.
          let other : t ≢ c.start = λ e. omega (arith, l, e, behind_old) in
          let was : names_over v.spaces.old_end ((store_of v).cell t) ≡ true = sym (ap (names_over v.spaces.old_end) (added-other adds t other)) ∙ over in
          same_bit v.words new t (header t (over-starts v.spaces.old_end ((store_of v).cell t) was))
          ∙ whole.remembered.all t l (λ e. n (e ∙ sym (grown_first k.grows 3 (omega arith)))) was;
      only = λ d m on. elim (in_before k.grows d (in_list (chunks_of made) d m)) [
        | inl e ↦ absurd (false≢true (sym k.forgotten ∙ ap (λ (x : Chunk). is_remembered new x.start) e ∙ on))
        | inr a ↦
            let r = whole.remembered.only d (listed (chunks_of v) d a) (sym (same_bit v.words new d.start (same_header k.grows d a)) ∙ on) in
            (r.0, ap is_start (added-other adds d.start (apart d a)) ∙ r.1)
      ];
    };
    held = λ h w e. good-kept adds w (whole.held h w e);
    special_there = reference-kept adds v.special whole.special_there;
    mourners = added-mourners adds v.mourners whole.mourners;
    state_bits = whole.state_bits;
    header = whole.header;
    few = let few = whole.few in let long = k.grows.long in omega (arith, few, long);
  }
