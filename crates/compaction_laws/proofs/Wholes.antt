-- A compacted heap is whole.
use Rattle.std.proofs.Common.{◌≡◌, ◌≢◌, ℕ, Bool, true, cond, ◌&&◌, ◌*◌, ◌/◌, ◌%◌, ◌<◌, ◌≤◌, eqb, leb, get_or, sym, ap, ◌∙◌, subst, arith, inl, inr, Some, None}
use Rattle.std.proofs.lemmas.Bool.{false≢true, cases_eq, cases_lt, and_parts, eq-eqb, eqb-true, ne_eqb, or_cases, or_left, or_right, le-leb, leb-true}
use Rattle.std.specs.List.{Contains}
use Rattle.object_header.specs.Fields.{fields_of}
use Rattle.object_header.specs.Chunks.{Chunk}
use Rattle.spur_graph.specs.Room.{fresh_words, is_long}
use Rattle.spur_graph.specs.Cells.{Body, There, Store, is_start, is_there, first, pointer_count}
use Rattle.spur_graph.specs.Ordinary.{body_at, is_internal, passes}
use Rattle.spur_graph.specs.Spaces.{old_row, young_row}
use Rattle.spur_graph.specs.Heaps.{IsWhole, IsYoung, HasBits, AreRemembered, View, is_marked, is_over, names_over, store_of, chunks_of}
use Rattle.heap_cells.proofs.Below.{any_below-found, any_below-has}
use Rattle.heap_cells.proofs.Bodies.{pointers_fit}
use Rattle.heap_cells.proofs.CellKinds.{there_starts, there_is}
use Rattle.heap_cells.proofs.Fronts.{front-in}
use Rattle.heap_cells.proofs.Internals.{internal_there}
use Rattle.heap_cells.proofs.Members.{in_list, listed, in_right}
use Rattle.heap_cells.proofs.Over.{over-starts}
use Rattle.heap_cells.proofs.WholeClosed.{sound_loadable}
use Rattle.heap_laws.specs.Placed.{CanPlace}
use Rattle.heap_laws.specs.Compaction.{with_lists}
use Rattle.heap_laws.specs.Instances.{IsGoodOutside, live_objects, readdressed_by}
use Rattle.heap_laws.specs.Placing.{outside_of}
use Rattle.heap_laws.proofs.Places.{internal-placed, count-placed}
use Rattle.heap_laws.proofs.Readdressed.{readdressed_placed}
use Rattle.heap_laws.proofs.Tables.{both}
use Rattle.heap_laws.proofs.Wholes.{whole_is_ready}
use Rattle.compaction_laws.specs.Compacting.{IsTight, Compacts, is_marked_object, is_mapped}
use Rattle.compaction_laws.specs.Outcomes.{CompactedIsWhole, CompactedStands, CompactedStarts, IsAllThatStands}
use Rattle.compaction_laws.proofs.Fronts.{first-marked}
use Rattle.compaction_laws.proofs.Spaces.{spaces'}
use Rattle.compaction_laws.proofs.Parts.{young-from, goes-old, goes-new}
use Rattle.compaction_laws.proofs.After.{new, new-is, spaces-are, rows-are, whole-part}
use Rattle.compaction_laws.proofs.Moves.{lives, lives-marked, marked-lives, first-stays, moves_heap, readdressed}
use Rattle.compaction_laws.proofs.Shapes.{gone, like, there-at}

-- ---- a word under new places

-- a word that names a place behind old space named one, where what stands in old space stays there
over-before : (p : ℕ → ℕ) (end w : ℕ) → (w % 8 ≡ 0 → w / 8 < end → p (w / 8) < end) → is_over end (readdressed_by p w) ≡ true → is_over end w ≡ true
over-before p end w stays on = elim (cases_eq (w % 8) 0) [
  | inr other ↦ ap (is_over end) (sym (ap (λ b. cond b (8 * p (w / 8)) w) (ne_eqb (w % 8) 0 other))) ∙ on
  | inl z ↦
      let named : readdressed_by p w ≡ 8 * p (w / 8) = ap (λ b. cond b (8 * p (w / 8)) w) (eq-eqb (w % 8) 0 z) in
      let tag : 8 * p (w / 8) % 8 ≡ 0 = omega arith in
      let quot : 8 * p (w / 8) / 8 ≡ p (w / 8) = omega arith in
      let over : leb end (p (w / 8)) ≡ true =
      sym (ap (is_over end) named ∙ ap (λ b. passes (leb end) (cond b (Some (8 * p (w / 8) / 8)) None)) (eq-eqb (8 * p (w / 8) % 8) 0 tag) ∙ ap (leb end) quot) ∙ on in
      let high : end ≤ p (w / 8) = leb-true end (p (w / 8)) over in
      elim (cases_lt (w / 8) end) [
        | inl low ↦ let s = stays z low in absurd (omega (arith, s, high))
        | inr up ↦ ap (λ b. passes (leb end) (cond b (Some (w / 8)) None)) (eq-eqb (w % 8) 0 z) ∙ le-leb end (w / 8) up
      ]
]

module _ {p : ℕ → ℕ} {v v' : View} (k : IsWhole v) (t : IsTight v) (c : Compacts p v v') where
  abbrev old : Store
  old = store_of v

  abbrev after : Store
  after = store_of (new k t c)

  abbrev live : ℕ → Bool
  live = with_lists (is_mapped v) old

  placed : CanPlace p (live_objects live old) old after
  placed = readdressed_placed (readdressed k t c)

  -- what stands afterwards has come from a marked object
  record HasCome (s : ℕ) : Type 0 where
    from : ℕ
    marked : is_marked_object v from ≡ true
    there : is_there (old.cell from) ≡ true
    is : p from ≡ s

  come : (s : ℕ) → is_start (after.cell s) ≡ true → HasCome s
  come s on =
      let b = (readdressed k t c).back s on in
      let m = lives-marked k t c b.0 b.1 in
      record { from = b.0; marked = m; there = (and_parts (is_there (old.cell b.0)) (is_marked v.words b.0) m).0; is = b.2 }

  -- an object that has come to old space was there
  was-old : (s : ℕ) → (h : HasCome s) → s < v.spaces.old_end → h.from < v.spaces.old_end
  was-old s h low = elim (cases_lt h.from v.spaces.old_end) [
    | inl a ↦ a
    | inr high ↦ let b = goes-new k t c h.from h.marked high in let e = h.is in absurd (omega (arith, b, e, low))
  ]

  inner : (s : ℕ) → is_internal after s ≡ true → s < v.spaces.old_end
  inner s on =
      let sound = (moves_heap k t c).sound in
      let h = come s (there_starts (after.cell s) (internal_there after (sound_loadable after sound) s on)) in
      let same = internal-placed placed h.from (lives k t c h.from ∙ h.marked) in
      let was : is_internal old h.from ≡ true = sym same ∙ ap (is_internal after) h.is ∙ on in
      let low = goes-old k t c h.from h.marked (k.inner h.from was) in
      let e = h.is in
      omega (arith, low, e)

  -- ---- new space

  young : (d : Chunk) → Contains (young_row v'.words (spaces' k t c)) d → IsYoung after d
  young d m =
      let there = in_list (young_row v'.words (spaces' k t c)) d m in
      let f = young-from k t c d there in
      let e = f.0 in
      let was = k.young e (listed (young_row v.words v.spaces) e f.1) in
      let l = like k t c e d (in_right (old_row v.words v.spaces) (young_row v.words v.spaces) e f.1) (in_right (old_row v'.words (spaces' k t c)) (young_row v'.words (spaces' k t c)) d there) f.2 f.3 in
      let o = (readdressed k t c).objects e.start (marked-lives k t c e.start f.2) (and_parts (is_there (old.cell e.start)) (is_marked v.words e.start) f.2).0 in
      record {
        start = ap (λ s. is_start (after.cell s)) (sym f.3) ∙ there_starts (after.cell (p e.start)) (there-at k t c e.start f.2);
        mobile = ap (λ s. (body_at after s).pinned) (sym f.3) ∙ ap (λ (b : Body). b.pinned) o.head ∙ was.mobile;
        form = (l.size ∙ was.form.0 ∙ ap fresh_words (sym l.slots), l.lead ∙ was.form.1 ∙ ap is_long (sym l.slots));
      }

  -- ---- headers

  header-of : (e d : Chunk) → is_marked_object v e.start ≡ true → p e.start ≡ d.start → get_or v'.words d.start 0 ≡ get_or v.words e.start 0
  header-of e d on is = ap (λ s. get_or v'.words s 0) (sym is) ∙ (gone k t c e.start on).header

  bits : (d : Chunk) → Contains (chunks_of (new k t c)) d → HasBits v.phase (get_or v'.words d.start 0)
  bits d m = elim ((whole-part k t c).from d (in_list (chunks_of (new k t c)) d m)) [
    | inl r ↦ subst (HasBits v.phase) (sym (header-of r.0 d r.2 r.3)) (k.bits r.0 (listed (chunks_of v) r.0 r.1))
    | inr free ↦ record { marked = λ e. free.clear.marked; grey = free.clear.grey; unused = free.clear.unused }
  ]

  -- ---- remembered objects

  over-came : (s : ℕ) → (h : HasCome s) → h.from ≢ first old 3 → names_over v.spaces.old_end (after.cell s) ≡ true → names_over v.spaces.old_end (old.cell h.from) ≡ true
  unfolding names_over
  over-came s h three on =
      let end : ℕ = v.spaces.old_end in
      let b : Body = body_at old h.from in
      let alive = marked-lives k t c h.from h.marked in
      let o = (readdressed k t c).objects h.from alive h.there in
      let cell : after.cell s ≡ There (body_at after (p h.from)) = ap after.cell (sym h.is) ∙ there_is (after.cell (p h.from)) o.there in
      let i = any_below-found (λ i. is_over end (get_or (body_at after (p h.from)).words i 0)) (pointer_count (body_at after (p h.from))) (sym (ap (names_over end) cell) ∙ on) in
      let count = count-placed placed h.from (lives k t c h.from ∙ h.marked) in
      let low = i.1 in
      let inside : i.0 < pointer_count b = omega (arith, low, count) in
      let fit = pointers_fit b (k.sound.formed h.from h.there) in
      let word : get_or (body_at after (p h.from)).words i.0 0 ≡ readdressed_by p (get_or b.words i.0 0) =
      ap (λ ws. get_or ws i.0 0) (o.words three) ∙ front-in (readdressed_by p) (pointer_count b) i.0 b.words inside (omega (arith, inside, fit)) in
      let named : is_over end (get_or b.words i.0 0) ≡ true = over-before p end (get_or b.words i.0 0)
      (λ z. goes-old k t c (get_or b.words i.0 0 / 8) (lives-marked k t c (get_or b.words i.0 0 / 8) ((readdressed k t c).refs h.from i.0 alive h.there three inside z)))
      (sym (ap (is_over end) word) ∙ i.2) in
      ap (names_over end) (there_is (old.cell h.from) h.there) ∙ any_below-has (λ j. is_over end (get_or b.words j 0)) (pointer_count b) i.0 inside named

  remembered : AreRemembered v'.words v.spaces.old_end (chunks_of (new k t c)) after
  remembered = record {
    all = λ s low three on.
        let h = come s (over-starts v.spaces.old_end (after.cell s) on) in
        let other : h.from ≢ first old 3 = λ e. three (sym h.is ∙ ap p e ∙ c.firsts 3 (omega arith) ∙ sym (first-stays k t c 3 (omega arith))) in
        ap (λ w. eqb (fields_of w).remembered 1) (ap (λ u. get_or v'.words u 0) (sym h.is) ∙ (gone k t c h.from h.marked).header)
        ∙ k.remembered.all h.from (was-old s h low) other (over-came s h other on);
    only = λ d m on. elim ((whole-part k t c).from d (in_list (chunks_of (new k t c)) d m)) [
      | inr free ↦ absurd (false≢true (sym (ap (λ n. eqb n 1) free.clear.remembered) ∙ on))
      | inl r ↦
          let was = k.remembered.only r.0 (listed (chunks_of v) r.0 r.1) (ap (λ w. eqb (fields_of w).remembered 1) (sym (header-of r.0 d r.2 r.3)) ∙ on) in
          let low = goes-old k t c r.0.start r.2 was.0 in
          let is = r.3 in
          (omega (arith, low, is), ap (λ s. is_start (after.cell s)) (sym r.3) ∙ there_starts (after.cell (p r.0.start)) (there-at k t c r.0.start r.2))
    ];
  }

  whole : IsWhole (new k t c)
  whole =
      let m = moves_heap k t c in
      let good : IsGoodOutside after (outside_of (new k t c)) = m.good (whole_is_ready v k).2 in
      record {
        spaces = spaces-are k t c;
        rows = rows-are k t c;
        sound = m.sound;
        inner = inner;
        young = young;
        bits = bits;
        remembered = remembered;
        held = good.held;
        special_there = good.special;
        mourners = good.mourners;
        state_bits = k.state_bits;
        header = k.header;
        few = let few = k.few in let same = c.moved.same_words in omega (arith, few, same);
      }

  -- the mark of an object goes with it
  all-that-stands : IsAllThatStands p v (new k t c)
  all-that-stands = record {
    firsts = first-stays k t c;
    there = λ s on.
        let marked = ap (λ w. eqb (fields_of w).marked 1) (gone k t c s on).header ∙ (and_parts (is_there (old.cell s)) (is_marked v.words s) on).1 in
        λ x. there-at k t c s on x && marked x;
    only = λ s on. let h = come s on in (h.from, h.marked, h.is);
  }

  all-starts : (s : ℕ) → is_start (after.cell s) ≡ with_lists c.starts old s
  all-starts s = both (is_start (after.cell s)) (with_lists c.starts old s)
      (λ on.
      let h = come s on in
      elim (or_cases (is_mapped v h.from) (eqb h.from (first old 3)) (marked-lives k t c h.from h.marked)) [
        | inl moves ↦ or_left (c.starts s) (eqb s (first old 3)) (ap c.starts (sym h.is) ∙ c.moved.there h.from moves)
        | inr lists ↦ or_right (c.starts s) (eqb s (first old 3)) (eq-eqb s (first old 3) (sym h.is ∙ ap p (eqb-true h.from (first old 3) lists) ∙ c.firsts 3 (omega arith)))
      ])
      (λ on. elim (or_cases (c.starts s) (eqb s (first old 3)) on) [
        | inl starts ↦
            let b = c.moved.back s starts in
            let marked = lives-marked k t c b.0 (or_left (is_mapped v b.0) (eqb b.0 (first old 3)) b.1) in
            ap (λ u. is_start (after.cell u)) (sym b.2) ∙ there_starts (after.cell (p b.0)) (there-at k t c b.0 marked)
        | inr lists ↦
            let is : p (first old 3) ≡ s = c.firsts 3 (omega arith) ∙ sym (eqb-true s (first old 3) lists) in
            ap (λ u. is_start (after.cell u)) (sym is) ∙ there_starts (after.cell (p (first old 3))) (there-at k t c (first old 3) (first-marked k t 3 (omega arith)))
      ])

pub compacted_starts : CompactedStarts
compacted_starts p v v' k t c s = ap (λ x. is_start ((store_of x).cell s)) (new-is k t c) ∙ all-starts k t c s

pub compacted_stands : CompactedStands
compacted_stands p v v' k t c = subst (IsAllThatStands p v) (sym (new-is k t c)) (all-that-stands k t c)

pub compacted_is_whole : CompactedIsWhole
compacted_is_whole p v v' k t c = subst IsWhole (sym (new-is k t c)) (whole k t c)
