-- A heap whose marked objects name marked ones has what the compactor asks of its words.
use Rattle.std.proofs.Common.{◌≡◌, ◌≢◌, ℕ, true, false, cond, not, ◌&&◌, ◌+◌, ◌/◌, ◌%◌, ◌<◌, ◌≤◌, eqb, get_or, refl, sym, ap, ◌∙◌, arith, inl, inr, None, Some}
use Rattle.std.proofs.lemmas.Bool.{false≢true, cases_eq, cases_lt, eq-eqb, ne_eqb, and_parts, or_cases, or_right, not_from_true, ltb-true}
use Rattle.std.specs.Option.{option_map}
use Rattle.object_header.specs.Fields.{Fields}
use Rattle.object_header.specs.Formats.{is_method}
use Rattle.object_header.specs.Head.{format_of}
use Rattle.object_header.specs.Chunks.{slots_at}
use Rattle.spur_graph.specs.Value.{is_immediate_word}
use Rattle.spur_graph.specs.Cells.{Body, Store, is_there, final, first, lead, pointer_count}
use Rattle.spur_graph.specs.Ordinary.{body_at, is_at, is_internal, is_good_reference, is_good_word, is_ordinary, page_places, root_slot, roots_slots, tells}
use Rattle.spur_graph.specs.Heaps.{IsWhole, View, heap_to, is_marked, chunks_of, store_of}
use Rattle.heap_cells.proofs.Below.{any_below-has, at-named, passed}
use Rattle.heap_cells.proofs.Bodies.{all_pointers, first_tag, method_some, pointers_fit}
use Rattle.spur_graph.specs.Spaces.{old_row, young_row}
use Rattle.heap_cells.proofs.CellKinds.{there_starts}
use Rattle.heap_cells.proofs.Chains.{final-there}
use Rattle.heap_cells.proofs.Cutting.{cuts-in_order, stands, start-in}
use Rattle.heap_cells.proofs.Members.{in_either, listed}
use Rattle.heap_cells.proofs.Internals.{a_page, not_first, place_cases}
use Rattle.heap_cells.proofs.References.{not_immediate, ordinary_apart}
use Rattle.heap_cells.proofs.WholeClosed.{sound_loadable}
use Rattle.heap_laws.specs.Compaction.{pointers_at}
use Rattle.heap_laws.proofs.Readdressed.{heap_names}
use Rattle.heap_laws.proofs.Slots.{slot-good}
use Rattle.compaction_laws.specs.Compacting.{IsTight, NamesMarked, is_marked_object, is_mapped, is_pinned}
use Rattle.compaction_laws.specs.Outcomes.{CanMove, TightCanMove}
use Rattle.compaction_laws.proofs.Fronts.{object-at, first-mapped}

module _ {v : View} (k : IsWhole v) (t : IsTight v) where
  abbrev old : Store
  old = store_of v

  pub is-marked : (s : ℕ) → is_mapped v s ≡ true → is_marked_object v s ≡ true
  is-marked s on = (and_parts (is_marked_object v s) (not (eqb s (first old 3))) on).0

  there : (s : ℕ) → is_marked_object v s ≡ true → is_there (old.cell s) ≡ true
  there s on = (and_parts (is_there (old.cell s)) (is_marked v.words s) on).0

  pub not-lists : (s : ℕ) → is_mapped v s ≡ true → s ≢ first old 3
  not-lists s on e = false≢true (sym (not_from_true (eqb s (first old 3)) (eq-eqb s (first old 3) e)) ∙ (and_parts (is_marked_object v s) (not (eqb s (first old 3))) on).1)

  pub mapped : (s : ℕ) → is_marked_object v s ≡ true → s ≢ first old 3 → is_mapped v s ≡ true
  mapped s on n = λ x. on x && not (ne_eqb s (first old 3) n x)

  -- a good reference that names a marked object names an ordinary one
  good-mapped : (w : ℕ) → is_good_reference old w ≡ true → NamesMarked v w → w % 8 ≡ 0 → is_mapped v (w / 8) ≡ true
  good-mapped w good names z =
      let r = passed (is_ordinary old) (lead old w) good in
      let to : lead old w ≡ Some (w / 8) = ap (λ b. option_map (final old) (cond b (Some (w / 8)) None)) (eq-eqb (w % 8) 0 z) ∙ ap (λ s. Some s) (final-there old (w / 8) (there (w / 8) (names z))) in
      let is : r.one ≡ w / 8 = let e = r.is in cc in
      mapped (w / 8) (names z) (ordinary_apart old (w / 8) (ap (is_ordinary old) (sym is) ∙ r.holds)).1

  -- a page of the class table is internal
  page-internal : (i s : ℕ) → i < page_places → s ≢ first old 0 → old.to (root_slot old i) ≡ Some s → is_internal old s ≡ true
  unfolding is_internal
  page-internal i s l n is = or_right _ _ (λ x. not (ne_eqb s (first old 0) n x) && any_below-has (λ j. tells old j s) page_places i l (ap (is_at s) is ∙ eq-eqb s s refl) x)

  -- the hidden roots name nil and pages
  root-mapped : (i : ℕ) → i < roots_slots → is_mapped v (root_slot old i / 8) ≡ true
  root-mapped i l = elim (cases_lt i page_places) [
    | inr top ↦
        let nil = k.sound.roots.tops i top l in
        let is : root_slot old i / 8 ≡ first old 0 = omega (arith, nil) in
        ap (is_mapped v) is ∙ first-mapped k t 0 (omega arith) (λ e. omega (arith, e))
    | inl low ↦ elim (place_cases (sound_loadable old k.sound) i low) [
      | inl nil ↦ ap (is_mapped v) (sym (heap_names (root_slot old i) (first old 0) (at-named (first old 0) (old.to (root_slot old i)) nil))) ∙ first-mapped k t 0 (omega arith) (λ e. omega (arith, e))
      | inr page ↦
          let q = a_page old i page in
          let internal = page-internal i q.0 low (not_first old q.0 0 (omega arith) q.1.later) q.1.named in
          ap (is_mapped v) (sym (heap_names (root_slot old i) q.0 q.1.named)) ∙ mapped q.0 (λ x. q.1.there x && t.internal q.0 internal x) (not_first old q.0 3 (omega arith) q.1.later)
    ]
  ]

  slots-mapped : (s i : ℕ) → is_mapped v s ≡ true → i < pointer_count (body_at old s) → get_or (body_at old s).words i 0 % 8 ≡ 0 → is_mapped v (get_or (body_at old s).words i 0 / 8) ≡ true
  slots-mapped s i on l z = elim (cases_eq s (first old 4)) [
    | inl four ↦
        let two : (body_at old (first old 4)).format ≡ 2 = k.sound.roots.roots.0 in
        let count : pointer_count (body_at old s) ≡ roots_slots = ap (λ u. pointer_count (body_at old u)) four ∙ all_pointers (body_at old (first old 4)) (omega (arith, two)) ∙ k.sound.roots.roots.1 in
        ap (λ u. is_mapped v (get_or (body_at old u).words i 0 / 8)) four ∙ root-mapped i (omega (arith, l, count))
    | inr other ↦
        let w : ℕ = get_or (body_at old s).words i 0 in
        let marked = is-marked s on in
        good-mapped w (slot-good old k.sound s i (there s marked) (not-lists s on) other l (not_immediate w z)) (t.slots s i marked (not-lists s on) other l) z
  ]

  refs : (s i : ℕ) → is_mapped v s ≡ true → i < pointers_at v.words s → get_or v.words (s + 1 + i) 0 % 8 ≡ 0 → is_mapped v (get_or v.words (s + 1 + i) 0 / 8) ≡ true
  refs s i on l z =
      let o = object-at k s (there s (is-marked s on)) in
      let few = o.few in
      let count = o.count in
      let word : get_or (body_at old s).words i 0 ≡ get_or v.words (s + 1 + i) 0 = o.slot i (omega (arith, l, few)) in
      ap (λ w. is_mapped v (w / 8)) (sym word) ∙ slots-mapped s i on (omega (arith, l, count)) (ap (λ w. w % 8) word ∙ z)

  methods : (s : ℕ) → is_mapped v s ≡ true → is_method (format_of (get_or v.words s 0)) ≡ true → (0 < slots_at v.words s) × (get_or v.words (s + 1) 0 % 8 ≢ 0)
  methods s on method =
      let standing = there s (is-marked s on) in
      let o = object-at k s standing in
      let b : Body = body_at old s in
      let format : b.format ≡ format_of (get_or v.words s 0) = ap (λ (c : Body). c.format) o.body ∙ ap (λ (f : Fields). f.format) o.is in
      let high = ltb-true 23 (format_of (get_or v.words s 0)) method in
      let is : 24 ≤ b.format = omega (arith, high, format) in
      let formed = k.sound.formed s standing in
      let some = method_some b is in
      let fit = pointers_fit b formed in
      let long = o.long in
      let slot : get_or b.words 0 0 ≡ get_or v.words (s + 1 + 0) 0 = o.slot 0 (omega (arith, some, fit, long)) in
      let here : s + 1 + 0 ≡ s + 1 = omega arith in
      let tag : get_or v.words (s + 1) 0 % 8 ≡ 1 = ap (λ i. get_or v.words i 0 % 8) (sym here) ∙ sym (ap (λ w. w % 8) slot) ∙ first_tag b formed is in
      (omega (arith, some, fit, long), λ e. omega (arith, tag, e))

  mobile : (s : ℕ) → is_mapped v s ≡ true → v.spaces.old_end ≤ s → is_pinned v.words s ≡ false
  mobile s on high =
      let standing = there s (is-marked s on) in
      let o = object-at k s standing in
      let r = start-in heap_to v.words (chunks_of v) s (there_starts (old.cell s) standing) in
      let is = r.2 in
      elim (in_either (old_row v.words v.spaces) (young_row v.words v.spaces) r.0 r.1) [
        | inl a ↦
            let l = (stands v.words 0 v.spaces.old_end (old_row v.words v.spaces) r.0 (cuts-in_order v.words 0 v.spaces.old_end (old_row v.words v.spaces) k.rows.old) a).lies in
            let b = l.room in let e = l.before in
            absurd (omega (arith, b, e, is, high))
        | inr y ↦
            let none : (body_at old s).pinned ≡ 0 = ap (λ u. (body_at old u).pinned) (sym r.2) ∙ (k.young r.0 (listed (young_row v.words v.spaces) r.0 y)).mobile in
            ap (λ n. eqb n 1) (sym (ap (λ (f : Fields). f.pinned) o.is) ∙ sym (ap (λ (b : Body). b.pinned) o.body) ∙ none)
      ]

  held_good : (word : ℕ) → is_good_word old word ≡ true → word % 8 ≡ 0 → is_good_reference old word ≡ true
  held_good word good z = elim (or_cases (is_immediate_word word) (is_good_reference old word) good) [
    | inl immediate ↦ absurd (false≢true (sym (not_immediate word z) ∙ immediate))
    | inr reference ↦ reference
  ]

  pub can_move : CanMove v
  can_move = record {
    there = λ s on. there s (is-marked s on);
    fits = λ s on. (object-at k s (there s (is-marked s on))).few;
    refs = refs;
    methods = methods;
    mobile = mobile;
    special = good-mapped v.special k.special_there t.special;
    held = λ q word e z. good-mapped word (held_good word (k.held q word e) z) (t.held q word e) z;
    waiting = λ s m.
        let f = k.mourners.fired m.0 s m.1 in
        let on = t.waiting s m in
        let ends : final old s ≡ s = final-there old s (there s on) in
        mapped s on (ordinary_apart old s (ap (is_ordinary old) (sym (ap (final old) m.2 ∙ ends)) ∙ f.ordinary)).1;
  }

pub tight_can_move : TightCanMove
tight_can_move v k t = can_move k t
