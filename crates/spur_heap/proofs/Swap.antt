-- A store and the same with another object in the place of one that is not the hidden roots: what they have in common.
use Rattle.std.proofs.Common.{◌≡◌, ◌≢◌, ℕ, true, false, not, ◌&&◌, ◌||◌, ◌/◌, ◌<◌, eqb, ltb, List, map, length, get_or, refl, sym, ap, ◌∙◌, subst, arith, inl, inr, Some}
use Rattle.std.proofs.lemmas.Bool.{cases_Bool, cases_eq, eq-eqb, ne_eqb, ltb-true, and_left, and_right, or_left, or_right, not_from_true}
use Rattle.std.proofs.lemmas.List.{length-map, get_or-map}
use Rattle.std.specs.List.{Contains}
use Rattle.spur_graph.specs.Value.{is_immediate_word}
use Rattle.spur_graph.specs.Cells.{Body, Store, is_there, body_of, is_formed, pointer_count, first, final, any_below}
use Rattle.spur_graph.specs.Ordinary.{page_places, page_entries, class_limit, is_at, passes, body_at, root_slot, tells, is_nil_slot, is_first, is_page_body, is_page, is_internal, is_ordinary, is_good_reference, is_good_word, is_bad_page, is_bad_slot, has_page, is_bad_entry}
use Rattle.spur_graph.specs.Graph.{AreApart}
use Rattle.spur_graph.specs.Heaps.{IsSound, HasRoots, HasFired, AreMourners, waiting_in}
use Rattle.heap_cells.proofs.Below.{any_below-has, passed}
use Rattle.heap_cells.proofs.Internals.{IsPageAt, a_page, not_first, place_cases}
use Rattle.heap_cells.proofs.WholeClosed.{sound_loadable}
use Rattle.spur_heap.proofs.InPlace.{changed, InPlace, cell-here, cell-other, kept, there-same, final-same, lead-same, targets-same, ends-same, formed-kept}

-- a page is internal
pub page_internal : (h : Store) (i : ℕ) → i < page_places → (p : ℕ) → IsPageAt h i p → is_internal h p ≡ true
unfolding is_internal
page_internal h i l p page =
    let told : tells h i p ≡ true = ap (is_at p) page.named ∙ eq-eqb p p refl in
    let some : any_below (λ j. tells h j p) page_places ≡ true = any_below-has (λ j. tells h j p) page_places i l told in
    let no_nil : eqb p (first h 0) ≡ false = ne_eqb p (first h 0) (not_first h p 0 (omega arith) page.later) in
    or_right (eqb p (first h 3) || eqb p (first h 4)) (not (eqb p (first h 0)) && any_below (λ j. tells h j p) page_places) (λ x. not (no_nil x) && some x)

-- so is the free lists object
lists_internal : (h : Store) → is_internal h (first h 3) ≡ true
unfolding is_internal
lists_internal h = or_left _ _ (or_left _ _ (eq-eqb (first h 3) (first h 3) refl))

-- what an internal object keeps
pub record KeepsInner (b b' : Body) : Type 0 where
  pub format : b'.format ≡ b.format
  pub long : length b'.words ≡ length b.words
  pub pinned : b'.pinned ≡ b.pinned

-- an object of a sound store other than the hidden roots, and what is to stand in its place. Its pointer slots have good words
pub record Swap (old : Store) (s : ℕ) (b b' : Body) : Type 0 where
  pub sound : IsSound old
  pub place : InPlace old s b b'
  pub roots : first old 4 ≢ s
  pub formed : is_formed b' ≡ true
  pub inner : is_internal old s ≡ true → KeepsInner b b'
  pub slots : is_ordinary old s ≡ true → (i : ℕ) → i < pointer_count b' → is_good_word old (get_or b'.words i 0) ≡ true

module _ {old : Store} {s : ℕ} {b : Body} {b' : Body} (k : Swap old s b b') where
  -- ---- the hidden roots are another object

  pub root-same : (i : ℕ) → root_slot (changed old s b') i ≡ root_slot old i
  root-same i = ap (λ c. get_or (body_of c).words i 0) (cell-other k.place (first old 4) k.roots)

  pub tells-same : (i t : ℕ) → tells (changed old s b') i t ≡ tells old i t
  tells-same i t = ap (λ w. is_at t (old.to w)) (root-same i)

  pub nil_slot-same : (i : ℕ) → is_nil_slot (changed old s b') i ≡ is_nil_slot old i
  nil_slot-same i = tells-same i (first old 0)

  pub internal-same : (t : ℕ) → is_internal (changed old s b') t ≡ is_internal old t
  unfolding is_internal
  internal-same t = λ x. eqb t (first old 3) || eqb t (first old 4) || (not (eqb t (first old 0)) && any_below (λ i. tells-same i t x) page_places)

  pub ordinary-same : (t : ℕ) → is_ordinary (changed old s b') t ≡ is_ordinary old t
  ordinary-same t = λ x. there-same k.place t x && not (internal-same t x)

  pub reference-same : (w : ℕ) → is_good_reference (changed old s b') w ≡ is_good_reference old w
  reference-same w = λ x. passes (λ t. ordinary-same t x) (lead-same k.place w x)

  pub good-same : (w : ℕ) → is_good_word (changed old s b') w ≡ is_good_word old w
  good-same w = λ x. is_immediate_word w || reference-same w x

  -- ---- internal objects

  inner-format : (t : ℕ) → is_internal old t ≡ true → (body_at (changed old s b') t).format ≡ (body_at old t).format
  inner-format t on = elim (cases_eq t s) [
    | inl e ↦ kept k.place (λ c. (body_of c).format) (k.inner (ap (is_internal old) (sym e) ∙ on)).format t
    | inr n ↦ ap (λ c. (body_of c).format) (cell-other k.place t n)
  ]

  inner-length : (t : ℕ) → is_internal old t ≡ true → length (body_at (changed old s b') t).words ≡ length (body_at old t).words
  inner-length t on = elim (cases_eq t s) [
    | inl e ↦ kept k.place (λ c. length (body_of c).words) (k.inner (ap (is_internal old) (sym e) ∙ on)).long t
    | inr n ↦ ap (λ c. length (body_of c).words) (cell-other k.place t n)
  ]

  pub inner-pinned : (t : ℕ) → is_internal old t ≡ true → (body_at (changed old s b') t).pinned ≡ (body_at old t).pinned
  inner-pinned t on = elim (cases_eq t s) [
    | inl e ↦ kept k.place (λ c. (body_of c).pinned) (k.inner (ap (is_internal old) (sym e) ∙ on)).pinned t
    | inr n ↦ ap (λ c. (body_of c).pinned) (cell-other k.place t n)
  ]

  -- ---- so the pages stay

  page-kept : (i : ℕ) → i < page_places → is_page old i ≡ true → is_page (changed old s b') i ≡ true
  unfolding is_page
  page-kept i l on =
      let p = passed (λ t. is_there (old.cell t) && is_page_body (body_at old t) && not (is_first old t) && not (any_below (λ j. tells old j t) i)) (old.to (root_slot old i)) on in
      let named = a_page old i on in
      let one : named.0 ≡ p.one = same_some named.0 p.one (sym named.1.named ∙ p.is) in
      let inside : is_internal old p.one ≡ true = ap (is_internal old) (sym one) ∙ page_internal old i l named.0 named.1 in
      let now : (is_there ((changed old s b').cell p.one) && is_page_body (body_at (changed old s b') p.one) && not (is_first old p.one) && not (any_below (λ j. tells (changed old s b') j p.one) i))
      ≡ (is_there (old.cell p.one) && is_page_body (body_at old p.one) && not (is_first old p.one) && not (any_below (λ j. tells old j p.one) i)) =
      λ x. there-same k.place p.one x && (eqb (inner-format p.one inside x) 2 && eqb (inner-length p.one inside x) page_entries) && not (is_first old p.one) && not (any_below (λ j. tells-same j p.one x) i) in
      ap (passes (λ t. is_there ((changed old s b').cell t) && is_page_body (body_at (changed old s b') t) && not (is_first old t) && not (any_below (λ j. tells (changed old s b') j t) i))) (ap old.to (root-same i) ∙ p.is) ∙ now ∙ p.holds
    where
      same_some : (x y : ℕ) → Some x ≡ Some y → x ≡ y
      same_some x y e = cc

  good_page : (i : ℕ) → i < page_places → is_bad_page (changed old s b') i ≡ false
  good_page i l = elim (place_cases (sound_loadable old k.sound) i l) [
    | inl nil ↦ and_left (not (is_nil_slot (changed old s b') i)) (not (is_page (changed old s b') i)) (not_from_true _ (nil_slot-same i ∙ nil))
    | inr page ↦ and_right (not (is_nil_slot (changed old s b') i)) (not (is_page (changed old s b') i)) (not_from_true _ (page-kept i l page))
  ]

  pub has_page-same : (i : ℕ) → has_page (changed old s b') i ≡ has_page old i
  has_page-same i = λ x. ltb i class_limit && not (nil_slot-same (i / page_entries) x)

  -- ---- the store is sound as before

  slots : (t i : ℕ) → is_bad_slot (changed old s b') t i ≡ false
  slots t i = elim (cases_eq t s) [
    | inr n ↦ (λ x. ordinary-same t x && ltb i (pointer_count (body_of (cell-other k.place t n x))) && not (good-same (get_or (body_of (cell-other k.place t n x)).words i 0) x)) ∙ k.sound.slots t i
    | inl is ↦ ap (λ u. is_bad_slot (changed old s b') u i) is ∙ elim (cases_Bool (ltb i (pointer_count (body_at (changed old s b') s)))) [
      | inr off ↦ and_left _ _ (and_right _ _ off)
      | inl on ↦
          let count : pointer_count (body_at (changed old s b') s) ≡ pointer_count b' = ap (λ c. pointer_count (body_of c)) (cell-here k.place) in
          let low : i < pointer_count b' = omega (arith, ltb-true i (pointer_count (body_at (changed old s b') s)) on, count) in
          let good : is_ordinary old s ≡ true → is_bad_slot (changed old s b') s i ≡ false =
          λ on. and_right _ _ (not_from_true _ (ap (λ c. is_good_word (changed old s b') (get_or (body_of c).words i 0)) (cell-here k.place) ∙ good-same (get_or b'.words i 0) ∙ k.slots on i low)) in
          elim (cases_Bool (is_ordinary old s)) [ inl on ↦ good on | inr off ↦ and_left _ _ (and_left _ _ (ordinary-same s ∙ off)) ]
    ]
  ]

  roots : ((i : ℕ) → is_bad_entry (changed old s b') i ≡ false) → HasRoots (changed old s b')
  roots good_entry =
      let four : (changed old s b').cell (first old 4) ≡ old.cell (first old 4) = cell-other k.place (first old 4) k.roots in
      record {
        five = k.sound.roots.five;
        objects = λ j l. there-same k.place (first old j) ∙ k.sound.roots.objects j l;
        outer = λ j l. internal-same (first old j) ∙ k.sound.roots.outer j l;
        lists = let e = inner-format (first old 3) (lists_internal old) in let l = k.sound.roots.lists in omega (arith, e, l);
        roots = (ap (λ c. (body_of c).format) four ∙ k.sound.roots.roots.0, ap (λ c. length (body_of c).words) four ∙ k.sound.roots.roots.1);
        tops = λ i m l. root-same i ∙ k.sound.roots.tops i m l;
        pages = good_page;
        entries = good_entry;
      }

  -- where no entry is bad
  pub sound_swapped : ((i : ℕ) → is_bad_entry (changed old s b') i ≡ false) → IsSound (changed old s b')
  sound_swapped good_entry = record {
    formed = formed-kept k.place k.formed k.sound;
    targets = targets-same k.place k.sound;
    ends = ends-same k.place k.sound;
    roots = roots good_entry;
    slots = slots;
  }

  -- ---- what else the invariant says of cells

  -- what is to stand where a mourner leads has fired
  abbrev pub Fires : List (List ℕ) → Type 0
  Fires groups = Contains (map (final old) (waiting_in groups)) s → b'.format ≡ 1

  fired_kept : (t : ℕ) → (final old t ≡ s → b'.format ≡ 1) → HasFired old t → HasFired (changed old s b') t
  fired_kept t one f = record {
    ordinary = (λ x. ordinary-same (final-same k.place t x) x) ∙ f.ordinary;
    format = ap (λ u. (body_at (changed old s b') u).format) (final-same k.place t) ∙ elim (cases_eq (final old t) s) [
      | inl e ↦ ap (λ u. (body_at (changed old s b') u).format) e ∙ ap (λ c. (body_of c).format) (cell-here k.place) ∙ one e
      | inr n ↦ ap (λ c. (body_of c).format) (cell-other k.place (final old t) n) ∙ f.format
    ];
  }

  pub mourners_kept : (groups : List (List ℕ)) → Fires groups → AreMourners old groups → AreMourners (changed old s b') groups
  mourners_kept groups fires m = record {
    some = m.some;
    fired = λ i d l. fired_kept (get_or (waiting_in groups) i d)
        (λ e. fires (i, omega (arith, l, length-map (waiting_in groups) (final old)), get_or-map (final old) (waiting_in groups) i d s l ∙ e)) (m.fired i d l);
    apart = subst (λ (ts : List ℕ). AreApart ts) (λ x. map (λ t. sym (final-same k.place t) x) (waiting_in groups)) m.apart;
  }

  -- it has fired as the one before it
  pub fires_alike : b'.format ≡ b.format → (groups : List (List ℕ)) → AreMourners old groups → Fires groups
  fires_alike same groups m c =
      let l : c.0 < length (waiting_in groups) = let low = c.1 in omega (arith, low, length-map (waiting_in groups) (final old)) in
      let is : final old (get_or (waiting_in groups) c.0 s) ≡ s = sym (get_or-map (final old) (waiting_in groups) c.0 s s l) ∙ c.2 in
      same ∙ sym (ap (λ x. (body_of x).format) k.place.there) ∙ sym (ap (λ t. (body_at old t).format) is) ∙ (m.fired c.0 s l).format
