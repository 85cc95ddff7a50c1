-- Where the references of checked words lead, and what is told of the words by where they lead.
use Rattle.std.proofs.Common.{◌≡◌, ◌≢◌, ℕ, Bool, true, false, cond, not, ◌&&◌, ◌||◌, ◌<◌, ◌≤◌, nat_eq, List, length, get_or, refl, sym, ap, ◌∙◌, arith, Option, Some, None, inl, inr}
use Rattle.std.proofs.lemmas.Bool.{false≢true, cases_Bool, cases_lt, ne_eqb, eq-eqb}
use Rattle.std.specs.Option.{is_some}
use Rattle.object_header.specs.Head.{class_of}
use Rattle.heap_walk.specs.declared.starts.StartMap.{StartMap}
use Rattle.heap_walk.specs.Starts.{has_start, covered}
use Rattle.spur_graph.specs.Segments.{Segment, word_in}
use Rattle.object_header.specs.Chunks.{chunks}
use Rattle.spur_graph.specs.Cells.{Store, is_start, is_there, first, lead, any_below}
use Rattle.spur_graph.specs.Ordinary.{page_places, passes, tells, is_internal, is_ordinary, is_good_reference}
use Rattle.spur_graph.specs.FileStores.{file_store}
use Rattle.heap_cells.specs.Rows.{ReadsStart}
use Rattle.heap_cells.proofs.Cutting.{all-in_order}
use Rattle.heap_cells.proofs.CellKinds.{moved_starts, moved_is_told, start_is_there_or_moved, no_start_is_not_there}
use Rattle.heap_cells.proofs.Starts.{start-read, starts-rise}
use Rattle.image_words.specs.declared.image.ImageWords.{ImageWords}
use Rattle.image_words.specs.Roots.{AreRoots}
use Rattle.image_words.specs.References.{IsImage, Leads}
use Rattle.image_words.proofs.Leading.{ordinary_lead}
use Rattle.image_checks.specs.Checks.{IsCut, HasFive, HasOrdinary}
use Rattle.image_checks.specs.Checked.{IsChecked}

module _ {segs : List Segment} {words : List ℕ} {map : StartMap} (k : IsChecked segs words map) where
  reads : (s : ℕ) → is_start ((file_store segs words).cell s) ≡ true → ReadsStart (word_in segs 0) words (length words) (chunks words) s
  reads s e = start-read (word_in segs 0) words (length words) (chunks words) s (all-in_order words k.cut.cut) e

  -- checked words tell where their references lead
  pub checked_leads : Leads (file_store segs words) words
  checked_leads = record {
    names = refl;
    moved = λ s e. (reads s e).moved;
    target = λ s m. (reads s (moved_starts ((file_store segs words).cell s) m)).target m;
  }

  -- a forwarder is told by the map and the header, and is no object
  pub forwarder_told : (s : ℕ) (told : Bool) → told ≡ has_start map s && nat_eq (class_of (get_or words s 0)) 8 → has_start map s ≡ true → is_there ((file_store segs words).cell s) ≡ not told
  forwarder_told s told e on =
      let start = sym (k.starts s) ∙ on in
      let moved = moved_is_told ((file_store segs words).cell s) (has_start map s) (nat_eq (class_of (get_or words s 0)) 8) (k.starts s) (λ e. (reads s e).moved) in
      start_is_there_or_moved ((file_store segs words).cell s) start ∙ ap not (moved ∙ sym e)

  -- where the map has no start no object stands
  pub none_there : (s : ℕ) → has_start map s ≡ false → is_there ((file_store segs words).cell s) ≡ false
  none_there s off = no_start_is_not_there ((file_store segs words).cell s) (sym (k.starts s) ∙ off)

  -- objects that are marked up to a place are so up to the next start, since there is none between
  pub marked_before : (has : ℕ → Bool) (at to : ℕ) → ((s : ℕ) → s < at → has s ≡ is_there ((file_store segs words).cell s)) → ((s : ℕ) → at ≤ s → has s ≡ false)
      → ((s : ℕ) → at ≤ s → s < to → has_start map s ≡ false) → (s : ℕ) → s < to → has s ≡ is_there ((file_store segs words).cell s)
  marked_before has at to marked empty none s l = elim (cases_lt s at) [ inl low ↦ marked s low | inr high ↦ empty s high ∙ sym (none_there s (none s high l)) ]

-- the maps and the roots of checked words
pub checked_image : {words : List ℕ} (image : ImageWords) → IsChecked image.map.now words image.starts.now → covered image.ordinary.now ≡ length words → HasOrdinary (file_store image.map.now words) (has_start image.ordinary.now)
    → AreRoots (file_store image.map.now words) image.roots → IsImage (file_store image.map.now words) image
checked_image image k covers has roots = record {
  to = λ w. refl;
  inside = λ s e. (reads k s e).below;
  has = k.starts;
  has_ordinary = has;
  covers = (k.covers, covers);
  firsts = roots;
  resolved = k.resolved;
}

-- nil is ordinary
pub nil_ordinary : {segs : List Segment} {words : List ℕ} → IsCut segs words → HasFive (file_store segs words) → is_ordinary (file_store segs words) (first (file_store segs words) 0) ≡ true
unfolding is_internal
nil_ordinary {segs} {words} k f =
    let h = file_store segs words in
    let row = starts-rise words (length words) (chunks words) (all-in_order words k.cut) in
    let five : 5 ≤ length h.starts = f.five in
    let apart : (j : ℕ) → 0 < j → j < 5 → first h 0 ≢ first h j = λ j l m e. let low = row.rising 0 j l (omega (arith, five, m)) in omega (arith, low, e) in
    let none : (b : Bool) → false || false || (not true && b) ≡ false = λ b. refl in
    let outer : is_internal h (first h 0) ≡ false =
    (λ x. ne_eqb _ _ (apart 3 (omega arith) (omega arith)) x || ne_eqb _ _ (apart 4 (omega arith) (omega arith)) x || (not (eq-eqb (first h 0) (first h 0) refl x) && any_below (λ i. tells h i (first h 0)) page_places)) in
    λ x. f.objects 0 (omega arith) x && not (outer x)

-- ---- the ordinary object to which a word leads

-- a test that ordinary objects alone pass is passed by it, or by none
pub led_passes : (h : Store) (word : ℕ) (test : ℕ → Bool) (o : Option ℕ) → ((s : ℕ) → test s ≡ true → is_ordinary h s ≡ true) → o ≡ ordinary_lead h word → passes test o ≡ passes test (lead h word)
led_passes h word test o only e = ap (passes test) e ∙ kept (is_ordinary h) (lead h word) only
  where
    kept : (good : ℕ → Bool) (l : Option ℕ) → ((s : ℕ) → test s ≡ true → good s ≡ true) → passes test (cond (passes good l) l None) ≡ passes test l
    kept good None only = refl
    kept good (Some s) only = elim (cases_Bool (good s)) [
      | inl on ↦ rw on refl
      | inr off ↦ elim (cases_Bool (test s)) [
        | inl pass ↦ absurd (false≢true (sym off ∙ only s pass))
        | inr fail ↦ rw (off, fail) refl
      ]
    ]

-- the word is a good reference where there is one
pub led_good : (h : Store) (word : ℕ) (o : Option ℕ) → o ≡ ordinary_lead h word → is_some o ≡ is_good_reference h word
led_good h word o e = ap (λ (p : Option ℕ). is_some p) e ∙ some (is_ordinary h) (lead h word)
  where
    some : (good : ℕ → Bool) (l : Option ℕ) → is_some (cond (passes good l) l None) ≡ passes good l
    some good None = refl
    some good (Some s) = elim (cases_Bool (good s)) [ inl on ↦ rw on refl | inr off ↦ rw off refl ]
