-- What the passes look for is the bad keys of the rows.
use Rattle.std.proofs.Common.{◌≡◌, ℕ, false, ◌+◌, ◌%◌, List, length, refl, sym, ap, ◌∙◌, subst, inl, inr}
use Rattle.std.proofs.lemmas.Bool.{cases_Bool}
use Rattle.spur_graph.specs.declared.limits.Limits.{Limits}
use Rattle.spur_graph.specs.ImageFile.{special_word}
use Rattle.spur_graph.specs.Segments.{Segment, segments, all_words, offset_in}
use Rattle.spur_graph.specs.Cells.{Body, Store}
use Rattle.spur_graph.specs.Ordinary.{page_entries, is_good_reference, is_bad_forwarder, is_bad_slot}
use Rattle.spur_graph.specs.Places.{IsBadRoot}
use Rattle.spur_graph.specs.ImageCauses.{Class, Row, BadObject, BadRoot, BadForwarder, BadPage, BadEntry, BadSlot, BadSpecial, Bad, image_store}
use Rattle.heap_cells.specs.Settled.{IsLoadable}
use Rattle.image_checks.specs.Checks.{IsBadIn, IsLost, IsBadPlace, IsBadIndex}
use Rattle.image_words.specs.References.{IsBadPointer}
use Rattle.spur_graph.specs.FileStores.{file_store}
use Rattle.image_laws.specs.Resolved.{HasSameCells, HasSameTests}
use Rattle.image_laws.specs.Causes.{AreKeys, AreRows, AreTold, AreCauses, FileHasCauses, ResolvedHasCauses, NoneIsLost, NoneIsLoadable}
use Rattle.image_laws.proofs.Resolved.{resolved_is_same}

are_keys : (bytes : List ℕ) (limits : Limits) (row : Row) (P : ℕ → Type 0) → ((n : ℕ) → P n → Bad bytes limits row n) → ((n : ℕ) → Bad bytes limits row n → P n) → AreKeys bytes limits row P
are_keys bytes limits row P into out = record {
  into = into;
  out = out;
  least = λ n l. record { is = into n l.is; none = λ m low b. l.none m low (out m b) };
  none = λ e n b. e n (out n b);
}

-- a store, and itself
same_cells : (h : Store) → HasSameCells h h
same_cells h = record {
  names = refl;
  starts = refl;
  to = λ w. refl;
  firsts = λ j. refl;
  starting = λ s. refl;
  moved = λ s. refl;
  there = λ s. refl;
  bodies = λ s. refl;
  finals = λ s. refl;
  leading = λ w. refl;
}

same_tests : (h : Store) → HasSameTests h h
same_tests h = record {
  nil_slots = λ i. refl;
  page = λ i. refl;
  internal = λ s. refl;
  ordinary = λ s. refl;
  good_references = λ w. refl;
  good_words = λ w. refl;
  paged = λ i. refl;
  pages_at = λ i. refl;
  entries = λ i. refl;
  entered = λ s. refl;
  bad_forwarders = λ s. refl;
  bad_pages = λ i. refl;
  bad_entries = λ i. refl;
  bad_slots = λ s i. refl;
}

module _ (bytes : List ℕ) (limits : Limits) (h : Store) (cells : HasSameCells (image_store bytes) h) (tests : HasSameTests (image_store bytes) h) where
  rows : AreRows bytes limits (segments bytes) (all_words bytes) h
  rows = record {
    objects = are_keys bytes limits BadObject (IsBadIn (segments bytes) (all_words bytes)) (λ n b. b) (λ n b. b);
    roots = are_keys bytes limits BadRoot (IsBadRoot (all_words bytes) 0 (length (all_words bytes))) (λ n b. b) (λ n b. b);
    forwarders = are_keys bytes limits BadForwarder (IsLost (image_store bytes)) (λ n b. b) (λ n b. b);
    pages = are_keys bytes limits BadPage (IsBadPlace h) (λ i b. (b.0, sym (tests.bad_pages i) ∙ b.1)) (λ i b. (b.0, tests.bad_pages i ∙ b.1));
    entries = are_keys bytes limits BadEntry (IsBadIndex h) (λ i b. sym (tests.bad_entries i) ∙ b) (λ i b. tests.bad_entries i ∙ b);
    slots = are_keys bytes limits BadSlot (IsBadPointer h)
        (λ n b. (b.0, b.1, b.2, (λ e. b.3 (ap (λ (x : Body). x.format) (cells.bodies b.0) ∙ e)), sym (tests.bad_slots b.0 b.1) ∙ b.4))
        (λ n b. (b.0, b.1, b.2, (λ e. b.3 (sym (ap (λ (x : Body). x.format) (cells.bodies b.0)) ∙ e)), tests.bad_slots b.0 b.1 ∙ b.4));
    special = are_keys bytes limits BadSpecial (λ n. is_good_reference h (special_word bytes) ≡ false) (λ n b. sym (tests.good_references (special_word bytes)) ∙ b) (λ n b. tests.good_references (special_word bytes) ∙ b);
  }

  told_of : AreTold bytes limits (segments bytes) h
  told_of = record {
    objects = λ n. refl;
    roots = λ n. refl;
    forwarders = λ n. refl;
    pages = λ i. ap (λ s. Class (offset_in (segments bytes) (s + 1 + i))) (sym (cells.firsts 4));
    entries = λ i. ap (λ s. Class (offset_in (segments bytes) (s + 1 + i % page_entries))) (sym (tests.pages_at i));
    slots = λ n. refl;
    special = λ n. refl;
  }

  causes : AreCauses bytes limits (segments bytes) (all_words bytes) h
  causes = record { rows = rows; told_of = told_of }

-- at other names of the segments and the words
at_names : (bytes : List ℕ) (limits : Limits) (segs : List Segment) (words : List ℕ) (h : Store) → segs ≡ segments bytes → words ≡ all_words bytes
    → HasSameCells (file_store segs words) h → HasSameTests (file_store segs words) h → AreCauses bytes limits segs words h
at_names bytes limits segs words h es ew cells tests =
    let c : HasSameCells (image_store bytes) h = subst (λ ws. HasSameCells (file_store (segments bytes) ws) h) ew (subst (λ ss. HasSameCells (file_store ss words) h) es cells) in
    let t : HasSameTests (image_store bytes) h = subst (λ ws. HasSameTests (file_store (segments bytes) ws) h) ew (subst (λ ss. HasSameTests (file_store ss words) h) es tests) in
    subst (λ ss. AreCauses bytes limits ss words h) (sym es) (subst (λ ws. AreCauses bytes limits (segments bytes) ws h) (sym ew) (causes bytes limits h c t))

pub file_has_causes : FileHasCauses
file_has_causes bytes limits segs words es ew = at_names bytes limits segs words (file_store segs words) es ew (same_cells (file_store segs words)) (same_tests (file_store segs words))

pub none_is_lost : NoneIsLost
none_is_lost h none s = elim (cases_Bool (is_bad_forwarder h s)) [ inl on ↦ absurd (none (s + 1) (s, refl, on)) | inr off ↦ off ]

pub resolved_has_causes : ResolvedHasCauses
resolved_has_causes bytes limits segs words new es ew resolved none =
    let same = resolved_is_same (file_store segs words) new resolved (none_is_lost (file_store segs words) none) in
    at_names bytes limits segs words new es ew same.cells same.tests

pub none_is_loadable : NoneIsLoadable
none_is_loadable old new resolved formed five lost places indices pointers =
    let good = none_is_lost old lost in
    let same = resolved_is_same old new resolved good in
    let l : IsLoadable old = record {
      formed = formed;
      five = five.five;
      objects = five.objects;
      lists = five.lists;
      roots = five.roots;
      ends = good;
      pages = λ i low. elim (cases_Bool _) [ inl on ↦ absurd (places i (low, same.tests.bad_pages i ∙ on)) | inr off ↦ off ];
      entries = λ i. elim (cases_Bool _) [ inl on ↦ absurd (indices i (same.tests.bad_entries i ∙ on)) | inr off ↦ off ];
      slots = λ s i n. elim (cases_Bool (is_bad_slot old s i)) [
        | inl on ↦ absurd (pointers (s + 1 + i) (s, i, refl, (λ e. n (sym (ap (λ (x : Body). x.format) (same.cells.bodies s)) ∙ e)), same.tests.bad_slots s i ∙ on))
        | inr off ↦ off
      ];
    } in
    (l, same.good.loadable l)
