-- The objects of checked words: their bodies are read at their starts.
use Rattle.std.proofs.Common.{◌≡◌, ℕ, true, false, ◌+◌, ◌<◌, ◌≤◌, List, length, get_or, sym, ap, ◌∙◌, arith, not, ◌&&◌, eqb, ltb, inl, inr}
use Rattle.std.proofs.lemmas.Bool.{and_parts, lt-ltb, cases_Bool}
use Rattle.heap_walk.specs.declared.starts.StartMap.{StartMap}
use Rattle.heap_walk.specs.Starts.{has_start, covered}
use Rattle.object_header.specs.Head.{format_of}
use Rattle.spur_graph.specs.Segments.{Segment, word_in}
use Rattle.object_header.specs.Chunks.{chunks, StandsAt, slots_at}
use Rattle.spur_graph.specs.Cells.{is_there, pointer_count, first}
use Rattle.spur_graph.specs.Ordinary.{body_at, root_slot, roots_slots, page_entries, is_page_body, is_ordinary}
use Rattle.heap_cells.proofs.Bodies.{pointers_fit}
use Rattle.heap_cells.proofs.Cutting.{all-in_order}
use Rattle.heap_cells.proofs.ObjectReads.{object-stands, object-body, object-slots, object-word}
use Rattle.heap_cells.proofs.References.{ordinary_there}
use Rattle.image_words.specs.declared.image.Roots.{Roots}
use Rattle.image_checks.specs.Checks.{IsCut}
use Rattle.spur_graph.specs.FileStores.{file_store}
use Rattle.image_checks.specs.Checked.{AreFirst, AreLeft, AreWithin, is_taken, object_at}

module _ {segs : List Segment} {words : List ℕ} (k : IsCut segs words) where
  pub stands_there : (s : ℕ) → is_there ((file_store segs words).cell s) ≡ true → StandsAt words s
  stands_there s e = object-stands (word_in segs 0) words (chunks words) (all-in_order words k.cut) s e

  pub body_there : (s : ℕ) → is_there ((file_store segs words).cell s) ≡ true → body_at (file_store segs words) s ≡ object_at words s
  body_there s e = object-body (word_in segs 0) words (chunks words) (all-in_order words k.cut) s e

  pub slots_there : (s : ℕ) → is_there ((file_store segs words).cell s) ≡ true → length (body_at (file_store segs words) s).words ≡ slots_at words s
  slots_there s e = object-slots (word_in segs 0) words (chunks words) (all-in_order words k.cut) s e

  pub words_there : (s i : ℕ) → is_there ((file_store segs words).cell s) ≡ true → i < length (body_at (file_store segs words) s).words → get_or (body_at (file_store segs words) s).words i 0 ≡ get_or words (s + 1 + i) 0
  words_there s i e l = object-word (word_in segs 0) words (chunks words) (all-in_order words k.cut) s e i l

  -- the words of an object lie within all words
  pub end_there : (s : ℕ) → is_there ((file_store segs words).cell s) ≡ true → s + 1 + length (body_at (file_store segs words) s).words ≤ length words
  end_there s e = omega (arith, slots_there s e, (stands_there s e).fits)

  pub page_array : (s : ℕ) → is_there ((file_store segs words).cell s) ≡ true → is_page_body (body_at (file_store segs words) s) ≡ (eqb (format_of (get_or words s 0)) 2 && eqb (slots_at words s) page_entries)
  page_array s e = λ x. eqb (body_there s e x).format 2 && eqb (slots_there s e x) page_entries

  pub left_within : (map : StartMap) (n : ℕ) → covered map ≡ length words → AreLeft (file_store segs words) n (has_start map) → AreWithin words map
  left_within map n covers left = record {
    covers = covers;
    each = λ s e. stands_there s (and_parts (is_there ((file_store segs words).cell s)) (not (is_taken (file_store segs words) n s)) (sym (left s) ∙ e)).0;
  }

  pub there_covered : (map : StartMap) (s : ℕ) → covered map ≡ length words → is_there ((file_store segs words).cell s) ≡ true → ltb s (covered map) ≡ true
  there_covered map s covers e = lt-ltb s (covered map) (omega (arith, covers, (stands_there s e).below))

  -- ---- the hidden roots

  module _ {starts : Roots} (f : AreFirst (file_store segs words) starts) where
    roots_there : is_there ((file_store segs words).cell (first (file_store segs words) 4)) ≡ true
    roots_there = f.roots.objects 4 (omega arith)

    pub roots_end : starts.hidden_roots + 1 + roots_slots ≤ length words
    roots_end =
        let end = end_there (first (file_store segs words) 4) roots_there in
        omega (arith, end, f.are.hidden_roots, f.roots.roots.1)

    pub root_word : (i : ℕ) → i < roots_slots → root_slot (file_store segs words) i ≡ get_or words (starts.hidden_roots + 1 + i) 0
    root_word i l =
        words_there (first (file_store segs words) 4) i roots_there (omega (arith, l, f.roots.roots.1))
        ∙ ap (λ s. get_or words (s + 1 + i) 0) (sym f.are.hidden_roots)

  -- no object stands behind the words
  pub none_behind : (s : ℕ) → length words ≤ s → is_there ((file_store segs words).cell s) ≡ false
  none_behind s l = elim (cases_Bool (is_there ((file_store segs words).cell s))) [
    | inl on ↦ absurd (omega (arith, (stands_there s on).below, l))
    | inr off ↦ off
  ]

  -- ---- ordinary objects

  pub stands_ordinary : (s : ℕ) → is_ordinary (file_store segs words) s ≡ true → StandsAt words s
  stands_ordinary s e = stands_there s (ordinary_there (file_store segs words) s e)

  -- the pointers are among the slots
  pub fit_ordinary : (s : ℕ) → is_ordinary (file_store segs words) s ≡ true → pointer_count (body_at (file_store segs words) s) ≤ slots_at words s
  fit_ordinary s e =
      let there = ordinary_there (file_store segs words) s e in
      omega (arith, pointers_fit (body_at (file_store segs words) s) (k.formed s there), slots_there s there)
