-- What the words at a start tell of the object there: its header stands there, and its words are the slots behind.
use Rattle.std.proofs.Common.{◌≡◌, ℕ, true, ◌+◌, ◌<◌, List, drop, length, get_or, sym, ap, ◌∙◌, arith, Option}
use Rattle.std.proofs.lemmas.List.{get_or-take, get_or-drop, length-take-le, length-drop}
use Rattle.object_header.specs.Fields.{fields_of}
use Rattle.object_header.specs.Formats.{pointer_slots_of}
use Rattle.object_header.specs.Head.{format_of, literals_of}
use Rattle.object_header.specs.Chunks.{Chunk, InOrder, StandsAt, slots_at, slots_from}
use Rattle.spur_graph.specs.Cells.{Body, cell_in, body_from, body_of, is_start, is_there, is_formed, pointer_count}
use Rattle.heap_cells.specs.Rows.{ReadsStart}
use Rattle.heap_cells.proofs.Bodies.{pointers-same, pointers_fit, method_some}
use Rattle.heap_cells.proofs.CellKinds.{there_starts}
use Rattle.heap_cells.proofs.Starts.{start-read}

module _ (to : ℕ → Option ℕ) (words : List ℕ) (cs : List Chunk) (cut : InOrder words 0 (length words) cs) (s : ℕ) where
  pub start-stands : is_start (cell_in to words cs s) ≡ true → StandsAt words s
  start-stands on = let r = start-read to words (length words) cs s cut on in record { below = r.below; behind = r.behind; fits = r.fits }

  module _ (there : is_there (cell_in to words cs s) ≡ true) where
    object-read : ReadsStart to words (length words) cs s
    object-read = start-read to words (length words) cs s cut (there_starts (cell_in to words cs s) there)

    pub object-stands : StandsAt words s
    object-stands = start-stands (there_starts (cell_in to words cs s) there)

    pub object-body : body_of (cell_in to words cs s) ≡ body_from (fields_of (get_or words s 0)) (slots_from words s)
    object-body = object-read.body there

    pub object-slots : length (body_of (cell_in to words cs s)).words ≡ slots_at words s
    object-slots =
        let fits = object-read.fits in
        let long = length-drop (s + 1) words in
        ap (λ (b : Body). length b.words) object-body ∙ length-take-le (slots_at words s) (drop (s + 1) words) (omega (arith, fits, long))

    -- slot `i` stands behind the header
    pub object-word : (i : ℕ) → i < length (body_of (cell_in to words cs s)).words → get_or (body_of (cell_in to words cs s)).words i 0 ≡ get_or words (s + 1 + i) 0
    object-word i l =
        ap (λ (b : Body). get_or b.words i 0) object-body
        ∙ get_or-take (slots_at words s) (drop (s + 1) words) i 0 (omega (arith, l, object-slots))
        ∙ get_or-drop (s + 1) words i 0

    pub object-inside : (i : ℕ) → i < length (body_of (cell_in to words cs s)).words → s + 1 + i < length words
    object-inside i l = let fits = object-read.fits in omega (arith, fits, l, object-slots)

    -- only a method reads the word behind its header, and it has one
    pub object-pointers : is_formed (body_of (cell_in to words cs s)) ≡ true
        → pointer_slots_of (format_of (get_or words s 0)) (slots_at words s) (literals_of (get_or words (s + 1) 0)) ≡ pointer_count (body_of (cell_in to words cs s))
    unfolding pointer_count
    object-pointers formed =
        let b : Body = body_of (cell_in to words cs s) in
        let format : b.format ≡ format_of (get_or words s 0) = ap (λ (c : Body). c.format) object-body in
        (λ x. pointer_slots_of (sym format x) (sym object-slots x) (literals_of (get_or words (s + 1) 0)))
        ∙ pointers-same b.format (length b.words) (literals_of (get_or words (s + 1) 0)) (literals_of (get_or b.words 0 0)) (λ m.
        let some = method_some b m in
        let fit = pointers_fit b formed in
        let front : s + 1 + 0 ≡ s + 1 = omega arith in
        ap literals_of (sym (object-word 0 (omega (arith, some, fit)) ∙ ap (λ j. get_or words j 0) front)))
