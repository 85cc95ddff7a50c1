-- The slots of a chunk, by its header.
use Rattle.std.proofs.Common.{◌≡◌, ◌≢◌, ℕ, true, ◌+◌, ◌-◌, ◌<◌, ◌≤◌, List, length, get_or, set, take, drop, refl, sym, ap, ◌∙◌, arith, inl, inr}
use Rattle.std.proofs.lemmas.Bool.{cases_lt, ne_eqb, eq-eqb, lt-ltb, le-ltb}
use Rattle.std.proofs.lemmas.List.{length-take, length-drop, get_or-take, get_or-drop, drop-set-lt, length-set}
use Rattle.object_header.specs.Fields.{fields_of}
use Rattle.object_header.specs.Formats.{pointer_slots_of}
use Rattle.object_header.specs.Head.{class_of, format_of, literals_of}
use Rattle.spur_graph.specs.Cells.{Body, There, Store, cell_from, body_from, body_of, is_there, is_formed, pointer_count, first}
use Rattle.spur_graph.specs.Ordinary.{body_at}
use Rattle.heap_cells.specs.Settled.{settled_word, settled_root}
use Rattle.heap_cells.proofs.Bodies.{pointers-same, pointers_fit, method_some}
use Rattle.heap_cells.proofs.ObjectWrites.{to_object}
use Rattle.image_settle.specs.Settles.{IsLoose, IsNext, slot_in}

module _ {h : Store} {words : List ℕ} {header start slots : ℕ} (n : IsNext h words header start slots) (not_free : class_of header ≢ 0) (not_moved : class_of header ≢ 8) where
  abbrev pub the_body : Body
  the_body = body_from (fields_of header) (take slots (drop (start + 1) words))

  pub stands : h.cell start ≡ There the_body
  stands = n.cell ∙ to_object (fields_of header) n.target (take slots (drop (start + 1) words)) (ne_eqb (class_of header) 0 not_free) (ne_eqb (class_of header) 8 not_moved)

  there : is_there (h.cell start) ≡ true
  there = ap is_there stands

  pub loose : (j : ℕ) → start < j → j < start + 1 + slots → IsLoose h j
  loose = n.loose there

  pub body : body_at h start ≡ the_body
  body = ap body_of stands

  formed : is_formed the_body ≡ true
  formed = ap is_formed (sym body) ∙ n.formed there

  pub long : length the_body.words ≡ slots
  long = omega (arith, length-take slots (drop (start + 1) words), length-drop (start + 1) words, n.fits)

  first_slot : 0 < slots → get_or the_body.words 0 0 ≡ get_or words (start + 1) 0
  first_slot l = get_or-take slots (drop (start + 1) words) 0 0 l ∙ get_or-drop (start + 1) words 0 0 ∙ ap (λ k. get_or words k 0) (omega arith)

  pub count : pointer_slots_of (format_of header) slots (literals_of (get_or words (start + 1) 0)) ≡ pointer_count the_body
  unfolding pointer_count
  count =
      pointers-same (format_of header) slots (literals_of (get_or words (start + 1) 0)) (literals_of (get_or the_body.words 0 0))
      (λ a. ap literals_of (sym (first_slot (omega (arith, long, method_some the_body a, pointers_fit the_body formed)))))
      ∙ ap (λ k. pointer_slots_of (format_of header) k (literals_of (get_or the_body.words 0 0))) (sym long)

  pub count_fits : (k : ℕ) → k ≡ pointer_slots_of (format_of header) slots (literals_of (get_or words (start + 1) 0)) → k ≤ slots
  count_fits k e = omega (arith, e ∙ count, pointers_fit the_body formed, long)

  pub in_roots : start ≡ first h 4 → (i w : ℕ) → slot_in h start (h.cell start) i w ≡ settled_root h i w
  in_roots e i w = rw (stands, eq-eqb start (first h 4) e) refl

  in_front : start ≢ first h 4 → start ≢ first h 3 → (k : ℕ) → k ≡ pointer_slots_of (format_of header) slots (literals_of (get_or words (start + 1) 0))
      → (i w : ℕ) → i < k → slot_in h start (h.cell start) i w ≡ settled_word h w
  in_front n4 n3 k e i w l = rw (stands, ne_eqb start (first h 4) n4, ne_eqb start (first h 3) n3, lt-ltb i (pointer_count the_body) (omega (arith, e ∙ count))) refl

  in_rest : start ≢ first h 4 → start ≢ first h 3 → (k : ℕ) → k ≡ pointer_slots_of (format_of header) slots (literals_of (get_or words (start + 1) 0))
      → (i w : ℕ) → k ≤ i → slot_in h start (h.cell start) i w ≡ w
  in_rest n4 n3 k e i w l = rw (stands, ne_eqb start (first h 4) n4, ne_eqb start (first h 3) n3, le-ltb i (pointer_count the_body) (omega (arith, e ∙ count))) refl

  -- the slots, where the pointers are settled and the others stay
  pub slots_written : start ≢ first h 4 → start ≢ first h 3 → (k : ℕ) → k ≡ pointer_slots_of (format_of header) slots (literals_of (get_or words (start + 1) 0)) → (new : List ℕ)
      → ((j : ℕ) → start + 1 ≤ j → j < start + 1 + k → get_or new j 0 ≡ settled_word h (get_or words j 0)) → ((j : ℕ) → start + 1 + k ≤ j → get_or new j 0 ≡ get_or words j 0)
      → (j : ℕ) → start < j → j < start + 1 + slots → get_or new j 0 ≡ slot_in h start (h.cell start) (j - start - 1) (get_or words j 0)
  slots_written n4 n3 k e new settled rest j l m =
      let i = j - start - 1 in
      let w = get_or words j 0 in
      elim (cases_lt i k) [
        | inl in_it ↦ settled j (omega (arith, l)) (omega (arith, l, in_it)) ∙ sym (in_front n4 n3 k e i w in_it)
        | inr past ↦ rest j (omega (arith, l, past)) ∙ sym (in_rest n4 n3 k e i w past)
      ]

-- a chunk whose header is written
pub next_written : {h : Store} {words : List ℕ} {header start slots : ℕ} (w : ℕ) → IsNext h words header start slots → IsNext h (set words start w) header start slots
next_written {h} {words} {header} {start} {slots} w n =
    let long = length-set words start w in
    record {
      target = n.target;
      cell = n.cell ∙ ap (λ ws. cell_from (fields_of header) n.target (take slots ws)) (sym (drop-set-lt (start + 1) words start w (omega arith)));
      below = omega (arith, n.below, long);
      fits = omega (arith, n.fits, long);
      formed = n.formed;
      loose = n.loose;
      apart = n.apart;
    }
