-- What the first walk starts from, and what it knows of each chunk that comes.
use Rattle.std.proofs.Common.{◌≡◌, ℕ, true, ◌+◌, ◌<◌, ◌≤◌, List, length, get_or, take, drop, refl, sym, ap, ◌∙◌, subst, inl, inr, arith, Option}
use Rattle.std.proofs.lemmas.Bool.{false≢true, cases_lt}
use Rattle.std.proofs.lemmas.List.{length-drop, get_or-drop, ext_get_or}
use Rattle.std.specs.List.{Contains}
use Rattle.object_header.specs.Fields.{fields_of}
use Rattle.spur_graph.specs.Segments.{word_in}
use Rattle.object_header.specs.Chunks.{Chunk, chunk_of, chunks, slots_of}
use Rattle.spur_graph.specs.Cells.{Store, read_cell, cell_from, start_named, is_start, is_moved, first}
use Rattle.heap_cells.specs.Rows.{starts_of, AreStarts, ReadsStart}
use Rattle.heap_cells.proofs.CellKinds.{there_starts, there_is_not_moved, moved_starts}
use Rattle.heap_cells.proofs.Members.{listed, start_of_chunk}
use Rattle.heap_cells.proofs.Cutting.{shape, cell-at, all-in_order}
use Rattle.heap_cells.proofs.Starts.{start-read, starts-rise}
use Rattle.image_words.specs.declared.image.ImageWords.{ImageWords}
use Rattle.image_settle.specs.Settles.{IsReady, Follows, IsNext}
use Rattle.spur_graph.specs.FileStores.{file_store}
use Rattle.image_settle.proofs.Walking.{Comes, Walking, comes}
use Rattle.image_settle.proofs.Steps.{Spans, spans_old}

-- what a chunk's words tell
pub told : (to : ℕ → Option ℕ) (old : List ℕ) (c : Chunk) → read_cell to old c ≡ cell_from (fields_of (get_or old c.start 0)) (start_named to old (get_or old (c.start + 1) 0)) (slots_of old c)
unfolding read_cell
told to old c = refl

module _ (image : ImageWords) (old : List ℕ) (r : IsReady image old) where
  abbrev pub h : Store
  h = file_store image.map.now old

  abbrev pub cs : List Chunk
  cs = chunks old

  pub read : (s : ℕ) → is_start (h.cell s) ≡ true → ReadsStart (word_in image.map.now 0) old (length old) cs s
  read s k = start-read (word_in image.map.now 0) old (length old) cs s (all-in_order old r.cut) k

  pub ready_follows : Follows h image
  ready_follows = record {
    maps = r.maps;
    below = r.named.below;
    nil = let k = (read (first h 0) (there_starts (h.cell (first h 0)) r.nil)).below in omega arith;
    small = r.small;
  }

  pub rise : AreStarts old (length old) cs
  rise = starts-rise old (length old) cs (all-in_order old r.cut)

  pub next : (new : List ℕ) (at : ℕ) (c : Chunk) → Comes old cs at c → length new ≡ length old → ((j : ℕ) → at ≤ j → get_or new j 0 ≡ get_or old j 0) → IsNext h new (get_or new c.start 0) c.start c.slots
  next new at c k len same =
      let l = k.lies in
      let sh = shape old c k.chunk in
      let stands : Contains (starts_of cs) c.start = listed (starts_of cs) c.start (start_of_chunk cs c k.inside) in
      let low : at ≤ c.start = omega (arith, l.after, l.lead) in
      let rest : drop (c.start + 1) new ≡ drop (c.start + 1) old = ext_get_or 0 _ _
      (omega (arith, length-drop (c.start + 1) new, length-drop (c.start + 1) old, len))
      (λ i b. get_or-drop (c.start + 1) new i 0 ∙ same (c.start + 1 + i) (omega arith) ∙ sym (get_or-drop (c.start + 1) old i 0)) in
      record {
        target = start_named (word_in image.map.now 0) old (get_or old (c.start + 1) 0);
        cell = cell-at (word_in image.map.now 0) old 0 (length old) cs c (all-in_order old r.cut) k.inside ∙ told (word_in image.map.now 0) old c
            ∙ ap (λ w. cell_from (fields_of w) (start_named (word_in image.map.now 0) old (get_or old (c.start + 1) 0)) (slots_of old c)) (sym (same c.start low))
            ∙ ap (λ ws. cell_from (fields_of (get_or new c.start 0)) (start_named (word_in image.map.now 0) old (get_or old (c.start + 1) 0)) (take c.slots ws)) (sym rest);
        below = omega (arith, l.room, l.before, len);
        fits = omega (arith, l.slots, l.before, len);
        formed = r.formed c.start;
        loose = λ t j a b. record {
          header = λ s e is. elim (cases_lt s c.start) [
            | inl m ↦ omega (arith, is)
            | inr m ↦ elim (cases_lt c.start s) [
              | inl o ↦ let q = rise.apart c.start s stands (read s e).stands o in omega (arith, q.slots, sh.slots, is, b)
              | inr o ↦ omega (arith, is, a)
            ]
          ];
          target = λ s e is. elim (cases_lt s c.start) [
            | inl m ↦ let q = rise.apart s c.start (read s (moved_starts (h.cell s) e)).stands stands m in omega (arith, q.next, is, a)
            | inr m ↦ elim (cases_lt c.start s) [
              | inl o ↦ let q = rise.apart c.start s stands (read s (moved_starts (h.cell s) e)).stands o in omega (arith, q.slots, sh.slots, is, b)
              | inr o ↦
                  let one : s ≡ c.start = omega arith in
                  let f : is_moved (h.cell c.start) ≡ true = ap (λ n. is_moved (h.cell n)) (sym one) ∙ e in
                  absurd (false≢true (sym (there_is_not_moved (h.cell c.start) t) ∙ f))
            ]
          ];
        };
        apart = λ s e is. elim (cases_lt s c.start) [
          | inl m ↦ let q = rise.apart s c.start (read s (moved_starts (h.cell s) e)).stands stands m in omega (arith, q.next, is)
          | inr m ↦ omega (arith, is)
        ];
      }

  -- the same by the span that was read
  pub next_span : (R : Chunk → ℕ → ℕ → Type 0) (new : List ℕ) (at start slots end : ℕ) → Walking R old new cs at → at < length old → Spans new at start slots end → IsNext h new (get_or new start 0) start slots
  next_span R new at start slots end w l spans =
      let s = spans_old old cs new new at start slots end spans (w.same at (omega arith)) in
      let c = chunk_of at (get_or old at 0) in
      let n = next new at c (comes R old cs new at w l) w.long w.same in
      subst (λ k. IsNext h new (get_or new k 0) k slots) (sym s.start_is) (subst (λ k. IsNext h new (get_or new c.start 0) c.start k) (sym s.slots_is) n)
