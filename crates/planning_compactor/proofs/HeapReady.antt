-- What a compaction asks of words and roots holds of a whole and tight heap.
use Rattle.std.proofs.Common.{◌≡◌, ℕ, Bool, true, ◌+◌, ◌≤◌, List, [], ◌++◌, length, sym, ap, ◌∙◌, subst, arith}
use Rattle.std.specs.List.{Contains}
use Rattle.std.proofs.lemmas.List.{append_assoc, append-nil}
use Rattle.object_header.specs.Chunks.{Chunk, InOrder}
use Rattle.spur_graph.specs.Cells.{is_there}
use Rattle.spur_graph.specs.Spaces.{old_row, eden_row, past_row, young_row}
use Rattle.spur_graph.specs.Heaps.{IsWhole, View, heap_to, store_of, chunks_of}
use Rattle.heap_cells.specs.Rows.{starts_of}
use Rattle.heap_cells.proofs.CellKinds.{there_starts}
use Rattle.heap_cells.proofs.Cutting.{cuts-in_order, in_order-append, in_order-wider, start-in}
use Rattle.heap_cells.proofs.Members.{In, listed, start_of_chunk}
use Rattle.heap_cells.proofs.Spaced.{eden_past, past_inside, young-in_order}
use Rattle.compaction_laws.specs.Compacting.{IsTight, behind_roots, is_mapped}
use Rattle.compaction_laws.proofs.Fronts.{behind, front, front-behind, split}
use Rattle.compaction_laws.proofs.Ready.{can_move}
use Rattle.planning_compactor.specs.Objects.{AreObjects}
use Rattle.planning_compactor.specs.Filled.{IsReady}
use Rattle.planning_compactor.proofs.Ready.{row_is_ready}

module _ {v : View} (k : IsWhole v) (t : IsTight v) where
  abbrev os : List Chunk
  os = old_row v.words v.spaces

  abbrev es : List Chunk
  es = eden_row v.words v.spaces

  abbrev ps : List Chunk
  ps = past_row v.words v.spaces

  -- what is in the map is an object of the rows
  pub there : (s : ℕ) → is_mapped v s ≡ true → is_there ((store_of v).cell s) ≡ true
  there s on = (can_move k t).there s on

  -- and its chunk
  pub chunk-of : (s : ℕ) → is_mapped v s ≡ true → (c : Chunk) × In (chunks_of v) c × (c.start ≡ s)
  chunk-of s on = start-in heap_to v.words (chunks_of v) s (there_starts ((store_of v).cell s) (there s on))

  kept-in : (s : ℕ) → is_mapped v s ≡ true → Contains (starts_of (chunks_of v)) s
  kept-in s on =
      let r = chunk-of s on in
      subst (Contains (starts_of (chunks_of v))) r.2 (listed (starts_of (chunks_of v)) r.0.start (start_of_chunk (chunks_of v) r.0 r.1))

  -- ---- the ranges

  in-old : InOrder v.words 0 v.spaces.old_end os
  in-old = cuts-in_order v.words 0 v.spaces.old_end os k.rows.old

  in-eden : InOrder v.words v.spaces.eden_at (v.spaces.eden_at + v.spaces.eden_used) es
  in-eden = cuts-in_order v.words v.spaces.eden_at (v.spaces.eden_at + v.spaces.eden_used) es k.rows.eden

  in-past : InOrder v.words v.spaces.past_at (length v.words) ps
  in-past = in_order-wider v.words v.spaces.past_at (v.spaces.past_at + v.spaces.past_used) (length v.words) ps
      (cuts-in_order v.words v.spaces.past_at (v.spaces.past_at + v.spaces.past_used) ps k.rows.past) (past_inside v.words v.limits v.spaces k.spaces)

  pub eden-end : v.spaces.eden_at + v.spaces.eden_used ≤ v.spaces.past_at
  eden-end = eden_past v.words v.limits v.spaces k.spaces

  pub old-ready : IsReady (is_mapped v) v.words (behind_roots v) v.spaces.old_end
  old-ready = row_is_ready (is_mapped v) v.words (behind_roots v) v.spaces.old_end (front k) (behind k) (young_row v.words v.spaces)
      (cuts-in_order v.words 0 (behind_roots v) (front k) (split k).0) (split k).1
      (in_order-append v.words v.spaces.old_end v.spaces.old_end v.spaces.eden_at (length v.words) [] (young_row v.words v.spaces) (omega arith) k.spaces.eden_behind (young-in_order v.words v.limits v.spaces k.spaces k.rows))
      (λ s on. subst (λ cs. Contains (starts_of cs) s) (ap (λ cs. cs ++ young_row v.words v.spaces) (sym (front-behind k)) ∙ append_assoc (front k) (behind k) (young_row v.words v.spaces)) (kept-in s on))

  pub eden-ready : IsReady (is_mapped v) v.words v.spaces.eden_at (v.spaces.eden_at + v.spaces.eden_used)
  eden-ready = row_is_ready (is_mapped v) v.words v.spaces.eden_at (v.spaces.eden_at + v.spaces.eden_used) os es ps
      (in_order-wider v.words 0 v.spaces.old_end v.spaces.eden_at os in-old k.spaces.eden_behind) k.rows.eden
      (in_order-append v.words (v.spaces.eden_at + v.spaces.eden_used) (v.spaces.eden_at + v.spaces.eden_used) v.spaces.past_at (length v.words) [] ps (omega arith) eden-end in-past)
      kept-in

  pub past-ready : IsReady (is_mapped v) v.words v.spaces.past_at (v.spaces.past_at + v.spaces.past_used)
  past-ready = row_is_ready (is_mapped v) v.words v.spaces.past_at (v.spaces.past_at + v.spaces.past_used) (os ++ es) ps []
      (in_order-append v.words 0 v.spaces.old_end v.spaces.eden_at v.spaces.past_at os es in-old k.spaces.eden_behind (in_order-wider v.words v.spaces.eden_at (v.spaces.eden_at + v.spaces.eden_used) v.spaces.past_at es in-eden eden-end))
      k.rows.past (past_inside v.words v.limits v.spaces k.spaces)
      (λ s on. subst (λ cs. Contains (starts_of cs) s) (sym (append_assoc os es ps) ∙ ap (λ cs. (os ++ es) ++ cs) (sym (append-nil ps))) (kept-in s on))

  -- ---- the objects

  pub objects : AreObjects (is_mapped v) v.words
  objects = let c = can_move k t in record { live = old-ready.live; fits = c.fits; refs = c.refs; methods = c.methods }
