-- Words that tell the same place of each chunk, and whose free chunks are as before: so are the tables beside them.
use Rattle.std.proofs.Common.{◌≡◌, ℕ, false, not, ◌+◌, ◌<◌, ◌≤◌, List, [], ◌∷◌, map, length, get_or, refl, sym, ap, ◌∙◌, subst}
use Rattle.std.proofs.lemmas.Bool.{not-true}
use Rattle.std.proofs.lemmas.List.Elements.{filter_agree}
use Rattle.object_header.specs.Chunks.{Chunk}
use Rattle.spur_graph.specs.Cells.{Cell, Store, is_start}
use Rattle.spur_graph.specs.Ordinary.{is_ordinary, ordinary_starts}
use Rattle.spur_graph.specs.Spaces.{old_row, young_row}
use Rattle.spur_graph.specs.Heaps.{View, store_of, chunks_of, heap_to, IsSound}
use Rattle.heap_cells.proofs.Members.{In, in_left}
use Rattle.heap_cells.proofs.Recounted.{recounted, in_recounted}
use Rattle.free_lists.specs.Runs.{cover}
use Rattle.free_lists.specs.Rows.{free_runs, is_free, with_run}
use Rattle.free_lists.specs.Lists.{Lists}
use Rattle.free_lists.specs.declared.lists.FreeLists.{FreeLists}
use Rattle.free_lists.proofs.Given.{keeps_lists}
use Rattle.spur_heap.specs.Words.{starts_at}
use Rattle.spur_heap.proofs.Orders.{order}
use Rattle.spur_heap.proofs.FreeRuns.{free_told, free_runs_same, covered_by}
use Rattle.spur_heap.proofs.Rearranged.{Rearranges, arranged, store_then, same_places, old_places, arranged_store, arranged_sound}
use Rattle.spur_heap.proofs.Tables.{HasFreeLists, SameTables}

-- runs do not depend on how many slots a chunk has
runs_recounted : (new : List ℕ) (cs : List Chunk) → free_runs new (map (recounted new) cs) ≡ free_runs new cs
unfolding free_runs
runs_recounted new [] = refl
runs_recounted new (c ∷ cs) = ap (with_run (is_free (get_or new c.start 0)) (c.at, c.size)) (runs_recounted new cs)

-- the same chunks are free, and their words are as before
pub record KeepsFree (v : View) (new : List ℕ) (cell : ℕ → Cell) : Type 0 where
  pub sound : IsSound (record (store_of v) { cell = cell })
  pub starts : (t : ℕ) → is_start (cell t) ≡ starts_at v t
  pub same : (c : Chunk) → In (chunks_of v) c → starts_at v c.start ≡ false → (j : ℕ) → c.at ≤ j → j < c.at + c.size → get_or new j 0 ≡ get_or v.words j 0

module _ {v : View} {new : List ℕ} {cell : ℕ → Cell} (k : Rearranges v new cell) (free : KeepsFree v new cell) where
  pub arranged_starts : (t : ℕ) → starts_at (arranged k) t ≡ starts_at v t
  arranged_starts t = ap (λ (h : Store). is_start (h.cell t)) (arranged_store k) ∙ free.starts t

  free_was : (c : Chunk) → In (chunks_of v) c → is_free (get_or v.words c.start 0) ≡ not (starts_at v c.start)
  free_was c m = free_told heap_to v.words (length v.words) (chunks_of v) c (order v k.sound) m

  same_free : (c : Chunk) → In (chunks_of v) c → is_free (get_or new c.start 0) ≡ is_free (get_or v.words c.start 0)
  same_free c m =
      let there : In (chunks_of (arranged k)) (recounted new c) = subst (λ (cs : List Chunk). In cs (recounted new c)) (sym (same_places k)) (in_recounted new (chunks_of v) c m) in
      free_told heap_to new (length new) (chunks_of (arranged k)) (recounted new c) (order (arranged k) (arranged_sound k free.sound)) there
      ∙ ap not (arranged_starts c.start) ∙ sym (free_was c m)

  among : (c : Chunk) → In (old_row v.words v.spaces) c → In (chunks_of v) c
  among c m = in_left (old_row v.words v.spaces) (young_row v.words v.spaces) c m

  same_runs : free_runs new (old_row new v.spaces) ≡ free_runs v.words (old_row v.words v.spaces)
  same_runs = ap (free_runs new) (old_places k) ∙ runs_recounted new (old_row v.words v.spaces) ∙ free_runs_same v.words new (old_row v.words v.spaces) (λ c m. same_free c (among c m))

  same_word : (j : ℕ) → 1 ≤ cover (free_runs v.words (old_row v.words v.spaces)) j → get_or new j 0 ≡ get_or v.words j 0
  same_word j some =
      let h = covered_by v.words (old_row v.words v.spaces) j some in
      let m = among h.chunk h.inside in
      free.same h.chunk m (not-true _ (sym (free_was h.chunk m) ∙ h.free)) j h.from h.to

  arranged_lists : (lists : FreeLists) → HasFreeLists v lists → HasFreeLists (arranged k) lists
  arranged_lists lists l = subst (λ runs. Lists new lists runs) (sym same_runs) (keeps_lists v.words new lists (free_runs v.words (old_row v.words v.spaces)) l k.long same_word)

  pub arranged_tables : ((t : ℕ) → is_ordinary (store_then k) t ≡ is_ordinary (store_of v) t) → SameTables v (arranged k)
  unfolding ordinary_starts
  arranged_tables ordinary = record {
    long = k.long;
    starts = arranged_starts;
    lists = arranged_lists;
    count =
        ap (λ (h : Store). length (ordinary_starts h)) (arranged_store k)
        ∙ ap (λ (ts : List ℕ). length ts) (filter_agree (is_ordinary (store_then k)) (is_ordinary (store_of v)) ordinary (store_of v).starts);
  }
