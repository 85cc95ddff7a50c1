-- The free chunks of a row: which of them a run is, that no two chunks share a word, and how a free one stands in other words.
use Rattle.std.proofs.Common.{◌≡◌, ℕ, true, false, ◌+◌, ◌<◌, ◌≤◌, List, [], ◌∷◌, ◌++◌, get_or, refl, sym, ap, ◌∙◌, subst, arith, inl, inr}
use Rattle.std.proofs.lemmas.Bool.{cases_Bool}
use Rattle.std.specs.List.{Contains}
use Rattle.object_header.specs.Head.{class_of}
use Rattle.object_header.specs.Chunks.{Chunk, leads, slots_told, chunk_of, IsChunk, InOrder}
use Rattle.spur_graph.specs.Heaps.{heap_to}
use Rattle.heap_cells.proofs.Appending.{read-free}
use Rattle.heap_cells.proofs.Members.{In}
use Rattle.heap_cells.proofs.Cutting.{stands}
use Rattle.heap_cells.proofs.Splitting.{StandsAs}
use Rattle.free_lists.specs.Runs.{IsFree}
use Rattle.free_lists.specs.Rows.{free_runs, with_run, written}
use Rattle.free_lists.specs.Rows as lists
use Rattle.free_lists.proofs.Ordered.{contains_cons}
use Rattle.free_lists.proofs.Written.{IsWritten, free_is_written}

-- a free run is that of a chunk
pub record IsAmong (words : List ℕ) (cs : List Chunk) (x : ℕ × ℕ) : Type 0 where
  pub before : List Chunk
  pub behind : List Chunk
  pub chunk : Chunk
  pub is : cs ≡ before ++ chunk ∷ behind
  pub free : lists.is_free (get_or words chunk.start 0) ≡ true
  pub run : (chunk.at, chunk.size) ≡ x

among_more : (words : List ℕ) (c : Chunk) (cs : List Chunk) (x : ℕ × ℕ) → IsAmong words cs x → IsAmong words (c ∷ cs) x
among_more words c cs x a = record { before = c ∷ a.before; behind = a.behind; chunk = a.chunk; is = ap (λ ds. c ∷ ds) a.is; free = a.free; run = a.run }

pub find_among : (words : List ℕ) (cs : List Chunk) (x : ℕ × ℕ) → Contains (free_runs words cs) x → IsAmong words cs x
unfolding free_runs
find_among words [] x there = absurd (omega (arith, there.1))
find_among words (c ∷ cs) x there = elim (cases_Bool (lists.is_free (get_or words c.start 0))) [
  | inl on ↦
      let all : Contains ((c.at, c.size) ∷ free_runs words cs) x = rw on at there in
      elim (contains_cons (c.at, c.size) (free_runs words cs) x all) [
        | inl e ↦ record { before = []; behind = cs; chunk = c; is = refl; free = on; run = e }
        | inr rest ↦ among_more words c cs x (find_among words cs x rest)
      ]
  | inr off ↦ let rest : Contains (free_runs words cs) x = rw off at there in among_more words c cs x (find_among words cs x rest)
]

pub runs-free : (words : List ℕ) (c : Chunk) (cs : List Chunk) → lists.is_free (get_or words c.start 0) ≡ true → free_runs words (c ∷ cs) ≡ (c.at, c.size) ∷ free_runs words cs
unfolding free_runs
runs-free words c cs on = ap (λ b. with_run b (c.at, c.size) (free_runs words cs)) on

pub runs-other : (words : List ℕ) (c : Chunk) (cs : List Chunk) → lists.is_free (get_or words c.start 0) ≡ false → free_runs words (c ∷ cs) ≡ free_runs words cs
unfolding free_runs
runs-other words c cs off = ap (λ b. with_run b (c.at, c.size) (free_runs words cs)) off

-- two chunks of a row that share a word are one
pub same_place : (words : List ℕ) (at end : ℕ) (cs : List Chunk) (c d : Chunk) (j : ℕ) → InOrder words at end cs → In cs c → In cs d → c.at ≤ j → j < c.at + c.size → d.at ≤ j → j < d.at + d.size → c ≡ d
same_place words at end [] c d j t k m c_low c_high d_low d_high = absurd k
same_place words at end (x ∷ xs) c d j t k m c_low c_high d_low d_high = elim k [
  | inl e ↦ elim m [
    | inl same ↦ sym e ∙ same
    | inr later ↦
        let s = stands words (x.at + x.size) end xs d t.1.1 later in
        let here : j < x.at + x.size = subst (λ (y : Chunk). j < y.at + y.size) (sym e) c_high in
        absurd (omega (arith, s.lies.after, d_low, here))
  ]
  | inr later ↦ elim m [
    | inl e ↦
        let s = stands words (x.at + x.size) end xs c t.1.1 later in
        let here : j < x.at + x.size = subst (λ (y : Chunk). j < y.at + y.size) (sym e) d_high in
        absurd (omega (arith, s.lies.after, c_low, here))
    | inr other ↦ same_place words (x.at + x.size) end xs c d j t.1.1 later other c_low c_high d_low d_high
  ]
]

pub no_runs : (words : List ℕ) → free_runs words [] ≡ []
unfolding free_runs
no_runs words = refl

-- a chunk that is free before and after stands as it did
module _ (words new : List ℕ) (d : Chunk) (chunk : IsChunk words d.at d) (was : IsFree words d.at d.size) (is : IsFree new d.at d.size) where
  before : IsWritten words d.at d.size
  before = free_is_written words d.at d.size was

  after : IsWritten new d.at d.size
  after = free_is_written new d.at d.size is

  shape_is : d ≡ written d.at d.size
  shape_is = chunk.is ∙ sym before.chunk.is

  start_is : d.start ≡ (written d.at d.size).start
  start_is = ap (λ (x : Chunk). x.start) shape_is

  same_header : get_or new d.start 0 ≡ get_or words d.start 0
  same_header = ap (λ s. get_or new s 0) start_is ∙ after.header ∙ sym before.header ∙ sym (ap (λ s. get_or words s 0) start_is)

  same_slots : slots_told (get_or new d.at 0) ≡ slots_told (get_or words d.at 0)
  unfolding chunk_of
  same_slots = ap (λ (x : Chunk). x.slots) (sym after.chunk.is ∙ before.chunk.is)

  pub free_kept : StandsAs words new d
  free_kept = record {
    keeps = record {
      leads_first = sym after.chunk.twice ∙ ap leads (after.header ∙ sym before.header) ∙ before.chunk.twice;
      slots = same_slots;
      leads_start = ap leads same_header;
    };
    header = same_header;
    cell = read-free heap_to new d (ap (λ s. class_of (get_or new s 0)) start_is ∙ after.class) ∙ sym (read-free heap_to words d (ap (λ s. class_of (get_or words s 0)) start_is ∙ before.class));
  }
