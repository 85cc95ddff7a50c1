-- The words of an object: its header has a word behind it, and its chunk tells how many slots it has.
use Rattle.std.proofs.Common.{◌≡◌, ◌≢◌, ℕ, ◌+◌, ◌≤◌, length, List, sym, ap, ◌∙◌, subst, inl, inr, arith}
use Rattle.object_header.specs.Chunks.{Chunk, slots_at}
use Rattle.spur_graph.specs.Heaps.{View, IsWhole, store_of, chunks_of, heap_to}
use Rattle.heap_cells.proofs.Members.{In, listed}
use Rattle.heap_cells.proofs.References.{ordinary_there}
use Rattle.heap_cells.proofs.CellKinds.{there_starts}
use Rattle.heap_cells.proofs.Cutting.{stands, shape, start-in}
use Rattle.heap_cells.proofs.ObjectReads.{object-slots}
use Rattle.spur_heap.specs.Words.{body_in}
use Rattle.spur_heap.specs.Views.{IsOrdinary}
use Rattle.spur_heap.specs.Outside.{IsOutside}
use Rattle.spur_heap.proofs.Orders.{order}
use Rattle.spur_heap.proofs.Puts.{whole_sound}

-- the chunk of an object
record HasChunk (v : View) (s : ℕ) : Type 0 where
  chunk : Chunk
  among : In (chunks_of v) chunk
  start : chunk.start ≡ s
  lead : chunk.at ≤ s
  room : s + 2 ≤ chunk.at + chunk.size

has_chunk : (v : View) → IsWhole v → (s : ℕ) → IsOrdinary v s → HasChunk v s
has_chunk v whole s there =
    let cut = order v (whole_sound v whole) in
    let found = start-in heap_to v.words (chunks_of v) s (there_starts ((store_of v).cell s) (ordinary_there (store_of v) s there)) in
    let lies = (stands v.words 0 (length v.words) (chunks_of v) found.0 cut found.1).lies in
    record {
      chunk = found.0;
      among = found.1;
      start = found.2;
      lead = omega (arith, found.2, lies.lead);
      room = omega (arith, found.2, lies.room);
    }

-- what is outside an object is neither its header word nor the word behind
pub record IsApart (s j : ℕ) : Type 0 where
  pub header : j ≢ s
  pub behind : j ≢ s + 1

pub outside_apart : (v : View) → IsWhole v → (s j : ℕ) → IsOrdinary v s → IsOutside v s j → IsApart s j
outside_apart v whole s j there out =
    let k = has_chunk v whole s there in
    elim (out k.chunk (listed (chunks_of v) k.chunk k.among) k.start) [
      | inl before ↦ record { header = λ e. omega (arith, e, before, k.lead); behind = λ e. omega (arith, e, before, k.lead) }
      | inr after ↦ record { header = λ e. omega (arith, e, after, k.room); behind = λ e. omega (arith, e, after, k.room) }
    ]

-- the slots of an object, by a chunk that begins there
slots_told : (v : View) → IsWhole v → (s : ℕ) → IsOrdinary v s → (c : Chunk) → In (chunks_of v) c → c.start ≡ s → length (body_in v s).words ≡ c.slots
slots_told v whole s there c among start =
    let cut = order v (whole_sound v whole) in
    object-slots heap_to v.words (chunks_of v) cut s (ordinary_there (store_of v) s there)
    ∙ ap (slots_at v.words) (sym start)
    ∙ (shape v.words c (stands v.words 0 (length v.words) (chunks_of v) c cut among).chunk).slots

-- where the chunks are the same, so is the number of slots
pub slots_kept : (v u : View) → IsWhole v → IsWhole u → chunks_of u ≡ chunks_of v → (s : ℕ) → IsOrdinary v s → IsOrdinary u s → length (body_in u s).words ≡ length (body_in v s).words
slots_kept v u whole whole' same s there there' =
    let k = has_chunk v whole s there in
    slots_told u whole' s there' k.chunk (subst (λ (cs : List Chunk). In cs k.chunk) (sym same) k.among) k.start
    ∙ sym (slots_told v whole s there k.chunk k.among k.start)
