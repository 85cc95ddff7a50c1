-- The fields and slots of what stands in words of 64 bits.
use Rattle.std.proofs.Common.{ℕ, Bool, true, false, cond, ◌+◌, ◌^◌, ◌<◌, eqb, List, [], ◌∷◌, drop, get_or, arith, Option}
use Rattle.std.proofs.lemmas.List.Elements.{All-take, All-drop}
use Rattle.std.specs.List.{All}
use Rattle.object_header.specs.Fields.{fields_of}
use Rattle.object_header.proofs.Fields.{field_of-lt}
use Rattle.object_header.specs.Chunks.{Chunk, slots_of}
use Rattle.spur_graph.specs.Cells.{Body, Empty, Moved, There, body_of, no_body, body_from, read_cell, cell_in}
use Rattle.heap_cells.specs.Closing.{HasWidths}

nothing_wide : HasWidths no_body
nothing_wide = record { class_bits = omega arith; hash_bits = omega arith; format_bits = omega arith; word_bits = λ k d l. absurd (omega (arith, l)) }

either_wide : (a b : Bool) (t : ℕ) (x : Body) → HasWidths x → HasWidths (body_of (cond a Empty (cond b (Moved t) (There x))))
either_wide true b t x k = nothing_wide
either_wide false true t x k = nothing_wide
either_wide false false t x k = k

read_wide : (to : ℕ → Option ℕ) (words : List ℕ) (c : Chunk) → All (λ w. w < 2 ^ 64) words → HasWidths (body_of (read_cell to words c))
unfolding read_cell
read_wide to words c all =
    let header : ℕ = get_or words c.start 0 in
    either_wide _ _ _ (body_from (fields_of header) (slots_of words c)) (record {
      class_bits = field_of-lt header 0 22;
      hash_bits = field_of-lt header 32 22;
      format_bits = field_of-lt header 24 5;
      word_bits = All-take (λ w. w < 2 ^ 64) c.slots (drop (c.start + 1) words) (All-drop (λ w. w < 2 ^ 64) (c.start + 1) words all);
    })

pub widths_in : (to : ℕ → Option ℕ) (words : List ℕ) (cs : List Chunk) (s : ℕ) → All (λ w. w < 2 ^ 64) words → HasWidths (body_of (cell_in to words cs s))
unfolding cell_in
widths_in to words [] s all = nothing_wide
widths_in to words (c ∷ cs) s all = elim (eqb c.start s) as (λ b. HasWidths (body_of (cond b (read_cell to words c) (cell_in to words cs s)))) [
  | true ↦ read_wide to words c all
  | false ↦ widths_in to words cs s all
]
