use Rattle.std.proofs.Common.{◌≡◌, ℕ, List, [], ◌∷◌, refl, set, replicate, ap, ◌∙◌}
use Rattle.object_header.specs.Chunks.{Chunk, chunk_of, Cuts}
use Rattle.object_header.specs.Field.{field_of}
use Rattle.free_lists.proofs.tests.free_chunks_of_a_row_are_listed.Goals as goal

-- an object, two free chunks, of which the second has an overflow word, and a forwarder
abbrev written_words : List ℕ
written_words = set (set (set (set (set (replicate 13 0) 0 216173001173893152) 4 72057594037927936) 6 18374686479671623683) 7 18374686479671623680) 11 72057594155368456

row_of : (words : List ℕ) → words ≡ written_words → (cs : List Chunk) × Cuts words 0 13 cs
unfolding chunk_of field_of
row_of words e = rw e (
  chunk_of 0 216173001173893152 ∷ chunk_of 4 72057594037927936 ∷ chunk_of 6 18374686479671623683 ∷ chunk_of 11 72057594155368456 ∷ [],
  (
    record { is = refl; twice = refl },
    (record { is = refl; twice = refl }, (record { is = refl; twice = refl }, (record { is = refl; twice = refl }, refl))),
  ),
)

pub rebuild-requires-clause-row : goal.rebuild-requires-clause-row
rebuild-requires-clause-row g c =
    let first = c.put.ensures ∙ ap (λ ws. set ws 0 216173001173893152) c.in_ok-region.ensures.zeros in
    let second = c.put-2.ensures ∙ ap (λ ws. set ws 4 72057594037927936) first in
    let third = c.put-3.ensures ∙ ap (λ ws. set ws 6 18374686479671623683) second in
    let fourth = c.put-4.ensures ∙ ap (λ ws. set ws 7 18374686479671623680) third in
    row_of c.put-5.new.self (c.put-5.ensures ∙ ap (λ ws. set ws 11 72057594155368456) fourth)
