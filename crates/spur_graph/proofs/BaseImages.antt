-- The base image, as its definitions compute.
use Rattle.std.proofs.Common.{◌≡◌, ℕ, List, [], ◌∷◌, refl, Some, None}
use Rattle.std.specs.Prelude.{length, map, take}
use Rattle.object_header.specs.Field.{field_of}
use Rattle.spur_graph.specs.Bytes.{words_in}
use Rattle.spur_graph.specs.ImageFile.{format, header_size, heap_bytes, base, special_word, last_hash, first_segment}
use Rattle.spur_graph.specs.Segments.{Segment, segments, segment, chain, all_words, word_in, address_in, offset_in}
use Rattle.object_header.specs.Chunks.{Chunk, chunks, chunks_from, chunk_of}
use Rattle.spur_graph.specs.Cells.{There, cell_in, read_cell}
use Rattle.spur_graph.specs.BaseImage.{base_image, base_header, base_words, base_word, nil}

whole : length base_image ≡ 50416
unfolding base_image base_header base_words base_word
whole = refl

numbers : (format base_image ∷ header_size base_image ∷ heap_bytes base_image ∷ base base_image ∷ special_word base_image ∷ last_hash base_image ∷ first_segment base_image ∷ [])
    ≡ 68021 ∷ 128 ∷ 50288 ∷ 1048576 ∷ 1098760 ∷ 1 ∷ 50288 ∷ []
unfolding base_image base_header base_words base_word
numbers = refl

-- the one segment of the file
abbrev one : List Segment
one = record { at = 128; size = 50288; address = 1048576 } ∷ []

one_segment : segments base_image ≡ one
unfolding segments chain segment field_of base_image base_header base_words base_word
one_segment = refl

-- the words of the objects, without the bridge
abbrev objects : List ℕ
objects = take 6284 base_words

words : all_words base_image ≡ objects
unfolding all_words segments chain segment field_of words_in base_image base_header base_words base_word
words = refl

nineteen : map (λ (c : Chunk). c.start) (chunks objects) ≡ 0 ∷ 2 ∷ 4 ∷ 6 ∷ 72 ∷ 4178 ∷ 5204 ∷ 6229 ∷ 6233 ∷ 6237 ∷ 6241 ∷ 6245 ∷ 6249 ∷ 6253 ∷ 6257 ∷ 6261 ∷ 6265 ∷ 6269 ∷ 6273 ∷ []
unfolding chunks chunks_from chunk_of field_of base_words base_word
nineteen = refl

-- the sizes of the first seven: an overflow word is a word of its chunk
sizes : map (λ (c : Chunk). c.size) (take 7 (chunks objects)) ≡ 2 ∷ 2 ∷ 2 ∷ 65 ∷ 4106 ∷ 1026 ∷ 1026 ∷ []
unfolding chunks chunks_from chunk_of field_of base_words base_word
sizes = refl

-- the words that addresses name: nil, the class of arrays, the special objects array, and none between words or in the bridge
named : (word_in one 0 1048576 ∷ word_in one 0 1098568 ∷ word_in one 0 1098760 ∷ word_in one 0 1098761 ∷ word_in one 0 1098848 ∷ []) ≡ Some 0 ∷ Some 6249 ∷ Some 6273 ∷ None ∷ None ∷ []
unfolding word_in
named = refl

addressed : (address_in one 0 ∷ address_in one 6249 ∷ []) ≡ 1048576 ∷ 1098568 ∷ []
unfolding address_in
addressed = refl

-- the header of the class of arrays, and the end of the last segment's objects
placed : (offset_in one 6249 ∷ offset_in one 6284 ∷ []) ≡ 50120 ∷ 50400 ∷ []
unfolding offset_in
placed = refl

-- the class of arrays: two slots are nil, the third is the SmallInteger 131072
array_class : cell_in (word_in one 0) objects (chunks objects) 6249 ≡ There (record { class = 32; hash = 51; format = 1; pinned = 0; readonly = 0; words = nil ∷ nil ∷ 1048577 ∷ [] })
unfolding cell_in read_cell chunks chunks_from chunk_of field_of word_in base_words base_word
array_class = refl

-- header words as they stand in a file, the low byte first: 20 00 00 01 33 00 00 03, and 33 00 00 02 00 00 00 0a
array_header : map (λ i. base_word i) (6249 ∷ 6273 ∷ []) ≡ 0x0300003301000020 ∷ 0x0a00000002000033 ∷ []
unfolding base_word
array_header = refl
