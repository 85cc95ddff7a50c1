-- The graph and the room of the bytes of an image. Names are file addresses.
use Rattle.std.specs.Prelude.{ℕ, ◌+◌, ◌%◌, ◌^◌, ◌++◌, length}
use Rattle.std.specs.FinMap.{empty}
use Rattle.spur_graph.specs.declared.limits.Limits.{Limits}
use Rattle.spur_graph.specs.Bytes.{Text}
use Rattle.spur_graph.specs.ImageFile.{special_word, last_hash}
use Rattle.spur_graph.specs.Graph.{Graph}
use Rattle.spur_graph.specs.Room.{Room}
use Rattle.spur_graph.specs.Segments.{segments, all_words, address_in, greatest_end}
use Rattle.object_header.specs.Chunks.{chunks}
use Rattle.spur_graph.specs.CellGraph.{graph_of}
use Rattle.spur_graph.specs.CellRoom.{room_of, room_sizes, free_sizes}
use Rattle.spur_graph.specs.ImageCauses.{image_store}

-- the address of a word of the heap
abbrev pub file_name : Text → ℕ → ℕ
file_name bytes s = address_in (segments bytes) s

-- no object has this address
abbrev pub past_name : Text → ℕ
past_name bytes = greatest_end

-- the graph of the bytes, without handles and mourners
abbrev pub loaded_graph : Text → Graph
loaded_graph bytes = graph_of (file_name bytes) (image_store bytes) (special_word bytes) empty (last_hash bytes % 2 ^ 32) (past_name bytes)

-- the room of the bytes: every object stands in old space, and the limits' room is one more free chunk
abbrev pub loaded_room : Text → Limits → Room
loaded_room bytes limits =
    room_of (file_name bytes) (image_store bytes) (chunks (all_words bytes)) (length (all_words bytes) + limits.room) limits
    (free_sizes (image_store bytes) (chunks (all_words bytes)) ++ room_sizes limits.room)
