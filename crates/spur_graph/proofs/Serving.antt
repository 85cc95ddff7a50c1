-- How needs of words are served, what instances are and which hashes are drawn, as the definitions compute.
use Rattle.std.proofs.Common.{◌≡◌, ℕ, List, [], ◌∷◌, refl, true, false, Some, None}
use Rattle.std.specs.Prelude.{pos}
use Rattle.spur_graph.specs.Room.{Room, no_room, Old, Eden, fresh_words}
use Rattle.spur_graph.specs.FreeSizes.{among, without, largest}
use Rattle.spur_graph.specs.Serve.{Served, Anywhere, OldAlone, serve, full_of}
use Rattle.spur_graph.specs.Instances.{is_layout, is_size, slots_for, format_for}
use Rattle.spur_graph.specs.Hashes.{drawn}

-- a room with three free chunks, and five words left in eden
abbrev room : Room
room = record no_room { free = 4 ∷ 8 ∷ 10 ∷ []; eden_left = 5 }

-- a chunk that has just the words goes
exact : serve OldAlone room 8 ≡ Some (record { space = Old; room = record room { free = 4 ∷ 10 ∷ [] } })
unfolding serve among without
exact = refl

-- of the others the least that leaves two words and more is cut
cut : serve OldAlone room 6 ≡ Some (record { space = Old; room = record room { free = 2 ∷ 4 ∷ 10 ∷ [] } })
unfolding serve among without
cut = refl

-- one that would leave one word serves nothing
one_left : serve OldAlone room 9 ≡ None
unfolding serve
one_left = refl

in_eden : serve Anywhere room 4 ≡ Some (record { space = Eden; room = record room { eden_left = 1 } })
unfolding serve
in_eden = refl

past_eden : serve Anywhere room 8 ≡ serve OldAlone room 8
unfolding serve
past_eden = refl

told : full_of Anywhere room 9 ≡ record { need = 9; largest = 10; eden = 5 }
unfolding full_of largest
told = refl

told_of_old : full_of OldAlone room 9 ≡ record { need = 9; largest = 10; eden = 0 }
unfolding full_of largest
told_of_old = refl

-- the words of fresh objects of 0, 1, 254 and 255 slots
no_slots : fresh_words 0 ≡ 2
no_slots = refl

one_slot : fresh_words 1 ≡ 2
one_slot = refl

short : fresh_words 254 ≡ 255
short = refl

long : fresh_words 255 ≡ 257
long = refl

-- three bytes stand in one slot, and five of its bytes are not used
bytes : slots_for (pos 1048576) 3 ≡ 1
bytes = refl

bytes_unused : format_for (pos 1048576) 3 ≡ 21
bytes_unused = refl

no_bytes : format_for (pos 1048576) 0 ≡ 16
no_bytes = refl

-- one fixed slot and two more
weak : slots_for (pos 262145) 2 ≡ 3
weak = refl

-- units and fixed slots are no layout
mixed : is_layout (pos 1048577) ≡ false
mixed = refl

-- an object of fixed slots alone has no size
sized : is_size (pos 65539) 1 ≡ false
sized = refl

first_draw : drawn 1 ≡ 991766
first_draw = refl

second_draw : drawn 1015568748 ≡ 1548833
second_draw = refl

-- 0 is no hash
draw_of_zero : drawn 634785765 ≡ 1
draw_of_zero = refl
