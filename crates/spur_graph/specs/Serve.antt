-- How a need of words is served, as a function of the room.
use Rattle.std.specs.Prelude.{ℕ, ◌-◌, Bool, true, false, if◌then◌else◌, ◌&&◌, nat_le, Option, Some}
use Rattle.std.specs.Option.{option_map}
use Rattle.std.specs.List.{find}
use Rattle.spur_graph.specs.declared.answer.Full.{Full}
use Rattle.spur_graph.specs.FreeSizes.{fits, largest, shortened}
use Rattle.spur_graph.specs.Room.{Room, Space, Old, Eden}

-- where words are asked for: in eden and else in old space, or in old space alone
pub data Source : Type 0 where
  Anywhere : Source
  OldAlone : Source

abbrev pub asks_eden : Source → Bool
asks_eden Anywhere = true
asks_eden OldAlone = false

-- the space that served a need, and the room without the words taken
pub record Served : Type 0 where
  pub space : Space
  pub room : Room

-- by the least free chunk that serves, at its low end
abbrev pub serve_old : Room → ℕ → Option Served
serve_old room n = option_map (λ size. record { space = Old; room = record room { free = shortened n size room.free } }) (find (fits n) room.free)

-- a need of `n` words is served by eden where it has as many left, else by old space
unfoldable pub serve : Source → Room → ℕ → Option Served
serve source room n =
    if asks_eden source && nat_le n room.eden_left
    then Some (record { space = Eden; room = record room { eden_left = room.eden_left - n } })
    else serve_old room n

-- what a need that nothing serves is told: the words of the largest free chunk, and those left in eden where it was asked
unfoldable pub full_of : Source → Room → ℕ → Full
full_of source room n = record { need = n; largest = largest room.free; eden = if asks_eden source then room.eden_left else 0 }
