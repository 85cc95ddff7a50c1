-- The room that a heap is made with.
use Rattle.std.specs.Prelude.{ℕ, ◌+◌, ◌*◌}
use Rattle.spur_graph.specs.declared.limits.Limits.{Limits}

-- old space, eden and two survivor spaces
abbrev pub room_of : ℕ → Limits → ℕ
room_of old_words limits = old_words + limits.eden + 2 * limits.survivor
