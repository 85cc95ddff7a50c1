use Rattle.std.proofs.Common.{◌≡◌, ◌∙◌, sym, arith, Option, ℕ, None, Some, false, refl}
use Rattle.std.specs.Option.{is_some}
use Rattle.replay.proofs.Graphs.{no_room_left, room_left, room_held}
use Rattle.replay.proofs.handles.room_for.Goals.{else-handle_count-ge-MOST_HANDLES-via-then-handle_count-ge-MOST_HANDLES+else-is_none, else-handle_count-ge-MOST_HANDLES-via-else-handle_count-ge-MOST_HANDLES}
use Rattle.replay.proofs.handles.room_for.Goals as goal

none_of : (o : Option ℕ) → is_some o ≡ false → o ≡ None
none_of None is = refl
none_of (Some word) is = cc

pub returns-then-is_none : goal.returns-then-is_none
returns-then-is_none c =
    no_room_left c.args.heap.now c.args.mutator c.args.name.now.bytes (sym c.handle.ensures.word ∙ none_of c.handle.result c.if-is_none.ensures) (omega (arith, c.handle_count.ensures.count, c.if-handle_count-ge-MOST_HANDLES.true))

pub returns : goal.returns
returns c = elim c.else-handle_count-ge-MOST_HANDLES.branch [
  | else-handle_count-ge-MOST_HANDLES-via-then-handle_count-ge-MOST_HANDLES+else-is_none w ↦ room_held c.args.heap.now c.args.mutator c.args.name.now.bytes w.handle.result (sym w.handle.ensures.word) w.if-is_none.ensures
  | else-handle_count-ge-MOST_HANDLES-via-else-handle_count-ge-MOST_HANDLES w ↦ room_left c.args.heap.now c.args.mutator c.args.name.now.bytes (omega (arith, c.handle_count.ensures.count, w.if-handle_count-ge-MOST_HANDLES.false))
]
