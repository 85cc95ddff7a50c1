use Rattle.std.proofs.Common.{◌≢◌, subst, sym, ◌∙◌, arith}
use Rattle.spur_graph.specs.Cells.{first}
use Rattle.spur_graph.specs.Heaps.{store_of}
use Rattle.spur_heap.specs.Parts.{view_of}
use Rattle.image_save.specs.Words.{IsValue}
use Rattle.image_save.proofs.Parts.{whole_sound}
use Rattle.image_save.proofs.Values.{counted_value}
use Rattle.image_save.proofs.words.saved_slot.Goals as goal

pub saved_value-requires-clause-value : goal.saved_value-requires-clause-value
saved_value-requires-clause-value c =
    let v = view_of c.args.parts.now in
    let other : c.args.start ≢ first (store_of v) 3 = λ e. c.if-start-places.false (e ∙ sym c.requires.places.lists_is) in
    subst (IsValue v) (sym c.get-word.ensures) (counted_value v (whole_sound v c.requires.whole) c.args.start c.args.k c.requires.there other (omega (arith, c.if-k-pointers.true, c.requires.pointers)))
