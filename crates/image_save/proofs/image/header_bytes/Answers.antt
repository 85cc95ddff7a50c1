use Rattle.spur_heap.specs.Parts.{view_of}
use Rattle.spur_heap.proofs.Hops.{reference_named}
use Rattle.image_save.proofs.Parts.{whole_sound}
use Rattle.image_save.proofs.image.header_bytes.Goals as goal

pub saved_value-requires-clause-value : goal.saved_value-requires-clause-value
saved_value-requires-clause-value c z = let v = view_of c.args.parts.now in (reference_named v (whole_sound v c.requires.whole) v.special c.requires.whole.special_there).starts
