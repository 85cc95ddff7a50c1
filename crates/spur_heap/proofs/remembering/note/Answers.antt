use Rattle.std.proofs.Common.{◌≡◌, ℕ, false, List, get_or, nat_eq, sym, ap, ◌∙◌, arith}
use Rattle.object_header.specs.Fields.{fields_of}
use Rattle.spur_graph.specs.Heaps.{is_remembered}
use Rattle.spur_heap.specs.Parts.{view_of}
use Rattle.spur_heap.proofs.Hops.{start_at}
use Rattle.spur_heap.proofs.Noted.{not_there, has_place}
use Rattle.spur_heap.proofs.remembering.note.Goals as goal

pub get-requires : goal.get-requires
get-requires c = let low = (start_at (view_of c.args.parts.now) c.requires.can.sound c.args.start c.requires.can.there).below in omega (arith, low)

-- a header that was read has no bit
off : (words : List ℕ) (s word bit : ℕ) → word ≡ get_or words s 0 → bit ≡ (fields_of word).remembered → bit ≡ 0 → is_remembered words s ≡ false
off words s word bit read is zero = ap (λ n. nat_eq n 1) (ap (λ w. (fields_of w).remembered) (sym read) ∙ sym is ∙ zero)

pub add-requires-clause-below : goal.add-requires-clause-below
add-requires-clause-below c =
    let low = (start_at (view_of c.args.parts.now) c.requires.can.sound c.args.start c.requires.can.there).below in
    let few = c.requires.can.sound.few in
    omega (arith, low, few)

pub add-requires-clause-absent : goal.add-requires-clause-absent
add-requires-clause-absent c = not_there c.args.parts.now.remembered.starts c.args.start (c.requires.can.absent (off c.args.parts.now.region c.args.start c.get.result c.remembered.result c.get.ensures c.remembered.ensures.value c.if-remembered-eq0.true))

pub add-requires-clause-room : goal.add-requires-clause-room
add-requires-clause-room c = has_place c.args.parts.now c.args.start c.requires.can (c.requires.can.absent (off c.args.parts.now.region c.args.start c.get.result c.remembered.result c.get.ensures c.remembered.ensures.value c.if-remembered-eq0.true))
