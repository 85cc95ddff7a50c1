use Rattle.planning_compactor.proofs.Slidings.{stands-is, room-is, slid-more}
use Rattle.planning_compactor.proofs.slides.slide_all.Goals as goal

pub slide_object-requires-clause-stands : goal.slide_object-requires-clause-stands
slide_object-requires-clause-stands c = stands-is c.args.table.now c.args.words.now c.objects.words c.objects.i c.requires c.objects.invariant c.objects-test.true

pub slide_object-requires-clause-room : goal.slide_object-requires-clause-room
slide_object-requires-clause-room c = room-is c.args.table.now c.args.words.now c.objects.words c.objects.i c.requires c.objects.invariant c.objects-test.true

pub objects-preserved : goal.objects-preserved
objects-preserved c =
    let v = c.slide_object.ensures in
    slid-more c.args.table.now c.args.words.now c.objects.words c.objects.i c.requires c.objects.invariant c.objects-test.true c.slide_object.new.words v.same_len v.moved v.below v.above
