use Rattle.std.proofs.Common.{refl}
use Rattle.spur_heap.proofs.making.put_object.Goals as goal

pub returns : goal.returns
returns c = record {
  place = c.write_object-start.ensures.start;
  run = c.write_object-start.ensures.run;
  long = c.write_object-start.ensures.same_length;
  others = c.write_object-start.ensures.others;
  here = c.set.ensures.added;
  elsewhere = c.set.ensures.others;
  covers = c.set.ensures.covers;
  rest = refl;
}
