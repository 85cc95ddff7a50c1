use Rattle.std.proofs.Common.{◌+◌, subst}
use Rattle.spur_heap.specs.Fresh.{PutsObject}
use Rattle.spur_heap.proofs.pairs.put_pair.Goals as goal

pub returns : goal.returns
returns c = record {
  middle = c.put_object-start.new.parts;
  one = c.put_object-start.ensures;
  two = subst (λ n. PutsObject c.put_object-start.new.parts c.put_object-other.new.parts (c.args.at + n) 16 9 c.args.second 0 c.put_object-other.result) c.fresh_words.ensures c.put_object-other.ensures;
}
