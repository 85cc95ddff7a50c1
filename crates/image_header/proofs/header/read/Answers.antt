use Rattle.std.proofs.Common.{sym, arith}
use Rattle.std.proofs.lemmas.List.{take_all}
use Rattle.image_header.proofs.header.read.Goals as goal

pub returns-clause-fields : goal.returns-clause-fields
returns-clause-fields c = record {
  format_is = c.number32-format.ensures;
  heap_is = c.number64.ensures;
  base_is = c.number64-base.ensures;
  special_is = c.number64-2.ensures;
  hash_is = c.number64-3.ensures;
  segment_is = c.number64-4.ensures;
  carried_is = sym (take_all 128 c.args.bytes.now (omega arith));
}
