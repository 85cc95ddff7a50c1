use Rattle.std.proofs.Common.{arith}
use Rattle.heap_walk.specs.Starts.{has_start}
use Rattle.heap_walk.proofs.Bits.{is_next, none_behind}
use Rattle.heap_walk.proofs.starts.StartMap.next_in_word.Goals as goal

pub returns-then-rest-eq0-clause-none : goal.returns-then-rest-eq0-clause-none
unfolding has_start
returns-then-rest-eq0-clause-none c = none_behind c.args.self.now.bits.items c.args.at c.index.result.now (omega arith) c.index.ensures c.if-rest-eq0.true

pub overflow_add-result : goal.overflow_add-result
overflow_add-result c =
    let next = is_next c.args.self.now.bits.items c.args.at c.index.result.now (omega arith) c.index.ensures (omega arith) c.if-rest-eq0.false in
    record { fits = omega (arith, next.within) }

pub returns-clause-found : goal.returns-clause-found
unfolding has_start
returns-clause-found c =
    let next = is_next c.args.self.now.bits.items c.args.at c.index.result.now (omega arith) c.index.ensures (omega arith) c.if-rest-eq0.false in
    (omega arith, next.one)

pub returns-clause-first : goal.returns-clause-first
unfolding has_start
returns-clause-first c = (is_next c.args.self.now.bits.items c.args.at c.index.result.now (omega arith) c.index.ensures (omega arith) c.if-rest-eq0.false).first
