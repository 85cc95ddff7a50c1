use Rattle.std.proofs.Common.{◌∙◌, sym}
use Rattle.spur_graph.specs.Heaps.{heap_room, heap_value}
use Rattle.lazy_become.proofs.Places.{held_refused, piece_refused, none_refused, exchanges_named, exchanges_if, writes_named, handed_on, can_move, can_exchange, one_stays, one_needs_none, alike_need_none, in_place, writes_in_place}
use Rattle.lazy_become.proofs.exchanging.exchange.Goals as goal

pub returns-in_err-may_exchange-clause-refusal : goal.returns-in_err-may_exchange-clause-refusal
returns-in_err-may_exchange-clause-refusal c =
    let v = c.args.heap.now in
    let a = c.in_ok-first.first in
    let b = c.in_ok-second.second in
    let x = heap_value v c.args.a in
    let y = heap_value v c.args.b in
    held_refused v a b x y c.in_ok-first.ensures.value c.in_ok-second.ensures.value c.in_err-may_exchange.field-0.0 c.in_err-may_exchange.ensures
    ∙ handed_on _ c.in_err-may_exchange.field-0.0 c.from_residual-in_err-may_exchange.ensures.1

pub returns-then-first-second-clause-refusal : goal.returns-then-first-second-clause-refusal
returns-then-first-second-clause-refusal c =
    let v = c.args.heap.now in
    let a = c.in_ok-first.first in
    let b = c.in_ok-second.second in
    let x = heap_value v c.args.a in
    let y = heap_value v c.args.b in
    none_refused v a b x y c.in_ok-first.ensures.value c.in_ok-second.ensures.value c.in_ok-may_exchange.ensures (one_needs_none (heap_room v) a b c.if-first-second.true)

pub returns-then-first-second-clause-exchanged : goal.returns-then-first-second-clause-exchanged
returns-then-first-second-clause-exchanged c =
    let v = c.args.heap.now in
    let a = c.in_ok-first.first in
    let b = c.in_ok-second.second in
    let x = heap_value v c.args.a in
    let y = heap_value v c.args.b in
    exchanges_named v a b x y c.in_ok-first.ensures.value c.in_ok-second.ensures.value v (one_stays v a b c.whole.ensures.whole c.if-first-second.true)

pub exchange_in_place-requires-clause-can : goal.exchange_in_place-requires-clause-can
exchange_in_place-requires-clause-can c =
    let v = c.args.heap.now in
    let a = c.in_ok-first.first in
    let b = c.in_ok-second.second in
    let x = heap_value v c.args.a in
    let y = heap_value v c.args.b in
    can_exchange v a b c.in_ok-may_exchange.ensures c.if-first-second.false c.in_ok-first.ensures.there c.in_ok-second.ensures.there (sym c.stays_in_place.ensures ∙ c.if-stays_in_place.true)

pub returns-then-stays_in_place-clause-refusal : goal.returns-then-stays_in_place-clause-refusal
returns-then-stays_in_place-clause-refusal c =
    let v = c.args.heap.now in
    let a = c.in_ok-first.first in
    let b = c.in_ok-second.second in
    let x = heap_value v c.args.a in
    let y = heap_value v c.args.b in
    none_refused v a b x y c.in_ok-first.ensures.value c.in_ok-second.ensures.value c.in_ok-may_exchange.ensures (alike_need_none (heap_room v) a b (sym c.stays_in_place.ensures ∙ c.if-stays_in_place.true))

pub returns-then-stays_in_place-clause-exchanged : goal.returns-then-stays_in_place-clause-exchanged
returns-then-stays_in_place-clause-exchanged c =
    let v = c.args.heap.now in
    let a = c.in_ok-first.first in
    let b = c.in_ok-second.second in
    let x = heap_value v c.args.a in
    let y = heap_value v c.args.b in
    let w = c.exchange_in_place.new.self in
    exchanges_named v a b x y c.in_ok-first.ensures.value c.in_ok-second.ensures.value w
    (in_place v w a b c.if-first-second.false c.whole-then-stays_in_place.ensures.whole (sym c.stays_in_place.ensures ∙ c.if-stays_in_place.true) c.exchange_in_place.ensures.graph c.exchange_in_place.ensures.room)

pub returns-then-stays_in_place-clause-words : goal.returns-then-stays_in_place-clause-words
returns-then-stays_in_place-clause-words c =
    let v = c.args.heap.now in
    let a = c.in_ok-first.first in
    let b = c.in_ok-second.second in
    let x = heap_value v c.args.a in
    let y = heap_value v c.args.b in
    let w = c.exchange_in_place.new.self in
    writes_named v a b x y c.in_ok-first.ensures.value c.in_ok-second.ensures.value w (writes_in_place v w a b c.if-first-second.false c.exchange_in_place.ensures.others)

pub exchange_out_of_place-requires-clause-can : goal.exchange_out_of_place-requires-clause-can
exchange_out_of_place-requires-clause-can c =
    let v = c.args.heap.now in
    let a = c.in_ok-first.first in
    let b = c.in_ok-second.second in
    let x = heap_value v c.args.a in
    let y = heap_value v c.args.b in
    can_move v a b c.in_ok-may_exchange.ensures c.if-first-second.false (sym c.stays_in_place.ensures ∙ c.if-stays_in_place.false)

pub returns-clause-refusal : goal.returns-clause-refusal
returns-clause-refusal c =
    let v = c.args.heap.now in
    let a = c.in_ok-first.first in
    let b = c.in_ok-second.second in
    let x = heap_value v c.args.a in
    let y = heap_value v c.args.b in
    piece_refused v a b x y c.in_ok-first.ensures.value c.in_ok-second.ensures.value c.in_ok-may_exchange.ensures ∙ c.exchange_out_of_place.ensures.refusal

pub returns-clause-exchanged : goal.returns-clause-exchanged
returns-clause-exchanged c =
    let v = c.args.heap.now in
    let a = c.in_ok-first.first in
    let b = c.in_ok-second.second in
    let x = heap_value v c.args.a in
    let y = heap_value v c.args.b in
    exchanges_if v a b x y c.in_ok-first.ensures.value c.in_ok-second.ensures.value c.exchange_out_of_place.new.heap c.exchange_out_of_place.result c.exchange_out_of_place.ensures.exchanged
