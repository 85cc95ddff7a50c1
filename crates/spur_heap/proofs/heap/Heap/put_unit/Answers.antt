use Rattle.std.proofs.Common.{◌≡◌, ◌<◌, ◌*◌, ◌^◌, ap, sym, ◌∙◌, subst, arith}
use Rattle.object_header.specs.Formats.{unit_bytes_of}
use Rattle.spur_graph.specs.Cells.{unit_count}
use Rattle.spur_graph.specs.Heaps.{View, IsWhole, heap_value, heap_graph, heap_room}
use Rattle.spur_heap.specs.Parts.{view_of}
use Rattle.spur_heap.specs.Sizes.{IsSize}
use Rattle.spur_heap.specs.Words.{body_in, unit_bytes_in, unit_place, unit_word}
use Rattle.spur_heap.specs.Views.{IsOrdinary, IsGood}
use Rattle.spur_heap.specs.Remembering.{after}
use Rattle.spur_heap.proofs.Tables.{parts_same}
use Rattle.spur_heap.proofs.Puts.{units_count, unit_size, fields_are, unit_seen, unit_whole, unit_tables, unit_noted, unit_graph, unit_room, unit_values, unit_goods, unit_ordinary}
use Rattle.spur_heap.proofs.heap.Heap.put_unit.Goals as goal

pub unit_place_of-at-requires-clause-within : goal.unit_place_of-at-requires-clause-within
unit_place_of-at-requires-clause-within c =
    let whole : IsWhole c.args.self.now = subst (λ (v : View). IsWhole v) c.self.view_is c.self.invariant.whole in
    subst (λ (v : View). c.args.i < unit_count (body_in v c.args.start)) (sym c.self.view_is) (omega (arith, c.requires.within, units_count c.args.self.now whole c.args.start c.requires.there))

pub with_unit-requires-clause-size : goal.with_unit-requires-clause-size
with_unit-requires-clause-size c =
    let whole : IsWhole c.args.self.now = subst (λ (v : View). IsWhole v) c.self.view_is c.self.invariant.whole in
    let bytes : c.unit_bytes-bytes.result ≡ unit_bytes_in c.args.self.now c.args.start = c.unit_bytes-bytes.ensures ∙ ap unit_bytes_of (c.format_of.ensures ∙ ap (λ (v : View). (body_in v c.args.start).format) c.self.view_is) in
    subst (λ n. IsSize n) (sym bytes) (unit_size c.args.self.now whole c.args.start c.requires.there c.args.i c.requires.within)

pub with_unit-requires-clause-fits : goal.with_unit-requires-clause-fits
with_unit-requires-clause-fits c =
    let whole : IsWhole c.args.self.now = subst (λ (v : View). IsWhole v) c.self.view_is c.self.invariant.whole in
    let bytes : c.unit_bytes-bytes.result ≡ unit_bytes_in c.args.self.now c.args.start = c.unit_bytes-bytes.ensures ∙ ap unit_bytes_of (c.format_of.ensures ∙ ap (λ (v : View). (body_in v c.args.start).format) c.self.view_is) in
    subst (λ n. c.args.value < 2 ^ (8 * n)) (sym (bytes ∙ ap unit_bytes_of (sym (fields_are c.args.self.now whole c.args.start c.requires.there).format))) c.requires.range

pub returns-clause-written : goal.returns-clause-written
returns-clause-written c =
    unit_seen (view_of c.self.inside.parts) c.args.self.now c.self.view_is c.args.start c.args.i c.args.value c.unit_place_of-at.result c.unit_bytes-bytes.result c.get-word.result c.with_unit.result c.put.new.self
    c.unit_place_of-at.ensures.place (c.unit_bytes-bytes.ensures ∙ ap unit_bytes_of c.format_of.ensures) c.get-word.ensures c.with_unit.ensures c.put.ensures

pub invariant_of-self : goal.invariant_of-self
invariant_of-self c =
    let v = c.args.self.now in
    let whole : IsWhole v = subst (λ (u : View). IsWhole u) c.self.view_is c.self.invariant.whole in
    let then : View = after v (unit_place v c.args.start c.args.i) (unit_word v c.args.start c.args.i c.args.value) in
    parts_same c.self.inside.parts c.self.invariant v then c.self.view_is c.put.new.self (returns-clause-written c) (unit_whole v whole c.args.start c.requires.there c.args.i c.requires.within c.args.value)
    (unit_tables v whole c.args.start c.requires.there c.args.i c.requires.within c.args.value)
    (unit_noted v whole c.args.start c.requires.there c.args.i c.requires.within c.args.value)

pub returns-clause-graph : goal.returns-clause-graph
returns-clause-graph c =
    let whole : IsWhole c.args.self.now = subst (λ (v : View). IsWhole v) c.self.view_is c.self.invariant.whole in
    ap heap_graph (returns-clause-written c) ∙ unit_graph c.args.self.now whole c.args.start c.requires.there c.args.i c.requires.within c.args.value c.requires.range

pub returns-clause-room : goal.returns-clause-room
returns-clause-room c =
    let whole : IsWhole c.args.self.now = subst (λ (v : View). IsWhole v) c.self.view_is c.self.invariant.whole in
    ap heap_room (returns-clause-written c) ∙ unit_room c.args.self.now whole c.args.start c.requires.there c.args.i c.requires.within c.args.value

pub returns-clause-values : goal.returns-clause-values
returns-clause-values c w =
    let whole : IsWhole c.args.self.now = subst (λ (v : View). IsWhole v) c.self.view_is c.self.invariant.whole in
    ap (λ (v : View). heap_value v w) (returns-clause-written c) ∙ unit_values c.args.self.now whole c.args.start c.requires.there c.args.i c.requires.within c.args.value w

pub returns-clause-goods : goal.returns-clause-goods
returns-clause-goods c w good =
    let whole : IsWhole c.args.self.now = subst (λ (v : View). IsWhole v) c.self.view_is c.self.invariant.whole in
    subst (λ (v : View). IsGood v w) (sym (returns-clause-written c)) (unit_goods c.args.self.now whole c.args.start c.requires.there c.args.i c.requires.within c.args.value w good)

pub returns-clause-ordinary : goal.returns-clause-ordinary
returns-clause-ordinary c t there =
    let whole : IsWhole c.args.self.now = subst (λ (v : View). IsWhole v) c.self.view_is c.self.invariant.whole in
    subst (λ (v : View). IsOrdinary v t) (sym (returns-clause-written c)) (unit_ordinary c.args.self.now whole c.args.start c.requires.there c.args.i c.requires.within c.args.value t there)
