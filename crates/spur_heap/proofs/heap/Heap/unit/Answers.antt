use Rattle.std.proofs.Common.{◌≡◌, ◌<◌, ◌*◌, ◌%◌, ap, sym, ◌∙◌, subst, arith, get_or}
use Rattle.object_header.specs.Field.{field_of}
use Rattle.object_header.specs.Formats.{unit_bytes_of}
use Rattle.spur_graph.specs.Cells.{unit_count}
use Rattle.spur_graph.specs.Heaps.{View, IsWhole}
use Rattle.spur_heap.specs.Sizes.{IsSize}
use Rattle.spur_heap.specs.Words.{body_in, unit_bytes_in, unit_place}
use Rattle.spur_heap.proofs.Puts.{units_count, unit_size, unit_read}
use Rattle.spur_heap.proofs.heap.Heap.unit.Goals as goal

pub unit_place_of-requires-clause-within : goal.unit_place_of-requires-clause-within
unit_place_of-requires-clause-within c =
    let whole : IsWhole c.args.self.now = subst (λ (v : View). IsWhole v) c.self.view_is c.self.invariant.whole in
    subst (λ (v : View). c.args.i < unit_count (body_in v c.args.start)) (sym c.self.view_is) (omega (arith, c.requires.within, units_count c.args.self.now whole c.args.start c.requires.there))

pub unit_of-requires-clause-size : goal.unit_of-requires-clause-size
unit_of-requires-clause-size c =
    let whole : IsWhole c.args.self.now = subst (λ (v : View). IsWhole v) c.self.view_is c.self.invariant.whole in
    let bytes : c.unit_bytes-bytes.result ≡ unit_bytes_in c.args.self.now c.args.start = c.unit_bytes-bytes.ensures ∙ ap unit_bytes_of (c.format_of.ensures ∙ ap (λ (v : View). (body_in v c.args.start).format) c.self.view_is) in
    subst (λ n. IsSize n) (sym bytes) (unit_size c.args.self.now whole c.args.start c.requires.there c.args.i c.requires.within)

pub returns : goal.returns
returns c =
    let whole : IsWhole c.args.self.now = subst (λ (v : View). IsWhole v) c.self.view_is c.self.invariant.whole in
    let bytes : c.unit_bytes-bytes.result ≡ unit_bytes_in c.args.self.now c.args.start = c.unit_bytes-bytes.ensures ∙ ap unit_bytes_of (c.format_of.ensures ∙ ap (λ (v : View). (body_in v c.args.start).format) c.self.view_is) in
    let place : c.unit_place_of.result ≡ unit_place c.args.self.now c.args.start c.args.i = c.unit_place_of.ensures.place ∙ ap (λ (v : View). unit_place v c.args.start c.args.i) c.self.view_is in
    let word : c.get-word.result ≡ get_or c.args.self.now.words (unit_place c.args.self.now c.args.start c.args.i) 0 = c.get-word.ensures ∙ (λ x. get_or (c.self.view_is x).words (place x) 0) in
    c.unit_of.ensures ∙ (λ x. field_of (8 * (c.args.i * bytes x % 8)) (8 * bytes x) (word x)) ∙ unit_read c.args.self.now whole c.args.start c.requires.there c.args.i c.requires.within
