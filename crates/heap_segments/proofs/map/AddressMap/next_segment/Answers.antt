use Rattle.std.proofs.Common.{◌≡◌, ◌≤◌, ◌<◌, ◌+◌, ◌%◌, List, [], ◌∷◌, ◌++◌, length, ap, sym, subst, ◌∙◌, arith, length-append}
use Rattle.spur_graph.specs.ImageFile.{header_bytes}
use Rattle.spur_graph.specs.Segments.{bridge_bytes, greatest_end, total_words}
use Rattle.heap_segments.specs.declared.entry.Entry.{Entry}
use Rattle.heap_segments.specs.Rising.{IsAbove, end_address, end_place}
use Rattle.heap_segments.specs.Entries.{segment_of, segments_of, AreLaid}
use Rattle.heap_segments.proofs.Laid.{pushed, end_pushed, place_pushed, fits}
use Rattle.heap_segments.proofs.map.AddressMap.next_segment.Goals as goal

pub invariant_of-self : goal.invariant_of-self
invariant_of-self c =
    let es : List Entry = c.self.inside.entries.items in
    let e : Entry = record { at = c.behind-at.result.0; size = c.args.size; address = c.args.address; begin = c.behind-at.result.1 } in
    let place : e.at ≡ end_place header_bytes (segments_of es) = c.behind-at.ensures.place ∙ ap (λ (xs : List Entry). end_place header_bytes (segments_of xs)) c.as_slice.ensures.value in
    let words : e.begin ≡ total_words (segments_of es) = c.behind-at.ensures.words ∙ ap (λ (xs : List Entry). total_words (segments_of xs)) c.as_slice.ensures.value in
    let above : end_address 0 (segments_of es) ≤ c.args.address = omega (arith, ap (end_address 0) c.self.view_is, c.requires.above) in
    let parts : (c.args.size % 8 ≡ 0) × (bridge_bytes ≤ c.args.size) × (c.args.address + c.args.size ≤ greatest_end) = fits c.args.left c.args.size c.args.address (sym c.is_misfit.ensures ∙ c.if-is_misfit.false) in
    let is : IsAbove 0 (segment_of e) = record { above = omega arith; aligned = c.requires.aligned; whole = parts.0; some = parts.1; low = parts.2 } in
    let below : length es < 4096 = omega (arith, c.len.ensures, c.if-len-eq-MOST_SEGMENTS.false, c.self.invariant.0.few) in
    let laid : AreLaid (es ++ e ∷ []) = record { laid = pushed header_bytes 0 0 es e c.self.invariant.0.laid place (omega (arith, words)) above is; few = omega (arith, length-append es (e ∷ [])) } in
    (subst (λ (xs : List Entry). AreLaid xs) (sym c.push_reserved.ensures.items) laid, omega (arith, c.push_reserved.ensures.capacity, c.self.invariant.1))

pub returns-clause-end : goal.returns-clause-end
returns-clause-end c =
    let es : List Entry = c.self.inside.entries.items in
    let e : Entry = record { at = c.behind-at.result.0; size = c.args.size; address = c.args.address; begin = c.behind-at.result.1 } in
    ap (λ (xs : List Entry). end_address 0 (segments_of xs)) c.push_reserved.ensures.items ∙ end_pushed 0 es e

pub returns-clause-place : goal.returns-clause-place
returns-clause-place c =
    let es : List Entry = c.self.inside.entries.items in
    let e : Entry = record { at = c.behind-at.result.0; size = c.args.size; address = c.args.address; begin = c.behind-at.result.1 } in
    let old : e.at ≡ end_place header_bytes c.args.self.now =
    c.behind-at.ensures.place ∙ (ap (λ (xs : List Entry). end_place header_bytes (segments_of xs)) c.as_slice.ensures.value ∙ ap (end_place header_bytes) c.self.view_is) in
    ap (λ (xs : List Entry). end_place header_bytes (segments_of xs)) c.push_reserved.ensures.items ∙ (place_pushed header_bytes es e ∙ ap (λ n. n + c.args.size) old)
