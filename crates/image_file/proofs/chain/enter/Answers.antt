use Rattle.std.proofs.Common.{◌-◌, ◌≤◌, length, arith, sym, ◌∙◌, ap, Ok}
use Rattle.spur_graph.specs.ImageFile.{header_bytes}
use Rattle.spur_graph.specs.Segments.{most_segments}
use Rattle.heap_segments.specs.Rising.{is_refused}
use Rattle.image_file.proofs.Links.{accepts, entered, leads_next, leads_end, ends_early}
use Rattle.image_file.proofs.chain.enter.Goals as goal

pub returns-in-Ok-Last-clause-last : goal.returns-in-Ok-Last-clause-last
returns-in-Ok-Last-clause-last g c file tells end_is long leads =
    let most : length c.args.map.now ≤ most_segments = omega (arith, c.len-number.ensures.len, c.len-number.ensures.most) in
    let low : header_bytes ≤ c.args.link.place = omega (arith, c.requires.ready.words) in
    let fits = accepts c.next_segment.result c.in-Ok.field-0 (is_refused c.args.map.now (c.args.end - c.args.link.place) c.args.link.size c.args.link.address) c.in-Ok.is c.next_segment.ensures.refused in
    let e = entered file c.args.map.now c.next_segment.new.self c.args.link c.args.end c.in_ok-first.first c.in_ok-first.second end_is leads fits c.requires.ready.place low c.in-Ok.ensures.entered
    (c.in_ok-first.ensures.first file tells) (c.in_ok-first.ensures.second file tells) in
    leads_end file c.args.map.now c.next_segment.new.self c.args.link c.args.end c.in_ok-first.first c.in_ok-first.second most e (sym c.after.ensures ∙ (c.in-Ok-Last.is ∙ ap Ok c.in-Ok-Last.field-0-is))

pub returns-in-Ok-Segment-clause-next : goal.returns-in-Ok-Segment-clause-next
returns-in-Ok-Segment-clause-next g c file tells end_is long leads =
    let most : length c.args.map.now ≤ most_segments = omega (arith, c.len-number.ensures.len, c.len-number.ensures.most) in
    let low : header_bytes ≤ c.args.link.place = omega (arith, c.requires.ready.words) in
    let fits = accepts c.next_segment.result c.in-Ok.field-0 (is_refused c.args.map.now (c.args.end - c.args.link.place) c.args.link.size c.args.link.address) c.in-Ok.is c.next_segment.ensures.refused in
    let e = entered file c.args.map.now c.next_segment.new.self c.args.link c.args.end c.in_ok-first.first c.in_ok-first.second end_is leads fits c.requires.ready.place low c.in-Ok.ensures.entered
    (c.in_ok-first.ensures.first file tells) (c.in_ok-first.ensures.second file tells) in
    leads_next file c.args.map.now c.next_segment.new.self c.args.link c.args.end c.in_ok-first.first c.in_ok-first.second c.in-Ok-Segment.address c.in-Ok-Segment.size most e
    (sym c.after.ensures ∙ (c.in-Ok-Segment.is ∙ ap Ok c.in-Ok-Segment.field-0-is))

pub returns-in-Err-clause-refused : goal.returns-in-Err-clause-refused
returns-in-Err-clause-refused g c file tells end_is long leads =
    let most : length c.args.map.now ≤ most_segments = omega (arith, c.len-number.ensures.len, c.len-number.ensures.most) in
    let low : header_bytes ≤ c.args.link.place = omega (arith, c.requires.ready.words) in
    let fits = accepts c.next_segment.result c.in-Ok.field-0 (is_refused c.args.map.now (c.args.end - c.args.link.place) c.args.link.size c.args.link.address) c.in-Ok.is c.next_segment.ensures.refused in
    let e = entered file c.args.map.now c.next_segment.new.self c.args.link c.args.end c.in_ok-first.first c.in_ok-first.second end_is leads fits c.requires.ready.place low c.in-Ok.ensures.entered
    (c.in_ok-first.ensures.first file tells) (c.in_ok-first.ensures.second file tells) in
    (length c.args.map.now, ends_early file c.args.map.now c.next_segment.new.self c.args.link c.args.end c.in_ok-first.first c.in_ok-first.second c.in-Err.field-0 most e (sym c.after.ensures ∙ c.in-Err.is))
