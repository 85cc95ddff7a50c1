use Rattle.std.proofs.Common.{◌-◌, length, sym, ◌∙◌, arith}
use Rattle.spur_graph.specs.FileStores.{file_store}
use Rattle.image_load.proofs.Inside.{lost_inside}
use Rattle.image_load.proofs.Telling.{told_forwarder}
use Rattle.heap_cells.proofs.Ranges.{range-cuts}
use Rattle.image_load.proofs.Forwarding.{starts_marked, forwarded}
use Rattle.image_load.proofs.checks.check_forwarders.Goals as goal

pub offset-requires-clause-within : goal.offset-requires-clause-within
offset-requires-clause-within c = omega (arith, lost_inside c.requires.chunks.cut c.in-Err.at c.in-Err.ensures.least.is, c.requires.all)

pub returns-in-Ok-resolve_forwarders-clause-forwarded : goal.returns-in-Ok-resolve_forwarders-clause-forwarded
returns-in-Ok-resolve_forwarders-clause-forwarded c =
    let r = c.in-Ok-resolve_forwarders.ensures in
    forwarded c.args.map.now c.args.words.now c.resolve_forwarders.new.words c.args.roots.now c.mark_starts.new.starts c.requires.chunks r.resolved r.least r.cut r.starts (c.mark_starts.ensures.covers ∙ sym r.long) r.row r.long

pub returns-in-Err-clause-told : goal.returns-in-Err-clause-told
returns-in-Err-clause-told c =
    told_forwarder c.args.map.now c.args.words.now (file_store c.args.map.now c.args.words.now) c.in-Err.at c.offset.result c.offset.ensures c.in-Err.ensures.least

pub mark_starts-requires-clause-row : goal.mark_starts-requires-clause-row
mark_starts-requires-clause-row c =
    let words = c.args.words.now in
    (range-cuts words 0 (length words) (omega arith) c.requires.chunks.read (length words - 0) (omega arith) (omega arith)).row

pub resolve_forwarders-requires-clause-starts : goal.resolve_forwarders-requires-clause-starts
resolve_forwarders-requires-clause-starts c = starts_marked c.args.map.now c.args.words.now c.mark_starts.new.starts c.mark_starts.ensures.map
