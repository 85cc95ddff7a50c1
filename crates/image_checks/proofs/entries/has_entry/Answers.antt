use Rattle.std.proofs.Common.{◌/◌, ◌<◌, Some, None, arith}
use Rattle.spur_graph.specs.Ordinary.{page_entries, page_places}
use Rattle.image_checks.proofs.ClassEntries.{page_here, entry_leads}
use Rattle.image_checks.proofs.entries.has_entry.Goals as goal

pub returns-in-Some-ordinary_start : goal.returns-in-Some-ordinary_start
returns-in-Some-ordinary_start c =
    let k = c.requires.paged.cut in
    let i = c.args.index in
    let low : i / page_entries < page_places = omega (arith, c.requires.low) in
    entry_leads k i c.in-Some.page c.args.start (Some c.in-Some-ordinary_start.entry) (page_here k (i / page_entries) c.in-Some.page c.requires.paged.pages low c.in-Some.ensures.page) c.requires.low c.requires.there
    c.in-Some-ordinary_start.ensures.value

pub returns-in-None : goal.returns-in-None
returns-in-None c =
    let k = c.requires.paged.cut in
    let i = c.args.index in
    let low : i / page_entries < page_places = omega (arith, c.requires.low) in
    entry_leads k i c.in-Some.page c.args.start None (page_here k (i / page_entries) c.in-Some.page c.requires.paged.pages low c.in-Some.ensures.page) c.requires.low c.requires.there c.in-None.ensures.value
