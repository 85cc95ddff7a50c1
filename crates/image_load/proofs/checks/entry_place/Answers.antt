use Rattle.std.proofs.Common.{◌+◌, ◌%◌, ap, arith}
use Rattle.spur_graph.specs.Ordinary.{page_entries}
use Rattle.image_checks.proofs.Objects.{roots_end}
use Rattle.image_load.proofs.Inside.{page_of_bad, entry_found}
use Rattle.image_load.proofs.checks.entry_place.Goals as goal

pub overflow_add-place : goal.overflow_add-place
overflow_add-place c = let end = roots_end c.requires.cut c.requires.first in omega (arith, end)

pub overflow_add-place-2 : goal.overflow_add-place-2
overflow_add-place-2 c =
    let end = roots_end c.requires.cut c.requires.first in
    let page = page_of_bad c.requires.cut c.args.index c.requires.pages c.requires.bad in
    omega (arith, end, page.low)

pub offset_bounds-words-place : goal.offset_bounds-words-place
offset_bounds-words-place c =
    let end = roots_end c.requires.cut c.requires.first in
    let page = page_of_bad c.requires.cut c.args.index c.requires.pages c.requires.bad in
    omega (arith, end, page.low)

pub bounds-words-place : goal.bounds-words-place
bounds-words-place c =
    let end = roots_end c.requires.cut c.requires.first in
    let page = page_of_bad c.requires.cut c.args.index c.requires.pages c.requires.bad in
    omega (arith, end, page.low)

pub overflow_add-result : goal.overflow_add-result
overflow_add-result c =
    let found = entry_found c.requires.cut c.args.roots.now c.args.index c.requires.first c.requires.pages c.requires.bad c.to_region.result c.unwrap_or-page.result c.to_region.ensures c.unwrap_or-page.ensures in
    omega (arith, found.1)

pub overflow_add-result-2 : goal.overflow_add-result-2
overflow_add-result-2 c =
    let found = entry_found c.requires.cut c.args.roots.now c.args.index c.requires.first c.requires.pages c.requires.bad c.to_region.result c.unwrap_or-page.result c.to_region.ensures c.unwrap_or-page.ensures in
    omega (arith, found.1)

pub returns-clause-place : goal.returns-clause-place
returns-clause-place c =
    let found = entry_found c.requires.cut c.args.roots.now c.args.index c.requires.first c.requires.pages c.requires.bad c.to_region.result c.unwrap_or-page.result c.to_region.ensures c.unwrap_or-page.ensures in
    ap (λ s. s + 1 + c.args.index % page_entries) found.0

pub returns-clause-within : goal.returns-clause-within
returns-clause-within c =
    let found = entry_found c.requires.cut c.args.roots.now c.args.index c.requires.first c.requires.pages c.requires.bad c.to_region.result c.unwrap_or-page.result c.to_region.ensures c.unwrap_or-page.ensures in
    omega (arith, found.1)
