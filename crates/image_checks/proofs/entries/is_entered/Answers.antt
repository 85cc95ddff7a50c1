use Rattle.std.proofs.Common.{sym, ap, ◌∙◌}
use Rattle.spur_graph.specs.Cells.{Body}
use Rattle.spur_graph.specs.FileStores.{file_store}
use Rattle.heap_cells.proofs.References.{ordinary_there}
use Rattle.image_checks.proofs.Objects.{body_there}
use Rattle.image_checks.proofs.ClassEntries.{entered_by, entered_not}
use Rattle.image_checks.proofs.entries.is_entered.Goals as goal

pub returns-then-is_no_index : goal.returns-then-is_no_index
returns-then-is_no_index c =
    let h = file_store c.args.image.now.map.now c.args.words.now in
    let s = c.args.start in
    entered_not h s c.hash-hash.result c.requires.there
    (ap (λ (b : Body). b.hash) (body_there c.requires.paged.cut s (ordinary_there h s c.requires.there)) ∙ sym c.hash-hash.ensures.value) (sym c.is_no_index.ensures ∙ c.if-is_no_index.true)

pub returns : goal.returns
returns c =
    let h = file_store c.args.image.now.map.now c.args.words.now in
    let s = c.args.start in
    entered_by h s c.hash-hash.result c.has_entry.result c.requires.there
    (ap (λ (b : Body). b.hash) (body_there c.requires.paged.cut s (ordinary_there h s c.requires.there)) ∙ sym c.hash-hash.ensures.value) (sym c.is_no_index.ensures ∙ c.if-is_no_index.false) c.has_entry.ensures
