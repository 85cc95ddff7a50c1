use Rattle.std.proofs.Common.{sym, ◌∙◌, subst, Option, ℕ}
use Rattle.spur_graph.specs.FileStores.{file_store}
use Rattle.image_checks.specs.Checked.{HasPage}
use Rattle.image_checks.proofs.ClassEntries.{page_found, page_end, no_page}
use Rattle.image_checks.proofs.entries.page_at.Goals as goal

pub returns-in_err-page-clause-page : goal.returns-in_err-page-clause-page
returns-in_err-page-clause-page c =
    let Page : Option ℕ → Type 0 = HasPage (file_store c.args.image.now.map.now c.args.words.now) c.args.place in
    subst Page (sym c.from_residual.ensures) (no_page c.requires.paged.cut c.args.place c.requires.paged.pages c.requires.within (sym c.named_at.ensures ∙ c.in_err-page.was))

pub returns-else-page-image-clause-room : goal.returns-else-page-image-clause-room
returns-else-page-image-clause-room c =
    let k = c.requires.paged.cut in
    page_end k c.args.place c.in_ok-page.page (page_found k c.args.place c.in_ok-page.page c.requires.paged.pages c.requires.within (sym c.named_at.ensures ∙ c.in_ok-page.was)
    (λ nil. c.if-page-image.false (nil ∙ sym c.requires.paged.maps.firsts.nil)))
