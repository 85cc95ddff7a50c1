use Rattle.std.proofs.Common.{◌≡◌, not, sym, ap, ◌∙◌, subst}
use Rattle.spur_graph.specs.Cells.{first}
use Rattle.spur_graph.specs.Heaps.{View, IsWhole, store_of}
use Rattle.spur_heap.proofs.Puts.{whole_sound}
use Rattle.marker.proofs.PageStarts.{is_page_start, lists_told, roots_told, others_told}
use Rattle.marker.proofs.inner.is_ordinary.Goals as goal

pub returns-then-start-first_start : goal.returns-then-start-first_start
returns-then-start-first_start c =
    let v = c.args.heap.now in
    let whole : IsWhole v = subst (λ (u : View). IsWhole u) c.heap.view_is c.heap.invariant.whole in
    let lists : c.first_start.result ≡ first (store_of v) 3 = c.first_start.ensures.start ∙ ap (λ (u : View). first (store_of u) 3) c.heap.view_is in
    sym (lists_told v (whole_sound v whole) c.args.start c.requires.there (c.if-start-first_start.true ∙ lists))

pub returns-then-start-first_start-2 : goal.returns-then-start-first_start-2
returns-then-start-first_start-2 c =
    let v = c.args.heap.now in
    let whole : IsWhole v = subst (λ (u : View). IsWhole u) c.heap.view_is c.heap.invariant.whole in
    let lists : c.first_start.result ≡ first (store_of v) 3 = c.first_start.ensures.start ∙ ap (λ (u : View). first (store_of u) 3) c.heap.view_is in
    let roots : c.first_start-2.result ≡ first (store_of v) 4 = c.first_start-2.ensures.start ∙ ap (λ (u : View). first (store_of u) 4) c.heap.view_is in
    sym (roots_told v (whole_sound v whole) c.args.start c.requires.there (λ e. c.if-start-first_start.false (e ∙ sym lists)) (c.if-start-first_start-2.true ∙ roots))

pub returns : goal.returns
returns c =
    let v = c.args.heap.now in
    let whole : IsWhole v = subst (λ (u : View). IsWhole u) c.heap.view_is c.heap.invariant.whole in
    let lists : c.first_start.result ≡ first (store_of v) 3 = c.first_start.ensures.start ∙ ap (λ (u : View). first (store_of u) 3) c.heap.view_is in
    let roots : c.first_start-2.result ≡ first (store_of v) 4 = c.first_start-2.ensures.start ∙ ap (λ (u : View). first (store_of u) 4) c.heap.view_is in
    let page : c.is_page.result ≡ is_page_start v c.args.start = c.is_page.ensures ∙ ap (λ (u : View). is_page_start u c.args.start) c.heap.view_is in
    ap not page ∙ sym (others_told v (whole_sound v whole) c.args.start c.requires.there (λ e. c.if-start-first_start.false (e ∙ sym lists)) (λ e. c.if-start-first_start-2.false (e ∙ sym roots)))
