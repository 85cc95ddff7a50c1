use Rattle.std.proofs.Common.{◌≡◌, ◌≢◌, ◌+◌, ◌/◌, ◌%◌, ◌<◌, ℕ, cond, ap, sym, ◌∙◌, get_or, arith}
use Rattle.spur_graph.specs.Cells.{first}
use Rattle.spur_graph.specs.Ordinary.{root_slot, entry}
use Rattle.spur_graph.specs.Heaps.{View, store_of}
use Rattle.heap_cells.specs.Settled.{settled_word, word_of}
use Rattle.spur_heap.specs.Words.{AreSound, is_good}
use Rattle.spur_heap.specs.Parts.{view_of}
use Rattle.spur_heap.proofs.Pages.{HasEntry, an_entry, no_page, past_pages}
use Rattle.spur_heap.proofs.classes.class_word.Goals as goal

-- the entry, where the word of the page is not nil's
there : (v : View) (k : AreSound v) (index nil page : ℕ) → index / 1024 < 4096 → nil ≡ word_of (first (store_of v) 0) → page ≡ root_slot (store_of v) (index / 1024) → page ≢ nil → HasEntry v index
there v k index nil page l is at n = an_entry v k index (omega (arith, l)) (λ e. n (at ∙ e ∙ sym is))

pub get-entry-requires : goal.get-entry-requires
get-entry-requires c =
    let h = there (view_of c.args.parts.now) c.requires.sound c.args.index c.first_word-nil.result c.root_word-page.result c.if-place-ge-PAGE_PLACES.false c.first_word-nil.ensures.word c.root_word-page.ensures c.if-page-nil.false in
    rw c.root_word-page.ensures h.inside

pub follow_word-requires-clause-good : goal.follow_word-requires-clause-good
follow_word-requires-clause-good c =
    let h = there (view_of c.args.parts.now) c.requires.sound c.args.index c.first_word-nil.result c.root_word-page.result c.if-place-ge-PAGE_PLACES.false c.first_word-nil.ensures.word c.root_word-page.ensures c.if-page-nil.false in
    ap (is_good (view_of c.args.parts.now)) (c.get-entry.ensures ∙ ap (λ n. get_or c.args.parts.now.region (n / 8 + 1 + c.args.index % 1024) 0) c.root_word-page.ensures ∙ sym h.word) ∙ h.good

pub returns-clause-class : goal.returns-clause-class
returns-clause-class c =
    let h = there (view_of c.args.parts.now) c.requires.sound c.args.index c.first_word-nil.result c.root_word-page.result c.if-place-ge-PAGE_PLACES.false c.first_word-nil.ensures.word c.root_word-page.ensures c.if-page-nil.false in
    let is = c.get-entry.ensures ∙ ap (λ n. get_or c.args.parts.now.region (n / 8 + 1 + c.args.index % 1024) 0) c.root_word-page.ensures ∙ sym h.word in
    c.follow_word.ensures.followed ∙ ap (settled_word (store_of (view_of c.args.parts.now))) is
    ∙ sym (ap (λ b. cond b (settled_word (store_of (view_of c.args.parts.now)) (entry (store_of (view_of c.args.parts.now)) c.args.index)) (word_of (first (store_of (view_of c.args.parts.now)) 0))) h.page)

pub returns-then-page-nil-clause-class : goal.returns-then-page-nil-clause-class
returns-then-page-nil-clause-class c =
    let v = view_of c.args.parts.now in
    let none = no_page v c.requires.sound c.args.index (sym c.root_word-page.ensures ∙ c.if-page-nil.true ∙ c.first_word-nil.ensures.word) in
    c.first_word-nil.ensures.word
    ∙ sym (ap (λ b. cond b (settled_word (store_of v) (entry (store_of v) c.args.index)) (word_of (first (store_of v) 0))) none)

pub returns-then-place-ge-PAGE_PLACES-clause-class : goal.returns-then-place-ge-PAGE_PLACES-clause-class
returns-then-place-ge-PAGE_PLACES-clause-class c =
    let v = view_of c.args.parts.now in
    let none = past_pages v c.requires.sound c.args.index c.if-place-ge-PAGE_PLACES.true in
    c.first_word-nil.ensures.word
    ∙ sym (ap (λ b. cond b (settled_word (store_of v) (entry (store_of v) c.args.index)) (word_of (first (store_of v) 0))) none)
