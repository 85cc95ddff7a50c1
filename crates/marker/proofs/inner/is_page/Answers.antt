use Rattle.std.proofs.Common.{◌≡◌, ℕ, List, length, get_or, sym, ap, ◌∙◌, subst, arith}
use Rattle.object_header.specs.Chunks.{StandsAt, slots_at}
use Rattle.object_header.specs.Head.{format_of}
use Rattle.heap_cells.proofs.ObjectReads.{object-slots}
use Rattle.spur_heap.specs.Parts.{view_of}
use Rattle.spur_heap.specs.Words.{body_in}
use Rattle.spur_heap.proofs.Orders.{order}
use Rattle.spur_heap.proofs.SlotCounts.{at_start, format_read}
use Rattle.marker.proofs.PageStarts.{other_format, other_size}
use Rattle.marker.proofs.inner.is_page.Goals as goal

pub offset_bounds-words-start : goal.offset_bounds-words-start
offset_bounds-words-start c =
    let fits = (at_start (view_of c.args.parts.now) c.requires.sound c.args.start c.requires.there).fits in
    let few = c.requires.sound.few in
    omega (arith, fits, few)

pub bounds-words-start : goal.bounds-words-start
bounds-words-start c =
    let fits = (at_start (view_of c.args.parts.now) c.requires.sound c.args.start c.requires.there).fits in
    let long = ap (λ (ws : List ℕ). length ws) c.as_slice-words.ensures in
    omega (arith, fits, long)

pub returns-then-format-ne-PAGE_FORMAT : goal.returns-then-format-ne-PAGE_FORMAT
returns-then-format-ne-PAGE_FORMAT c =
    let v = view_of c.args.parts.now in
    let is : c.format.result ≡ (body_in v c.args.start).format = c.format.ensures.value ∙ ap (λ (ws : List ℕ). format_of (get_or ws c.args.start 0)) c.as_slice-words.ensures ∙ sym (format_read v c.requires.sound c.args.start c.requires.there) in
    sym (other_format v c.requires.sound c.args.start (λ e. c.if-format-ne-PAGE_FORMAT.true (is ∙ e)))

pub slots_of-requires : goal.slots_of-requires
slots_of-requires c = subst (λ (ws : List ℕ). StandsAt ws c.args.start) (sym c.as_slice-words.ensures) (at_start (view_of c.args.parts.now) c.requires.sound c.args.start c.requires.there)

pub returns-then-slots_of-ne-PAGE_ENTRIES : goal.returns-then-slots_of-ne-PAGE_ENTRIES
returns-then-slots_of-ne-PAGE_ENTRIES c =
    let v = view_of c.args.parts.now in
    let is : c.slots_of.result ≡ length (body_in v c.args.start).words =
    c.slots_of.ensures.value ∙ ap (λ (ws : List ℕ). slots_at ws c.args.start) c.as_slice-words.ensures ∙ sym (object-slots _ c.args.parts.now.region _ (order v c.requires.sound) c.args.start c.requires.there) in
    sym (other_size v c.requires.sound c.args.start (λ e. c.if-slots_of-ne-PAGE_ENTRIES.true (is ∙ e)))
