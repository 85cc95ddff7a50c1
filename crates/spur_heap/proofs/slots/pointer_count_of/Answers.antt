use Rattle.std.proofs.Common.{◌+◌, List, ℕ, sym, ap, subst, ◌∙◌, arith, get_or}
use Rattle.object_header.specs.Chunks.{StandsAt, slots_at}
use Rattle.object_header.specs.Formats.{pointer_slots_of}
use Rattle.object_header.specs.Head.{format_of, literals_of}
use Rattle.spur_heap.specs.Parts.{view_of}
use Rattle.spur_heap.proofs.SlotCounts.{at_start, pointers_within, pointer_count_read}
use Rattle.spur_heap.proofs.slots.pointer_count_of.Goals as goal

pub pointers_of-requires : goal.pointers_of-requires
pointers_of-requires c = subst (λ (ws : List ℕ). StandsAt ws c.args.start) (sym c.as_slice.ensures) (at_start (view_of c.args.parts.now) c.requires.sound c.args.start c.requires.there)

pub returns-clause-count : goal.returns-clause-count
returns-clause-count c =
    c.pointers_of.ensures
    ∙ ap (λ (ws : List ℕ). pointer_slots_of (format_of (get_or ws c.args.start 0)) (slots_at ws c.args.start) (literals_of (get_or ws (c.args.start + 1) 0))) c.as_slice.ensures
    ∙ pointer_count_read (view_of c.args.parts.now) c.requires.sound c.args.start c.requires.there

pub returns-clause-fits : goal.returns-clause-fits
returns-clause-fits c = let is = returns-clause-count c in omega (arith, is, pointers_within (view_of c.args.parts.now) c.requires.sound c.args.start c.requires.there)
