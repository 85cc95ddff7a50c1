use Rattle.image_words.specs.References.{Leads}
use Rattle.heap_cells.specs.Settled.{settled_word}
use Rattle.image_settle.proofs.Mapped.{Mapped}
use Rattle.image_settle.proofs.object.settle_slots.Given as goal

abbrev pub ghost-settled_word : goal.ghost-settled_word
ghost-settled_word g a = g.h

abbrev pub invariant-slots : goal.invariant-slots
invariant-slots g l = record {
  leads : Leads g.h l.words;
  mapped : Mapped (λ k w. settled_word g.h w) l.fn.words l.words l.from l.j;
}
