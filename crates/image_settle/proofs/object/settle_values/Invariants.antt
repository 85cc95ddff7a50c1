use Rattle.std.proofs.Common.{◌≡◌, ◌≤◌, ◌<◌, ℕ, true, get_or}
use Rattle.spur_graph.specs.Ordinary.{is_good_word}
use Rattle.heap_cells.specs.Settled.{settled_word}
use Rattle.image_words.specs.References.{Leads}
use Rattle.image_settle.proofs.Mapped.{Mapped}
use Rattle.image_settle.proofs.object.settle_values.Given as goal

abbrev pub ghost-value_word : goal.ghost-value_word
ghost-value_word g a = g.h

abbrev pub invariant-values : goal.invariant-values
invariant-values g l = record {
  leads : Leads g.h l.words;
  mapped : Mapped (λ k w. settled_word g.h w) l.fn.words l.words l.from l.j;
  good : (k : ℕ) → l.from ≤ k → k < l.j → is_good_word g.h (get_or l.fn.words k 0) ≡ true;
}
