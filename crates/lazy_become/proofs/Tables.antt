-- Heaps that differ in words and spaces alone.
use Rattle.std.proofs.Common.{◌≡◌, sym, ap, ◌∙◌}
use Rattle.spur_graph.specs.Heaps.{View}
use Rattle.lazy_become.specs.Writes.{KeepsTables}

-- heaps that differ so, and after them in words alone
pub tables_on : (v u w : View) → KeepsTables v u → w ≡ record u { words = w.words } → KeepsTables v w
tables_on v u w k e =
    e ∙ ap (λ (o : View). record o { words = w.words }) k
    ∙ (λ i. record v { words = w.words; spaces = sym (ap (λ (o : View). o.spaces) e) i })
