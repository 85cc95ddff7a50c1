use Rattle.std.proofs.Common.{◌≤◌, length, get_or, sym, ap, ◌∙◌, arith, inl, inr}
use Rattle.std.proofs.lemmas.Bool.{cases_eq}
use Rattle.std.proofs.lemmas.Option.{cond_some}
use Rattle.spur_graph.specs.Ordinary.{is_good_word}
use Rattle.heap_cells.specs.Settled.{settled_word}
use Rattle.image_settle.proofs.Leading.{loose_written}
use Rattle.image_settle.proofs.Mapped.{next_mapped}
use Rattle.image_settle.proofs.object.settle_values.Goals as goal

pub values-preserved : goal.values-preserved
values-preserved g c =
    let i = c.values.invariant in
    let j = c.values.j in
    let within : c.args.to ≤ length c.args.words.now = c.requires.1.1.1.0 in
    let w = get_or c.values.words j 0 in
    let v = cond_some (is_good_word g.h w) (settled_word g.h w) c.in-Some.value (sym c.value_word.ensures ∙ c.in-Some.is) in
    record {
      leads = loose_written g.h c.values.words i.leads j c.in-Some.value (c.requires.1.1.1.1 j (omega arith) c.values-test.true);
      mapped = next_mapped (λ k w. settled_word g.h w) c.args.words.now c.values.words c.args.from j c.in-Some.value i.mapped (omega arith) (omega arith) (sym v.1);
      good = λ k a b. elim (cases_eq k j) [
        | inl is ↦ ap (λ m. is_good_word g.h (get_or c.args.words.now m 0)) is ∙ ap (is_good_word g.h) (sym (i.mapped.behind j (omega arith))) ∙ v.0
        | inr ne ↦ i.good k a (omega (arith, b, ne))
      ];
    }
