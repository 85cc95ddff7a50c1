use Rattle.std.proofs.Common.{◌+◌, set, get_or, refl, sym, ◌∙◌, arith}
use Rattle.std.proofs.lemmas.List.{length-set}
use Rattle.image_checks.proofs.Resolving.{told_moved, moved-below, named-below, kept, unchanged, step-short, step-known, step-leads, step-done}
use Rattle.image_checks.proofs.chains.shorten.Goals as goal

pub steps-init : goal.steps-init
steps-init c = record {
  inside = moved-below c.args.map.now c.args.words.now c.args.starts.now c.requires.known c.args.s c.requires.moved;
  moved = c.requires.moved;
  short = unchanged c.args.map.now c.args.words.now c.args.starts.now c.requires.known;
  leads = refl;
  begun = λ z. refl;
  done = λ l. absurd (omega (arith, l));
}

pub returns-in-None-clause-shortened : goal.returns-in-None-clause-shortened
returns-in-None-clause-shortened c =
    let i = c.steps.invariant in
    step-short c.args.map.now c.args.starts.now c.args.words.now c.steps.words c.requires.known i.short c.args.s c.steps.at c.args.end i.moved i.leads c.requires.ends c.requires.end

pub returns-in-None-clause-here : goal.returns-in-None-clause-here
returns-in-None-clause-here c =
    let i = c.steps.invariant in
    step-done c.args.map.now c.args.starts.now c.args.words.now c.steps.words c.requires.known i.short c.args.s c.steps.at c.args.end i.moved i.leads c.requires.ends c.requires.end c.steps._step i.begun i.done

pub is_forwarder-requires-clause-inside : goal.is_forwarder-requires-clause-inside
is_forwarder-requires-clause-inside c =
    let i = c.steps.invariant in
    let k = kept c.args.map.now c.args.words.now c.args.starts.now c.requires.known c.steps.words i.short in
    omega (arith, named-below c.args.map.now c.steps.words c.args.starts.now k (get_or c.steps.words (c.steps.at + 1) 0) c.in-Some.next (sym c.to_region.ensures ∙ c.in-Some.is), length-set c.steps.words (c.steps.at + 1) c.args.end)

pub is_forwarder-requires-clause-covers : goal.is_forwarder-requires-clause-covers
is_forwarder-requires-clause-covers c =
    let i = c.steps.invariant in
    (step-known c.args.map.now c.args.starts.now c.args.words.now c.steps.words c.requires.known i.short c.args.s c.steps.at c.args.end i.moved i.leads c.requires.ends c.requires.end).covers

pub returns-then-not-is_forwarder-clause-shortened : goal.returns-then-not-is_forwarder-clause-shortened
returns-then-not-is_forwarder-clause-shortened c =
    let i = c.steps.invariant in
    step-short c.args.map.now c.args.starts.now c.args.words.now c.steps.words c.requires.known i.short c.args.s c.steps.at c.args.end i.moved i.leads c.requires.ends c.requires.end

pub returns-then-not-is_forwarder-clause-here : goal.returns-then-not-is_forwarder-clause-here
returns-then-not-is_forwarder-clause-here c =
    let i = c.steps.invariant in
    step-done c.args.map.now c.args.starts.now c.args.words.now c.steps.words c.requires.known i.short c.args.s c.steps.at c.args.end i.moved i.leads c.requires.ends c.requires.end c.steps._step i.begun i.done

pub steps-preserved : goal.steps-preserved
steps-preserved c =
    let i = c.steps.invariant in
    let new = set c.steps.words (c.steps.at + 1) c.args.end in
    let k = step-known c.args.map.now c.args.starts.now c.args.words.now c.steps.words c.requires.known i.short c.args.s c.steps.at c.args.end i.moved i.leads c.requires.ends c.requires.end in
    let on = told_moved c.args.map.now new c.args.starts.now k c.in-Some.next c.is_forwarder.result c.is_forwarder.ensures ∙ c.if-not-is_forwarder.false in
    record {
      inside = moved-below c.args.map.now new c.args.starts.now k c.in-Some.next on;
      moved = on;
      short = step-short c.args.map.now c.args.starts.now c.args.words.now c.steps.words c.requires.known i.short c.args.s c.steps.at c.args.end i.moved i.leads c.requires.ends c.requires.end;
      leads = step-leads c.args.map.now c.args.starts.now c.args.words.now c.steps.words c.requires.known i.short c.args.s c.steps.at c.args.end i.moved i.leads c.requires.ends c.requires.end c.in-Some.next (sym c.to_region.ensures ∙ c.in-Some.is);
      begun = λ z. absurd (omega (arith, z));
      done = λ l. step-done c.args.map.now c.args.starts.now c.args.words.now c.steps.words c.requires.known i.short c.args.s c.steps.at c.args.end i.moved i.leads c.requires.ends c.requires.end c.steps._step i.begun i.done;
    }

pub returns-clause-here : goal.returns-clause-here
returns-clause-here c =
    let i = c.steps.invariant in
    i.done (omega (arith, i.inside, i.short.long, c.steps-test.false))
