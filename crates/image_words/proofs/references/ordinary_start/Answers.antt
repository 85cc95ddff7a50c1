use Rattle.std.proofs.Common.{sym, ◌∙◌, arith}
use Rattle.image_words.proofs.Leading.{leads_good, leads_bad, leads_none, forwarder, leads_far, leads_here, leads_nowhere, lead-moved, target_fits}
use Rattle.image_words.proofs.references.ordinary_start.Goals as goal

pub returns-then-s-len-clause-value : goal.returns-then-s-len-clause-value
returns-then-s-len-clause-value g c =
    sym (leads_far c.requires.0 c.requires.1 c.args.word c.in_ok-s.s (sym c.to_region.ensures ∙ c.in_ok-s.was) (omega (arith, c.if-s-len.true, c.requires.0.covers.1)))

pub returns-then-has-clause-value : goal.returns-then-has-clause-value
returns-then-has-clause-value g c =
    let s = c.in_ok-s.s in
    sym (leads_here c.requires.0 c.requires.1 c.args.word s (sym c.to_region.ensures ∙ c.in_ok-s.was) (sym (c.requires.0.has_ordinary s) ∙ sym c.has.ensures ∙ c.if-has.true))

pub returns-then-not-is_forwarder-clause-value : goal.returns-then-not-is_forwarder-clause-value
returns-then-not-is_forwarder-clause-value g c =
    let s = c.in_ok-s.s in
    let still = forwarder c.requires.0 c.requires.1 s _ c.is_forwarder.ensures ∙ c.if-not-is_forwarder.true in
    sym (leads_nowhere c.requires.0 c.requires.1 c.args.word s (sym c.to_region.ensures ∙ c.in_ok-s.was) (sym (c.requires.0.has_ordinary s) ∙ sym c.has.ensures ∙ c.if-has.false) still)

pub returns-in_err-target-clause-value : goal.returns-in_err-target-clause-value
returns-in_err-target-clause-value g c =
    let moved = forwarder c.requires.0 c.requires.1 c.in_ok-s.s _ c.is_forwarder.ensures ∙ c.if-not-is_forwarder.false in
    let lead = lead-moved c.requires.0 c.requires.1 c.args.word c.in_ok-s.s (sym c.to_region.ensures ∙ c.in_ok-s.was) moved _ (sym c.to_region-2.ensures ∙ c.in_err-target.was) in
    c.from_residual-in_err-target.ensures ∙ sym (leads_none g.h c.args.word lead)

pub has-requires-2 : goal.has-requires-2
has-requires-2 g c =
    let moved = forwarder c.requires.0 c.requires.1 c.in_ok-s.s _ c.is_forwarder.ensures ∙ c.if-not-is_forwarder.false in
    omega (arith, target_fits c.requires.0 c.requires.1 c.in_ok-s.s c.in_ok-target.target moved (sym c.to_region-2.ensures ∙ c.in_ok-target.was), c.requires.0.covers.1)

pub returns-then-has-2-clause-value : goal.returns-then-has-2-clause-value
returns-then-has-2-clause-value g c =
    let t = c.in_ok-target.target in
    let moved = forwarder c.requires.0 c.requires.1 c.in_ok-s.s _ c.is_forwarder.ensures ∙ c.if-not-is_forwarder.false in
    let lead = lead-moved c.requires.0 c.requires.1 c.args.word c.in_ok-s.s (sym c.to_region.ensures ∙ c.in_ok-s.was) moved _ (sym c.to_region-2.ensures ∙ c.in_ok-target.was) in
    sym (leads_good g.h c.args.word t lead (sym (c.requires.0.has_ordinary t) ∙ sym c.has-2.ensures ∙ c.if-has-2.true))

pub returns-else-has-2-clause-value : goal.returns-else-has-2-clause-value
returns-else-has-2-clause-value g c =
    let t = c.in_ok-target.target in
    let moved = forwarder c.requires.0 c.requires.1 c.in_ok-s.s _ c.is_forwarder.ensures ∙ c.if-not-is_forwarder.false in
    let lead = lead-moved c.requires.0 c.requires.1 c.args.word c.in_ok-s.s (sym c.to_region.ensures ∙ c.in_ok-s.was) moved _ (sym c.to_region-2.ensures ∙ c.in_ok-target.was) in
    sym (leads_bad g.h c.args.word t lead (sym (c.requires.0.has_ordinary t) ∙ sym c.has-2.ensures ∙ c.if-has-2.false))
