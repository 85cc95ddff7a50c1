use Rattle.std.proofs.Common.{◌≡◌, ◌+◌, ◌-◌, arith, sym, ap, ◌∙◌, get_or}
use Rattle.heap_cells.specs.Settled.{settled_root}
use Rattle.image_settle.proofs.Slots.{count_fits, loose, in_roots, slots_written}
use Rattle.image_settle.proofs.Leading.{run_written}
use Rattle.image_settle.proofs.object.settle_any.Goals as goal

pub overflow_add-to : goal.overflow_add-to
overflow_add-to g c =
    let n = c.requires.1.1 in
    let k = count_fits n (λ e. c.if-class-eq-FREE_CLASS.false (c.class-class.ensures.value ∙ e)) (λ e. c.if-class-eq-FORWARDER_CLASS.false (c.class-class.ensures.value ∙ e)) c.pointer_slots.result c.pointer_slots.ensures in
    omega (arith, k, n.fits, c.requires.0.small, c.requires.1.0.names)

pub settle_slots-requires : goal.settle_slots-requires
settle_slots-requires g c =
    let n = c.requires.1.1 in
    let k = count_fits n (λ e. c.if-class-eq-FREE_CLASS.false (c.class-class.ensures.value ∙ e)) (λ e. c.if-class-eq-FORWARDER_CLASS.false (c.class-class.ensures.value ∙ e)) c.pointer_slots.result c.pointer_slots.ensures in (
      c.requires.0,
      (
        c.requires.1.0,
        (
          omega arith,
          (
            omega (arith, k, n.fits),
            λ j l m.
                loose n (λ e. c.if-class-eq-FREE_CLASS.false (c.class-class.ensures.value ∙ e)) (λ e. c.if-class-eq-FORWARDER_CLASS.false (c.class-class.ensures.value ∙ e)) j (omega arith) (omega (arith, k)),
          ),
        ),
      ),
    )

pub returns-then-span-image-clause-slots : goal.returns-then-span-image-clause-slots
returns-then-span-image-clause-slots g c j l m =
    let n = c.requires.1.1 in
    let i : j - (c.args.span.start + 1) ≡ j - c.args.span.start - 1 = omega arith in
    c.settle_roots.ensures.named j (omega arith) m
    ∙ (ap (λ k. settled_root g.h k (get_or c.args.words.now j 0)) i
    ∙ sym (in_roots n (λ e. c.if-class-eq-FREE_CLASS.false (c.class-class.ensures.value ∙ e)) (λ e. c.if-class-eq-FORWARDER_CLASS.false (c.class-class.ensures.value ∙ e)) (c.if-span-image.true ∙ c.requires.0.maps.firsts.hidden_roots) (j - c.args.span.start - 1) (get_or c.args.words.now j 0)))

pub returns-then-span-image-2-clause-slots : goal.returns-then-span-image-2-clause-slots
returns-then-span-image-2-clause-slots g c =
    slots_written c.requires.1.1 (λ e. c.if-class-eq-FREE_CLASS.false (c.class-class.ensures.value ∙ e)) (λ e. c.if-class-eq-FORWARDER_CLASS.false (c.class-class.ensures.value ∙ e))
    (λ e. c.if-span-image.false (e ∙ sym c.requires.0.maps.firsts.hidden_roots)) (λ e. c.if-span-image-2.true (e ∙ sym c.requires.0.maps.firsts.free_lists))
    c.pointer_slots.result c.pointer_slots.ensures c.settle_slots.new.words c.settle_slots.ensures.followed c.settle_slots.ensures.behind

pub returns-then-span-image-2-clause-behind : goal.returns-then-span-image-2-clause-behind
returns-then-span-image-2-clause-behind g c j l =
    let n = c.requires.1.1 in
    let k = count_fits n (λ e. c.if-class-eq-FREE_CLASS.false (c.class-class.ensures.value ∙ e)) (λ e. c.if-class-eq-FORWARDER_CLASS.false (c.class-class.ensures.value ∙ e)) c.pointer_slots.result c.pointer_slots.ensures in
    c.settle_slots.ensures.behind j (omega (arith, k))

pub returns-then-span-image-clause-leads : goal.returns-then-span-image-clause-leads
returns-then-span-image-clause-leads g c =
    run_written g.h c.args.words.now c.requires.1.0 c.settle_roots.new.words (c.args.span.start + 1) (c.args.span.start + 1 + c.args.span.slots) c.settle_roots.ensures.same_len
    (λ j l m. loose c.requires.1.1 (λ e. c.if-class-eq-FREE_CLASS.false (c.class-class.ensures.value ∙ e)) (λ e. c.if-class-eq-FORWARDER_CLASS.false (c.class-class.ensures.value ∙ e)) j (omega arith) m) c.settle_roots.ensures.before c.settle_roots.ensures.behind
