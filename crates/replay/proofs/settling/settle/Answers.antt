use Rattle.std.proofs.Common.{◌∙◌, sym}
use Rattle.replay.proofs.Settled.{resettled}
use Rattle.replay.proofs.settling.settle.Goals as goal

pub returns-then-end-word : goal.returns-then-end-word
returns-then-end-word c =
    resettled c.args.heap.now c.bind-bound.new.self c.args.mutator c.args.name.now.bytes c.in-Some.word c.follow-end.result c.bind-bound.result (sym c.handle.ensures.word ∙ c.in-Some.is) c.follow-end.ensures.value
    c.bind-bound.ensures.bound (λ failed. (c.bind-bound.ensures.full.0 failed).0)
