use Rattle.std.proofs.Common.{◌/◌, ap}
use Rattle.spur_graph.specs.declared.answer.Refusal.TheVariants as refusals
use Rattle.spur_graph.specs.Value.{is_immediate}
use Rattle.spur_graph.specs.Refusals.{test}
use Rattle.spur_heap.proofs.Leads.{LeadsTo, tagged_value, untagged_leads}
use Rattle.spur_heap.proofs.heap.Heap.object.Goals as goal

pub returns-then-word-ne0-clause-refusal : goal.returns-then-word-ne0-clause-refusal
returns-then-word-ne0-clause-refusal c = ap (λ b. test b refusals.Immediate) (tagged_value c.args.self.now c.args.word c.requires.good c.if-word-ne0.true)

pub returns-clause-refusal : goal.returns-clause-refusal
returns-clause-refusal c =
    let l : LeadsTo c.args.self.now c.args.word (c.follow.result / 8) = untagged_leads c.args.self.now c.args.word c.follow.result c.requires.good c.if-word-ne0.false c.follow.ensures.followed in
    ap (λ x. test (is_immediate x) refusals.Immediate) l.value

pub returns-clause-there : goal.returns-clause-there
returns-clause-there c = (untagged_leads c.args.self.now c.args.word c.follow.result c.requires.good c.if-word-ne0.false c.follow.ensures.followed).ordinary

pub returns-clause-value : goal.returns-clause-value
returns-clause-value c = (untagged_leads c.args.self.now c.args.word c.follow.result c.requires.good c.if-word-ne0.false c.follow.ensures.followed).value
