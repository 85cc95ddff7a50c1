use Rattle.std.proofs.Common.{◌≡◌, ◌+◌, ◌<◌, ap, sym, ◌∙◌, subst, arith, length, get_or}
use Rattle.spur_graph.specs.Heaps.{View, IsWhole, heap_value}
use Rattle.spur_heap.specs.Views.{IsGood}
use Rattle.spur_heap.proofs.Puts.{pointer_inside, pointer_value, pointer_good}
use Rattle.spur_heap.proofs.heap.Heap.pointer.Goals as goal

pub get-requires : goal.get-requires
get-requires c =
    let whole : IsWhole c.args.self.now = subst (λ (v : View). IsWhole v) c.self.view_is c.self.invariant.whole in
    subst (λ (v : View). c.args.start + 1 + c.args.i < length v.words) (sym c.self.view_is) (pointer_inside c.args.self.now whole c.args.start c.requires.there c.args.i c.requires.within)

pub overflow_add-start : goal.overflow_add-start
overflow_add-start c =
    let whole : IsWhole c.args.self.now = subst (λ (v : View). IsWhole v) c.self.view_is c.self.invariant.whole in
    let far = pointer_inside c.args.self.now whole c.args.start c.requires.there c.args.i c.requires.within in
    let few = whole.few in
    omega (arith, far, few)

pub overflow_add-start-2 : goal.overflow_add-start-2
overflow_add-start-2 c =
    let whole : IsWhole c.args.self.now = subst (λ (v : View). IsWhole v) c.self.view_is c.self.invariant.whole in
    let far = pointer_inside c.args.self.now whole c.args.start c.requires.there c.args.i c.requires.within in
    let few = whole.few in
    omega (arith, far, few)

pub returns-clause-value : goal.returns-clause-value
returns-clause-value c =
    let whole : IsWhole c.args.self.now = subst (λ (v : View). IsWhole v) c.self.view_is c.self.invariant.whole in
    let word : c.get.result ≡ get_or c.args.self.now.words (c.args.start + 1 + c.args.i) 0 = c.get.ensures ∙ ap (λ (v : View). get_or v.words (c.args.start + 1 + c.args.i) 0) c.self.view_is in
    ap (heap_value c.args.self.now) word ∙ pointer_value c.args.self.now whole c.args.start c.requires.there c.args.i c.requires.within (heap_value c.args.self.now 0)

pub returns-clause-good : goal.returns-clause-good
returns-clause-good c =
    let whole : IsWhole c.args.self.now = subst (λ (v : View). IsWhole v) c.self.view_is c.self.invariant.whole in
    let word : c.get.result ≡ get_or c.args.self.now.words (c.args.start + 1 + c.args.i) 0 = c.get.ensures ∙ ap (λ (v : View). get_or v.words (c.args.start + 1 + c.args.i) 0) c.self.view_is in
    subst (λ w. IsGood c.args.self.now w) (sym word) (pointer_good c.args.self.now whole c.args.start c.requires.there c.args.i c.requires.within)
