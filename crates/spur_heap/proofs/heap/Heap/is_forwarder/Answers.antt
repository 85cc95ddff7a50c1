use Rattle.std.proofs.Common.{◌≡◌, ◌<◌, ap, sym, ◌∙◌, subst, length, get_or}
use Rattle.object_header.specs.Fields.{fields_of}
use Rattle.spur_graph.specs.Heaps.{View, IsWhole}
use Rattle.spur_heap.proofs.Starting.{start_below, forwarder_is, object_is}
use Rattle.spur_heap.proofs.heap.Heap.is_forwarder.Goals as goal

pub get-requires : goal.get-requires
get-requires c =
    let whole : IsWhole c.args.self.now = subst (λ (v : View). IsWhole v) c.self.view_is c.self.invariant.whole in
    subst (λ (v : View). c.args.start < length v.words) (sym c.self.view_is) (start_below c.args.self.now whole c.args.start c.requires.there)

-- the class that was read
class_read : (c : goal.After-class) → c.class.result ≡ (fields_of (get_or c.args.self.now.words c.args.start 0)).class
class_read c = c.class.ensures.value ∙ ap (λ w. (fields_of w).class) (c.get.ensures ∙ ap (λ (v : View). get_or v.words c.args.start 0) c.self.view_is)

pub returns-clause-yes : goal.returns-clause-yes
returns-clause-yes c on object =
    let whole : IsWhole c.args.self.now = subst (λ (v : View). IsWhole v) c.self.view_is c.self.invariant.whole in
    forwarder_is c.args.self.now whole c.args.start c.requires.there c.class.result (class_read c) on object

pub returns-clause-no : goal.returns-clause-no
returns-clause-no c off =
    let whole : IsWhole c.args.self.now = subst (λ (v : View). IsWhole v) c.self.view_is c.self.invariant.whole in
    object_is c.args.self.now whole c.args.start c.requires.there c.class.result (class_read c) off
