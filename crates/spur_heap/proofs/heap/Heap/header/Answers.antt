use Rattle.std.proofs.Common.{◌≡◌, ◌<◌, ℕ, ap, sym, ◌∙◌, subst, arith, length, get_or}
use Rattle.object_header.specs.Chunks.{slots_from}
use Rattle.object_header.specs.Fields.{fields_of}
use Rattle.spur_graph.specs.Cells.{Body, body_from}
use Rattle.spur_graph.specs.Heaps.{View, IsWhole}
use Rattle.spur_heap.specs.Parts.{view_of}
use Rattle.spur_heap.specs.Views.{IsOrdinary, node_in}
use Rattle.spur_heap.proofs.Nodes.{HasFields}
use Rattle.spur_heap.proofs.Puts.{start_inside, fields_are, body_is}
use Rattle.spur_heap.proofs.heap.Heap.header.Goals as goal

pub get-requires : goal.get-requires
get-requires c =
    let whole : IsWhole c.args.self.now = subst (λ (v : View). IsWhole v) c.self.view_is c.self.invariant.whole in
    let low = start_inside c.args.self.now whole c.args.start c.requires.there in
    subst (λ (v : View). c.args.start < length v.words) (sym c.self.view_is) (omega (arith, low))

-- the fields of the word that was read are those of the node
read : (p v : View) → p ≡ v → IsWhole p → (s word : ℕ) → IsOrdinary v s → word ≡ get_or p.words s 0 → HasFields (node_in v s) (body_from (fields_of word) (slots_from v.words s))
read p v same whole s word there is =
    let now : IsWhole v = subst (λ (u : View). IsWhole u) same whole in
    let fields : HasFields (node_in v s) (body_from (fields_of (get_or v.words s 0)) (slots_from v.words s)) =
    subst (λ (b : Body). HasFields (node_in v s) b) (body_is v now s there) (fields_are v now s there) in
    let at : word ≡ get_or v.words s 0 = is ∙ ap (λ (u : View). get_or u.words s 0) same in
    subst (λ w. HasFields (node_in v s) (body_from (fields_of w) (slots_from v.words s))) (sym at) fields

pub returns-clause-class : goal.returns-clause-class
returns-clause-class c = sym (read (view_of c.self.inside.parts) c.args.self.now c.self.view_is c.self.invariant.whole c.args.start c.get.result c.requires.there c.get.ensures).class

pub returns-clause-hash : goal.returns-clause-hash
returns-clause-hash c = sym (read (view_of c.self.inside.parts) c.args.self.now c.self.view_is c.self.invariant.whole c.args.start c.get.result c.requires.there c.get.ensures).hash

pub returns-clause-format : goal.returns-clause-format
returns-clause-format c = sym (read (view_of c.self.inside.parts) c.args.self.now c.self.view_is c.self.invariant.whole c.args.start c.get.result c.requires.there c.get.ensures).format

pub returns-clause-pinned : goal.returns-clause-pinned
returns-clause-pinned c = sym (read (view_of c.self.inside.parts) c.args.self.now c.self.view_is c.self.invariant.whole c.args.start c.get.result c.requires.there c.get.ensures).pinned

pub returns-clause-readonly : goal.returns-clause-readonly
returns-clause-readonly c = sym (read (view_of c.self.inside.parts) c.args.self.now c.self.view_is c.self.invariant.whole c.args.start c.get.result c.requires.there c.get.ensures).readonly
