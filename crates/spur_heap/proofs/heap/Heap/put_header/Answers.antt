use Rattle.std.proofs.Common.{◌≡◌, ◌<◌, ℕ, List, length, set, ap, sym, ◌∙◌, subst}
use Rattle.spur_graph.specs.Ordinary.{is_ordinary}
use Rattle.spur_graph.specs.Heaps.{View, IsWhole, store_of, heap_value, heap_graph, heap_room}
use Rattle.spur_heap.specs.Parts.{view_of}
use Rattle.spur_heap.specs.Remembering.{after}
use Rattle.spur_heap.specs.Words.{is_good}
use Rattle.spur_heap.proofs.Tables.{parts_same}
use Rattle.spur_heap.proofs.Headed.{inside, headed_at, headed_whole, headed_tables, headed_noted, headed_ordinary, headed_good, headed_value, headed_graph, headed_room}
use Rattle.spur_heap.proofs.heap.Heap.put_header.Goals as goal

pub put-requires : goal.put-requires
put-requires c =
    let whole : IsWhole c.args.self.now = subst (λ (v : View). IsWhole v) c.self.view_is c.self.invariant.whole in
    subst (λ (v : View). c.args.start < length v.words) (sym c.self.view_is) (inside c.args.self.now whole c.args.start c.requires.there c.args.header.0 c.requires.can)

-- a word that is put
put_seen : (p v : View) → p ≡ v → (s word : ℕ) (new : List ℕ) → new ≡ set p.words s word → record p { words = new } ≡ after v s word
put_seen p v same s word new is = ap (λ (ws : List ℕ). let u : View = record p { words = ws } in u) is ∙ ap (λ (u : View). after u s word) same

pub returns-clause-written : goal.returns-clause-written
returns-clause-written c = put_seen (view_of c.self.inside.parts) c.args.self.now c.self.view_is c.args.start c.args.header.0 c.put.new.self c.put.ensures

pub invariant_of-self : goal.invariant_of-self
invariant_of-self c =
    let v = c.args.self.now in
    let whole : IsWhole v = subst (λ (u : View). IsWhole u) c.self.view_is c.self.invariant.whole in
    parts_same c.self.inside.parts c.self.invariant v (headed_at v whole c.args.start c.requires.there c.args.header.0 c.requires.can) c.self.view_is c.put.new.self (returns-clause-written c)
    (headed_whole v whole c.args.start c.requires.there c.args.header.0 c.requires.can) (headed_tables v whole c.args.start c.requires.there c.args.header.0 c.requires.can)
    (headed_noted v whole c.args.start c.requires.there c.args.header.0 c.requires.can)

pub returns-clause-graph : goal.returns-clause-graph
returns-clause-graph c =
    let whole : IsWhole c.args.self.now = subst (λ (v : View). IsWhole v) c.self.view_is c.self.invariant.whole in
    ap heap_graph (returns-clause-written c) ∙ headed_graph c.args.self.now whole c.args.start c.requires.there c.args.header.0 c.requires.can

pub returns-clause-room : goal.returns-clause-room
returns-clause-room c =
    let whole : IsWhole c.args.self.now = subst (λ (v : View). IsWhole v) c.self.view_is c.self.invariant.whole in
    ap heap_room (returns-clause-written c) ∙ headed_room c.args.self.now whole c.args.start c.requires.there c.args.header.0 c.requires.can

pub returns-clause-values : goal.returns-clause-values
returns-clause-values c u =
    let whole : IsWhole c.args.self.now = subst (λ (v : View). IsWhole v) c.self.view_is c.self.invariant.whole in
    ap (λ (v : View). heap_value v u) (returns-clause-written c) ∙ headed_value c.args.self.now whole c.args.start c.requires.there c.args.header.0 c.requires.can u

pub returns-clause-goods : goal.returns-clause-goods
returns-clause-goods c u =
    let whole : IsWhole c.args.self.now = subst (λ (v : View). IsWhole v) c.self.view_is c.self.invariant.whole in
    ap (λ (v : View). is_good v u) (returns-clause-written c) ∙ headed_good c.args.self.now whole c.args.start c.requires.there c.args.header.0 c.requires.can u

pub returns-clause-ordinary : goal.returns-clause-ordinary
returns-clause-ordinary c t =
    let whole : IsWhole c.args.self.now = subst (λ (v : View). IsWhole v) c.self.view_is c.self.invariant.whole in
    ap (λ (v : View). is_ordinary (store_of v) t) (returns-clause-written c) ∙ headed_ordinary c.args.self.now whole c.args.start c.requires.there c.args.header.0 c.requires.can t
