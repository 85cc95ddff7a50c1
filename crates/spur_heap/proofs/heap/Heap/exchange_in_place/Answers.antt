use Rattle.std.proofs.Common.{◌≡◌, ℕ, true, ◌&&◌, ◌||◌, eqb, List, length, get_or, refl, ap, sym, ◌∙◌, subst}
use Rattle.spur_graph.specs.Heaps.{View, IsWhole, heap_value, heap_graph, heap_room}
use Rattle.spur_heap.specs.declared.heap.HeapParts.{HeapParts}
use Rattle.spur_heap.specs.Parts.{view_of, is_noted, ArePartsOfHeap}
use Rattle.spur_heap.specs.Remembering.{CanNote, must_with, noted}
use Rattle.spur_heap.specs.Words.{starts_at}
use Rattle.spur_heap.specs.Swaps.{AreAlike, exchanged_words}
use Rattle.spur_heap.specs.Views.{IsOrdinary, IsGood}
use Rattle.spur_heap.proofs.Noted.{table_same, twice_table, can_note_twice}
use Rattle.spur_heap.proofs.Puts.{whole_sound, start_there}
use Rattle.spur_heap.proofs.Tables.{parts_with, can_note_at}
use Rattle.spur_heap.proofs.Exchangeable.{are_alike, has_exchanged}
use Rattle.spur_heap.proofs.heap.Heap.exchange_in_place.Goals as goal

-- the parts where the place `a` is in the table, if it has to be remembered with the contents of `b`
abbrev noting : HeapParts → ℕ → ℕ → HeapParts
noting p a b = record p { remembered = noted (view_of p) (must_with (view_of p) a b) a p.remembered }

noted_twice : (p q r : HeapParts) (a b : ℕ) → q ≡ noting p a b → r ≡ noting q b a → r ≡ noting (noting p a b) b a
noted_twice p q r a b first second = second ∙ ap (λ (x : HeapParts). noting x b a) first

twice_seen : (p q r : HeapParts) (a b : ℕ) → q ≡ noting p a b → r ≡ noting q b a → view_of r ≡ view_of p
twice_seen p q r a b first second = ap view_of (noted_twice p q r a b first second)

pub note_with-requires-clause-can : goal.note_with-requires-clause-can
note_with-requires-clause-can c =
    let whole : IsWhole c.args.self.now = subst (λ (v : View). IsWhole v) c.self.view_is c.self.invariant.whole in
    can_note_at c.self.inside.parts c.self.invariant c.args.self.now c.self.view_is c.args.a (start_there c.args.self.now whole c.args.a c.requires.first)

pub note_with-requires-2-clause-can : goal.note_with-requires-2-clause-can
note_with-requires-2-clause-can c =
    let p = c.self.inside.parts in
    let whole : IsWhole c.args.self.now = subst (λ (v : View). IsWhole v) c.self.view_is c.self.invariant.whole in
    let at : (s : ℕ) → IsOrdinary c.args.self.now s → starts_at (view_of p) s ≡ true = λ s there. ap (λ (v : View). starts_at v s) c.self.view_is ∙ start_there c.args.self.now whole s there in
    subst (λ (q : HeapParts). CanNote q c.args.b) (sym c.note_with.ensures)
    (can_note_twice p (whole_sound (view_of p) c.self.invariant.whole) c.self.invariant.remembered c.args.a c.args.b (at c.args.a c.requires.first) (at c.args.b c.requires.second) c.requires.can.apart
    (must_with (view_of p) c.args.a c.args.b))

pub exchange_contents-requires-clause-alike : goal.exchange_contents-requires-clause-alike
exchange_contents-requires-clause-alike c =
    let whole : IsWhole c.args.self.now = subst (λ (v : View). IsWhole v) c.self.view_is c.self.invariant.whole in
    let seen = twice_seen c.self.inside.parts c.note_with.new.parts c.note_with-2.new.parts c.args.a c.args.b c.note_with.ensures c.note_with-2.ensures in
    subst (λ (v : View). AreAlike v.words c.args.a c.args.b) (sym (seen ∙ c.self.view_is)) (are_alike c.args.self.now whole c.args.a c.args.b c.requires.first c.requires.second c.requires.can)

-- the parts then, by the words that are written
exchanged_rest : (p q r then : HeapParts) (a b : ℕ) → q ≡ noting p a b → r ≡ noting q b a → then ≡ record r { region = exchanged_words (view_of r) a b }
    → then ≡ record (noting (noting p a b) b a) { region = exchanged_words (view_of p) a b }
exchanged_rest p q r then a b first second is = is ∙ ap (λ (x : HeapParts). let y : HeapParts = record x { region = exchanged_words (view_of x) a b } in y) (noted_twice p q r a b first second)

rest_of : (c : goal.After-exchange_contents) → c.exchange_contents.new.parts ≡ record (noting (noting c.self.inside.parts c.args.a c.args.b) c.args.b c.args.a) { region = exchanged_words (view_of c.self.inside.parts) c.args.a c.args.b }
rest_of c = exchanged_rest c.self.inside.parts c.note_with.new.parts c.note_with-2.new.parts c.exchange_contents.new.parts c.args.a c.args.b c.note_with.ensures c.note_with-2.ensures c.exchange_contents.ensures

-- the heap then
exchanged_seen : (p : HeapParts) (v : View) → view_of p ≡ v → (a b : ℕ) (q : HeapParts) → q ≡ record (noting (noting p a b) b a) { region = exchanged_words (view_of p) a b } → view_of q ≡ record v { words = exchanged_words v a b }
exchanged_seen p v same a b q is = ap view_of is ∙ ap (λ (u : View). let w : View = record u { words = exchanged_words u a b } in w) same

pub invariant_of-self : goal.invariant_of-self
invariant_of-self c =
    let v = c.args.self.now in
    let whole : IsWhole v = subst (λ (u : View). IsWhole u) c.self.view_is c.self.invariant.whole in
    let k = has_exchanged v whole c.args.a c.args.b c.requires.first c.requires.second c.requires.can in
    let p = c.self.inside.parts in
    let new : List ℕ = exchanged_words (view_of p) c.args.a c.args.b in
    let seen = ap view_of (sym (rest_of c)) ∙ exchanged_seen p v c.self.view_is c.args.a c.args.b c.exchange_contents.new.parts (rest_of c) in
    let at : (s : ℕ) → IsOrdinary v s → starts_at (view_of p) s ≡ true = λ s there. ap (λ (x : View). starts_at x s) c.self.view_is ∙ start_there v whole s there in
    let table = twice_table (view_of p) (length p.region) p.remembered c.self.invariant.remembered.table c.args.a c.args.b (at c.args.a c.requires.first) (at c.args.b c.requires.second) c.requires.can.apart
    (must_with (view_of p) c.args.a c.args.b) (must_with (view_of p) c.args.b c.args.a) in
    subst (λ (q : HeapParts). ArePartsOfHeap q) (sym (rest_of c))
    (parts_with p c.self.invariant v (record v { words = exchanged_words v c.args.a c.args.b }) c.self.view_is new _ seen k.whole k.tables
    (table_same (λ t. k.notes t ∙ ap (λ (x : View). (is_noted x t || (must_with x c.args.a c.args.b && eqb t c.args.a)) || (must_with x c.args.b c.args.a && eqb t c.args.b)) (sym c.self.view_is)) refl table))

pub returns-clause-graph : goal.returns-clause-graph
returns-clause-graph c =
    let whole : IsWhole c.args.self.now = subst (λ (u : View). IsWhole u) c.self.view_is c.self.invariant.whole in
    let k = has_exchanged c.args.self.now whole c.args.a c.args.b c.requires.first c.requires.second c.requires.can in
    ap heap_graph (exchanged_seen c.self.inside.parts c.args.self.now c.self.view_is c.args.a c.args.b c.exchange_contents.new.parts (rest_of c)) ∙ k.graph

pub returns-clause-room : goal.returns-clause-room
returns-clause-room c =
    let whole : IsWhole c.args.self.now = subst (λ (u : View). IsWhole u) c.self.view_is c.self.invariant.whole in
    let k = has_exchanged c.args.self.now whole c.args.a c.args.b c.requires.first c.requires.second c.requires.can in
    ap heap_room (exchanged_seen c.self.inside.parts c.args.self.now c.self.view_is c.args.a c.args.b c.exchange_contents.new.parts (rest_of c)) ∙ k.room

pub returns-clause-values : goal.returns-clause-values
returns-clause-values c w =
    let whole : IsWhole c.args.self.now = subst (λ (u : View). IsWhole u) c.self.view_is c.self.invariant.whole in
    let k = has_exchanged c.args.self.now whole c.args.a c.args.b c.requires.first c.requires.second c.requires.can in
    ap (λ (u : View). heap_value u w) (exchanged_seen c.self.inside.parts c.args.self.now c.self.view_is c.args.a c.args.b c.exchange_contents.new.parts (rest_of c)) ∙ k.values w

pub returns-clause-goods : goal.returns-clause-goods
returns-clause-goods c w on =
    let whole : IsWhole c.args.self.now = subst (λ (u : View). IsWhole u) c.self.view_is c.self.invariant.whole in
    let k = has_exchanged c.args.self.now whole c.args.a c.args.b c.requires.first c.requires.second c.requires.can in
    let seen = exchanged_seen c.self.inside.parts c.args.self.now c.self.view_is c.args.a c.args.b c.exchange_contents.new.parts (rest_of c) in
    subst (λ (u : View). IsGood u w) (sym seen) (k.goods w on)

pub returns-clause-ordinary : goal.returns-clause-ordinary
returns-clause-ordinary c s on =
    let whole : IsWhole c.args.self.now = subst (λ (u : View). IsWhole u) c.self.view_is c.self.invariant.whole in
    let k = has_exchanged c.args.self.now whole c.args.a c.args.b c.requires.first c.requires.second c.requires.can in
    let seen = exchanged_seen c.self.inside.parts c.args.self.now c.self.view_is c.args.a c.args.b c.exchange_contents.new.parts (rest_of c) in
    subst (λ (u : View). IsOrdinary u s) (sym seen) (k.ordinary s on)

pub returns-clause-others : goal.returns-clause-others
returns-clause-others c j p q =
    let whole : IsWhole c.args.self.now = subst (λ (u : View). IsWhole u) c.self.view_is c.self.invariant.whole in
    let k = has_exchanged c.args.self.now whole c.args.a c.args.b c.requires.first c.requires.second c.requires.can in
    ap (λ (u : View). get_or u.words j 0) (exchanged_seen c.self.inside.parts c.args.self.now c.self.view_is c.args.a c.args.b c.exchange_contents.new.parts (rest_of c)) ∙ k.others j p q
