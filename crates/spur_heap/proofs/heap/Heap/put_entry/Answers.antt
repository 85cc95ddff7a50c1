use Rattle.std.proofs.Common.{◌≡◌, ◌+◌, ◌*◌, ◌/◌, ◌%◌, ◌<◌, ℕ, List, length, set, ap, sym, ◌∙◌, subst, arith}
use Rattle.spur_graph.specs.Ordinary.{root_slot}
use Rattle.spur_graph.specs.Heaps.{View, IsWhole, store_of, heap_value, heap_graph, heap_room}
use Rattle.spur_heap.specs.declared.heap.HeapParts.{HeapParts}
use Rattle.spur_heap.specs.Parts.{view_of, ArePartsOfHeap}
use Rattle.spur_heap.specs.Views.{IsOrdinary, IsGood}
use Rattle.spur_heap.specs.Entering.{CanEnter}
use Rattle.spur_heap.specs.Remembering.{must_remember, noted, remembered_for}
use Rattle.spur_heap.specs.Words.{starts_at}
use Rattle.spur_heap.proofs.Puts.{start_inside, whole_sound}
use Rattle.spur_heap.proofs.PageAt.{page_read, slot_inside}
use Rattle.spur_heap.proofs.Tables.{parts_noting, can_note_at}
use Rattle.spur_heap.proofs.Storing.{remembered_for_long, stored_seen}
use Rattle.spur_heap.proofs.EntryPut.{start_of_page, entered_at, entered_whole, entered_tables, entered_notes, page_starts, entered_ordinary_kept, entered_good, entered_value, entered_graph, entered_room}
use Rattle.spur_heap.proofs.heap.Heap.put_entry.Goals as goal

-- the word that was read names the page
page_at : (p v : View) → p ≡ v → (whole : IsWhole v) (index start : ℕ) (can : CanEnter v index start) (word : ℕ) → word ≡ root_slot (store_of p) (index / 1024) → word / 8 ≡ start_of_page v whole index start can
page_at p v same whole index start can word is = ap (λ w. w / 8) (is ∙ ap (λ (u : View). root_slot (store_of u) (index / 1024)) same) ∙ page_read v (whole_sound v whole) index can.below can.page

pub overflow_mul-word : goal.overflow_mul-word
overflow_mul-word c =
    let whole : IsWhole c.args.self.now = subst (λ (v : View). IsWhole v) c.self.view_is c.self.invariant.whole in
    let low = start_inside c.args.self.now whole c.args.start c.requires.can.there in
    let few = whole.few in
    omega (arith, low, few)

pub remember_for-requires : goal.remember_for-requires
remember_for-requires c =
    let whole : IsWhole c.args.self.now = subst (λ (v : View). IsWhole v) c.self.view_is c.self.invariant.whole in
    let at = page_at (view_of c.self.inside.parts) c.args.self.now c.self.view_is whole c.args.index c.args.start c.requires.can c.root_word.result c.root_word.ensures in
    record {
      can = can_note_at c.self.inside.parts c.self.invariant c.args.self.now c.self.view_is (c.root_word.result / 8)
          (ap (starts_at c.args.self.now) at ∙ page_starts c.args.self.now whole c.args.index c.args.start c.requires.can);
    }

pub put-requires : goal.put-requires
put-requires c =
    let whole : IsWhole c.args.self.now = subst (λ (v : View). IsWhole v) c.self.view_is c.self.invariant.whole in
    let at = page_at (view_of c.self.inside.parts) c.args.self.now c.self.view_is whole c.args.index c.args.start c.requires.can c.root_word.result c.root_word.ensures in
    let low = slot_inside c.args.self.now (whole_sound c.args.self.now whole) c.args.index c.requires.can.below c.requires.can.page in
    let long : length c.remember_for.new.parts.region ≡ length c.args.self.now.words =
    ap (λ (p : HeapParts). length p.region) c.remember_for.ensures ∙ remembered_for_long (view_of c.self.inside.parts) (c.root_word.result / 8) (8 * c.args.start) ∙ ap (λ (v : View). length v.words) c.self.view_is in
    omega (arith, at, low, long)

-- the parts once the page that starts there is remembered where it has to be
abbrev noting : HeapParts → ℕ → ℕ → HeapParts
noting p start t = record p { region = (remembered_for (view_of p) t (8 * start)).words; remembered = noted (view_of p) (must_remember (view_of p) t (8 * start)) t p.remembered }

-- what is seen of the parts then
seen : (p : HeapParts) (v : View) → view_of p ≡ v → (whole : IsWhole v) (index start : ℕ) (can : CanEnter v index start) (word : ℕ) → word ≡ root_slot (store_of (view_of p)) (index / 1024)
    → (q : HeapParts) → q ≡ noting p start (word / 8)
    → (new : List ℕ) → new ≡ set q.region (word / 8 + 1 + index % 1024) (8 * start) → view_of (record q { region = new }) ≡ entered_at v whole index start can
seen p v same whole index start can word word_is q is new new_is =
    let at = page_at (view_of p) v same whole index start can word word_is in
    stored_seen p v same (start_of_page v whole index start can) (index % 1024) (8 * start) q _ (is ∙ ap (noting p start) at) new
    (new_is ∙ ap (λ s. set q.region (s + 1 + index % 1024) (8 * start)) at)

-- the same of a call
seen_of : (c : goal.After-put) → view_of (record c.remember_for.new.parts { region = c.put.new.self })
    ≡ entered_at c.args.self.now (subst (λ (v : View). IsWhole v) c.self.view_is c.self.invariant.whole) c.args.index c.args.start c.requires.can
seen_of c =
    let whole : IsWhole c.args.self.now = subst (λ (v : View). IsWhole v) c.self.view_is c.self.invariant.whole in
    seen c.self.inside.parts c.args.self.now c.self.view_is whole c.args.index c.args.start c.requires.can c.root_word.result c.root_word.ensures c.remember_for.new.parts c.remember_for.ensures c.put.new.self c.put.ensures

pub invariant_of-self : goal.invariant_of-self
invariant_of-self c =
    let v = c.args.self.now in
    let whole : IsWhole v = subst (λ (u : View). IsWhole u) c.self.view_is c.self.invariant.whole in
    let new_seen = ap (λ (p : HeapParts). view_of (record p { region = c.put.new.self })) (sym c.remember_for.ensures) ∙ seen_of c in
    subst (λ (p : HeapParts). ArePartsOfHeap (record p { region = c.put.new.self })) (sym c.remember_for.ensures)
    (subst (λ t. ArePartsOfHeap (record c.self.inside.parts { region = c.put.new.self; remembered = noted (view_of c.self.inside.parts) (must_remember (view_of c.self.inside.parts) t (8 * c.args.start)) t c.self.inside.parts.remembered }))
    (sym (page_at (view_of c.self.inside.parts) v c.self.view_is whole c.args.index c.args.start c.requires.can c.root_word.result c.root_word.ensures))
    (parts_noting c.self.inside.parts c.self.invariant v (entered_at v whole c.args.index c.args.start c.requires.can) c.self.view_is c.put.new.self new_seen
    (entered_whole v whole c.args.index c.args.start c.requires.can) (entered_tables v whole c.args.index c.args.start c.requires.can)
    (λ (x : View). must_remember x (start_of_page v whole c.args.index c.args.start c.requires.can) (8 * c.args.start)) (start_of_page v whole c.args.index c.args.start c.requires.can) (page_starts v whole c.args.index c.args.start c.requires.can) (entered_notes v whole c.args.index c.args.start c.requires.can)))

pub returns-clause-graph : goal.returns-clause-graph
returns-clause-graph c =
    let whole : IsWhole c.args.self.now = subst (λ (v : View). IsWhole v) c.self.view_is c.self.invariant.whole in
    ap heap_graph (seen_of c) ∙ entered_graph c.args.self.now whole c.args.index c.args.start c.requires.can

pub returns-clause-room : goal.returns-clause-room
returns-clause-room c =
    let whole : IsWhole c.args.self.now = subst (λ (v : View). IsWhole v) c.self.view_is c.self.invariant.whole in
    ap heap_room (seen_of c) ∙ entered_room c.args.self.now whole c.args.index c.args.start c.requires.can

pub returns-clause-values : goal.returns-clause-values
returns-clause-values c w =
    let whole : IsWhole c.args.self.now = subst (λ (v : View). IsWhole v) c.self.view_is c.self.invariant.whole in
    ap (λ (v : View). heap_value v w) (seen_of c) ∙ entered_value c.args.self.now whole c.args.index c.args.start c.requires.can w

pub returns-clause-goods : goal.returns-clause-goods
returns-clause-goods c w good =
    let whole : IsWhole c.args.self.now = subst (λ (v : View). IsWhole v) c.self.view_is c.self.invariant.whole in
    subst (λ (v : View). IsGood v w) (sym (seen_of c)) (entered_good c.args.self.now whole c.args.index c.args.start c.requires.can w good)

pub returns-clause-ordinary : goal.returns-clause-ordinary
returns-clause-ordinary c t there =
    let whole : IsWhole c.args.self.now = subst (λ (v : View). IsWhole v) c.self.view_is c.self.invariant.whole in
    subst (λ (v : View). IsOrdinary v t) (sym (seen_of c)) (entered_ordinary_kept c.args.self.now whole c.args.index c.args.start c.requires.can t there)
