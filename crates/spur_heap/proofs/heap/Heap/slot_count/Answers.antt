use Rattle.std.proofs.Common.{◌≡◌, List, ℕ, length, ap, sym, ◌∙◌, subst}
use Rattle.object_header.specs.Chunks.{StandsAt, slots_at}
use Rattle.spur_graph.specs.Heaps.{View, IsWhole}
use Rattle.heap_cells.proofs.ObjectReads.{object-slots}
use Rattle.spur_heap.specs.Views.{IsOrdinary}
use Rattle.spur_heap.specs.Words.{body_in}
use Rattle.spur_heap.proofs.Orders.{order}
use Rattle.spur_heap.proofs.Puts.{whole_sound, object}
use Rattle.spur_heap.proofs.SlotCounts.{at_start}
use Rattle.spur_heap.proofs.SpotsAt.{spot_anew, young_spot}
use Rattle.spur_heap.proofs.heap.Heap.slot_count.Goals as goal

pub slots_of-requires : goal.slots_of-requires
slots_of-requires c =
    let v : View = c.args.self.now in
    let whole : IsWhole v = subst (λ (u : View). IsWhole u) c.self.view_is c.self.invariant.whole in
    let words = c.as_slice.ensures ∙ ap (λ (u : View). u.words) c.self.view_is in
    subst (λ (ws : List ℕ). StandsAt ws c.args.start) (sym words) (at_start v (whole_sound v whole) c.args.start (object v whole c.args.start c.requires.there))

-- the slots that were read
told : (v : View) → IsWhole v → (s : ℕ) → IsOrdinary v s → (words : List ℕ) → words ≡ v.words → (n : ℕ) → n ≡ slots_at words s → n ≡ length (body_in v s).words
told v whole s there words same n is = is ∙ ap (λ (ws : List ℕ). slots_at ws s) same ∙ sym (object-slots _ v.words _ (order v (whole_sound v whole)) s (object v whole s there))

pub returns-clause-slots : goal.returns-clause-slots
returns-clause-slots c =
    let v : View = c.args.self.now in
    let whole : IsWhole v = subst (λ (u : View). IsWhole u) c.self.view_is c.self.invariant.whole in
    told v whole c.args.start c.requires.there c.as_slice.result.now (c.as_slice.ensures ∙ ap (λ (u : View). u.words) c.self.view_is) c.slots_of.result c.slots_of.ensures.value

pub returns-clause-spot : goal.returns-clause-spot
returns-clause-spot c =
    let v : View = c.args.self.now in
    let whole : IsWhole v = subst (λ (u : View). IsWhole u) c.self.view_is c.self.invariant.whole in
    spot_anew v whole c.args.start c.requires.there c.slots_of.result (returns-clause-slots c)

pub returns-clause-young : goal.returns-clause-young
returns-clause-young c =
    let v : View = c.args.self.now in
    let whole : IsWhole v = subst (λ (u : View). IsWhole u) c.self.view_is c.self.invariant.whole in
    young_spot v whole c.args.start c.requires.there c.slots_of.result (returns-clause-slots c)
