use Rattle.std.proofs.Common.{◌≡◌, ◌<◌, ℕ, ◌+◌, ◌-◌, List, length, map, slice_index_or, slice_set, swap_remove, ◌∙◌, ap, arith}
use Rattle.std.proofs.lemmas.List.{length-map, get_or_default}
use Rattle.spur_graph.specs.Graph.{Handle}
use Rattle.handle_table.specs.declared.index.Held.{Held}
use Rattle.handle_table.specs.Slots.{key_of, key_at, slot_at, blank, IsIndex}
use Rattle.handle_table.proofs.Held.{index_left, apart_left, same_keys, same_apart, whole}
use Rattle.handle_table.proofs.SwapRemove.{map-swap_remove}
use Rattle.handle_table.proofs.index.Index.leave.Goals as goal

pub close_gap-requires : goal.close_gap-requires
close_gap-requires c =
    let held : List Held = c.self.inside.held.items in
    let slots : List ℕ = c.self.inside.slots.items in
    let n : ℕ = c.in_ok-n.n in
    let gone : Held = c.swap_remove.result in
    let long : length (map key_of held) ≡ length held = length-map held key_of in
    let same : length (map key_of held) ≡ length c.args.self.now = ap length c.self.view_is in
    let within : n < length held = omega (arith, c.in_ok-n.ensures.found.within) in
    let read : c.index.result.now ≡ slice_index_or held n c.index.result.now = c.index.ensures in
    let slot_is : c.index.result.now.slot ≡ slot_at held n = ap (λ (h : Held). h.slot) (read ∙ get_or_default held n c.index.result.now blank within) in
    let end : c.len-last.result - 1 ≡ length held - 1 = omega (arith, c.len-last.ensures) in
    let read_last : c.index-2.result.now ≡ slice_index_or held (c.len-last.result - 1) c.index-2.result.now = c.index-2.ensures in
    let last_slot_is : c.index-2.result.now.slot ≡ slot_at held (length held - 1) =
    ap (λ (h : Held). h.slot) (read_last ∙ get_or_default held (c.len-last.result - 1) c.index-2.result.now blank (omega arith)) ∙ ap (slot_at held) end in
    let slots_are : c.as_mut_slice.result.now ≡ slice_set (slice_set slots c.index-2.result.now.slot (n + 1)) c.index.result.now.slot 0 = c.as_mut_slice.ensures.value in
    let held_are : c.as_mut_slice-2.result.now ≡ swap_remove held n gone = c.as_mut_slice-2.ensures.value ∙ c.swap_remove.ensures.items in
    rw (slots_are, held_are, slot_is, last_slot_is) (index_left slots held n gone c.self.invariant.0 within)

pub invariant_of-self : goal.invariant_of-self
invariant_of-self c =
    let held : List Held = c.self.inside.held.items in
    let n : ℕ = c.in_ok-n.n in
    let gone : Held = c.swap_remove.result in
    let left : List Held = swap_remove held n gone in
    let long : length (map key_of held) ≡ length held = length-map held key_of in
    let same : length (map key_of held) ≡ length c.args.self.now = ap length c.self.view_is in
    let within : n < length held = omega (arith, c.in_ok-n.ensures.found.within) in
    let held_are : c.as_mut_slice-2.result.now ≡ left = c.as_mut_slice-2.ensures.value ∙ c.swap_remove.ensures.items in
    let size : length c.close_gap.new.held ≡ length left = c.close_gap.auto.held ∙ ap length held_are in
    let keys : (m : ℕ) → key_at c.close_gap.new.held m ≡ key_at left m = λ m. c.close_gap.ensures.keys m ∙ ap (λ (hs : List Held). key_at hs m) held_are in
    let index : IsIndex c.close_gap.new.slots c.close_gap.new.held = record {
      indexed = c.close_gap.ensures.indexed;
      apart = same_apart left c.close_gap.new.held size keys (apart_left c.self.inside.slots.items held n gone c.self.invariant.0 within);
    } in
    let slots_size : length c.close_gap.new.slots ≡ c.self.inside.slots.len = c.close_gap.auto.slots ∙ c.as_mut_slice.ensures.len in
    let held_size : length c.close_gap.new.held ≡ c.swap_remove.new.self.len = c.close_gap.auto.held ∙ c.as_mut_slice-2.ensures.len in
    let written : List ℕ = slice_set (slice_set c.self.inside.slots.items c.index-2.result.now.slot (n + 1)) c.index.result.now.slot 0 in
    (rw (whole c.self.inside.slots.len c.close_gap.new.slots written slots_size, whole c.swap_remove.new.self.len c.close_gap.new.held c.swap_remove.new.self.items held_size) index, omega (arith, c.swap_remove.ensures.capacity, c.self.invariant.1))

pub returns-clause-left : goal.returns-clause-left
returns-clause-left c =
    let held : List Held = c.self.inside.held.items in
    let n : ℕ = c.in_ok-n.n in
    let gone : Held = c.swap_remove.result in
    let left : List Held = swap_remove held n gone in
    let handle : Handle = (c.args.mutator, c.args.name.now.bytes) in
    let long : length (map key_of held) ≡ length held = length-map held key_of in
    let same : length (map key_of held) ≡ length c.args.self.now = ap length c.self.view_is in
    let within : n < length held = omega (arith, c.in_ok-n.ensures.found.within) in
    let held_are : c.as_mut_slice-2.result.now ≡ left = c.as_mut_slice-2.ensures.value ∙ c.swap_remove.ensures.items in
    let size : length c.close_gap.new.held ≡ length left = c.close_gap.auto.held ∙ ap length held_are in
    let keys : (m : ℕ) → key_at c.close_gap.new.held m ≡ key_at left m = λ m. c.close_gap.ensures.keys m ∙ ap (λ (hs : List Held). key_at hs m) held_are in
    let kept : map key_of c.close_gap.new.held ≡ map key_of left = same_keys left c.close_gap.new.held size keys in
    let moved : map key_of left ≡ swap_remove c.args.self.now n handle = map-swap_remove key_of held n gone handle within ∙ ap (λ (hs : List Handle). swap_remove hs n handle) c.self.view_is in
    let held_size : length c.close_gap.new.held ≡ c.swap_remove.new.self.len = c.close_gap.auto.held ∙ c.as_mut_slice-2.ensures.len in
    ap (map key_of) (whole c.swap_remove.new.self.len c.close_gap.new.held c.swap_remove.new.self.items held_size) ∙ kept ∙ moved
