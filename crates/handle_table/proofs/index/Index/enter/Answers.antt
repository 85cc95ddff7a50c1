use Rattle.std.proofs.Common.{◌≡◌, ◌≢◌, ◌<◌, ◌≤◌, ℕ, ◌+◌, List, [], ◌∷◌, ◌++◌, length, map, slice_set, ◌∙◌, ap, subst, refl, arith}
use Rattle.std.proofs.lemmas.List.{length-map, map-append}
use Rattle.spur_graph.specs.Graph.{Handle}
use Rattle.handle_table.specs.declared.index.Held.{Held}
use Rattle.handle_table.specs.Slots.{key_of, key_at, IsIndex, IsFreeFor, home_of}
use Rattle.handle_table.proofs.Held.{absent, distinct, index_entered}
use Rattle.handle_table.proofs.index.Index.enter.Goals as goal

pub returns-in-Ok-clause-distinct : goal.returns-in-Ok-clause-distinct
returns-in-Ok-clause-distinct c = distinct c.self.inside.held.items _ c.self.view_is c.self.invariant.0.apart

pub returns-then-len-eq-MOST_HANDLES-clause-distinct : goal.returns-then-len-eq-MOST_HANDLES-clause-distinct
returns-then-len-eq-MOST_HANDLES-clause-distinct c = distinct c.self.inside.held.items _ c.self.view_is c.self.invariant.0.apart

pub returns-else-len-eq-MOST_HANDLES-clause-distinct : goal.returns-else-len-eq-MOST_HANDLES-clause-distinct
returns-else-len-eq-MOST_HANDLES-clause-distinct c = distinct c.self.inside.held.items _ c.self.view_is c.self.invariant.0.apart

pub returns-then-len-eq-MOST_HANDLES-clause-enters : goal.returns-then-len-eq-MOST_HANDLES-clause-enters
returns-then-len-eq-MOST_HANDLES-clause-enters c =
    let handle : Handle = (c.args.mutator, c.args.name.bytes) in
    let held : List Held = c.self.inside.held.items in
    let view : map key_of c.as_slice-2.result.now ≡ c.args.self.now = ap (map key_of) c.as_slice-2.ensures.value ∙ c.self.view_is in
    let long : length (map key_of held) ≡ length held = length-map held key_of in
    let same : length (map key_of held) ≡ length c.args.self.now = ap length c.self.view_is in
    (absent c.as_slice-2.result.now c.args.self.now view handle c.in-Err.ensures.absent, omega (arith, c.len.ensures), refl)

pub invariant_of-self : goal.invariant_of-self
invariant_of-self c =
    let handle : Handle = (c.args.mutator, c.args.name.bytes) in
    let held : List Held = c.self.inside.held.items in
    let slots : List ℕ = c.self.inside.slots.items in
    let h : Held = record { mutator = c.args.mutator; name = c.args.name; slot = c.in-Err.slot } in
    let few : length held ≤ 65536 = c.self.invariant.0.indexed.paired.few in
    let below : length held < 65536 = omega (arith, c.len.ensures, c.if-len-eq-MOST_HANDLES.false) in
    let free : IsFreeFor slots (home_of handle) c.in-Err.slot = subst (λ (s : List ℕ). IsFreeFor s (home_of handle) c.in-Err.slot) c.as_slice.ensures.value c.in-Err.ensures.free in
    let new : (n : ℕ) → n < length held → key_at held n ≢ handle = subst (λ (hs : List Held). (n : ℕ) → n < length hs → key_at hs n ≢ handle) c.as_slice-2.ensures.value c.in-Err.ensures.absent in
    let index : IsIndex (slice_set slots c.in-Err.slot (length held + 1)) (held ++ h ∷ []) = index_entered slots held h c.in-Err.slot c.self.invariant.0 below free refl new in
    let count : c.len-in-Err.result ≡ length held + 1 = omega (arith, c.len-in-Err.ensures, c.push_reserved.ensures.len) in
    let items : c.push_reserved.new.self.items ≡ held ++ h ∷ [] = c.push_reserved.ensures.items in
    (rw (count, items) index, omega (arith, c.push_reserved.ensures.capacity, c.self.invariant.1))

pub returns-else-len-eq-MOST_HANDLES-clause-enters : goal.returns-else-len-eq-MOST_HANDLES-clause-enters
returns-else-len-eq-MOST_HANDLES-clause-enters c =
    let handle : Handle = (c.args.mutator, c.args.name.bytes) in
    let held : List Held = c.self.inside.held.items in
    let h : Held = record { mutator = c.args.mutator; name = c.args.name; slot = c.in-Err.slot } in
    let view : map key_of c.as_slice-2.result.now ≡ c.args.self.now = ap (map key_of) c.as_slice-2.ensures.value ∙ c.self.view_is in
    let few : length held ≤ 65536 = c.self.invariant.0.indexed.paired.few in
    let long : length (map key_of held) ≡ length held = length-map held key_of in
    let same : length (map key_of held) ≡ length c.args.self.now = ap length c.self.view_is in (
      absent c.as_slice-2.result.now c.args.self.now view handle c.in-Err.ensures.absent,
      omega (arith, c.len.ensures, c.if-len-eq-MOST_HANDLES.false),
      ap (map key_of) c.push_reserved.ensures.items ∙ map-append key_of held (h ∷ []) ∙ ap (λ (hs : List Handle). hs ++ handle ∷ []) c.self.view_is,
    )
