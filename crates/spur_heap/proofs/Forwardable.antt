-- What is asked of an object that becomes a forwarder, in terms of the store.
use Rattle.std.proofs.Common.{◌≡◌, ◌≢◌, ℕ, true, false, cond, not, ◌&&◌, ◌||◌, ◌<◌, eqb, List, map, refl, sym, ap, ◌∙◌, subst, arith, inl, inr, Some, None}
use Rattle.std.proofs.lemmas.Bool.{false≢true, cases_eq, eq-eqb, ne_eqb, ltb-true, and_parts, or_parts}
use Rattle.std.specs.List.{Contains}
use Rattle.std.specs.FinMap.{get}
use Rattle.spur_graph.specs.declared.answer.Value.TheVariants.{Ref}
use Rattle.spur_graph.specs.Node.{Node}
use Rattle.spur_graph.specs.Graph.{node, waiting}
use Rattle.spur_graph.specs.Instances.{is_entry, has_entered}
use Rattle.spur_graph.specs.Refusals.{is_special, waits}
use Rattle.spur_graph.specs.Cells.{Store, first, final, lead}
use Rattle.spur_graph.specs.Ordinary.{class_limit, is_at, body_at, is_ordinary, has_page, entry, has_entry, is_no_index, is_entered}
use Rattle.spur_graph.specs.CellGraph.{has_class}
use Rattle.spur_graph.specs.Heaps.{View, IsWhole, store_of, heap_graph, heap_value, waiting_in}
use Rattle.heap_cells.proofs.AddedRoom.{any-has}
use Rattle.heap_cells.proofs.Below.{at-named}
use Rattle.heap_cells.proofs.Forwarding.{Forwards}
use Rattle.heap_cells.proofs.ForwardedSound.{MayMourn}
use Rattle.heap_cells.proofs.Members.{in_list}
use Rattle.heap_cells.proofs.WholeClosed.{waiting_renamed}
use Rattle.spur_heap.specs.Views.{IsOrdinary}
use Rattle.spur_heap.specs.Forwarders.{KeepsClass, KeepsMourner}
use Rattle.spur_heap.proofs.ClassValues.{class_found}
use Rattle.spur_heap.proofs.Hops.{start_at}
use Rattle.spur_heap.proofs.Lone.{led_value}
use Rattle.spur_heap.proofs.NodesAt.{node_there}
use Rattle.spur_heap.proofs.Puts.{whole_sound, fields_are}

-- what the call asks
pub record CanLead (v : View) (a b : ℕ) : Type 0 where
  pub from : IsOrdinary v a
  pub to : IsOrdinary v b
  pub apart : a ≢ b
  pub plain : is_special (heap_graph v) a ≡ false
  pub class : KeepsClass v a b
  pub mourner : KeepsMourner v a b

-- an index that a class can have is not 0
index_some : (i : ℕ) → not (is_no_index i) ≡ true → i ≢ 0
index_some i on e = false≢true (sym (ap (λ n. not (is_no_index n)) e) ∙ on)

module _ (v : View) (whole : IsWhole v) where
  abbrev h : Store
  h = store_of v

  -- an entered class of the store that is not nil is one of the graph
  pub entered_named : (s : ℕ) → IsOrdinary v s → s ≢ first h 0 → is_entered h s ≡ true → has_entered (heap_graph v) s ≡ true
  unfolding is_entered
  entered_named s there other on =
      let i : ℕ = (body_at h s).hash in
      let parts = and_parts (is_ordinary h s && not (is_no_index i)) (has_entry h i s) on in
      let some = index_some i (and_parts (is_ordinary h s) (not (is_no_index i)) parts.0).1 in
      let named = and_parts (has_page h i) (is_at s (lead h (entry h i))) parts.1 in
      let low : i < class_limit = ltb-true i class_limit (and_parts _ _ named.0).0 in
      let leads : lead h (entry h i) ≡ Some s = at-named s (lead h (entry h i)) named.1 in
      let has : has_class h i ≡ true = (λ x. named.0 x && not (is_at (first h 0) (leads x))) ∙ ap not (ne_eqb s (first h 0) other) in
      let found : get (heap_graph v).classes i ≡ Some (Ref s) = class_found v whole i low ∙ ap (λ c. cond c (Some (heap_value v (entry h i))) None) has ∙ ap (λ x. Some x) (led_value v (entry h i) s there leads) in
      let hash : (node (heap_graph v) s).hash ≡ i = ap (λ (n : Node). n.hash) (node_there v s there) ∙ (fields_are v whole s there).hash in
      ap (λ j. not (eqb j 0) && is_entry s (get (heap_graph v).classes j)) hash ∙ (λ x. not (ne_eqb i 0 some x) && is_entry s (found x)) ∙ eq-eqb s s refl

  module _ (a b : ℕ) (can : CanLead v a b) where
    plain : (j : ℕ) → j < 3 → a ≢ first h j
    plain j l e =
        let parts = or_parts (eqb a (first h 0) || eqb a (first h 1)) (eqb a (first h 2)) can.plain in
        let early = or_parts (eqb a (first h 0)) (eqb a (first h 1)) parts.0 in
        elim (cases_eq j 0) [
          | inl at_nil ↦ false≢true (sym early.0 ∙ eq-eqb a (first h 0) (e ∙ ap (first h) at_nil))
          | inr m ↦ elim (cases_eq j 1) [
            | inl at_false ↦ false≢true (sym early.1 ∙ eq-eqb a (first h 1) (e ∙ ap (first h) at_false))
            | inr n ↦ false≢true (sym parts.1 ∙ eq-eqb a (first h 2) (e ∙ ap (first h) (let last : j ≡ 2 = omega (arith, l, m, n) in last)))
          ]
        ]

    pub forwards : Forwards h a b
    forwards = record {
      sound = whole.sound;
      below = λ t on. let low = (start_at v (whole_sound v whole) t on).below in omega (arith, low);
      from = can.from;
      to = can.to;
      apart = can.apart;
      plain = plain;
      classed = λ on.
          let c = can.class (entered_named a can.from (plain 0 (omega arith)) on) in
          (sym (fields_are v whole b can.to).hash ∙ c.0 ∙ (fields_are v whole a can.from).hash, c.1);
    }

    -- whoever waits in the graph is where a mourner leads
    mourns : (t : ℕ) → Contains (map (final h) (waiting_in v.mourners)) t → waits (heap_graph v) t ≡ true
    mourns t m =
        let same : waiting (heap_graph v) ≡ map (final h) (waiting_in v.mourners) = waiting_renamed (final h) v.mourners in
        any-has (eqb t) (waiting (heap_graph v)) t (in_list (waiting (heap_graph v)) t (subst (λ (ts : List ℕ). Contains ts t) (sym same) m)) (eq-eqb t t refl)

    pub may_mourn : MayMourn h v.mourners a b
    may_mourn = record {
      fired = λ m. sym (fields_are v whole b can.to).format ∙ (can.mourner (mourns a m)).0;
      alone = λ m n. false≢true (sym (can.mourner (mourns a m)).1 ∙ mourns b n);
    }
