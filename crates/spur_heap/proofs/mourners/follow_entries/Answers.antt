use Rattle.std.proofs.Common.{◌≡◌, ℕ, true, ◌+◌, ◌<◌, ◌≤◌, ◌^◌, length, get_or, set, sym, ap, ◌∙◌, subst, arith, inl, inr}
use Rattle.std.proofs.lemmas.Bool.{cases_eq}
use Rattle.std.proofs.lemmas.List.{length-set, get_or-set_same, get_or-set_other, get_or_default}
use Rattle.std.specs.Vec.{with_item}
use Rattle.spur_graph.specs.Cells.{final}
use Rattle.spur_graph.specs.Heaps.{HasFired, store_of}
use Rattle.heap_cells.proofs.CellKinds.{there_starts}
use Rattle.heap_cells.proofs.References.{ordinary_there}
use Rattle.spur_heap.specs.declared.heap.HeapParts.{HeapParts}
use Rattle.spur_heap.specs.Tables.{begins, start_in}
use Rattle.spur_heap.specs.Parts.{view_of, ArePartsOfHeap}
use Rattle.spur_heap.specs.Words.{starts_at}
use Rattle.spur_heap.specs.Following.{FollowsEntry, FollowsEntries}
use Rattle.spur_heap.proofs.Hops.{start_at}
use Rattle.spur_heap.proofs.Mourned.{fired_starts, left_fired}
use Rattle.spur_heap.proofs.Puts.{whole_sound}
use Rattle.spur_heap.proofs.mourners.follow_entries.Goals as goal

-- the next entry
module _ (p q : HeapParts) (i : ℕ) (k : ArePartsOfHeap p) (t : FollowsEntries i p q) (from : p.mourned ≤ i) (to : i < length p.mourners.items) (entry : ℕ) (read : entry ≡ get_or q.mourners.items i entry) where
  same_store : store_of (view_of q) ≡ store_of (view_of p)
  same_store = ap (λ (r : HeapParts). store_of (view_of r)) t.changes.rest

  inside : i < length q.mourners.items
  inside = let long = t.long in omega (arith, to, long)

  entry_is : entry ≡ get_or p.mourners.items i 0
  entry_is = read ∙ get_or_default q.mourners.items i entry 0 inside ∙ t.others i (omega arith)

  fired : HasFired (store_of (view_of p)) (start_in entry)
  fired = subst (λ e. HasFired (store_of (view_of p)) (start_in e)) (sym entry_is) (left_fired p k i from to)

  starts : (start : ℕ) → start ≡ start_in entry → starts_at (view_of q) start ≡ true
  starts start is = ap (λ (r : HeapParts). starts_at (view_of r) start) t.changes.rest ∙ ap (starts_at (view_of p)) is ∙ fired_starts (view_of p) (whole_sound (view_of p) k.whole) (start_in entry) fired

  -- where it leads
  led : (start place : ℕ) → start ≡ start_in entry → place ≡ final (store_of (view_of q)) start → place ≡ final (store_of (view_of p)) (start_in entry)
  led start place is e = e ∙ (λ x. final (same_store x) (is x))

  below : (start place : ℕ) → start ≡ start_in entry → place ≡ final (store_of (view_of q)) start → place < 2 ^ 31
  below start place is e =
      let at = led start place is e in
      let low = (start_at (view_of p) (whole_sound (view_of p) k.whole) _ (there_starts _ (ordinary_there (store_of (view_of p)) _ fired.ordinary))).below in
      let few = k.whole.few in
      omega (arith, at, low, few)

  step : (start place word : ℕ) → start ≡ start_in entry → place ≡ final (store_of (view_of q)) start → start_in word ≡ place → begins word ≡ begins entry → FollowsEntries (i + 1) p (record q { mourners = with_item q.mourners i word })
  step start place word is e place_is group = record {
    changes = record {
      taken = let taken = t.changes.taken in let long = length-set q.mourners.items i word in omega (arith, taken, long);
      places = t.changes.places;
      rest = ap (λ (r : HeapParts). let u : HeapParts = record r { mourners = with_item q.mourners i word; mourned = q.mourned } in u) t.changes.rest;
    };
    mourned = t.mourned;
    long = length-set q.mourners.items i word ∙ t.long;
    entries = λ j first last. elim (cases_eq j i) [
      | inl same ↦ subst (λ n. FollowsEntry (view_of p) (get_or p.mourners.items n 0) (get_or (set q.mourners.items i word) n 0)) (sym same) here
      | inr other ↦ subst (λ w. FollowsEntry (view_of p) (get_or p.mourners.items j 0) w) (sym (get_or-set_other q.mourners.items i j word 0 other)) (t.entries j first (omega (arith, last, other)))
    ];
    others = λ j far. get_or-set_other q.mourners.items i j word 0 (λ same. omega (arith, far, same)) ∙ t.others j (omega (arith, far));
  }
    where
      here : FollowsEntry (view_of p) (get_or p.mourners.items i 0) (get_or (set q.mourners.items i word) i 0)
      here =
          let now : get_or (set q.mourners.items i word) i 0 ≡ word = get_or-set_same q.mourners.items i word 0 inside in
          record {
            starts = ap start_in now ∙ place_is ∙ led start place is e ∙ ap (λ w. final (store_of (view_of p)) (start_in w)) entry_is;
            group = ap begins now ∙ group ∙ ap begins entry_is;
          }

pub follow_start-start-requires-clause-there : goal.follow_start-start-requires-clause-there
follow_start-start-requires-clause-there c =
    starts c.args.parts.now c.entries.parts c.entries.i c.requires.heap c.entries.invariant c.entries.auto.i (omega (arith, c.entries-test.true, c.len-i-end.ensures)) c.index-entry.result.now c.index-entry.ensures c.start_of.result c.start_of.ensures

pub entry_of-requires : goal.entry_of-requires
entry_of-requires c = record {
  below =
      below c.args.parts.now c.entries.parts c.entries.i c.requires.heap c.entries.invariant c.entries.auto.i (omega (arith, c.entries-test.true, c.len-i-end.ensures)) c.index-entry.result.now c.index-entry.ensures
      c.start_of.result c.follow_start-start.result c.start_of.ensures c.follow_start-start.ensures;
}

pub entries-preserved : goal.entries-preserved
entries-preserved c =
    step c.args.parts.now c.entries.parts c.entries.i c.requires.heap c.entries.invariant c.entries.auto.i (omega (arith, c.entries-test.true, c.len-i-end.ensures)) c.index-entry.result.now c.index-entry.ensures
    c.start_of.result c.follow_start-start.result c.entry_of.result c.start_of.ensures c.follow_start-start.ensures c.entry_of.ensures.start c.entry_of.ensures.begins

pub returns : goal.returns
returns c =
    let t = c.entries.invariant in
    let stop = c.entries-test.false in
    let count = c.len-i-end.ensures in
    let taken = c.requires.heap.tables.taken in
    let most = c.entries.auto.i-end (omega (arith, taken, count)) in
    record {
      changes = t.changes;
      mourned = t.mourned;
      long = t.long;
      entries = λ j first last. t.entries j first (omega (arith, last, stop, count));
      others = λ j far. t.others j (omega (arith, far, most, count));
    }
