use Rattle.std.proofs.Common.{◌≡◌, ℕ, Bool, List, [], ◌++◌, map, ◌<◌, ◌∙◌, subst, arith, refl}
use Rattle.heap_walk.specs.Starts.{has_start}
use Rattle.planning_compactor.specs.Spans.{Move}
use Rattle.heap_walk.specs.declared.saved.Saved.{Saved}
use Rattle.planning_compactor.specs.Planning.{AreLaid, IsPlan, IsIn, left, move_of}
use Rattle.planning_compactor.specs.Objects.{IsPass, goes_to}
use Rattle.planning_compactor.specs.Roots.{roots_of}
use Rattle.planning_compactor.proofs.Rises.{left-rises}
use Rattle.planning_compactor.proofs.Joins.{compacting-more, gets-on}
use Rattle.planning_compactor.proofs.Composed.{roots-none, roots-then}
use Rattle.planning_compactor.proofs.Starting.{plan-first, compacting-first, first-left, compacted}
use Rattle.planning_compactor.proofs.parts.compact_part.Goals as goal

pub passes-init : goal.passes-init
passes-init c =
    let has = has_start c.args.starts.now in
    let words = c.args.words.now in
    let all : List Move = left has words c.args.part.low c.args.part.low c.args.part.low c.args.part.end in
    record {
      same = (refl, refl, omega arith);
      covers = refl;
      same_words = refl;
      same_table = refl;
      laid = c.requires.laid;
      objects = c.requires.objects;
      plan = plan-first has words c.args.part.low c.args.part.end c.args.table.now c.requires.laid;
      so_far = ([], (λ t. t), compacting-first all has words c.args.part.low c.args.part.end c.args.part.low, roots-none (roots_of c.args.handles.now c.args.special.now c.args.mourners.now));
      roots = c.requires.roots;
    }

-- a pass over the range, with its ends named
named : (has has' : ℕ → Bool) (w w' : List ℕ) (es : List Saved) (lo en low end next pin finger next' pin' finger' : ℕ) → lo ≡ low → en ≡ end
    → IsPass (left has w next pin finger en) es has has' w w' lo en next' (left has' w' next' pin' finger' en) → IsPass (left has w next pin finger end) es has has' w w' low end next' (left has' w' next' pin' finger' end)
named has has' w w' es lo en low end next pin finger next' pin' finger' a b q =
    subst (λ y. IsPass (left has w next pin finger y) es has has' w w' low y next' (left has' w' next' pin' finger' y)) b (subst (λ x. IsPass (left has w next pin finger en) es has has' w w' x en next' (left has' w' next' pin' finger' en)) a q)

pub passes-smaller : goal.passes-smaller
passes-smaller c =
    let i = c.passes.invariant in
    let v = c.pass-count.ensures in
    let p = c.passes.plan in
    let n = c.pass-count.new.plan in
    let has = has_start c.passes.starts in
    let has' = has_start c.pass-count.new.starts in
    let has0 = has_start c.args.starts.now in
    let q = named has has' c.passes.words c.pass-count.new.words v.moved.0 p.low p.end c.args.part.low c.args.part.end p.next p.pin p.finger n.next n.pin n.finger i.same.0 i.same.1 v.moved.2 in
    let g = gets-on (left has0 c.args.words.now c.args.part.low c.args.part.low c.args.part.low c.args.part.end) i.so_far.0 (left has c.passes.words p.next p.pin p.finger c.args.part.end) (left has' c.pass-count.new.words n.next n.pin n.finger c.args.part.end) i.so_far.1 v.moved.0
    has0 has has' c.args.words.now c.passes.words c.pass-count.new.words c.args.part.low c.args.part.end p.next n.next v.same.2 i.so_far.2 q (left-rises has c.passes.words p.next p.pin p.finger c.args.part.end) i.laid
    (omega (arith, v.moved.1, c.if-count-table.false, v.same_table, i.same_table, c.requires.some)) in
    omega (arith, g.0, g.1)

pub passes-preserved : goal.passes-preserved
passes-preserved c =
    let i = c.passes.invariant in
    let v = c.pass-count.ensures in
    let p = c.passes.plan in
    let n = c.pass-count.new.plan in
    let has = has_start c.passes.starts in
    let has' = has_start c.pass-count.new.starts in
    let has0 = has_start c.args.starts.now in
    let w' = c.pass-count.new.words in
    let q = named has has' c.passes.words c.pass-count.new.words v.moved.0 p.low p.end c.args.part.low c.args.part.end p.next p.pin p.finger n.next n.pin n.finger i.same.0 i.same.1 v.moved.2 in
    let more = compacting-more (left has0 c.args.words.now c.args.part.low c.args.part.low c.args.part.low c.args.part.end) i.so_far.0 (left has c.passes.words p.next p.pin p.finger c.args.part.end) (left has' c.pass-count.new.words n.next n.pin n.finger c.args.part.end) i.so_far.1 v.moved.0
    has0 has has' c.args.words.now c.passes.words c.pass-count.new.words c.args.part.low c.args.part.end p.next n.next v.same.2 i.so_far.2 q (left-rises has c.passes.words p.next p.pin p.finger c.args.part.end) i.laid in
    record {
      same = (v.same.0 ∙ i.same.0, v.same.1 ∙ i.same.1, omega (arith, i.same.2, v.same.2));
      covers = v.covers ∙ i.covers;
      same_words = v.same_words ∙ i.same_words;
      same_table = v.same_table ∙ i.same_table;
      laid = subst (λ y. AreLaid has' w' c.args.part.low y) i.same.1 (subst (λ x. AreLaid has' w' x p.end) i.same.0 v.laid);
      objects = v.objects;
      plan = subst (λ y. IsPlan has' w' c.args.part.low y n.next n.pin n.finger c.pass-count.new.table 0) i.same.1 (subst (λ x. IsPlan has' w' x p.end n.next n.pin n.finger c.pass-count.new.table 0) i.same.0 v.plan);
      so_far = (i.so_far.0 ++ (q.stays ++ map move_of v.moved.0), (λ t. goes_to v.moved.0 (i.so_far.1 t)), more, roots-then i.so_far.1 (goes_to v.moved.0) i.so_far.3 v.moved.3);
      roots = v.roots;
    }

pub returns-then-count-table-clause-compacted : goal.returns-then-count-table-clause-compacted
returns-then-count-table-clause-compacted c =
    let i = c.passes.invariant in
    let v = c.pass-count.ensures in
    let p = c.passes.plan in
    let n = c.pass-count.new.plan in
    let has = has_start c.passes.starts in
    let has' = has_start c.pass-count.new.starts in
    let has0 = has_start c.args.starts.now in
    let w' = c.pass-count.new.words in
    let all : List Move = left has0 c.args.words.now c.args.part.low c.args.part.low c.args.part.low c.args.part.end in
    let q = named has has' c.passes.words c.pass-count.new.words v.moved.0 p.low p.end c.args.part.low c.args.part.end p.next p.pin p.finger n.next n.pin n.finger i.same.0 i.same.1 v.moved.2 in
    let more = compacting-more all i.so_far.0 (left has c.passes.words p.next p.pin p.finger c.args.part.end) (left has' c.pass-count.new.words n.next n.pin n.finger c.args.part.end) i.so_far.1 v.moved.0
    has0 has has' c.args.words.now c.passes.words c.pass-count.new.words c.args.part.low c.args.part.end p.next n.next v.same.2 i.so_far.2 q (left-rises has c.passes.words p.next p.pin p.finger c.args.part.end) i.laid in
    let done : (s : ℕ) → IsIn has' c.args.part.low c.args.part.end s → s < n.next = λ s k. v.done (omega (arith, c.if-count-table.true, v.same_table)) s (k.0, omega (arith, k.1, i.same.0), omega (arith, k.2, i.same.1)) in (
      (λ t. goes_to v.moved.0 (i.so_far.1 t)),
      compacted all (i.so_far.0 ++ (q.stays ++ map move_of v.moved.0)) (λ t. goes_to v.moved.0 (i.so_far.1 t)) has0 has' c.args.words.now w' c.args.part.low c.args.part.end n.next n.pin n.finger more
          (first-left has0 c.args.words.now c.args.part.low c.args.part.end c.requires.laid) done (omega (arith, i.same.2, v.same.2)),
      roots-then i.so_far.1 (goes_to v.moved.0) i.so_far.3 v.moved.3,
    )
