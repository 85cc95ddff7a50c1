use Rattle.std.proofs.Common.{◌≤◌, arith, inl, inr}
use Rattle.planning_compactor.proofs.Composed.{roots-then}
use Rattle.planning_compactor.proofs.Besides.{laid-beside, packed-beside}
use Rattle.planning_compactor.proofs.Packing.{packed-after}
use Rattle.planning_compactor.proofs.Threes.{three}
use Rattle.planning_compactor.proofs.parts.compact_parts.Goals as goal

pub compact_part-requires-2-clause-laid : goal.compact_part-requires-2-clause-laid
compact_part-requires-2-clause-laid c =
    let v = c.compact_part.ensures in
    laid-beside v.compacted.1 c.args.parts.eden.low c.args.parts.eden.end (inl c.requires.order.0) v.laid c.requires.eden

pub compact_part-requires-3-clause-laid : goal.compact_part-requires-3-clause-laid
compact_part-requires-3-clause-laid c =
    let v = c.compact_part.ensures in
    let u = c.compact_part-2.ensures in
    let d = c.requires.order in
    let w = c.requires.eden.whole.0 in
    let once = laid-beside v.compacted.1 c.args.parts.past_space.low c.args.parts.past_space.end (inl (omega (arith, d.0, d.1, w))) v.laid c.requires.past_space in
    laid-beside u.compacted.1 c.args.parts.past_space.low c.args.parts.past_space.end (inl d.1) u.laid once

pub returns-clause-old_space : goal.returns-clause-old_space
returns-clause-old_space c =
    let v = c.compact_part.ensures in
    let u = c.compact_part-2.ensures in
    let t = c.compact_part-3.ensures in
    let d = c.requires.order in
    let w = c.requires.eden.whole.0 in
    let a = c.args.parts.old_space in
    let far : a.end ≤ c.args.parts.past_space.low = omega (arith, d.0, d.1, w) in
    let once = laid-beside u.compacted.1 a.low a.end (inr d.0) u.laid v.laid in
    (laid-beside t.compacted.1 a.low a.end (inr far) t.laid once, packed-beside t.compacted.1 a.low a.end (inr far) (packed-beside u.compacted.1 a.low a.end (inr d.0) (packed-after c.requires.old_space v.compacted.1)))

pub returns-clause-eden : goal.returns-clause-eden
returns-clause-eden c =
    let v = c.compact_part.ensures in
    let u = c.compact_part-2.ensures in
    let t = c.compact_part-3.ensures in
    let d = c.requires.order in
    let b = c.args.parts.eden in
    let before = laid-beside v.compacted.1 b.low b.end (inl d.0) v.laid c.requires.eden in
    (laid-beside t.compacted.1 b.low b.end (inr d.1) t.laid u.laid, packed-beside t.compacted.1 b.low b.end (inr d.1) (packed-after before u.compacted.1))

pub returns-clause-past_space : goal.returns-clause-past_space
returns-clause-past_space c =
    let v = c.compact_part.ensures in
    let u = c.compact_part-2.ensures in
    let t = c.compact_part-3.ensures in
    let d = c.requires.order in
    let w = c.requires.eden.whole.0 in
    let b = c.args.parts.past_space in
    let once = laid-beside v.compacted.1 b.low b.end (inl (omega (arith, d.0, d.1, w))) v.laid c.requires.past_space in
    (t.laid, packed-after (laid-beside u.compacted.1 b.low b.end (inl d.1) u.laid once) t.compacted.1)

pub returns-clause-compacted : goal.returns-clause-compacted
returns-clause-compacted c =
    let v = c.compact_part.ensures in
    let u = c.compact_part-2.ensures in
    let t = c.compact_part-3.ensures in
    let d = c.requires.order in (
      (λ x. t.compacted.0 (u.compacted.0 (v.compacted.0 x))),
      three c.args.parts d.0 d.1 v.compacted.1 u.compacted.1 t.compacted.1 v.laid u.laid c.requires.past_space.whole.0,
      roots-then (λ x. u.compacted.0 (v.compacted.0 x)) t.compacted.0 (roots-then v.compacted.0 u.compacted.0 v.compacted.2 u.compacted.2) t.compacted.2,
    )
