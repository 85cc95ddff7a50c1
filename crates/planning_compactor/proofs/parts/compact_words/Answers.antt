use Rattle.heap_walk.specs.Starts.{has_start}
use Rattle.planning_compactor.proofs.Counts.{few-free}
use Rattle.planning_compactor.proofs.Wholes.{twice-moved, filled-compacted, filled-laid, filled-packed, filled-twice, eden-mobile, past-mobile}
use Rattle.planning_compactor.proofs.Fulls.{is-full}
use Rattle.planning_compactor.proofs.parts.compact_words.Goals as goal

pub fill_gaps-requires-clause-twice : goal.fill_gaps-requires-clause-twice
fill_gaps-requires-clause-twice c =
    let v = c.compact_parts.ensures.compacted in
    twice-moved v.0 (has_start c.args.starts.now) (has_start c.compact_parts.new.starts) c.args.words.now c.compact_parts.new.words v.1.moved c.requires.twice

pub last_end-eden-requires-clause-laid : goal.last_end-eden-requires-clause-laid
last_end-eden-requires-clause-laid c =
    let v = c.compact_parts.ensures in
    filled-laid v.objects v.old_space.0 c.fill_gaps.ensures.filled c.args.parts.eden.low c.args.parts.eden.end v.eden.0

pub last_end-past_space-requires-clause-laid : goal.last_end-past_space-requires-clause-laid
last_end-past_space-requires-clause-laid c =
    let v = c.compact_parts.ensures in
    filled-laid v.objects v.old_space.0 c.fill_gaps.ensures.filled c.args.parts.past_space.low c.args.parts.past_space.end v.past_space.0

pub returns-clause-few : goal.returns-clause-few
returns-clause-few c =
    let v = c.compact_parts.ensures in
    few-free c.fill_gaps.ensures.cut (filled-packed v.objects v.old_space.0 c.fill_gaps.ensures.filled c.args.parts.old_space.low c.args.parts.old_space.end v.old_space.1)

pub returns-clause-eden : goal.returns-clause-eden
returns-clause-eden c =
    let v = c.compact_parts.ensures in
    let f = c.fill_gaps.ensures.filled in
    let b = c.args.parts.eden in
    let d = c.requires.order in
    let t = twice-moved v.compacted.0 (has_start c.args.starts.now) (has_start c.compact_parts.new.starts) c.args.words.now c.compact_parts.new.words v.compacted.1.moved c.requires.twice in
    let m = eden-mobile (filled-compacted v.objects v.old_space.0 f v.compacted.1) d.0 d.1 c.requires.eden.whole.0 c.requires.mobile.0 in
    is-full (filled-laid v.objects v.old_space.0 f b.low b.end v.eden.0) c.last_end-eden.ensures (filled-packed v.objects v.old_space.0 f b.low b.end v.eden.1) m (filled-twice v.objects v.old_space.0 f t)

pub returns-clause-past_space : goal.returns-clause-past_space
returns-clause-past_space c =
    let v = c.compact_parts.ensures in
    let f = c.fill_gaps.ensures.filled in
    let b = c.args.parts.past_space in
    let d = c.requires.order in
    let t = twice-moved v.compacted.0 (has_start c.args.starts.now) (has_start c.compact_parts.new.starts) c.args.words.now c.compact_parts.new.words v.compacted.1.moved c.requires.twice in
    let m = past-mobile (filled-compacted v.objects v.old_space.0 f v.compacted.1) d.0 d.1 c.requires.eden.whole.0 c.requires.mobile.1 in
    is-full (filled-laid v.objects v.old_space.0 f b.low b.end v.past_space.0) c.last_end-past_space.ensures (filled-packed v.objects v.old_space.0 f b.low b.end v.past_space.1) m (filled-twice v.objects v.old_space.0 f t)

pub returns-clause-compacted : goal.returns-clause-compacted
returns-clause-compacted c =
    let v = c.compact_parts.ensures in
    (v.compacted.0, filled-compacted v.objects v.old_space.0 c.fill_gaps.ensures.filled v.compacted.1, v.compacted.2)

pub returns-clause-laid : goal.returns-clause-laid
returns-clause-laid c =
    let v = c.compact_parts.ensures in
    filled-laid v.objects v.old_space.0 c.fill_gaps.ensures.filled c.args.parts.old_space.low c.args.parts.old_space.end v.old_space.0
