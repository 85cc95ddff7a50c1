use Rattle.std.proofs.Common.{◌≡◌, ◌≤◌, ℕ, Bool, ◌+◌, ◌-◌, List, ◌++◌, take, drop, length, refl, sym, ap, ◌∙◌, subst, arith}
use Rattle.std.specs.Prelude.{slice_range}
use Rattle.std.specs.List.{refill}
use Rattle.std.specs.Vec.{with_items, with_items_from}
use Rattle.object_header.specs.Chunks.{row}
use Rattle.heap_walk.specs.Starts.{has_start}
use Rattle.spur_words.specs.Lending.{with_run}
use Rattle.spur_heap.specs.Mourning.{left}
use Rattle.compaction_laws.specs.Compacting.{IsFull, free_count, pinned_count}
use Rattle.planning_compactor.specs.Planning.{AreLaid}
use Rattle.planning_compactor.specs.Roots.{RootsMovedBy, roots_of}
use Rattle.planning_compactor.specs.Filled.{IsCut}
use Rattle.planning_compactor.specs.Compacted.{AreCompacted}
use Rattle.planning_compactor.proofs.Lent.{drop-behind, items-behind, items-long, lent-whole, region-lent, run-behind, run-whole}
use Rattle.planning_compactor.proofs.heap.compact_ranges.Goals as goal

pub returns : goal.returns
returns c =
    let e = c.compact_words.ensures in
    let p = c.args.parts.now in
    let goes : ℕ → ℕ = e.compacted.0 in
    let roots = e.compacted.2 in
    let taken = c.requires.taken in
    let has : ℕ → Bool = has_start c.compact_words.new.starts in
    let old_space = c.args.ranges.old_space in
    let eden = c.args.ranges.eden in
    let past = c.args.ranges.past_space in
    let words : c.window_mut.result.now ≡ p.region = c.window_mut.ensures.value ∙ ap (λ n. slice_range p.region 0 (0 + n)) c.len-words.ensures ∙ run-whole p.region in
    let left-is : c.slice_mut.result.now ≡ left p = c.slice_mut.ensures.value ∙ run-behind p.mourners p.mourned in
    let region : refill (length p.region) p.region (with_run p.region 0 c.compact_words.new.words) ≡ c.compact_words.new.words =
    region-lent p.region c.compact_words.new.words (e.compacted.1.moved.same_words ∙ ap (λ (ws : List ℕ). length ws) words) in
    let handles : refill (length p.handles.words) p.handles.words c.compact_words.new.handles ≡ c.compact_words.new.handles =
    lent-whole p.handles.words c.compact_words.new.handles (roots.same_handles ∙ ap (λ (ws : List ℕ). length ws) c.words_mut.ensures.value) in
    let many : length c.compact_words.new.mourners ≡ length (left p) = roots.same_mourners ∙ ap (λ (ws : List ℕ). length ws) left-is in
    let items = items-behind p.mourners c.compact_words.new.mourners p.mourned taken many in
    let mourners : drop p.mourned (with_items_from p.mourners p.mourned c.compact_words.new.mourners).items ≡ c.compact_words.new.mourners =
    ap (drop p.mourned) items ∙ drop-behind p.mourners.items c.compact_words.new.mourners p.mourned taken in
    let moved : AreCompacted goes (has_start p.starts) has p.region c.compact_words.new.words c.args.ranges =
    subst (λ ws. AreCompacted goes (has_start p.starts) has ws c.compact_words.new.words c.args.ranges) words e.compacted.1 in
    let named : RootsMovedBy goes (roots_of p.handles.words p.special (left p)) (roots_of c.compact_words.new.handles c.compact_words.new.special c.compact_words.new.mourners) =
    subst (λ hs. RootsMovedBy goes (roots_of hs p.special (left p)) (roots_of c.compact_words.new.handles c.compact_words.new.special c.compact_words.new.mourners)) c.words_mut.ensures.value
    (subst (λ ms. RootsMovedBy goes (roots_of c.words_mut.result.now p.special ms) (roots_of c.compact_words.new.handles c.compact_words.new.special c.compact_words.new.mourners)) left-is roots) in
    record {
      covers = e.covers;
      cut = subst (λ ws. IsCut has ws old_space.low old_space.end) (sym region) e.cut;
      laid = subst (λ ws. AreLaid has ws old_space.low old_space.end) (sym region) e.laid;
      few = subst (λ ws. free_count has (row ws old_space.low old_space.end) ≤ pinned_count has ws (row ws old_space.low old_space.end) + 1) (sym region) e.few;
      eden = subst (λ ws. IsFull has ws eden.low eden.end c.compact_words.result.eden) (sym region) e.eden;
      past_space = subst (λ ws. IsFull has ws past.low past.end c.compact_words.result.past_space) (sym region) e.past_space;
      order = e.order;
      goes = goes;
      compacted = subst (λ ws. AreCompacted goes (has_start p.starts) has p.region ws c.args.ranges) (sym region) moved;
      roots = subst (λ hs. RootsMovedBy goes (roots_of p.handles.words p.special (left p)) (roots_of hs c.compact_words.new.special (drop p.mourned (with_items_from p.mourners p.mourned c.compact_words.new.mourners).items))) (sym handles)
          (subst (λ ms. RootsMovedBy goes (roots_of p.handles.words p.special (left p)) (roots_of c.compact_words.new.handles c.compact_words.new.special ms)) (sym mourners) named);
      handles = refl;
      mourners = items-long p.mourners (take p.mourned p.mourners.items ++ (c.compact_words.new.mourners ++ drop (length c.compact_words.new.mourners) (drop p.mourned p.mourners.items)));
      places = refl;
      saved = items-long p.saved c.compact_words.new.table;
      rest = refl;
    }
