use Rattle.std.proofs.Common.{◌≡◌, ◌||◌, List, length, get_or, sym, ap, ◌∙◌, subst}
use Rattle.object_header.specs.Chunks.{Chunk, Cuts, row, starts_in}
use Rattle.heap_walk.specs.Starts.{has_start}
use Rattle.free_lists.specs.Runs.{cover}
use Rattle.free_lists.specs.Rows.{free_runs, rewritten}
use Rattle.free_lists.specs.Lists.{Lists}
use Rattle.spur_heap.specs.Counting.{count_new}
use Rattle.spur_heap.specs.declared.heap.HeapParts.{HeapParts}
use Rattle.spur_heap.specs.Parts.{view_of, ArePartsOfHeap}
use Rattle.spur_heap.specs.Views.{Adopts}
use Rattle.spur_heap.proofs.Adopted.{Makes, made_parts, made_adopts}
use Rattle.spur_heap.proofs.adopting.make_tables.Goals as goal

-- what the calls make, of the parts at entry
makes : (c : goal.After-rebuild) → Makes c.args.parts.now c.mark_internal.new.parts.starts c.enter_chunks-parts.new.starts c.enter_chunks-parts.result c.rebuild.new.self c.rebuild.new.region
makes c =
    let p : HeapParts = c.args.parts.now in
    let q : HeapParts = c.mark_internal.new.parts in
    let rest : q ≡ record p { starts = q.starts } = c.mark_internal.ensures.rest in
    let cs : List Chunk = row p.region 0 p.old_end in
    let new = c.rebuild.new.region in
    let cut : Cuts q.region 0 q.old_end cs = subst (λ (r : HeapParts). Cuts r.region 0 r.old_end cs) (sym rest) c.requires.whole.rows.old in
    let lists : Lists new c.rebuild.new.self (free_runs p.region cs) = subst (λ (r : HeapParts). Lists new c.rebuild.new.self (free_runs r.region cs)) rest (c.rebuild.ensures.rebuilt cs cut) in
    record {
      rebuilds = record {
        whole = c.requires.whole;
        eden = c.requires.no_eden;
        past = c.requires.no_past;
        long = c.rebuild.ensures.same_length ∙ ap (λ (r : HeapParts). length r.region) rest;
        row = subst (λ (r : HeapParts). Cuts new 0 r.old_end (rewritten r.region cs)) rest (c.rebuild.ensures.row cs cut);
        free = lists.chunks;
        others = λ j out.
            c.rebuild.ensures.others cs cut j (ap (λ (r : HeapParts). cover (free_runs r.region cs) j) rest ∙ out) ∙ ap (λ (r : HeapParts). get_or r.region j 0) rest;
      };
      internal = c.mark_internal.ensures.marks;
      starts = λ s. c.enter_chunks-parts.ensures.marks s ∙ ap (λ (r : HeapParts). has_start q.starts s || starts_in r.region (row r.region 0 r.old_end) s) rest;
      covers = c.enter_chunks-parts.ensures.covers ∙ ap (λ (r : HeapParts). length r.region) rest;
      count = c.enter_chunks-parts.ensures.counts ∙ ap (λ (r : HeapParts). count_new r.region q.starts (row r.region 0 r.old_end)) rest;
      lists = lists;
      remembered = c.requires.remembered;
      tables = c.requires.tables;
    }

pub returns-clause-heap : goal.returns-clause-heap
returns-clause-heap c =
    let starts = c.enter_chunks-parts.new.starts in
    let new = c.rebuild.new.region in
    subst (λ (r : HeapParts). ArePartsOfHeap (record r { starts = starts; objects = c.enter_chunks-parts.result; free = c.rebuild.new.self; region = new })) (sym c.mark_internal.ensures.rest) (made_parts (makes c))

pub returns-clause-adopts : goal.returns-clause-adopts
returns-clause-adopts c =
    let starts = c.enter_chunks-parts.new.starts in
    let new = c.rebuild.new.region in
    subst (λ (r : HeapParts). Adopts (view_of c.args.parts.now) (view_of (record r { starts = starts; objects = c.enter_chunks-parts.result; free = c.rebuild.new.self; region = new }))) (sym c.mark_internal.ensures.rest) (made_adopts (makes c))
