use Rattle.std.proofs.Common.{◌≡◌, ℕ, Bool, true, ◌<◌, ap, ◌∙◌, arith, length, List}
use Rattle.heap_walk.specs.Starts.{has_start}
use Rattle.planning_compactor.proofs.Walks.{stands-now, table-now, apart-now, fits-now, named-now, heads-now, walk-more}
use Rattle.planning_compactor.proofs.Cursors.{between-bounds, kept-of, before-next, ahead-next, few-next, walk-end}
use Rattle.heap_walk.specs.declared.saved.Saved.{Saved}
use Rattle.planning_compactor.specs.Entries.{start_of}
use Rattle.planning_compactor.specs.Readdressed.{CanReaddress, Readdressed}
use Rattle.planning_compactor.proofs.slots.readdress.Goals as goal

pub readdress_object-requires-clause-stands : goal.readdress_object-requires-clause-stands
readdress_object-requires-clause-stands c =
    stands-now (has_start c.args.starts.now) c.args.table.now c.objects.table c.args.words.now c.objects.words c.args.low c.args.high c.objects.at c.requires.can c.objects.invariant.part c.in-Some.start c.in-Some.ensures.found.2

pub readdress_object-requires-clause-table : goal.readdress_object-requires-clause-table
readdress_object-requires-clause-table c =
    table-now (has_start c.args.starts.now) c.args.table.now c.objects.table c.args.words.now c.objects.words c.args.low c.args.high c.objects.at c.requires.can c.objects.invariant.part

entries-now : (has : ℕ → Bool) (es es' : List Saved) (words words' : List ℕ) (low high at : ℕ) → CanReaddress has es words low high → Readdressed has es es' words words' low high at → (m : ℕ) → m < length es' → has (start_of es' m) ≡ true
entries-now has es es' words words' low high at c r m l = let k : m < length es = omega (arith, l, r.same_table) in ap has (r.starts m k) ∙ c.entries m k

pub readdress_object-requires-clause-kept : goal.readdress_object-requires-clause-kept
readdress_object-requires-clause-kept c =
    let h = has_start c.args.starts.now in
    let v = c.objects.invariant in
    kept-of h c.objects.table c.objects.words c.objects.at c.objects.k c.in-Some.start (readdress_object-requires-clause-table c)
    (entries-now h c.args.table.now c.objects.table c.args.words.now c.objects.words c.args.low c.args.high c.objects.at c.requires.can v.part)
    v.before v.ahead c.in-Some.ensures.found.0 c.in-Some.ensures.first c.kept_at-kept.result c.kept_at-kept.ensures.is c.kept_at-kept.ensures.none

pub readdress_object-requires-clause-apart : goal.readdress_object-requires-clause-apart
readdress_object-requires-clause-apart c =
    apart-now (has_start c.args.starts.now) c.args.table.now c.objects.table c.args.words.now c.objects.words c.args.low c.args.high c.objects.at c.requires.can c.objects.invariant.part c.in-Some.start c.in-Some.ensures.found.2 c.in-Some.ensures.found.0

pub readdress_object-requires-clause-fits : goal.readdress_object-requires-clause-fits
readdress_object-requires-clause-fits c =
    fits-now (has_start c.args.starts.now) c.args.table.now c.objects.table c.args.words.now c.objects.words c.args.low c.args.high c.objects.at c.requires.can c.objects.invariant.part c.in-Some.start c.in-Some.ensures.found.2 c.in-Some.ensures.found.0

pub readdress_object-requires-clause-named : goal.readdress_object-requires-clause-named
readdress_object-requires-clause-named c =
    named-now (has_start c.args.starts.now) c.args.table.now c.objects.table c.args.words.now c.objects.words c.args.low c.args.high c.objects.at c.requires.can c.objects.invariant.part c.in-Some.start c.in-Some.ensures.found.2 c.in-Some.ensures.found.0
    (between-bounds c.args.low c.args.high)

pub readdress_object-requires-clause-heads : goal.readdress_object-requires-clause-heads
readdress_object-requires-clause-heads c =
    heads-now (has_start c.args.starts.now) c.args.table.now c.objects.table c.args.words.now c.objects.words c.args.low c.args.high c.objects.at c.requires.can c.objects.invariant.part c.in-Some.start c.in-Some.ensures.found.2 c.in-Some.ensures.found.0

pub objects-preserved : goal.objects-preserved
objects-preserved c =
    let h = has_start c.args.starts.now in
    let v = c.objects.invariant in
    let s : ℕ = c.in-Some.start in
    let f = c.in-Some.ensures.found in
    let t = table-now h c.args.table.now c.objects.table c.args.words.now c.objects.words c.args.low c.args.high c.objects.at c.requires.can v.part in
    let e = entries-now h c.args.table.now c.objects.table c.args.words.now c.objects.words c.args.low c.args.high c.objects.at c.requires.can v.part in
    let r = walk-more h c.args.table.now c.objects.table c.args.words.now c.objects.words c.args.low c.args.high c.objects.at c.requires.can v.part s f.2 f.0 c.readdress_object.new.table c.readdress_object.new.words
    (between-bounds c.args.low c.args.high) c.in-Some.ensures.first c.readdress_object.ensures in
    let k = c.kept_at-kept.ensures in
    let n = c.after_entry-k.ensures in
    let q = c.readdress_object.ensures in
    let few = few-next h c.objects.table c.objects.words c.objects.at c.objects.k s t e v.before v.ahead f.0 c.in-Some.ensures.first c.kept_at-kept.result c.after_entry-k.result v.few n.some n.none in
    let before = before-next h c.objects.table c.objects.words c.objects.at c.objects.k s t e v.before v.ahead f.0 c.in-Some.ensures.first c.kept_at-kept.result c.after_entry-k.result k.is k.none n.some n.none in
    let ahead = ahead-next h c.objects.table c.objects.words c.objects.at c.objects.k s t e v.before v.ahead f.0 c.in-Some.ensures.first c.kept_at-kept.result c.after_entry-k.result k.is k.none n.some n.none in
    record {
      order = omega (arith, f.1, c.requires.covers, r.same_words);
      part = r;
      before = λ m l b. let is = q.starts m (omega (arith, b, q.same_table)) in let z = before m l (omega (arith, b, q.same_table)) in omega (arith, is, z);
      ahead = λ m l b. let is = q.starts m (omega (arith, b, q.same_table)) in let z = ahead m l (omega (arith, b, q.same_table)) in omega (arith, is, z);
      few = few;
    }

pub returns : goal.returns
returns c =
    let v = c.objects.invariant in
    walk-end (has_start c.args.starts.now) c.args.table.now c.objects.table c.args.words.now c.objects.words c.args.low c.args.high c.objects.at c.requires.can v.part (omega (arith, v.order, v.part.same_words))
    (λ j l m. c.in_default.ensures.none j l (omega (arith, m, c.requires.covers)))
