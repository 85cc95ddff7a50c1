use Rattle.std.proofs.Common.{◌≡◌, ℕ, true, false, ◌+◌, ◌<◌, ◌≤◌, List, length, refl, sym, ap, ◌∙◌, subst, arith}
use Rattle.std.proofs.lemmas.Bool.{false≢true, and_parts}
use Rattle.spur_graph.specs.Heaps.{View, IsWhole, chunks_of, heap_to, is_remembered}
use Rattle.heap_cells.proofs.Cutting.{start-in}
use Rattle.heap_cells.proofs.Members.{listed}
use Rattle.remembered_set.specs.Starts.{Table}
use Rattle.spur_heap.specs.declared.heap.HeapParts.{HeapParts}
use Rattle.spur_heap.specs.Parts.{view_of, is_noted, HasRemembered}
use Rattle.spur_heap.specs.Remembering.{CanNote, noted_by}
use Rattle.spur_heap.specs.Tables.{IsTableOf}
use Rattle.spur_heap.specs.Words.{starts_at}
use Rattle.spur_heap.proofs.Hops.{start_at}
use Rattle.spur_heap.proofs.Noted.{passed, not_passed, passed_table, all_passed, can_note_in, noted_starts, table_same}
use Rattle.spur_heap.proofs.Puts.{whole_sound}
use Rattle.spur_heap.proofs.remembering.remember_anew.Goals as goal

-- the parts `p` with a table that has what was passed before `at`
module _ (p q : HeapParts) (whole : IsWhole (view_of p)) (at : ℕ) (table : IsTableOf (passed (view_of p) (length p.region) at) (length p.region) q.remembered) (rest : q ≡ record p { remembered = q.remembered }) where
  abbrev v : View
  v = view_of p

  same : view_of q ≡ v
  same = ap view_of rest

  -- what is remembered stands in old space
  low : (t : ℕ) → is_noted v t ≡ true → t < p.old_end
  low t on =
      let b = and_parts (starts_at v t) (is_remembered p.region t) on in
      let d = start-in heap_to p.region (chunks_of v) t b.0 in
      let l = (whole.remembered.only d.0 (listed (chunks_of v) d.0 d.1) (ap (is_remembered p.region) d.2 ∙ b.1)).0 in
      omega (arith, l, d.2)

  -- the next start
  module _ (s : ℕ) (from : at ≤ s) (there : starts_at (view_of q) s ≡ true) (first : (k : ℕ) → at ≤ k → k < s → starts_at (view_of q) k ≡ false) where
    starts : starts_at v s ≡ true
    starts = ap (λ (u : View). starts_at u s) (sym same) ∙ there

    below : s < length p.region
    below = let b = (start_at v (whole_sound v whole) s starts).below in omega (arith, b)

    can : CanNote q s
    can = subst (λ (r : HeapParts). CanNote r s) (sym rest)
        (can_note_in (record p { remembered = q.remembered }) (whole_sound v whole) (passed v (length p.region) at) table (λ t on. noted_starts v t (and_parts _ (is_noted v t) on).1) s starts
        (λ off. not_passed v (length p.region) at s from starts (λ k a b. ap (λ (u : View). starts_at u k) (sym same) ∙ first k a b)))

    module _ (r : HeapParts) (is : r ≡ record q { remembered = noted_by (is_remembered q.region s) s q.remembered }) where
      table_is : r.remembered ≡ noted_by (is_remembered p.region s) s q.remembered
      table_is = ap (λ (x : HeapParts). x.remembered) is ∙ ap (λ (x : HeapParts). noted_by (is_remembered x.region s) s q.remembered) rest

      next_table : IsTableOf (passed v (length p.region) (s + 1)) (length p.region) r.remembered
      next_table = subst (λ (t : Table). IsTableOf (passed v (length p.region) (s + 1)) (length p.region) t) (sym table_is)
          (passed_table v (length p.region) at s from starts (λ k a b. ap (λ (u : View). starts_at u k) (sym same) ∙ first k a b) q.remembered table)

      next_rest : r ≡ record p { remembered = r.remembered }
      next_rest =
          is ∙ ap (λ (x : HeapParts). let y : HeapParts = record x { remembered = noted_by (is_remembered q.region s) s q.remembered } in y) rest
          ∙ ap (λ (t : Table). let y : HeapParts = record p { remembered = t } in y) (sym (ap (λ (x : HeapParts). x.remembered) is))

  all : ((k : ℕ) → at ≤ k → k < q.old_end → k < length q.region → starts_at (view_of q) k ≡ false) → HasRemembered q
  all none = subst (λ (r : HeapParts). HasRemembered r) (sym rest) (record {
    table = table_same (all_passed v (length p.region) at (λ k ahead on.
        let starts = noted_starts v k on in
        let b = (start_at v (whole_sound v whole) k starts).below in
        let inside : k < length q.region = let e : length q.region ≡ length p.region = ap (λ (r : HeapParts). length r.region) rest in omega (arith, b, e) in
        let old : k < q.old_end = let l = low k on in let e : q.old_end ≡ p.old_end = ap (λ (r : HeapParts). r.old_end) rest in omega (arith, l, e) in
        false≢true (sym (none k ahead old inside) ∙ ap (λ (u : View). starts_at u k) same ∙ starts))) refl table;
  })

pub note_marked-requires-clause-can : goal.note_marked-requires-clause-can
note_marked-requires-clause-can c =
    let i = c.starts.invariant in
    can c.args.parts.now c.starts.parts c.requires.whole c.starts.at i.table i.rest c.in-Some.start c.in-Some.ensures.found.0 c.in-Some.ensures.found.1 c.in-Some.ensures.first

pub overflow_add-at : goal.overflow_add-at
overflow_add-at c =
    let i = c.starts.invariant in
    let low = below c.args.parts.now c.starts.parts c.requires.whole c.starts.at i.table i.rest c.in-Some.start c.in-Some.ensures.found.0 c.in-Some.ensures.found.1 c.in-Some.ensures.first in
    let few = c.requires.whole.few in
    omega (arith, low, few)

pub starts-smaller : goal.starts-smaller
starts-smaller c =
    let i = c.starts.invariant in
    let low = below c.args.parts.now c.starts.parts c.requires.whole c.starts.at i.table i.rest c.in-Some.start c.in-Some.ensures.found.0 c.in-Some.ensures.found.1 c.in-Some.ensures.first in
    let from = c.in-Some.ensures.found.0 in
    omega (arith, low, from)

pub starts-preserved : goal.starts-preserved
starts-preserved c =
    let i = c.starts.invariant in
    let p = c.args.parts.now in
    let q = c.starts.parts in
    let e = c.in-Some.ensures in
    record {
      inside = let low = below p q c.requires.whole c.starts.at i.table i.rest c.in-Some.start e.found.0 e.found.1 e.first in omega (arith, low);
      table = next_table p q c.requires.whole c.starts.at i.table i.rest c.in-Some.start e.found.0 e.found.1 e.first c.note_marked.new.parts c.note_marked.ensures;
      rest = next_rest p q c.requires.whole c.starts.at i.table i.rest c.in-Some.start e.found.0 e.found.1 e.first c.note_marked.new.parts c.note_marked.ensures;
    }

pub returns-clause-table : goal.returns-clause-table
returns-clause-table c =
    let i = c.starts.invariant in
    all c.args.parts.now c.starts.parts c.requires.whole c.starts.at i.table i.rest c.in_default.ensures.none
