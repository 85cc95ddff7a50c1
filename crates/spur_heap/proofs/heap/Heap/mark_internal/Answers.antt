use Rattle.std.proofs.Common.{◌≡◌, ◌+◌, ℕ, Bool, suc, eqb, ap, ◌∙◌, subst, arith}
use Rattle.spur_graph.specs.Cells.{Store, first}
use Rattle.spur_graph.specs.Ordinary.{page_places, is_internal}
use Rattle.spur_graph.specs.Heaps.{View, store_of}
use Rattle.spur_heap.specs.MarkBits.{MarksThose, is_page_of, is_internal_below}
use Rattle.spur_heap.proofs.InternalMarked.{marks_then, marks_as, internal_none, internal_more, internal_all}
use Rattle.spur_heap.proofs.heap.Heap.mark_internal.Goals as goal

-- what is marked of one heap, said of the store of another that has the same
of_store : (test : Store → ℕ → Bool) (h k : Store) (u v : View) → h ≡ k → MarksThose (test h) u v → MarksThose (test k) u v
of_store test h k u v same m = subst (λ (x : Store). MarksThose (test x) u v) same m

pub places-init : goal.places-init
places-init c =
    let u = c.args.self.now in
    let v = c.mark_first.new.self in
    let w = c.mark_first-2.new.self in
    let roots = of_store (λ h s. eqb s (first h 4)) (store_of v) (store_of u) v w c.mark_first.ensures.store c.mark_first-2.ensures in
    record { marks = marks_then (λ s. eqb s (first (store_of u) 3)) (λ s. eqb s (first (store_of u) 4)) (is_internal_below (store_of u) 0) u v w c.mark_first.ensures roots (internal_none (store_of u)) }

pub places-preserved : goal.places-preserved
places-preserved c =
    let u = c.args.self.now in
    let v = c.places.self in
    let w = c.mark_page.new.self in
    let n : ℕ = c.places.place in
    let marks = c.places.invariant.marks in
    let page = of_store (λ h. is_page_of h n) (store_of v) (store_of u) v w marks.store c.mark_page.ensures in
    let one : suc n ≡ n + 1 = omega arith in
    record {
      marks = subst (λ k. MarksThose (is_internal_below (store_of u) k) u w) one
          (marks_then (is_internal_below (store_of u) n) (is_page_of (store_of u) n) (is_internal_below (store_of u) (suc n)) u v w marks page (internal_more (store_of u) n));
    }

-- behind the last place all are marked
all : (c : goal.After-places) → MarksThose (is_internal (store_of c.args.self.now)) c.args.self.now c.places.self
all c =
    let u = c.args.self.now in
    let v = c.places.self in
    let end : page_places ≡ c.places.place = omega arith in
    marks_as (is_internal_below (store_of u) c.places.place) (is_internal (store_of u)) u v c.places.invariant.marks (λ s. internal_all (store_of u) s ∙ ap (λ n. is_internal_below (store_of u) n s) end)

pub returns-clause-inner : goal.returns-clause-inner
returns-clause-inner c = (all c).inner

pub returns-clause-others : goal.returns-clause-others
returns-clause-others c = (all c).others
